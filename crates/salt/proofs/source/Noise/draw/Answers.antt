-- Each turn passes over a group; the draw ends at the first admitted one, or past the last whole one.
-- Assumes nothing.
use Rattle.std.proofs.Common.{◌≡◌, ◌<◌, length, refl, ap, rules, arith, Ok, Err, Result}
use Rattle.std.specs.List.{IsSplitAt}
use Rattle.std.specs.Result.{IsErrAnd}
use Rattle.salt.specs.Draws.{group_size, FitWidth, FitBlocks}
use Rattle.salt.specs.declared.source.DrawFault.TheVariants.{NoNoise}
use Rattle.salt.proofs.Draws.{underway_on, underway_drawn, underway_end}
use Rattle.salt.proofs.source.Noise.draw.Goals as goal

failed : {T E : Type 0} {P : E → Type 0} (r : Result T E) (e : E) → IsErrAnd r P → ((x : E) → P x → x ≡ e) → r ≡ Err e
failed (Ok x) e h f = absurd h
failed (Err x) e h f = ap Err (f x h)

pub returns-in_err-group-clause-drawn : goal.returns-in_err-group-clause-drawn
returns-in_err-group-clause-drawn g c =
    let m = g.F.Field.WIDTH in
    let mul = g.F.Field.mul in
    let noise = c.args.self.now.bytes.now in
    let place = c.args.self.now.place in
    let fit : FitWidth m = search rules in
    let blocks : FitBlocks c.args.b = search rules in
    let none = c.in_err-group.ensures.ok_part in
    let fault = rw none at c.in_err-group.ensures.value in
    let is : c.from_residual.result ≡ Err NoNoise = failed c.from_residual.result NoNoise c.from_residual.ensures.1 (λ x p. cc) in
    let size : c.div_ceil-size.result ≡ group_size m = omega arith in
    let short : length c.loop-group.rest.now < group_size m = rw size at (rw none at c.split_at_checked.ensures.cases) in
    rw is (fit, blocks, underway_end m mul c.args.b noise place c.loop-group.rest.now c.loop-group.invariant short, refl)

pub loop-group-preserved : goal.loop-group-preserved
loop-group-preserved g c =
    let m = g.F.Field.WIDTH in
    let size : c.div_ceil-size.result ≡ group_size m = omega arith in
    let split : IsSplitAt c.loop-group.rest.now (group_size m) c.in_ok-group.group.now c.in_ok-group.after.now =
    rw size at (rw c.in_ok-group.ensures.ok_part at c.split_at_checked.ensures.cases) in
    let fit : FitWidth m = search rules in
    underway_on m g.F.Field.mul c.args.b c.args.self.now.bytes.now c.args.self.now.place c.loop-group.rest.now c.loop-group.invariant
    c.in_ok-group.group.now c.in_ok-group.after.now split c.WIDTH-width.result c.get_bits-candidate.result c.WIDTH-width.ensures fit.1 c.get_bits-candidate.ensures
    c.if-not-admits.ensures

pub returns-clause-drawn : goal.returns-clause-drawn
returns-clause-drawn g c =
    let m = g.F.Field.WIDTH in
    let size : c.div_ceil-size.result ≡ group_size m = omega arith in
    let split : IsSplitAt c.loop-group.rest.now (group_size m) c.in_ok-group.group.now c.in_ok-group.after.now =
    rw size at (rw c.in_ok-group.ensures.ok_part at c.split_at_checked.ensures.cases) in
    let fit : FitWidth m = search rules in
    let blocks : FitBlocks c.args.b = search rules in (
      fit,
      blocks,
      underway_drawn m g.F.Field.mul c.args.b c.args.self.now.bytes.now c.args.self.now.place c.loop-group.rest.now c.loop-group.invariant
          c.in_ok-group.group.now c.in_ok-group.after.now split c.WIDTH-width.result c.get_bits-candidate.result c.WIDTH-width.ensures fit.1 c.get_bits-candidate.ensures
          c.if-not-admits.ensures,
    )
