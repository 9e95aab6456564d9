use Rattle.std.proofs.Common.{◌≡◌, ℕ, ◌+◌, List, length, sym, ap, ◌∙◌, arith}
use lib.Bits.{bit_xor}
use Rattle.field.specs.Powers.{power}
use Rattle.field.proofs.Powers.{mul-one}
use Rattle.frame.specs.Checks.{check_value, terms, weight}
use Rattle.frame.proofs.Values.{horner, horner_terms, horner_push, horner_none}
use Rattle.frame.proofs.word.Word.check_value.Given as given
use Rattle.frame.proofs.word.Word.check_value.Goals as goal
use Rattle.frame.proofs.word.Word.check_value.Goals.{then-self-eq1, else-self-eq1}

pub loop-y-init : goal.loop-y-init
loop-y-init g c =
    let f = g.F.Field in
    ap (λ (ys : List ℕ). horner f.mul (f.number c.args.a) ys (f.number c.if-self-eq1.total))
    (ap (λ r. r.iter.rest.now) c.into_iter-y-iterator.ensures.into_iter_gives ∙ ap (λ i. i.rest.now) c.rev-y-items.ensures.source ∙ c.iter.ensures.rest)

pub loop-y-preserved : goal.loop-y-preserved
loop-y-preserved g c =
    let f = g.F.Field in
    let a = f.number c.args.a in
    let rest : List ℕ = c.next.new.self.iter.rest.now in
    let y : ℕ = c.in-Some.y.now in
    let turned = c.multiply-total-in-loop-y.ensures ∙ ap (f.mul a) (c.add.ensures ∙ ap (λ x. bit_xor x (f.number c.loop-y.total)) c.block.ensures) in
    ap (horner f.mul a rest) turned ∙ sym (horner_push f.mul a rest y (f.number c.loop-y.total))
    ∙ ap (λ (ys : List ℕ). horner f.mul a ys (f.number c.loop-y.total)) (sym c.in-Some.ensures.steps) ∙ c.loop-y.invariant

-- the start is a power of the salt, so Horner's rule gives the check value
from_start : (g : given.Over) (c : goal.In-None g) (k : ℕ) → g.F.Field.number c.if-self-eq1.total ≡ power g.F.Field.mul (g.F.Field.number c.args.a) k → k + length c.args.self.now.blocks.now ≡ weight (length c.args.self.now.blocks.now) + 1 → g.F.Field.number c.loop-y.total ≡ check_value g.F.Field.mul c.args.self.now.blocks.now (g.F.Field.number c.args.a)
from_start g c k start exponent =
    let f = g.F.Field in
    let a = f.number c.args.a in
    let ys = c.args.self.now.blocks.now in
    horner_none f.mul a c.loop-y.y-iterator.iter.rest.now (f.number c.loop-y.total) c.in-None.ensures.steps.0
    ∙ c.loop-y.invariant
    ∙ ap (horner f.mul a ys) start
    ∙ horner_terms f.WIDTH f.mul f.laws a (g.met.F.Field.small c.args.a) ys k c.args.self.now.elements
    ∙ ap (λ e. bit_xor (terms f.mul a 1 ys) (power f.mul a e)) exponent

pub returns : goal.returns
returns g c =
    let f = g.F.Field in
    let a = f.number c.args.a in
    let square : f.number c.multiply-square.result ≡ power f.mul a 2 = c.multiply-square.ensures ∙ ap (f.mul a) (sym (mul-one f.WIDTH f.mul f.laws a (g.met.F.Field.small c.args.a))) in
    elim c.if-self-eq1.branch [
      | then-self-eq1 w ↦ from_start g c 2 (ap f.number w.total-is ∙ square) (omega (arith, w.if-self-eq1.true))
      | else-self-eq1 w ↦ from_start g c 3 (ap f.number w.total-is ∙ w.multiply-total.ensures ∙ ap (f.mul a) square) (omega (arith, w.if-self-eq1.false))
    ]
