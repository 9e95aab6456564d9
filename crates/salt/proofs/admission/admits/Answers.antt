-- The test decides what is admitted, by the laws of the field.
-- Assumes nothing.
use Rattle.std.proofs.Common.{ℕ, ◌^◌, ◌<◌, sym, ap, ◌∙◌, subst, arith}
use Rattle.salt.specs.Admitted.{admitted}
use Rattle.salt.proofs.Admitted.{no_return, returning, zero_admitted}
use Rattle.salt.proofs.admission.admits.Goals as goal

pub returns-then-a-eq0 : goal.returns-then-a-eq0
returns-then-a-eq0 g c =
    zero_admitted g.F.Field.WIDTH g.F.Field.mul g.F.Field.laws c.args.b
    ∙ ap (admitted g.F.Field.WIDTH g.F.Field.mul c.args.b) (sym c.if-a-eq0.true)

pub returns-then-number_of-eq1 : goal.returns-then-number_of-eq1
returns-then-number_of-eq1 g c =
    sym (returning g.F.Field.WIDTH g.F.Field.mul g.F.Field.laws c.args.b c.args.a c.loop.counter c.loop.auto.counter c.loop-test.true
    (sym c.loop.invariant.0 ∙ sym c.number_of.ensures ∙ c.if-number_of-eq1.true))

pub returns : goal.returns
returns g c =
    let below : c.args.a < 2 ^ g.F.Field.WIDTH = subst (λ (n : ℕ). n < 2 ^ g.F.Field.WIDTH) c.in-Some.ensures (g.met.F.Field.small c.in-Some.x) in
    sym (no_return g.F.Field.WIDTH g.F.Field.mul g.F.Field.laws c.args.b c.args.a below c.if-a-eq0.false (λ k l h. c.loop.invariant.1 k l (omega arith)))
