use Rattle.std.proofs.Common.{◌≡◌, [], ◌∷◌, map, ap, ◌∙◌, rules, reverse}
use lib.Bits.{bit_xor, xor_self}
use Rattle.std.proofs.lemmas.Fn.{fold_over}
use Rattle.std.proofs.lemmas.Iterator.Adapters.{YieldsList-from_rev_slice}
use Rattle.std.proofs.lemmas.List.{reverse-append, reverse-reverse}
use Rattle.std.specs.Iterator.Adapters.{rev_steps}
use Rattle.std.specs.Slice.Iter.{iter_steps_back}
use Rattle.field.specs.Polynomials.{value_at}
use Rattle.field.proofs.Roots.{roots}
use Rattle.field.proofs.polynomial.evaluate.Goals as goal

pub returns-clause-value : goal.returns-clause-value
returns-clause-value g c =
    let f = g.F.Field in
    let cs = c.args.coefficients.now in
    rw (reverse-reverse cs) at
    (fold_over (rev_steps iter_steps_back) (λ y. y.now) _ (λ ys s. f.number s ≡ value_at f.mul (map f.number (reverse ys)) (f.number c.args.x)) _
    (λ ys a x b f' before k.
    let next : f.number b ≡ bit_xor (f.number x.now) (f.mul (f.number c.args.x) (f.number a)) = search rules in
    (rw (reverse-append ys (x.now ∷ [])) (next ∙ ap (λ v. bit_xor (f.number x.now) (f.mul (f.number c.args.x) v)) before), search rules))
    c.rev.result (reverse cs) c.add-zero.result c.fold.result (YieldsList-from_rev_slice {s = c.rev.result} cs (cc)).runs (c.add-zero.ensures ∙ xor_self (f.number c.args.x)) c.fold.ensures.ran)

pub returns-clause-roots : goal.returns-clause-roots
returns-clause-roots g c = roots g.F.Field.WIDTH g.F.Field.mul g.F.Field.laws
