use Rattle.std.proofs.Common.{◌≡◌, ℕ, ◌+◌, ◌≤◌, List, [], ◌∷◌, get_or, subst, refl, ap, ◌∙◌, arith, rules}
use Rattle.std.specs.Prelude.{sum_by, count_ones, All}
use Rattle.std.proofs.lemmas.List.Sums.{sum_by-cons, sum_by-le}
use Rattle.std.proofs.lemmas.List.{get_or_default}
use Rattle.std.proofs.lemmas.Nat.{ones-le}
use Rattle.frame.specs.Checks.{all_ones}
use Rattle.frame.proofs.word.count_ones.Goals as goal

ones_sum : (ys : List ℕ) → sum_by count_ones ys ≡ all_ones ys
ones_sum [] = refl
ones_sum (y ∷ ys) = sum_by-cons count_ones y ys ∙ ap (λ n. count_ones y + n) (ones_sum ys)

pub returns-clause-value : goal.returns-clause-value
returns-clause-value c =
    let told : c.sum.result ≡ sum_by count_ones c.args.blocks.now = search rules in
    told ∙ ones_sum c.args.blocks.now

pub returns-clause-bound : goal.returns-clause-bound
returns-clause-bound c =
    let told : c.sum.result ≡ sum_by count_ones c.args.blocks.now = search rules in
    let few : All (λ y. count_ones y ≤ 32) c.args.blocks.now =
    λ k d l. subst (λ y. count_ones y ≤ 32) (get_or_default c.args.blocks.now k 0 d l) (ones-le 32 (get_or c.args.blocks.now k 0) (c.type_inv.blocks k).fits) in
    omega (arith, told, sum_by-le count_ones 32 c.args.blocks.now few, c.requires)
