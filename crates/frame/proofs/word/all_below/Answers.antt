use Rattle.std.proofs.Common.{◌≡◌, ℕ, zero, suc, ◌^◌, ◌<◌, ◌≤◌, ◌&&◌, Bool, true, false, List, [], ◌∷◌, length, get_or, refl, sym, ap, ◌∙◌, subst, ltb, le-ltb, lt-ltb, le_of_suc-le-suc, suc-le-suc, zero-le, not-suc-le-zero, rules}
use Rattle.std.proofs.Math.Bool.{and-false}
use Rattle.std.proofs.lemmas.Bool.{and_from}
use Rattle.std.proofs.lemmas.List.{get_or_default}
use Rattle.std.specs.List.{All, Any}
use Rattle.std.specs.Prelude.{MatchBool}
use Rattle.frame.specs.Sealing.{all_below}
use Rattle.frame.proofs.word.all_below.Goals as goal

each : (m : ℕ) (ys : List ℕ) → ((k : ℕ) → k < length ys → get_or ys k 0 < 2 ^ m) → all_below m ys ≡ true
each m [] h = refl
each m (y ∷ ys) h = and_from _ _ (lt-ltb y (2 ^ m) (h 0 (suc-le-suc zero-le))) (each m ys (λ k l. h (suc k) (suc-le-suc l)))

one : (m : ℕ) (ys : List ℕ) (k : ℕ) → k < length ys → 2 ^ m ≤ get_or ys k 0 → all_below m ys ≡ false
one m [] k l h = absurd (not-suc-le-zero l)
one m (y ∷ ys) zero l h = ap (λ t. t && all_below m ys) (le-ltb y (2 ^ m) h)
one m (y ∷ ys) (suc k) l h = ap (λ t. ltb y (2 ^ m) && t) (one m ys k (le_of_suc-le-suc l) h) ∙ and-false (ltb y (2 ^ m))

decided : (m : ℕ) (ys : List ℕ) (r : Bool) → MatchBool r (All (λ y. y < 2 ^ m) ys) (Any (λ y. 2 ^ m ≤ y) ys) → r ≡ all_below m ys
decided m ys true h = sym (each m ys (λ k l. h k 0 l))
decided m ys false (k, y, inside, is, large) = sym (one m ys k inside (subst (λ x. 2 ^ m ≤ x) (sym is ∙ get_or_default ys k y 0 inside) large))

pub returns : goal.returns
returns c = decided c.args.m c.args.blocks.now c.all.result (search rules)
