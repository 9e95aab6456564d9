-- The first number that passes a test.
-- Assumes nothing.
use Rattle.std.proofs.Common.{◌≡◌, ℕ, zero, suc, ◌+◌, ◌<◌, Bool, true, false, cond, Some, None, sym, refl, ap, ◌∙◌, subst, ap₂, ⊎_elim, add-zero, zero-add, arith}
use Rattle.std.proofs.lemmas.Bool.{cond-true, cond-false, cases_Bool}
use Rattle.frame.specs.Opening.{first}

from_hit : (test : ℕ → Bool) (i d n : ℕ) → d < n → test (i + d) ≡ true → ((k : ℕ) → k < d → test (i + k) ≡ false) → first test i n ≡ Some (i + d)
from_hit test i d zero inside hit before = absurd (omega arith)
from_hit test i zero (suc n) inside hit before = cond-true (test i) (Some i) (first test (suc i) n) (subst (λ k. test k ≡ true) (add-zero i) hit) ∙ ap Some (sym (add-zero i))
from_hit test i (suc d) (suc n) inside hit before =
    cond-false (test i) (Some i) (first test (suc i) n) (subst (λ k. test k ≡ false) (add-zero i) (before 0 (omega arith)))
    ∙ from_hit test (suc i) d n (omega arith) (subst (λ k. test k ≡ true) (step d) hit) (λ k h. subst (λ j. test j ≡ false) (step k) (before (suc k) (omega arith)))
    ∙ ap Some (sym (step d))
  where
    step : (k : ℕ) → i + suc k ≡ suc i + k
    step k = omega arith

from_miss : (test : ℕ → Bool) (i n : ℕ) → ((k : ℕ) → k < n → test (i + k) ≡ false) → first test i n ≡ None
from_miss test i zero none = refl
from_miss test i (suc n) none =
    cond-false (test i) (Some i) (first test (suc i) n) (subst (λ k. test k ≡ false) (add-zero i) (none 0 (omega arith)))
    ∙ from_miss test (suc i) n (λ k h. subst (λ j. test j ≡ false) (omega arith) (none (suc k) (omega arith)))

pub first_hit : (test : ℕ → Bool) (n k : ℕ) → k < n → test k ≡ true → ((j : ℕ) → j < k → test j ≡ false) → first test 0 n ≡ Some k
first_hit test n k inside hit before =
    from_hit test 0 k n inside (subst (λ j. test j ≡ true) (sym (zero-add k)) hit) (λ j h. subst (λ i. test i ≡ false) (sym (zero-add j)) (before j h)) ∙ ap Some (zero-add k)

pub first_miss : (test : ℕ → Bool) (n : ℕ) → ((k : ℕ) → k < n → test k ≡ false) → first test 0 n ≡ None
first_miss test n none = from_miss test 0 n (λ k h. subst (λ i. test i ≡ false) (sym (zero-add k)) (none k h))

from_same : (f g : ℕ → Bool) (i n : ℕ) → ((k : ℕ) → k < n → f (i + k) ≡ g (i + k)) → first f i n ≡ first g i n
from_same f g i zero same = refl
from_same f g i (suc n) same =
    ap₂ (λ b rest. cond b (Some i) rest) (subst (λ k. f k ≡ g k) (add-zero i) (same 0 (omega arith)))
    (from_same f g (suc i) n (λ k h. subst (λ j. f j ≡ g j) (omega arith) (same (suc k) (omega arith))))

-- tests that agree find the same
pub first_same : (f g : ℕ → Bool) (n : ℕ) → ((k : ℕ) → k < n → f k ≡ g k) → first f 0 n ≡ first g 0 n
first_same f g n same = from_same f g 0 n (λ k h. subst (λ i. f i ≡ g i) (sym (zero-add k)) (same k h))

from_inside : (test : ℕ → Bool) (i n k : ℕ) → first test i n ≡ Some k → k < i + n
from_inside test i zero k is = let z : ◌≡◌ {A = ℕ} 0 1 = cc in absurd (omega arith)
from_inside test i (suc n) k is =
    ⊎_elim
    (λ hit. let same : i ≡ k = some_same (sym (cond-true (test i) (Some i) (first test (suc i) n) hit) ∙ is) in omega arith)
    (λ miss. let h = from_inside test (suc i) n k (sym (cond-false (test i) (Some i) (first test (suc i) n) miss) ∙ is) in omega arith)
    (cases_Bool (test i))
  where
    some_same : {x y : ℕ} → Some x ≡ Some y → x ≡ y
    some_same e = cc

-- what is found lies among what was tested
pub first_inside : (test : ℕ → Bool) (n k : ℕ) → first test 0 n ≡ Some k → k < n
first_inside test n k is = let h = from_inside test 0 n k is in omega arith
