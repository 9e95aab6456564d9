-- A test of each number below a bound, which antt computes, turned into what it says.
-- Lemmas for `Widths`: no contract cites them.
-- Assumes nothing.
use Rattle.std.specs.Prelude.{◌≡◌, ℕ, zero, suc, ◌<◌, Bool, true, ◌&&◌}
use Rattle.std.proofs.Common.{le_of_suc-le-suc, arith}
use Rattle.std.proofs.lemmas.Bool.{and_parts}

-- the test passes at each number below n
unfoldable pub all : ℕ → (ℕ → Bool) → Bool
all zero test = true
all (suc n) test = test 0 && all n (λ i. test (suc i))

pub all_at : (n : ℕ) (test : ℕ → Bool) → all n test ≡ true → (i : ℕ) → i < n → test i ≡ true
unfolding all
all_at zero test passed i h = absurd (omega arith)
all_at (suc n) test passed zero h = (and_parts _ _ passed).0
all_at (suc n) test passed (suc i) h = all_at n (λ j. test (suc j)) (and_parts _ _ passed).1 i (le_of_suc-le-suc h)
