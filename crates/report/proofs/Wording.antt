-- What is said of the frames of a text, one by one.
-- Assumes nothing.
use Rattle.std.proofs.Common.{◌≡◌, ℕ, ◌+◌, ◌^◌, ◌<◌, List, [], ◌∷◌, ◌++◌, decimal, append_assoc, add-one}
use Rattle.frame.specs.Code.{Code}
use Rattle.report.specs.Text.{lines, decoded, outcome_text, line_outcome, frames_text}

-- the line of one frame more
pub frames_more : (K : Code) (b k n i m : ℕ) (rest line more out after answer : List ℕ) → k ≡ b → (lines rest ≡ line ∷ lines more) × (i ≡ n) × (m ≡ n + 1) × (i + 1 < 2 ^ 64) → answer ≡ outcome_text (line_outcome K k (decoded line)) → after ≡ out ++ (decimal (i + 1) ++ (32 ∷ (answer ++ 10 ∷ []))) → after ++ frames_text K b (m + 1) (lines more) ≡ out ++ frames_text K b (n + 1) (lines rest)
frames_more K b k n i m rest line more out after answer long step told wrote = rw (wrote, told, long, step.0, step.1, step.2) (simp (append_assoc, add-one))
