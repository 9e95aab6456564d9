-- The bytes of an input that are enough: for them the same is printed as for all of it.
-- Assumes nothing.
use Rattle.std.proofs.Common.{◌≡◌, ℕ, ◌<◌, ltb, List, length, take, codes, sym, ap, ◌∙◌, inl, inr, arith, length-take-le, take_all}
use Rattle.std.proofs.lemmas.Bool.{cases_lt, cond-true, lt-ltb}
use Rattle.report.specs.Text.{lines, lines_text, report_text}

-- too long
pub over : (input : List ℕ) → 65536 < length input → report_text input ≡ codes "refused 2\n"
over input long = cond-true (ltb 65536 (length input)) (codes "refused 2\n") (lines_text (lines input)) (lt-ltb 65536 (length input) long)

pub enough : (n : ℕ) → 65536 < n → (input : List ℕ) → report_text (take n input) ≡ report_text input
enough n big input =
    elim (cases_lt (length input) n) [
      | inl short ↦ ap report_text (take_all n input (omega arith))
      | inr long ↦ let kept = length-take-le n input long in over (take n input) (omega arith) ∙ sym (over input (omega arith))
    ]
