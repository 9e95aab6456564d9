-- Where the first line of a text ends.
-- Assumes nothing.
use Rattle.std.proofs.Common.{◌≡◌, ◌==◌, ℕ, suc, ◌+◌, ◌<◌, ◌≤◌, not, ltb, Bool, true, false, cond, List, [], ◌∷◌, length, take, drop, Option, Some, None, position, ap, refl, ◌∙◌, inl, inr, arith, add-one}
use Rattle.std.specs.List.{position_or_len}
use Rattle.std.proofs.lemmas.Bool.{cases_Bool, cond-true, cond-false}
use Rattle.std.proofs.lemmas.Bool.Decides.{nat_tests}
use Rattle.report.specs.Text.{before, lines}

abbrev ends : ℕ → Bool
ends x = x == 10

here : (x : ℕ) (xs : List ℕ) → ends x ≡ true → position_or_len ends (x ∷ xs) ≡ 0
here x xs ten = cond-false (not (ends x)) (1 + position_or_len ends xs) 0 (ap not ten)

later : (x : ℕ) (xs : List ℕ) → ends x ≡ false → position_or_len ends (x ∷ xs) ≡ suc (position_or_len ends xs)
later x xs other = let e = cond-true (not (ends x)) (1 + position_or_len ends xs) 0 (ap not other) in omega (arith, e)

-- the byte that ends the first line is at place i
line_to : (xs : List ℕ) (i : ℕ) → i < length xs → i ≡ position_or_len ends xs → lines xs ≡ take i xs ∷ lines (drop (suc i) xs)
line_to [] i h e = absurd (omega arith)
line_to (x ∷ xs) i h e = elim (cases_Bool (ends x)) [
  | inl ten ↦ rw (e, here x xs ten) (cond-true (ends x) _ _ ten)
  | inr other ↦
      let n = position_or_len ends xs in
      rw (e, later x xs other) (cond-false (ends x) _ _ other ∙ ap (before x) (line_to xs n (omega (arith, later x xs other)) refl))
]

-- no byte ends a line
line_all : (xs : List ℕ) → 0 < length xs → length xs ≤ position_or_len ends xs → lines xs ≡ xs ∷ []
line_all [] h e = absurd (omega arith)
line_all (x ∷ []) h e = elim (cases_Bool (ends x)) [
  | inl ten ↦ absurd (omega (arith, here x [] ten))
  | inr other ↦ cond-false (ends x) _ _ other
]
line_all (x ∷ y ∷ xs) h e = elim (cases_Bool (ends x)) [
  | inl ten ↦ absurd (omega (arith, here x (y ∷ xs) ten))
  | inr other ↦ cond-false (ends x) _ _ other ∙ ap (before x) (line_all (y ∷ xs) (omega arith) (omega (arith, later x (y ∷ xs) other)))
]

placed : (n k i : ℕ) → Some i ≡ cond (ltb n k) (Some n) None → (i < k) × (i ≡ n)
placed n k i e = grind (arith, nat_tests)

missing : (n k : ℕ) → ◌≡◌ {A = Option ℕ} None (cond (ltb n k) (Some n) None) → k ≤ n
missing n k e = grind (arith, nat_tests)

-- by the first place of such a byte
pub line_at : (xs : List ℕ) (i : ℕ) → Some i ≡ position ends xs → lines xs ≡ take i xs ∷ lines (drop (i + 1) xs)
line_at xs i e = let at = placed (position_or_len ends xs) (length xs) i e in rw add-one (line_to xs i at.0 at.1)

pub line_whole : (xs : List ℕ) → 0 < length xs → None ≡ position ends xs → lines xs ≡ xs ∷ []
line_whole xs h e = line_all xs h (missing (position_or_len ends xs) (length xs) e)

-- no more lines than bytes
length_before : (x : ℕ) (ls : List (List ℕ)) → length (before x ls) ≤ suc (length ls)
length_before x [] = omega arith
length_before x (line ∷ more) = omega arith

pub length_lines_le : (xs : List ℕ) → length (lines xs) ≤ length xs
length_lines_le [] = omega arith
length_lines_le (x ∷ xs) =
    let short = length_lines_le xs in
    elim (cases_Bool (ends x)) [
      | inl ten ↦ rw (cond-true (ends x) ([] ∷ lines xs) (before x (lines xs)) ten) (omega arith)
      | inr other ↦ rw (cond-false (ends x) ([] ∷ lines xs) (before x (lines xs)) other) (omega (arith, length_before x (lines xs)))
    ]
