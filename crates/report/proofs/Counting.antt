-- The numbers 1 to 16 as they are printed, and the line that names one of them.
-- Assumes nothing.
use Rattle.std.proofs.Common.{◌≡◌, ℕ, zero, suc, ◌+◌, ◌-◌, ◌/◌, ◌%◌, ◌<◌, ◌≤◌, Bool, true, false, List, [], ◌∷◌, ◌++◌, length, get_or, Some, None, Option, MatchOption, Bor, decimal, refl, sym, ap, ◌∙◌, append_assoc, inl, inr, ◌⊎◌, arith}
use Rattle.std.proofs.lemmas.Bool.{cases_lt, cond-true, cond-false, false_from_ne_true}
use Rattle.std.proofs.lemmas.Fmt.{decimal_digit, decimal_step, decimal_injective}
use Rattle.std.proofs.lemmas.List.{append_cancel_left}
use Rattle.std.proofs.lemmas.Slice.Eq.{bytes_eq-Decides}
use Rattle.std.specs.Str.{bytes_eq}
use Rattle.frame.specs.Opening.{first}
use Rattle.report.specs.Text.{Names, blocks_named}

-- a number that passes at once
pub first_here : (test : ℕ → Bool) (i end : ℕ) → i < end → test i ≡ true → first test i (end - i) ≡ Some i
first_here test i end h hit =
    let one : end - i ≡ suc (end - (i + 1)) = omega arith in
    ap (first test i) one ∙ cond-true (test i) (Some i) _ hit

-- the first number that passes is k
first_is : (test : ℕ → Bool) (i n k : ℕ) → i ≤ k → k < i + n → test k ≡ true → ((j : ℕ) → i ≤ j → j < k → test j ≡ false) → first test i n ≡ Some k
first_is test i zero k low high hit miss = absurd (omega arith)
first_is test i (suc n) k low high hit miss = elim (cases_lt i k) [
  | inl more ↦ cond-false (test i) _ _ (miss i (omega arith) more) ∙ first_is test (suc i) n k (omega arith) (omega arith) hit (λ j above below. miss j (omega arith) below)
  | inr end ↦
      let here : k ≡ i = omega arith in
      let left : i + suc n - i ≡ suc n = omega arith in
      ap (first test i) (sym left) ∙ first_here test i (i + suc n) (omega arith) (rw (sym here) hit) ∙ ap Some (sym here)
]

-- none passes
first_none : (test : ℕ → Bool) (i n : ℕ) → ((j : ℕ) → i ≤ j → j < i + n → test j ≡ false) → first test i n ≡ None
first_none test i zero miss = refl
first_none test i (suc n) miss = cond-false (test i) _ _ (miss i (omega arith) (omega arith)) ∙ first_none test (suc i) n (λ j low high. miss j (omega arith) (omega arith))

two_digits : (k : ℕ) → 10 ≤ k → k ≤ 19 → decimal k ≡ 49 ∷ (38 + k) ∷ []
two_digits k low high =
    let tens : k / 10 ≡ 1 = omega arith in
    let ones : 48 + k % 10 ≡ 38 + k = omega arith in
    decimal_step k low (omega arith) ∙ rw (tens, ones, decimal_digit 1 (omega arith)) refl

-- a number of one digit
pub one_digit : (digits : List ℕ) (b : ℕ) → length digits ≡ 1 → 49 ≤ get_or digits 0 0 → get_or digits 0 0 ≤ 57 → b ≡ get_or digits 0 0 - 48 → Names digits b
one_digit [] b l low high e = absurd (omega arith)
one_digit (x ∷ []) b l low high e =
    let same : x ≡ 48 + b = omega arith in
    (omega arith, omega arith, rw same (sym (decimal_digit b (omega arith))))
one_digit (x ∷ y ∷ digits) b l low high e = absurd (omega arith)

-- one of two digits
pub one_and_digit : (digits : List ℕ) (b : ℕ) → length digits ≡ 2 → get_or digits 0 0 ≡ 49 → 48 ≤ get_or digits 1 0 → get_or digits 1 0 ≤ 54 → b ≡ get_or digits 1 0 - 48 → Names digits (b + 10)
one_and_digit [] b l first low high e = absurd (omega arith)
one_and_digit (x ∷ []) b l first low high e = absurd (omega arith)
one_and_digit (x ∷ y ∷ []) b l first low high e =
    let same : y ≡ 38 + (b + 10) = omega arith in
    (omega arith, omega arith, rw (first, same) (sym (two_digits (b + 10) (omega arith) (omega arith))))
one_and_digit (x ∷ y ∷ z ∷ digits) b l first low high e = absurd (omega arith)

-- the bytes of any, by their count
pub shaped : (digits : List ℕ) (b : ℕ) → Names digits b → ((length digits ≡ 1) × (49 ≤ get_or digits 0 0) × (get_or digits 0 0 ≤ 57)) ⊎ ((length digits ≡ 2) × (get_or digits 0 0 ≡ 49) × (48 ≤ get_or digits 1 0) × (get_or digits 1 0 ≤ 54))
shaped digits b named = elim (cases_lt b 10) [
  | inl small ↦ let is = named.2 ∙ decimal_digit b small in inl (ap length is, rw is (omega arith), rw is (omega arith))
  | inr big ↦ let is = named.2 ∙ two_digits b big (omega arith) in inr (ap length is, rw is refl, rw is (omega arith), rw is (omega arith))
]

-- the width and a space, and what is left of a line behind them
module _ (width : ℕ) (start line : List ℕ) (is : start ≡ decimal width ++ 32 ∷ []) where
  spaced : (digits : List ℕ) → start ++ digits ≡ decimal width ++ 32 ∷ digits
  spaced digits = rw is (append_assoc (decimal width) (32 ∷ []) digits)

  -- a number that would be named is what is left
  left_by : (b : ℕ) (rest : List ℕ) → line ≡ start ++ rest → bytes_eq (decimal width ++ 32 ∷ decimal b) line ≡ true → rest ≡ decimal b
  left_by b rest cut hit = append_cancel_left start rest (decimal b) (sym cut ∙ sym ((bytes_eq-Decides _ line).0 hit) ∙ sym (spaced (decimal b)))

  pub named : (r : Option (Bor (List ℕ))) (o : Option ℕ) → MatchOption r ((rest : List ℕ) → line ≡ start ++ rest → ⊥) (λ x. line ≡ start ++ x.now) → MatchOption r (o ≡ None) (λ x. MatchOption o ((b : ℕ) → Names x.now b → ⊥) (Names x.now)) → o ≡ blocks_named width line
  named None o other none =
      none ∙ sym (first_none _ 1 16 (λ j low high. false_from_ne_true _ (λ hit. other (decimal j) (sym (spaced (decimal j) ∙ (bytes_eq-Decides _ line).0 hit)))))
  named (Some rest) None cut none =
      sym (first_none _ 1 16 (λ j low high. false_from_ne_true _ (λ hit. none j (low, omega arith, left_by j rest.now cut hit))))
  named (Some rest) (Some b) cut (low, high, e) =
      sym (first_is _ 1 16 b low (omega arith) ((bytes_eq-Decides _ line).1 (sym (spaced (decimal b)) ∙ ap (λ more. start ++ more) (sym e) ∙ sym cut)) (λ j above below. false_from_ne_true _ (λ hit. absurd (let same = decimal_injective j b (omega arith) (omega arith) (sym (left_by j rest.now cut hit) ∙ e) in omega (arith, same)))))
