-- The check value in a field: by Horner's rule.
-- Assumes nothing.
use Rattle.std.proofs.Common.{◌≡◌, ℕ, zero, suc, ◌+◌, ◌*◌, ◌/◌, ◌^◌, ◌<◌, ◌≤◌, List, [], ◌∷◌, ◌++◌, length, refl, get_or, take, set, sym, ap, ◌∙◌, subst, ap₂, ⊎_elim, add-zero, add-suc, mod-lt, suc-add, one-add, arith, length-set, length-take, get_or-take, pow_pos}
use lib.Bits.{bit_xor, xor_lt, xor_assoc, xor_comm}
use lib.Pow.{pow-lt}
use Rattle.std.proofs.lemmas.List.FromFn.{length-map-range_with_len, get_or-map-range_with_len}
use Rattle.std.proofs.lemmas.List.{get_or_past}
use Rattle.std.proofs.lemmas.Bool.{cases_lt}
use Rattle.bits.specs.Rows.{part}
use Rattle.field.specs.Laws.{Laws}
use Rattle.field.specs.Powers.{power}
use Rattle.field.proofs.Powers.{mul_zero, mul-one, power_lt}
use Rattle.field.proofs.Roots.{mul_left_xor}
use Rattle.frame.specs.Checks.{Below, terms, weight, check_value}
use Rattle.frame.specs.Code.{places}
use Rattle.frame.specs.Opening.{flipped}

-- (y₁ + (y₂ + … + t × a) × a) × a
abbrev pub horner : (ℕ → ℕ → ℕ) → ℕ → List ℕ → ℕ → ℕ
horner mul a [] t = t
horner mul a (y ∷ ys) t = mul a (bit_xor y (horner mul a ys t))

-- one block more above the others
pub horner_push : (mul : ℕ → ℕ → ℕ) (a : ℕ) (ys : List ℕ) (y t : ℕ) → horner mul a (ys ++ y ∷ []) t ≡ horner mul a ys (mul a (bit_xor y t))
horner_push mul a [] y t = refl
horner_push mul a (z ∷ ys) y t = ap (λ x. mul a (bit_xor z x)) (horner_push mul a ys y t)

-- with no blocks
pub horner_none : (mul : ℕ → ℕ → ℕ) (a : ℕ) (ys : List ℕ) (t : ℕ) → length ys ≡ 0 → t ≡ horner mul a ys t
horner_none mul a [] t none = refl
horner_none mul a (y ∷ ys) t none = absurd (omega arith)

pub below_take : (m n : ℕ) (ys : List ℕ) → Below m ys → Below m (take n ys)
below_take m n ys h i =
    ⊎_elim (λ inside. subst (λ x. x < 2 ^ m) (sym (get_or-take n ys i 0 inside)) (h i))
    (λ (past : n ≤ i). subst (λ x. x < 2 ^ m) (sym (get_or_past (take n ys) i 0 (simp length-take (omega arith)))) (pow_pos m)) (cases_lt i n)

-- the stored blocks are elements
pub places_below : (m b N : ℕ) → Below m (places m b N)
places_below m b N i =
    ⊎_elim
    (λ inside. subst (λ x. x < 2 ^ m) (sym (get_or-map-range_with_len (λ k. part N (k * m) m) 0 b i i 0 inside (omega arith))) (mod-lt (N / 2 ^ (i * m)) (pow_pos m)))
    (λ past. subst (λ x. x < 2 ^ m) (sym (get_or_past (places m b N) i 0 (subst (λ n. n ≤ i) (sym (length-map-range_with_len (λ k. part N (k * m) m) 0 b)) past))) (pow_pos m))
    (cases_lt i b)

pub xor_right : (a b c : ℕ) → bit_xor (bit_xor a b) c ≡ bit_xor (bit_xor a c) b
xor_right a b c = xor_assoc a b c ∙ ap (bit_xor a) (xor_comm b c) ∙ sym (xor_assoc a c b)

module _ (m : ℕ) (mul : ℕ → ℕ → ℕ) (laws : Laws m mul) (a : ℕ) (small : a < 2 ^ m) where
  term_lt : (y i : ℕ) → y < 2 ^ m → mul y (power mul a i) < 2 ^ m
  term_lt y i h = laws.closed y (power mul a i) h (power_lt m mul laws a i small)

  terms_lt : (i : ℕ) (ys : List ℕ) → Below m ys → terms mul a i ys < 2 ^ m
  terms_lt i [] h = pow_pos m
  terms_lt i (y ∷ ys) h = xor_lt m (mul y (power mul a i)) (terms mul a (suc i) ys) (term_lt y i (h 0)) (terms_lt (suc i) ys (λ k. h (suc k)))

  -- a factor goes past another
  pub past : (y i : ℕ) → y < 2 ^ m → mul a (mul y (power mul a i)) ≡ mul y (power mul a (suc i))
  past y i h =
      let p : power mul a i < 2 ^ m = power_lt m mul laws a i small in
      sym (laws.assoc a y (power mul a i) small h p) ∙ ap (λ x. mul x (power mul a i)) (laws.comm a y small h) ∙ laws.assoc y a (power mul a i) h small p

  terms_shift : (i : ℕ) (ys : List ℕ) → Below m ys → mul a (terms mul a i ys) ≡ terms mul a (suc i) ys
  terms_shift i [] h = mul_zero m mul laws a small
  terms_shift i (y ∷ ys) h =
      laws.distributes a (mul y (power mul a i)) (terms mul a (suc i) ys) small (term_lt y i (h 0)) (terms_lt (suc i) ys (λ k. h (suc k)))
      ∙ ap₂ bit_xor (past y i (h 0)) (terms_shift (suc i) ys (λ k. h (suc k)))

  pub horner_terms : (ys : List ℕ) (k : ℕ) → Below m ys → horner mul a ys (power mul a k) ≡ bit_xor (terms mul a 1 ys) (power mul a (k + length ys))
  horner_terms [] k h = ap (power mul a) (sym (add-zero k))
  horner_terms (y ∷ ys) k h =
      let rest : Below m ys = λ i. h (suc i) in
      let n = k + length ys in
      let p : power mul a n < 2 ^ m = power_lt m mul laws a n small in
      let ts : terms mul a 1 ys < 2 ^ m = terms_lt 1 ys rest in
      ap (λ x. mul a (bit_xor y x)) (horner_terms ys k rest)
      ∙ laws.distributes a y (bit_xor (terms mul a 1 ys) (power mul a n)) small (h 0) (xor_lt m (terms mul a 1 ys) (power mul a n) ts p)
      ∙ ap₂ bit_xor (laws.comm a y small (h 0) ∙ ap (mul y) (sym (mul-one m mul laws a small))) (laws.distributes a (terms mul a 1 ys) (power mul a n) small ts p ∙ ap (λ x. bit_xor x (power mul a (suc n))) (terms_shift 1 ys rest))
      ∙ sym (xor_assoc (mul y (power mul a 1)) (terms mul a 2 ys) (power mul a (suc n)))
      ∙ ap (λ e. bit_xor (terms mul a 1 (y ∷ ys)) (power mul a e)) (sym (add-suc k (length ys)))

  -- a change e of one block changes the sum by e times a power
  terms_change : (i : ℕ) (ys : List ℕ) (j e : ℕ) → Below m ys → e < 2 ^ m → j < length ys → terms mul a i (set ys j (bit_xor (get_or ys j 0) e)) ≡ bit_xor (terms mul a i ys) (mul e (power mul a (i + j)))
  terms_change i [] j e h he inside = absurd (omega arith)
  terms_change i (y ∷ ys) zero e h he inside =
      let p : power mul a i < 2 ^ m = power_lt m mul laws a i small in
      ap (λ x. bit_xor x (terms mul a (suc i) ys)) (mul_left_xor m mul laws y e (power mul a i) (h 0) he p)
      ∙ xor_right (mul y (power mul a i)) (mul e (power mul a i)) (terms mul a (suc i) ys)
      ∙ ap (λ k. bit_xor (terms mul a i (y ∷ ys)) (mul e (power mul a k))) (sym (add-zero i))
  terms_change i (y ∷ ys) (suc j) e h he inside =
      ap (bit_xor (mul y (power mul a i))) (terms_change (suc i) ys j e (λ k. h (suc k)) he (omega arith))
      ∙ sym (xor_assoc (mul y (power mul a i)) (terms mul a (suc i) ys) (mul e (power mul a (suc i + j))))
      ∙ ap (λ k. bit_xor (terms mul a i (y ∷ ys)) (mul e (power mul a k))) (suc-add i j ∙ sym (add-suc i j))

  pub value_flipped : (ys : List ℕ) (j t : ℕ) → Below m ys → t < m → j < length ys → check_value mul (flipped ys j t) a ≡ bit_xor (check_value mul ys a) (mul (2 ^ t) (power mul a (suc j)))
  value_flipped ys j t h ht inside =
      ap₂ (λ x n. bit_xor x (power mul a (weight n + 1))) (terms_change 1 ys j (2 ^ t) h (pow-lt ht) inside) (length-set ys j (bit_xor (get_or ys j 0) (2 ^ t)))
      ∙ xor_right (terms mul a 1 ys) (mul (2 ^ t) (power mul a (1 + j))) (power mul a (weight (length ys) + 1))
      ∙ ap (λ k. bit_xor (check_value mul ys a) (mul (2 ^ t) (power mul a k))) (one-add j)
