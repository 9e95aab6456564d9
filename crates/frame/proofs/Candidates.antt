-- How many salts let another word, salt or check block pass for those that were sealed.
-- Assumes nothing.
use Rattle.std.proofs.Common.{◌≡◌, ℕ, zero, suc, ◌+◌, ◌-◌, ◌*◌, ◌/◌, ◌%◌, ◌^◌, ◌<◌, ◌≤◌, List, [], ◌∷◌, ◌++◌, length, sym, refl, ap, ◌∙◌, subst, ap₂, ⊎_elim, mod-lt, mod-eq_of_lt, add-one, arith, length-append, pow_pos}
use lib.Bits.{bit_xor, xor_assoc, xor_comm, xor_self, xor_zero_r, xor_mod, xor_lt}
use Rattle.std.specs.List.{AllByRecursion}
use Rattle.std.proofs.ByRecursion.{All-from_get_or, All-push, All-weaker}
use Rattle.std.proofs.lemmas.Bool.{cases_eq, cases_lt}
use Rattle.bits.specs.Rows.{xored}
use Rattle.bits.proofs.Digits.{xor_equal}
use Rattle.bits.proofs.Rows.{length_xored}
use Rattle.field.specs.Laws.{Laws}
use Rattle.field.specs.Powers.{power}
use Rattle.field.specs.Polynomials.{value_at}
use Rattle.field.proofs.Powers.{mul-one, power_lt}
use Rattle.field.proofs.Roots.{roots}
use Rattle.frame.specs.Checks.{Below, terms, weight, check_value}
use Rattle.frame.proofs.AtMost.{AtMost, stronger}
use Rattle.frame.proofs.Differences.{Ring, Poly, lower, plus, constant, all_terms, even_lower, value_push, small_xored, difference, xor_left}
use Rattle.frame.proofs.Sealed.{xor_back}
use Rattle.frame.proofs.Values.{horner, horner_terms}

-- a is an element, and the check value of zs with the salt a changed by d is that of ys with a, changed by e
abbrev pub Passes : ℕ → (ℕ → ℕ → ℕ) → List ℕ → List ℕ → ℕ → ℕ → ℕ → Type 0
Passes m mul ys zs d e a = (a < 2 ^ m) × (check_value mul zs (bit_xor a d) ≡ bit_xor (check_value mul ys a) e)

-- a polynomial of n + 1 coefficients, not all 0, has at most n roots
few_roots : (m : ℕ) (mul : ℕ → ℕ → ℕ) → Laws m mul → (n : ℕ) (cs : List ℕ) → length cs ≤ suc n → AllByRecursion (λ c. c < 2 ^ m) cs → (AllByRecursion (λ c. c ≡ 0) cs → ⊥)
    → AtMost n (λ x. (x < 2 ^ m) × (value_at mul cs x ≡ 0))
few_roots m mul laws n cs long small some xs distinct each =
    let elements = All-weaker (λ x. (x < 2 ^ m) × (value_at mul cs x ≡ 0)) (λ x. x < 2 ^ m) (λ x h. h.0) xs each in
    let at = All-weaker (λ x. (x < 2 ^ m) × (value_at mul cs x ≡ 0)) (λ x. value_at mul cs x ≡ 0) (λ x h. h.1) xs each in
    ⊎_elim (λ more. absurd (some (roots m mul laws cs xs small elements distinct at (omega (arith, more))))) (λ few. few) (cases_lt n (length xs))

all_last : (P : ℕ → Type 0) (xs : List ℕ) (x : ℕ) → AllByRecursion P (xs ++ x ∷ []) → P x
all_last P [] x h = h.0
all_last P (y ∷ xs) x h = all_last P xs x h.1

-- words whose differences are all 0 are equal
same_words : (ys zs : List ℕ) → length ys ≡ length zs → AllByRecursion (λ c. c ≡ 0) (xored ys zs) → ys ≡ zs
same_words [] [] h none = refl
same_words [] (z ∷ zs) h none = absurd (omega arith)
same_words (y ∷ ys) [] h none = absurd (omega arith)
same_words (y ∷ ys) (z ∷ zs) h none = ap₂ ◌∷◌ (xor_equal y z none.0) (same_words ys zs (omega arith) none.1)

-- the terms of two check values, each gathered to its own
gathered : (p q k u v e : ℕ) → bit_xor (bit_xor (bit_xor p (bit_xor q k)) (bit_xor u (bit_xor v e))) k ≡ bit_xor (bit_xor u p) (bit_xor (bit_xor v q) e)
gathered p q k u v e = simp (xor_back, xor_assoc, xor_left, xor_comm)

module _ (m : ℕ) (mul : ℕ → ℕ → ℕ) (ring : Ring m mul) (laws : Laws m mul) (ys zs : List ℕ) (d e : ℕ) (long : length zs ≡ length ys)
    (hy : Below m ys) (hz : Below m zs) (hd : d < 2 ^ m) (he : e < 2 ^ m) where
  abbrev w : ℕ
  w = weight (length ys)

  -- the difference of the check values at x
  abbrev gap : ℕ → ℕ
  gap x = bit_xor (check_value mul zs (bit_xor x d)) (bit_xor (check_value mul ys x) e)

  abbrev Passing : ℕ → Type 0
  Passing = Passes m mul ys zs d e

  -- where it is a polynomial of at most w + 1 coefficients, not all 0, it has at most w roots
  few_gaps : (cs : List ℕ) → length cs ≤ suc w → AllByRecursion (λ c. c < 2 ^ m) cs → ((x : ℕ) → x < 2 ^ m → value_at mul cs x ≡ gap x) → (AllByRecursion (λ c. c ≡ 0) cs → ⊥)
      → AtMost w Passing
  few_gaps cs short small value some =
      stronger w Passing (λ x. (x < 2 ^ m) × (value_at mul cs x ≡ 0))
      (λ x h. let v = bit_xor (check_value mul ys x) e in (h.0, value x h.0 ∙ ap (λ u. bit_xor u v) h.1 ∙ xor_self v))
      (few_roots m mul laws w cs short small some)

  -- all but the term d xʷ
  rest : Poly m mul w (λ x. bit_xor (lower m mul ring d d w x) (bit_xor (terms mul (bit_xor x d) 1 zs) (bit_xor (terms mul (bit_xor x 0) 1 ys) e)))
  rest =
      let even : (length ys / 2 + 1) * 2 ≡ w = omega arith in
      plus m mul ring w w (lower m mul ring d d w) (λ x. bit_xor (terms mul (bit_xor x d) 1 zs) (bit_xor (terms mul (bit_xor x 0) 1 ys) e)) (omega arith)
      (subst (λ n. Poly m mul n (lower m mul ring d d n)) even (even_lower m mul ring d (length ys / 2 + 1)))
      (plus m mul ring w w (λ x. terms mul (bit_xor x d) 1 zs) (λ x. bit_xor (terms mul (bit_xor x 0) 1 ys) e) (omega arith) (all_terms m mul ring d w 1 zs (omega arith))
      (plus m mul ring w 1 (λ x. terms mul (bit_xor x 0) 1 ys) (λ x. e) (omega arith) (all_terms m mul ring 0 w 1 ys (omega arith)) (constant m mul ring e he)))

  shifted_value : (x : ℕ) → value_at mul (rest.coefficients ++ mul d 1 ∷ []) x ≡ gap x
  shifted_value x =
      value_push m mul ring rest.coefficients d x ∙ ap₂ (λ v n. bit_xor v (mul d (power mul x n))) (rest.value x) rest.long
      ∙ gathered (power mul (bit_xor x d) (suc w)) (power mul x (suc w)) (mul d (power mul x w)) (terms mul (bit_xor x d) 1 zs) (terms mul (bit_xor x 0) 1 ys) e
      ∙ ap₂ (λ n y. bit_xor (bit_xor (terms mul (bit_xor x d) 1 zs) (power mul (bit_xor x d) n)) (bit_xor (bit_xor (terms mul y 1 ys) (power mul x (suc w))) e))
      (sym (ap (λ n. weight n + 1) long ∙ add-one w)) (xor_zero_r x)
      ∙ ap (λ n. bit_xor (check_value mul zs (bit_xor x d)) (bit_xor (bit_xor (terms mul x 1 ys) (power mul x n)) e)) (sym (add-one w))

  -- with a changed salt the coefficient d stands at the top
  shifted : (d ≡ 0 → ⊥) → AtMost w Passing
  shifted nonzero =
      few_gaps (rest.coefficients ++ mul d 1 ∷ []) (omega (arith, length-append rest.coefficients (mul d 1 ∷ []), rest.long))
      (All-push (λ c. c < 2 ^ m) rest.coefficients (mul d 1) rest.small (ring.closed d 1)) (λ x h. shifted_value x)
      (λ none. nonzero (sym (mul-one m mul laws d hd) ∙ all_last (λ c. c ≡ 0) rest.coefficients (mul d 1) none))

  -- a check value by Horner's rule
  horner_value : (vs : List ℕ) (x : ℕ) → length vs ≡ length ys → Below m vs → x < 2 ^ m → horner mul x vs (power mul x (w + 1 - length ys)) ≡ check_value mul vs x
  horner_value vs x same small hx =
      let k : w + 1 - length ys + length vs ≡ weight (length vs) + 1 = omega (arith, same) in
      horner_terms m mul laws x hx vs (w + 1 - length ys) small ∙ ap (λ n. bit_xor (terms mul x 1 vs) (power mul x n)) k

  level_value : d ≡ 0 → (x : ℕ) → x < 2 ^ m → value_at mul (e ∷ xored zs ys) x ≡ gap x
  level_value none x hx =
      xor_comm e _
      ∙ ap (λ v. bit_xor v e)
      (sym (difference m mul ring zs ys x (power mul x (w + 1 - length ys)) long) ∙ ap₂ bit_xor (horner_value zs x long hz hx) (horner_value ys x refl hy hx))
      ∙ xor_assoc (check_value mul zs x) (check_value mul ys x) e
      ∙ ap (λ y. bit_xor (check_value mul zs y) (bit_xor (check_value mul ys x) e)) (sym (ap (bit_xor x) none ∙ xor_zero_r x))

  -- with the same salt the coefficients are e and the changes of the blocks
  level : d ≡ 0 → ((zs ≡ ys) × (d ≡ 0) × (e ≡ 0) → ⊥) → AtMost w Passing
  level none changed =
      few_gaps (e ∷ xored zs ys) (omega (arith, length_xored zs ys))
      (he, small_xored m zs ys (All-from_get_or (λ c. c < 2 ^ m) zs 0 (λ i h. hz i)) (All-from_get_or (λ c. c < 2 ^ m) ys 0 (λ i h. hy i)))
      (level_value none) (λ zeros. changed (same_words zs ys long zeros.1, none, zeros.0))

  few_in_ring : ((zs ≡ ys) × (d ≡ 0) × (e ≡ 0) → ⊥) → AtMost w Passing
  few_in_ring changed = ⊎_elim (λ none. level none changed) shifted (cases_eq d 0)

-- the product of the remainders modulo 2 ^ m: it keeps the laws for all numbers
abbrev total : ℕ → (ℕ → ℕ → ℕ) → ℕ → ℕ → ℕ
total m mul x y = mul (x % 2 ^ m) (y % 2 ^ m)

module _ (m : ℕ) (mul : ℕ → ℕ → ℕ) (laws : Laws m mul) where
  rem : (x : ℕ) → x % 2 ^ m < 2 ^ m
  rem x = mod-lt x (pow_pos m)

  total_closed : (x y : ℕ) → total m mul x y < 2 ^ m
  total_closed x y = laws.closed (x % 2 ^ m) (y % 2 ^ m) (rem x) (rem y)

  ring : Ring m (total m mul)
  ring =
      record {
        closed = total_closed;
        comm = λ x y. laws.comm (x % 2 ^ m) (y % 2 ^ m) (rem x) (rem y);
        assoc = λ x y z.
            ap (λ v. mul v (z % 2 ^ m)) (mod-eq_of_lt (total_closed x y)) ∙ laws.assoc (x % 2 ^ m) (y % 2 ^ m) (z % 2 ^ m) (rem x) (rem y) (rem z)
            ∙ ap (mul (x % 2 ^ m)) (sym (mod-eq_of_lt (total_closed y z)));
        distributes = λ x y z. ap (mul (x % 2 ^ m)) (xor_mod y z m) ∙ laws.distributes (x % 2 ^ m) (y % 2 ^ m) (z % 2 ^ m) (rem x) (rem y) (rem z);
      }

  total_same : (x y : ℕ) → x < 2 ^ m → y < 2 ^ m → total m mul x y ≡ mul x y
  total_same x y hx hy = ap₂ mul (mod-eq_of_lt hx) (mod-eq_of_lt hy)

  total_laws : Laws m (total m mul)
  total_laws =
      record {
        one = laws.one;
        closed = λ x y hx hy. total_closed x y;
        comm = λ x y hx hy. ring.comm x y;
        assoc = λ x y z hx hy hz. ring.assoc x y z;
        distributes = λ x y z hx hy hz. ring.distributes x y z;
        neutral = λ x hx. total_same 1 x laws.one hx ∙ laws.neutral x hx;
        integral = λ x y hx hy none. laws.integral x y hx hy (sym (total_same x y hx hy) ∙ none);
      }

  module _ (a : ℕ) (ha : a < 2 ^ m) where
    power_same : (k : ℕ) → power (total m mul) a k ≡ power mul a k
    power_same zero = refl
    power_same (suc k) = ap (total m mul a) (power_same k) ∙ total_same a (power mul a k) ha (power_lt m mul laws a k ha)

    terms_same : (i : ℕ) (ys : List ℕ) → Below m ys → terms (total m mul) a i ys ≡ terms mul a i ys
    terms_same i [] h = refl
    terms_same i (y ∷ ys) h =
        ap₂ bit_xor (ap (total m mul y) (power_same i) ∙ total_same y (power mul a i) (h 0) (power_lt m mul laws a i ha)) (terms_same (suc i) ys (λ k. h (suc k)))

    value_same : (ys : List ℕ) → Below m ys → check_value (total m mul) ys a ≡ check_value mul ys a
    value_same ys h = ap₂ bit_xor (terms_same 1 ys h) (power_same (weight (length ys) + 1))

  -- at most w salts let the word zs pass, with the salt changed by d and the check block changed by e, unless nothing is changed
  pub few_changed : (ys zs : List ℕ) (d e : ℕ) → length zs ≡ length ys → Below m ys → Below m zs → d < 2 ^ m → e < 2 ^ m → ((zs ≡ ys) × (d ≡ 0) × (e ≡ 0) → ⊥)
      → AtMost (weight (length ys)) (Passes m mul ys zs d e)
  few_changed ys zs d e long hy hz hd he changed =
      stronger (weight (length ys)) (Passes m mul ys zs d e) (Passes m (total m mul) ys zs d e)
      (λ a h. (h.0, value_same (bit_xor a d) (xor_lt m a d h.0 hd) zs hz ∙ h.1 ∙ ap (λ v. bit_xor v e) (sym (value_same a h.0 ys hy))))
      (few_in_ring m (total m mul) ring total_laws ys zs d e long hy hz hd he changed)
