-- What an admitted salt is in plain facts, and the shorter test that decides it in a field.
-- Assumes nothing.
use Rattle.std.proofs.Common.{◌≡◌, ℕ, zero, suc, ◌-◌, ◌^◌, ◌<◌, ◌≤◌, true, false, not, eqb, sym, refl, ap, ◌∙◌, ⊎_elim, arith, pow_pos}
use lib.Dec.{eqb-suc-zero}
use Rattle.std.proofs.lemmas.Bool.{and_parts, and_from, not-true, not_from_false, eqb-false, ne_eqb, ltb-true, lt-ltb, cases_eq, cases_Bool}
use Rattle.field.specs.Laws.{Laws}
use Rattle.field.specs.Powers.{power}
use Rattle.field.proofs.Powers.{mul-one, power_nonzero, power_return}
use Rattle.salt.specs.Admitted.{powers, absent, different, admitted}

module _ (m : ℕ) (mul : ℕ → ℕ → ℕ) where
  -- x is not in the list of powers just when it is none of them
  absent_of : (a b x : ℕ) → absent x (powers mul b a) ≡ true → (i : ℕ) → 1 ≤ i → i ≤ b → x ≡ power mul a i → ⊥
  absent_of a zero x t i l h e = omega arith
  absent_of a (suc b) x t i l h e =
      let both = and_parts (not (eqb x (power mul a (suc b)))) (absent x (powers mul b a)) t in
      ⊎_elim
      (λ s. eqb-false x (power mul a (suc b)) (not-true _ both.0) (e ∙ ap (power mul a) s))
      (λ n. absent_of a b x both.1 i l (omega (arith, n)) e)
      (cases_eq i (suc b))

  absent_from : (a b x : ℕ) → ((i : ℕ) → 1 ≤ i → i ≤ b → x ≡ power mul a i → ⊥) → absent x (powers mul b a) ≡ true
  absent_from a zero x f = refl
  absent_from a (suc b) x f =
      and_from _ _ (not_from_false _ (ne_eqb x (power mul a (suc b)) (f (suc b) (omega arith) (omega arith))))
      (absent_from a b x (λ i l h. f i l (omega arith)))

  different_of : (a b : ℕ) → different (powers mul b a) ≡ true → (i j : ℕ) → 1 ≤ i → i < j → j ≤ b → power mul a i ≡ power mul a j → ⊥
  different_of a zero t i j l o h e = omega arith
  different_of a (suc b) t i j l o h e =
      let both = and_parts (absent (power mul a (suc b)) (powers mul b a)) (different (powers mul b a)) t in
      ⊎_elim
      (λ s. absent_of a b (power mul a (suc b)) both.0 i l (omega (arith, s)) (sym (e ∙ ap (power mul a) s)))
      (λ n. different_of a b both.1 i j l o (omega (arith, n)) e)
      (cases_eq j (suc b))

  different_from : (a b : ℕ) → ((i j : ℕ) → 1 ≤ i → i < j → j ≤ b → power mul a i ≡ power mul a j → ⊥) → different (powers mul b a) ≡ true
  different_from a zero f = refl
  different_from a (suc b) f =
      and_from _ _ (absent_from a b (power mul a (suc b)) (λ i l h e. f i (suc b) l (omega arith) (omega arith) (sym e)))
      (different_from a b (λ i j l o h. f i j l o (omega arith)))

  -- an admitted salt is an element, and its first b powers are nonzero and different
  pub admitted_lt : (b a : ℕ) → admitted m mul b a ≡ true → a < 2 ^ m
  admitted_lt b a t = ltb-true a (2 ^ m) (and_parts _ _ (and_parts _ _ t).0).0

  pub admitted_nonzero : (b a : ℕ) → admitted m mul b a ≡ true → (i : ℕ) → 1 ≤ i → i ≤ b → power mul a i ≡ 0 → ⊥
  admitted_nonzero b a t i l h e = absent_of a b 0 (and_parts _ _ (and_parts _ _ t).0).1 i l h (sym e)

  pub admitted_differ : (b a : ℕ) → admitted m mul b a ≡ true → (i j : ℕ) → 1 ≤ i → i < j → j ≤ b → power mul a i ≡ power mul a j → ⊥
  admitted_differ b a t = different_of a b (and_parts _ _ t).1

  -- and what is so is admitted
  pub admitted_from : (b a : ℕ) → a < 2 ^ m → ((i : ℕ) → 1 ≤ i → i ≤ b → power mul a i ≡ 0 → ⊥) → ((i j : ℕ) → 1 ≤ i → i < j → j ≤ b → power mul a i ≡ power mul a j → ⊥) → admitted m mul b a ≡ true
  admitted_from b a h n d =
      and_from _ _ (and_from _ _ (lt-ltb a (2 ^ m) h) (absent_from a b 0 (λ i l o e. n i l o (sym e)))) (different_from a b d)

  -- in a field it is enough that a is nonzero and no power before the b-th is 1
  module _ (laws : Laws m mul) where
    pub no_return : (b a : ℕ) → a < 2 ^ m → (a ≡ 0 → ⊥) → ((k : ℕ) → 1 ≤ k → k < b → power mul a k ≡ 1 → ⊥) → admitted m mul b a ≡ true
    no_return b a h n f =
        admitted_from b a h (λ i l o. power_nonzero m mul laws a i h n)
        (λ i j l o s e. f (j - i) (omega arith) (omega arith) (power_return m mul laws a i (j - i) h n (e ∙ ap (power mul a) (omega arith))))

    pub returning : (b a k : ℕ) → 1 ≤ k → k < b → power mul a k ≡ 1 → admitted m mul b a ≡ false
    returning b a k l o e =
        ⊎_elim (λ t. absurd (admitted_differ b a t 1 (suc k) (omega arith) (omega arith) (omega arith) (ap (mul a) (sym e)))) (λ t. t)
        (cases_Bool (admitted m mul b a))

    -- 0 is admitted for no powers at all
    pub zero_admitted : (b : ℕ) → eqb b 0 ≡ admitted m mul b 0
    zero_admitted zero = sym (admitted_from 0 0 (pow_pos m) (λ i l h e. omega arith) (λ i j l o h e. omega arith))
    zero_admitted (suc b) =
        eqb-suc-zero b
        ∙ sym (⊎_elim (λ t. absurd (admitted_nonzero (suc b) 0 t 1 (omega arith) (omega arith) (mul-one m mul laws 0 (pow_pos m)))) (λ t. t) (cases_Bool (admitted m mul (suc b) 0)))
