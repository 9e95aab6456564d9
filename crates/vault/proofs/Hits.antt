-- Set binary digits: a number with at most one, and an or with at most one.
-- Assumes nothing.
use Rattle.std.proofs.Common.{◌≡◌, ℕ, zero, suc, ◌+◌, ◌*◌, ◌/◌, ◌%◌, ◌^◌, ◌<◌, ◌≤◌, max, ◌⊎◌, sym, refl, ap, ◌∙◌, subst, ap₂, inl, inr, ⊎_elim, pow-suc, arith}
use lib.Arith.{bin_ind, lt-one}
use lib.Bits.{bit_or, bit_xor, or_step, or_comm, or_shr, or_add_and, and_le_l, xor_zero_l, xor_zero_r, xor_self}
use lib.Count.{ones, ones-ones, ones_step}
use Rattle.std.proofs.lemmas.Bool.{cases_eq}
use Rattle.frame.proofs.SetBits.{ones_power}

-- a number with no set digit is 0
no_ones : (n : ℕ) → ones n ≡ 0 → n ≡ 0
no_ones = bin_ind (λ n. ones n ≡ 0 → n ≡ 0) (λ e. refl) more
  where
    more : (n : ℕ) → (ones (n / 2) ≡ 0 → n / 2 ≡ 0) → ones n ≡ 0 → n ≡ 0
    more n ih e =
        let step = ones_step n in
        let half : n / 2 ≡ 0 = ih (omega arith) in
        omega arith

-- a number of n digits with at most one set digit is 0 or a power of two
pub data Single (n P : ℕ) : Type 0 where
  none : P ≡ 0 → Single n P
  one : (k : ℕ) → k < n → P ≡ 2 ^ k → Single n P

pub single_digit : (n P : ℕ) → P < 2 ^ n → ones P ≤ 1 → Single n P
single_digit zero P h few = none (lt-one h)
single_digit (suc n) P h few = lower (single_digit n (P / 2) half (omega (arith, ones_step P)))
  where
    half : P / 2 < 2 ^ n
    half = let double = pow-suc 2 n in omega arith

    lower : Single n (P / 2) → Single (suc n) P
    lower (none e) = ⊎_elim (λ (even : P % 2 ≡ 0). none (omega arith)) (λ (odd : P % 2 ≡ 0 → ⊥). one 0 (omega arith) (omega arith)) (cases_eq (P % 2) 0)
    lower (one k inside e) =
        let step = ones_step P in
        let top : ones (P / 2) ≡ 1 = ap ones e ∙ ones_power k in
        let double = pow-suc 2 k in
        one (suc k) (omega arith) (omega arith)

-- each side of an or with at most one set digit is 0 or all of it
or_right : (h p : ℕ) → ones (bit_or h p) ≤ 1 → (p ≡ 0) ⊎ (p ≡ bit_or h p)
or_right = bin_ind (λ h. (p : ℕ) → ones (bit_or h p) ≤ 1 → (p ≡ 0) ⊎ (p ≡ bit_or h p)) (λ p few. inr refl) more
  where
    digits : (h p above whole : ℕ) → p / 2 ≤ above → whole ≡ above * 2 + max (h % 2) (p % 2) → (1 ≤ max (h % 2) (p % 2) → above ≡ 0) → (p / 2 ≡ 0) ⊎ (p / 2 ≡ above) → (p ≡ 0) ⊎ (p ≡ whole)
    digits h p above whole over is alone (inl e) = ⊎_elim (λ (even : p % 2 ≡ 0). inl (omega arith)) (λ (odd : p % 2 ≡ 0 → ⊥). inr (let none : above ≡ 0 = alone (omega arith) in omega arith)) (cases_eq (p % 2) 0)
    digits h p above whole over is alone (inr e) = ⊎_elim (λ (same : h % 2 ≡ p % 2). inr (omega arith)) apart (cases_eq (h % 2) (p % 2))
      where
        apart : (h % 2 ≡ p % 2 → ⊥) → (p ≡ 0) ⊎ (p ≡ whole)
        apart other =
            let none : above ≡ 0 = alone (omega arith) in
            ⊎_elim (λ (even : p % 2 ≡ 0). inl (omega arith)) (λ (odd : p % 2 ≡ 0 → ⊥). inr (omega arith)) (cases_eq (p % 2) 0)

    more : (h : ℕ) → ((p : ℕ) → ones (bit_or (h / 2) p) ≤ 1 → (p ≡ 0) ⊎ (p ≡ bit_or (h / 2) p)) → (p : ℕ) → ones (bit_or h p) ≤ 1 → (p ≡ 0) ⊎ (p ≡ bit_or h p)
    more h ih p few =
        let above = bit_or (h / 2) (p / 2) in
        let whole = or_step h p in
        let count : ones (bit_or h p) ≡ bit_or h p % 2 + ones above = ones_step (bit_or h p) ∙ ap (λ x. bit_or h p % 2 + ones x) (or_shr h p 1) in
        digits h p above (bit_or h p) (omega (arith, or_add_and (h / 2) (p / 2), and_le_l (h / 2) (p / 2))) whole
        (λ digit. no_ones above (omega arith)) (ih (p / 2) (omega arith))

-- of two flips whose or is quiet: what is left of the first, exclusive-or the second, is nothing or the or
module _ (h p : ℕ) (few : ones (bit_or h p) ≤ 1) where
  or_left : (h ≡ 0) ⊎ (h ≡ bit_or h p)
  or_left =
      let turned = or_comm p h in
      ⊎_elim inl (λ e. inr (e ∙ turned)) (or_right p h (subst (λ x. ones x ≤ 1) (sym turned) few))

  pub left_few : ones h ≤ 1
  left_few = ⊎_elim (λ e. let z : ones h ≡ 0 = ap ones e ∙ ones-ones 0 in omega arith) (λ e. subst (λ x. ones x ≤ 1) (sym e) few) or_left

  pub xor_single : (f : ℕ) → (f ≡ 0) ⊎ (f ≡ h) → (bit_xor f p ≡ 0) ⊎ (bit_xor f p ≡ bit_or h p)
  xor_single f was = joined (⊎_elim inl (λ e. ⊎_elim (λ z. inl (e ∙ z)) (λ z. inr (e ∙ z)) or_left) was) (or_right h p few)
    where
      joined : (f ≡ 0) ⊎ (f ≡ bit_or h p) → (p ≡ 0) ⊎ (p ≡ bit_or h p) → (bit_xor f p ≡ 0) ⊎ (bit_xor f p ≡ bit_or h p)
      joined (inl e) (inl z) = inl (ap₂ bit_xor e z ∙ xor_zero_l 0)
      joined (inl e) (inr z) = inr (ap₂ bit_xor e z ∙ xor_zero_l (bit_or h p))
      joined (inr e) (inl z) = inr (ap₂ bit_xor e z ∙ xor_zero_r (bit_or h p))
      joined (inr e) (inr z) = inl (ap₂ bit_xor e z ∙ xor_self (bit_or h p))
