-- Blocks one above the other: what stands above them, their size and their ones, and one block more.
-- Assumes nothing.
use Rattle.std.proofs.Common.{◌≡◌, ℕ, suc, ◌+◌, ◌*◌, ◌%◌, ◌^◌, ◌<◌, ◌≤◌, List, [], ◌∷◌, ◌++◌, length, sym, ap, ◌∙◌, subst, ap₂, add_assoc, mod-lt, mul_assoc, suc-mul, mul_comm, add-mul, zero-add, zero-mul, add-one, arith, pow_pos, pow-add}
use lib.Arith.{digits_lt}
use lib.Bits.{bit_or}
use lib.Count.{ones, ones_cat}
use Rattle.bits.proofs.Rows.{or_fresh, put_lt}
use Rattle.frame.specs.Checks.{Below, all_ones}
use Rattle.frame.specs.Sealing.{stacked, with_parity}

one_more : (m n : ℕ) → 2 ^ (suc n * m) ≡ 2 ^ (n * m) * 2 ^ m
one_more m n = ap (λ e. 2 ^ e) (suc-mul n m) ∙ pow-add 2 (n * m) m

pub stacked_top : (m : ℕ) (ys : List ℕ) (top : ℕ) → stacked m ys top ≡ top * 2 ^ (length ys * m) + stacked m ys 0
stacked_top m [] top = sym (ap (λ e. top * 2 ^ e + 0) (zero-mul m) ∙ omega arith)
stacked_top m (y ∷ ys) top =
    let above = 2 ^ (length ys * m) in
    let low = stacked m ys 0 in
    ap (λ x. x * 2 ^ m + y) (stacked_top m ys top) ∙ ap (λ x. x + y) (add-mul (top * above) low (2 ^ m))
    ∙ ap (λ x. x + low * 2 ^ m + y) (mul_assoc top above (2 ^ m) ∙ ap (λ x. top * x) (sym (one_more m (length ys))))
    ∙ add_assoc (top * 2 ^ (suc (length ys) * m)) (low * 2 ^ m) y

pub stacked_lt : (m : ℕ) (ys : List ℕ) → Below m ys → stacked m ys 0 < 2 ^ (length ys * m)
stacked_lt m [] h = pow_pos (0 * m)
stacked_lt m (y ∷ ys) h = subst (λ x. stacked m (y ∷ ys) 0 < x) (sym (one_more m (length ys))) (digits_lt (stacked_lt m ys (λ i. h (suc i))) (h 0))

last_block : (m : ℕ) (ys : List ℕ) (y : ℕ) → stacked m (ys ++ y ∷ []) 0 ≡ stacked m ys y
last_block m [] y = ap (λ x. x + y) (zero-mul (2 ^ m)) ∙ zero-add y
last_block m (x ∷ ys) y = ap (λ z. z * 2 ^ m + x) (last_block m ys y)

pub stacked_push : (m : ℕ) (ys : List ℕ) (y : ℕ) → stacked m (ys ++ y ∷ []) 0 ≡ y * 2 ^ (length ys * m) + stacked m ys 0
stacked_push m ys y = last_block m ys y ∙ stacked_top m ys y

pub ones_stacked : (m : ℕ) (ys : List ℕ) (top : ℕ) → Below m ys → ones (stacked m ys top) ≡ all_ones ys + ones top
ones_stacked m [] top h = sym (zero-add (ones top))
ones_stacked m (y ∷ ys) top h =
    ones_cat m (stacked m ys top) y (h 0) ∙ ap (λ n. n + ones y) (ones_stacked m ys top (λ i. h (suc i))) ∙ omega arith

-- the mask, the sum and the check block above the blocks, each at its place
module _ (m r : ℕ) (ys : List ℕ) (mask sum check : ℕ) where
  abbrev pub top_parts : ℕ
  top_parts = (check * 2 ^ r + sum) * 2 ^ m + mask

  pub stacked_parts : stacked m ys top_parts ≡ check * 2 ^ ((length ys + 1) * m + r) + (sum * 2 ^ ((length ys + 1) * m) + (mask * 2 ^ (length ys * m) + stacked m ys 0))
  stacked_parts =
      let b = length ys in
      let P = 2 ^ (b * m) in
      let Q = 2 ^ m in
      let R = 2 ^ r in
      let above-sum : Q * P ≡ 2 ^ ((b + 1) * m) = mul_comm Q P ∙ sym (one_more m b) ∙ ap (λ n. 2 ^ (n * m)) (sym (add-one b)) in
      let above-check : R * (Q * P) ≡ 2 ^ ((b + 1) * m + r) = ap (λ x. R * x) above-sum ∙ mul_comm R (2 ^ ((b + 1) * m)) ∙ sym (pow-add 2 ((b + 1) * m) r) in
      stacked_top m ys top_parts
      ∙ ap (λ x. x + stacked m ys 0)
      (add-mul ((check * R + sum) * Q) mask P ∙ ap (λ x. x + mask * P)
      (mul_assoc (check * R + sum) Q P ∙ add-mul (check * R) sum (Q * P) ∙ ap (λ x. x + sum * (Q * P)) (mul_assoc check R (Q * P) ∙ ap (λ x. check * x) above-check) ∙ ap (λ x. check * 2 ^ ((b + 1) * m + r) + sum * x) above-sum))
      ∙ omega arith

  pub ones_parts : Below m ys → mask < 2 ^ m → sum < 2 ^ r → ones (stacked m ys top_parts) ≡ all_ones ys + ones mask + ones sum + ones check
  ones_parts h hm hs =
      ones_stacked m ys top_parts h ∙ ap (λ n. all_ones ys + n) (ones_cat m (check * 2 ^ r + sum) mask hm ∙ ap (λ n. n + ones mask) (ones_cat r check sum hs)) ∙ omega arith

-- a part put above what is there already, in a row of k bits
put : (before after k n v a w : ℕ) → after ≡ bit_or before (v * 2 ^ a) % 2 ^ k → before ≡ n → n < 2 ^ a → v < 2 ^ w → a + w ≤ k → after ≡ v * 2 ^ a + n
put before after k n v a w is was low small inside = is ∙ ap (λ x. bit_or x (v * 2 ^ a) % 2 ^ k) was ∙ or_fresh n v a w k low small inside

-- the parts put one after the other above the blocks, and the parity bit above them all
module _ (m r : ℕ) (ys : List ℕ) (mask sum check : ℕ) (blocks : Below m ys) (hm : mask < 2 ^ m) (hs : sum < 2 ^ r) (hc : check < 2 ^ m) where
  abbrev with_mask : ℕ
  with_mask = mask * 2 ^ (length ys * m) + stacked m ys 0

  abbrev with_sum : ℕ
  with_sum = sum * 2 ^ ((length ys + 1) * m) + with_mask

  abbrev with_check : ℕ
  with_check = check * 2 ^ ((length ys + 1) * m + r) + with_sum

  mask_lt : with_mask < 2 ^ ((length ys + 1) * m)
  mask_lt = subst (λ e. with_mask < 2 ^ e) (omega (arith, add-mul (length ys) 1 m)) (put_lt (stacked m ys 0) mask (length ys * m) m (stacked_lt m ys blocks) hm)

  sum_lt : with_sum < 2 ^ ((length ys + 1) * m + r)
  sum_lt = put_lt with_mask sum ((length ys + 1) * m) r mask_lt hs

  check_lt : with_check < 2 ^ ((length ys + 2) * m + r)
  check_lt = subst (λ e. with_check < 2 ^ e) (omega (arith, add-mul (length ys) 1 m, add-mul (length ys) 2 m)) (put_lt with_sum check ((length ys + 1) * m + r) m sum_lt hc)

  pub all_put : (f₀ f₁ f₂ f₃ f₄ k₁ k₂ k₃ k₄ bit : ℕ) → f₀ ≡ stacked m ys 0
      → f₁ ≡ bit_or f₀ (mask * 2 ^ (length ys * m)) % 2 ^ k₁ → f₂ ≡ bit_or f₁ (sum * 2 ^ ((length ys + 1) * m)) % 2 ^ k₂
      → f₃ ≡ bit_or f₂ (check * 2 ^ ((length ys + 1) * m + r)) % 2 ^ k₃ → f₄ ≡ bit_or f₃ (bit * 2 ^ ((length ys + 2) * m + r)) % 2 ^ k₄
      → (length ys + 2) * m + r + 1 ≤ k₁ → (length ys + 2) * m + r + 1 ≤ k₂ → (length ys + 2) * m + r + 1 ≤ k₃ → (length ys + 2) * m + r + 1 ≤ k₄
      → bit ≡ (all_ones ys + ones mask + ones sum + ones check) % 2
      → f₄ ≡ with_parity ((length ys + 2) * m + r) (stacked m ys (top_parts m r ys mask sum check))
  all_put f₀ f₁ f₂ f₃ f₄ k₁ k₂ k₃ k₄ bit was put₁ put₂ put₃ put₄ room₁ room₂ room₃ room₄ odd =
      let once = add-mul (length ys) 1 m in
      let twice = add-mul (length ys) 2 m in
      let is₁ = put f₀ f₁ k₁ (stacked m ys 0) mask (length ys * m) m put₁ was (stacked_lt m ys blocks) hm (omega arith) in
      let is₂ = put f₁ f₂ k₂ with_mask sum ((length ys + 1) * m) r put₂ is₁ mask_lt hs (omega arith) in
      let is₃ = put f₂ f₃ k₃ with_sum check ((length ys + 1) * m + r) m put₃ is₂ sum_lt hc (omega arith) in
      let one_bit : bit < 2 ^ 1 = subst (λ n. n < 2) (sym odd) (mod-lt (all_ones ys + ones mask + ones sum + ones check) (omega arith)) in
      put f₃ f₄ k₄ with_check bit ((length ys + 2) * m + r) 1 put₄ is₃ check_lt one_bit room₄
      ∙ ap₂ (λ p n. p * 2 ^ ((length ys + 2) * m + r) + n) (odd ∙ ap (λ n. n % 2) (sym (ones_parts m r ys mask sum check blocks hm hs))) (sym (stacked_parts m r ys mask sum check))
