-- A column sum taken one column at a time.
-- Assumes nothing.
use Rattle.std.proofs.Common.{◌≡◌, ℕ, ◌+◌, ◌*◌, ◌/◌, ◌%◌, ◌<◌, ◌≤◌, List, length, get_or, drop, sym, ap, ◌∙◌, mul-le-mul_right, one-mul, add-one, arith, drop-cons}
use lib.Bits.{bit_and, bit_xor, and_mask, xor_assoc}
use Rattle.bits.specs.Digits.{pick}

-- a digit times a number is at most the number
pub digit_le : (x c : ℕ) → x % 2 * c ≤ c
digit_le x c = let low : x % 2 ≤ 1 = omega arith in rw one-mul at (mul-le-mul_right c low)

-- one turn of the loop: the column of the lowest digit left goes into the sum
pub sum_more : (cs : List ℕ) (i x s v : ℕ) → i < length cs → bit_xor s (pick (drop i cs) x) ≡ v → bit_xor (bit_xor s (bit_and x 1 * get_or cs i 0)) (pick (drop (i + 1) cs) (x / 2)) ≡ v
sum_more cs i x s v h e =
    let next : pick (drop i cs) x ≡ bit_xor (x % 2 * get_or cs i 0) (pick (drop (i + 1) cs) (x / 2)) = rw (add-one, drop-cons cs i 0) in
    xor_assoc s _ _ ∙ ap (λ d. bit_xor s (bit_xor (d * get_or cs i 0) (pick (drop (i + 1) cs) (x / 2)))) (and_mask x 1) ∙ ap (bit_xor s) (sym next) ∙ e
