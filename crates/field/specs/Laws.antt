-- What a field is, on the numbers of its elements: 0 to 2 ^ m - 1. The sum is the exclusive-or.
-- Assumes nothing.
use Rattle.std.specs.Prelude.{◌≡◌, ℕ, ◌^◌, ◌<◌, ◌⊎◌, bit_xor}

pub record Laws (m : ℕ) (mul : ℕ → ℕ → ℕ) : Type 0 where
  -- there is an element with the number 1
  pub one : 1 < 2 ^ m
  pub closed : (x y : ℕ) → x < 2 ^ m → y < 2 ^ m → mul x y < 2 ^ m
  pub comm : (x y : ℕ) → x < 2 ^ m → y < 2 ^ m → mul x y ≡ mul y x
  pub assoc : (x y z : ℕ) → x < 2 ^ m → y < 2 ^ m → z < 2 ^ m → mul (mul x y) z ≡ mul x (mul y z)
  pub distributes : (x y z : ℕ) → x < 2 ^ m → y < 2 ^ m → z < 2 ^ m → mul x (bit_xor y z) ≡ bit_xor (mul x y) (mul x z)
  pub neutral : (x : ℕ) → x < 2 ^ m → mul 1 x ≡ x
  -- a product is zero only where a factor is
  pub integral : (x y : ℕ) → x < 2 ^ m → y < 2 ^ m → mul x y ≡ 0 → (x ≡ 0) ⊎ (y ≡ 0)
