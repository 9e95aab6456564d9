-- The product of polynomials over two elements, modulo one of them. A polynomial is a number: digit i is the coefficient of z^i.
-- Assumes nothing.
use Rattle.std.specs.Prelude.{ℕ, zero, suc, ◌*◌, ◌/◌, ◌%◌, ◌^◌, List, [], ◌∷◌, bit_xor}
use Rattle.bits.specs.Digits.{pick}

-- x times z modulo p, of degree n + 1: a shift, and p is taken away where digit n was set
abbrev pub times_z : ℕ → ℕ → ℕ → ℕ
times_z n p x = bit_xor (x * 2) (x / 2 ^ n * p)

-- x, f x, f (f x) and so on, k in all
abbrev pub orbit : ℕ → (ℕ → ℕ) → ℕ → List ℕ
orbit zero f x = []
orbit (suc k) f x = x ∷ orbit k f (f x)

-- x times y modulo p, of degree n + 1: the sum of x times z^i over the set digits i of y
unfoldable pub product : ℕ → ℕ → ℕ → ℕ → ℕ
product n p x y = pick (orbit (suc n) (times_z n p) x) y

-- the product of two polynomials, not reduced, where y has k digits
unfoldable pub plain_product : ℕ → ℕ → ℕ → ℕ
plain_product k x y = pick (orbit k (λ v. v * 2) x) y

-- t reduced once by z^m = z^k + 1: the digits from m on move down to 0 and to k
abbrev pub fold : ℕ → ℕ → ℕ → ℕ
fold m k t = bit_xor (bit_xor (t % 2 ^ m) (t / 2 ^ m * 2 ^ k)) (t / 2 ^ m)
