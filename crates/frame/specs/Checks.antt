-- What guards a word and its salt: the check value, and the exclusive-or that the mask is made of.
-- Assumes nothing.
use Rattle.std.specs.Prelude.{ℕ, suc, ◌+◌, ◌-◌, ◌%◌, ◌^◌, ◌<◌, List, [], ◌∷◌, length, bit_xor, count_ones, slice_index}
use Rattle.field.specs.Powers.{power}

-- each block is the number of an element of width m
abbrev pub Below : ℕ → List ℕ → Type 0
Below m ys = (i : ℕ) → slice_index ys i < 2 ^ m

-- the exclusive-or of all
abbrev pub xor_all : List ℕ → ℕ
xor_all [] = 0
xor_all (y ∷ ys) = bit_xor y (xor_all ys)

-- the ones of all
abbrev pub all_ones : List ℕ → ℕ
all_ones [] = 0
all_ones (y ∷ ys) = count_ones y + all_ones ys

-- b + 1 for odd b, b + 2 for even b
abbrev pub weight : ℕ → ℕ
weight b = b + 2 - b % 2

-- y₁ × aⁱ + y₂ × aⁱ⁺¹ + …
abbrev pub terms : (ℕ → ℕ → ℕ) → ℕ → ℕ → List ℕ → ℕ
terms mul a i [] = 0
terms mul a i (y ∷ ys) = bit_xor (mul y (power mul a i)) (terms mul a (suc i) ys)

-- y₁ × a + y₂ × a² + … + y_b × aᵇ, and the last term, whose exponent is w + 1
abbrev pub check_value : (ℕ → ℕ → ℕ) → List ℕ → ℕ → ℕ
check_value mul ys a = bit_xor (terms mul a 1 ys) (power mul a (weight (length ys) + 1))
