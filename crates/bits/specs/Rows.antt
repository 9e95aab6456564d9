-- A row of bytes as one number, and runs of binary digits of a number.
-- Assumes nothing.
use Rattle.std.specs.Prelude.{ℕ, ◌+◌, ◌*◌, ◌/◌, ◌%◌, ◌^◌, List, [], ◌∷◌, bit_xor, slice_index}
use Rattle.std.specs.Int.{w8}
use Rattle.std.proofs.Common.{Fits}

-- each number of a row is a byte
abbrev pub Bytes : List ℕ → Type 0
Bytes xs = (i : ℕ) → Fits w8 (slice_index xs i)

-- the number whose bytes are xs, the lowest first
abbrev pub little : List ℕ → ℕ
little [] = 0
little (x ∷ xs) = little xs * 256 + x

-- the `width` binary digits of n from digit `at` on
abbrev pub part : ℕ → ℕ → ℕ → ℕ
part n at width = n / 2 ^ at % 2 ^ width

-- a row with another exclusive-ored in, byte by byte, from the first on
abbrev pub xored : List ℕ → List ℕ → List ℕ
xored [] ys = []
xored (x ∷ xs) [] = x ∷ xs
xored (x ∷ xs) (y ∷ ys) = bit_xor x y ∷ xored xs ys
