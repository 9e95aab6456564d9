-- Sums over the binary digits of a number: of what stands beside its set digits, by exclusive-or.
-- Assumes nothing.
use Rattle.std.specs.Prelude.{◌≡◌, ℕ, ◌*◌, ◌/◌, ◌%◌, ◌^◌, ◌<◌, List, [], ◌∷◌, bit_xor}

-- the exclusive-or of those cs that stand at the places of the set digits of x, the lowest digit first
abbrev pub pick : List ℕ → ℕ → ℕ
pick [] x = 0
pick (c ∷ cs) x = bit_xor (x % 2 * c) (pick cs (x / 2))

-- f of an exclusive-or is the exclusive-or of the two values of f, for numbers of k digits
abbrev pub Linear : ℕ → (ℕ → ℕ) → Type 0
Linear k f = (x y : ℕ) → x < 2 ^ k → y < 2 ^ k → f (bit_xor x y) ≡ bit_xor (f x) (f y)
