-- Which numbers are admitted as salts: by their powers in a field of width m with the product `mul`.
-- Assumes nothing.
use Rattle.std.specs.Prelude.{ℕ, zero, suc, ◌^◌, Bool, true, not, ◌&&◌, List, [], ◌∷◌, ◌==◌, nat_lt}
use Rattle.field.specs.Powers.{power}

-- the powers of a from the b-th down to the first
abbrev pub powers : (ℕ → ℕ → ℕ) → ℕ → ℕ → List ℕ
powers mul zero a = []
powers mul (suc b) a = power mul a (suc b) ∷ powers mul b a

-- x is not in the list
abbrev pub absent : ℕ → List ℕ → Bool
absent x [] = true
absent x (y ∷ ys) = not (x == y) && absent x ys

-- the numbers in the list all differ
abbrev pub different : List ℕ → Bool
different [] = true
different (x ∷ xs) = absent x xs && different xs

-- a is an element, and its first b powers are all nonzero and all different
abbrev pub admitted : ℕ → (ℕ → ℕ → ℕ) → ℕ → ℕ → Bool
admitted m mul b a = nat_lt a (2 ^ m) && absent 0 (powers mul b a) && different (powers mul b a)
