-- Polynomials over a field, as lists of coefficients, the constant one first; all on the numbers of elements.
-- Assumes nothing.
use Rattle.std.specs.Prelude.{◌≡◌, ℕ, ◌^◌, ◌<◌, ◌≤◌, List, [], ◌∷◌, length, ◌≢◌, bit_xor}
use Rattle.std.specs.List.{AllByRecursion}

-- c0 + x (c1 + x (c2 + ..))
abbrev pub value_at : (ℕ → ℕ → ℕ) → List ℕ → ℕ → ℕ
value_at mul [] x = 0
value_at mul (c ∷ cs) x = bit_xor c (mul x (value_at mul cs x))

-- no two are equal
abbrev pub Distinct : List ℕ → Type 0
Distinct [] = Unit {0}
Distinct (x ∷ xs) = AllByRecursion (λ y. x ≢ y) xs × Distinct xs

-- a polynomial with as many different roots as it has coefficients is zero in all of them
abbrev pub Roots : ℕ → (ℕ → ℕ → ℕ) → Type 0
Roots m mul =
    (cs xs : List ℕ) → AllByRecursion (λ c. c < 2 ^ m) cs → AllByRecursion (λ x. x < 2 ^ m) xs → Distinct xs
    → AllByRecursion (λ x. value_at mul cs x ≡ 0) xs → length cs ≤ length xs → AllByRecursion (λ c. c ≡ 0) cs
