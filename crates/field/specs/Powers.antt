-- Powers in a field, on the numbers of its elements.
-- Assumes nothing.
use Rattle.std.specs.Prelude.{ℕ, zero, suc}

-- a times itself, k factors in all
abbrev pub power : (ℕ → ℕ → ℕ) → ℕ → ℕ → ℕ
power mul a zero = 1
power mul a (suc k) = mul a (power mul a k)
