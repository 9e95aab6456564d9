-- The products of the two fields, and the powers of z in the field of width 7.
-- Assumes nothing.
use Rattle.std.specs.Prelude.{ℕ}
use Rattle.field.specs.Powers.{power}
use Rattle.field.specs.Products.{product}

-- modulo z^7 + z^3 + 1
abbrev pub product7 : ℕ → ℕ → ℕ
product7 = product 6 137

-- modulo z^17 + z^3 + 1
abbrev pub product17 : ℕ → ℕ → ℕ
product17 = product 16 131081

-- z has the number 2
abbrev pub z_power : ℕ → ℕ
z_power i = power product7 2 i
