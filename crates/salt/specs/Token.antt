-- The number that a salt holds.
-- Assumes nothing.
use Rattle.std.specs.Prelude.{ℕ}
use Rattle.salt.specs.declared.source.Salt.{Salt}

abbrev pub salt_number : Salt → ℕ
salt_number s = s.value
