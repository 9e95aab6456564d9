-- The table set's columns, for bits 0 to 6.
-- Assumes nothing.
use Rattle.std.specs.Prelude.{ℕ, List, [], ◌∷◌}

abbrev pub listed : List ℕ
listed = 12 ∷ 6 ∷ 14 ∷ 9 ∷ 5 ∷ 13 ∷ 3 ∷ []
