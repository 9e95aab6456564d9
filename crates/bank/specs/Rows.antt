-- What a bank means: a row of bytes, at most 65,536 of them.
-- Assumes nothing.
use Rattle.std.specs.Prelude.{ℕ, ◌≤◌, cond, List, [], length, nat_le}
use Rattle.std.proofs.Common.{zero-le}
use Rattle.std.proofs.lemmas.Bool.{cond_both, leb-true}

-- a row of at most 65,536 bytes as it is, and a longer one as the empty row
abbrev pub bounded : List ℕ → List ℕ
bounded bytes = cond (nat_le (length bytes) 65536) bytes []

-- that row has at most 65,536 bytes
pub bounded_short : (bytes : List ℕ) → length (bounded bytes) ≤ 65536
bounded_short bytes =
    cond_both (nat_le (length bytes) 65536) bytes [] (λ r. length r ≤ 65536) (leb-true (length bytes) 65536) (λ _. zero-le)

-- where the banks that a bank is made of meet: nowhere, or behind the bytes of the first of two, and within each of them
pub data Seams : Type 0 where
  none : Seams
  seam : ℕ → Seams → Seams → Seams
