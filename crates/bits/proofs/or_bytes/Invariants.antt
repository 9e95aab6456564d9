-- What is still to be ored in, with what the row holds, is what was asked for.
-- Assumes nothing.
use Rattle.std.proofs.Common.{◌≡◌, ◌+◌, ◌*◌, ◌%◌, ◌^◌, length, drop, bit_or}
use Rattle.bits.specs.Rows.{Bytes, little}
use Rattle.bits.proofs.or_bytes.Given as goal

abbrev pub invariant-loop-i : goal.invariant-loop-i
invariant-loop-i l =
    Bytes l.row
    × (bit_or (little l.row) (little (drop l.i l.bytes) * 2 ^ (8 * (l.first + l.i))) % 2 ^ (8 * length l.initial.row)
    ≡ bit_or (little l.initial.row) (little l.bytes * 2 ^ (8 * l.first)) % 2 ^ (8 * length l.initial.row))
