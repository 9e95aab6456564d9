use Rattle.std.proofs.Common.{◌≡◌, drop}
use lib.Bits.{bit_xor}
use Rattle.bits.specs.Digits.{pick}
use Rattle.columns.proofs.sum.column_sum.Given as goal

abbrev pub invariant-loop-bit : goal.invariant-loop-bit
invariant-loop-bit g l = bit_xor l.sum (pick (drop l.bit (g.C.ColumnSet.columns l.set)) l.rest) ≡ pick (g.C.ColumnSet.columns l.set) l.x
