use Rattle.std.proofs.Common.{◌≡◌, drop}
use lib.Bits.{bit_xor}
use Rattle.frame.specs.Checks.{xor_all}
use Rattle.frame.proofs.word.fold.Given as goal

abbrev pub invariant-loop-y : goal.invariant-loop-y
invariant-loop-y l = bit_xor l.all (xor_all (drop l.y-index l.blocks)) ≡ xor_all l.blocks
