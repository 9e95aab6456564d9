use Rattle.std.proofs.Common.{◌≡◌, take}
use Rattle.bits.specs.Rows.{xored}
use Rattle.vault.proofs.bytes.xor_into.Given as goal

abbrev pub invariant-loop-i : goal.invariant-loop-i
invariant-loop-i l = l.bytes ≡ xored l.initial.bytes (take l.i l.pattern)
