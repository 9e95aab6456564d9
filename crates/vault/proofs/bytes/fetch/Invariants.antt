use Rattle.std.proofs.Common.{◌≡◌, take, drop}
use Rattle.vault.proofs.bytes.fetch.Given as goal

abbrev pub invariant-loop-i : goal.invariant-loop-i
invariant-loop-i g l = take l.i l.bytes ≡ take l.i (drop l.start (g.B.Bank.row l.bank))
