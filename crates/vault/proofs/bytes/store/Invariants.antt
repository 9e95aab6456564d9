use Rattle.std.proofs.Common.{◌≡◌}
use lib.Seq.{paste}
use Rattle.vault.proofs.bytes.store.Given as goal

abbrev pub invariant-loop-i : goal.invariant-loop-i
invariant-loop-i g l =
    (g.B.Bank.row l.bank ≡ paste (g.B.Bank.row l.initial.bank) l.start l.bytes l.i)
    × (g.B.Bank.seams l.bank ≡ g.B.Bank.seams l.initial.bank)
