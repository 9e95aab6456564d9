use Rattle.std.proofs.Common.{◌≡◌}
use Rattle.vault.specs.Held.{vault_of, Keeps}
use Rattle.vault.proofs.Tally.{Swept}
use Rattle.vault.proofs.parts.Vault.sweep.Given as goal

abbrev pub invariant-loop-cell : goal.invariant-loop-cell
invariant-loop-cell g l =
    record {
      kept : Keeps g.B.Bank l.initial.self l.self;
      swept : Swept (vault_of g.F.Field g.C.ColumnSet l.initial.self) (g.B.Bank.row l.initial.self.bank) l.cell l.counts (g.B.Bank.row l.self.bank);
      still : l.counts.mended ≡ 0 → l.self ≡ l.initial.self;
    }
