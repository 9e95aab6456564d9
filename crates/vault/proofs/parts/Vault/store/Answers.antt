use Rattle.vault.specs.Held.{vault_of}
use Rattle.vault.proofs.Rows.{cell_inside}
use Rattle.vault.proofs.parts.Vault.store.Goals as goal

pub store-requires : goal.store-requires
store-requires g c =
    let held = c.args.self.now in
    rw c.requires.long (cell_inside (vault_of g.F.Field g.C.ColumnSet held) (g.B.Bank.row held.bank) c.args.cell c.requires.below)
