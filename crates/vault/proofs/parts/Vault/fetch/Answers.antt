use Rattle.vault.specs.Held.{vault_of}
use Rattle.vault.proofs.Rows.{cell_inside}
use Rattle.vault.proofs.Shelf.{is_cell}
use Rattle.vault.proofs.parts.Vault.fetch.Goals as goal

pub fetch-requires : goal.fetch-requires
fetch-requires g c =
    let held = c.args.self.now in
    rw c.requires.long (cell_inside (vault_of g.F.Field g.C.ColumnSet held) (g.B.Bank.row held.bank) c.args.cell c.requires.below)

pub returns : goal.returns
returns g c =
    let held = c.args.self.now in
    is_cell (vault_of g.F.Field g.C.ColumnSet held) (g.B.Bank.row held.bank) c.args.cell _ _ c.requires.below c.requires.long c.fetch.ensures
