-- A vault that a program holds: what it means, and what a call does to it. F, C and B are the ghost members of its field, its column set and its bank.
-- Assumes nothing.
use Rattle.std.specs.Prelude.{◌≡◌, ℕ, ◌<◌, ◌≤◌, List, Option, Result, MatchOption}
use Rattle.field.specs.declared.Field.{Ghosts as FieldGhosts}
use Rattle.columns.specs.declared.ColumnSet.{Ghosts as SetGhosts}
use Rattle.bank.specs.declared.Bank.{Ghosts as BankGhosts}
use Rattle.frame.specs.Code.{code_of}
use Rattle.frame.specs.declared.verdict.OpenFault.{OpenFault}
use Rattle.frame.specs.declared.verdict.Verdict.{Verdict}
use Rattle.vault.specs.Cells.{Vault, vault, cell_bytes, count, with_cell}
use Rattle.vault.specs.Calls.{Call, Answer, Does, cell_opening, swept_cell}
use Rattle.vault.specs.Tally.{found_of}
use Rattle.vault.specs.declared.parts.Vault.{Vault as Held}

-- the vault that it means
abbrev pub vault_of : {T E S R : Type 0} → FieldGhosts T E → SetGhosts S → Held T S R E → Vault
vault_of F C held = vault (code_of F C held.set) held.blocks held.cells

-- a call with this answer makes `after` of `before`
abbrev pub Performs : {T E S R : Type 0} → FieldGhosts T E → SetGhosts S → BankGhosts R → Held T S R E → Call → Answer → Held T S R E → Type 0
Performs F C B before call answer after = Does (vault_of F C before) (B.row before.bank) call answer (B.row after.bank)

-- the bytes of a cell, if c is below the count
abbrev pub HasLength : Vault → ℕ → List ℕ → Option ℕ → Type 0
HasLength V c row told = MatchOption told (count V row ≤ c) (λ len. (c < count V row) × (len ≡ cell_bytes V))

-- `after` has these bytes in cell c, and else the row of `before`
abbrev pub PutsCell : {T E S R : Type 0} → FieldGhosts T E → SetGhosts S → BankGhosts R → Held T S R E → ℕ → List ℕ → Held T S R E → Type 0
PutsCell F C B before c bytes after = B.row after.bank ≡ with_cell (vault_of F C before) c bytes (B.row before.bank)

-- a sweep of cell c finds it to be this, and makes `after` of `before`
abbrev pub SweepsCell : {T E S R : Type 0} → FieldGhosts T E → SetGhosts S → BankGhosts R → Held T S R E → ℕ → Result Verdict OpenFault → Held T S R E → Type 0
SweepsCell F C B before c found after =
    let V = vault_of F C before in
    let row = B.row before.bank in
    (found ≡ found_of (cell_opening V c row)) × PutsCell F C B before c (swept_cell V c row) after

-- the column set, the numbers and the seams of the bank stay
pub record Keeps {T E S R : Type 0} (B : BankGhosts R) (before after : Held T S R E) : Type 0 where
  pub set : after.set ≡ before.set
  pub blocks : after.blocks ≡ before.blocks
  pub cells : after.cells ≡ before.cells
  pub seams : B.seams after.bank ≡ B.seams before.bank
