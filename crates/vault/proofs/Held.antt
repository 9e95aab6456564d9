-- A vault that a program holds, after a call that keeps its parts.
-- Assumes nothing.
use Rattle.std.proofs.Common.{◌≡◌, ap, ◌∙◌, ap₂}
use Rattle.field.specs.declared.Field.{Ghosts as FieldGhosts}
use Rattle.columns.specs.declared.ColumnSet.{Ghosts as SetGhosts}
use Rattle.bank.specs.declared.Bank.{Ghosts as BankGhosts}
use Rattle.frame.specs.Code.{code_of}
use Rattle.vault.specs.Cells.{vault}
use Rattle.vault.specs.Held.{vault_of, Keeps}
use Rattle.vault.specs.declared.parts.Vault.{Vault as Held}

module _ {T E S R : Type 0} (F : FieldGhosts T E) (C : SetGhosts S) (B : BankGhosts R) where
  pub vault_kept : (before after : Held T S R E) → Keeps B before after → vault_of F C after ≡ vault_of F C before
  vault_kept before after kept =
      ap (λ set. vault (code_of F C set) after.blocks after.cells) kept.set ∙ ap₂ (vault (code_of F C before.set)) kept.blocks kept.cells

  pub kept_twice : (first second third : Held T S R E) → Keeps B second third → Keeps B first second → Keeps B first third
  kept_twice first second third later earlier =
      record { set = later.set ∙ earlier.set; blocks = later.blocks ∙ earlier.blocks; cells = later.cells ∙ earlier.cells; seams = later.seams ∙ earlier.seams }
