-- The numbers of the refusals.
-- Assumes nothing.
use Rattle.std.specs.Prelude.{ℕ}
use Rattle.frame.specs.Faults.{seal_number, open_number}
use Rattle.vault.specs.declared.answers.InjectFault.{InjectFault}
use Rattle.vault.specs.declared.answers.InjectFault.TheVariants as injects
use Rattle.vault.specs.declared.answers.ReadFault.{ReadFault}
use Rattle.vault.specs.declared.answers.ReadFault.TheVariants.{Frame}
use Rattle.vault.specs.declared.answers.ReadFault.TheVariants as reads
use Rattle.vault.specs.declared.answers.WriteFault.{WriteFault}
use Rattle.vault.specs.declared.answers.WriteFault.TheVariants.{Seal}
use Rattle.vault.specs.declared.answers.WriteFault.TheVariants as writes

-- 1 for the cell, 2 for the size, and else the number of the frame's refusal
abbrev pub write_number : WriteFault → ℕ
write_number writes.Cell = 1
write_number writes.Size = 2
write_number (Seal fault) = seal_number fault

abbrev pub read_number : ReadFault → ℕ
read_number reads.Cell = 1
read_number reads.Size = 2
read_number (Frame cell fault) = open_number fault

abbrev pub inject_number : InjectFault → ℕ
inject_number injects.Cell = 1
inject_number injects.Size = 2
