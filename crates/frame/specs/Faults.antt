-- The numbers of the refusals.
-- Assumes nothing.
use Rattle.std.specs.Prelude.{ℕ, Ok, Err, Result}
use Rattle.frame.specs.declared.verdict.Unfit.{Unfit}
use Rattle.frame.specs.declared.verdict.SealFault.{SealFault}
use Rattle.frame.specs.declared.verdict.SealFault.TheVariants.{Block}
use Rattle.frame.specs.declared.verdict.SealFault.TheVariants as seals
use Rattle.frame.specs.declared.verdict.OpenFault.{OpenFault}
use Rattle.frame.specs.declared.verdict.OpenFault.TheVariants.{Size, Salt, Even, Syndrome, Unmended}
use Rattle.frame.specs.declared.verdict.OpenFault.TheVariants as faults
use Rattle.frame.specs.declared.verdict.Misfit.{Misfit}
use Rattle.frame.specs.declared.verdict.Misfit.TheVariants as misfits

abbrev pub fit_number : Result (Unit {0}) Unfit → ℕ
fit_number (Ok u) = 0
fit_number (Err e) = 9

abbrev pub seal_number : SealFault → ℕ
seal_number seals.Unfit = 9
seal_number seals.Size = 2
seal_number Block = 3
seal_number seals.Salt = 4

abbrev pub open_number : OpenFault → ℕ
open_number faults.Unfit = 9
open_number Size = 2
open_number Salt = 5
open_number Even = 6
open_number Syndrome = 7
open_number Unmended = 8

-- a row that is no frame of so many blocks, as it is refused by a sealing and by an opening
abbrev pub seal_misfit : Misfit → SealFault
seal_misfit misfits.Unfit = seals.Unfit
seal_misfit misfits.Size = seals.Size

abbrev pub open_misfit : Misfit → OpenFault
open_misfit misfits.Unfit = faults.Unfit
open_misfit misfits.Size = Size
