-- The numbers of a draw's refusals.
-- Assumes nothing.
use Rattle.std.specs.Prelude.{ℕ}
use Rattle.salt.specs.declared.source.DrawFault.{DrawFault}
use Rattle.salt.specs.declared.source.DrawFault.TheVariants.{Unfit, Blocks, NoNoise}

abbrev pub fault_number : DrawFault → ℕ
fault_number Unfit = 9
fault_number Blocks = 2
fault_number NoNoise = 10
