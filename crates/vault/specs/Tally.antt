-- What a sweep finds a cell to be, and how it counts it.
-- Assumes nothing.
use Rattle.std.specs.Prelude.{ℕ, ◌+◌, Ok, Err, Result}
use Rattle.frame.specs.Opening.{Outcome, clean, mended, refused}
use Rattle.frame.specs.declared.verdict.OpenFault.{OpenFault}
use Rattle.frame.specs.declared.verdict.Verdict.{Verdict}
use Rattle.frame.specs.declared.verdict.Verdict.TheVariants.{Clean, Mended}
use Rattle.vault.specs.declared.answers.Counts.{Counts}

abbrev pub found_of : Outcome → Result Verdict OpenFault
found_of (clean ys a) = Ok Clean
found_of (mended part ys a) = Ok (Mended part)
found_of (refused fault) = Err fault

-- the counts with one cell more
abbrev pub with_one : Counts → Result Verdict OpenFault → Counts
with_one counts (Ok Clean) = record counts { clean = counts.clean + 1 }
with_one counts (Ok (Mended part)) = record counts { mended = counts.mended + 1 }
with_one counts (Err fault) = record counts { refused = counts.refused + 1 }

-- 1 for a mended cell, and else 0
abbrev pub mended_found : Result Verdict OpenFault → ℕ
mended_found (Ok Clean) = 0
mended_found (Ok (Mended part)) = 1
mended_found (Err fault) = 0
