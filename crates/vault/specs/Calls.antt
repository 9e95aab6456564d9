-- What each call of a vault does: its answer, and the bank's row after it, by the row before it.
-- Assumes nothing.
use Rattle.std.specs.Prelude.{◌≡◌, ℕ, zero, suc, ◌+◌, ◌*◌, ◌<◌, cond, List, length, drop, Ok, Err, Result, ◌==◌, nat_lt}
use Rattle.bits.specs.Rows.{little, xored}
use Rattle.frame.specs.Opening.{Outcome, clean, mended, refused, opening, filled}
use Rattle.frame.specs.Renewal.{renewed}
use Rattle.frame.specs.Sealing.{sealing, row_sealing, bytes_of}
use Rattle.frame.specs.declared.verdict.SealFault.{SealFault}
use Rattle.frame.specs.declared.verdict.Verdict.{Verdict}
use Rattle.frame.specs.declared.verdict.Verdict.TheVariants.{Clean, Mended}
use Rattle.vault.specs.Cells.{Vault, cell_bytes, count, cell, with_cell}
use Rattle.vault.specs.declared.answers.Counts.{Counts}
use Rattle.vault.specs.declared.answers.InjectFault.{InjectFault}
use Rattle.vault.specs.declared.answers.InjectFault.TheVariants as injects
use Rattle.vault.specs.declared.answers.ReadFault.{ReadFault}
use Rattle.vault.specs.declared.answers.ReadFault.TheVariants as reads
use Rattle.vault.specs.declared.answers.WriteFault.{WriteFault}
use Rattle.vault.specs.declared.answers.WriteFault.TheVariants as writes

-- write: refused for a cell not below the count, a word not of b blocks, and then as sealing refuses
abbrev pub write_sealed : Result ℕ SealFault → Result (Unit {0}) WriteFault
write_sealed (Ok N) = Ok tt
write_sealed (Err fault) = Err (writes.Seal fault)

abbrev pub write_answer : Vault → List ℕ → ℕ → List ℕ → ℕ → Result (Unit {0}) WriteFault
write_answer V row c ys a =
    cond (nat_lt c (count V row))
    (cond (length ys == V.b) (write_sealed (row_sealing V.K ys a (cell_bytes V))) (Err writes.Size)) (Err writes.Cell)

abbrev pub written : Vault → List ℕ → ℕ → List ℕ → ℕ → Result (Unit {0}) WriteFault → List ℕ
written V row c ys a (Ok u) = with_cell V c (bytes_of (cell_bytes V) (sealing V.K ys a)) row
written V row c ys a (Err fault) = row

-- what a cell opens to
abbrev pub cell_opening : Vault → ℕ → List ℕ → Outcome
cell_opening V c row = opening V.K V.b (little (cell V c row))

-- read: refused for a cell not below the count, a row not of b places, and then as the frame is refused
abbrev pub opened : ℕ → Outcome → Result Verdict ReadFault
opened c (clean ys a) = Ok Clean
opened c (mended part ys a) = Ok (Mended part)
opened c (refused fault) = Err (reads.Frame c fault)

abbrev pub read_answer : Vault → List ℕ → ℕ → ℕ → Result Verdict ReadFault
read_answer V row c places =
    cond (nat_lt c (count V row)) (cond (places == V.b) (opened c (cell_opening V c row)) (Err reads.Size)) (Err reads.Cell)

-- the receiving row after it
abbrev pub received : Vault → List ℕ → ℕ → List ℕ → Result Verdict ReadFault → List ℕ
received V row c before (Ok verdict) = filled (cell_opening V c row) before
received V row c before (Err fault) = before

-- inject: refused for a cell not below the count, and for a pattern that has not the bytes of a cell
abbrev pub inject_answer : Vault → List ℕ → ℕ → List ℕ → Result (Unit {0}) InjectFault
inject_answer V row c pattern =
    cond (nat_lt c (count V row)) (cond (length pattern == cell_bytes V) (Ok tt) (Err injects.Size)) (Err injects.Cell)

abbrev pub injected : Vault → List ℕ → ℕ → List ℕ → Result (Unit {0}) InjectFault → List ℕ
injected V row c pattern (Ok u) = with_cell V c (xored (cell V c row) pattern) row
injected V row c pattern (Err fault) = row

-- what a sweep does to a cell: a mended frame is sealed anew
abbrev pub swept_cell : Vault → ℕ → List ℕ → List ℕ
swept_cell V c row = renewed V.K (cell V c row) (cell_opening V c row)

-- the three kinds of cell, and how many of the first n are of each
abbrev pub clean_count : Outcome → ℕ
clean_count (clean ys a) = 1
clean_count (mended part ys a) = 0
clean_count (refused fault) = 0

abbrev pub mended_count : Outcome → ℕ
mended_count (clean ys a) = 0
mended_count (mended part ys a) = 1
mended_count (refused fault) = 0

abbrev pub refused_count : Outcome → ℕ
refused_count (clean ys a) = 0
refused_count (mended part ys a) = 0
refused_count (refused fault) = 1

abbrev pub tally : (Outcome → ℕ) → Vault → List ℕ → ℕ → ℕ
tally kind V row zero = 0
tally kind V row (suc n) = tally kind V row n + kind (cell_opening V n row)

-- a sweep: each cell is swept, the bytes past the cells stay, and the cells are counted as they were
pub record Sweeps (V : Vault) (row : List ℕ) (counts : Counts) (after : List ℕ) : Type 0 where
  pub long : length after ≡ length row
  pub each : (c : ℕ) → c < count V row → cell V c after ≡ swept_cell V c row
  pub rest : drop (count V row * cell_bytes V) after ≡ drop (count V row * cell_bytes V) row
  pub clean : counts.clean ≡ tally clean_count V row (count V row)
  pub mended : counts.mended ≡ tally mended_count V row (count V row)
  pub refused : counts.refused ≡ tally refused_count V row (count V row)

-- a call with its arguments, and what it answers: a read also hands out the receiving row
pub data Call : Type 0 where
  write : ℕ → List ℕ → ℕ → Call
  read : ℕ → List ℕ → Call
  sweep : Call
  inject : ℕ → List ℕ → Call

pub data Answer : Type 0 where
  wrote : Result (Unit {0}) WriteFault → Answer
  got : Result Verdict ReadFault → List ℕ → Answer
  counted : Counts → Answer
  struck : Result (Unit {0}) InjectFault → Answer

-- what the calls promise: the answer to a call on a row, and the row after it
abbrev pub Does : Vault → List ℕ → Call → Answer → List ℕ → Type 0
Does V row (write c ys a) answer after =
    let told = write_answer V row c ys a in (answer ≡ wrote told) × (after ≡ written V row c ys a told)
Does V row (read c places) answer after =
    let told = read_answer V row c (length places) in (answer ≡ got told (received V row c places told)) × (after ≡ row)
Does V row sweep answer after = (counts : Counts) × (answer ≡ counted counts) × Sweeps V row counts after
Does V row (inject c pattern) answer after =
    let told = inject_answer V row c pattern in (answer ≡ struck told) × (after ≡ injected V row c pattern told)
