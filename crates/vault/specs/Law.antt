-- The law of a vault, over every run: what a read hands out, what two flips do, and how few salts let a chosen pattern through.
-- Assumes nothing.
use Rattle.std.specs.Prelude.{◌≡◌, ℕ, ◌+◌, ◌*◌, ◌<◌, ◌≤◌, List, map, length, Ok, Err, ◌≢◌, bit_xor, count_ones}
use Rattle.std.specs.List.{AllByRecursion}
use Rattle.bits.specs.Rows.{little}
use Rattle.field.specs.Polynomials.{Distinct}
use Rattle.frame.specs.Checks.{weight}
use Rattle.frame.specs.Opening.{refused}
use Rattle.frame.specs.Promises.{bits_of}
use Rattle.frame.specs.Sealing.{sealing}
use Rattle.frame.specs.declared.verdict.OpenFault.{OpenFault}
use Rattle.frame.specs.declared.verdict.Verdict.{Verdict}
use Rattle.vault.specs.declared.answers.Counts.{Counts}
use Rattle.vault.specs.declared.answers.ReadFault.{ReadFault}
use Rattle.vault.specs.Cells.{Vault, count, cell}
use Rattle.vault.specs.Calls.{Call, write, read, sweep, Answer, wrote, got, counted, Does, cell_opening, refused_count, tally}
use Rattle.vault.specs.Runs.{Event, Run, Spares, LastWritten, Calm}

-- the answer hands out the word ys; another word than ys; nothing
pub data HandsOut (ys : List ℕ) : Answer → Type 0 where
  hands_out : {verdict : Verdict} → HandsOut ys (got (Ok verdict) ys)

pub data HandsOutOther (ys : List ℕ) : Answer → Type 0 where
  other : {verdict : Verdict} {zs : List ℕ} → (zs ≢ ys) → HandsOutOther ys (got (Ok verdict) zs)

pub data Refuses : Answer → Type 0 where
  refuses : {fault : ReadFault} {places : List ℕ} → Refuses (got (Err fault) places)

-- (a) A read of a calm cell into a row of b places hands out the word last written there.
abbrev pub CalmReads : Vault → Type 0
CalmReads V =
    (first row : List ℕ) (events : List Event) (c : ℕ) (ys : List ℕ) (a : ℕ) (places : List ℕ) (answer : Answer) (after : List ℕ)
    → Run V first events row → Calm V c ys a events → length places ≡ V.b → Does V row (read c places) answer after → HandsOut ys answer

-- the frame of cell c differs in just two bits from the sealing of ys with a
abbrev pub TwoOff : Vault → ℕ → List ℕ → ℕ → List ℕ → Type 0
TwoOff V c ys a row = count_ones (bit_xor (bits_of V.K V.b (little (cell V c row))) (sealing V.K ys a)) ≡ 2

-- a sweep leaves cell c as it is, and counts it among the refused
pub record LeftRefused (V : Vault) (c : ℕ) (row : List ℕ) (answer : Answer) (after : List ℕ) : Type 0 where
  pub kept : cell V c after ≡ cell V c row
  pub below : c < count V row
  pub fault : OpenFault
  pub outcome : cell_opening V c row ≡ refused fault
  pub counts : Counts
  pub told : answer ≡ counted counts
  pub tallied : counts.refused ≡ tally refused_count V row (count V row)

-- (b) Such a cell is refused by every read, left as it is by every sweep, and counted there as refused.
pub record TwoFlipsRefused (V : Vault) : Type 0 where
  pub reads : (first row : List ℕ) (events : List Event) (c : ℕ) (ys : List ℕ) (a : ℕ) (places : List ℕ) (answer : Answer) (after : List ℕ)
      → Run V first events row → LastWritten c ys a events → TwoOff V c ys a row → Does V row (read c places) answer after → Refuses answer
  pub sweeps : (first row : List ℕ) (events : List Event) (c : ℕ) (ys : List ℕ) (a : ℕ) (answer : Answer) (after : List ℕ)
      → Run V first events row → LastWritten c ys a events → TwoOff V c ys a row → Does V row sweep answer after
      → LeftRefused V c row answer after

-- with the salt a in one accepted write of ys into cell c, between the calls `before` and `after` (each the newest first), a read of the cell then hands out another word
pub record Misled (V : Vault) (first : List ℕ) (before : List Call) (c : ℕ) (ys : List ℕ) (after : List Call) (places : List ℕ) (a : ℕ) : Type 0 where
  pub earlier : List Event
  pub row₀ : List ℕ
  pub run₀ : Run V first earlier row₀
  pub calls₀ : map (λ e. e.call) earlier ≡ before
  pub row₁ : List ℕ
  pub write_of : Does V row₀ (write c ys a) (wrote (Ok tt)) row₁
  pub later : List Event
  pub row₂ : List ℕ
  pub run₁ : Run V row₁ later row₂
  pub calls₁ : map (λ e. e.call) later ≡ after
  pub spared : AllByRecursion (Spares c) later
  pub answer : Answer
  pub row₃ : List ℕ
  pub read_of : Does V row₂ (read c places) answer row₃
  pub misled : HandsOutOther ys answer

-- (c) The same calls from the same first row, but for the salt of one accepted write, with no sweep and no accepted write of the cell before the read: at most (b + 1) × w salts mislead it.
abbrev pub FewMislead : Vault → Type 0
FewMislead V =
    (first : List ℕ) (before : List Call) (c : ℕ) (ys : List ℕ) (after : List Call) (places : List ℕ)
    → (salts : List ℕ) → Distinct salts → AllByRecursion (Misled V first before c ys after places) salts
    → length salts ≤ (V.b + 1) * weight V.b

-- the law
pub record Law (V : Vault) : Type 0 where
  pub calm : CalmReads V
  pub two_flips : TwoFlipsRefused V
  pub few : FewMislead V
