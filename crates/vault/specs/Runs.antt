-- Runs: any sequence of calls, from any first row, with their answers.
-- Assumes nothing.
use Rattle.std.specs.Prelude.{◌≡◌, ℕ, ◌^◌, ◌<◌, ◌≤◌, List, [], ◌∷◌, None, Ok, ◌≢◌, bit_or, count_ones}
use Rattle.bits.specs.Rows.{Bytes, little}
use Rattle.frame.specs.Code.{frame_bits}
use Rattle.frame.specs.Promises.{bits_of, part_hit}
use Rattle.vault.specs.Cells.{Vault}
use Rattle.vault.specs.Calls.{Call, write, read, sweep, inject, Answer, wrote, struck, Does}

-- a pattern is a row of bytes
abbrev pub Proper : Call → Type 0
Proper (write c ys a) = Unit {0}
Proper (read c places) = Unit {0}
Proper sweep = Unit {0}
Proper (inject c pattern) = Bytes pattern

-- a call that was made, with its answer
pub record Event : Type 0 where
  pub call : Call
  pub answer : Answer

-- the events of a run, the newest first, and the row that they lead to
pub data Run (V : Vault) (first : List ℕ) : List Event → List ℕ → Type 0 where
  start : Run V first [] first
  more : {events : List Event} {row after : List ℕ} {call : Call} {answer : Answer} → Run V first events row → Proper call → Does V row call answer after → Run V first (record { call = call; answer = answer } ∷ events) after

-- an accepted write of a word with a salt into cell c, and an accepted pattern on cell c
pub data Writes (c : ℕ) (ys : List ℕ) (a : ℕ) : Event → Type 0 where
  writes : Writes c ys a (record { call = write c ys a; answer = wrote (Ok tt) })

pub data Strikes (c : ℕ) (pattern : List ℕ) : Event → Type 0 where
  strikes : Strikes c pattern (record { call = inject c pattern; answer = struck (Ok tt) })

-- neither: no accepted write of cell c, and no sweep
pub record Spares (c : ℕ) (event : Event) : Type 0 where
  pub unwritten : (ys : List ℕ) (a : ℕ) → Writes c ys a event → ⊥
  pub unswept : event.call ≡ sweep → ⊥

-- ys and a are the word and the salt of the last accepted write of cell c
pub data LastWritten (c : ℕ) (ys : List ℕ) (a : ℕ) : List Event → Type 0 where
  latest : {event : Event} {events : List Event} → Writes c ys a event → LastWritten c ys a (event ∷ events)
  since : {event : Event} {events : List Event} → ((zs : List ℕ) (s : ℕ) → Writes c zs s event → ⊥) → LastWritten c ys a events → LastWritten c ys a (event ∷ events)

-- the bits that a pattern flips: its set bits among the n of a frame
abbrev pub flips : Vault → List ℕ → ℕ
flips V pattern = bits_of V.K V.b (little pattern)

-- at most one bit was flipped, and none in the check block
pub record Quiet (V : Vault) (hit : ℕ) : Type 0 where
  pub single : count_ones hit ≤ 1
  pub elsewhere : (k : ℕ) → k < frame_bits V.K V.b → hit ≡ 2 ^ k → part_hit V.K V.b k ≢ None

-- since the last accepted write of cell c every stretch that a sweep ended was quiet, and `hit` are the bits flipped since then
pub data Stretch (V : Vault) (c : ℕ) (ys : List ℕ) (a : ℕ) : List Event → ℕ → Type 0 where
  fresh : {event : Event} {events : List Event} → Writes c ys a event → Stretch V c ys a (event ∷ events) 0
  swept : {event : Event} {events : List Event} {hit : ℕ} → event.call ≡ sweep → Quiet V hit → Stretch V c ys a events hit → Stretch V c ys a (event ∷ events) 0
  hurt : {event : Event} {events : List Event} {hit : ℕ} {pattern : List ℕ} → Strikes c pattern event → Stretch V c ys a events hit → Stretch V c ys a (event ∷ events) (bit_or hit (flips V pattern))
  passed : {event : Event} {events : List Event} {hit : ℕ} → Spares c event → ((pattern : List ℕ) → Strikes c pattern event → ⊥) → Stretch V c ys a events hit → Stretch V c ys a (event ∷ events) hit

-- cell c is calm: the stretch that still runs is quiet too
pub record Calm (V : Vault) (c : ℕ) (ys : List ℕ) (a : ℕ) (events : List Event) : Type 0 where
  pub hit : ℕ
  pub stretch : Stretch V c ys a events hit
  pub quiet : Quiet V hit
