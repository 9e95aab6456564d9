-- What a cell holds after any run: the word last written, and what the stretches since have left of it.
-- Assumes nothing.
use Rattle.std.proofs.Common.{◌≡◌, ℕ, ◌≤◌, ◌⊎◌, List, ◌∷◌, refl, subst, inl}
use lib.Bits.{bit_xor}
use lib.Count.{ones}
use Rattle.field.specs.Laws.{Laws}
use Rattle.columns.specs.Columns as Columns
use Rattle.vault.specs.Cells.{Vault}
use Rattle.vault.specs.Calls.{sweep, Does}
use Rattle.vault.specs.Runs.{Proper, Event, Run, more, Writes, writes, Strikes, strikes, Spares, LastWritten, latest, since, flips, Stretch, fresh, swept, hurt, passed}
use Rattle.vault.proofs.Cells.{Written, written_kept, does_long, cell_kept}
use Rattle.vault.proofs.Frames.{Holds, holds_kept, holds_written, holds_struck, Opens, opens, holds_swept}
use Rattle.vault.proofs.Hits.{left_few, xor_single}

-- the newest event of a run
record Newest (V : Vault) (first : List ℕ) (event : Event) (events : List Event) (row : List ℕ) : Type 0 where
  before : List ℕ
  run : Run V first events before
  proper : Proper event.call
  does : Does V before event.call event.answer row

newest : {V : Vault} {first : List ℕ} {event : Event} {events : List Event} {row : List ℕ} → Run V first (event ∷ events) row → Newest V first event events row
newest (more {row = before} run proper does) = record { before = before; run = run; proper = proper; does = does }

module _ (V : Vault) (laws : Laws V.K.m V.K.mul) (columns : Columns.Laws V.K.columns V.K.r) (c : ℕ) (ys : List ℕ) (a : ℕ) where
  -- after an accepted write, an accepted pattern, a sweep, and any other event
  after_write : {event : Event} → Writes c ys a event → (row after : List ℕ) → Does V row event.call event.answer after → Holds V c ys a 0 after
  after_write writes row after does = holds_written V laws columns c ys a row after does

  pub after_strike : {pattern : List ℕ} {event : Event} → Strikes c pattern event → (f : ℕ) (row after : List ℕ) → Proper event.call → Does V row event.call event.answer after → Holds V c ys a f row → Holds V c ys a (bit_xor f (flips V pattern)) after
  after_strike {pattern} strikes f row after proper does h = holds_struck V laws columns c ys a f row after pattern proper does h

  after_sweep : (event : Event) → event.call ≡ sweep → (f : ℕ) (row after : List ℕ) → Does V row event.call event.answer after → (h : Holds V c ys a f row) → Opens V laws columns c ys a f row → Holds V c ys a 0 after
  after_sweep event e f row after does h opened =
      let sweeps = subst (λ call. Does V row call event.answer after) e does in
      holds_swept V laws columns c ys a f row h sweeps.0 after sweeps.2 opened

  pub after_other : (event : Event) → Spares c event → ((pattern : List ℕ) → Strikes c pattern event → ⊥) → (f : ℕ) (row after : List ℕ) → Does V row event.call event.answer after → Holds V c ys a f row → Holds V c ys a f after
  after_other event spared unstruck f row after does h =
      holds_kept V c ys a f row after (does_long V c row event.answer after event.call does) (cell_kept V c row event.answer after event.call does spared unstruck) h

  -- the word last written
  pub last : {events : List Event} → LastWritten c ys a events → (first row : List ℕ) → Run V first events row → Written V c ys a row
  last (latest w) first row run = let n = newest run in (after_write w n.before row n.does).written
  last (since {event} unwritten was) first row run =
      let n = newest run in
      written_kept V c ys a n.before row (does_long V c n.before event.answer row event.call n.does) (last was first n.before n.run)

  -- the flips that a stretch has left, if it is quiet: none, or its one bit
  pub record Tracked (hit : ℕ) (row : List ℕ) : Type 0 where
    pub left : ℕ
    pub holds : Holds V c ys a left row
    pub few : ones hit ≤ 1 → (left ≡ 0) ⊎ (left ≡ hit)

  pub tracked : {events : List Event} {hit : ℕ} → Stretch V c ys a events hit → (first row : List ℕ) → Run V first events row → Tracked hit row
  tracked (fresh w) first row run =
      let n = newest run in
      record { left = 0; holds = after_write w n.before row n.does; few = λ h. inl refl }
  tracked (swept {event} {events} {hit} e quiet was) first row run =
      let n = newest run in
      let t = tracked was first n.before n.run in
      let opened = opens V laws columns c ys a t.left n.before t.holds hit quiet (t.few quiet.single) in
      record { left = 0; holds = after_sweep event e t.left n.before row n.does t.holds opened; few = λ h. inl refl }
  tracked (hurt {event} {events} {hit} {pattern} s was) first row run =
      let n = newest run in
      let t = tracked was first n.before n.run in
      record {
        left = bit_xor t.left (flips V pattern);
        holds = after_strike s t.left n.before row n.proper n.does t.holds;
        few = λ h. xor_single hit (flips V pattern) h t.left (t.few (left_few hit (flips V pattern) h));
      }
  tracked (passed {event} spared unstruck was) first row run =
      let n = newest run in
      let t = tracked was first n.before n.run in
      record { left = t.left; holds = after_other event spared unstruck t.left n.before row n.does t.holds; few = t.few }
