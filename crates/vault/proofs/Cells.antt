-- What the calls do to one cell: which calls keep it, and what it holds after a write, a pattern and a sweep.
-- Assumes nothing.
use Rattle.std.proofs.Common.{◌≡◌, ℕ, ◌<◌, Bool, true, false, cond, eqb, ltb, ◌⊎◌, List, length, Ok, Err, Result, sym, refl, ap, ◌∙◌, subst, ap₂, inl, inr}
use Rattle.std.proofs.lemmas.Bool.{ltb-true, eqb-true}
use Rattle.bits.specs.Rows.{xored}
use Rattle.bits.proofs.Rows.{length_xored}
use Rattle.frame.specs.Promises.{Sealable}
use Rattle.frame.specs.Sealing.{sealing, row_sealing, seal_answer, bytes_of}
use Rattle.frame.specs.declared.verdict.SealFault.{SealFault}
use Rattle.frame.proofs.Sealings.{sealing_passes, bytes_of_long}
use Rattle.vault.specs.Cells.{Vault, cell_bytes, vault_fits, count, cell, with_cell}
use Rattle.vault.specs.Calls.{Call, write, read, sweep, inject, Answer, wrote, struck, Does, write_sealed, write_answer, written, inject_answer, injected}
use Rattle.vault.specs.Runs.{Event, Writes, writes, Strikes, strikes, Spares}
use Rattle.vault.specs.declared.answers.InjectFault.{InjectFault}
use Rattle.vault.specs.declared.answers.WriteFault.{WriteFault}
use Rattle.vault.proofs.Rows.{cell_long, with_cell_long, with_cell_other}

-- the count depends on the length of the row alone
pub count_kept : (V : Vault) (row after : List ℕ) → length after ≡ length row → count V after ≡ count V row
count_kept V row after e = ap (λ n. cond (vault_fits V n) V.cells 0) e

-- two tests and what is asked past them
pub two_tests : {X E : Type 0} (x y : Bool) (rest : Result X E) (f g : E) (u : X) → cond x (cond y rest (Err f)) (Err g) ≡ Ok u → (x ≡ true) × (y ≡ true) × (rest ≡ Ok u)
two_tests true true rest f g u is = (refl, refl, is)
two_tests true false rest f g u is = cc
two_tests false y rest f g u is = cc

-- what an accepted write of ys with a into cell c leaves true of every later row
pub record Written (V : Vault) (c : ℕ) (ys : List ℕ) (a : ℕ) (row : List ℕ) : Type 0 where
  pub inside : c < count V row
  pub blocks : length ys ≡ V.b
  pub sealable : Sealable V.K ys a

pub written_kept : (V : Vault) (c : ℕ) (ys : List ℕ) (a : ℕ) (row after : List ℕ) → length after ≡ length row → Written V c ys a row → Written V c ys a after
written_kept V c ys a row after e h =
    record { inside = subst (λ n. c < n) (sym (count_kept V row after e)) h.inside; blocks = h.blocks; sealable = h.sealable }

sealed : (s : Result ℕ SealFault) → write_sealed s ≡ Ok tt → Ok tt ≡ seal_answer s
sealed (Ok N) is = refl
sealed (Err fault) is = cc

pub write_accepted : (V : Vault) (row : List ℕ) (c : ℕ) (ys : List ℕ) (a : ℕ) → write_answer V row c ys a ≡ Ok tt → Written V c ys a row
write_accepted V row c ys a told =
    let s = row_sealing V.K ys a (cell_bytes V) in
    let tests = two_tests (ltb c (count V row)) (eqb (length ys) V.b) (write_sealed s) _ _ tt told in
    let is = sealing_passes V.K ys a (cell_bytes V) (sealed s tests.2) in
    record {
      inside = ltb-true c (count V row) tests.0;
      blocks = eqb-true (length ys) V.b tests.1;
      sealable = record { word = record { fit = is.fit; few = is.few; small = is.blocks }; salt = is.salt };
    }

pub inject_accepted : (V : Vault) (row : List ℕ) (c : ℕ) (pattern : List ℕ) → inject_answer V row c pattern ≡ Ok tt → (c < count V row) × (length pattern ≡ cell_bytes V)
inject_accepted V row c pattern told =
    let tests = two_tests (ltb c (count V row)) (eqb (length pattern) (cell_bytes V)) (Ok tt) _ _ tt told in
    (ltb-true c (count V row) tests.0, eqb-true (length pattern) (cell_bytes V) tests.1)

-- one answer tells one result
pub struck_same : (s t : Result (Unit {0}) InjectFault) → struck s ≡ struck t → s ≡ t
struck_same s t e = cc

-- an accepted write of cell c, or an accepted pattern on it
Touches : ℕ → Event → Type 0
Touches c event = ((ys : List ℕ) × (a : ℕ) × Writes c ys a event) ⊎ ((pattern : List ℕ) × Strikes c pattern event)

-- how a call leaves the row: as it is, with other bytes in one cell, or swept
data Change (V : Vault) (c : ℕ) (row : List ℕ) (event : Event) (after : List ℕ) : Type 0 where
  none : after ≡ row → Change V c row event after
  put : (d : ℕ) (bytes : List ℕ) → d < count V row → length bytes ≡ cell_bytes V → (d ≡ c → Touches c event) → after ≡ with_cell V d bytes row → Change V c row event after
  swept : event.call ≡ sweep → length after ≡ length row → Change V c row event after

module _ (V : Vault) (c : ℕ) (row : List ℕ) (answer : Answer) (after : List ℕ) where
  change : (call : Call) → Does V row call answer after → Change V c row (record { call = call; answer = answer }) after
  unfolding Touches
  change (read d places) does = none does.1
  change sweep does = swept refl does.2.long
  change (write d ys a) does = told (write_answer V row d ys a) refl does.0 does.1
    where
      told : (t : Result (Unit {0}) WriteFault) → write_answer V row d ys a ≡ t → answer ≡ wrote t → after ≡ written V row d ys a t → Change V c row (record { call = write d ys a; answer = answer }) after
      told (Ok u) e is changed =
          put d (bytes_of (cell_bytes V) (sealing V.K ys a)) (write_accepted V row d ys a e).inside (bytes_of_long (cell_bytes V) (sealing V.K ys a))
          (λ here. inl (ys, a, subst (λ e. Writes c ys a e) (ap₂ (λ n t. record { call = write n ys a; answer = t }) (sym here) (sym is)) writes)) changed
      told (Err fault) e is changed = none changed
  change (inject d pattern) does = told (inject_answer V row d pattern) refl does.0 does.1
    where
      told : (t : Result (Unit {0}) InjectFault) → inject_answer V row d pattern ≡ t → answer ≡ struck t → after ≡ injected V row d pattern t → Change V c row (record { call = inject d pattern; answer = answer }) after
      told (Ok u) e is changed =
          let inside : d < count V row = (inject_accepted V row d pattern e).0 in
          put d (xored (cell V d row) pattern) inside (length_xored (cell V d row) pattern ∙ cell_long V row d inside)
          (λ here. inr (pattern, subst (λ e. Strikes c pattern e) (ap₂ (λ n t. record { call = inject n pattern; answer = t }) (sym here) (sym is)) strikes)) changed
      told (Err fault) e is changed = none changed

  -- every call keeps the length of the row
  pub does_long : (call : Call) → Does V row call answer after → length after ≡ length row
  does_long call does = by_change (change call does)
    where
      by_change : Change V c row (record { call = call; answer = answer }) after → length after ≡ length row
      by_change (none e) = ap length e
      by_change (put d bytes inside long here e) = ap length e ∙ with_cell_long V row d inside bytes long
      by_change (swept e long) = long

  -- and cell c, unless it is an accepted write of it, an accepted pattern on it, or a sweep
  pub cell_kept : (call : Call) → Does V row call answer after → Spares c (record { call = call; answer = answer })
      → ((pattern : List ℕ) → Strikes c pattern (record { call = call; answer = answer }) → ⊥) → cell V c after ≡ cell V c row
  unfolding Touches
  cell_kept call does spared unstruck = by_change (change call does)
    where
      untouched : Touches c (record { call = call; answer = answer }) → ⊥
      untouched (inl w) = spared.unwritten w.0 w.1 w.2
      untouched (inr s) = unstruck s.0 s.1

      by_change : Change V c row (record { call = call; answer = answer }) after → cell V c after ≡ cell V c row
      by_change (none e) = ap (cell V c) e
      by_change (put d bytes inside long here e) = ap (cell V c) e ∙ with_cell_other V row d inside bytes long c (λ same. untouched (here (sym same)))
      by_change (swept e long) = absurd (spared.unswept e)
