-- What the calls on one cell answer and leave, once they have its bytes.
-- Assumes nothing.
use Rattle.std.proofs.Common.{◌≡◌, ℕ, ◌<◌, ◌≤◌, true, eqb, ltb, List, length, drop, MatchResult, Some, None, Ok, Err, Option, Result, sym, refl, ap, ◌∙◌, subst, ap₂, arith, take_at}
use Rattle.std.specs.Option.{ok_or}
use Rattle.std.specs.Result.{IsErrAnd}
use Rattle.std.proofs.lemmas.Option.{MatchOption-at_some}
use Rattle.std.proofs.lemmas.Bool.{cond-true, cond-false, lt-ltb, eq-eqb, ne_eqb}
use Rattle.bits.specs.Rows.{xored}
use Rattle.frame.specs.Opening.{Outcome, clean, mended, refused, answer, filled, row_opening}
use Rattle.frame.specs.Renewal.{renewed}
use Rattle.frame.specs.Sealing.{sealing, row_sealing, seal_answer, sealed_row, bytes_of}
use Rattle.frame.specs.declared.verdict.OpenFault.{OpenFault}
use Rattle.frame.specs.declared.verdict.SealFault.{SealFault}
use Rattle.frame.specs.declared.verdict.Verdict.{Verdict}
use Rattle.frame.specs.declared.verdict.Verdict.TheVariants.{Clean, Mended}
use Rattle.frame.proofs.Fits.{row_opens}
use Rattle.frame.proofs.Sealings.{sealing_passes}
use Rattle.vault.specs.Cells.{Vault, cell_bytes, count, cell, with_cell, IsCell}
use Rattle.vault.specs.Calls.{write, read, inject, wrote, got, struck, Does, write_sealed, write_answer, written, opened, cell_opening, read_answer, received, inject_answer, injected, swept_cell}
use Rattle.vault.specs.Held.{HasLength}
use Rattle.vault.specs.Tally.{found_of, mended_found}
use Rattle.vault.specs.declared.answers.InjectFault.{InjectFault}
use Rattle.vault.specs.declared.answers.InjectFault.TheVariants as injects
use Rattle.vault.specs.declared.answers.ReadFault.{ReadFault}
use Rattle.vault.specs.declared.answers.ReadFault.TheVariants as reads
use Rattle.vault.specs.declared.answers.WriteFault.{WriteFault}
use Rattle.vault.specs.declared.answers.WriteFault.TheVariants as writes
use Rattle.vault.proofs.Shelf.{standing}
use Rattle.vault.proofs.Rows.{with_own}

-- a cell that is not refused is below the count, and its length is that of all
module _ (V : Vault) (row : List ℕ) (c : ℕ) (o : Option ℕ) (len : ℕ) (known : HasLength V c row o) where
  pub by_unwrap : o ≡ Some len → (c < count V row) × (len ≡ cell_bytes V)
  by_unwrap is = MatchOption-at_some (count V row ≤ c) (λ n. (c < count V row) × (n ≡ cell_bytes V)) len is known

  pub by_ok_or : {E : Type 0} (fault : E) → ok_or o fault ≡ Ok len → (c < count V row) × (len ≡ cell_bytes V)
  by_ok_or fault is = by_unwrap (some o is)
    where
      some : (o : Option ℕ) → ok_or o fault ≡ Ok len → o ≡ Some len
      some None is = cc
      some (Some x) is = cc

-- what sealing refused
refusal : (s : Result ℕ SealFault) (fault : SealFault) → seal_answer s ≡ Err fault → write_sealed s ≡ Err (writes.Seal fault)
refusal (Ok N) fault e = cc
refusal (Err f) fault e = cc

-- what the refusals of opening become where they are named by the cell
module _ (c : ℕ) (s : Result (Verdict × ℕ) OpenFault) (r : Result (Verdict × ℕ) ReadFault) where
  abbrev Named : Result (Verdict × ℕ) OpenFault → Type 0
  Named t = MatchResult t (λ x. r ≡ Ok x) (λ fault. IsErrAnd r (λ named. named ≡ reads.Frame c fault))

  pub opened_ok : (o : Outcome) (verdict : Verdict) (a : ℕ) → s ≡ answer o → Named s → r ≡ Ok (verdict, a) → opened c o ≡ Ok verdict
  opened_ok (clean ys b) verdict a e m is =
      let came : r ≡ Ok (Clean, b) = subst Named e m in
      let p : ◌≡◌ {A = Verdict × ℕ} (Clean, b) (verdict, a) = cc in ap (λ q. Ok (q.0)) p
  opened_ok (mended part ys b) verdict a e m is =
      let came : r ≡ Ok (Mended part, b) = subst Named e m in
      let p : ◌≡◌ {A = Verdict × ℕ} (Mended part, b) (verdict, a) = cc in ap (λ q. Ok (q.0)) p
  opened_ok (refused fault) verdict a e m is =
      let came : IsErrAnd r (λ named. named ≡ reads.Frame c fault) = subst Named e m in
      let none : IsErrAnd {T = Verdict × ℕ} (Ok (verdict, a)) (λ named. named ≡ reads.Frame c fault) = subst (λ t. IsErrAnd t (λ named. named ≡ reads.Frame c fault)) is came in
      absurd none

  pub opened_err : (o : Outcome) (named : ReadFault) (places : List ℕ) → s ≡ answer o → Named s → r ≡ Err named → (opened c o ≡ Err named) × (filled o places ≡ places)
  opened_err (clean ys b) named places e m is = let came : r ≡ Ok (Clean, b) = subst Named e m in cc
  opened_err (mended part ys b) named places e m is = let came : r ≡ Ok (Mended part, b) = subst Named e m in cc
  opened_err (refused fault) named places e m is =
      let came : IsErrAnd r (λ x. x ≡ reads.Frame c fault) = subst Named e m in
      let same : named ≡ reads.Frame c fault = subst (λ t. IsErrAnd t (λ x. x ≡ reads.Frame c fault)) is came in
      (ap Err (sym same), refl)

-- what a sweep finds, by what opening answered, and a cell that is not mended
pub found_ok : (o : Outcome) (verdict : Verdict) (a : ℕ) → answer o ≡ Ok (verdict, a) → Ok verdict ≡ found_of o
found_ok (clean ys b) verdict a e = let p : ◌≡◌ {A = Verdict × ℕ} (verdict, a) (Clean, b) = cc in ap (λ q. Ok (q.0)) p
found_ok (mended part ys b) verdict a e = let p : ◌≡◌ {A = Verdict × ℕ} (verdict, a) (Mended part, b) = cc in ap (λ q. Ok (q.0)) p
found_ok (refused fault) verdict a e = cc

pub found_err : (o : Outcome) (fault : OpenFault) → answer o ≡ Err fault → Err fault ≡ found_of o
found_err (clean ys b) fault e = cc
found_err (mended part ys b) fault e = cc
found_err (refused other) fault e = cc

pub unmended : (V : Vault) (row : List ℕ) (c : ℕ) → mended_found (found_of (cell_opening V c row)) ≡ 0 → row ≡ with_cell V c (swept_cell V c row) row
unmended V row c none = sym (ap (λ xs. with_cell V c xs row) (stays (cell_opening V c row) none) ∙ with_own V c row)
  where
    stays : (o : Outcome) → mended_found (found_of o) ≡ 0 → renewed V.K (cell V c row) o ≡ cell V c row
    stays (clean ys b) none = refl
    stays (mended part ys b) none = absurd (omega arith)
    stays (refused fault) none = refl

-- a call on a cell below the count
module _ (V : Vault) (row : List ℕ) (c : ℕ) (inside : c < count V row) where
  below : ltb c (count V row) ≡ true
  below = lt-ltb c (count V row) inside

  -- a write over bytes of the length of a cell
  module _ (bytes : List ℕ) (long : length bytes ≡ cell_bytes V) (ys : List ℕ) (a : ℕ) (all : length ys ≡ V.b) where
    seals : write_answer V row c ys a ≡ write_sealed (row_sealing V.K ys a (length bytes))
    seals =
        cond-true (ltb c (count V row)) _ _ below ∙ cond-true (eqb (length ys) V.b) _ _ (eq-eqb (length ys) V.b all)
        ∙ ap (λ n. write_sealed (row_sealing V.K ys a n)) (sym long)

    writes_as : (r : Result (Unit {0}) WriteFault) → write_answer V row c ys a ≡ r → Does V row (write c ys a) (wrote r) (written V row c ys a r)
    writes_as r e = (ap wrote (sym e), ap (written V row c ys a) (sym e))

    pub write_refused : (fault : SealFault) → seal_answer (row_sealing V.K ys a (length bytes)) ≡ Err fault → Does V row (write c ys a) (wrote (Err (writes.Seal fault))) row
    write_refused fault e = writes_as (Err (writes.Seal fault)) (seals ∙ refusal (row_sealing V.K ys a (length bytes)) fault e)

    pub write_done : (frame after : List ℕ) → seal_answer (row_sealing V.K ys a (length bytes)) ≡ Ok tt → frame ≡ sealed_row (row_sealing V.K ys a (length bytes)) bytes → after ≡ with_cell V c frame row → Does V row (write c ys a) (wrote (Ok tt)) after
    write_done frame after e is stored =
        let ok = sealing_passes V.K ys a (length bytes) (sym e) in
        let told : write_answer V row c ys a ≡ Ok tt = seals ∙ ap write_sealed ok.is in
        let sealed : frame ≡ bytes_of (cell_bytes V) (sealing V.K ys a) = is ∙ ap (λ s. sealed_row s bytes) ok.is ∙ ap (λ n. bytes_of n (sealing V.K ys a)) long in
        (ap wrote (sym told), stored ∙ ap (λ xs. with_cell V c xs row) sealed ∙ ap (written V row c ys a) (sym told))

  -- the frame in the cell opens as the cell does
  pub opens : (bytes : List ℕ) → IsCell V c row bytes → (b : ℕ) → b ≡ V.b → row_opening V.K b bytes ≡ cell_opening V c row
  opens bytes here b all =
      let known = standing V row c inside in
      ap₂ (row_opening V.K) all here.is ∙ row_opens V.K V.b (cell V c row) known.fit known.few (ap length (sym here.is) ∙ here.long)

  module _ (places : List ℕ) (all : length places ≡ V.b) where
    -- a read of the cell answers r
    pub read_as : (r : Result Verdict ReadFault) (after : List ℕ) → opened c (cell_opening V c row) ≡ r → after ≡ received V row c places r → Does V row (read c places) (got r after) row
    read_as r after e is =
        let told : read_answer V row c (length places) ≡ r = cond-true (ltb c (count V row)) _ _ below ∙ cond-true (eqb (length places) V.b) _ _ (eq-eqb (length places) V.b all) ∙ e in
        (ap₂ got (sym told) (is ∙ ap (received V row c places) (sym told)), refl)

  module _ (pattern : List ℕ) where
    injects_as : (r : Result (Unit {0}) InjectFault) → inject_answer V row c pattern ≡ r → Does V row (inject c pattern) (struck r) (injected V row c pattern r)
    injects_as r e = (ap struck (sym e), ap (injected V row c pattern) (sym e))

    pub inject_no_size : (length pattern ≡ cell_bytes V → ⊥) → Does V row (inject c pattern) (struck (Err injects.Size)) row
    inject_no_size other =
        injects_as (Err injects.Size) (cond-true (ltb c (count V row)) _ _ below ∙ cond-false (eqb (length pattern) (cell_bytes V)) _ _ (ne_eqb (length pattern) (cell_bytes V) other))

    pub inject_done : (bytes after : List ℕ) → IsCell V c row bytes → length pattern ≡ cell_bytes V → after ≡ with_cell V c (xored bytes pattern) row → Does V row (inject c pattern) (struck (Ok tt)) after
    inject_done bytes after here all is =
        let told : inject_answer V row c pattern ≡ Ok tt = cond-true (ltb c (count V row)) _ _ below ∙ cond-true (eqb (length pattern) (cell_bytes V)) _ _ (eq-eqb (length pattern) (cell_bytes V) all) in
        (ap struck (sym told), is ∙ ap (λ xs. with_cell V c (xored xs pattern) row) here.is ∙ ap (injected V row c pattern) (sym told))
