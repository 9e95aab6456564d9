-- A sweep, cell by cell.
-- Assumes nothing.
use Rattle.std.proofs.Common.{◌≡◌, ℕ, zero, suc, ◌+◌, ◌*◌, ◌<◌, List, length, take, drop, Ok, Err, Result, sym, refl, ap, ◌∙◌, subst, ap₂, add-mul, one-mul, add-one, arith, drop-drop, below_more}
use Rattle.bits.specs.Rows.{little}
use Rattle.frame.specs.Code.{Code}
use Rattle.frame.specs.Opening.{Outcome, clean, mended, refused, opening}
use Rattle.frame.specs.Renewal.{renewed}
use Rattle.frame.specs.Sealing.{sealing}
use Rattle.frame.specs.declared.verdict.OpenFault.{OpenFault}
use Rattle.frame.specs.declared.verdict.Verdict.{Verdict}
use Rattle.frame.specs.declared.verdict.Verdict.TheVariants.{Clean, Mended}
use Rattle.frame.proofs.Sealings.{bytes_of_long}
use Rattle.vault.specs.Cells.{Vault, cell_bytes, count, cell, with_cell}
use Rattle.vault.specs.Calls.{cell_opening, swept_cell, clean_count, mended_count, refused_count, tally}
use Rattle.vault.specs.Tally.{found_of, with_one, mended_found}
use Rattle.vault.specs.declared.answers.Counts.{Counts}
use Rattle.vault.proofs.Cells.{count_kept}
use Rattle.vault.proofs.Rows.{put_after, cell_inside, cell_long, with_cell_long, with_cell_same, with_cell_other}

-- each cell counts once
tally_all : (V : Vault) (row : List ℕ) (n : ℕ) → tally clean_count V row n + tally mended_count V row n + tally refused_count V row n ≡ n
tally_all V row zero = refl
tally_all V row (suc n) = omega (arith, tally_all V row n, once (cell_opening V n row))
  where
    once : (o : Outcome) → clean_count o + mended_count o + refused_count o ≡ 1
    once (clean ys a) = refl
    once (mended part ys a) = refl
    once (refused fault) = refl

-- the counts with one cell more, by what it opens to
record Counted (counts : Counts) (o : Outcome) (more : Counts) : Type 0 where
  clean : more.clean ≡ counts.clean + clean_count o
  mended : more.mended ≡ counts.mended + mended_count o
  refused : more.refused ≡ counts.refused + refused_count o

counted : (counts : Counts) (o : Outcome) → Counted counts o (with_one counts (found_of o))
counted counts (clean ys a) = record { clean = refl; mended = omega arith; refused = omega arith }
counted counts (mended part ys a) = record { clean = omega arith; mended = refl; refused = omega arith }
counted counts (refused fault) = record { clean = omega arith; mended = omega arith; refused = refl }

pub with_one_mended : (counts : Counts) (found : Result Verdict OpenFault) → (with_one counts found).mended ≡ counts.mended + mended_found found
with_one_mended counts (Ok Clean) = omega arith
with_one_mended counts (Ok (Mended part)) = refl
with_one_mended counts (Err fault) = omega arith

-- a renewed frame is as long as it was
renewed_long : (K : Code) (bytes : List ℕ) (o : Outcome) → length (renewed K bytes o) ≡ length bytes
renewed_long K bytes (clean ys a) = refl
renewed_long K bytes (mended part ys a) = bytes_of_long (length bytes) (sealing K ys a)
renewed_long K bytes (refused fault) = refl

-- the first i cells of a row are swept and counted, and the rest is as it was
pub record Swept (V : Vault) (row : List ℕ) (i : ℕ) (counts : Counts) (after : List ℕ) : Type 0 where
  pub long : length after ≡ length row
  pub each : (c : ℕ) → c < i → cell V c after ≡ swept_cell V c row
  pub rest : drop (i * cell_bytes V) after ≡ drop (i * cell_bytes V) row
  pub clean : counts.clean ≡ tally clean_count V row i
  pub mended : counts.mended ≡ tally mended_count V row i
  pub refused : counts.refused ≡ tally refused_count V row i

module _ (V : Vault) (row : List ℕ) (i : ℕ) (counts : Counts) (mid : List ℕ) (done : Swept V row i counts mid) where
  -- so many cells are counted
  pub all_counted : counts.clean + counts.mended + counts.refused ≡ i
  all_counted = omega (arith, tally_all V row i, done.clean, done.mended, done.refused)

  -- the count of cells stays
  pub same_count : count V mid ≡ count V row
  same_count = count_kept V row mid done.long

  module _ (inside : i < count V row) where
    -- the next cell is still as it was
    same : cell V i mid ≡ cell V i row
    same = ap (take (cell_bytes V)) done.rest

    same_opening : cell_opening V i mid ≡ cell_opening V i row
    same_opening = ap (λ bytes. opening V.K V.b (little bytes)) same

    next_inside : i < count V mid
    next_inside = subst (λ n. i < n) (sym same_count) inside

    bytes_long : length (swept_cell V i mid) ≡ cell_bytes V
    bytes_long = renewed_long V.K (cell V i mid) (cell_opening V i mid) ∙ cell_long V mid i next_inside

    tally_more : (kind : Outcome → ℕ) (n more : ℕ) → n ≡ tally kind V row i → more ≡ n + kind (cell_opening V i mid) → more ≡ tally kind V row (i + 1)
    tally_more kind n more e f = f ∙ ap₂ ◌+◌ e (ap kind same_opening) ∙ ap (tally kind V row) (sym (add-one i))

    module _ (after : List ℕ) (is : after ≡ with_cell V i (swept_cell V i mid) mid) where
      each_more : (c : ℕ) → c < i + 1 → cell V c after ≡ swept_cell V c row
      each_more =
          below_more _ _
          (λ c h. ap (cell V c) is ∙ with_cell_other V mid i next_inside (swept_cell V i mid) bytes_long c (λ e. omega arith) ∙ done.each c h)
          (ap (cell V i) is ∙ with_cell_same V mid i next_inside (swept_cell V i mid) bytes_long ∙ ap₂ (renewed V.K) same same_opening)

      rest_more : drop ((i + 1) * cell_bytes V) after ≡ drop ((i + 1) * cell_bytes V) row
      rest_more =
          let F = cell_bytes V in
          let more : (i + 1) * F ≡ i * F + F = add-mul i 1 F ∙ ap (λ n. i * F + n) (one-mul F) in
          ap₂ drop more is
          ∙ put_after mid (swept_cell V i mid) (i * F) F bytes_long (cell_inside V mid i next_inside) (i * F + F) (omega arith)
          ∙ sym (drop-drop F (i * F) mid) ∙ ap (drop F) done.rest ∙ drop-drop F (i * F) row ∙ ap (λ n. drop n row) (sym more)

      pub one_more : (found : Result Verdict OpenFault) → found ≡ found_of (cell_opening V i mid) → Swept V row (i + 1) (with_one counts found) after
      one_more found which =
          let o = cell_opening V i mid in
          let more : Counted counts o (with_one counts found) = subst (λ f. Counted counts o (with_one counts f)) (sym which) (counted counts o) in
          record {
            long = ap length is ∙ with_cell_long V mid i next_inside (swept_cell V i mid) bytes_long ∙ done.long;
            each = each_more;
            rest = rest_more;
            clean = tally_more clean_count counts.clean _ done.clean more.clean;
            mended = tally_more mended_count counts.mended _ done.mended more.mended;
            refused = tally_more refused_count counts.refused _ done.refused more.refused;
          }
