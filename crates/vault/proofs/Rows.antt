-- Cells in a row.
-- Assumes nothing.
use Rattle.std.proofs.Common.{◌≡◌, ℕ, ◌+◌, ◌-◌, ◌*◌, ◌<◌, ◌≤◌, Bool, true, false, cond, ◌&&◌, leb, List, ◌++◌, length, take, drop, sym, refl, ap, ◌∙◌, ap₂, ⊎_elim, append_assoc, arith, length-append, length-drop, take-append-drop, length-take-le, drop-drop, take_at, drop_at, take-add}
use lib.Seq.{take-append-le, drop-append-le}
use Rattle.std.proofs.lemmas.Bool.{and_parts, leb-true, cases_order}
use Rattle.frame.specs.Code.{fits, sized}
use Rattle.frame.proofs.AnyFrame.{apart}
use Rattle.vault.specs.Cells.{Vault, cell_bytes, vault_fits, count, cell, with_cell}

-- a part of a front
part_front : (k n : ℕ) (xs ys : List ℕ) → k + n ≤ length xs → take n (drop k (xs ++ ys)) ≡ take n (drop k xs)
part_front k n xs ys h =
    let near : k ≤ length xs = omega arith in
    let left : n ≤ length (drop k xs) = omega (arith, length-drop k xs) in
    ap (take n) (drop-append-le k xs ys near) ∙ take-append-le n (drop k xs) ys left

-- n bytes in the place of those from `at` on: the length, the bytes themselves, and a part beside them
module _ (row bytes : List ℕ) (at n : ℕ) (long : length bytes ≡ n) (room : at + n ≤ length row) where
  abbrev put : List ℕ
  put = take at row ++ bytes ++ drop (at + n) row

  front_long : length (take at row) ≡ at
  front_long = length-take-le at row (omega arith)

  head_long : length (take at row ++ bytes) ≡ at + n
  head_long = length-append (take at row) bytes ∙ ap₂ ◌+◌ front_long long

  put_long : length put ≡ length row
  put_long =
      let whole = length-append (take at row ++ bytes) (drop (at + n) row) in
      let rest = length-drop (at + n) row in
      let front = head_long in
      omega arith

  put_same : take n (drop at put) ≡ bytes
  put_same =
      ap (λ xs. take n (drop at xs)) (append_assoc (take at row) bytes (drop (at + n) row))
      ∙ ap (take n) (drop_at (take at row) (bytes ++ drop (at + n) row) at front_long)
      ∙ take_at bytes (drop (at + n) row) n long

  put_before : (k w : ℕ) → k + w ≤ at → take w (drop k put) ≡ take w (drop k row)
  put_before k w h =
      ap (λ xs. take w (drop k xs)) (append_assoc (take at row) bytes (drop (at + n) row))
      ∙ part_front k w (take at row) (bytes ++ drop (at + n) row) (omega (arith, front_long))
      ∙ sym (part_front k w (take at row) (drop at row) (omega (arith, front_long)))
      ∙ ap (λ xs. take w (drop k xs)) (take-append-drop at row)

  pub put_after : (k : ℕ) → at + n ≤ k → drop k put ≡ drop k row
  put_after k h =
      let e : at + n + (k - (at + n)) ≡ k = omega arith in
      ap (λ j. drop j put) (sym e) ∙ sym (drop-drop (k - (at + n)) (at + n) put)
      ∙ ap (drop (k - (at + n))) (drop_at (take at row ++ bytes) (drop (at + n) row) (at + n) head_long)
      ∙ drop-drop (k - (at + n)) (at + n) row ∙ ap (λ j. drop j row) e

-- there are cells only where the parts fit
pub count_fits : (fit : Bool) (cells c : ℕ) → c < cond fit cells 0 → (fit ≡ true) × (c < cells)
count_fits true cells c h = (refl, h)
count_fits false cells c h = absurd (omega arith)

module _ (V : Vault) (row : List ℕ) (c : ℕ) (inside : c < count V row) where
  pub cell_inside : c * cell_bytes V + cell_bytes V ≤ length row
  cell_inside =
      let h = count_fits (vault_fits V (length row)) V.cells c inside in
      let room : Bool = leb (V.cells * cell_bytes V) (length row) in
      let parts = and_parts (fits V.K && sized V.b && leb 1 V.cells && leb V.cells 1024) room h.0 in
      let enough : V.cells * cell_bytes V ≤ length row = leb-true (V.cells * cell_bytes V) (length row) parts.1 in
      let here = apart (cell_bytes V) c V.cells h.1 in
      omega arith

  pub cell_long : length (cell V c row) ≡ cell_bytes V
  cell_long =
      let room = cell_inside in
      length-take-le (cell_bytes V) (drop (c * cell_bytes V) row) (omega (arith, length-drop (c * cell_bytes V) row))

  module _ (bytes : List ℕ) (long : length bytes ≡ cell_bytes V) where
    pub with_cell_long : length (with_cell V c bytes row) ≡ length row
    with_cell_long = put_long row bytes (c * cell_bytes V) (cell_bytes V) long cell_inside

    pub with_cell_same : cell V c (with_cell V c bytes row) ≡ bytes
    with_cell_same = put_same row bytes (c * cell_bytes V) (cell_bytes V) long cell_inside

    pub with_cell_other : (d : ℕ) → (d ≡ c → ⊥) → cell V d (with_cell V c bytes row) ≡ cell V d row
    with_cell_other d apart_from = ⊎_elim (λ e. absurd (apart_from e)) (λ ways. ⊎_elim before after ways) (cases_order d c)
      where
        before : d < c → cell V d (with_cell V c bytes row) ≡ cell V d row
        before h = put_before row bytes (c * cell_bytes V) (cell_bytes V) long cell_inside (d * cell_bytes V) (cell_bytes V) (apart (cell_bytes V) d c h)

        after : c < d → cell V d (with_cell V c bytes row) ≡ cell V d row
        after h = ap (take (cell_bytes V)) (put_after row bytes (c * cell_bytes V) (cell_bytes V) long cell_inside (d * cell_bytes V) (apart (cell_bytes V) c d h))

-- a cell with its own bytes
pub with_own : (V : Vault) (c : ℕ) (row : List ℕ) → with_cell V c (cell V c row) row ≡ row
with_own V c row =
    let F = cell_bytes V in
    ap (λ xs. xs ++ drop (c * F + F) row) (sym (take-add (c * F) F row)) ∙ take-append-drop (c * F + F) row
