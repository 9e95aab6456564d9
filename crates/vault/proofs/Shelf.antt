-- The cells that there are: they lie in the row, and their frames keep the limits.
-- Assumes nothing.
use Rattle.std.proofs.Common.{◌≡◌, ℕ, ◌+◌, ◌*◌, ◌<◌, ◌≤◌, Bool, true, false, cond, ◌&&◌, leb, List, length, take, drop, replicate, sym, ap, ◌∙◌, subst, mul-le-mul, arith, length-take-le}
use lib.ListN.{length-replicate}
use Rattle.std.proofs.lemmas.Bool.{and_parts, cond-true, leb-true}
use Rattle.frame.specs.Code.{Code, fits, sized, frame_bytes}
use Rattle.frame.proofs.Fits.{fit_parts, sized_parts}
use Rattle.vault.specs.Cells.{Vault, cell_bytes, vault_fits, count, cell, IsCell}
use Rattle.vault.proofs.Rows.{count_fits, cell_long}

-- a cell that was asked for is below the count where the parts fit
pub below : (V : Vault) (row : List ℕ) (c : ℕ) → vault_fits V (length row) ≡ true → c < V.cells → c < count V row
below V row c fit inside = subst (λ n. c < n) (sym (cond-true (vault_fits V (length row)) V.cells 0 fit)) inside

-- the longest frame
pub frame_short : (K : Code) (b : ℕ) → fits K ≡ true → sized b ≡ true → frame_bytes K b ≤ 56
frame_short K b fit few =
    let known = fit_parts K fit in
    let most = sized_parts b few in
    let blocks : (b + 2) * K.m ≤ 18 * 24 = mul-le-mul {n₁ = b + 2} {m₁ = K.m} {n₂ = 18} {m₂ = 24} (omega arith) known.narrow in
    omega arith

-- what is known of the vault of a cell below the count
pub record Standing (V : Vault) : Type 0 where
  pub fit : fits V.K ≡ true
  pub few : sized V.b ≡ true
  pub short : cell_bytes V ≤ 56
  pub cells : V.cells ≤ 1024

pub standing : (V : Vault) (row : List ℕ) (c : ℕ) → c < count V row → Standing V
standing V row c inside =
    let room : Bool = leb (V.cells * cell_bytes V) (length row) in
    let all = (count_fits (vault_fits V (length row)) V.cells c inside).0 in
    let limits = (and_parts (fits V.K && sized V.b && leb 1 V.cells && leb V.cells 1024) room all).0 in
    let upper = and_parts (fits V.K && sized V.b && leb 1 V.cells) (leb V.cells 1024) limits in
    let lower = and_parts (fits V.K && sized V.b) (leb 1 V.cells) upper.0 in
    let both = and_parts (fits V.K) (sized V.b) lower.0 in
    record {
      fit = both.0;
      few = both.1;
      short = frame_short V.K V.b both.0 both.1;
      cells = leb-true V.cells 1024 upper.1;
    }

-- the part of a room of n places that is lent
pub lent : (n most : ℕ) → n ≤ most → length {A = ℕ} (take n (replicate most 0)) ≡ n
lent n most few = length-take-le {A = ℕ} n (replicate most 0) (omega (arith, length-replicate {A = ℕ} most 0))

-- the bytes at the place of a cell are the cell
pub is_cell : (V : Vault) (row : List ℕ) (c len : ℕ) (bytes : List ℕ) → c < count V row → len ≡ cell_bytes V → bytes ≡ take len (drop (c * len) row) → IsCell V c row bytes
is_cell V row c len bytes here long is =
    let the_cell : bytes ≡ cell V c row = is ∙ ap (λ n. take n (drop (c * n) row)) long in
    record { below = here; is = the_cell; long = ap length the_cell ∙ cell_long V row c here }
