-- The cells of a vault in the row of its bank.
-- Assumes nothing.
use Rattle.std.specs.Prelude.{◌≡◌, ℕ, ◌+◌, ◌*◌, ◌<◌, Bool, cond, ◌&&◌, List, ◌++◌, length, take, drop, Some, None, Option, nat_le}
use Rattle.frame.specs.Code.{Code, fits, sized, frame_bytes}

-- a vault: its code, the blocks of a word, and the cells that were asked for
pub record Vault : Type 0 where
  pub K : Code
  pub b : ℕ
  pub cells : ℕ

abbrev pub vault : Code → ℕ → ℕ → Vault
vault K b cells = record { K = K; b = b; cells = cells }

-- the bytes of a cell
abbrev pub cell_bytes : Vault → ℕ
cell_bytes V = frame_bytes V.K V.b

-- the parts of the vault fit each other and a bank of so many bytes
abbrev pub vault_fits : Vault → ℕ → Bool
vault_fits V bytes =
    fits V.K && sized V.b && nat_le 1 V.cells && nat_le V.cells 1024 && nat_le (V.cells * cell_bytes V) bytes

-- the bytes of a cell, where the parts fit
abbrev pub cell_length : Vault → ℕ → Option ℕ
cell_length V bytes = cond (vault_fits V bytes) (Some (cell_bytes V)) None

-- the cells that there are over a row: none where the parts do not fit
abbrev pub count : Vault → List ℕ → ℕ
count V row = cond (vault_fits V (length row)) V.cells 0

-- the bytes of cell c, and the row with others in their place
abbrev pub cell : Vault → ℕ → List ℕ → List ℕ
cell V c row = take (cell_bytes V) (drop (c * cell_bytes V) row)

abbrev pub with_cell : Vault → ℕ → List ℕ → List ℕ → List ℕ
with_cell V c bytes row = take (c * cell_bytes V) row ++ bytes ++ drop (c * cell_bytes V + cell_bytes V) row

-- cell c is below the count, and these are its bytes
pub record IsCell (V : Vault) (c : ℕ) (row bytes : List ℕ) : Type 0 where
  pub below : c < count V row
  pub is : bytes ≡ cell V c row
  pub long : length bytes ≡ cell_bytes V
