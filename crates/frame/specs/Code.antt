-- The numbers that make a code of a field and a column set, and the layout of its frames.
-- Assumes nothing.
use Rattle.std.specs.Prelude.{◌≡◌, ℕ, ◌+◌, ◌*◌, ◌/◌, Bool, true, false, cond, ◌&&◌, List, map, length, Some, None, Option, ◌==◌, nat_le}
use Rattle.std.specs.List.{range_with_len}
use Rattle.bits.specs.Rows.{part}
use Rattle.field.specs.declared.Field.{Ghosts as FieldGhosts}
use Rattle.columns.specs.declared.ColumnSet.{Ghosts as SetGhosts}
use Rattle.frame.specs.declared.verdict.Misfit.{Misfit}
use Rattle.frame.specs.declared.verdict.Misfit.TheVariants.{Unfit, Size}

-- the width and the product of the field, the columns of the column set and the number of their bits
pub record Code : Type 0 where
  pub m : ℕ
  pub mul : ℕ → ℕ → ℕ
  pub columns : List ℕ
  pub r : ℕ

abbrev pub code : ℕ → (ℕ → ℕ → ℕ) → List ℕ → ℕ → Code
code m mul columns r = record { m = m; mul = mul; columns = columns; r = r }

-- the code of a field and a column set, whose ghost members are F and C
abbrev pub code_of : {T E S : Type 0} → FieldGhosts T E → SetGhosts S → S → Code
code_of F C set = code F.WIDTH F.mul (C.columns set) (C.height set)

-- there is a column for each bit of an element, and the widths keep their limits
abbrev pub fits : Code → Bool
fits K = length K.columns == K.m && nat_le 3 K.m && nat_le K.m 24 && nat_le 3 K.r && nat_le K.r 8

-- a word has 1 to 16 blocks
abbrev pub sized : ℕ → Bool
sized b = nat_le 1 b && nat_le b 16

-- the bits of a frame of b blocks, and the bytes that hold them
abbrev pub frame_bits : Code → ℕ → ℕ
frame_bits K b = (b + 2) * K.m + K.r + 1

abbrev pub frame_bytes : Code → ℕ → ℕ
frame_bytes K b = (frame_bits K b + 7) / 8

-- why a row of so many bytes is no frame of b blocks
abbrev pub Misses : Code → ℕ → ℕ → Misfit → Type 0
Misses K b bytes Unfit = fits K ≡ false
Misses K b bytes Size = (fits K ≡ true) × (sized b && bytes == frame_bytes K b ≡ false)

-- the bytes of a frame of b blocks, where there is one
abbrev pub frame_length : Code → ℕ → Option ℕ
frame_length K b = cond (fits K && sized b) (Some (frame_bytes K b)) None

-- the parts of a frame that is the number N: the blocks, the mask, the sum and the check block
abbrev pub places : ℕ → ℕ → ℕ → List ℕ
places m b N = map (λ i. part N (i * m) m) (range_with_len 0 b)

abbrev pub word : Code → ℕ → ℕ → List ℕ
word K b N = places K.m b N

abbrev pub mask : Code → ℕ → ℕ → ℕ
mask K b N = part N (b * K.m) K.m

abbrev pub sum : Code → ℕ → ℕ → ℕ
sum K b N = part N ((b + 1) * K.m) K.r

abbrev pub check : Code → ℕ → ℕ → ℕ
check K b N = part N ((b + 1) * K.m + K.r) K.m

abbrev pub parity : Code → ℕ → ℕ → ℕ
parity K b N = part N ((b + 2) * K.m + K.r) 1
