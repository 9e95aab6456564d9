-- Four bytes are the 32 digits from the first one on.
-- Assumes nothing.
use Rattle.std.proofs.Common.{◌≡◌, ℕ, ◌+◌, ◌*◌, List, get_or, ◌∙◌, ap₂, arith}
use Rattle.bits.specs.Rows.{Bytes, little, part}
use Rattle.bits.proofs.Rows.{byte_part, part_cat}
use Rattle.bits.proofs.window.Goals as goal

-- one byte more below a run
lower : (xs : List ℕ) (i j v : ℕ) → Bytes xs → i + 1 ≡ j → part (little xs) (8 * i) (v + 8) ≡ part (little xs) (8 * j) v * 256 + get_or xs i 0
lower xs i j v h e =
    let f : 8 * i + 8 ≡ 8 * j = omega arith in
    part_cat (little xs) (8 * i) v 8 ∙ ap₂ (λ (a b : ℕ). part (little xs) a v * 256 + b) f (byte_part xs i h)

digits : (xs : List ℕ) (i : ℕ) → Bytes xs → ((get_or xs (i + 3) 0 * 256 + get_or xs (i + 2) 0) * 256 + get_or xs (i + 1) 0) * 256 + get_or xs i 0 ≡ part (little xs) (8 * i) 32
digits xs i h =
    omega (arith, lower xs i (i + 1) 24 h (omega arith), lower xs (i + 1) (i + 2) 16 h (omega arith), lower xs (i + 2) (i + 3) 8 h (omega arith), byte_part xs (i + 3) h)

pub returns-then-i-row : goal.returns-then-i-row
returns-then-i-row c = omega (arith, c.from_le_bytes.ensures, digits c.args.row.now c.args.i c.type_inv.row)

pub returns : goal.returns
returns c =
    omega (arith, c.from_le_bytes-2.ensures, c.byte_at.ensures, c.byte_at-2.ensures, c.byte_at-3.ensures, c.byte_at-4.ensures, digits c.args.row.now c.args.i c.type_inv.row)
