-- Frames worked out by hand, held against the definitions.
-- Assumes nothing.
use Rattle.std.specs.Prelude.{◌≡◌, ℕ, List, [], ◌∷◌, ◌++◌, replicate}
use Rattle.std.specs.List.{AllByRecursion}
use Rattle.frame.specs.Opening.{Outcome, clean, mended, refused, row_opening}
use Rattle.frame.specs.Code.{frame_bytes}
use Rattle.frame.specs.Sealing.{bytes_of, sealing}
use Rattle.frame.specs.Sticks.{code7, code17}
use Rattle.frame.specs.declared.verdict.Part.TheVariants.{Block, Mask, Sum, Parity}
use Rattle.frame.specs.declared.verdict.OpenFault.TheVariants.{Salt, Even, Syndrome, Unmended}

-- frames of two blocks of 7 bits, byte by byte, and what each opens to
abbrev pub openings : List (List ℕ × Outcome)
openings =
    (0x86 ∷ 0xc1 ∷ 0xc1 ∷ 0x40 ∷ 0x00 ∷ [], clean (6 ∷ 3 ∷ []) 2)
    ∷ (0x86 ∷ 0xc5 ∷ 0xc1 ∷ 0x40 ∷ 0x00 ∷ [], mended (Block 2 3) (6 ∷ 3 ∷ []) 2)
    ∷ (0x86 ∷ 0x81 ∷ 0xc1 ∷ 0x40 ∷ 0x00 ∷ [], mended (Mask 0) (6 ∷ 3 ∷ []) 2)
    ∷ (0x86 ∷ 0xc1 ∷ 0xc1 ∷ 0x41 ∷ 0x00 ∷ [], mended (Sum 3) (6 ∷ 3 ∷ []) 2)
    ∷ (0x86 ∷ 0xc1 ∷ 0xc1 ∷ 0x40 ∷ 0x01 ∷ [], mended Parity (6 ∷ 3 ∷ []) 2)
    ∷ (0x86 ∷ 0xc1 ∷ 0xc1 ∷ 0x42 ∷ 0x00 ∷ [], refused Unmended)
    ∷ (0x87 ∷ 0xc5 ∷ 0xc1 ∷ 0x40 ∷ 0x00 ∷ [], refused Even)
    ∷ (0x86 ∷ 0xc1 ∷ 0x21 ∷ 0x40 ∷ 0x00 ∷ [], refused Syndrome)
    ∷ (0x00 ∷ 0x00 ∷ 0x00 ∷ 0x00 ∷ 0x00 ∷ [], refused Salt)
    ∷ (0x07 ∷ 0xc1 ∷ 0xc1 ∷ 0x4c ∷ 0x00 ∷ [], clean (7 ∷ 2 ∷ []) 2)
    ∷ []

pub record Worked : Type 0 where
  pub opened : AllByRecursion (λ row. row_opening code7 2 row.0 ≡ row.1) openings
  -- the words 6 3 and sixteen zero blocks, each with the salt 2
  pub sealed : bytes_of (frame_bytes code7 2) (sealing code7 (6 ∷ 3 ∷ []) 2) ≡ 0x86 ∷ 0xc1 ∷ 0xc1 ∷ 0x40 ∷ 0x00 ∷ []
  pub zeros : bytes_of (frame_bytes code17 16) (sealing code17 (replicate 16 0) 2) ≡ replicate 34 0 ++ 0x02 ∷ 0x00 ∷ 0x0a ∷ 0x09 ∷ 0x80 ∷ []
