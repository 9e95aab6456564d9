-- What a sealing and an opening answer, in numbers.
-- Assumes nothing.
use Rattle.std.specs.Prelude.{◌≡◌, ℕ, List, length, Ok, Err, Result}
use Rattle.salt.specs.Draws.{Draws}
use Rattle.salt.specs.Faults.{fault_number}
use Rattle.salt.specs.Token.{salt_number}
use Rattle.salt.specs.declared.source.DrawFault.{DrawFault}
use Rattle.salt.specs.declared.source.Salt.{Salt}
use Rattle.frame.specs.Code.{Code}
use Rattle.frame.specs.Faults.{seal_number, open_number}
use Rattle.frame.specs.Sealing.{row_sealing, sealed_row}
use Rattle.frame.specs.declared.verdict.OpenFault.{OpenFault}
use Rattle.frame.specs.declared.verdict.Part.TheVariants.{Block, Mask, Sum, Parity}
use Rattle.frame.specs.declared.verdict.SealFault.{SealFault}
use Rattle.frame.specs.declared.verdict.Verdict.{Verdict}
use Rattle.frame.specs.declared.verdict.Verdict.TheVariants.{Clean, Mended}
use Rattle.capi.specs.declared.Opened.{Opened}
use Rattle.capi.specs.declared.Sealed.{Sealed}

-- the answer to a frame that opens: the part that was put right with its block and bit, and the salt
abbrev pub opened_at : ℕ → ℕ → ℕ → ℕ → Opened
opened_at part block bit a = record { refusal = 0; part = part; block = block; bit = bit; salt = a }

abbrev pub accepted : Verdict → ℕ → Opened
accepted Clean a = opened_at 0 0 0 a
accepted (Mended (Block j t)) a = opened_at 1 j t a
accepted (Mended (Mask t)) a = opened_at 2 0 t a
accepted (Mended (Sum t)) a = opened_at 3 0 t a
accepted (Mended Parity) a = opened_at 4 0 0 a

-- the answer to a frame
abbrev pub told : Result (Verdict × ℕ) OpenFault → Opened
told (Ok opened) = accepted opened.0 opened.1
told (Err fault) = record { refusal = open_number fault; part = 0; block = 0; bit = 0; salt = 0 }

-- the number of a sealing's answer
abbrev pub sealing_number : Result ℕ SealFault → ℕ
sealing_number (Ok N) = 0
sealing_number (Err fault) = seal_number fault

-- with the salt that was drawn for it, or the refusal of the draw: the number of the answer, and the frame row after it
abbrev pub SealedWith : Code → List ℕ → List ℕ → Result Salt DrawFault → ℕ → List ℕ → Type 0
SealedWith K ys before (Ok salt) refusal after =
    let s = row_sealing K ys (salt_number salt) (length before) in
    (refusal ≡ sealing_number s) × (after ≡ sealed_row s before)
SealedWith K ys before (Err fault) refusal after = (refusal ≡ fault_number fault) × (after ≡ before)

-- a word is sealed with a salt drawn from the noise, of which `used` bytes are then used up
pub record Seals (K : Code) (ys noise before : List ℕ) (r : Sealed) (after : List ℕ) : Type 0 where
  pub drawn : Result Salt DrawFault
  pub draws : Draws K.m K.mul (length ys) noise 0 drawn r.used
  pub sealed : SealedWith K ys before drawn r.refusal after
