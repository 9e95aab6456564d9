-- What a frame opens to: the rules of the opening, in their order.
-- Assumes nothing.
use Rattle.std.specs.Prelude.{ℕ, zero, suc, ◌-◌, ◌%◌, ◌^◌, ◌<◌, ◌≤◌, Bool, cond, ◌&&◌, List, length, Some, None, Ok, Err, Option, Result, ◌==◌, bit_xor, count_ones, nat_eq, slice_index, slice_set}
use Rattle.std.specs.Option.{option_map}
use Rattle.bits.specs.Digits.{pick}
use Rattle.bits.specs.Rows.{little}
use Rattle.salt.specs.Admitted.{admitted}
use Rattle.frame.specs.Code.{Code, fits, sized, frame_bits, frame_bytes, word, mask, sum, check}
use Rattle.frame.specs.Checks.{xor_all, check_value}
use Rattle.frame.specs.declared.verdict.Part.{Part}
use Rattle.frame.specs.declared.verdict.Part.TheVariants.{Block, Mask, Sum, Parity}
use Rattle.frame.specs.declared.verdict.Verdict.{Verdict}
use Rattle.frame.specs.declared.verdict.Verdict.TheVariants.{Clean, Mended}
use Rattle.frame.specs.declared.verdict.OpenFault.{OpenFault}
use Rattle.frame.specs.declared.verdict.OpenFault.TheVariants.{Unfit, Size, Salt, Even, Syndrome, Unmended}

-- a frame opens to a word and its salt, as it is or with the named part put right, or is refused
pub data Outcome : Type 0 where
  clean : List ℕ → ℕ → Outcome
  mended : Part → List ℕ → ℕ → Outcome
  refused : OpenFault → Outcome

-- the exclusive-or of the stored blocks and the mask
abbrev pub raw_salt : Code → ℕ → ℕ → ℕ
raw_salt K b N = bit_xor (xor_all (word K b N)) (mask K b N)

-- the column sum of the raw salt, exclusive-or the stored sum
abbrev pub syndrome : Code → ℕ → ℕ → ℕ
syndrome K b N = bit_xor (pick K.columns (raw_salt K b N)) (sum K b N)

-- the first of the n numbers from i on that passes the test
abbrev pub first : (ℕ → Bool) → ℕ → ℕ → Option ℕ
first test i zero = None
first test i (suc n) = cond (test i) (Some i) (first test (suc i) n)

-- the word with bit t of the block at place j flipped
abbrev pub flipped : List ℕ → ℕ → ℕ → List ℕ
flipped ys j t = slice_set ys j (bit_xor (slice_index ys j) (2 ^ t))

-- an odd frame with the recovered salt a: the part that was hit if the check value of the stored word is the check block, else another outcome
abbrev pub judged : ℕ → (ℕ → ℕ → ℕ) → List ℕ → ℕ → ℕ → Part → Outcome → Outcome
judged m mul ys a c part other =
    cond (admitted m mul (length ys) a) (cond (check_value mul ys a == c) (mended part ys a) other) (refused Salt)

-- bit t put right in the block at place j, where there is one
abbrev pub in_block : List ℕ → ℕ → ℕ → Option ℕ → Outcome
in_block ys a t None = refused Unmended
in_block ys a t (Some j) = mended (Block (suc j) t) (flipped ys j t) a

-- the syndrome is the column of bit t, which was flipped in the mask or in a block: the first that fits
abbrev pub bit_hit : ℕ → (ℕ → ℕ → ℕ) → List ℕ → ℕ → ℕ → ℕ → Outcome
bit_hit m mul ys a c t = judged m mul ys a c (Mask t) (in_block ys a t (first (λ j. nat_eq (check_value mul (flipped ys j t) a) c) 0 (length ys)))

-- the part of the frame, beside the word and the mask, whose flip leaves the syndrome s
abbrev pub beside : ℕ → ℕ → Option Part
beside r s = cond (s == 0) (Some Parity) (option_map Sum (first (λ t. nat_eq (2 ^ t) s) 0 r))

abbrev pub beside_hit : ℕ → (ℕ → ℕ → ℕ) → List ℕ → ℕ → ℕ → Option Part → Outcome
beside_hit m mul ys a c (Some part) = judged m mul ys a c part (refused Unmended)
beside_hit m mul ys a c None = refused Syndrome

-- an odd frame with the raw salt a and the syndrome s, by the bit whose column the syndrome is
abbrev pub by_column : Code → List ℕ → ℕ → ℕ → ℕ → Option ℕ → Outcome
by_column K ys a c s (Some t) = bit_hit K.m K.mul ys (bit_xor a (2 ^ t)) c t
by_column K ys a c s None = beside_hit K.m K.mul ys a c (beside K.r s)

abbrev pub opening_odd : Code → List ℕ → ℕ → ℕ → ℕ → Outcome
opening_odd K ys a c s = by_column K ys a c s (first (λ t. nat_eq (slice_index K.columns t) s) 0 (length K.columns))

-- an even frame with the raw salt a and the syndrome s
abbrev pub opening_even : ℕ → (ℕ → ℕ → ℕ) → List ℕ → ℕ → ℕ → ℕ → Outcome
opening_even m mul ys a c s =
    cond (s == 0) (cond (admitted m mul (length ys) a) (cond (check_value mul ys a == c) (clean ys a) (refused Even)) (refused Salt)) (refused Even)

-- the frame N of b blocks
abbrev pub opening : Code → ℕ → ℕ → Outcome
opening K b N =
    cond (count_ones (N % 2 ^ frame_bits K b) % 2 == 0)
    (opening_even K.m K.mul (word K b N) (raw_salt K b N) (check K b N) (syndrome K b N))
    (opening_odd K (word K b N) (raw_salt K b N) (check K b N) (syndrome K b N))

-- a row of bytes, opened into b places
abbrev pub row_opening : Code → ℕ → List ℕ → Outcome
row_opening K b bytes =
    cond (fits K) (cond (sized b && length bytes == frame_bytes K b) (opening K b (little bytes)) (refused Size)) (refused Unfit)

-- what the call answers
abbrev pub answer : Outcome → Result (Verdict × ℕ) OpenFault
answer (clean ys a) = Ok (Clean, a)
answer (mended part ys a) = Ok (Mended part, a)
answer (refused fault) = Err fault

-- what the receiving row holds after it: the word, or what it held before
abbrev pub filled : Outcome → List ℕ → List ℕ
filled (clean ys a) before = ys
filled (mended part ys a) before = ys
filled (refused fault) before = before

-- the word with the bit put right that a verdict names
abbrev pub righted : Verdict → List ℕ → List ℕ
righted Clean ys = ys
righted (Mended (Block j t)) ys = flipped ys (j - 1) t
righted (Mended (Mask t)) ys = ys
righted (Mended (Sum t)) ys = ys
righted (Mended Parity) ys = ys

-- the bit of a block that a verdict names is one of 32 of one of n blocks
abbrev pub Names : Verdict → ℕ → Type 0
Names Clean n = Unit {0}
Names (Mended (Block j t)) n = (1 ≤ j) × (j ≤ n) × (t < 32)
Names (Mended (Mask t)) n = Unit {0}
Names (Mended (Sum t)) n = Unit {0}
Names (Mended Parity) n = Unit {0}
