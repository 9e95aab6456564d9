-- What the program prints for what it reads, byte for byte.
-- Assumes nothing.
use Rattle.std.specs.Prelude.{◌≡◌, ℕ, suc, ◌+◌, ◌-◌, ◌*◌, ◌≤◌, cond, ◌&&◌, List, [], ◌∷◌, ◌++◌, length, Some, None, codes, decimal, Option, ◌==◌, nat_le, nat_lt}
use Rattle.std.specs.List.{flat_map}
use Rattle.std.specs.Str.{bytes_eq}
use Rattle.frame.specs.Code.{Code}
use Rattle.frame.specs.Faults.{open_number}
use Rattle.frame.specs.Opening.{Outcome, clean, mended, refused, first, row_opening}
use Rattle.frame.specs.Sticks.{code7, code17}
use Rattle.frame.specs.declared.verdict.OpenFault.{OpenFault}
use Rattle.frame.specs.declared.verdict.OpenFault.TheVariants.{Size}
use Rattle.frame.specs.declared.verdict.Part.{Part}
use Rattle.frame.specs.declared.verdict.Part.TheVariants.{Block, Mask, Sum, Parity}
use Rattle.frame.specs.declared.verdict.Verdict.{Verdict}
use Rattle.frame.specs.declared.verdict.Verdict.TheVariants.{Clean, Mended}
use Rattle.report.specs.declared.words.Answer.{Answer}
use Rattle.report.specs.declared.words.Answer.TheVariants.{Opened, Refused}
use Rattle.report.specs.declared.words.InputFault.{InputFault}
use Rattle.report.specs.declared.words.InputFault.TheVariants.{Long, Heading}

-- a byte before the first of some lines
abbrev pub before : ℕ → List (List ℕ) → List (List ℕ)
before x [] = (x ∷ []) ∷ []
before x (line ∷ more) = (x ∷ line) ∷ more

-- the lines of a text: each ends at byte 10, and the last may lack it
abbrev pub lines : List ℕ → List (List ℕ)
lines [] = []
lines (x ∷ xs) = cond (x == 10) ([] ∷ lines xs) (before x (lines xs))

-- the value of a hexadecimal digit: 0 to 9, a to f
abbrev pub digit : ℕ → Option ℕ
digit x = cond (nat_le 48 x && nat_le x 57) (Some (x - 48)) (cond (nat_le 97 x && nat_le x 102) (Some (x - 87)) None)

-- the byte that two digits stand for, the high one first
abbrev pub byte : Option ℕ → Option ℕ → Option ℕ
byte (Some high) (Some low) = Some (high * 16 + low)
byte (Some high) None = None
byte None low = None

-- one byte more, where both are there
abbrev pub onto : Option ℕ → Option (List ℕ) → Option (List ℕ)
onto (Some x) (Some xs) = Some (x ∷ xs)
onto (Some x) None = None
onto None xs = None

-- the bytes that pairs of digits stand for
abbrev pub decoded : List ℕ → Option (List ℕ)
decoded [] = Some []
decoded (x ∷ []) = None
decoded (x ∷ y ∷ xs) = onto (byte (digit x) (digit y)) (decoded xs)

-- some bytes are a number b, 1 to 16, as it is printed
abbrev pub Names : List ℕ → ℕ → Type 0
Names digits b = (1 ≤ b) × (b ≤ 16) × (digits ≡ decimal b)

-- the number of blocks b, 1 to 16, for which a line is the width, one space and b, all in decimal
abbrev pub blocks_named : ℕ → List ℕ → Option ℕ
blocks_named width line = first (λ b. bytes_eq (decimal width ++ 32 ∷ decimal b) line) 1 16

-- each block after a space
abbrev pub numbers : List ℕ → List ℕ
numbers ys = flat_map (λ y. 32 ∷ decimal y) ys

-- the part in which a bit was put right
abbrev pub part_text : Part → List ℕ
part_text (Block j t) = codes "block " ++ decimal j ++ codes " bit " ++ decimal t
part_text (Mask t) = codes "mask bit " ++ decimal t
part_text (Sum t) = codes "sum bit " ++ decimal t
part_text Parity = codes "parity"

-- a frame that opens to a word
abbrev pub verdict_text : Verdict → List ℕ → List ℕ
verdict_text Clean ys = codes "clean" ++ numbers ys
verdict_text (Mended part) ys = codes "mended" ++ numbers ys ++ codes " at " ++ part_text part

-- a frame that is refused
abbrev pub refusal_text : OpenFault → List ℕ
refusal_text fault = codes "refused " ++ decimal (open_number fault)

-- the answer to a frame
abbrev pub answer_text : Answer → List ℕ
answer_text (Opened verdict word) = verdict_text verdict word.now
answer_text (Refused fault) = refusal_text fault

-- the same, of what the frame opens to
abbrev pub outcome_text : Outcome → List ℕ
outcome_text (clean ys a) = verdict_text Clean ys
outcome_text (mended part ys a) = verdict_text (Mended part) ys
outcome_text (refused fault) = refusal_text fault

-- what a line opens to: a line that is not pairs of digits is refused as a frame of the wrong length is
abbrev pub line_outcome : Code → ℕ → Option (List ℕ) → Outcome
line_outcome K b None = refused Size
line_outcome K b (Some bytes) = row_opening K b bytes

-- a line for each frame, numbered from n on
abbrev pub frames_text : Code → ℕ → ℕ → List (List ℕ) → List ℕ
frames_text K b n [] = []
frames_text K b n (line ∷ more) = decimal n ++ 32 ∷ outcome_text (line_outcome K b (decoded line)) ++ 10 ∷ frames_text K b (suc n) more

-- a whole input that is refused
abbrev pub input_refusal : InputFault → List ℕ
input_refusal Long = codes "refused 2"
input_refusal Heading = codes "refused 9"

-- the frames after a first line, by the numbers of blocks that it names at width 7 and at width 17
abbrev pub headed_text : Option ℕ → Option ℕ → List (List ℕ) → List ℕ
headed_text (Some b) at17 frames = frames_text code7 b 1 frames
headed_text None (Some b) frames = frames_text code17 b 1 frames
headed_text None None frames = codes "refused 9\n"

abbrev pub lines_text : List (List ℕ) → List ℕ
lines_text [] = codes "refused 9\n"
lines_text (line ∷ frames) = headed_text (blocks_named 7 line) (blocks_named 17 line) frames

-- all that is printed for an input: over 65,536 bytes only its refusal
abbrev pub report_text : List ℕ → List ℕ
report_text input = cond (nat_lt 65536 (length input)) (codes "refused 2\n") (lines_text (lines input))
