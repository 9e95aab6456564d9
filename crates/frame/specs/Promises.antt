-- What is promised of one frame: for every code that fits, every word that it can seal and every admitted salt.
-- Assumes nothing.
use Rattle.std.specs.Prelude.{◌≡◌, ℕ, suc, ◌+◌, ◌-◌, ◌*◌, ◌/◌, ◌%◌, ◌^◌, ◌<◌, ◌≤◌, true, cond, List, length, Some, None, Option, bit_xor, count_ones, nat_lt, slice_index}
use Rattle.std.specs.List.{AllByRecursion}
use Rattle.field.specs.Polynomials.{Distinct}
use Rattle.salt.specs.Admitted.{admitted}
use Rattle.frame.specs.Code.{Code, fits, sized, frame_bits, frame_bytes}
use Rattle.frame.specs.Checks.{weight, check_value}
use Rattle.frame.specs.Opening.{Outcome, clean, mended, refused, flipped, opening, row_opening}
use Rattle.frame.specs.Sealing.{bytes_of, sealing}
use Rattle.frame.specs.declared.verdict.Part.{Part}
use Rattle.frame.specs.declared.verdict.Part.TheVariants.{Block, Mask, Sum, Parity}
use Rattle.frame.specs.declared.verdict.OpenFault.TheVariants.{Even, Unmended}

-- the code fits, and ys is a word for it: 1 to 16 blocks below 2 ^ m
pub record Word (K : Code) (ys : List ℕ) : Type 0 where
  pub fit : fits K ≡ true
  pub few : sized (length ys) ≡ true
  pub small : (i : ℕ) → slice_index ys i < 2 ^ K.m

-- and a is an admitted salt for it
pub record Sealable (K : Code) (ys : List ℕ) (a : ℕ) : Type 0 where
  pub word : Word K ys
  pub salt : admitted K.m K.mul (length ys) a ≡ true

-- the n bits of the frame N, for b blocks
abbrev pub bits_of : Code → ℕ → ℕ → ℕ
bits_of K b N = N % 2 ^ frame_bits K b

-- the bits of the frame N of b blocks are those of the sealing of ys with a
pub record SealedAs (K : Code) (b N : ℕ) (ys : List ℕ) (a : ℕ) : Type 0 where
  pub blocks : length ys ≡ b
  pub sealable : Sealable K ys a
  pub bits : bits_of K b N ≡ sealing K ys a

-- Clean means sealed: a frame opens clean to a word and a salt just when its bits are those of their sealing.
abbrev pub CleanMeansSealed : Code → Type 0
CleanMeansSealed K =
    (b N : ℕ) (ys : List ℕ) (a : ℕ) → fits K ≡ true → sized b ≡ true
    → (opening K b N ≡ clean ys a → SealedAs K b N ys a) × (SealedAs K b N ys a → opening K b N ≡ clean ys a)

-- And what is sealed opens clean.
abbrev pub SealedOpens : Code → Type 0
SealedOpens K =
    (ys : List ℕ) (a : ℕ) → Sealable K ys a
    → row_opening K (length ys) (bytes_of (frame_bytes K (length ys)) (sealing K ys a)) ≡ clean ys a

-- the part in which bit k of a frame lies, unless it is the check block
abbrev pub part_hit : Code → ℕ → ℕ → Option Part
part_hit K b k =
    cond (nat_lt k (b * K.m)) (Some (Block (suc (k / K.m)) (k % K.m)))
    (cond (nat_lt k ((b + 1) * K.m)) (Some (Mask (k - b * K.m)))
    (cond (nat_lt k ((b + 1) * K.m + K.r)) (Some (Sum (k - (b + 1) * K.m)))
    (cond (nat_lt k ((b + 2) * K.m + K.r)) None (Some Parity))))

abbrev pub after_flip : List ℕ → ℕ → Option Part → Outcome
after_flip ys a (Some part) = mended part ys a
after_flip ys a None = refused Unmended

-- One flip: it is mended to the word and the salt, with the part that was hit; in the check block it is refused.
abbrev pub OneFlip : Code → Type 0
OneFlip K =
    (ys : List ℕ) (a N k : ℕ) → Sealable K ys a → k < frame_bits K (length ys)
    → bits_of K (length ys) N ≡ bit_xor (sealing K ys a) (2 ^ k)
    → opening K (length ys) N ≡ after_flip ys a (part_hit K (length ys) k)

-- Two flips: refused, wherever they lie.
abbrev pub TwoFlips : Code → Type 0
TwoFlips K =
    (ys : List ℕ) (a N : ℕ) → Sealable K ys a → count_ones (bit_xor (bits_of K (length ys) N) (sealing K ys a)) ≡ 2
    → opening K (length ys) N ≡ refused Even

-- the outcome hands out another word than ys
abbrev pub OtherWord : List ℕ → Outcome → Type 0
OtherWord ys (clean zs a) = zs ≡ ys → ⊥
OtherWord ys (mended part zs a) = zs ≡ ys → ⊥
OtherWord ys (refused fault) = ⊥

-- A chosen pattern: of the admitted salts, at most (b + 1) × w let a pattern turn the sealing of a word into a frame of another word.
abbrev pub FewSalts : Code → Type 0
FewSalts K =
    (ys : List ℕ) (pattern : ℕ) → Word K ys → pattern < 2 ^ frame_bits K (length ys)
    → (salts : List ℕ) → Distinct salts
    → AllByRecursion (λ a. Sealable K ys a × OtherWord ys (opening K (length ys) (bit_xor (sealing K ys a) pattern))) salts
    → length salts ≤ (length ys + 1) * weight (length ys)

-- At most one block fits when a flip of bit t in the word is looked for.
abbrev pub OneBlock : Code → Type 0
OneBlock K =
    (ys : List ℕ) (a c t i j : ℕ) → Sealable K ys a → t < K.m → i < length ys → j < length ys
    → check_value K.mul (flipped ys i t) a ≡ c → check_value K.mul (flipped ys j t) a ≡ c → i ≡ j

-- Leftover bits: a sealing sets none, and an opening looks at none.
pub record Leftover (K : Code) : Type 0 where
  pub unset : (ys : List ℕ) (a : ℕ) → Sealable K ys a → sealing K ys a < 2 ^ frame_bits K (length ys)
  pub unseen : (b N : ℕ) → opening K b N ≡ opening K b (bits_of K b N)

-- all that is promised of the frames of a code
pub record Promises (K : Code) : Type 0 where
  pub clean : CleanMeansSealed K
  pub opens : SealedOpens K
  pub one_flip : OneFlip K
  pub two_flips : TwoFlips K
  pub few_salts : FewSalts K
  pub one_block : OneBlock K
  pub leftover : Leftover K
