-- The frame that seals a word with a salt, as one number.
-- Assumes nothing.
use Rattle.std.specs.Prelude.{ℕ, zero, suc, ◌+◌, ◌*◌, ◌/◌, ◌%◌, ◌^◌, Bool, true, cond, ◌&&◌, List, [], ◌∷◌, length, Ok, Err, Result, ◌==◌, bit_xor, count_ones, nat_lt}
use Rattle.bits.specs.Digits.{pick}
use Rattle.salt.specs.Admitted.{admitted}
use Rattle.frame.specs.Code.{Code, fits, sized, frame_bytes}
use Rattle.frame.specs.Checks.{xor_all, check_value}
use Rattle.frame.specs.declared.verdict.SealFault.{SealFault}
use Rattle.frame.specs.declared.verdict.SealFault.TheVariants.{Unfit, Size, Block, Salt}

-- the blocks of m bits one above the other, the first lowest, and `top` above them
abbrev pub stacked : ℕ → List ℕ → ℕ → ℕ
stacked m [] top = top
stacked m (y ∷ ys) top = stacked m ys top * 2 ^ m + y

-- the word, the mask, the sum and the check block: all of the frame but its parity bit
abbrev pub body : Code → List ℕ → ℕ → ℕ
body K ys a =
    stacked K.m ys ((check_value K.mul ys a * 2 ^ K.r + pick K.columns a) * 2 ^ K.m + bit_xor (xor_all ys) a)

-- a number with a parity bit at digit k above it, which makes the count of ones even
abbrev pub with_parity : ℕ → ℕ → ℕ
with_parity k n = count_ones n % 2 * 2 ^ k + n

abbrev pub sealing : Code → List ℕ → ℕ → ℕ
sealing K ys a = with_parity ((length ys + 2) * K.m + K.r) (body K ys a)

-- the lowest n bytes of N, the lowest first
abbrev pub bytes_of : ℕ → ℕ → List ℕ
bytes_of zero N = []
bytes_of (suc n) N = N % 256 ∷ bytes_of n (N / 256)

-- each block is below 2 ^ m
abbrev pub all_below : ℕ → List ℕ → Bool
all_below m [] = true
all_below m (y ∷ ys) = nat_lt y (2 ^ m) && all_below m ys

-- the sealing of a word with a salt into a row of so many bytes, or its refusal
abbrev pub row_sealing : Code → List ℕ → ℕ → ℕ → Result ℕ SealFault
row_sealing K ys a bytes =
    cond (fits K)
    (cond (sized (length ys) && bytes == frame_bytes K (length ys))
    (cond (all_below K.m ys) (cond (admitted K.m K.mul (length ys) a) (Ok (sealing K ys a)) (Err Salt)) (Err Block)) (Err Size)) (Err Unfit)

-- what the call answers
abbrev pub seal_answer : Result ℕ SealFault → Result (Unit {0}) SealFault
seal_answer (Ok N) = Ok tt
seal_answer (Err fault) = Err fault

-- what the frame row holds after it: the frame's bytes, or what it held before
abbrev pub sealed_row : Result ℕ SealFault → List ℕ → List ℕ
sealed_row (Ok N) before = bytes_of (length before) N
sealed_row (Err fault) before = before
