-- What a sealing that is not refused rests on, and the bytes of its frame.
-- Assumes nothing.
use Rattle.std.proofs.Common.{◌≡◌, ℕ, zero, suc, ◌+◌, ◌*◌, ◌/◌, ◌%◌, ◌^◌, ◌<◌, Bool, true, false, cond, ◌&&◌, eqb, ltb, List, [], ◌∷◌, length, Ok, Err, sym, refl, ap, ◌∙◌, subst, ap₂, mod-lt, arith, pow_pos, shr_lt, ltb-true, eqb-true}
use lib.Arith.{digits_div, digits_mod, lt-one}
use lib.Pow.{split}
use Rattle.std.proofs.lemmas.Bool.{and_parts}
use Rattle.bits.specs.Rows.{Bytes, little}
use Rattle.salt.specs.Admitted.{admitted}
use Rattle.frame.specs.Checks.{Below}
use Rattle.frame.specs.Code.{Code, fits, sized, frame_bytes}
use Rattle.frame.specs.Sealing.{all_below, bytes_of, sealing, row_sealing, seal_answer}
use Rattle.frame.specs.declared.verdict.SealFault.TheVariants.{Unfit, Size, Block, Salt}

pub below : (m : ℕ) (ys : List ℕ) → all_below m ys ≡ true → Below m ys
below m [] h i = pow_pos m
below m (y ∷ ys) h zero = ltb-true y (2 ^ m) (and_parts _ _ h).0
below m (y ∷ ys) h (suc i) = below m ys (and_parts (ltb y (2 ^ m)) (all_below m ys) h).1 i

-- all four tests pass where the answer is no refusal
all_pass : (fit size block salt : Bool) (N : ℕ) → Ok tt ≡ seal_answer (cond fit (cond size (cond block (cond salt (Ok N) (Err Salt)) (Err Block)) (Err Size)) (Err Unfit)) → ((fit ≡ true) × (size ≡ true)) × ((block ≡ true) × (salt ≡ true))
all_pass true true true true N is = ((refl, refl), (refl, refl))
all_pass true true true false N is = let z : ◌≡◌ {A = ℕ} 0 1 = cc in absurd (omega arith)
all_pass true true false salt N is = let z : ◌≡◌ {A = ℕ} 0 1 = cc in absurd (omega arith)
all_pass true false block salt N is = let z : ◌≡◌ {A = ℕ} 0 1 = cc in absurd (omega arith)
all_pass false size block salt N is = let z : ◌≡◌ {A = ℕ} 0 1 = cc in absurd (omega arith)

passed : (fit size block salt : Bool) (N : ℕ) → ((fit ≡ true) × (size ≡ true)) × ((block ≡ true) × (salt ≡ true)) → cond fit (cond size (cond block (cond salt (Ok N) (Err Salt)) (Err Block)) (Err Size)) (Err Unfit) ≡ Ok N
passed fit size block salt N h = (λ i. cond (h.0.0 i) (cond (h.0.1 i) (cond (h.1.0 i) (cond (h.1.1 i) (Ok N) (Err Salt)) (Err Block)) (Err Size)) (Err Unfit))

-- what holds where a sealing is not refused
pub record Sealing (K : Code) (ys : List ℕ) (a bytes : ℕ) : Type 0 where
  pub fit : fits K ≡ true
  pub few : sized (length ys) ≡ true
  pub long : bytes ≡ frame_bytes K (length ys)
  pub blocks : Below K.m ys
  pub salt : admitted K.m K.mul (length ys) a ≡ true
  pub is : row_sealing K ys a bytes ≡ Ok (sealing K ys a)

pub sealing_passes : (K : Code) (ys : List ℕ) (a bytes : ℕ) → Ok tt ≡ seal_answer (row_sealing K ys a bytes) → Sealing K ys a bytes
sealing_passes K ys a bytes answered =
    let tests = all_pass (fits K) (sized (length ys) && eqb bytes (frame_bytes K (length ys))) (all_below K.m ys) (admitted K.m K.mul (length ys) a) (sealing K ys a) answered in
    let size = and_parts (sized (length ys)) (eqb bytes (frame_bytes K (length ys))) tests.0.1 in
    record {
      fit = tests.0.0;
      few = size.0;
      long = eqb-true bytes (frame_bytes K (length ys)) size.1;
      blocks = below K.m ys tests.1.0;
      salt = tests.1.1;
      is = passed (fits K) (sized (length ys) && eqb bytes (frame_bytes K (length ys))) (all_below K.m ys) (admitted K.m K.mul (length ys) a) (sealing K ys a) tests;
    }

-- a row of bytes is that of its number
pub bytes_little : (xs : List ℕ) → Bytes xs → bytes_of (length xs) (little xs) ≡ xs
bytes_little [] h = refl
bytes_little (x ∷ xs) h =
    let small : x < 256 = (h 0).fits in
    ap₂ (λ y ys. y ∷ ys) (digits_mod (little xs) small) (ap (bytes_of (length xs)) (digits_div (little xs) small) ∙ bytes_little xs (λ i. h (suc i)))

-- the number of a row that is made of a number's bytes
pub little_bytes : (n N : ℕ) → N < 2 ^ (8 * n) → little (bytes_of n N) ≡ N
little_bytes zero N small = sym (lt-one small)
little_bytes (suc n) N small =
    let rest : N / 256 < 2 ^ (8 * n) = shr_lt (8 * n) 8 (subst (λ e. N < 2 ^ e) (omega arith) small) in
    ap (λ x. x * 256 + N % 256) (little_bytes n (N / 256) rest) ∙ split N 8

pub bytes_of_long : (n N : ℕ) → length (bytes_of n N) ≡ n
bytes_of_long zero N = refl
bytes_of_long (suc n) N = ap suc (bytes_of_long n (N / 256))

pub bytes_of_bytes : (n N : ℕ) → Bytes (bytes_of n N)
bytes_of_bytes zero N i = record { fits = omega arith }
bytes_of_bytes (suc n) N zero = record { fits = mod-lt N (omega arith) }
bytes_of_bytes (suc n) N (suc i) = bytes_of_bytes n (N / 256) i
