-- The ones of a frame are those of its parts.
-- Assumes nothing.
use Rattle.std.proofs.Common.{◌≡◌, ℕ, zero, suc, ◌+◌, ◌*◌, ◌/◌, ◌%◌, ◌^◌, ◌<◌, List, [], ◌∷◌, ◌++◌, sym, refl, ap, ◌∙◌, add_assoc, mod-lt, suc-mul, add-mul, add_comm, zero-mul, add-one, arith, pow_pos}
use native.Mathlib.Nat.{mod-one}
use lib.Count.{ones, ones_cat}
use lib.Pow.{mod-pow-add}
use Rattle.std.proofs.lemmas.List.FromFn.{map-range_with_len_more}
use Rattle.bits.specs.Rows.{part}
use Rattle.frame.specs.Code.{places}
use Rattle.frame.specs.Checks.{all_ones}

all_ones_push : (ys : List ℕ) (y : ℕ) → all_ones (ys ++ y ∷ []) ≡ all_ones ys + ones y
all_ones_push [] y = omega arith
all_ones_push (x ∷ ys) y = ap (λ n. ones x + n) (all_ones_push ys y) ∙ sym (add_assoc (ones x) (all_ones ys) (ones y))

pub ones_bit : (n : ℕ) → n < 2 → ones n ≡ n
unfolding ones
ones_bit zero h = refl
ones_bit (suc zero) h = refl
ones_bit (suc (suc n)) h = absurd (omega arith)

-- one part more
ones_part : (N at w end : ℕ) → at + w ≡ end → ones (N % 2 ^ at) + ones (part N at w) ≡ ones (N % 2 ^ end)
ones_part N at w end e =
    add_comm (ones (N % 2 ^ at)) (ones (part N at w)) ∙ sym (ones_cat at (part N at w) (N % 2 ^ at) (mod-lt N (pow_pos at)))
    ∙ ap ones (sym (mod-pow-add N w at)) ∙ ap (λ k. ones (N % 2 ^ k)) (add_comm w at ∙ e)

ones_places : (m b N : ℕ) → all_ones (places m b N) ≡ ones (N % 2 ^ (b * m))
ones_places m zero N = sym (ap (λ k. ones (N % 2 ^ k)) (zero-mul m) ∙ ap ones (mod-one N) ∙ ones_bit 0 (omega arith))
ones_places m (suc b) N =
    ap (λ n. all_ones (places m n N)) (sym (add-one b)) ∙ ap all_ones (map-range_with_len_more (λ i. part N (i * m) m) 0 b b (omega arith))
    ∙ all_ones_push (places m b N) (part N (b * m) m) ∙ ap (λ n. n + ones (part N (b * m) m)) (ones_places m b N)
    ∙ ones_part N (b * m) m (suc b * m) (sym (suc-mul b m))

-- the blocks, the mask, the sum, the check block and the parity bit
pub ones_frame : (m r b N : ℕ) → all_ones (places m b N) + ones (part N (b * m) m) + ones (part N ((b + 1) * m) r) + ones (part N ((b + 1) * m + r) m) + part N ((b + 2) * m + r) 1 ≡ ones (N % 2 ^ ((b + 2) * m + r + 1))
ones_frame m r b N =
    let once = add-mul b 1 m in
    let twice = add-mul b 2 m in
    let blocks = ones_places m b N in
    let with_mask = ones_part N (b * m) m ((b + 1) * m) (omega arith) in
    let with_sum = ones_part N ((b + 1) * m) r ((b + 1) * m + r) refl in
    let with_check = ones_part N ((b + 1) * m + r) m ((b + 2) * m + r) (omega arith) in
    let with_parity = ones_part N ((b + 2) * m + r) 1 ((b + 2) * m + r + 1) refl in
    let bit = ones_bit (part N ((b + 2) * m + r) 1) (mod-lt (N / 2 ^ ((b + 2) * m + r)) (omega arith)) in
    omega arith
