-- The frames worked out by hand: all but the count of ones computes as it stands.
-- Assumes nothing.
use Rattle.std.proofs.Common.{◌≡◌, ℕ, zero, suc, ◌+◌, ◌*◌, ◌/◌, ◌%◌, ◌^◌, cond, eqb, List, [], ◌∷◌, length, replicate, sym, refl, ap, ◌∙◌, ap₂, add-one}
use native.Mathlib.Nat.{mod-one}
use lib.Count.{ones, ones_in, ones_step}
use lib.Pow.{field, mod-mod-pow}
use Rattle.std.specs.List.{AllByRecursion}
use Rattle.bits.specs.Rows.{little}
use Rattle.columns.specs.Rule.{non_powers}
use Rattle.field.specs.Products.{product}
use Rattle.frame.specs.Code.{Code, frame_bits, word, check}
use Rattle.frame.specs.Opening.{Outcome, raw_salt, syndrome, opening_even, opening_odd, opening}
use Rattle.frame.specs.Sealing.{body, bytes_of, sealing}
use Rattle.frame.specs.Sticks.{code7, code17}
use Rattle.frame.specs.Worked.{Worked, openings}

-- the ones among the lowest d digits, counted in d steps
ones_low : (d n : ℕ) → ones (n % 2 ^ d) ≡ ones_in d n
unfolding ones ones_in
ones_low zero n = ap ones (mod-one n)
ones_low (suc d) n =
    ap (λ e. ones (n % 2 ^ e)) (sym (add-one d)) ∙ ones_step (n % 2 ^ (d + 1))
    ∙ ap₂ (λ x y. x + ones y) (mod-mod-pow n d 1) (field n d 1) ∙ ap (λ x. n % 2 + x) (ones_low d (n / 2))

by_count : ℕ → Code → ℕ → ℕ → Outcome
by_count k K b N =
    cond (eqb (k % 2) 0) (opening_even K.m K.mul (word K b N) (raw_salt K b N) (check K b N) (syndrome K b N))
    (opening_odd K (word K b N) (raw_salt K b N) (check K b N) (syndrome K b N))

-- the rows of a table whose outcomes compute
opened : (K : Code) (b : ℕ) (rows : List (List ℕ × Outcome)) → AllByRecursion (λ row. by_count (ones_in (frame_bits K b) (little row.0)) K b (little row.0) ≡ row.1) rows → AllByRecursion (λ row. opening K b (little row.0) ≡ row.1) rows
unfolding by_count
opened K b [] h = tt
opened K b (row ∷ rows) h = (ap (λ k. by_count k K b (little row.0)) (ones_low (frame_bits K b) (little row.0)) ∙ h.0, opened K b rows h.1)

sealed : (K : Code) (ys : List ℕ) (a d : ℕ) → body K ys a % 2 ^ d ≡ body K ys a → sealing K ys a ≡ (ones_in d (body K ys a) % 2) * 2 ^ ((length ys + 2) * K.m + K.r) + body K ys a
sealed K ys a d low = ap (λ k. (k % 2) * 2 ^ ((length ys + 2) * K.m + K.r) + body K ys a) (ap ones (sym low) ∙ ones_low d (body K ys a))

pub worked : Worked
unfolding ones_in by_count non_powers product
worked = record {
  opened = opened code7 2 openings (refl, (refl, (refl, (refl, (refl, (refl, (refl, (refl, (refl, (refl, tt))))))))));
  sealed = ap (bytes_of 5) (sealed code7 (6 ∷ 3 ∷ []) 2 40 refl);
  zeros = ap (bytes_of 39) (sealed code17 (replicate 16 0) 2 320 refl);
}
