-- What it means that a field and a column set fit.
-- Assumes nothing.
use Rattle.std.proofs.Common.{◌≡◌, ℕ, ◌≤◌, true, ◌&&◌, eqb, List, length, ◌∙◌, eq-eqb, eqb-true, leb-true}
use Rattle.std.proofs.lemmas.Bool.{and_parts, and_from, cond-true}
use Rattle.bits.specs.Rows.{little}
use Rattle.frame.specs.Code.{Code, fits, sized, frame_bytes}
use Rattle.frame.specs.Opening.{opening, row_opening}

pub record Fit (K : Code) : Type 0 where
  pub full : length K.columns ≡ K.m
  pub wide : 3 ≤ K.m
  pub narrow : K.m ≤ 24
  pub high : 3 ≤ K.r
  pub low : K.r ≤ 8

pub fit_parts : (K : Code) → fits K ≡ true → Fit K
fit_parts K h =
    let upto-high = and_parts _ _ h in
    let upto-low = and_parts _ _ upto-high.0 in
    let upto-narrow = and_parts _ _ upto-low.0 in
    let upto-wide = and_parts _ _ upto-narrow.0 in
    record {
      full = eqb-true _ _ upto-wide.0;
      wide = leb-true 3 K.m upto-wide.1;
      narrow = leb-true K.m 24 upto-narrow.1;
      high = leb-true 3 K.r upto-low.1;
      low = leb-true K.r 8 upto-high.1;
    }

pub sized_parts : (b : ℕ) → sized b ≡ true → (1 ≤ b) × (b ≤ 16)
sized_parts b h = let both = and_parts _ _ h in (leb-true 1 b both.0, leb-true b 16 both.1)

-- a frame of the right length opens by its bits
pub row_opens : (K : Code) (b : ℕ) (bytes : List ℕ) → fits K ≡ true → sized b ≡ true → length bytes ≡ frame_bytes K b → row_opening K b bytes ≡ opening K b (little bytes)
row_opens K b bytes fit few long =
    cond-true (fits K) _ _ fit ∙ cond-true (sized b && eqb (length bytes) (frame_bytes K b)) _ _ (and_from _ _ few (eq-eqb (length bytes) (frame_bytes K b) long))
