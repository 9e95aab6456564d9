-- Column sets: the laws that every one keeps. Bit t has the column at place t.
-- Assumes nothing.
use Rattle.std.specs.Prelude.{◌≡◌, ℕ, ◌^◌, ◌<◌, List, length, ◌≢◌, slice_index}

pub record Laws (columns : List ℕ) (height : ℕ) : Type 0 where
  pub small : (t : ℕ) → t < length columns → slice_index columns t < 2 ^ height
  pub nonzero : (t : ℕ) → t < length columns → slice_index columns t ≢ 0
  pub no_power : (t k : ℕ) → t < length columns → slice_index columns t ≢ 2 ^ k
  pub differ : (s t : ℕ) → s < length columns → t < length columns → slice_index columns s ≡ slice_index columns t → s ≡ t

-- bit t has the column c
abbrev pub HasColumn : List ℕ → ℕ → ℕ → Type 0
HasColumn columns t c = (t < length columns) × (slice_index columns t ≡ c)
