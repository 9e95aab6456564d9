-- How many different numbers can have a property: bounds, and the bound of a union.
-- Assumes nothing.
use Rattle.std.proofs.Common.{◌≡◌, ℕ, zero, suc, ◌+◌, ◌*◌, ◌<◌, ◌≤◌, ◌⊎◌, List, [], ◌∷◌, length, sym, refl, subst, inl, inr, ⊎_elim, suc-mul, arith}
use Rattle.std.specs.List.{AllByRecursion}
use Rattle.std.proofs.ByRecursion.{All-weaker}
use Rattle.std.proofs.lemmas.Bool.{cases_eq}
use Rattle.field.specs.Polynomials.{Distinct}

-- of different numbers with the property P there are at most n
abbrev pub AtMost : ℕ → (ℕ → Type 0) → Type 0
AtMost n P = (xs : List ℕ) → Distinct xs → AllByRecursion P xs → length xs ≤ n

-- x is none of xs
abbrev Apart : ℕ → List ℕ → Type 0
Apart x xs = AllByRecursion (λ y. x ≡ y → ⊥) xs

-- xs dealt out into those with A and those with B
record Dealt (A B : ℕ → Type 0) (xs : List ℕ) : Type 0 where
  left : List ℕ
  right : List ℕ
  left_all : AllByRecursion A left
  right_all : AllByRecursion B right
  left_distinct : Distinct left
  right_distinct : Distinct right
  apart : (x : ℕ) → Apart x xs → Apart x left × Apart x right
  counted : length xs ≡ length left + length right

module _ (A B : ℕ → Type 0) where
  to_left : (x : ℕ) (xs : List ℕ) → A x → Apart x xs → Dealt A B xs → Dealt A B (x ∷ xs)
  to_left x xs a new d =
      let c = d.counted in
      record {
        left = x ∷ d.left;
        right = d.right;
        left_all = (a, d.left_all);
        right_all = d.right_all;
        left_distinct = ((d.apart x new).0, d.left_distinct);
        right_distinct = d.right_distinct;
        apart = λ y h. ((h.0, (d.apart y h.1).0), (d.apart y h.1).1);
        counted = omega arith;
      }

  to_right : (x : ℕ) (xs : List ℕ) → B x → Apart x xs → Dealt A B xs → Dealt A B (x ∷ xs)
  to_right x xs b new d =
      let c = d.counted in
      record {
        left = d.left;
        right = x ∷ d.right;
        left_all = d.left_all;
        right_all = (b, d.right_all);
        left_distinct = d.left_distinct;
        right_distinct = ((d.apart x new).1, d.right_distinct);
        apart = λ y h. ((d.apart y h.1).0, (h.0, (d.apart y h.1).1));
        counted = omega arith;
      }

  deal : (xs : List ℕ) → Distinct xs → AllByRecursion (λ x. A x ⊎ B x) xs → Dealt A B xs
  deal [] distinct each =
      record {
        left = [];
        right = [];
        left_all = tt;
        right_all = tt;
        left_distinct = tt;
        right_distinct = tt;
        apart = λ x h. (tt, tt);
        counted = refl;
      }
  deal (x ∷ xs) distinct each =
      let rest = deal xs distinct.1 each.1 in
      ⊎_elim (λ a. to_left x xs a distinct.0 rest) (λ b. to_right x xs b distinct.0 rest) each.0

  -- at most m have A and at most n have B: at most m + n have either
  either : (m n : ℕ) → AtMost m A → AtMost n B → AtMost (m + n) (λ x. A x ⊎ B x)
  either m n few-a few-b xs distinct each =
      let d = deal xs distinct each in
      let c = d.counted in
      let left : length d.left ≤ m = few-a d.left d.left_distinct d.left_all in
      let right : length d.right ≤ n = few-b d.right d.right_distinct d.right_all in
      omega arith

pub stronger : (n : ℕ) (P Q : ℕ → Type 0) → ((x : ℕ) → P x → Q x) → AtMost n Q → AtMost n P
stronger n P Q weaken few xs distinct each = few xs distinct (All-weaker P Q weaken xs each)

-- one of the n properties P 0, P 1, … holds, each of at most w numbers
pub few_of : (n w : ℕ) (P : ℕ → ℕ → Type 0) → ((k : ℕ) → AtMost w (P k)) → AtMost (n * w) (λ x. (k : ℕ) × (k < n) × P k x)
few_of zero w P few [] distinct each = omega arith
few_of zero w P few (x ∷ xs) distinct each = let none = each.0.1 in absurd (omega arith)
few_of (suc n) w P few xs distinct each =
    subst (λ k. AtMost k (λ x. (k : ℕ) × (k < suc n) × P k x)) (sym (suc-mul n w))
    (stronger (n * w + w) (λ x. (k : ℕ) × (k < suc n) × P k x) (λ x. ((k : ℕ) × (k < n) × P k x) ⊎ P n x) last_or_before
    (either (λ x. (k : ℕ) × (k < n) × P k x) (P n) (n * w) w (few_of n w P few) (few n))) xs distinct each
  where
    last_or_before : (x : ℕ) → ((k : ℕ) × (k < suc n) × P k x) → ((k : ℕ) × (k < n) × P k x) ⊎ P n x
    last_or_before x h =
        let inside : h.0 < suc n = h.1 in
        ⊎_elim (λ same. inr (subst (λ k. P k x) same h.2)) (λ other. inl (h.0, omega (arith, other), h.2)) (cases_eq h.0 n)
