-- The pairs of digits that a line is cut into.
-- Assumes nothing.
use Rattle.std.proofs.Common.{◌≡◌, ℕ, zero, suc, ◌+◌, ◌*◌, ◌/◌, ◌%◌, ◌<◌, List, [], ◌∷◌, ◌++◌, length, get_or, drop, Some, None, Option, refl, ap, ◌∙◌, append_assoc, arith}
use Rattle.std.proofs.lemmas.List.{at_drop_more}
use Rattle.std.specs.Option.{option_map}
use Rattle.std.specs.Simd.{first_chunks}
use Rattle.report.specs.Text.{digit, byte, onto, decoded}

-- the bytes that some pairs stand for
abbrev pub paired : List (List ℕ) → Option (List ℕ)
paired [] = Some []
paired (p ∷ pairs) = onto (byte (digit (get_or p 0 0)) (digit (get_or p 1 0))) (paired pairs)

-- a line that is cut into pairs, with nothing left over
paired_all : (n : ℕ) (line : List ℕ) → length line ≡ n * 2 → paired (first_chunks 2 n line) ≡ decoded line
paired_all zero [] e = refl
paired_all zero (x ∷ line) e = absurd (omega arith)
paired_all (suc n) [] e = absurd (omega arith)
paired_all (suc n) (x ∷ []) e = absurd (omega arith)
paired_all (suc n) (x ∷ y ∷ line) e = ap (onto (byte (digit x) (digit y))) (paired_all n line (omega arith))

-- one with a digit left over
pub none_odd : (line : List ℕ) → length line % 2 ≡ 1 → decoded line ≡ None
none_odd [] e = absurd (omega arith)
none_odd (x ∷ []) e = refl
none_odd (x ∷ y ∷ line) e = rw (none_odd line (omega arith)) (onto_none (byte (digit x) (digit y)))
  where
    onto_none : (o : Option ℕ) → onto o None ≡ None
    onto_none None = refl
    onto_none (Some b) = refl

-- the bytes so far, and those of the pairs from place i on
abbrev pub bytes_from : List ℕ → List (List ℕ) → ℕ → Option (List ℕ)
bytes_from out pairs i = option_map (λ more. out ++ more) (paired (drop i pairs))

-- none is read yet
unmoved : (o : Option (List ℕ)) → option_map (λ more. [] ++ more) o ≡ o
unmoved None = refl
unmoved (Some more) = refl

pub bytes_start : (line out : List ℕ) (pairs : List (List ℕ)) → out ≡ [] → pairs ≡ first_chunks 2 (length line / 2) line → length line % 2 ≡ 0 → bytes_from out pairs 0 ≡ decoded line
bytes_start line out pairs e cut even = rw (e, cut) (unmoved _ ∙ paired_all (length line / 2) line (omega arith))

-- one pair more is read
moved : (out : List ℕ) (x : ℕ) (o : Option (List ℕ)) → option_map (λ more. (out ++ x ∷ []) ++ more) o ≡ option_map (λ more. out ++ more) (onto (Some x) o)
moved out x None = refl
moved out x (Some more) = ap Some (append_assoc out (x ∷ []) more)

pub bytes_more : (out after : List ℕ) (pairs : List (List ℕ)) (i x : ℕ) → i < length pairs → Some x ≡ byte (digit (get_or (get_or pairs i []) 0 0)) (digit (get_or (get_or pairs i []) 1 0)) → after ≡ out ++ x ∷ [] → bytes_from after pairs (i + 1) ≡ bytes_from out pairs i
bytes_more out after pairs i x h is e =
    let here = at_drop_more paired pairs i [] h in
    rw (e, here, ← is) (moved out x (paired (drop (i + 1) pairs)))
