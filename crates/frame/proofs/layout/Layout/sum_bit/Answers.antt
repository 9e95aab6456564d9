use Rattle.std.proofs.Common.{◌≡◌, ℕ, ◌*◌, ◌%◌, ◌^◌, ◌<◌, ◌≤◌, ◌≢◌, eqb, Some, None, Option, sym, ap, ◌∙◌, arith, rules, eq-eqb, ne_eqb}
use Rattle.std.proofs.lemmas.Nat.{one_shl}
use Rattle.std.proofs.lemmas.Iterator.{first_from_Range}
use Rattle.std.specs.Prelude.{MatchOption}
use Rattle.frame.specs.Opening.{first}
use Rattle.frame.proofs.First.{first_hit, first_miss}
use Rattle.frame.proofs.layout.Layout.sum_bit.Goals as goal

-- the code's shift is a power of two, so what was found first is the first
same : (s r : ℕ) → r ≤ 8 → (o : Option ℕ) → MatchOption o ((k : ℕ) → 0 ≤ k → k < r → 1 * 2 ^ k % 2 ^ 32 ≢ s) (λ t. (0 ≤ t) × (t < r) × (1 * 2 ^ t % 2 ^ 32 ≡ s) × ((k : ℕ) → 0 ≤ k → k < t → 1 * 2 ^ k % 2 ^ 32 ≢ s)) → o ≡ first (λ k. eqb (2 ^ k) s) 0 r
same s r few None none = sym (first_miss (λ k. eqb (2 ^ k) s) r (λ k h. ne_eqb (2 ^ k) s (λ is. none k (omega arith) h (one_shl k 32 (omega arith) ∙ is))))
same s r few (Some t) (from, inside, is, before) =
    sym (first_hit (λ k. eqb (2 ^ k) s) r t inside (eq-eqb (2 ^ t) s (sym (one_shl t 32 (omega arith)) ∙ is))
    (λ k h. ne_eqb (2 ^ k) s (λ e. before k (omega arith) h (one_shl k 32 (omega arith) ∙ e))))

pub returns : goal.returns
returns g c =
    let s : ℕ = c.args.syndrome in
    let r : ℕ = c.sum_bits.result in
    same s r c.sum_bits.ensures.bound c.find.result
    (first_from_Range _ _ _ c.find.result (λ t. 1 * 2 ^ t % 2 ^ 32 ≡ s) (λ t. 1 * 2 ^ t % 2 ^ 32 ≢ s) c.find.ensures.ran (λ x q k. search rules) (λ x q k. search rules))
    ∙ ap (first (λ k. eqb (2 ^ k) s) 0) c.sum_bits.ensures.value
