-- The patterns on a cell that no sweep and no write comes between: what they flip is settled by the calls alone.
-- Assumes nothing.
use Rattle.std.proofs.Common.{◌≡◌, ℕ, ◌^◌, ◌<◌, Bool, true, false, cond, ◌&&◌, eqb, List, [], ◌∷◌, map, length, Ok, sym, refl, ap, ◌∙◌, subst, ap₂, ⊎_elim, mod-lt, pow_pos}
use lib.Bits.{bit_xor, xor_lt}
use Rattle.std.specs.List.{AllByRecursion}
use Rattle.std.proofs.lemmas.Bool.{and_parts, and_from, eqb-true, eq-eqb, lt-ltb, cases_Bool, both_ways, cond-true, cond-false, cond_both}
use Rattle.bits.specs.Rows.{little}
use Rattle.field.specs.Laws.{Laws}
use Rattle.columns.specs.Columns as Columns
use Rattle.frame.specs.Code.{frame_bits}
use Rattle.vault.specs.Cells.{Vault, cell_bytes, count}
use Rattle.vault.specs.Calls.{Call, write, read, sweep, inject, Answer, struck, Does, inject_answer}
use Rattle.vault.specs.Runs.{Proper, Event, Run, start, more, Strikes, strikes, Spares, flips}
use Rattle.vault.proofs.Cells.{inject_accepted, struck_same}
use Rattle.vault.proofs.Frames.{Holds}
use Rattle.vault.proofs.Runs.{after_strike, after_other}

-- a pattern for cell d is one that strikes cell c, where there is a cell c
abbrev hits : Vault → ℕ → ℕ → List ℕ → Bool
hits V c d pattern = eqb d c && eqb (length pattern) (cell_bytes V)

-- the flips f of cell c and those of one call more; those of all calls, the newest first
abbrev with_call : Vault → ℕ → ℕ → Call → ℕ
with_call V c f (write d ys a) = f
with_call V c f (read d places) = f
with_call V c f sweep = f
with_call V c f (inject d pattern) = cond (hits V c d pattern) (bit_xor f (flips V pattern)) f

abbrev pub all_flips : Vault → ℕ → List Call → ℕ
all_flips V c [] = 0
all_flips V c (call ∷ calls) = with_call V c (all_flips V c calls) call

pub all_flips_lt : (V : Vault) (c : ℕ) (calls : List Call) → all_flips V c calls < 2 ^ frame_bits V.K V.b
all_flips_lt V c [] = pow_pos (frame_bits V.K V.b)
all_flips_lt V c (call ∷ calls) = one_more call (all_flips_lt V c calls)
  where
    one_more : (call : Call) → all_flips V c calls < 2 ^ frame_bits V.K V.b → with_call V c (all_flips V c calls) call < 2 ^ frame_bits V.K V.b
    one_more (write d ys a) h = h
    one_more (read d places) h = h
    one_more sweep h = h
    one_more (inject d pattern) h =
        cond_both (hits V c d pattern) (bit_xor (all_flips V c calls) (flips V pattern)) (all_flips V c calls) (λ x. x < 2 ^ frame_bits V.K V.b)
        (λ e. xor_lt (frame_bits V.K V.b) (all_flips V c calls) (flips V pattern) h (mod-lt (little pattern) (pow_pos (frame_bits V.K V.b))))
        (λ e. h)

-- what an accepted pattern tells
told_strike : {c : ℕ} {pattern : List ℕ} {event : Event} → Strikes c pattern event → (event.call ≡ inject c pattern) × (event.answer ≡ struck (Ok tt))
told_strike strikes = (refl, refl)

same_cell : (c d : ℕ) (xs ys : List ℕ) → inject d xs ≡ inject c ys → d ≡ c
same_cell c d xs ys e = cc

module _ (V : Vault) (laws : Laws V.K.m V.K.mul) (columns : Columns.Laws V.K.columns V.K.r) (c : ℕ) (ys : List ℕ) (a : ℕ) where
  after_call : (call : Call) (answer : Answer) → Proper call → Spares c (record { call = call; answer = answer }) → (f : ℕ) (row after : List ℕ) → Does V row call answer after → Holds V c ys a f row → Holds V c ys a (with_call V c f call) after
  after_call (write d zs s) answer proper spared f row after does h =
      after_other V laws columns c ys a (record { call = write d zs s; answer = answer }) spared
      (λ p struck. let e = (told_strike struck).0 in cc) f row after does h
  after_call (read d places) answer proper spared f row after does h =
      after_other V laws columns c ys a (record { call = read d places; answer = answer }) spared
      (λ p struck. let e = (told_strike struck).0 in cc) f row after does h
  after_call sweep answer proper spared f row after does h = absurd (spared.unswept refl)
  after_call (inject d pattern) answer proper spared f row after does h = ⊎_elim hit missed (cases_Bool (hits V c d pattern))
    where
      hit : hits V c d pattern ≡ true → Holds V c ys a (with_call V c f (inject d pattern)) after
      hit is =
          let parts = and_parts (eqb d c) (eqb (length pattern) (cell_bytes V)) is in
          let here : d ≡ c = eqb-true d c parts.0 in
          let inside : d < count V row = subst (λ k. k < count V row) (sym here) h.written.inside in
          let told : inject_answer V row d pattern ≡ Ok tt = cond-true _ _ _ (lt-ltb d (count V row) inside) ∙ cond-true _ _ _ parts.1 in
          let accepted : Strikes c pattern (record { call = inject d pattern; answer = answer }) =
          subst (Strikes c pattern) (ap₂ (λ k t. record { call = inject k pattern; answer = t }) (sym here) (sym (does.0 ∙ ap struck told))) strikes in
          subst (λ x. Holds V c ys a x after) (sym (cond-true (hits V c d pattern) (bit_xor f (flips V pattern)) f is))
          (after_strike V laws columns c ys a accepted f row after proper does h)

      missed : hits V c d pattern ≡ false → Holds V c ys a (with_call V c f (inject d pattern)) after
      missed is =
          subst (λ x. Holds V c ys a x after) (sym (cond-false (hits V c d pattern) (bit_xor f (flips V pattern)) f is))
          (after_other V laws columns c ys a (record { call = inject d pattern; answer = answer }) spared unstruck f row after does h)
        where
          unstruck : (p : List ℕ) → Strikes c p (record { call = inject d pattern; answer = answer }) → ⊥
          unstruck p s =
              let told = told_strike s in
              let long = (inject_accepted V row d pattern (struck_same (inject_answer V row d pattern) (Ok tt) (sym does.0 ∙ told.1))).1 in
              both_ways (hits V c d pattern) is
              (and_from (eqb d c) (eqb (length pattern) (cell_bytes V)) (eq-eqb d c (same_cell c d pattern p told.0)) (eq-eqb (length pattern) (cell_bytes V) long))

  pub after_calls : (first : List ℕ) → Holds V c ys a 0 first → {events : List Event} {row : List ℕ} → Run V first events row → AllByRecursion (Spares c) events → Holds V c ys a (all_flips V c (map (λ e. e.call) events)) row
  after_calls first h start spared = h
  after_calls first h (more {row = before} {after} {call} {answer} run proper does) spared =
      after_call call answer proper spared.0 _ before after does (after_calls first h run spared.1)
