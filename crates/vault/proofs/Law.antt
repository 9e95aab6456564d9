-- The law of a vault.
-- Assumes nothing.
use Rattle.std.proofs.Common.{◌≡◌, ℕ, ◌+◌, ◌*◌, ◌^◌, ◌<◌, ◌≤◌, List, [], ◌∷◌, length, ap, ◌∙◌, subst, arith}
use lib.Bits.{bit_xor}
use lib.Count.{ones}
use Rattle.std.specs.List.{AllByRecursion}
use Rattle.std.proofs.ByRecursion.{All-weaker}
use Rattle.bits.specs.Rows.{little}
use Rattle.field.specs.Laws.{Laws}
use Rattle.field.specs.Polynomials.{Distinct}
use Rattle.columns.specs.Columns as Columns
use Rattle.frame.specs.Checks.{weight}
use Rattle.frame.specs.Code.{frame_bits}
use Rattle.frame.specs.Opening.{refused, filled, opening}
use Rattle.frame.specs.Promises.{Word, Sealable, bits_of, OtherWord}
use Rattle.frame.specs.Renewal.{renewed}
use Rattle.frame.specs.Sealing.{sealing}
use Rattle.frame.specs.declared.verdict.OpenFault.TheVariants.{Even}
use Rattle.frame.specs.declared.verdict.Verdict.TheVariants.{Clean, Mended}
use Rattle.frame.proofs.AnyFrame.{opening_bits}
use Rattle.frame.proofs.Flips.{two_flips}
use Rattle.frame.proofs.Salts.{few_salts}
use Rattle.vault.specs.Cells.{Vault, cell}
use Rattle.vault.specs.Calls.{Call, read, sweep, Answer, Does, cell_opening, opened}
use Rattle.vault.specs.Runs.{Event, Run, LastWritten}
use Rattle.vault.specs.Law.{HandsOut, Refuses, CalmReads, TwoOff, LeftRefused, TwoFlipsRefused, Misled, Law}
use Rattle.vault.proofs.Cells.{Written}
use Rattle.vault.proofs.Frames.{Holds, holds_written, Opens, as_it_is, put_right, opens}
use Rattle.vault.proofs.Patterns.{all_flips, all_flips_lt, after_calls}
use Rattle.vault.proofs.Reading.{hands_word, refuses_read, other_read}
use Rattle.vault.proofs.Runs.{last, Tracked, tracked}

module _ (V : Vault) (laws : Laws V.K.m V.K.mul) (columns : Columns.Laws V.K.columns V.K.r) where
  calm_reads : CalmReads V
  calm_reads first row events c ys a places answer after run calm size does =
      let t = tracked V laws columns c ys a calm.stretch first row run in
      by_opening t (opens V laws columns c ys a t.left row t.holds calm.hit calm.quiet (t.few calm.quiet.single))
    where
      by_opening : (t : Tracked V laws columns c ys a calm.hit row) → Opens V laws columns c ys a t.left row → HandsOut ys answer
      by_opening t (as_it_is unhurt e) =
          hands_word V row c places answer after does ys Clean t.holds.written.inside size (ap (opened c) e) (ap (λ o. filled o places) e)
      by_opening t (put_right part e) =
          hands_word V row c places answer after does ys (Mended part) t.holds.written.inside size (ap (opened c) e) (ap (λ o. filled o places) e)

  -- a cell two flips off its sealing is refused
  two_off_refused : (c : ℕ) (ys : List ℕ) (a : ℕ) (row : List ℕ) → Written V c ys a row → TwoOff V c ys a row → cell_opening V c row ≡ refused Even
  two_off_refused c ys a row h =
      let N = little (cell V c row) in
      subst (λ b. ones (bit_xor (bits_of V.K b N) (sealing V.K ys a)) ≡ 2 → opening V.K b N ≡ refused Even) h.blocks
      (two_flips V.K laws columns ys a N h.sealable)

  two_flips_refused : TwoFlipsRefused V
  two_flips_refused = record { reads = reads; sweeps = sweeps }
    where
      reads : (first row : List ℕ) (events : List Event) (c : ℕ) (ys : List ℕ) (a : ℕ) (places : List ℕ) (answer : Answer) (after : List ℕ)
          → Run V first events row → LastWritten c ys a events → TwoOff V c ys a row → Does V row (read c places) answer after → Refuses answer
      reads first row events c ys a places answer after run written two does =
          refuses_read V row c places answer after does Even (two_off_refused c ys a row (last V laws columns c ys a written first row run) two)

      sweeps : (first row : List ℕ) (events : List Event) (c : ℕ) (ys : List ℕ) (a : ℕ) (answer : Answer) (after : List ℕ)
          → Run V first events row → LastWritten c ys a events → TwoOff V c ys a row → Does V row sweep answer after
          → LeftRefused V c row answer after
      sweeps first row events c ys a answer after run written two does =
          let h = last V laws columns c ys a written first row run in
          let e = two_off_refused c ys a row h two in
          record {
            kept = does.2.each c h.inside ∙ ap (renewed V.K (cell V c row)) e;
            below = h.inside;
            fault = Even;
            outcome = e;
            counts = does.0;
            told = does.1;
            tallied = does.2.refused;
          }

  -- a salt that misleads a read: the patterns turn its sealing into a frame of another word
  module _ (first : List ℕ) (before : List Call) (c : ℕ) (ys : List ℕ) (after : List Call) (places : List ℕ) where
    abbrev P : ℕ
    P = all_flips V c after

    record Turned (a : ℕ) : Type 0 where
      blocks : length ys ≡ V.b
      sealable : Sealable V.K ys a
      turns : OtherWord ys (opening V.K V.b (bit_xor (sealing V.K ys a) P))

    turned : (a : ℕ) → Misled V first before c ys after places a → Turned a
    turned a m =
        let fresh = holds_written V laws columns c ys a m.row₀ m.row₁ m.write_of in
        let run = after_calls V laws columns c ys a m.row₁ fresh m.run₁ m.spared in
        let h = subst (λ calls. Holds V c ys a (all_flips V c calls) m.row₂) m.calls₁ run in
        let opens_as = opening_bits V.K V.b (little (cell V c m.row₂)) ∙ ap (opening V.K V.b) h.bits in
        record {
          blocks = h.written.blocks;
          sealable = h.written.sealable;
          turns = subst (OtherWord ys) opens_as (other_read V m.row₂ c places m.answer m.row₃ m.read_of ys m.misled);
        }

    few_turned : (b : ℕ) → length ys ≡ b → Word V.K ys → P < 2 ^ frame_bits V.K b → (salts : List ℕ) → Distinct salts
        → AllByRecursion (λ a. Sealable V.K ys a × OtherWord ys (opening V.K b (bit_xor (sealing V.K ys a) P))) salts → length salts ≤ (b + 1) * weight b
    few_turned b blocks word =
        subst (λ b. P < 2 ^ frame_bits V.K b → (salts : List ℕ) → Distinct salts
        → AllByRecursion (λ a. Sealable V.K ys a × OtherWord ys (opening V.K b (bit_xor (sealing V.K ys a) P))) salts → length salts ≤ (b + 1) * weight b) blocks
        (few_salts V.K laws columns ys P word)

    few_misled : (salts : List ℕ) → Distinct salts → AllByRecursion (Misled V first before c ys after places) salts → length salts ≤ (V.b + 1) * weight V.b
    few_misled [] distinct misled = omega arith
    few_misled (a ∷ salts) distinct misled =
        let t = turned a misled.0 in
        few_turned V.b t.blocks t.sealable.word (all_flips_lt V c after) (a ∷ salts) distinct
        (All-weaker (Misled V first before c ys after places) (λ a. Sealable V.K ys a × OtherWord ys (opening V.K V.b (bit_xor (sealing V.K ys a) P)))
        (λ a m. let t = turned a m in (t.sealable, t.turns)) (a ∷ salts) misled)

pub law : (V : Vault) → Laws V.K.m V.K.mul → Columns.Laws V.K.columns V.K.r → Law V
law V laws columns = record { calm = calm_reads V laws columns; two_flips = two_flips_refused V laws columns; few = few_misled V laws columns }
