-- The frame in a cell that was written: the sealing, exclusive-or the bits flipped since, and what each call makes of them.
-- Assumes nothing.
use Rattle.std.proofs.Common.{◌≡◌, ℕ, ◌*◌, ◌%◌, ◌^◌, ◌<◌, ◌≤◌, ◌⊎◌, List, length, Some, None, Ok, Option, Result, sym, refl, ap, ◌∙◌, subst, inl, inr, lt_of_lt_of_le, mod-lt, mod-eq_of_lt, arith, pow_pos, pow_mono}
use lib.Bits.{bit_xor, xor_zero_r, xor_assoc, xor_mod, xor_lt}
use lib.Count.{ones}
use Rattle.bits.specs.Rows.{Bytes, little, xored}
use Rattle.bits.proofs.Rows.{little_xored, length_xored, bytes_xored}
use Rattle.field.specs.Laws.{Laws}
use Rattle.columns.specs.Columns as Columns
use Rattle.frame.specs.Code.{Code, sized, frame_bits}
use Rattle.frame.specs.Opening.{clean, mended, opening}
use Rattle.frame.specs.Promises.{Sealable, bits_of, part_hit}
use Rattle.frame.specs.Renewal.{renewed}
use Rattle.frame.specs.Sealing.{sealing, bytes_of}
use Rattle.frame.specs.declared.verdict.Part.{Part}
use Rattle.frame.proofs.Clean.{clean_means_sealed}
use Rattle.frame.proofs.OneFlip.{one_flip}
use Rattle.frame.proofs.Sealed.{xor_back, sealing_parts}
use Rattle.frame.proofs.Sealings.{bytes_of_long, bytes_of_bytes, little_bytes}
use Rattle.vault.specs.Cells.{Vault, cell_bytes, cell, with_cell}
use Rattle.vault.specs.Calls.{write, inject, wrote, struck, Does, Sweeps, cell_opening, write_answer, written, inject_answer, injected}
use Rattle.vault.specs.Runs.{Quiet, flips}
use Rattle.vault.specs.declared.answers.Counts.{Counts}
use Rattle.vault.specs.declared.answers.WriteFault.{WriteFault}
use Rattle.vault.proofs.Cells.{Written, written_kept, write_accepted, inject_accepted, struck_same}
use Rattle.vault.proofs.Hits.{Single, none, one, single_digit}
use Rattle.vault.proofs.Rows.{cell_long, with_cell_long, with_cell_same}

-- one flip in the part that it hits, for b blocks
flip_mended : (K : Code) → Laws K.m K.mul → Columns.Laws K.columns K.r → (b : ℕ) (ys : List ℕ) (a N k : ℕ) (part : Part) → length ys ≡ b → Sealable K ys a → k < frame_bits K b → bits_of K b N ≡ bit_xor (sealing K ys a) (2 ^ k) → part_hit K b k ≡ Some part → opening K b N ≡ mended part ys a
flip_mended K laws columns b ys a N k part blocks ok =
    subst (λ b. k < frame_bits K b → bits_of K b N ≡ bit_xor (sealing K ys a) (2 ^ k) → part_hit K b k ≡ Some part → opening K b N ≡ mended part ys a) blocks
    (λ inside bits hit. rw hit at (one_flip K laws columns ys a N k ok inside bits))

-- cell c holds the sealing of ys with a, with the bits f flipped
pub record Holds (V : Vault) (c : ℕ) (ys : List ℕ) (a f : ℕ) (row : List ℕ) : Type 0 where
  pub written : Written V c ys a row
  pub bytes : Bytes (cell V c row)
  pub bits : bits_of V.K V.b (little (cell V c row)) ≡ bit_xor (sealing V.K ys a) f

-- the same cell in another row as long
pub holds_kept : (V : Vault) (c : ℕ) (ys : List ℕ) (a f : ℕ) (row after : List ℕ) → length after ≡ length row → cell V c after ≡ cell V c row → Holds V c ys a f row → Holds V c ys a f after
holds_kept V c ys a f row after long same h =
    record {
      written = written_kept V c ys a row after long h.written;
      bytes = subst Bytes (sym same) h.bytes;
      bits = ap (λ xs. bits_of V.K V.b (little xs)) same ∙ h.bits;
    }

module _ (V : Vault) (laws : Laws V.K.m V.K.mul) (columns : Columns.Laws V.K.columns V.K.r) (c : ℕ) (ys : List ℕ) (a : ℕ) where
  abbrev n : ℕ
  n = frame_bits V.K V.b

  abbrev S : ℕ
  S = sealing V.K ys a

  module _ (row : List ℕ) (h : Written V c ys a row) where
    sealing_lt : S < 2 ^ n
    sealing_lt = subst (λ b. S < 2 ^ frame_bits V.K b) h.blocks (sealing_parts V.K laws columns ys a h.sealable).small

    -- the bytes of the sealing in the cell
    holds_sealing : (after : List ℕ) → length after ≡ length row → cell V c after ≡ bytes_of (cell_bytes V) S → Holds V c ys a 0 after
    holds_sealing after long is =
        let fits-bytes : n ≤ 8 * cell_bytes V = omega arith in
        record {
          written = written_kept V c ys a row after long h;
          bytes = subst Bytes (sym is) (bytes_of_bytes (cell_bytes V) S);
          bits = ap (λ xs. little xs % 2 ^ n) is
              ∙ ap (λ x. x % 2 ^ n) (little_bytes (cell_bytes V) S (lt_of_lt_of_le sealing_lt (pow_mono fits-bytes)))
              ∙ mod-eq_of_lt sealing_lt ∙ sym (xor_zero_r S);
        }

  -- after an accepted write
  pub holds_written : (row after : List ℕ) → Does V row (write c ys a) (wrote (Ok tt)) after → Holds V c ys a 0 after
  holds_written row after does =
      let told : write_answer V row c ys a ≡ Ok tt = answered (write_answer V row c ys a) does.0 in
      let h = write_accepted V row c ys a told in
      let bytes = bytes_of (cell_bytes V) S in
      let long = bytes_of_long (cell_bytes V) S in
      let is : after ≡ with_cell V c bytes row = does.1 ∙ ap (written V row c ys a) told in
      holds_sealing row h after (ap length is ∙ with_cell_long V row c h.inside bytes long) (ap (cell V c) is ∙ with_cell_same V row c h.inside bytes long)
    where
      answered : (t : Result (Unit {0}) WriteFault) → wrote (Ok tt) ≡ wrote t → t ≡ Ok tt
      answered t e = cc

  -- after an accepted pattern
  pub holds_struck : (f : ℕ) (row after pattern : List ℕ) → Bytes pattern → Does V row (inject c pattern) (struck (Ok tt)) after → Holds V c ys a f row → Holds V c ys a (bit_xor f (flips V pattern)) after
  holds_struck f row after pattern proper does h =
      let told : inject_answer V row c pattern ≡ Ok tt = struck_same (inject_answer V row c pattern) (Ok tt) (sym does.0) in
      let inside = h.written.inside in
      let now = cell V c row in
      let bytes = xored now pattern in
      let long : length bytes ≡ cell_bytes V = length_xored now pattern ∙ cell_long V row c inside in
      let no_longer : length pattern ≤ length now = omega (arith, (inject_accepted V row c pattern told).1, cell_long V row c inside) in
      let is : after ≡ with_cell V c bytes row = does.1 ∙ ap (injected V row c pattern) told in
      let same : cell V c after ≡ bytes = ap (cell V c) is ∙ with_cell_same V row c inside bytes long in
      record {
        written = written_kept V c ys a row after (ap length is ∙ with_cell_long V row c inside bytes long) h.written;
        bytes = subst Bytes (sym same) (bytes_xored now pattern h.bytes proper);
        bits = ap (λ xs. little xs % 2 ^ n) same ∙ ap (λ x. x % 2 ^ n) (little_xored now pattern h.bytes proper no_longer)
            ∙ xor_mod (little now) (little pattern) n ∙ ap (λ x. bit_xor x (flips V pattern)) h.bits ∙ xor_assoc S f (flips V pattern);
      }

  -- what a cell opens to whose flips are none, or one that is not in the check block
  pub data Opens (f : ℕ) (row : List ℕ) : Type 0 where
    as_it_is : f ≡ 0 → cell_opening V c row ≡ clean ys a → Opens f row
    put_right : (part : Part) → cell_opening V c row ≡ mended part ys a → Opens f row

  module _ (f : ℕ) (row : List ℕ) (h : Holds V c ys a f row) where
    abbrev N : ℕ
    N = little (cell V c row)

    flips_lt : f < 2 ^ n
    flips_lt =
        let frame : bit_xor S f < 2 ^ n = subst (λ x. x < 2 ^ n) h.bits (mod-lt N (pow_pos n)) in
        subst (λ x. x < 2 ^ n) (xor_back S f) (xor_lt n S (bit_xor S f) (sealing_lt row h.written) frame)

    opens_clean : f ≡ 0 → Opens f row
    opens_clean e =
        let blocks = h.written.blocks in
        let ok = h.written.sealable in
        as_it_is e ((clean_means_sealed V.K laws columns V.b N ys a ok.word.fit (ap sized (sym blocks) ∙ ok.word.few)).1
        (record { blocks = blocks; sealable = ok; bits = h.bits ∙ ap (bit_xor S) e ∙ xor_zero_r S }))

    opens_mended : (k : ℕ) → k < n → f ≡ 2 ^ k → (part_hit V.K V.b k ≡ None → ⊥) → Opens f row
    opens_mended k inside e elsewhere = by_part (part_hit V.K V.b k) refl
      where
        by_part : (o : Option Part) → part_hit V.K V.b k ≡ o → Opens f row
        by_part None is = absurd (elsewhere is)
        by_part (Some part) is =
            put_right part (flip_mended V.K laws columns V.b ys a N k part h.written.blocks h.written.sealable inside (h.bits ∙ ap (bit_xor S) e) is)

    pub opens : (hit : ℕ) → Quiet V hit → (f ≡ 0) ⊎ (f ≡ hit) → Opens f row
    opens hit quiet (inl e) = opens_clean e
    opens hit quiet (inr e) = by_digit (single_digit n f flips_lt (subst (λ x. ones x ≤ 1) (sym e) quiet.single))
      where
        by_digit : Single n f → Opens f row
        by_digit (none e0) = opens_clean e0
        by_digit (one k inside is) = opens_mended k inside is (quiet.elsewhere k inside (sym e ∙ is))

    -- after a sweep that opens the cell
    pub holds_swept : (counts : Counts) (after : List ℕ) → Sweeps V row counts after → Opens f row → Holds V c ys a 0 after
    holds_swept counts after swept (as_it_is unhurt e) =
        let same : cell V c after ≡ cell V c row = swept.each c h.written.inside ∙ ap (renewed V.K (cell V c row)) e in
        holds_kept V c ys a 0 row after swept.long same (subst (λ f. Holds V c ys a f row) unhurt h)
    holds_swept counts after swept (put_right part e) =
        let inside = h.written.inside in
        let same : cell V c after ≡ bytes_of (length (cell V c row)) S = swept.each c inside ∙ ap (renewed V.K (cell V c row)) e in
        holds_sealing row h.written after swept.long (same ∙ ap (λ k. bytes_of k S) (cell_long V row c inside))
