-- What a read answers, by what the cell opens to.
-- Assumes nothing.
use Rattle.std.proofs.Common.{◌≡◌, ℕ, ◌<◌, Bool, true, false, cond, eqb, ltb, List, length, Ok, Err, Result, sym, refl, ap, ◌∙◌, subst}
use Rattle.std.proofs.lemmas.Bool.{cond-true, lt-ltb, eq-eqb}
use Rattle.frame.specs.Opening.{Outcome, clean, mended, refused, filled}
use Rattle.frame.specs.Promises.{OtherWord}
use Rattle.frame.specs.declared.verdict.OpenFault.{OpenFault}
use Rattle.frame.specs.declared.verdict.Verdict.{Verdict}
use Rattle.vault.specs.Cells.{Vault, count}
use Rattle.vault.specs.Calls.{read, Answer, got, Does, cell_opening, opened, read_answer, received}
use Rattle.vault.specs.Law.{HandsOut, hands_out, HandsOutOther, other, Refuses, refuses}
use Rattle.vault.specs.declared.answers.ReadFault.{ReadFault}
use Rattle.vault.proofs.Cells.{two_tests}

module _ (V : Vault) (row : List ℕ) (c : ℕ) (places : List ℕ) (answer : Answer) (after : List ℕ) (does : Does V row (read c places) answer after) where
  abbrev told : Result Verdict ReadFault
  told = read_answer V row c (length places)

  -- a cell that opens to ys
  pub hands_word : (ys : List ℕ) (verdict : Verdict) → c < count V row → length places ≡ V.b → opened c (cell_opening V c row) ≡ Ok verdict → filled (cell_opening V c row) places ≡ ys → HandsOut ys answer
  hands_word ys verdict inside size is word =
      let tests : told ≡ Ok verdict = cond-true _ _ _ (lt-ltb c (count V row) inside) ∙ cond-true _ _ _ (eq-eqb (length places) V.b size) ∙ is in
      let same : answer ≡ got (Ok verdict) ys = does.0 ∙ ap (λ t. got t (received V row c places t)) tests ∙ ap (got (Ok verdict)) word in
      subst (HandsOut ys) (sym same) hands_out

  -- a cell that is refused
  pub refuses_read : (fault : OpenFault) → cell_opening V c row ≡ refused fault → Refuses answer
  refuses_read fault is =
      let none = fails (ltb c (count V row)) (eqb (length places) V.b) (opened c (cell_opening V c row)) _ _ _ (ap (opened c) is) in
      subst Refuses (sym (does.0 ∙ ap (λ t. got t (received V row c places t)) none.1)) refuses
    where
      fails : (x y : Bool) (rest : Result Verdict ReadFault) (e f g : ReadFault) → rest ≡ Err e → (fault : ReadFault) × (cond x (cond y rest (Err f)) (Err g) ≡ Err fault)
      fails true true rest e f g is = (e, is)
      fails true false rest e f g is = (f, refl)
      fails false y rest e f g is = (g, refl)

  -- a read that hands out another word than ys: so does the opening
  pub other_read : (ys : List ℕ) → HandsOutOther ys answer → OtherWord ys (cell_opening V c row)
  other_read ys misled = by_answer misled does.0
    where
      by_outcome : (o : Outcome) (verdict : Verdict) → opened c o ≡ Ok verdict → (filled o places ≡ ys → ⊥) → OtherWord ys o
      by_outcome (clean zs s) verdict is apart = apart
      by_outcome (mended part zs s) verdict is apart = apart
      by_outcome (refused fault) verdict is apart = cc

      parts : (t : Result Verdict ReadFault) (verdict : Verdict) (xs zs : List ℕ) → got (Ok verdict) zs ≡ got t xs → (t ≡ Ok verdict) × (xs ≡ zs)
      parts t verdict xs zs e = (cc, cc)

      by_answer : {answer : Answer} → HandsOutOther ys answer → answer ≡ got told (received V row c places told) → OtherWord ys (cell_opening V c row)
      by_answer (other {verdict} {zs} apart) is =
          let both = parts told verdict (received V row c places told) zs is in
          let word : filled (cell_opening V c row) places ≡ zs = sym (ap (received V row c places) both.0) ∙ both.1 in
          let tests = two_tests (ltb c (count V row)) (eqb (length places) V.b) (opened c (cell_opening V c row)) _ _ verdict both.0 in
          by_outcome (cell_opening V c row) verdict tests.2 (λ same. apart (sym word ∙ same))
