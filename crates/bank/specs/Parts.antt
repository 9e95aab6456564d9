-- The two parts of a joined bank.
-- Assumes nothing.
use Rattle.std.specs.Prelude.{◌≡◌, ℕ, ◌+◌, ◌<◌, ◌≤◌, List, ◌++◌, length, Result, MatchResult}
use Rattle.bank.specs.declared.BankFault.{BankFault}
use Rattle.bank.specs.declared.joined.Part.{Part}
use Rattle.bank.specs.declared.joined.Part.TheVariants.{First, Second}
use Rattle.bank.specs.Rows.{bounded}

-- a place of two rows one after the other lies in this part, at the place there
abbrev pub LiesIn : List ℕ → List ℕ → ℕ → Part → Type 0
LiesIn first second place (First here) = (place ≡ here) × (here < length first)
LiesIn first second place (Second here) = (place ≡ length first + here) × (here < length second)

-- the part that a place of the joined row lies in; refused just where it lies outside
abbrev pub Finds : List ℕ → List ℕ → ℕ → Result Part BankFault → Type 0
Finds first second place r =
    MatchResult r
    (λ part. (place < length (bounded (first ++ second))) × LiesIn first second place part)
    (λ fault. length (bounded (first ++ second)) ≤ place)
