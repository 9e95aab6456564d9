-- What the calls of a bank answer, over its row before and after.
-- Assumes nothing.
use Rattle.std.specs.Prelude.{◌≡◌, ℕ, ◌<◌, ◌≤◌, List, length, Result, MatchResult, slice_index, slice_set}
use Rattle.bank.specs.declared.BankFault.{BankFault}
use Rattle.bank.specs.declared.BankFault.TheVariants.{Outside}

-- the number of each fault
abbrev pub fault_number : BankFault → ℕ
fault_number Outside = 11

-- `get` answers r: the byte at the place, and refusal 11 just where the place is not below the length
abbrev pub Gives : List ℕ → ℕ → Result ℕ BankFault → Type 0
Gives row place r =
    MatchResult r
    (λ byte. (place < length row) × (byte ≡ slice_index row place))
    (λ fault. (length row ≤ place) × (fault_number fault ≡ 11))

-- `put` answers r and leaves the row `after`: that byte changed and no other, and refusal 11, with no change, just where the
-- place is not below the length
abbrev pub Puts : List ℕ → ℕ → ℕ → Result (Unit {0}) BankFault → List ℕ → Type 0
Puts row place byte r after =
    MatchResult r
    (λ _. (place < length row) × (after ≡ slice_set row place byte))
    (λ fault. (length row ≤ place) × (fault_number fault ≡ 11) × (after ≡ row))
