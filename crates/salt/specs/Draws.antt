-- Draws: which salt comes from a row of noise bytes, from which group, and when none does.
-- Assumes nothing.
use Rattle.std.specs.Prelude.{◌≡◌, ℕ, ◌+◌, ◌*◌, ◌/◌, ◌%◌, ◌^◌, ◌<◌, ◌≤◌, Bool, true, false, ◌⊎◌, List, length, take, drop, Ok, Err, Result}
use Rattle.bits.specs.Rows.{little}
use Rattle.salt.specs.Admitted.{admitted}
use Rattle.salt.specs.Token.{salt_number}
use Rattle.salt.specs.declared.source.Salt.{Salt}
use Rattle.salt.specs.declared.source.DrawFault.{DrawFault}
use Rattle.salt.specs.declared.source.DrawFault.TheVariants.{Unfit, Blocks, NoNoise}

-- the least number of bytes that hold m bits
abbrev pub group_size : ℕ → ℕ
group_size m = (m + 7) / 8

-- where the k-th group from a place on begins
abbrev pub group_start : ℕ → ℕ → ℕ → ℕ
group_start m place k = place + k * group_size m

-- the k-th group from a place on has all its bytes
abbrev pub Whole : ℕ → List ℕ → ℕ → ℕ → Type 0
Whole m noise place k = group_start m place (k + 1) ≤ length noise

-- the candidate of the group that begins at `start`: the low m bits of its bytes, the lowest byte first
abbrev pub candidate : ℕ → List ℕ → ℕ → ℕ
candidate m noise start = little (take (group_size m) (drop start noise)) % 2 ^ m

-- the candidate of the k-th group is admitted, or is not
abbrev pub group_admitted : ℕ → (ℕ → ℕ → ℕ) → ℕ → List ℕ → ℕ → ℕ → Bool
group_admitted m mul b noise place k = admitted m mul b (candidate m noise (group_start m place k))

-- a draw is for fields of these widths
abbrev pub FitWidth : ℕ → Type 0
FitWidth m = (3 ≤ m) × (m ≤ 24)

-- and for these numbers of blocks
abbrev pub FitBlocks : ℕ → Type 0
FitBlocks b = (1 ≤ b) × (b ≤ 16)

-- the k-th group is whole and the first whose candidate is admitted
pub record First (m : ℕ) (mul : ℕ → ℕ → ℕ) (b : ℕ) (noise : List ℕ) (place k : ℕ) : Type 0 where
  pub whole : Whole m noise place k
  pub found : group_admitted m mul b noise place k ≡ true
  pub before : (i : ℕ) → i < k → group_admitted m mul b noise place i ≡ false

-- what a draw for the field and b answers from a place on, and its place after
abbrev pub Draws : ℕ → (ℕ → ℕ → ℕ) → ℕ → List ℕ → ℕ → Result Salt DrawFault → ℕ → Type 0
Draws m mul b noise place (Ok salt) after =
    FitWidth m × FitBlocks b
    × ((k : ℕ) × First m mul b noise place k × (salt_number salt ≡ candidate m noise (group_start m place k)) × (after ≡ group_start m place (k + 1)))
Draws m mul b noise place (Err Unfit) after = ((m < 3) ⊎ (24 < m)) × (after ≡ place)
Draws m mul b noise place (Err Blocks) after = FitWidth m × ((b < 1) ⊎ (16 < b)) × (after ≡ place)
Draws m mul b noise place (Err NoNoise) after =
    FitWidth m × FitBlocks b × ((k : ℕ) → Whole m noise place k → group_admitted m mul b noise place k ≡ false)
    × (after ≡ place)
