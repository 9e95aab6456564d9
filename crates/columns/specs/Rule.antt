-- The rule set's columns: the numbers from 3 upward that are no powers of two, in their order.
-- Assumes nothing.
use Rattle.std.specs.Prelude.{ℕ, zero, suc, ◌*◌, ◌^◌, Bool, false, not, ◌||◌, List, take, filter, ◌==◌}
use Rattle.std.specs.List.{range_with_len}

-- n is one of the first k powers of two
abbrev pub is_power : ℕ → ℕ → Bool
is_power zero n = false
is_power (suc k) n = n == 2 ^ k || is_power k n

-- the first k numbers from 3 upward that are no powers of two: they are among the first 2 * k numbers
unfoldable pub non_powers : ℕ → List ℕ
non_powers k = take k (filter (λ n. not (is_power n n)) (range_with_len 3 (2 * k)))
