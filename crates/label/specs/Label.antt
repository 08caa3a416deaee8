-- Labels: which owners' figures may be present, and where they may go.
use Rattle.std.specs.Prelude.{ℕ, ◌/◌, ◌%◌, ◌^◌, Bool, leb}
use Rattle.std.specs.Int.Bits.{bit_or}
use Rattle.wire.specs.Lists.{each}

-- bit o of k, worth 2 to the power o: 1 where owner o's figures may be present
abbrev pub bit : ℕ → ℕ → ℕ
bit o k = k / 2 ^ o % 2

-- each bit of k is also in m
-- (a label is held in a byte; bits 4 to 7 belong to no owner and are 0 in a label)
unfoldable pub is_subset : ℕ → ℕ → Bool
is_subset k m = each 8 (λ o. leb (bit o k) (bit o m))

-- label k flows to label m exactly when each bit of k is also in m
abbrev pub flows : ℕ → ℕ → Bool
flows k m = is_subset k m

-- joining two labels takes the bits of either
abbrev pub join : ℕ → ℕ → ℕ
join k m = bit_or k m
