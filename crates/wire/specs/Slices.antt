-- Where a slice begins: a block of memory and a place in it.
use Rattle.std.specs.Prelude.{ℕ, ◌+◌}

-- n places further on in the same block
abbrev pub offset_by : ℕ → ℕ × ℕ → ℕ × ℕ
offset_by n p = (p.0, n + p.1)
