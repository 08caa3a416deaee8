-- The versions of an image, and what each has.
use Rattle.std.specs.Prelude.{ℕ, Bool, ◌&&◌, leb}

-- 1 or 2
abbrev pub is_version : ℕ → Bool
is_version v = leb 1 v && leb v 2

-- version 2 has clearances, and kind 6, of a task that its clearance stopped (02, U5)
abbrev pub has_clearances : ℕ → Bool
has_clearances v = leb 2 v
