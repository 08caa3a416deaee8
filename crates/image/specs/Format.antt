-- The format of an image of version v: the fields of its front, of a task ahead of its messages, and of a message, in order. Offsets,
-- sizes and lengths follow from them.
use Rattle.std.specs.Prelude.{ℕ, List, [], ◌∷◌, replicate}
use Rattle.wire.specs.Fields.{Field, bytes, bytes_if, size}
use Rattle.machine.specs.Limits.{highest_label}
use Rattle.machine.specs.Version.{has_clearances}

-- version (1), program length (2), in both versions
abbrev pub front_fields : ℕ → List Field
front_fields v = bytes 1 ∷ bytes 2 ∷ []

-- kind (1), label (1), clearance (1, and in version 1 none, which reads as 15), spare (1), place (2), registers 0 to 7 (4 each)
abbrev pub task_fields : ℕ → List Field
task_fields v = bytes 1 ∷ bytes 1 ∷ bytes_if (has_clearances v) 1 highest_label ∷ bytes 1 ∷ bytes 2 ∷ replicate 8 (bytes 4)

-- label (1), sender (1), value (4)
abbrev pub message_fields : List Field
message_fields = bytes 1 ∷ bytes 1 ∷ bytes 4 ∷ []

-- how many bytes a task ahead of its messages and a message have
unfoldable pub task_size : ℕ → ℕ
task_size v = size (task_fields v)

abbrev pub message_size : ℕ
message_size = size message_fields
