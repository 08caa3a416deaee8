-- Words with a bit for each of 64 messages: sets of messages, and planes, which hold the labels.
use Rattle.std.specs.Prelude.{◌≡◌, ℕ, zero, suc, ◌+◌, ◌-◌, ◌*◌, ◌^◌, ◌<◌, Bool, cond, List, [], ◌∷◌, bit_and, nat_lt}
use Rattle.label.specs.Label.{bit}
use Rattle.planes.specs.declared.LabelPlanes.{LabelPlanes}

-- the set of the elements at which p passes: bit i is 1 exactly where there is an element i and p passes at it (`set_bit`, planes/proofs/Sets.antt)
unfoldable pub set_of : {A : Type 0} → (A → Bool) → List A → ℕ
set_of p [] = 0
set_of p (x ∷ xs) = cond (p x) 1 0 + 2 * set_of p xs

-- a set without its lowest element: bit i is 1 where it was and i is not the lowest (`rest_bit`, planes/proofs/Sets.antt)
abbrev pub without_lowest : ℕ → ℕ
without_lowest x = bit_and x (x - 1)

-- the label of message i from n planes: bit i of plane b is bit b of the label
unfoldable pub label_from : ℕ → (ℕ → ℕ) → ℕ → ℕ
label_from zero plane i = 0
label_from (suc n) plane i = bit i (plane 0) + 2 * label_from n (λ b. plane (suc b)) i

-- bit i of the word x is f i, for each of the 64
abbrev pub Bits : (ℕ → ℕ) → ℕ → Type 0
Bits f x = (i : ℕ) → i < 64 → bit i x ≡ f i

-- the message that is at index i once message k is gone
abbrev pub behind_gap : ℕ → ℕ → ℕ
behind_gap k i = cond (nat_lt i k) i (suc i)

-- ---- the planes of a list of labels

-- plane b of the four
abbrev pub plane_of : LabelPlanes → ℕ → ℕ
plane_of p zero = p.first
plane_of p (suc zero) = p.second
plane_of p (suc (suc zero)) = p.third
plane_of p (suc (suc (suc b))) = p.fourth

-- no plane has a bit from n on
abbrev pub Fits : ℕ → LabelPlanes → Type 0
Fits n p = (b : ℕ) → b < 4 → plane_of p b < 2 ^ n

-- a label ahead of those in the planes
abbrev pub ahead : ℕ → LabelPlanes → LabelPlanes
ahead label p =
    record {
      first = bit 0 label + 2 * p.first;
      second = bit 1 label + 2 * p.second;
      third = bit 2 label + 2 * p.third;
      fourth = bit 3 label + 2 * p.fourth;
    }

-- label i is read from them again (`label_gathered`, planes/proofs/Gathered.antt)
unfoldable pub planes_of : List ℕ → LabelPlanes
planes_of [] = record { first = 0; second = 0; third = 0; fourth = 0 }
planes_of (label ∷ labels) = ahead label (planes_of labels)
