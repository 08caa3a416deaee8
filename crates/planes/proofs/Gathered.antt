-- Laws of the planes of a list of labels: bit i of plane b is bit b of label i, and there is none behind the last.
use Rattle.std.proofs.Common.{◌≡◌, ℕ, zero, suc, ◌+◌, ◌*◌, ◌<◌, ◌≤◌, List, [], ◌∷◌, length, get_or, refl, ◌∙◌, lt_of_lt_of_le, not-suc-le-zero, pow-suc, arith, pow_mono}
use Rattle.label.specs.Label.{bit}
use Rattle.label.proofs.Bits.{bit_lt, bit_ahead_first, bit_ahead_rest}
use Rattle.planes.specs.declared.LabelPlanes.{LabelPlanes}
use Rattle.planes.specs.Planes.{label_from, plane_of, Fits, ahead, planes_of}
use Rattle.planes.proofs.Labels.{label_is}

plane_none : (b : ℕ) → plane_of (planes_of []) b ≡ 0
unfolding planes_of
plane_none zero = refl
plane_none (suc zero) = refl
plane_none (suc (suc zero)) = refl
plane_none (suc (suc (suc b))) = refl

plane_ahead : (label : ℕ) (p : LabelPlanes) (b : ℕ) → b < 4 → plane_of (ahead label p) b ≡ bit b label + 2 * plane_of p b
plane_ahead label p zero h = refl
plane_ahead label p (suc zero) h = refl
plane_ahead label p (suc (suc zero)) h = refl
plane_ahead label p (suc (suc (suc zero))) h = refl
plane_ahead label p (suc (suc (suc (suc b)))) h = absurd (omega arith)

planes_below : (labels : List ℕ) → Fits (length labels) (planes_of labels)
unfolding planes_of
planes_below [] b h = rw (plane_none b) (omega arith)
planes_below (label ∷ labels) b h =
    let ih = planes_below labels b h in
    let small = bit_lt b label in
    rw (plane_ahead label (planes_of labels) b h, pow-suc) (omega arith)

pub planes_fit : (n : ℕ) (labels : List ℕ) → length labels ≤ n → Fits n (planes_of labels)
planes_fit n labels few b h = lt_of_lt_of_le (planes_below labels b h) (pow_mono {i = length labels} {j = n} few)

plane_bit : (labels : List ℕ) (b i : ℕ) → b < 4 → i < length labels → bit i (plane_of (planes_of labels) b) ≡ bit b (get_or labels i 0)
unfolding planes_of
plane_bit [] b i h l = absurd (not-suc-le-zero l)
plane_bit (label ∷ labels) b zero h l = rw (plane_ahead label (planes_of labels) b h) (bit_ahead_first (bit b label) (plane_of (planes_of labels) b) (bit_lt b label))
plane_bit (label ∷ labels) b (suc i) h l =
    rw (plane_ahead label (planes_of labels) b h)
    (bit_ahead_rest (bit b label) (plane_of (planes_of labels) b) (bit_lt b label) i ∙ plane_bit labels b i h (omega arith))

-- label i is read from the planes
pub label_gathered : (labels : List ℕ) (i : ℕ) → i < length labels → get_or labels i 0 ≤ 15 → label_from 4 (plane_of (planes_of labels)) i ≡ get_or labels i 0
label_gathered labels i l small =
    label_is 4 (plane_of (planes_of labels)) i (get_or labels i 0) (omega arith) (λ b h. plane_bit labels b i h l)
