-- Laws of a test made plane by plane: of a word whose bits are 1 where some plane so far has failed.
use Rattle.std.proofs.Common.{◌≡◌, ℕ, ◌+◌, ◌-◌, ◌^◌, ◌<◌, ◌≤◌, max, Bool, true, false, cond, ◌&&◌, refl, ◌∙◌, add-one, arith}
use lib.Bits.{bit_or, or_lt}
use Rattle.wire.specs.Lists.{each}
use Rattle.label.specs.Label.{bit}
use Rattle.label.proofs.Bits.{bit_zero, bit_or_lem, bit_not}
use Rattle.planes.specs.Planes.{Bits}
use Rattle.planes.proofs.Words.{all_ones}

either : (p q : Bool) → max (cond q 0 1) (cond p 0 1) ≡ cond (p && q) 0 1
either true true = refl
either true false = refl
either false true = refl
either false false = refl

passes : (p : Bool) → 1 - cond p 0 1 ≡ cond p 1 0
passes true = refl
passes false = refl

-- message i passes at plane b
module _ (test : ℕ → ℕ → Bool) where
  -- the word once b of four planes were tested
  abbrev pub Failed : ℕ → ℕ → Type 0
  Failed b x = (b ≤ 4) × (x < 2 ^ 64) × Bits (λ i. cond (each b (test i)) 0 1) x

  pub failed_none : Failed 0 0
  unfolding each
  failed_none = (omega arith, omega arith, λ i l. bit_zero i)

  pub failed_more : (b x y : ℕ) → b < 4 → Failed b x → y < 2 ^ 64 → Bits (λ i. cond (test i b) 0 1) y → Failed (b + 1) (bit_or x y)
  unfolding each
  failed_more b x y l p h q =
      (omega arith, or_lt 64 x y p.1 h, λ i k. bit_or_lem i x y ∙ rw (p.2 i k, q i k, add-one b) (either (test i b) (each b (test i))))

  -- what is left passes at each plane
  pub all_passed : (whole : ℕ → Bool) (b x : ℕ) → 4 ≤ b → Failed b x → ((i : ℕ) → whole i ≡ each 4 (test i)) → Bits (λ i. cond (whole i) 1 0) (all_ones - x)
  all_passed whole b x l p e i k =
      let all : b ≡ 4 = omega arith in
      let q : bit i x ≡ cond (each 4 (test i)) 0 1 = rw all at (p.2 i k) in
      bit_not i 64 x k p.1 ∙ rw (q, e i) (passes (each 4 (test i)))
