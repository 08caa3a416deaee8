-- `text::read_number` meets its contract: what stands ahead of the byte that ends the number decides.
use Prim.Native.Nat.{ℕ}
use mathlib.Core.Path.{◌≡◌, refl, ap, ◌∙◌}
use mathlib.Core.List.{List}
use lib.ListN.{take}
use lib.Dec.{eqb}
use Rattle.wire.specs.Lists.{first_index}
use Rattle.text.specs.Inner.{ahead, number_value}
use Rattle.text.proofs.Reading.{number_found}
use Rattle.text.proofs.read_number.Goals as goal

-- the bytes that are taken are those
digits : (end : ℕ) (s taken : List ℕ) (n : ℕ) → n ≡ first_index (λ y. eqb y end) s → taken ≡ take n s → taken ≡ ahead end s
digits end s taken n index took = took ∙ ap (λ (k : ℕ). take k s) index

pub returns : goal.returns
unfolding number_value
returns c =
    let a = c.args in
    let ahead = digits a.end a.s.now _ _ c.index_of.ensures c.take-digits.ensures.0 in
    number_found a.end a.s.now (rw (← ahead, ← c.is_decimal.ensures) refl) (rw (← ahead) c.value.ensures) (rw (← ahead)) c.then_some.ensures
