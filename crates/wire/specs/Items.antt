-- Items one after another; those that are read have a fixed width.
use Rattle.std.specs.Prelude.{ℕ, zero, suc, List, [], ◌∷◌, ◌++◌, drop}

module _ {A : Type 0} where
  -- the first k items of b, w bytes each, as f reads them
  unfoldable pub decode_items : ℕ → (List ℕ → A) → ℕ → List ℕ → List A
  decode_items w f zero b = []
  decode_items w f (suc k) b = f b ∷ decode_items w f k (drop w b)

  -- the bytes of the items, each as g writes it
  unfoldable pub encode_items : (A → List ℕ) → List A → List ℕ
  encode_items g [] = []
  encode_items g (x ∷ xs) = g x ++ encode_items g xs
