-- Statements on lists.
use Rattle.std.specs.Prelude.{ℕ, ◌≡◌, List, [], ◌∷◌}

-- Each element has the property.
pub data All {A : Type 0} (P : A → Type 0) : List A → Type 0 where
  none : All P []
  both : {x : A} {l : List A} → P x → All P l → All P (x ∷ l)

-- No number stands in the list twice.
unfoldable pub Distinct : List ℕ → Type 0
Distinct [] = Unit {0}
Distinct (x ∷ l) = All (λ y. x ≡ y → ⊥) l × Distinct l
