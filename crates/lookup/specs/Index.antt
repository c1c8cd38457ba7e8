-- An index of the properties by name.
use Rattle.std.specs.Prelude.{ℕ, ◌+◌, ◌-◌, ◌<◌, ◌≡◌, List, get_or}
use Rattle.packed.specs.Bytes.{same}
use Rattle.csdl.specs.Search.{first_from}
use Rattle.csdl.specs.Tables.{property_count}
use Rattle.name_classes.specs.Classes.{name_of, Ranked}

-- The first property from number k on that has the name: 0 for none, else its number plus 1.
abbrev pub named_from : List ℕ → List ℕ → List ℕ → ℕ → ℕ
named_from properties names name k = first_from (λ p. same (name_of properties names p) name) k (property_count properties - k)

-- The first property of each name in the order of the names, for each property the first that has its name, and the next.
pub record Indexed (properties names index : List ℕ) : Type 0 where
  pub ranked : Ranked (λ p. name_of properties names p) (property_count properties) (get_or index 1536 0) index
  pub next : (p : ℕ) → p < property_count properties → get_or index (1024 + p) 0 ≡ named_from properties names (name_of properties names p) (p + 1)
