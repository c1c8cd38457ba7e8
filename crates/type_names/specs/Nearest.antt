-- What each name means at a type.
use Rattle.std.specs.Prelude.{ℕ, ◌+◌, ◌<◌, ◌≡◌, ◌&&◌, List, eqb, length, get_or}
use Rattle.csdl.specs.Search.{first_from}
use Rattle.csdl.specs.Climb.{nearest}
use Rattle.csdl.specs.Tables.{type_count, type_base, property_count, property_owner}

-- The nearest declaration at type t of the name whose first property is h - 1: 0 for none, else the property's number plus 1.
abbrev pub nearest_of : List ℕ → List ℕ → List ℕ → ℕ → ℕ → ℕ
nearest_of types properties index t h =
    nearest (λ u. first_from (λ q. eqb (property_owner properties q) u && eqb (get_or index (512 + q) 0) h) 0 (property_count properties)) (λ u. type_base types u) (type_count types) t

pub record Meaning (types properties index : List ℕ) (t : ℕ) (found : List ℕ) : Type 0 where
  pub size : length found ≡ 513
  pub is : (h : ℕ) → h < 513 → get_or found h 0 ≡ nearest_of types properties index t h
