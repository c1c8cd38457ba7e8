-- The properties of a model whose items are integral, as a set.
use Rattle.std.specs.Prelude.{ℕ, ◌≡◌, ◌&&◌, List, ltb, length}
use Rattle.csdl.specs.Model.{Model}
use Rattle.csdl.specs.Find.{integral}
use Rattle.type_names.specs.Wide.{MembersWide}

pub record Integrals (m : Model) (set : List ℕ) : Type 0 where
  pub size : length set ≡ 8
  pub is : MembersWide set 0 (λ p. ltb p m.properties && integral m p)
