-- Finding a property: kinds of type reference, ancestors, "at", the lookup of a name, the names of a type.
use Rattle.std.specs.Prelude.{ℕ, suc, List, Bool, not, ◌&&◌, ◌||◌, eqb, ltb, leb}
use Rattle.packed.specs.Bytes.{same}
use Rattle.csdl.specs.Search.{first_from, any_from}
use Rattle.csdl.specs.Climb.{climb, nearest, topmost}
use Rattle.csdl.specs.Model.{Model, property_text}

-- A type reference is a type number, or 64 + primitive code. Kinds: 0 entity, 1 complex, 2 enumeration, 3 type definition.
unfoldable pub of_kind : Model → ℕ → ℕ → Bool
of_kind m k x = ltb x m.types && eqb (m.kind x) k

abbrev pub entity : Model → ℕ → Bool
entity m x = of_kind m 0 x

abbrev pub complex : Model → ℕ → Bool
complex m x = of_kind m 1 x

abbrev pub enumeration : Model → ℕ → Bool
enumeration m x = of_kind m 2 x

abbrev pub definition : Model → ℕ → Bool
definition m x = of_kind m 3 x

-- Entity and complex types are structured.
unfoldable pub structured : Model → ℕ → Bool
structured m x = ltb x m.types && leb (m.kind x) 1

-- a is an ancestor of t: its base, that base's base, and so on; t derives from a.
unfoldable pub ancestor : Model → ℕ → ℕ → Bool
ancestor m a t = climb m.base m.types a t

-- t is at a: a is t itself, or an ancestor of t.
unfoldable pub ancestor_or_self : Model → ℕ → ℕ → Bool
ancestor_or_self m a t = eqb t a || ancestor m a t

-- The topmost type above t, or t itself.
unfoldable pub top : Model → ℕ → ℕ
top m t = topmost m.base m.types t

-- Property p is one that t itself declares under the name.
unfoldable pub declares : Model → List ℕ → ℕ → ℕ → Bool
declares m nm t p = eqb (m.owner p) t && same (property_text m p) nm

-- The declaration of the name on the type itself: 0 for none, else the property's number plus 1.
unfoldable pub own : Model → List ℕ → ℕ → ℕ
own m nm t = first_from (λ p. declares m nm t p) 0 m.properties

-- What a name means at a type: the declaration on the type itself, else on its nearest ancestor; 0 for none, else the property's number plus 1.
unfoldable pub find : Model → List ℕ → ℕ → ℕ
find m nm t = nearest (λ u. own m nm u) m.base m.types t

-- The names of a type: the properties that are what their own name means there, the nearest declarations, once each.
unfoldable pub is_name_of : Model → ℕ → ℕ → Bool
is_name_of m t p = eqb (find m (property_text m p) t) (suc p)

-- A structural property of a complex type; a navigation property that contains.
unfoldable pub complex_step : Model → ℕ → Bool
complex_step m p = not (m.navigation p) && complex m (m.type_ref p)

unfoldable pub contain_step : Model → ℕ → Bool
contain_step m p = m.navigation p && m.contains p

-- Its items are integral: a complex or a containment property.
unfoldable pub integral : Model → ℕ → Bool
integral m p = complex_step m p || contain_step m p

-- A key record has the type or one of its ancestors as owner.
unfoldable pub has_key : Model → ℕ → Bool
has_key m t = any_from (λ k. ancestor_or_self m (m.key_owner k) t) 0 m.keys
