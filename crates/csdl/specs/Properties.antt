-- Rules 10 to 12: properties, redeclaration, required steps.
use Rattle.std.specs.Prelude.{ℕ, Bool, true, false, not, ◌&&◌, ◌||◌, eqb}
use Rattle.packed.specs.Bytes.{same}
use Rattle.csdl.specs.Search.{any_from}
use Rattle.csdl.specs.Climb.{reaches}
use Rattle.csdl.specs.Model.{Model, property_text, present, on}
use Rattle.csdl.specs.Model.Table.{type-table, property-table}
use Rattle.csdl.specs.Find.{entity, complex, definition, structured, ancestor, ancestor_or_self, integral}
use Rattle.csdl.specs.declared.Record.{Record}

-- Stream (64 + 15), or a type definition of it.
unfoldable pub is_stream : Model → ℕ → Bool
is_stream m x = eqb x 79 || definition m x && eqb (m.underlying x) 15

-- Rule 10, of a property.
-- 10a (s. 7, 8): the owner is not structured.
abbrev pub property10a : Model → ℕ → Bool
property10a m p = not (structured m (m.owner p))

-- 10b (s. 8.1): a navigation property to no entity type.
abbrev pub property10b : Model → ℕ → Bool
property10b m p = m.navigation p && not (entity m (m.type_ref p))

-- 10c (s. 7, 7.1): a structural property of entity type.
abbrev pub property10c : Model → ℕ → Bool
property10c m p = not (m.navigation p) && entity m (m.type_ref p)

-- 10d (s. 7, 8.4): a structural property that contains.
abbrev pub property10d : Model → ℕ → Bool
property10d m p = not (m.navigation p) && m.contains p

-- 10e (s. 7, 8.3): a structural property with a partner.
abbrev pub property10e : Model → ℕ → Bool
property10e m p = not (m.navigation p) && present (m.partner p)

-- 10f (s. 8.2): a navigation property that is a collection, with nullable.
abbrev pub property10f : Model → ℕ → Bool
property10f m p = m.navigation p && m.collection p && m.nullable p

-- 10g (s. 3.3): a collection of Stream, or of a type definition of it.
abbrev pub property10g : Model → ℕ → Bool
property10g m p = m.collection p && is_stream m (m.type_ref p)

-- 10h (s. 8.3): a partner on a complex owner.
abbrev pub property10h : Model → ℕ → Bool
property10h m p = present (m.partner p) && complex m (m.owner p)

unfoldable pub property10 : Model → ℕ → Bool
property10 m p =
    property10a m p || property10b m p || property10c m p || property10d m p || property10e m p || property10f m p || property10g m p || property10h m p

abbrev pub rule10 : Model → Record → Bool
rule10 m r = on property-table (λ p. property10 m p) r

-- Rule 11 (s. 7, 8; house: collection, nullable, contains agree), of a property.
abbrev pub alike : Bool → Bool → Bool
alike true b = b
alike false b = not b

unfoldable pub same_name : Model → ℕ → ℕ → Bool
same_name m p q = same (property_text m p) (property_text m q)

-- p may redeclare q: both or neither navigate, p's type derives from q's, and collection, nullable, contains agree.
unfoldable pub redeclares : Model → ℕ → ℕ → Bool
redeclares m p q =
    alike (m.navigation p) (m.navigation q) && ancestor m (m.type_ref q) (m.type_ref p) && alike (m.collection p) (m.collection q)
    && alike (m.nullable p) (m.nullable q)
    && alike (m.contains p) (m.contains q)

-- 11a: an earlier property of the owner has the name.
unfoldable pub property11a : Model → ℕ → Bool
property11a m p = any_from (λ q. eqb (m.owner q) (m.owner p) && same_name m p q) 0 p

-- 11b: a property of an ancestor has the name, and this one may not redeclare it.
unfoldable pub property11b : Model → ℕ → Bool
property11b m p = any_from (λ q. ancestor m (m.owner q) (m.owner p) && same_name m p q && not (redeclares m p q)) 0 m.properties

unfoldable pub property11 : Model → ℕ → Bool
property11 m p = property11a m p || property11b m p

abbrev pub rule11 : Model → Record → Bool
rule11 m r = on property-table (λ p. property11 m p) r

-- Rule 12 (s. 3.2, 7.1, 8.1), of a type.
-- A property that gives steps: single, not nullable, complex or containment.
unfoldable pub required : Model → ℕ → Bool
required m p = not (m.collection p) && not (m.nullable p) && integral m p

-- One step from t goes to the type of a required property of t or of an ancestor.
unfoldable pub required_step : Model → ℕ → ℕ → Bool
required_step m t u = any_from (λ p. required m p && eqb (m.type_ref p) u && ancestor_or_self m (m.owner p) t) 0 m.properties

-- 12a: the type reaches itself in one or more steps.
unfoldable pub type12 : Model → ℕ → Bool
type12 m t = reaches (λ a b. required_step m a b) m.types t t

abbrev pub rule12 : Model → Record → Bool
rule12 m r = on type-table (λ t. type12 m t) r
