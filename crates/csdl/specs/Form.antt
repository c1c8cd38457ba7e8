-- Rules 3 to 7: spare bits, numbers within their tables, names.
use Rattle.std.specs.Prelude.{ℕ, ◌+◌, List, [], ◌∷◌, Bool, false, cond, not, ◌&&◌, ◌||◌, length, get_or, eqb, ltb, leb}
use Rattle.packed.specs.Bytes.{same}
use Rattle.csdl.specs.Search.{any_from, all}
use Rattle.csdl.specs.Tables.{Name}
use Rattle.csdl.specs.declared.Run.{Run}
use Rattle.csdl.specs.Model.{Model, alias_text, child_text, namespace_text, type_text, text, named, present, on}
use Rattle.csdl.specs.Model.Table.{schema-table, type-table, child-table}
use Rattle.csdl.specs.declared.Record.{Record}
use Rattle.csdl.specs.declared.Record.TheVariants.{OfSchema, OfType, OfProperty, OfKey, OfConstraint, OfChild, OfBinding, OfSegment, Nowhere}

-- Rule 3 (house). 3a: a spare bit is set. A schema has none.
unfoldable pub rule3 : Model → Record → Bool
rule3 m (OfSchema s) = false
rule3 m (OfType t) = not (eqb (m.type_spare t) 0)
rule3 m (OfProperty p) = not (eqb (m.property_spare p) 0)
rule3 m (OfKey k) = not (eqb (m.key_spare k) 0)
rule3 m (OfConstraint c) = not (eqb (m.constraint_spare c) 0)
rule3 m (OfChild h) = not (eqb (m.child_spare h) 0)
rule3 m (OfBinding b) = not (eqb (m.binding_spare b) 0)
rule3 m (OfSegment g) = not (eqb (m.segment_spare g) 0)
rule3 m Nowhere = false

-- Rule 4 (house), a clause for each fault; below, for each record, the fields that it is asked of.
-- 4a: a number is not below its count.
abbrev pub beyond4a : ℕ → ℕ → Bool
beyond4a number count = not (ltb number count)

-- 4b, 4d: a name goes past the name bytes, or is absent with a start that is not 0.
abbrev pub name4bd : Model → Name → Bool
name4bd m n = cond (named n) (ltb (length m.names) (n.start + n.size)) (not (eqb n.start 0))

-- 4c, 4d: a run goes past the end of its table, or is absent with a first number that is not 0.
abbrev pub run4cd : ℕ → Run → Bool
run4cd count r = cond (present r) (ltb count (r.first + r.count)) (not (eqb r.first 0))

-- 4b, 4d, 4e of a name that may not be absent.
unfoldable pub name4 : Model → Name → Bool
name4 m n = not (named n) || name4bd m n

-- 4b, 4d of a name that may be absent.
unfoldable pub optional_name4 : Model → Name → Bool
optional_name4 m n = name4bd m n

-- 4c, 4d, 4e of a path that may not be absent.
unfoldable pub path4 : Model → Run → Bool
path4 m r = not (present r) || run4cd m.segments r

-- 4c, 4d of a path that may be absent.
unfoldable pub optional_path4 : Model → Run → Bool
optional_path4 m r = run4cd m.segments r

-- 4f: the kind is over 3. 4g: the underlying type is over 17.
abbrev pub kind4f : Model → ℕ → Bool
kind4f m t = ltb 3 (m.kind t)

abbrev pub underlying4g : Model → ℕ → Bool
underlying4g m t = ltb 17 (m.underlying t)

-- 4h: a type reference is neither a type number below the count nor 64 + a primitive code from 1 to 17.
unfoldable pub reference4h : Model → ℕ → Bool
reference4h m x = not (ltb x m.types) && not (leb 65 x && leb x 81)

-- The fields of each record; a base is 0 or type number + 1.
unfoldable pub schema4 : Model → ℕ → Bool
schema4 m s = name4 m (m.namespace s) || optional_name4 m (m.alias s)

unfoldable pub type4 : Model → ℕ → Bool
type4 m t = beyond4a (m.schema_of t) m.schemas || beyond4a (m.base t) (m.types + 1) || kind4f m t || underlying4g m t || name4 m (m.type_name t)

unfoldable pub property4 : Model → ℕ → Bool
property4 m p =
    beyond4a (m.owner p) m.types || reference4h m (m.type_ref p) || name4 m (m.property_name p) || optional_path4 m (m.partner p)

unfoldable pub key4 : Model → ℕ → Bool
key4 m k = beyond4a (m.key_owner k) m.types || path4 m (m.key_path k) || optional_name4 m (m.key_alias k)

unfoldable pub constraint4 : Model → ℕ → Bool
constraint4 m c = beyond4a (m.constrained c) m.properties || path4 m (m.dependent c) || path4 m (m.principal c)

unfoldable pub child4 : Model → ℕ → Bool
child4 m h = beyond4a (m.child_type h) m.types || name4 m (m.child_name h)

unfoldable pub binding4 : Model → ℕ → Bool
binding4 m b =
    beyond4a (m.binding_child b) m.children || path4 m (m.binding_path b) || beyond4a (m.target b) m.children || optional_path4 m (m.target_path b)

unfoldable pub segment4 : Model → ℕ → Bool
segment4 m g = cond (m.is_cast g) (beyond4a (m.cast_type g) m.types) (name4 m (m.segment_name g))

unfoldable pub rule4 : Model → Record → Bool
rule4 m (OfSchema s) = schema4 m s
rule4 m (OfType t) = type4 m t
rule4 m (OfProperty p) = property4 m p
rule4 m (OfKey k) = key4 m k
rule4 m (OfConstraint c) = constraint4 m c
rule4 m (OfChild h) = child4 m h
rule4 m (OfBinding b) = binding4 m b
rule4 m (OfSegment g) = segment4 m g
rule4 m Nowhere = false

-- Rule 5 (s. 3.1, 5.1, 6.5, 7, 8, 13.2, 13.3, 15.1, 15.2; house: ASCII, at most 255 bytes).
-- A letter, a digit, an underscore, as ASCII bytes.
unfoldable pub is_digit : ℕ → Bool
is_digit c = leb 48 c && leb c 57

unfoldable pub is_letter : ℕ → Bool
is_letter c = leb 65 c && leb c 90 || leb 97 c && leb c 122

unfoldable pub is_word_byte : ℕ → Bool
is_word_byte c = is_letter c || is_digit c || eqb c 95

-- A simple identifier: 1 to 128 letters, digits and underscores, the first not a digit.
unfoldable pub simple : List ℕ → Bool
simple s = leb 1 (length s) && leb (length s) 128 && not (is_digit (get_or s 0 0)) && all (λ c. is_word_byte c) s

-- The parts of a name between its dots.
abbrev pub with_first : ℕ → List (List ℕ) → List (List ℕ)
with_first c [] = (c ∷ []) ∷ []
with_first c (p ∷ ps) = (c ∷ p) ∷ ps

unfoldable pub dotted : List ℕ → List (List ℕ)
dotted [] = [] ∷ []
dotted (c ∷ s) = let rest = dotted s in cond (eqb c 46) ([] ∷ rest) (with_first c rest)

-- 5a (s. 15.2): a name that has to be a simple identifier is none.
unfoldable pub name5a : Model → Name → Bool
name5a m n = not (simple (text m n))

-- 5b (s. 15.1): a namespace is not 1 to 255 bytes of simple identifiers joined by dots.
unfoldable pub namespace5b : Model → Name → Bool
namespace5b m n = not (leb 1 (length (text m n)) && leb (length (text m n)) 255 && all (λ p. simple p) (dotted (text m n)))

-- An alias that is there is a simple identifier.
unfoldable pub alias5a : Model → Name → Bool
alias5a m n = named n && name5a m n

unfoldable pub rule5 : Model → Record → Bool
rule5 m (OfSchema s) = namespace5b m (m.namespace s) || alias5a m (m.alias s)
rule5 m (OfType t) = name5a m (m.type_name t)
rule5 m (OfProperty p) = name5a m (m.property_name p)
rule5 m (OfKey k) = alias5a m (m.key_alias k)
rule5 m (OfConstraint c) = false
rule5 m (OfChild h) = name5a m (m.child_name h)
rule5 m (OfBinding b) = false
rule5 m (OfSegment g) = not (m.is_cast g) && name5a m (m.segment_name g)
rule5 m Nowhere = false

-- Rule 6 (s. 5, 5.1), of a schema.
-- The four reserved names, as bytes: Edm, odata, System, Transient.
unfoldable pub reserved : List ℕ → Bool
reserved s =
    same s (69 ∷ 100 ∷ 109 ∷ []) || same s (111 ∷ 100 ∷ 97 ∷ 116 ∷ 97 ∷ []) || same s (83 ∷ 121 ∷ 115 ∷ 116 ∷ 101 ∷ 109 ∷ [])
    || same s (84 ∷ 114 ∷ 97 ∷ 110 ∷ 115 ∷ 105 ∷ 101 ∷ 110 ∷ 116 ∷ [])

-- The bytes are the namespace or the alias of schema j.
unfoldable pub names_schema : Model → List ℕ → ℕ → Bool
names_schema m s j = same s (namespace_text m j) || named (m.alias j) && same s (alias_text m j)

-- 6a (s. 5, 5.1): the namespace or the alias is reserved.
abbrev pub schema6a : Model → ℕ → Bool
schema6a m i = reserved (namespace_text m i) || named (m.alias i) && reserved (alias_text m i)

-- 6b (s. 5.1): the alias equals the namespace.
abbrev pub schema6b : Model → ℕ → Bool
schema6b m i = named (m.alias i) && same (alias_text m i) (namespace_text m i)

-- 6c (s. 5, 5.1): the namespace or the alias is one of an earlier schema's two names.
unfoldable pub shares_name : Model → ℕ → ℕ → Bool
shares_name m i j = names_schema m (namespace_text m i) j || named (m.alias i) && names_schema m (alias_text m i) j

abbrev pub schema6c : Model → ℕ → Bool
schema6c m i = any_from (λ j. shares_name m i j) 0 i

unfoldable pub schema6 : Model → ℕ → Bool
schema6 m i = schema6a m i || schema6b m i || schema6c m i

abbrev pub rule6 : Model → Record → Bool
rule6 m r = on schema-table (λ s. schema6 m s) r

-- Rule 7.
-- 7a (s. 3.1, 5, 6, 9, 10, 11): the type has the name of an earlier type of its schema.
unfoldable pub same_type : Model → ℕ → ℕ → Bool
same_type m t u = eqb (m.schema_of u) (m.schema_of t) && same (type_text m u) (type_text m t)

unfoldable pub type7a : Model → ℕ → Bool
type7a m t = any_from (λ u. same_type m t u) 0 t

-- 7b (s. 13): the child has the name of an earlier child.
unfoldable pub child7b : Model → ℕ → Bool
child7b m h = any_from (λ j. same (child_text m j) (child_text m h)) 0 h

unfoldable pub rule7 : Model → Record → Bool
rule7 m r = on type-table (λ t. type7a m t) r || on child-table (λ h. child7b m h) r
