-- Rules 13 to 19: segments, keys, constraints, partners, children, bindings.
use Rattle.std.specs.Prelude.{ℕ, ◌+◌, ◌-◌, List, Bool, cond, not, ◌&&◌, ◌||◌, eqb, ltb, leb}
use Rattle.packed.specs.Bytes.{same}
use Rattle.csdl.specs.Search.{any_from, tab, some, is_empty, but_last, last_fails}
use Rattle.csdl.specs.Model.{Model, key_alias_text, named, present, in_run, on}
use Rattle.csdl.specs.Model.Table.{property-table, key-table, constraint-table, child-table, binding-table, segment-table}
use Rattle.csdl.specs.Find.{entity, complex, enumeration, definition, ancestor, ancestor_or_self, top, find, complex_step, contain_step, has_key}
use Rattle.csdl.specs.Properties.{alike}
use Rattle.csdl.specs.Path.{Step, segment_at, segments_of, resolves, path_of, start_of, path_steps, path_end, kinds, holders, paths_with, no_property, is_property, is_other, last_step, first_name, same_segments}
use Rattle.csdl.specs.declared.PathKind.{PathKind}
use Rattle.csdl.specs.Path as path
use Rattle.csdl.specs.declared.PathKind.TheVariants.{Partner, Key, Dependent, Principal, Binding, Target}
use Rattle.csdl.specs.declared.Record.{Record}

-- Rule 13 (house), of a segment. 13a: it is in no path, or in two or more.
unfoldable pub segment13 : Model → ℕ → Bool
segment13 m g = not (eqb (paths_with m g) 1)

abbrev pub rule13 : Model → Record → Bool
rule13 m r = on segment-table (λ g. segment13 m g) r

-- Rule 14, of a segment. It does not resolve, as one of the path of record r: the path does not resolve as far as segment g.
unfoldable pub unresolved_in : Model → PathKind → ℕ → ℕ → Bool
unresolved_in m w g r =
    let run = path_of m w r in
    in_run run g && not (resolves m (start_of m w r) (tab (λ k. segment_at m k) run.first (g + 1 - run.first)))

-- As one of some path of the kind; as one of some path.
unfoldable pub unresolved_of : Model → PathKind → ℕ → Bool
unresolved_of m w g = any_from (λ r. unresolved_in m w g r) 0 (holders m w)

unfoldable pub unresolved : Model → ℕ → Bool
unresolved m g = some (λ w. unresolved_of m w g) kinds

-- 14a (s. 6.5, 8.3, 8.5, 13.4.1, 13.4.2, 14.4.1.1): a name that does not resolve: the type before it is not structured or has no such name, or is not known, since
-- an earlier segment does not resolve.
abbrev pub segment14a : Model → ℕ → Bool
segment14a m g = not (m.is_cast g) && unresolved m g

-- 14b (document 01; by s. 14.4.1.1 such a cast gives null): a cast that does not resolve: its type is not structured or not at the type before it,
-- or that is not known.
abbrev pub segment14b : Model → ℕ → Bool
segment14b m g = m.is_cast g && unresolved m g

unfoldable pub segment14 : Model → ℕ → Bool
segment14 m g = segment14a m g || segment14b m g

abbrev pub rule14 : Model → Record → Bool
rule14 m r = on segment-table (λ g. segment14 m g) r

-- A path has a cast: a step that is no property. (Rule 14 leaves no step that is nothing.)
abbrev pub has_cast : List Step → Bool
has_cast l = some (λ s. no_property s) l

-- Rule 15 (s. 6.5), of a key.
-- The primitive codes of a key's type: all but Binary (1), Double (7), Single (14) and Stream (15).
unfoldable pub key_code : ℕ → Bool
key_code c = leb 2 c && leb c 6 || leb 8 c && leb c 13 || leb 16 c && leb c 17

-- A type that a key property may have: an enumeration, a primitive of those codes, or a definition of one.
unfoldable pub key_type : Model → ℕ → Bool
key_type m x = enumeration m x || leb 64 x && key_code (x - 64) || definition m x && key_code (m.underlying x)

-- What a step of a key before the last may be, and its last.
unfoldable pub key_step : Model → ℕ → Bool
key_step m p = not (m.collection p) && not (m.nullable p) && complex_step m p

unfoldable pub key_end : Model → ℕ → Bool
key_end m p = not (m.collection p) && not (m.nullable p) && key_type m (m.type_ref p)

-- The name of a key: its alias, else the name of its one segment; no bytes where that is a cast, which 15c refuses.
unfoldable pub key_name : Model → ℕ → List ℕ
key_name m k = cond (named (m.key_alias k)) (key_alias_text m k) (first_name (segments_of m (m.key_path k)))

-- 15a: the owner is no entity type.
abbrev pub key15a : Model → ℕ → Bool
key15a m k = not (entity m (m.key_owner k))

-- 15b: an ancestor of the owner has keys.
unfoldable pub key15b : Model → ℕ → Bool
key15b m k = any_from (λ j. ancestor m (m.key_owner j) (m.key_owner k)) 0 m.keys

-- 15c: the path has a cast.
unfoldable pub key15c : Model → ℕ → Bool
key15c m k = has_cast (path_steps m Key k)

-- 15d: a step but the last is not single, not nullable, complex.
abbrev pub key15d : Model → ℕ → Bool
key15d m k = some (λ s. is_other (λ p. key_step m p) s) (but_last (path_steps m Key k))

-- 15e: the last is not single, not nullable, of a type that a key may have.
abbrev pub key15e : Model → ℕ → Bool
key15e m k = is_other (λ p. key_end m p) (last_step (path_steps m Key k))

-- 15f: an alias is not present exactly when the path has more than one segment.
abbrev pub key15f : Model → ℕ → Bool
key15f m k = not (alike (named (m.key_alias k)) (ltb 1 (m.key_path k).count))

-- 15g: an earlier key record of the owner has the name.
unfoldable pub key15g : Model → ℕ → Bool
key15g m k = any_from (λ j. eqb (m.key_owner j) (m.key_owner k) && same (key_name m j) (key_name m k)) 0 k

-- 15h: the alias is the name of a property of the owner or an ancestor.
abbrev pub key15h : Model → ℕ → Bool
key15h m k = named (m.key_alias k) && not (eqb (find m (key_alias_text m k) (m.key_owner k)) 0)

unfoldable pub key15 : Model → ℕ → Bool
key15 m k = key15a m k || key15b m k || key15c m k || (key15d m k || key15e m k) || key15f m k || key15g m k || key15h m k

abbrev pub rule15 : Model → Record → Bool
rule15 m r = on key-table (λ k. key15 m k) r

-- Rule 16 (s. 8.5, but for 16d), of a constraint. The last steps of its two paths are properties that pass the test.
abbrev pub both_end : Model → ℕ → (ℕ → ℕ → Bool) → Bool
both_end m c test = is_property (λ d. is_property (λ r. test d r) (last_step (path_steps m Principal c))) (last_step (path_steps m Dependent c))

-- What a step of a constraint's path before the last may be.
unfoldable pub constraint_step : Model → ℕ → Bool
constraint_step m p = not (m.collection p) && complex_step m p

-- 16a: the property is not a single navigation property.
abbrev pub constraint16a : Model → ℕ → Bool
constraint16a m c = not (m.navigation (m.constrained c)) || m.collection (m.constrained c)

-- 16b: either path has a cast.
unfoldable pub constraint16b : Model → ℕ → Bool
constraint16b m c = has_cast (path_steps m Dependent c) || has_cast (path_steps m Principal c)

-- 16c: in either path, a step but the last is not single complex.
unfoldable pub broken_inner : Model → List Step → Bool
broken_inner m l = some (λ s. is_other (λ p. constraint_step m p) s) (but_last l)

abbrev pub constraint16c : Model → ℕ → Bool
constraint16c m c = broken_inner m (path_steps m Dependent c) || broken_inner m (path_steps m Principal c)

-- 16d (house): the last of either path is no structural property.
abbrev pub broken_end : Model → List Step → Bool
broken_end m l = not (is_property (λ p. not (m.navigation p)) (last_step l))

abbrev pub constraint16d : Model → ℕ → Bool
constraint16d m c = broken_end m (path_steps m Dependent c) || broken_end m (path_steps m Principal c)

-- 16e: types or collection bits differ, and not both are single complex.
unfoldable pub same_shape : Model → ℕ → ℕ → Bool
same_shape m d r = eqb (m.type_ref d) (m.type_ref r) && alike (m.collection d) (m.collection r)

unfoldable pub both_complex : Model → ℕ → ℕ → Bool
both_complex m d r = not (m.collection d) && not (m.collection r) && complex m (m.type_ref d) && complex m (m.type_ref r)

unfoldable pub other_shape : Model → ℕ → ℕ → Bool
other_shape m d r = not (same_shape m d r) && not (both_complex m d r)

abbrev pub constraint16e : Model → ℕ → Bool
constraint16e m c = both_end m c (λ d r. other_shape m d r)

-- 16f: the dependent is not nullable exactly when the navigation property or the principal is.
unfoldable pub other_nullable : Model → ℕ → ℕ → ℕ → Bool
other_nullable m p d r = not (alike (m.nullable d) (m.nullable p || m.nullable r))

abbrev pub constraint16f : Model → ℕ → Bool
constraint16f m c = both_end m c (λ d r. other_nullable m (m.constrained c) d r)

unfoldable pub constraint16 : Model → ℕ → Bool
constraint16 m c = constraint16a m c || constraint16b m c || constraint16c m c || constraint16d m c || constraint16e m c || constraint16f m c

abbrev pub rule16 : Model → Record → Bool
rule16 m r = on constraint-table (λ c. constraint16 m c) r

-- Rule 17, of a property that has a partner path. The path leads to a property, its partner, that passes the test.
abbrev pub partner_is : Model → ℕ → (ℕ → Bool) → Bool
partner_is m p test = is_property test (last_step (path_steps m Partner p))

-- 17a (s. 8.3): the last segment is a cast, or no navigation property.
abbrev pub property17a : Model → ℕ → Bool
property17a m p = not (partner_is m p (λ q. m.navigation q))

-- 17b (s. 8.3): an earlier segment is a navigation property.
abbrev pub property17b : Model → ℕ → Bool
property17b m p = some (λ s. is_property (λ q. m.navigation q) s) (but_last (path_steps m Partner p))

-- 17c (s. 8.3): the owner is not at the partner's type.
abbrev pub property17c : Model → ℕ → Bool
property17c m p = partner_is m p (λ q. not (ancestor_or_self m (m.type_ref q) (m.owner p)))

-- 17d (s. 8.3): the partner has a partner other than this property.
abbrev pub property17d : Model → ℕ → Bool
property17d m p = partner_is m p (λ q. present (m.partner q) && not (partner_is m q (λ x. eqb x p)))

-- 17e (s. 8.4): this property contains, and the partner is not nullable within one hierarchy, or nullable across two.
abbrev pub property17e : Model → ℕ → Bool
property17e m p =
    partner_is m p (λ q. m.contains p && cond (eqb (top m (m.owner p)) (top m (m.type_ref p))) (not (m.nullable q)) (m.nullable q))

-- 17f (s. 8.4): the partner contains, as does that of another property of the owner or an ancestor.
unfoldable pub other_contained : Model → ℕ → ℕ → Bool
other_contained m p q = not (eqb q p) && present (m.partner q) && ancestor_or_self m (m.owner q) (m.owner p) && partner_is m q (λ x. m.contains x)

abbrev pub property17f : Model → ℕ → Bool
property17f m p = partner_is m p (λ q. m.contains q && any_from (λ x. other_contained m p x) 0 m.properties)

unfoldable pub property17 : Model → ℕ → Bool
property17 m p =
    present (m.partner p)
    && (property17a m p || property17b m p || property17c m p || property17d m p || property17e m p || property17f m p)

abbrev pub rule17 : Model → Record → Bool
rule17 m r = on property-table (λ p. property17 m p) r

-- Rule 18.
-- 18a (s. 6.5, 8.1, 8.4): a contained collection of a type that has no key, own or inherited.
unfoldable pub property18a : Model → ℕ → Bool
property18a m p = m.navigation p && m.contains p && m.collection p && not (has_key m (m.type_ref p))

-- 18b (s. 6.5, 13.2): an entity set of a type that has no key.
abbrev pub child18b : Model → ℕ → Bool
child18b m h = not (m.singleton h) && not (has_key m (m.child_type h))

-- 18c (s. 13.2, 13.3): a child whose type is no entity type.
abbrev pub child18c : Model → ℕ → Bool
child18c m h = not (entity m (m.child_type h))

-- 18d (s. 13.2, which has no such attribute): an entity set with nullable.
abbrev pub child18d : Model → ℕ → Bool
child18d m h = not (m.singleton h) && m.child_nullable h

unfoldable pub child18 : Model → ℕ → Bool
child18 m h = child18b m h || child18c m h || child18d m h

unfoldable pub rule18 : Model → Record → Bool
rule18 m r = on property-table (λ p. property18a m p) r || on child-table (λ h. child18 m h) r

-- Rule 19, of a binding.
-- A navigation property without containment.
unfoldable pub non_containment : Model → ℕ → Bool
non_containment m p = m.navigation p && not (m.contains p)

-- The properties of the names of a binding's path, in order; casts are left out.
abbrev pub binding_names : Model → ℕ → List ℕ
binding_names m b = path.properties (path_steps m Binding b)

-- 19a (s. 13.4.1): the path has no name.
abbrev pub binding19a : Model → ℕ → Bool
binding19a m b = is_empty (binding_names m b)

-- 19b (s. 8.4, 13.4.1): its last name, which casts may follow, is not a navigation property without containment.
abbrev pub binding19b : Model → ℕ → Bool
binding19b m b = last_fails (λ p. non_containment m p) (binding_names m b)

-- 19c (s. 13.4.1): an earlier name is one.
abbrev pub binding19c : Model → ℕ → Bool
binding19c m b = some (λ p. non_containment m p) (but_last (binding_names m b))

-- 19d (s. 13.4.1): an earlier binding of the child has the same segments.
unfoldable pub binding19d : Model → ℕ → Bool
binding19d m b =
    any_from (λ j. eqb (m.binding_child j) (m.binding_child b) && same_segments (segments_of m (m.binding_path j)) (segments_of m (m.binding_path b))) 0 b

-- 19e (s. 13.4.2): a target path under an entity set.
abbrev pub binding19e : Model → ℕ → Bool
binding19e m b = present (m.target_path b) && not (m.singleton (m.target b))

-- 19f (document 01; s. 15.4 allows it): the target path has a cast.
abbrev pub binding19f : Model → ℕ → Bool
binding19f m b = has_cast (path_steps m Target b)

-- 19g (s. 13.4.2): a step of the target path but the last is not single and complex or containment; the last is no containment.
unfoldable pub target_step : Model → ℕ → Bool
target_step m p = not (m.collection p) && (complex_step m p || contain_step m p)

abbrev pub binding19g : Model → ℕ → Bool
binding19g m b =
    some (λ s. is_other (λ p. target_step m p) s) (but_last (path_steps m Target b)) || is_other (λ p. contain_step m p) (last_step (path_steps m Target b))

-- 19h (house): path and target end at types neither of which is at the other.
abbrev pub binding19h : Model → ℕ → Bool
binding19h m b = not (ancestor_or_self m (path_end m Binding b) (path_end m Target b)) && not (ancestor_or_self m (path_end m Target b) (path_end m Binding b))

unfoldable pub binding19 : Model → ℕ → Bool
binding19 m b = binding19a m b || binding19b m b || binding19c m b || binding19d m b || binding19e m b || binding19f m b || binding19g m b || binding19h m b

abbrev pub rule19 : Model → Record → Bool
rule19 m r = on binding-table (λ b. binding19 m b) r
