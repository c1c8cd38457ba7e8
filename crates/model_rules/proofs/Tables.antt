-- The record at a place, by cases; the lowest place that breaks a rule of one table is that of the first record that breaks it. Assumes nothing.
use Prim.Native.Nat.{ℕ, zero, suc, ◌+◌, ◌-◌, ◌≤◌, ◌<◌, zero-le}
use mathlib.Core.Path.{◌≡◌, refl, sym}
use mathlib.Core.Bool.{Bool, true, false, cond, ◌||◌}
use native.Mathlib.Omega.{arith}
use lib.Dec.{ltb}
use borrow.Author.Tests.{ltb-true, ltb-false}
use Rattle.csdl.specs.Search.{first_from, or_else, place_found}
use Rattle.csdl.specs.Model.{Model, types_at, properties_at, keys_at, constraints_at, children_at, bindings_at, segments_at, places, record_at, Table, first_place, end_place, on}
use Rattle.csdl.specs.Model.Table.{schema-table, type-table, property-table, key-table, constraint-table, child-table, binding-table, segment-table}
use Rattle.csdl.specs.declared.Record.{Record}
use Rattle.csdl.specs.declared.Record.TheVariants.{OfSchema, OfType, OfProperty, OfKey, OfConstraint, OfChild, OfBinding, OfSegment, Nowhere}
use Rattle.csdl.proofs.Logic.{true-false, or-none, first_found, first-none, first-is, none_first}
use Rattle.csdl.proofs.Windows.{window}
use Rattle.csdl.proofs.Places.{schema-at, type_at, property-at, key_at, constraint_at, child_at, binding_at, segment_at_lem}

-- The record at a place, by cases.
module _ (P : Record → Type 0) where
  split : (a b : ℕ) (x y : Record) → (a < b → P x) → (b ≤ a → P y) → P (cond (ltb a b) x y)
  split a b x y f g = go (ltb a b) refl
    where
      go : (c : Bool) → ltb a b ≡ c → P (cond c x y)
      go true e = f (ltb-true a b e)
      go false e = g (ltb-false a b e)

  pub record_cases : (m : Model) (p : ℕ)
      → (p < types_at m → P (OfSchema p))
      → (types_at m ≤ p → p < properties_at m → P (OfType (p - types_at m)))
      → (properties_at m ≤ p → p < keys_at m → P (OfProperty (p - properties_at m)))
      → (keys_at m ≤ p → p < constraints_at m → P (OfKey (p - keys_at m)))
      → (constraints_at m ≤ p → p < children_at m → P (OfConstraint (p - constraints_at m)))
      → (children_at m ≤ p → p < bindings_at m → P (OfChild (p - children_at m)))
      → (bindings_at m ≤ p → p < segments_at m → P (OfBinding (p - bindings_at m)))
      → (segments_at m ≤ p → p < places m → P (OfSegment (p - segments_at m)))
      → P Nowhere
      → P (record_at m p)
  unfolding record_at
  record_cases m p s t q k c h b g n =
      split p (types_at m) _ _ s
      (λ i. split p (properties_at m) _ _ (t i)
      (λ i. split p (keys_at m) _ _ (q i)
      (λ i. split p (constraints_at m) _ _ (k i)
      (λ i. split p (children_at m) _ _ (c i)
      (λ i. split p (bindings_at m) _ _ (h i) (λ i. split p (segments_at m) _ _ (b i) (λ i. split p (places m) _ _ (g i) (λ i. n))))))))

-- Where the place is not of the table, a test of the table's records does not pass.
module _ (m : Model) (test : ℕ → Bool) (p : ℕ) where
  pub elsewhere : (t : Table) → (first_place m t ≤ p → p < end_place m t → ⊥) → on t test (record_at m p) ≡ false
  elsewhere schema-table out =
      record_cases (λ r. on schema-table test r ≡ false) m p (λ x. absurd (out zero-le x)) (λ x y. refl) (λ x y. refl) (λ x y. refl) (λ x y. refl) (λ x y. refl)
      (λ x y. refl) (λ x y. refl) refl
  elsewhere type-table out =
      record_cases (λ r. on type-table test r ≡ false) m p (λ x. refl) (λ x y. absurd (out x y)) (λ x y. refl) (λ x y. refl) (λ x y. refl) (λ x y. refl)
      (λ x y. refl) (λ x y. refl) refl
  elsewhere property-table out =
      record_cases (λ r. on property-table test r ≡ false) m p (λ x. refl) (λ x y. refl) (λ x y. absurd (out x y)) (λ x y. refl) (λ x y. refl) (λ x y. refl)
      (λ x y. refl) (λ x y. refl) refl
  elsewhere key-table out =
      record_cases (λ r. on key-table test r ≡ false) m p (λ x. refl) (λ x y. refl) (λ x y. refl) (λ x y. absurd (out x y)) (λ x y. refl) (λ x y. refl)
      (λ x y. refl) (λ x y. refl) refl
  elsewhere constraint-table out =
      record_cases (λ r. on constraint-table test r ≡ false) m p (λ x. refl) (λ x y. refl) (λ x y. refl) (λ x y. refl) (λ x y. absurd (out x y)) (λ x y. refl)
      (λ x y. refl) (λ x y. refl) refl
  elsewhere child-table out =
      record_cases (λ r. on child-table test r ≡ false) m p (λ x. refl) (λ x y. refl) (λ x y. refl) (λ x y. refl) (λ x y. refl) (λ x y. absurd (out x y))
      (λ x y. refl) (λ x y. refl) refl
  elsewhere binding-table out =
      record_cases (λ r. on binding-table test r ≡ false) m p (λ x. refl) (λ x y. refl) (λ x y. refl) (λ x y. refl) (λ x y. refl) (λ x y. refl)
      (λ x y. absurd (out x y)) (λ x y. refl) refl
  elsewhere segment-table out =
      record_cases (λ r. on segment-table test r ≡ false) m p (λ x. refl) (λ x y. refl) (λ x y. refl) (λ x y. refl) (λ x y. refl) (λ x y. refl)
      (λ x y. refl) (λ x y. absurd (out x y)) refl

-- Two tests of which the first passes before the second does, if it passes at all.
either : (f g : ℕ → Bool) (e : ℕ) → ((j k : ℕ) → f k ≡ true → j < k → g j ≡ false) → or_else (first_from f 0 e) (first_from g 0 e) ≡ first_from (λ p. f p || g p) 0 e
either f g e apart = go (first_from f 0 e) refl (first_from g 0 e) refl
  where
    go : (a : ℕ) → first_from f 0 e ≡ a → (b : ℕ) → first_from g 0 e ≡ b → or_else (first_from f 0 e) (first_from g 0 e) ≡ first_from (λ p. f p || g p) 0 e
    go zero x zero y = rw (x, y) (sym (none_first (λ p. f p || g p) 0 e (λ k i j. or-none (f k) (g k) (first-none f 0 e x k i j) (first-none g 0 e y k i j))))
    go zero x (suc k) y =
        let w = first_found g 0 e k y in
        rw (x, y) (sym (first-is (λ p. f p || g p) 0 e k w.0 w.1 (rw (first-none f 0 e x k w.0 w.1) w.2) (λ j a b. or-none (f j) (g j) (first-none f 0 e x j a (omega (arith, w.1))) (w.3 j a b))))
    go (suc k) x b y =
        let w = first_found f 0 e k x in
        rw x (sym (first-is (λ p. f p || g p) 0 e k w.0 w.1 (rw w.2) (λ j a h. or-none (f j) (g j) (w.3 j a h) (apart j k w.2 h))))

-- How many records a table has; its places are those from its first on.
abbrev pub records : Model → Table → ℕ
records m schema-table = m.schemas
records m type-table = m.types
records m property-table = m.properties
records m key-table = m.keys
records m constraint-table = m.constraints
records m child-table = m.children
records m binding-table = m.bindings
records m segment-table = m.segments

module _ (m : Model) where
  pub end_is : (t : Table) → end_place m t ≡ first_place m t + records m t
  end_is schema-table = omega arith
  end_is type-table = refl
  end_is property-table = refl
  end_is key-table = refl
  end_is constraint-table = refl
  end_is child-table = refl
  end_is binding-table = refl
  end_is segment-table = refl

  pub end_within : (t : Table) → end_place m t ≤ places m
  end_within schema-table = omega arith
  end_within type-table = omega arith
  end_within property-table = omega arith
  end_within key-table = omega arith
  end_within constraint-table = omega arith
  end_within child-table = omega arith
  end_within binding-table = omega arith
  end_within segment-table = omega arith

  -- types and properties stand before children
  pub types-before : end_place m type-table ≤ first_place m child-table
  types-before = omega arith

  pub properties-before : end_place m property-table ≤ first_place m child-table
  properties-before = omega arith

  -- record k of a table stands at place k from its first
  here : (t : Table) (test : ℕ → Bool) (k : ℕ) → k < records m t → on t test (record_at m (first_place m t + k)) ≡ test k
  here schema-table test k h = let z : 0 + k ≡ k = omega arith in rw (z, schema-at m k h)
  here type-table test k h = rw (type_at m k h)
  here property-table test k h = rw (property-at m k h)
  here key-table test k h = rw (key_at m k h)
  here constraint-table test k h = rw (constraint_at m k h)
  here child-table test k h = rw (child_at m k h)
  here binding-table test k h = rw (binding_at m k h)
  here segment-table test k h = rw (segment_at_lem m k h)

  -- What is found first among the records of a table is the lowest of all places.
  pub table_lowest : (t : Table) (test : ℕ → Bool) → place_found (first_place m t) (first_from test 0 (records m t)) ≡ first_from (λ p. on t test (record_at m p)) 0 (places m)
  table_lowest t test =
      let e = end_is t in
      let w = end_within t in
      window (λ p. on t test (record_at m p)) test (first_place m t) (records m t) (places m) (omega arith) (here t test) (λ p out. elsewhere m test p t (λ x y. out x (omega arith)))

  -- a test of a table's records passes before the end of the table
  before_end : (t : Table) (test : ℕ → Bool) (p : ℕ) → on t test (record_at m p) ≡ true → p < end_place m t
  before_end t test p e = go (ltb p (end_place m t)) refl
    where
      go : (b : Bool) → ltb p (end_place m t) ≡ b → p < end_place m t
      go true q = ltb-true p (end_place m t) q
      go false q = let w = ltb-false p (end_place m t) q in true-false (on t test (record_at m p)) e (elsewhere m test p t (λ x y. omega arith))

  -- A rule of two tables: what is found in the earlier one, else in the later, is the lowest of all places.
  pub tables_lowest : (t u : Table) (f g : ℕ → Bool) → end_place m t ≤ first_place m u
      → or_else (first_from (λ p. on t f (record_at m p)) 0 (places m)) (first_from (λ p. on u g (record_at m p)) 0 (places m))
      ≡ first_from (λ p. on t f (record_at m p) || on u g (record_at m p)) 0 (places m)
  tables_lowest t u f g h =
      either (λ p. on t f (record_at m p)) (λ p. on u g (record_at m p)) (places m)
      (λ j k e l. let w = before_end t f k e in elsewhere m g j u (λ x y. omega arith))
