-- What was found in a table of a model, as the lowest of all places; how many records of a model are counted at most. Assumes nothing.
use Prim.Native.Nat.{ℕ, zero, suc, ◌+◌, ◌≤◌, ◌<◌}
use mathlib.Core.Path.{◌≡◌, refl, sym, ap, ◌∙◌}
use mathlib.Core.Bool.{Bool, ◌||◌}
use native.Mathlib.Omega.{arith}
use native.Mathlib.Nat.{add-suc}
use Rattle.std.proofs.Common.{Option, Some, None, IfSome}
use Rattle.std.specs.Option.{ForSome, option_map, option_or}
use Rattle.csdl.specs.Search.{first_from, found, or_else, place_found}
use Rattle.csdl.specs.Model.{Model, model_of, places, record_at, Table, first_place, end_place, on}
use Rattle.csdl.specs.Model.Table.{schema-table}
use Rattle.csdl.specs.Accepted.{Kept}
use Rattle.csdl.specs.Form.{rule4}
use Rattle.csdl.specs.Paths.{rule13}
use Rattle.csdl.proofs.Chains.{found_below}
use Rattle.model_image.specs.Read.{model_read}
use Rattle.model_image.proofs.Counting.{most_properties, most_children}
use Rattle.model_image.specs.declared.model.Model as tables
use Rattle.rules_segments.specs.Kept.{Resolvable}
use Rattle.rules_segments.proofs.Resolving.{resolvable}
use Rattle.model_rules.proofs.Tables.{records, end_is, end_within, table_lowest, tables_lowest}

module _ (t : tables.Model) where
  pub few_places : places (model_read t) ≤ 2000
  unfolding model_read model_of
  few_places = omega (arith, t.few_schemas, t.few_types, most_properties t, t.few_keys, t.few_constraints, most_children t, t.few_bindings, t.few_segments)

  few_types : (model_read t).types ≤ 32768
  unfolding model_read model_of
  few_types = omega (arith, t.few_types)

  pub few_segments : (model_read t).segments ≤ 1024
  unfolding model_read model_of
  few_segments = omega (arith, t.few_segments)

  -- What rule 14 rests on.
  pub can_resolve : Kept (model_read t) rule4 → Kept (model_read t) rule13 → Resolvable (model_read t)
  can_resolve kept4 kept13 = resolvable (model_read t) kept4 kept13 few_types (omega (arith, most_properties t))

pub moved : (first x : ℕ) → option_map (λ k. first + k) (found x) ≡ found (place_found first x)
moved first zero = refl
moved first (suc k) = rw add-suc

pub found_or : (x y : ℕ) → option_or (found x) (found y) ≡ found (or_else x y)
found_or zero y = refl
found_or (suc k) y = refl

-- A record of a table that was found first by a test, and its place.
module _ (t : tables.Model) (table : Table) (test : ℕ → Bool) {x : Option ℕ} {first : ℕ} (at : first ≡ first_place (model_read t) table)
    (e : x ≡ found (first_from test 0 (records (model_read t) table))) where
  pub fits : ForSome x (λ k. first + k < 65536)
  fits k q =
      let m = model_read t in
      let below : k < 0 + records m table = rw (sym e ∙ q) at (found_below test 0 (records m table)) in
      omega (arith, few_places t, end_is m table, end_within m table)

  pub placed : {y : Option ℕ} → y ≡ option_map (λ k. first + k) x → y ≡ found (first_from (λ p. on table test (record_at (model_read t) p)) 0 (places (model_read t)))
  placed f =
      let m = model_read t in
      f ∙ rw (e, at) (moved (first_place m table) (first_from test 0 (records m table)) ∙ ap (λ (z : ℕ). found z) (table_lowest m table test))

-- A schema's place is its number.
pub schema_placed : (m : Model) (test : ℕ → Bool) {x : Option ℕ} → x ≡ found (first_from test 0 m.schemas) → x ≡ found (first_from (λ p. on schema-table test (record_at m p)) 0 (places m))
schema_placed m test e = e ∙ ap (λ (z : ℕ). found z) (whole (first_from test 0 m.schemas) ∙ table_lowest m schema-table test)
  where
    whole : (z : ℕ) → z ≡ place_found 0 z
    whole zero = refl
    whole (suc k) = omega arith

-- Of two tables, the earlier one's record goes before.
pub both_placed : (m : Model) (t u : Table) (f g : ℕ → Bool) → end_place m t ≤ first_place m u → {x y z : Option ℕ}
    → x ≡ found (first_from (λ p. on t f (record_at m p)) 0 (places m)) → y ≡ found (first_from (λ p. on u g (record_at m p)) 0 (places m))
    → z ≡ option_or x y → z ≡ found (first_from (λ p. on t f (record_at m p) || on u g (record_at m p)) 0 (places m))
both_placed m t u f g before a b c = c ∙ rw (a, b) (found_or _ _ ∙ ap (λ (z : ℕ). found z) (tables_lowest m t u f g before))
