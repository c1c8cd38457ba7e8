-- What rule 4 leaves: every number is below its count, every run lies in its table.
use Prim.Native.Nat.{ℕ, ◌+◌, ◌≤◌, ◌<◌}
use mathlib.Core.Path.{◌≡◌, refl}
use mathlib.Core.Bool.{Bool, true, false, ◌&&◌, or-true}
use mathlib.Core.Logic.{◌⊎◌, inl, inr}
use native.Mathlib.Omega.{arith}
use lib.Dec.{eqb, ltb, leb}
use borrow.Author.Tests.{eqb-true, ltb-true, ltb-false, leb-true, not-false}
use Rattle.csdl.specs.declared.Run.{Run}
use Rattle.csdl.specs.Model.{Model}
use Rattle.csdl.specs.Path.{holders, path_of}
use Rattle.csdl.specs.declared.PathKind.{PathKind}
use Rattle.csdl.specs.declared.PathKind.TheVariants.{Partner, Key, Dependent, Principal, Binding, Target}
use Rattle.csdl.specs.Form.{beyond4a, run4cd, kind4f, underlying4g, reference4h, path4, optional_path4, type4, property4, key4, constraint4, child4, binding4, segment4, rule4}
use Rattle.csdl.specs.Relations.{NumbersFit}
use Rattle.csdl.specs.Accepted.{Kept}
use Rattle.csdl.proofs.Logic.{off, and_cases}
use Rattle.csdl.proofs.Places.{of_type, of_property_lem, of_key, of_constraint, of_child, of_binding, of_segment}

-- A number that is not beyond its count; a run that breaks no clause of rule 4.
below : (n count : ℕ) → beyond4a n count ≡ false → n < count
below n count e = ltb-true n count (not-false (ltb n count) e)

pub run_fits : (count : ℕ) (r : Run) → run4cd count r ≡ false → r.first + r.count ≤ count
run_fits count r e = go (eqb r.count 0) refl
  where
    go : (b : Bool) → eqb r.count 0 ≡ b → r.first + r.count ≤ count
    go true q =
        let z = eqb-true r.count 0 q in
        let f = eqb-true r.first 0 (not-false _ (rw q at e)) in
        omega arith
    go false q = ltb-false count (r.first + r.count) (rw q at e)

module _ (m : Model) (kept : Kept m rule4) where
  fits : (w : PathKind) (r : ℕ) → r < holders m w → (path_of m w r).first + (path_of m w r).count ≤ m.segments
  unfolding holders path_of rule4 property4 key4 constraint4 binding4 path4 optional_path4
  fits Partner p h = run_fits m.segments (m.partner p) (off (property4 m p) (run4cd m.segments (m.partner p)) (λ q. simp (q, or-true)) (of_property_lem m rule4 kept p h))
  fits Key k h = run_fits m.segments (m.key_path k) (off (key4 m k) (run4cd m.segments (m.key_path k)) (λ q. simp (q, or-true)) (of_key m rule4 kept k h))
  fits Dependent c h = run_fits m.segments (m.dependent c) (off (constraint4 m c) (run4cd m.segments (m.dependent c)) (λ q. simp (q, or-true)) (of_constraint m rule4 kept c h))
  fits Principal c h = run_fits m.segments (m.principal c) (off (constraint4 m c) (run4cd m.segments (m.principal c)) (λ q. simp (q, or-true)) (of_constraint m rule4 kept c h))
  fits Binding b h = run_fits m.segments (m.binding_path b) (off (binding4 m b) (run4cd m.segments (m.binding_path b)) (λ q. simp (q, or-true)) (of_binding m rule4 kept b h))
  fits Target b h = run_fits m.segments (m.target_path b) (off (binding4 m b) (run4cd m.segments (m.target_path b)) (λ q. simp (q, or-true)) (of_binding m rule4 kept b h))

  known : (x : ℕ) → reference4h m x ≡ false → (x < m.types) ⊎ ((65 ≤ x) × (x ≤ 81))
  unfolding reference4h
  known x e = go (ltb x m.types) refl
    where
      go : (b : Bool) → ltb x m.types ≡ b → (x < m.types) ⊎ ((65 ≤ x) × (x ≤ 81))
      go true q = inl (ltb-true x m.types q)
      go false q =
          let c = and_cases (leb 65 x) (leb x 81) (not-false (leb 65 x && leb x 81) (rw q at e)) in
          inr (leb-true 65 x c.0, leb-true x 81 c.1)

  cast-type : (g : ℕ) → g < m.segments → m.is_cast g ≡ true → m.cast_type g < m.types
  unfolding rule4 segment4
  cast-type g h e = below (m.cast_type g) m.types (rw e at (of_segment m rule4 kept g h))

  pub numbers_fit : NumbersFit m
  unfolding rule4 type4 property4 key4 constraint4 child4 binding4
  numbers_fit = record {
    schema-there = λ t h. below (m.schema_of t) m.schemas (off (type4 m t) (beyond4a (m.schema_of t) m.schemas) (λ q. simp (q, or-true)) (of_type m rule4 kept t h));
    base_there = λ t h. omega (arith, below (m.base t) (m.types + 1) (off (type4 m t) (beyond4a (m.base t) (m.types + 1)) (λ q. simp (q, or-true)) (of_type m rule4 kept t h)));
    kind_known = λ t h. ltb-false 3 (m.kind t) (off (type4 m t) (kind4f m t) (λ q. simp (q, or-true)) (of_type m rule4 kept t h));
    underlying_known = λ t h. ltb-false 17 (m.underlying t) (off (type4 m t) (underlying4g m t) (λ q. simp (q, or-true)) (of_type m rule4 kept t h));
    owner-there = λ p h. below (m.owner p) m.types (off (property4 m p) (beyond4a (m.owner p) m.types) (λ q. simp (q, or-true)) (of_property_lem m rule4 kept p h));
    reference_known = λ p h. known (m.type_ref p) (off (property4 m p) (reference4h m (m.type_ref p)) (λ q. simp (q, or-true)) (of_property_lem m rule4 kept p h));
    key_owner-there = λ k h. below (m.key_owner k) m.types (off (key4 m k) (beyond4a (m.key_owner k) m.types) (λ q. simp (q, or-true)) (of_key m rule4 kept k h));
    constrained-there =
        λ c h. below (m.constrained c) m.properties (off (constraint4 m c) (beyond4a (m.constrained c) m.properties) (λ q. simp (q, or-true)) (of_constraint m rule4 kept c h));
    child_type-there = λ c h. below (m.child_type c) m.types (off (child4 m c) (beyond4a (m.child_type c) m.types) (λ q. simp (q, or-true)) (of_child m rule4 kept c h));
    binding_child_there =
        λ b h. below (m.binding_child b) m.children (off (binding4 m b) (beyond4a (m.binding_child b) m.children) (λ q. simp (q, or-true)) (of_binding m rule4 kept b h));
    target-there = λ b h. below (m.target b) m.children (off (binding4 m b) (beyond4a (m.target b) m.children) (λ q. simp (q, or-true)) (of_binding m rule4 kept b h));
    path-there = fits;
    cast-there = cast-type;
  }
