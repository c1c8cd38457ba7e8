-- The path that a walk takes, at any place. Assumes nothing.
use Prim.Native.Nat.{ℕ, ◌≤◌}
use mathlib.Core.Path.{◌≡◌, refl}
use native.Mathlib.Omega.{arith}
use borrow.Author.Tests.{le-ltb}
use Rattle.std.proofs.Common.{None}
use Rattle.csdl.specs.Model.{Model, record_at, places, types_at, properties_at, keys_at, constraints_at, children_at, bindings_at, segments_at}
use Rattle.csdl.specs.Walk.{path_chosen}
use Rattle.csdl.specs.declared.Record.{Record}
use Rattle.csdl.specs.declared.Record.TheVariants.{OfSchema, OfType, OfProperty, OfKey, OfConstraint, OfChild, OfBinding, OfSegment, Nowhere}

-- There is no record past the last place.
nowhere : (m : Model) (place : ℕ) → places m ≤ place → record_at m place ≡ Nowhere
unfolding record_at
nowhere m place h =
    rw (
      le-ltb place (types_at m) (omega arith),
      le-ltb place (properties_at m) (omega arith),
      le-ltb place (keys_at m) (omega arith),
      le-ltb place (constraints_at m) (omega arith),
      le-ltb place (children_at m) (omega arith),
      le-ltb place (bindings_at m) (omega arith),
      le-ltb place (segments_at m) (omega arith),
      le-ltb place (places m) h,
    )

pub far : (m : Model) (place path : ℕ) → places m ≤ place → None ≡ path_chosen m (record_at m place) path
unfolding path_chosen
far m place path h = rw (nowhere m place h)

-- The other records hold none.
pub other : (m : Model) (path : ℕ) (r : Record) → ((p : ℕ) → r ≡ OfProperty p → ⊥) → ((k : ℕ) → r ≡ OfKey k → ⊥) → ((c : ℕ) → r ≡ OfConstraint c → ⊥)
    → ((b : ℕ) → r ≡ OfBinding b → ⊥) → None ≡ path_chosen m r path
unfolding path_chosen
other m path (OfSchema s) p k c b = refl
other m path (OfType t) p k c b = refl
other m path (OfProperty x) p k c b = absurd (p x refl)
other m path (OfKey x) p k c b = absurd (k x refl)
other m path (OfConstraint x) p k c b = absurd (c x refl)
other m path (OfChild h) p k c b = refl
other m path (OfBinding x) p k c b = absurd (b x refl)
other m path (OfSegment g) p k c b = refl
other m path Nowhere p k c b = refl
