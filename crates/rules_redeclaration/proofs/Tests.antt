-- The tests of rule 11 among the properties of a name. Assumes nothing.
use Prim.Native.Nat.{ℕ, zero, suc, ◌+◌, ◌<◌}
use mathlib.Core.Path.{◌≡◌, refl, sym, ◌∙◌}
use mathlib.Core.Bool.{Bool, true, false, cond, not, ◌&&◌, ◌||◌, and-false}
use native.Mathlib.Omega.{arith}
use borrow.Author.Tests.{lt-ltb, le-ltb, lt-leb}
use lib.Dec.{ltb, leb}
use Rattle.std.proofs.Common.{Option, MatchOption}
use Rattle.std.specs.Option.{is_some}
use Rattle.csdl.specs.Search.{first_from, any_from, found}
use Rattle.csdl.specs.Model.{Model}
use Rattle.csdl.specs.Find.{ancestor}
use Rattle.csdl.specs.Properties.{property11b, redeclares, same_name}
use Rattle.type_hierarchy.specs.Sets.{member}
use Rattle.rules_redeclaration.specs.Clashes.{clashing}
use Rattle.csdl.proofs.Logic.{any_same, none_any, any_of, first_found, first-none, below_or_not}
use Rattle.type_hierarchy.proofs.SetLaws.{member-none}

pub and_only : (b n : Bool) → n ≡ false → (b && n) ≡ false
and_only b n h = rw (h, and-false)

-- Something is found where something passes.
pub any_found_of : (test : ℕ → Bool) (i n : ℕ) → is_some (found (first_from test i n)) ≡ any_from test i n
unfolding first_from any_from
any_found_of test i zero = refl
any_found_of test i (suc n) = go (test i) (any_found_of test (i + 1) n)
  where
    go : (b : Bool) → is_some (found (first_from test (i + 1) n)) ≡ any_from test (i + 1) n → is_some (found (cond b (suc i) (first_from test (i + 1) n))) ≡ cond b true (any_from test (i + 1) n)
    go true e = refl
    go false e = e

name_last : (a n r : Bool) → (a && r && n) ≡ (a && n && r)
name_last true true true = refl
name_last true true false = refl
name_last true false true = refl
name_last true false false = refl
name_last false n r = refl

-- The set has the ancestors of p's owner.
pub clash-any : (m : Model) (above p : ℕ) → ((q : ℕ) → member above (m.owner q) ≡ ancestor m (m.owner q) (m.owner p))
    → any_from (λ q. clashing m above p q && same_name m p q) 0 m.properties ≡ property11b m p
unfolding clashing property11b
clash-any m above p all = any_same _ _ 0 m.properties (λ q a h. rw (all q) (name_last (ancestor m (m.owner q) (m.owner p)) (same_name m p q) (not (redeclares m p q))))

pub clash-none : (m : Model) (p : ℕ) → any_from (λ q. clashing m 0 p q && same_name m p q) 0 m.properties ≡ false
unfolding clashing
clash-none m p = none_any _ 0 m.properties (λ q a h. rw (member-none (m.owner q)))

test_alone : (l t n : Bool) → ((l || t) && n) ≡ false → (t && n) ≡ false
test_alone true t n e = rw (e, and-false)
test_alone false t n e = e

-- Of the named that pass or are not below p, the first is below p where one below p passes. It stands as `is_some_and` asks for it.
pub first_before : (test named : ℕ → Bool) (p n : ℕ) (r : Option ℕ) (b : Bool) (Asked : ℕ → Type 0) → p < n → r ≡ found (first_from (λ q. (leb p q || test q) && named q) 0 n)
    → MatchOption r (b ≡ false) (λ q. Asked q) → ((q : ℕ) → Asked q → b ≡ ltb q p) → b ≡ any_from (λ q. test q && named q) 0 p
first_before test named p n r b Asked low e m asked = go (first_from (λ q. either q) 0 n) refl (rw e at m)
  where
    either : ℕ → Bool
    either q = (leb p q || test q) && named q

    go : (f : ℕ) → first_from (λ q. either q) 0 n ≡ f → MatchOption (found f) (b ≡ false) (λ q. Asked q) → b ≡ any_from (λ q. test q && named q) 0 p
    go zero w m = m ∙ sym (none_any _ 0 p (λ q a d. test_alone (leb p q) (test q) (named q) (first-none (λ q. either q) 0 n w q a (omega (arith, d, low)))))
    go (suc k) w m =
        let f = first_found (λ q. either q) 0 n k w in
        asked k m
        ∙ sym (below_or_not k p
        (λ d. rw (lt-ltb k p d) (any_of (λ q. test q && named q) 0 p k (omega arith) (omega (arith, d)) (rw (lt-leb p k d) at f.2)))
        (λ d. rw (le-ltb k p d) (none_any _ 0 p (λ q a h. test_alone (leb p q) (test q) (named q) (f.3 q a (omega (arith, d, h)))))))
