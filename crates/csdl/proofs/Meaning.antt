-- What a name means at a type, where rules 4 and 11 are kept, and the topmost type above one, where rules 4 and 9 are.
use Prim.Native.Nat.{ℕ, zero, suc, ◌≤◌, ◌<◌, zero-le}
use mathlib.Core.Path.{◌≡◌, refl, sym, ap, ◌∙◌}
use mathlib.Core.List.{List}
use mathlib.Core.Bool.{Bool, true, false, false≢true, ◌&&◌}
use mathlib.Core.Logic.{◌↔◌, ◌⊎◌, inl, inr, ⊎_elim}
use native.Mathlib.Omega.{arith}
use lib.Dec.{eqb}
use borrow.Author.Tests.{eqb-true, eq-eqb}
use Rattle.packed.specs.Bytes.{same}
use Rattle.packed.proofs.Laws.{same_sound, same_refl}
use Rattle.csdl.specs.Search.{count_from, or_else, if_found}
use Rattle.csdl.specs.Climb.{climb, nearest, topmost}
use Rattle.csdl.specs.Model.{Model, text}
use Rattle.csdl.specs.Find.{top, declares, own, find}
use Rattle.csdl.specs.Form.{rule4}
use Rattle.csdl.specs.Types.{rule9, type9}
use Rattle.csdl.specs.Properties.{same_name, property11a, property11b, property11, rule11}
use Rattle.csdl.specs.Relations.{Ancestor, Declares, Means}
use Rattle.csdl.specs.Relations.Means.{on-itself, at_base}
use Rattle.csdl.specs.Accepted.{Kept}
use Rattle.csdl.proofs.Logic.{true-false, not_so, or_no, and_cases, and_both, any_none, first_found, first-none, none_first, first-is}
use Rattle.csdl.proofs.Settle.{count-le, count-more}
use Rattle.csdl.proofs.Climbing.{Above, climb_sound, climb_found, nearest-own, nearest-none, nearest_up, nearest-is-own, nearest-is_up}
use Rattle.csdl.proofs.Climbing.Above.{is-next, of_next}
use Rattle.csdl.proofs.Places.{of_type, of_property_lem}
use Rattle.csdl.proofs.Relations.{closed, ancestor_of, rule9_decides}

-- What a name means at the base: nothing where there is none.
abbrev pub find_at_base : Model → List ℕ → ℕ → ℕ
find_at_base m nm base = if_found 0 (λ u. find m nm u) base

-- A name means at a type the declaration on the type itself, else what it means at the base.
pub name_means : (m : Model) → Kept m rule4 → (nm : List ℕ) (t : ℕ) → t < m.types → find m nm t ≡ or_else (own m nm t) (find_at_base m nm (m.base t))
unfolding find
name_means m kept nm t l = go (own m nm t) refl (m.base t) refl
  where
    go : (o : ℕ) → own m nm t ≡ o → (b : ℕ) → m.base t ≡ b → find m nm t ≡ or_else o (find_at_base m nm b)
    go (suc p) e b f = nearest-is-own (λ u. own m nm u) m.base m.types (closed m kept) t p l e
    go zero e zero f = nearest-none (λ u. own m nm u) m.base m.types t e f
    go zero e (suc u) f = nearest-is_up (λ x. own m nm x) m.base m.types (closed m kept) t u l e f

-- The declaration on the type itself is one; where there is none, no property is such.
declares_it : (m : Model) (nm : List ℕ) (t p : ℕ) → p < m.properties → declares m nm t p ≡ true → Declares m nm t p
unfolding declares
declares_it m nm t p l e =
    let c = and_cases (eqb (m.owner p) t) (same (text m (m.property_name p)) nm) e in
    record { in_table = l; owner-is = eqb-true (m.owner p) t c.0; name-is = same_sound (text m (m.property_name p)) nm c.1 }

pub own_means : (m : Model) (nm : List ℕ) (t p : ℕ) → own m nm t ≡ suc p → Declares m nm t p
unfolding own
own_means m nm t p e = let w = first_found (λ q. declares m nm t q) 0 m.properties p e in declares_it m nm t p (omega arith) w.2

declared : (m : Model) (nm : List ℕ) (t p : ℕ) → Declares m nm t p → declares m nm t p ≡ true
unfolding declares
declared m nm t p d =
    let g : same (text m (m.property_name p)) nm ≡ true = rw d.name-is (same_refl nm) in
    and_both (eqb (m.owner p) t) (same (text m (m.property_name p)) nm) (eq-eqb (m.owner p) t d.owner-is) g

pub own-none : (m : Model) (nm : List ℕ) (t : ℕ) → own m nm t ≡ 0 → (p : ℕ) → Declares m nm t p → ⊥
unfolding own
own-none m nm t e p d =
    true-false (declares m nm t p) (declared m nm t p d) (first-none (λ q. declares m nm t q) 0 m.properties e p zero-le (omega (arith, d.in_table)))

-- What is found is what the name means.
means_of : (m : Model) (nm : List ℕ) (l t p : ℕ) → nearest (λ u. own m nm u) m.base l t ≡ suc p → Means m nm t p
unfolding nearest
means_of m nm zero t p e = absurd (omega arith)
means_of m nm (suc l) t p e = go (means_of m nm l) (own m nm t) refl (m.base t) refl
  where
    go : ((u q : ℕ) → nearest (λ x. own m nm x) m.base l u ≡ suc q → Means m nm u q) → (o : ℕ) → own m nm t ≡ o → (b : ℕ) → m.base t ≡ b → Means m nm t p
    go rest (suc q) o b f = on-itself (own_means m nm t p (o ∙ sym (nearest-own (λ x. own m nm x) m.base l t q o) ∙ e))
    go rest zero o zero f = absurd (let z = nearest-none (λ x. own m nm x) m.base (suc l) t o f in omega arith)
    go rest zero o (suc u) f = at_base (own-none m nm t o) f (rest u p (sym (nearest_up (λ x. own m nm x) m.base l t u o f) ∙ e))

-- Rule 11: a type declares a name once.
module _ (m : Model) (kept4 : Kept m rule4) (kept11 : Kept m rule11) where
  own_is : (nm : List ℕ) (t p : ℕ) → Declares m nm t p → own m nm t ≡ suc p
  unfolding own property11 property11a same_name
  own_is nm t p d = first-is (λ q. declares m nm t q) 0 m.properties p zero-le (omega (arith, d.in_table)) (declared m nm t p d) (λ q a l. go q l (declares m nm t q) refl)
    where
      earlier : (q : ℕ) → q < p → Declares m nm t q → ⊥
      earlier q l c =
          let none = (or_no (property11a m p) (property11b m p) (of_property_lem m rule11 kept11 p d.in_table)).0 in
          let z = any_none (λ x. eqb (m.owner x) (m.owner p) && same_name m p x) 0 p none q zero-le (omega arith) in
          let n : text m (m.property_name p) ≡ text m (m.property_name q) = d.name-is ∙ sym c.name-is in
          let s : same (text m (m.property_name p)) (text m (m.property_name q)) ≡ true = rw n (same_refl (text m (m.property_name q))) in
          let y = and_both (eqb (m.owner q) (m.owner p)) (same (text m (m.property_name p)) (text m (m.property_name q)))
          (eq-eqb (m.owner q) (m.owner p) (c.owner-is ∙ sym d.owner-is)) s in
          false≢true (sym z ∙ y)

      go : (q : ℕ) → q < p → (b : Bool) → declares m nm t q ≡ b → declares m nm t q ≡ false
      go q l true e = absurd (earlier q l (declares_it m nm t q (omega (arith, d.in_table)) e))
      go q l false e = e

  none-own : (nm : List ℕ) (t : ℕ) → ((q : ℕ) → Declares m nm t q → ⊥) → own m nm t ≡ 0
  unfolding own
  none-own nm t free =
      none_first (λ q. declares m nm t q) 0 m.properties
      (λ q a b. not_so (declares m nm t q) (λ e. free q (declares_it m nm t q (omega arith) e)))

  pub find_decides : (nm : List ℕ) (t p : ℕ) → t < m.types → (find m nm t ≡ suc p) ↔ Means m nm t p
  unfolding find
  find_decides nm t p l = (means_of m nm m.types t p, found l)
    where
      found : {t p : ℕ} → t < m.types → Means m nm t p → find m nm t ≡ suc p
      found l (on-itself {t} {p} d) = nearest-is-own (λ u. own m nm u) m.base m.types (closed m kept4) t p l (own_is nm t p d)
      found l (at_base {t} {u} {p} free e r) =
          nearest-is_up (λ x. own m nm x) m.base m.types (closed m kept4) t u l (none-own nm t free) e ∙ found (omega (arith, closed m kept4 t l)) r

-- The topmost number: it is the number itself or stands above it, and where no number stands above itself none stands above it.
module _ (next : ℕ → ℕ) where
  top-none : (l t : ℕ) → next t ≡ 0 → topmost next l t ≡ t
  unfolding topmost
  top-none zero t e = refl
  top-none (suc l) t e = rw e

  top_up : (l t u : ℕ) → next t ≡ suc u → topmost next (suc l) t ≡ topmost next l u
  unfolding topmost
  top_up l t u e = rw e

  top_out : (t : ℕ) → topmost next 0 t ≡ t
  unfolding topmost
  top_out t = refl

  abbrev IsOrAbove : ℕ → ℕ → Type 0
  IsOrAbove a t = (a ≡ t) ⊎ Above next a t

  raise : {a t u : ℕ} → next t ≡ suc u → IsOrAbove a u → IsOrAbove a t
  raise e (inl q) = inr (is-next (e ∙ ap suc (sym q)))
  raise e (inr r) = inr (of_next e r)

  top_above : (l t : ℕ) → IsOrAbove (topmost next l t) t
  top_above zero t = inl (top_out t)
  top_above (suc l) t = go (top_above l) (next t) refl
    where
      go : ((u : ℕ) → IsOrAbove (topmost next l u) u) → (b : ℕ) → next t ≡ b → IsOrAbove (topmost next (suc l) t) t
      go rest zero e = inl (top-none (suc l) t e)
      go rest (suc u) e = rw (top_up l t u e) (raise e (rest u))

  module _ (n : ℕ) (closed : (t : ℕ) → t < n → next t ≤ n) (apart : (t : ℕ) → t < n → Above next t t → ⊥) where
    -- How many numbers stand above t. A step up leaves fewer.
    abbrev rank : ℕ → ℕ
    rank t = count_from (λ a. climb next n a t) 0 n

    falls : (t u : ℕ) → t < n → next t ≡ suc u → rank u < rank t
    falls t u l e =
        let s : u < n = omega (arith, closed t l) in
        ⊎_elim
        (λ same. absurd (apart u s (climb_sound next u n u (same u zero-le (omega arith) ∙ climb_found next u n closed t l (is-next e)))))
        (λ less. less)
        (count-more (λ a. climb next n a u) (λ a. climb next n a t) (λ a q. climb_found next a n closed t l (of_next e (climb_sound next a n u q))) 0 n)

    at_top : (l t : ℕ) → t < n → rank t ≤ l → next (topmost next l t) ≡ 0
    at_top zero t h r = go (next t) refl
      where
        go : (b : ℕ) → next t ≡ b → next (topmost next 0 t) ≡ 0
        go zero e = rw (top_out t) e
        go (suc u) e = absurd (omega (arith, falls t u h e))
    at_top (suc l) t h r = go (at_top l) (next t) refl
      where
        go : ((u : ℕ) → u < n → rank u ≤ l → next (topmost next l u) ≡ 0) → (b : ℕ) → next t ≡ b → next (topmost next (suc l) t) ≡ 0
        go rest zero e = rw (top-none (suc l) t e) e
        go rest (suc u) e = rw (top_up l t u e) (rest u (omega (arith, closed t h)) (omega (arith, falls t u h e)))

-- The topmost type: it has no base, and it is the type or an ancestor of it.
pub top_has_no_base : (m : Model) → Kept m rule4 → Kept m rule9 → (t : ℕ) → t < m.types → m.base (top m t) ≡ 0
unfolding top
top_has_no_base m kept4 kept9 t l =
    at_top m.base m.types (closed m kept4)
    (λ u h a. true-false (type9 m u) ((rule9_decides m kept4 u h).1 (ancestor_of m a)) (of_type m rule9 kept9 u h))
    m.types t l (count-le (λ a. climb m.base m.types a t) 0 m.types)

pub top-is_above : (m : Model) (t : ℕ) → (top m t ≡ t) ⊎ Ancestor m (top m t) t
unfolding top
top-is_above m t = ⊎_elim (λ e. inl e) (λ a. inr (ancestor_of m a)) (top_above m.base m.types t)
