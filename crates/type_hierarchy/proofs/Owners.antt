-- The owners of keys as a set. Assumes nothing.
use Prim.Native.Nat.{ℕ, zero, suc, ◌+◌, ◌*◌, ◌<◌}
use mathlib.Core.Path.{◌≡◌, refl, sym, ap, ◌∙◌}
use mathlib.Core.List.{List}
use mathlib.Core.Bool.{Bool, true, false, cond, ◌&&◌, ◌||◌}
use native.Mathlib.Nat.{add-zero, zero-add}
use native.Mathlib.Numerals.{add-one}
use native.Mathlib.Omega.{arith}
use borrow.Author.Tests.{eq-eqb, eqb-true}
use lib.Dec.{eqb}
use Rattle.packed.proofs.Laws.{field_lt}
use Rattle.csdl.specs.Search.{any_from}
use Rattle.csdl.specs.Tables.{key_count, key_owner}
use Rattle.csdl.proofs.Logic.{bool_iff, any_found, any_of, and_cases, and_both}
use Rattle.type_hierarchy.specs.Sets.{member, Members}
use Rattle.type_hierarchy.specs.KeyOwners.{owns_key, KeyOwners}
use Rattle.type_hierarchy.proofs.SetLaws.{member-none}

or_last : (b x y : Bool) → cond b true (x || y) ≡ cond b true x || y
or_last true x y = refl
or_last false x y = refl

alone : (b : Bool) → cond b true false ≡ b
alone true = refl
alone false = refl

-- A search of one number more.
pub any_last : (test : ℕ → Bool) (i n : ℕ) → any_from test i (suc n) ≡ any_from test i n || test (i + n)
unfolding any_from
any_last test i zero = rw add-zero (alone (test i))
any_last test i (suc n) =
    let e : i + 1 + n ≡ i + suc n = omega arith in
    rw (any_last test (i + 1) n, e) (or_last (test i) (any_from test (i + 1) n) (test (i + suc n)))

pub owners_none : (keys : List ℕ) → Members 64 0 (λ t. owns_key keys 0 t)
unfolding any_from
owners_none keys = λ t h. member-none t

pub owners_more : (keys : List ℕ) (k o s r : ℕ) → o ≡ key_owner keys k → Members 64 s (λ t. owns_key keys k t) → Members 64 r (λ t. member s t || eqb o t) → Members 64 r (λ t. owns_key keys (k + 1) t)
owners_more keys k o s r e had w =
    λ t h. w t h ∙ rw (had t h, e, add-one k) (sym (any_last (λ j. eqb (key_owner keys j) t) 0 k ∙ ap (λ (j : ℕ). owns_key keys k t || eqb (key_owner keys j) t) (zero-add k)))

-- The owners meet a set where the owner of some key is in it.
pub owners_meet : (keys : List ℕ) (owners set : ℕ) (test : ℕ → Bool) → KeyOwners keys owners → Members 64 set test
    → any_from (λ t. member owners t && member set t) 0 64 ≡ any_from (λ k. test (key_owner keys k)) 0 (key_count keys)
owners_meet keys owners set test is has = bool_iff _ _ there back
  where
    there : any_from (λ t. member owners t && member set t) 0 64 ≡ true → any_from (λ k. test (key_owner keys k)) 0 (key_count keys) ≡ true
    there e =
        let w = any_found (λ t. member owners t && member set t) 0 64 e in
        let l : w.0 < 64 = w.2 in
        let b = and_cases (member owners w.0) (member set w.0) w.3 in
        let k = any_found (λ k. eqb (key_owner keys k) w.0) 0 (key_count keys) (sym (is w.0 l) ∙ b.0) in
        any_of (λ k. test (key_owner keys k)) 0 (key_count keys) k.0 k.1 k.2 (ap (λ (t : ℕ). test t) (eqb-true (key_owner keys k.0) w.0 k.3) ∙ sym (has w.0 l) ∙ b.1)

    back : any_from (λ k. test (key_owner keys k)) 0 (key_count keys) ≡ true → any_from (λ t. member owners t && member set t) 0 64 ≡ true
    back e =
        let w = any_found (λ k. test (key_owner keys k)) 0 (key_count keys) e in
        let o = key_owner keys w.0 in
        let l : o < 64 = field_lt keys (48 * w.0) 6 in
        let owns : member owners o ≡ true = is o l ∙ any_of (λ k. eqb (key_owner keys k) o) 0 (key_count keys) w.0 w.1 w.2 (eq-eqb o o refl) in
        any_of (λ t. member owners t && member set t) 0 64 o (omega arith) l (and_both (member owners o) (member set o) owns (has o l ∙ w.3))
