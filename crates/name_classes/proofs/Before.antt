-- Laws of the order of byte strings. Assumes nothing.
use Prim.Native.Nat.{ℕ, suc, ◌≤◌, ◌<◌}
use mathlib.Core.Path.{◌≡◌, refl, sym, ap, ◌∙◌}
use mathlib.Core.List.{List, [], ◌∷◌}
use mathlib.Core.Bool.{Bool, true, false, cond, false≢true}
use native.Mathlib.Omega.{arith}
use lib.Dec.{eqb, ltb, leb, leb-suc-zero, leb-suc-suc}
use lib.ListN.{length, get_or}
use borrow.Author.Tests.{eqb-true, eqb-false, ltb-true, ltb-false, lt-ltb, le-ltb, le-leb, lt-leb}
use Rattle.packed.specs.Bytes.{common_start}
use Rattle.name_classes.specs.Order.{before}

-- What the first bytes leave.
step : (x y : ℕ) (r : Bool) → cond (ltb x y) true (cond (ltb y x) false r) ≡ true → (P : Type 0) → (x < y → P) → (x ≡ y → r ≡ true → P) → P
step x y r e P less equal = go (ltb x y) (ltb y x) refl refl e
  where
    go : (a b : Bool) → ltb x y ≡ a → ltb y x ≡ b → cond a true (cond b false r) ≡ true → P
    go true b p q h = less (ltb-true x y p)
    go false true p q h = absurd (false≢true h)
    go false false p q h = let l = ltb-false x y p in let g = ltb-false y x q in equal (omega arith) h

less_head : (x y : ℕ) (r : Bool) → x < y → cond (ltb x y) true (cond (ltb y x) false r) ≡ true
less_head x y r h = rw (lt-ltb x y h)

pub equal_head : (x y : ℕ) (r : Bool) → x ≡ y → cond (ltb x y) true (cond (ltb y x) false r) ≡ r
equal_head x y r h = rw (le-ltb x y (omega arith), le-ltb y x (omega arith))

pub before_trans : (a b c : List ℕ) → before a b ≡ true → before b c ≡ true → before a c ≡ true
unfolding before
before_trans [] [] c h k = k
before_trans [] (y ∷ b) [] h k = k
before_trans [] (y ∷ b) (z ∷ c) h k = refl
before_trans (x ∷ a) [] c h k = absurd (false≢true h)
before_trans (x ∷ a) (y ∷ b) [] h k = absurd (false≢true k)
before_trans (x ∷ a) (y ∷ b) (z ∷ c) h k =
    let P : Type 0 = before (x ∷ a) (z ∷ c) ≡ true in
    step x y (before a b) h P
    (λ l. step y z (before b c) k P
    (λ m. less_head x z (before a c) (omega arith))
    (λ m r. less_head x z (before a c) (omega arith)))
    (λ l q. step y z (before b c) k P
    (λ m. less_head x z (before a c) (omega arith))
    (λ m r. equal_head x z (before a c) (omega arith) ∙ before_trans a b c q r))

pub before_self : (a : List ℕ) → before a a ≡ false
unfolding before
before_self [] = refl
before_self (x ∷ a) = equal_head x x (before a a) refl ∙ before_self a

-- A string that comes before another is not the same.
pub apart : (a b : List ℕ) → before a b ≡ true → a ≡ b → ⊥
apart a b t q = false≢true (sym (before_self b) ∙ ap (λ (x : List ℕ). before x b) (sym q) ∙ t)

-- Of two strings neither of which comes before the other.
neither : (x y : ℕ) (r : Bool) → cond (ltb x y) true (cond (ltb y x) false r) ≡ false → (x < y → ⊥) × (x ≡ y → r ≡ false)
neither x y r e = (λ h. false≢true (sym e ∙ less_head x y r h), λ h. sym (equal_head x y r h) ∙ e)

pub before_neither : (a b : List ℕ) → before a b ≡ false → before b a ≡ false → a ≡ b
unfolding before
before_neither [] [] h k = refl
before_neither [] (y ∷ b) h k = absurd (false≢true (sym h))
before_neither (x ∷ a) [] h k = absurd (false≢true (sym k))
before_neither (x ∷ a) (y ∷ b) h k =
    let p = neither x y (before a b) h in
    let q = neither y x (before b a) k in
    let e : x ≡ y = even p.0 q.0 in
    rw (e, before_neither a b (p.1 e) (q.1 (sym e)))
  where
    even : (x < y → ⊥) → (y < x → ⊥) → x ≡ y
    even l g = go (ltb x y) (ltb y x) refl refl
      where
        go : (c d : Bool) → ltb x y ≡ c → ltb y x ≡ d → x ≡ y
        go true d u v = absurd (l (ltb-true x y u))
        go false true u v = absurd (g (ltb-true y x v))
        go false false u v = let m = ltb-false x y u in let n = ltb-false y x v in omega arith

-- ---- the first byte in which they differ, as the code finds it
pub other_head : (x y : ℕ) (r : Bool) → eqb x y ≡ false → cond (ltb x y) true (cond (ltb y x) false r) ≡ ltb x y
other_head x y r e = go (ltb x y) (ltb y x) refl refl
  where
    go : (c d : Bool) → ltb x y ≡ c → ltb y x ≡ d → cond c true (cond d false r) ≡ c
    go true d u v = refl
    go false true u v = refl
    go false false u v = let n = eqb-false x y e in let l = ltb-false x y u in let g = ltb-false y x v in absurd (n (omega arith))

-- What is known at the first byte in which they differ.
abbrev parts : List ℕ → List ℕ → ℕ → Bool
parts a b n = cond (leb (length b) n) false (cond (leb (length a) n) true (ltb (get_or a n 0) (get_or b n 0)))

before_parts : (a b : List ℕ) → before a b ≡ parts a b (common_start a b)
unfolding before common_start
before_parts [] [] = refl
before_parts [] (y ∷ b) = rw (leb-suc-zero (length b))
before_parts (x ∷ a) [] = refl
before_parts (x ∷ a) (y ∷ b) = go (before_parts a b) (eqb x y) refl
  where
    go : before a b ≡ parts a b (common_start a b) → (c : Bool) → eqb x y ≡ c
        → cond (ltb x y) true (cond (ltb y x) false (before a b)) ≡ parts (x ∷ a) (y ∷ b) (cond c (suc (common_start a b)) 0)
    go rest true e = equal_head x y (before a b) (eqb-true x y e) ∙ rest ∙ rw (leb-suc-suc (length b) (common_start a b), leb-suc-suc (length a) (common_start a b))
    go rest false e = rw (leb-suc-zero (length b), leb-suc-zero (length a)) (other_head x y (before a b) e)

module _ (a b : List ℕ) (i : ℕ) (e : i ≡ common_start a b) where
  pub before_out : length b ≤ i → false ≡ before a b
  before_out h = rw (before_parts a b, ← e, le-leb _ _ h)

  pub before_end : i < length b → length a ≤ i → true ≡ before a b
  before_end h k = rw (before_parts a b, ← e, lt-leb _ _ h, le-leb _ _ k)

  pub before_at : i < length b → i < length a → ltb (get_or a i 0) (get_or b i 0) ≡ before a b
  before_at h k = rw (before_parts a b, ← e, lt-leb _ _ h, lt-leb _ _ k)
