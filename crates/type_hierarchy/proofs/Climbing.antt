-- How near each type is, as the climb keeps it. Assumes nothing.
use Prim.Native.Nat.{ℕ, zero, suc, ◌-◌, ◌<◌}
use mathlib.Core.Path.{◌≡◌, refl, sym, ap, ◌∙◌}
use mathlib.Core.List.{List}
use mathlib.Core.Logic.{◌⊎◌, inl, inr}
use native.Mathlib.Omega.{arith}
use Rattle.std.proofs.Common.{Some, None}
use lib.ListN.{length, get_or, set, length-set, replicate, get_or-replicate}
use lib.Seq.{get_or-set_same, get_or-set_other}
use Rattle.csdl.specs.Search.{or_else, found}
use Rattle.type_hierarchy.specs.Near.{left_at, only}
use Rattle.type_hierarchy.proofs.Near.{left_out, left_met, left_none, left_up}
use Rattle.type_hierarchy.specs.Nearness.{Climbed, nearness_of}
use Rattle.type_hierarchy.proofs.Tables.{is-tab}
use Rattle.csdl.proofs.Logic.{less_one, tab-length, tab-at, equal_or_not}
use Rattle.type_hierarchy.proofs.Climb.{found_none, found_some}

or_else_none : (x y : ℕ) → 0 ≡ y → x ≡ or_else x y
or_else_none zero y e = e
or_else_none (suc x) y e = refl

or_else_some : (x y : ℕ) → (x ≡ 0 → ⊥) → or_else x y ≡ x
or_else_some zero y h = absurd (h refl)
or_else_some (suc x) y h = refl

or_else_kept : (x l y z : ℕ) → (l ≡ 0 → ⊥) → l ≡ z → or_else (or_else x l) y ≡ or_else x z
or_else_kept zero zero y z h e = absurd (h refl)
or_else_kept zero (suc l) y z h e = e
or_else_kept (suc x) l y z h e = refl

-- The entries when t has been met with `left` left.
pub record Entered (t left : ℕ) (old entered : List ℕ) : Type 0 where
  pub size : length entered ≡ 128
  pub here : get_or entered t 0 ≡ or_else (get_or old t 0) left
  pub other : (u : ℕ) → (u ≡ t → ⊥) → get_or entered u 0 ≡ get_or old u 0

module _ (t left : ℕ) (old : List ℕ) (s : length old ≡ 128) where
  entered_new : t < 128 → get_or old t 0 ≡ 0 → Entered t left old (set old t left)
  entered_new h e = record {
    size = length-set old t left ∙ s;
    here = get_or-set_same old t left 0 (rw s h) ∙ rw e;
    other = λ u n. get_or-set_other old t u left 0 n;
  }

  entered_old : (get_or old t 0 ≡ 0 → ⊥) → Entered t left old old
  entered_old e = record { size = s; here = sym (or_else_some _ left e); other = λ u n. refl }

  pub entered : {A B : Type 0} (new : List ℕ) → t < 128 → A ⊎ B → (A → (new ≡ set old t left) × (get_or old t 0 ≡ 0)) → (B → (new ≡ old) × (get_or old t 0 ≡ 0 → ⊥)) → Entered t left old new
  entered new h (inl a) f g = rw (f a).0 (entered_new h (f a).1)
  entered new h (inr b) f g = rw (g b).0 (entered_old (g b).1)

module _ (next : ℕ → ℕ) (left t : ℕ) (old : List ℕ) where
  pub climbed_out : length old ≡ 128 → left ≡ 0 → Climbed next left t old old
  climbed_out s z = record { size = s; is = λ u h. or_else_none _ _ (left_out next u t left z) }

  module _ (entered : List ℕ) (m : Entered t left old entered) (some : left ≡ 0 → ⊥) where
    pub climbed_end : None ≡ found (next t) → Climbed next left t old entered
    climbed_end e = record {
      size = m.size;
      is = λ u h. equal_or_not u t
          (λ y. rw y (m.here ∙ ap (λ (k : ℕ). or_else (get_or old t 0) k) (left_met next t t left some refl)))
          (λ y. m.other u y ∙ or_else_none _ _ (left_none next u t left 0 y (sym (found_none (next t) e)) refl));
    }

    pub climbed_on : (b : ℕ) → Some b ≡ found (next t) → (nearness : List ℕ) → Climbed next (left - 1) b entered nearness → Climbed next left t old nearness
    climbed_on b e nearness c =
        let up : (u : ℕ) → (u ≡ t → ⊥) → left_at (only u) next (left - 1) b ≡ left_at (only u) next left t =
        λ u y. left_up next u t left (suc b) some y (sym (found_some (next t) b e)) (λ z. omega arith) (rw (less_one b)) in
        record {
          size = c.size;
          is = λ u h. c.is u h ∙ equal_or_not u t
              (λ y. rw (y, m.here) (or_else_kept (get_or old t 0) left (left_at (only t) next (left - 1) b) (left_at (only t) next left t) some (left_met next t t left some refl)))
              (λ y. rw (m.other u y) (ap (λ (k : ℕ). or_else (get_or old u 0) k) (up u y)));
        }

module _ (next : ℕ → ℕ) (all t : ℕ) where
  pub is_nearness : (nearness : List ℕ) → Climbed next all t (replicate 128 0) nearness → nearness ≡ nearness_of next all t
  unfolding nearness_of
  is_nearness nearness c = is-tab (λ u. left_at (only u) next all t) 128 nearness c.size (λ u h. c.is u h ∙ rw (get_or-replicate {A = ℕ} 128 u 0 0 h))

  pub nearness_size : length (nearness_of next all t) ≡ 128
  unfolding nearness_of
  nearness_size = tab-length (λ u. left_at (only u) next all t) 0 128

  pub nearness_at : (u : ℕ) → u < 128 → get_or (nearness_of next all t) u 0 ≡ left_at (only u) next all t
  unfolding nearness_of
  nearness_at u h = tab-at (λ v. left_at (only v) next all t) 0 128 u h
