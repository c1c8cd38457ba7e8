-- A search among the properties that have the name of p, along their chain. Assumes nothing.
use Prim.Native.Nat.{ℕ, zero, suc, ◌+◌, ◌<◌}
use mathlib.Core.Path.{◌≡◌, refl, sym, ap, ◌∙◌}
use mathlib.Core.List.{List}
use mathlib.Core.Bool.{Bool, true, false}
use mathlib.Core.Logic.{⊎_elim}
use native.Mathlib.Nat.{eq-or-lt_of_le}
use native.Mathlib.Omega.{arith}
use lib.ListN.{get_or}
use Rattle.std.proofs.Common.{Option, Some, None}
use Rattle.packed.specs.Bytes.{same}
use Rattle.packed.proofs.Laws.{same_sym}
use Rattle.csdl.specs.Search.{first_from, found}
use Rattle.csdl.specs.Model.{Model, model_of}
use Rattle.csdl.specs.Properties.{same_name}
use Rattle.csdl.proofs.Logic.{none_first, first_found, first-none, true-false, below_or_not}
use Rattle.model_image.specs.Read.{model_read}
use Rattle.model_image.proofs.Counting.{most_properties}
use Rattle.name_classes.specs.Classes.{name_of}
use Rattle.lookup.specs.declared.model.Lookup.{Lookup}
use Rattle.lookup.proofs.Chain.{Reached, alike-start}
use Rattle.lookup.proofs.Looking.{properties_counted, On, on-start, on_ended, on-reach, on-next, on_less, remaining}

-- The first number that passes is the one that does where none below it does.
first_at : (test : ℕ → Bool) (n q : ℕ) → q < n → test q ≡ true → ((j : ℕ) → j < q → test j ≡ false) → Some q ≡ found (first_from test 0 n)
first_at test n q h t none = go (first_from test 0 n) refl
  where
    go : (r : ℕ) → first_from test 0 n ≡ r → Some q ≡ found r
    go zero e = true-false (test q) t (first-none test 0 n e q (omega arith) (omega arith))
    go (suc k) e =
        let w = first_found test 0 n k e in
        below_or_not k q (λ b. true-false (test k) w.2 (none k b))
        (λ b. below_or_not q k (λ d. true-false (test q) t (w.3 q (omega arith) d)) (λ d. let same : q ≡ k = omega arith in rw same))

module _ (l : Lookup) (p : ℕ) where
  abbrev m : Model
  m = model_read l.hierarchy.model

  abbrev name : ℕ → List ℕ
  name q = name_of l.hierarchy.model.properties.now l.hierarchy.model.names.now q

  pub low : p < m.properties → p < 512
  low h = omega (arith, most_properties l.hierarchy.model)

  module _ (test : ℕ → Bool) (only : (q : ℕ) → same_name m p q ≡ false → test q ≡ false) where
    pub only_named : (q : ℕ) → same (name q) (name p) ≡ false → test q ≡ false
    unfolding model_read model_of same_name
    only_named q h = only q (same_sym _ _ ∙ h)

    -- The chain is at a property, or at its end, and none before it passes.
    pub record Searched (at : Option ℕ) : Type 0 where
      pub upto : ℕ
      pub on : On l (name p) at upto
      pub none : (q : ℕ) → q < upto → test q ≡ false

    pub searched_start : p < m.properties → (at : Option ℕ) → at ≡ found (get_or l.index (512 + p) 0) → Searched at
    searched_start h at e = record {
      upto = 0;
      on = on-start l (name p) at (e ∙ ap found (alike-start _ _ _ l.indexed p (rw (properties_counted l) at h) _ refl));
      none = λ q k. absurd (omega (arith, k));
    }

    pub searched_end : (at : Option ℕ) → Searched at → at ≡ None → None ≡ found (first_from test 0 m.properties)
    searched_end at s e =
        ap found (sym (none_first test 0 m.properties (λ q a k. below_or_not q s.upto (λ b. s.none q b) (λ b. only_named q (on_ended l (name p) s.upto (rw e at s.on) q b (omega (arith, k, properties_counted l)))))))

    module _ (at : Option ℕ) (s : Searched at) (q : ℕ) (e : at ≡ Some q) where
      here : On l (name p) (Some q) s.upto
      here = rw e at s.on

      reach : Reached l.hierarchy.model.properties.now l.hierarchy.model.names.now (name p) s.upto q
      reach = on-reach l (name p) s.upto q here

      pub at_below : q < m.properties
      at_below = rw (properties_counted l) reach.below

      pub at_named : same_name m p q ≡ true
      unfolding model_read model_of same_name
      at_named = same_sym _ _ ∙ reach.named

      before : (j : ℕ) → j < q → test j ≡ false
      before j h = below_or_not j s.upto (λ k. s.none j k) (λ k. only_named j (reach.skips j k h))

      pub searched_here : test q ≡ true → Some q ≡ found (first_from test 0 m.properties)
      searched_here h = first_at test m.properties q at_below h before

      module _ (next : Option ℕ) (f : next ≡ found (get_or l.index (1024 + q) 0)) where
        pub next_less : remaining m.properties next < remaining m.properties at
        next_less = rw (e, properties_counted l) (on_less l (name p) s.upto q here next f)

        pub searched_next : test q ≡ false → Searched next
        searched_next g = record {
          upto = q + 1;
          on = on-next l (name p) s.upto q here next f;
          none = λ j h. ⊎_elim (λ z. rw z g) (λ k. before j k) (eq-or-lt_of_le (omega arith));
        }
