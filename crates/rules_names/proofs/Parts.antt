-- A test of every byte, and of every part between dots, as the definitions have them. Assumes nothing.
use Rattle.std.proofs.Common.{◌≡◌, refl, ◌∙◌, ap, ℕ, List, [], ◌∷◌, cond, ◌&&◌}
use Rattle.std.specs.List.{list_all, slice_split, onto_first}
use mathlib.Core.Bool.{Bool, true, false}
use lib.Dec.{eqb}
use Rattle.csdl.specs.Search.{all}
use Rattle.csdl.specs.Form.{with_first, dotted}

pub all_elements : {A : Type 0} (test : A → Bool) (xs : List A) → list_all test xs ≡ all test xs
unfolding all
all_elements test [] = refl
all_elements test (x ∷ xs) = ap (λ b. test x && b) (all_elements test xs)

first : (c : ℕ) (ps : List (List ℕ)) → onto_first c ps ≡ with_first c ps
first c [] = refl
first c (p ∷ ps) = refl

split-dotted : (s : List ℕ) → slice_split (λ c. eqb c 46) s ≡ dotted s
unfolding dotted
split-dotted [] = refl
split-dotted (c ∷ s) = by_dot (eqb c 46) (split-dotted s)
  where
    by_dot : (b : Bool) → slice_split (λ c. eqb c 46) s ≡ dotted s → cond b ([] ∷ slice_split (λ c. eqb c 46) s) (onto_first c (slice_split (λ c. eqb c 46) s)) ≡ cond b ([] ∷ dotted s) (with_first c (dotted s))
    by_dot true e = ap (λ (ps : List (List ℕ)). [] ∷ ps) e
    by_dot false e = ap (λ (ps : List (List ℕ)). onto_first c ps) e ∙ first c (dotted s)

pub all_parts : (test : List ℕ → Bool) (s : List ℕ) → list_all test (slice_split (λ c. eqb c 46) s) ≡ all test (dotted s)
all_parts test s = ap (λ (ps : List (List ℕ)). list_all test ps) (split-dotted s) ∙ all_elements test (dotted s)
