-- A set put in the place of a row that went through one number more. Assumes nothing.
use Prim.Native.Nat.{ℕ, ◌+◌, ◌<◌}
use mathlib.Core.Path.{◌∙◌, ap}
use mathlib.Core.List.{List}
use mathlib.Core.Bool.{◌&&◌, ◌||◌}
use lib.ListN.{length, set}
use lib.Seq.{get_or-set_same, get_or-set_other}
use Rattle.type_hierarchy.specs.Sets.{member, Members, step_of}
use Rattle.type_hierarchy.proofs.Closing.{Going, going_more}

pub row_more : (a c row : ℕ) (before rows : List ℕ) → Going 64 a c (step_of before) (step_of rows) → a < length rows → c < 64
    → Members 64 row (λ b. step_of rows a b || (step_of rows a c && step_of rows c b)) → Going 64 (a + 1) c (step_of before) (step_of (set rows a row))
row_more a c row before rows g l k w =
    going_more 64 a c (step_of before) (step_of rows) g (step_of (set rows a row)) k
    (λ b i. ap (λ (r : ℕ). member r b) (get_or-set_same rows a row 0 l) ∙ w b i)
    (λ x b z i. ap (λ (r : ℕ). member r b) (get_or-set_other rows a x row 0 z))
