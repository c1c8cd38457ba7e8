-- Where the first property of a name stands. Assumes nothing.
use Prim.Native.Nat.{ℕ, suc, ◌+◌, ◌<◌}
use mathlib.Core.Path.{◌≡◌}
use mathlib.Core.List.{List}
use mathlib.Core.Bool.{true, ◌&&◌}
use native.Mathlib.Omega.{arith}
use lib.Dec.{eqb}
use lib.ListN.{get_or}
use borrow.Author.Tests.{eq-eqb, eqb-true}
use Rattle.packed.specs.Bytes.{same}
use Rattle.packed.proofs.Laws.{same_sound, same_complete}
use Rattle.csdl.specs.Search.{any_from}
use Rattle.csdl.proofs.Logic.{any_found, any_of, and_cases}
use Rattle.name_classes.specs.Classes.{Ranked}

abbrev pub Placed : (ℕ → List ℕ) → List ℕ → ℕ → ℕ → Type 0
Placed name index firsts q = (i : ℕ) × (i < firsts) × (get_or index (512 + q) 0 ≡ suc (get_or index i 0)) × (name (get_or index i 0) ≡ name q)

pub placed : (name : ℕ → List ℕ) (n firsts : ℕ) (index : List ℕ) → Ranked name n firsts index → (q : ℕ) → q < n → Placed name index firsts q
placed name n firsts index f q h =
    let w = any_found _ 0 firsts (f.stands q h) in
    let b = and_cases _ _ w.3 in
    (w.0, omega (arith, w.2), eqb-true _ _ b.0, same_sound _ _ b.1)

pub stands_at : (name : ℕ → List ℕ) (index : List ℕ) (firsts q : ℕ) → Placed name index firsts q
    → any_from (λ i. eqb (get_or index (512 + q) 0) (suc (get_or index i 0)) && same (name (get_or index i 0)) (name q)) 0 firsts ≡ true
stands_at name index firsts q w = any_of _ 0 firsts w.0 (omega arith) (omega (arith, w.1)) (rw (eq-eqb _ _ w.2) (same_complete _ _ w.3))
