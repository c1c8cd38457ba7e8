-- Counting, in an array, how many runs each number is in.
use Prim.Native.Nat.{ℕ, min, ◌+◌, ◌*◌, ◌≤◌, ◌<◌}
use mathlib.Core.Path.{◌≡◌, refl, ap, ◌∙◌}
use mathlib.Core.List.{List}
use mathlib.Core.Bool.{Bool, true, false, not, ◌&&◌}
use native.Mathlib.Numerals.{add-one}
use native.Mathlib.Omega.{arith}
use lib.ListN.{length, get_or, set, replicate, get_or-replicate}
use lib.Seq.{get_or-set_same, get_or-set_other}
use lib.Dec.{eqb, ltb, leb}
use borrow.Author.Tests.{leb-true, ltb-true, ltb-false, eqb-true, eqb-false, lt-ltb, le-ltb, le-leb}
use Rattle.csdl.specs.declared.Run.{Run}
use Rattle.csdl.proofs.Settle.{one_if_le, count-le}
use Rattle.csdl.specs.Model.{Model, in_run}
use Rattle.csdl.specs.Path.{kinds, kind_paths_with, paths_with}
use Rattle.csdl.specs.declared.PathKind.TheVariants.{Partner}
use Rattle.csdl.specs.Paths.{segment13}
use Rattle.csdl.specs.Search.{one_if, sum_from, count_from, sum_of}
use Rattle.rules_segments.specs.Cover.{inside, cover_of}
use Rattle.csdl.proofs.Logic.{sum_suc, count_next}

-- g itself is passed at g + 1, and no other number is.
ltb-here : (g : ℕ) → ltb g (g + 1) ≡ true
ltb-here g = lt-ltb g (g + 1) (omega arith)

ltb-not_yet : (g : ℕ) → ltb g g ≡ false
ltb-not_yet g = le-ltb g g (omega arith)

ltb-other : (k g : ℕ) → (k ≡ g → ⊥) → ltb k (g + 1) ≡ ltb k g
ltb-other k g ne = go (ltb k g) refl
  where
    go : (b : Bool) → ltb k g ≡ b → ltb k (g + 1) ≡ b
    go true e = lt-ltb k (g + 1) (omega (arith, ltb-true k g e))
    go false e = le-ltb k (g + 1) (omega (arith, ltb-false k g e, ne))

-- The array counts, for each number, whether it lies from `from` on and before g.
abbrev pub Counted : List ℕ → List ℕ → ℕ → ℕ → Type 0
Counted out₀ out from g = (k : ℕ) → get_or out k 0 ≡ get_or out₀ k 0 + one_if (leb from k && ltb k g)

pub counted_start : (out : List ℕ) (from : ℕ) → Counted out out from from
counted_start out from k = go (leb from k) refl
  where
    go : (b : Bool) → leb from k ≡ b → get_or out k 0 ≡ get_or out k 0 + one_if (leb from k && ltb k from)
    go true e = rw (e, le-ltb k from (omega (arith, leb-true from k e))) (omega arith)
    go false e = rw e (omega arith)

pub counted-more : (out₀ out : List ℕ) (from g : ℕ) → from ≤ g → g < length out → Counted out₀ out from g → Counted out₀ (set out g (get_or out g 0 + 1)) from (g + 1)
counted-more out₀ out from g low high c k = go (eqb k g) refl
  where
    go : (b : Bool) → eqb k g ≡ b → get_or (set out g (get_or out g 0 + 1)) k 0 ≡ get_or out₀ k 0 + one_if (leb from k && ltb k (g + 1))
    go true e =
        let q : k ≡ g = eqb-true k g e in
        let z : get_or out g 0 ≡ get_or out₀ g 0 + 0 = c g ∙ rw (le-leb from g low, ltb-not_yet g) in
        rw (q, get_or-set_same out g (get_or out g 0 + 1) 0 high, le-leb from g low, ltb-here g) (omega arith)
    go false e =
        let ne : k ≡ g → ⊥ = eqb-false k g e in
        rw (get_or-set_other out g k (get_or out g 0 + 1) 0 ne, ltb-other k g ne) (c k)

-- At the end of the run, or of the array.
pub counted_end : (out₀ out : List ℕ) (first count g size : ℕ) → min size (first + count) ≤ g → g ≤ first + count → first ≤ g → Counted out₀ out first g →
    (k : ℕ) → k < size → get_or out k 0 ≡ get_or out₀ k 0 + one_if (inside first count k)
unfolding inside
counted_end out₀ out first count g size low high from c k h = c k ∙ go (ltb k g) refl
  where
    go : (b : Bool) → ltb k g ≡ b → get_or out₀ k 0 + one_if (leb first k && ltb k g) ≡ get_or out₀ k 0 + one_if (leb first k && ltb k (first + count))
    go true e = rw (e, lt-ltb k (first + count) (omega (arith, ltb-true k g e)))
    go false e = rw (e, le-ltb k (first + count) (omega (arith, ltb-false k g e)))

-- An entry stays small.
pub counted-small : (out₀ out : List ℕ) (from g k n : ℕ) → Counted out₀ out from g → get_or out₀ k 0 ≤ n → get_or out k 0 ≤ n + 1
counted-small out₀ out from g k n c h = omega (arith, c k, one_if_le (leb from k && ltb k g))

-- One more term at the end.
pub sum_next : (f : ℕ → ℕ) (i n : ℕ) → sum_from f i (n + 1) ≡ sum_from f i n + f (i + n)
sum_next f i n = rw (add-one n) (sum_suc f i n)

-- The array counts, for each number, how many of the first r runs it is in.
abbrev pub Tallied : (ℕ → ℕ → Bool) → List ℕ → List ℕ → ℕ → Type 0
Tallied inside out₀ out r = (g : ℕ) → g < length out₀ → get_or out g 0 ≡ get_or out₀ g 0 + count_from (λ k. inside k g) 0 r

pub tallied_start : (test : ℕ → ℕ → Bool) (out : List ℕ) → Tallied test out out 0
unfolding sum_from
tallied_start test out g h = omega arith

pub tallied_more : (test : ℕ → ℕ → Bool) (out₀ out out' : List ℕ) (r : ℕ) → length out ≡ length out₀ → Tallied test out₀ out r →
    ((g : ℕ) → g < length out → get_or out' g 0 ≡ get_or out g 0 + one_if (test r g)) → Tallied test out₀ out' (r + 1)
tallied_more test out₀ out out' r e t s g h = omega (arith, t g h, s g (omega arith), count_next (λ k. test k g) r)

pub tallied_small : (test : ℕ → ℕ → Bool) (out₀ out : List ℕ) (r n m : ℕ) → length out ≡ length out₀ → Tallied test out₀ out r → r ≤ m →
    ((g : ℕ) → g < length out₀ → get_or out₀ g 0 ≤ n) → (g : ℕ) → g < length out → get_or out g 0 ≤ n + m
tallied_small test out₀ out r n m e t l s g h = omega (arith, t g (omega arith), s g (omega arith), count-le (λ k. test k g) 0 r)

-- A run as the code has it, in two numbers.
pub inside_run : (r : Run) (first count g : ℕ) → first ≡ r.first → count ≡ r.count → inside first count g ≡ in_run r g
unfolding inside
inside_run r first count g e f = rw (e, f)

pub added : (r : Run) (first count g n m : ℕ) → first ≡ r.first → count ≡ r.count → n ≡ m + one_if (inside first count g) → n ≡ m + one_if (in_run r g)
added r first count g n m e f h = rw (← inside_run r first count g e f) h

-- The array sums, for each number, what each of the first kinds adds.
abbrev pub Summed : (ℕ → ℕ → ℕ) → List ℕ → ℕ → Type 0
Summed f out kind = (g : ℕ) → g < 1024 → (get_or out g 0 ≡ sum_from (λ k. f k g) 0 kind) × (get_or out g 0 ≤ 512 * kind)

pub summed_start : (f : ℕ → ℕ → ℕ) → Summed f (replicate 1024 0) 0
unfolding sum_from
summed_start f g h = let e : ◌≡◌ {A = ℕ} (get_or (replicate 1024 0) g 0) 0 = get_or-replicate 1024 g 0 0 h in (e, omega arith)

pub summed_more : (f : ℕ → ℕ → ℕ) (out out' : List ℕ) (kind : ℕ) → Summed f out kind →
    ((g : ℕ) → g < 1024 → (get_or out' g 0 ≡ get_or out g 0 + f kind g) × (f kind g ≤ 512)) → Summed f out' (kind + 1)
summed_more f out out' kind s n g h =
    let e : 0 + kind ≡ kind = omega arith in
    let a : sum_from (λ k. f k g) 0 (kind + 1) ≡ sum_from (λ k. f k g) 0 kind + f kind g =
    sum_next (λ k. f k g) 0 kind ∙ ap (λ (x : ℕ). sum_from (λ k. f k g) 0 kind + f x g) e in
    (omega (arith, (s g h).0, (n g h).0), omega (arith, (s g h).1, (n g h).0, (n g h).1))

-- All six kinds.
pub all_kinds : (m : Model) (g : ℕ) → sum_from (λ k. kind_paths_with m (get_or kinds k Partner) g) 0 6 ≡ cover_of m g
unfolding sum_from cover_of paths_with sum_of
all_kinds m g = omega arith

-- Rule 13 from the number of paths that a segment is in.
pub not_once : (m : Model) (g c : ℕ) → c ≡ cover_of m g → not (eqb c 1) ≡ segment13 m g
unfolding segment13 cover_of
not_once m g c e = rw e
