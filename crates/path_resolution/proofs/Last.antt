-- The last name of a path, as a search from the end finds it. Assumes nothing.
use Prim.Native.Nat.{ℕ, zero, suc, ◌+◌, ◌-◌}
use mathlib.Core.Path.{◌≡◌, refl, subst}
use mathlib.Core.Bool.{Bool, true, false, cond, not}
use native.Mathlib.Nat.{sub-zero}
use native.Mathlib.Omega.{arith}
use lib.ListN.{get_or, length}
use Rattle.std.proofs.Common.{List, [], ◌∷◌, Option, Some, None}
use Rattle.std.specs.declared.iter.Rev.{Rev}
use Rattle.std.specs.declared.ops.Range.{Range}
use Rattle.std.specs.Iterator.Adapters.{rev_steps}
use Rattle.std.specs.List.{find}
use Rattle.std.proofs.iter.runs.Sources.{nat_range_steps_back}
use Rattle.std.proofs.lemmas.Iterator.{YieldsList}
use Rattle.std.proofs.lemmas.Iterator.Consumers.{YieldsList-from_shown}
use Rattle.csdl.proofs.Logic.{less_one}
use Rattle.csdl.specs.Search.{found}
use Rattle.path_resolution.specs.Resolution.{last_name, cast_code}

-- The `count` numbers below `end`, from the last on.
unfoldable pub down : ℕ → ℕ → List ℕ
down end zero = []
down end (suc count) = (end - 1) ∷ down (end - 1) count

stepped : (end count next left x : ℕ) → count ≡ suc left → x ≡ next → end ≡ next + 1 → down end count ≡ x ∷ down next left
unfolding down
stepped end count next left x e f g = let o : next + 1 - 1 ≡ next = omega arith in rw (e, f, g, o) refl

empty : (end count : ℕ) → count ≡ 0 → length (down end count) ≡ 0
unfolding down
empty end count e = rw e

pub yields_down : {s : Rev (Range ℕ)} (n : ℕ) → s.iter ≡ record { start = 0; end = n } → YieldsList (rev_steps nat_range_steps_back) (λ x. x) s (down n n)
yields_down {s} n e = subst (λ k. YieldsList (rev_steps nat_range_steps_back) (λ x. x) s (down n k)) (sub-zero n) (subst (λ (r : Range ℕ). YieldsList (rev_steps nat_range_steps_back) (λ x. x) s (down r.end (r.end - r.start))) e
    (YieldsList-from_shown (rev_steps nat_range_steps_back) (λ x. x) (λ u. down u.iter.end (u.iter.end - u.iter.start))
    (λ u t p. empty u.iter.end (u.iter.end - u.iter.start) p.1.0)
    (λ u x t p. stepped u.iter.end (u.iter.end - u.iter.start) t.iter.end (t.iter.end - t.iter.start) x (omega (arith, p.0, p.1.0, p.1.2)) p.1.1 p.1.2) s))

pub last_by_find : (codes : List ℕ) (n : ℕ) → find (λ k. not (cast_code (get_or codes k 0))) (down n n) ≡ found (last_name codes n)
unfolding down last_name
last_by_find codes zero = refl
last_by_find codes (suc n) = rw (less_one n) (by_test (cast_code (get_or codes n 0)) (last_by_find codes n)) where
  by_test : (b : Bool) → find (λ k. not (cast_code (get_or codes k 0))) (down n n) ≡ found (last_name codes n)
      → cond (not b) (Some n) (find (λ k. not (cast_code (get_or codes k 0))) (down n n)) ≡ found (cond b (last_name codes n) (suc n))
  by_test true e = e
  by_test false e = refl
