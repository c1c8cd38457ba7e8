-- What `find` and `any` answer over the numbers below n, as the searches of the definitions. Assumes nothing.
use Prim.Native.Nat.{ℕ, suc, zero, ◌+◌, ◌-◌, ◌≤◌, ◌<◌}
use mathlib.Core.Path.{◌≡◌, ◌∙◌, sym, refl}
use mathlib.Core.Bool.{Bool, true, false, cond, ◌||◌}
use native.Mathlib.Nat.{sub-zero}
use native.Mathlib.Omega.{arith}
use denote.Param.Members.{Mut}
use denote.Ref.{Bor}
use Rattle.std.proofs.Common.{Option, Some, None, MatchOption, IfSome, List}
use Rattle.std.specs.Bool.{⊤}
use Rattle.std.specs.declared.ops.Range.{Range}
use Rattle.std.proofs.iter.Yields.{nat_range_steps}
use Rattle.std.proofs.lemmas.Iterator.{YieldsList, YieldsList-from_range}
use Rattle.std.proofs.lemmas.Iterator.Adapters.{option_map_id}
use Rattle.std.proofs.lemmas.Iterator.Search.{find_from_yields_List, any_from_yields_List}
use Rattle.std.specs.Fn.{Called, CalledAt}
use Rattle.std.specs.Iterator.{YieldsThen}
use Rattle.std.specs.List.{range_with_len, FoldsTo, list_any, find}
use Rattle.csdl.specs.Search.{first_from, any_from, found}

pub find_numbers : (test : ℕ → Bool) (i n : ℕ) → find test (range_with_len i n) ≡ found (first_from test i n)
unfolding first_from
find_numbers test i zero = refl
find_numbers test i (suc n) = by_test (test i) (first_from test (i + 1) n) (find_numbers test (i + 1) n) where
  by_test : (b : Bool) (rest : ℕ) → find test (range_with_len (i + 1) n) ≡ found rest → cond b (Some i) (find test (range_with_len (i + 1) n)) ≡ found (cond b (suc i) rest)
  by_test true rest e = refl
  by_test false rest e = e

pub any_numbers : (test : ℕ → Bool) (i n : ℕ) → list_any test (range_with_len i n) ≡ any_from test i n
unfolding any_from
any_numbers test i zero = refl
any_numbers test i (suc n) = by_test (test i) (any_numbers test (i + 1) n) where
  by_test : (b : Bool) → list_any test (range_with_len (i + 1) n) ≡ any_from test (i + 1) n → (b || list_any test (range_with_len (i + 1) n)) ≡ cond b true (any_from test (i + 1) n)
  by_test true e = refl
  by_test false e = e

pub first_by_find : {F : Type 0} {g : Mut F (Bor ℕ × Unit {0}) Bool} {f : F} {m : ℕ} {r : Option ℕ} (u : Range ℕ) (test : ℕ → Bool) (n : ℕ) → m ≡ n
    → (xs : List ℕ) × (j : F) × YieldsThen nat_range_steps (record { start = 0; end = m }) xs r u × FoldsTo (λ p x q. CalledAt g p x false q) f xs j × MatchOption r ⊤ (λ x. (h : F) × CalledAt g j x true h)
    → ((x : ℕ) (b : Bool) (q : F) → CalledAt g f x b q → (q ≡ f) × (b ≡ test x)) → r ≡ found (first_from test 0 n)
first_by_find {f = f} {m = m} {r = r} u test n e ran k =
    sym (option_map_id r) ∙ find_from_yields_List test u f r ran (YieldsList-from_range 0 m n refl (sub-zero m ∙ e)) k ∙ find_numbers test 0 n

pub any_by_any : {F : Type 0} {g : Mut F (ℕ × Unit {0}) Bool} {f : F} {m : ℕ} {r : Bool} (u : Range ℕ) (test : ℕ → Bool) (n : ℕ) → m ≡ n
    → (xs : List ℕ) × (o : Option ℕ) × (j : F) × YieldsThen nat_range_steps (record { start = 0; end = m }) xs o u × FoldsTo (λ p x q. Called g p (x, tt) false q) f xs j × MatchOption o (r ≡ false) (λ x. (r ≡ true) × ((h : F) × Called g j (x, tt) true h))
    → ((x : ℕ) (b : Bool) (q : F) → Called g f (x, tt) b q → (q ≡ f) × (b ≡ test x)) → r ≡ any_from test 0 n
any_by_any {f = f} {m = m} {r = r} u test n e ran k = any_from_yields_List test u f r ran (YieldsList-from_range 0 m n refl (sub-zero m ∙ e)) k ∙ any_numbers test 0 n

-- What is found is among the numbers that were searched.
pub found_below : (test : ℕ → Bool) (i n : ℕ) → IfSome (found (first_from test i n)) (λ k. k < i + n)
unfolding first_from
found_below test i zero = tt
found_below test i (suc n) = by_test (test i) (first_from test (i + 1) n) (found_below test (i + 1) n) where
  widen : (r : ℕ) → IfSome (found r) (λ k. k < i + 1 + n) → IfSome (found r) (λ k. k < i + suc n)
  widen zero h = tt
  widen (suc k) h = omega (arith, h)

  by_test : (b : Bool) (rest : ℕ) → IfSome (found rest) (λ k. k < i + 1 + n) → IfSome (found (cond b (suc i) rest)) (λ k. k < i + suc n)
  by_test true rest h = omega arith
  by_test false rest h = widen rest h
