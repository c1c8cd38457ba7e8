-- The search for a slot by its name, over a node's run of slots. Assumes nothing.
use Prim.Native.Nat.{ℕ, ◌+◌, ◌-◌, ◌*◌, ◌≤◌}
use mathlib.Core.Path.{◌≡◌, ◌∙◌, sym, refl}
use native.Mathlib.Omega.{arith}
use denote.Param.Members.{Mut}
use denote.Ref.{Bor}
use lib.ListN.{length}
use Rattle.std.proofs.Common.{Bool, true, false, Option, None, MatchOption, List}
use Rattle.std.specs.Bool.{⊤}
use Rattle.std.specs.declared.ops.Range.{Range}
use Rattle.std.proofs.iter.Yields.{nat_range_steps}
use Rattle.std.proofs.lemmas.Iterator.{YieldsList-from_range}
use Rattle.std.proofs.lemmas.Iterator.Adapters.{option_map_id}
use Rattle.std.proofs.lemmas.Iterator.Search.{find_from_yields_List}
use Rattle.std.specs.Fn.{CalledAt}
use Rattle.std.specs.Iterator.{YieldsThen}
use Rattle.std.specs.List.{FoldsTo}
use Rattle.csdl.specs.Search.{first_from, found}
use Rattle.csdl.specs.Model.{Model}
use Rattle.csdl.specs.Instance.{instance_of, node_slots_in}
use Rattle.csdl.specs.Walk.{slot_named}
use Rattle.csdl.proofs.Chains.{find_numbers}
use Rattle.packed.proofs.Laws.{field_past}

-- The same of a run that starts anywhere.
pub run_by_find : {F : Type 0} {g : Mut F (Bor ℕ × Unit {0}) Bool} {f : F} {i m : ℕ} {r : Option ℕ} (u : Range ℕ) (test : ℕ → Bool) (n : ℕ) → m - i ≡ n
    → (xs : List ℕ) × (j : F) × YieldsThen nat_range_steps (record { start = i; end = m }) xs r u × FoldsTo (λ p x q. CalledAt g p x false q) f xs j × MatchOption r ⊤ (λ x. (h : F) × CalledAt g j x true h)
    → ((x : ℕ) (b : Bool) (q : F) → CalledAt g f x b q → (q ≡ f) × (b ≡ test x)) → r ≡ found (first_from test i n)
run_by_find {f = f} {i = i} {m = m} {r = r} u test n e ran k =
    sym (option_map_id r) ∙ find_from_yields_List test u f r ran (YieldsList-from_range i m n refl e) k ∙ find_numbers test i n

-- A number past the nodes has no slots.
pub none_past : (m : Model) (nodes slots items nm : List ℕ) (v : ℕ) → length nodes ≤ 1024 → 65536 ≤ v → None ≡ found (slot_named m (instance_of nodes slots items) nm v)
unfolding slot_named instance_of first_from
none_past m nodes slots items nm v l h = let z : (node_slots_in nodes v).count ≡ 0 = field_past nodes (32 * v + 17) 10 (omega arith) in rw z
