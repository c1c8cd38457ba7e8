-- The first place that breaks a rule, by the first node, slot and item that does. Assumes nothing.
use Prim.Native.Nat.{ℕ, zero, suc, ◌+◌, ◌-◌, ◌<◌}
use mathlib.Core.Path.{◌≡◌, refl, ap, ◌∙◌}
use mathlib.Core.Bool.{Bool, false}
use native.Mathlib.Omega.{arith}
use native.Mathlib.Nat.{add-zero, zero-add}
use borrow.Author.Tests.{lt-ltb, le-ltb}
use Rattle.csdl.specs.Search.{first_from, or_else, place_found}
use Rattle.csdl.specs.Instance.{Instance, instance_places, instance_record_at, on_node, on_slot, on_item}
use Rattle.csdl.proofs.Logic.{first-same}
use Rattle.csdl.proofs.Windows.{first_split, first_placed}
use Rattle.csdl.specs.declared.InstanceRecord.{InstanceRecord}
use Rattle.csdl.specs.declared.InstanceRecord.TheVariants.{OfNode, OfSlot, OfItem}

pub first-false : (n i : ℕ) → first_from (λ k. false) i n ≡ 0
unfolding first_from
first-false zero i = refl
first-false (suc n) i = first-false n (i + 1)

pub or_else_none : (x : ℕ) → or_else x 0 ≡ x
or_else_none zero = refl
or_else_none (suc x) = refl

module _ (i : Instance) (test : InstanceRecord → Bool) where
  at-node : (v : ℕ) → v < i.nodes → instance_record_at i v ≡ OfNode v
  unfolding instance_record_at
  at-node v h = rw (lt-ltb v i.nodes h)

  at_slot : (s : ℕ) → s < i.slots → instance_record_at i (i.nodes + s) ≡ OfSlot s
  unfolding instance_record_at
  at_slot s h =
      let e : i.nodes + s - i.nodes ≡ s = omega arith in
      rw (le-ltb (i.nodes + s) i.nodes (omega arith), lt-ltb (i.nodes + s) (i.nodes + i.slots) (omega arith), e)

  at_item : (k : ℕ) → k < i.items → instance_record_at i (i.nodes + i.slots + k) ≡ OfItem k
  unfolding instance_record_at
  at_item k h =
      let n = i.nodes in
      let s = i.slots in
      let e : n + s + k - (n + s) ≡ k = omega arith in
      rw (le-ltb (n + s + k) n (omega arith), le-ltb (n + s + k) (n + s) (omega arith), lt-ltb (n + s + k) (n + s + i.items) (omega arith), e)

  pub first_record : first_from (λ place. test (instance_record_at i place)) 0 (instance_places i)
      ≡ or_else (first_from (λ v. test (OfNode v)) 0 i.nodes)
      (or_else (place_found i.nodes (first_from (λ s. test (OfSlot s)) 0 i.slots))
      (place_found (i.nodes + i.slots) (first_from (λ k. test (OfItem k)) 0 i.items)))
  first_record =
      let n = i.nodes in
      let s = i.slots in
      let f : ℕ → Bool = (λ place. test (instance_record_at i place)) in
      let a : first_from f 0 n ≡ first_from (λ v. test (OfNode v)) 0 n = first-same f _ 0 n (λ k l h. ap test (at-node k (omega arith))) in
      let b : first_from f n s ≡ place_found n (first_from (λ k. test (OfSlot k)) 0 s) =
      rw (add-zero n) at (first_placed f n s 0)
      ∙ ap (place_found n) (first-same (λ k. f (n + k)) _ 0 s (λ k l h. ap test (at_slot k (omega arith)))) in
      let d : first_from f (n + s) i.items ≡ place_found (n + s) (first_from (λ k. test (OfItem k)) 0 i.items) =
      rw (add-zero (n + s)) at (first_placed f (n + s) i.items 0)
      ∙ ap (place_found (n + s)) (first-same (λ k. f (n + s + k)) _ 0 i.items (λ k l h. ap test (at_item k (omega arith)))) in
      rw (first_split f (n + s) i.items 0, first_split f n s 0, zero-add (n + s), zero-add n, a, b, d)
      (go (first_from (λ v. test (OfNode v)) 0 n) (place_found n (first_from (λ k. test (OfSlot k)) 0 s)) (place_found (n + s) (first_from (λ k. test (OfItem k)) 0 i.items)))
    where
      go : (x y z : ℕ) → or_else (or_else x y) z ≡ or_else x (or_else y z)
      go zero y z = refl
      go (suc x) y z = refl

-- A rule of nodes, of slots or of items only.
module _ (i : Instance) (test : ℕ → Bool) where
  pub nodes-only : first_from (λ place. on_node test (instance_record_at i place)) 0 (instance_places i) ≡ first_from test 0 i.nodes
  nodes-only = first_record i (on_node test) ∙ rw (first-false i.slots 0, first-false i.items 0, or_else_none (first_from test 0 i.nodes))

  pub slots-only : first_from (λ place. on_slot test (instance_record_at i place)) 0 (instance_places i) ≡ place_found i.nodes (first_from test 0 i.slots)
  slots-only =
      first_record i (on_slot test)
      ∙ rw (first-false i.nodes 0, first-false i.items 0, or_else_none (place_found i.nodes (first_from test 0 i.slots)))

  pub items-only : first_from (λ place. on_item test (instance_record_at i place)) 0 (instance_places i) ≡ place_found (i.nodes + i.slots) (first_from test 0 i.items)
  items-only = first_record i (on_item test) ∙ rw (first-false i.nodes 0, first-false i.slots 0)
