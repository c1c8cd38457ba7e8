-- DEMAND 3, clause by clause, (3a) to (3h). The premises are the verdicts and the start node, and nothing else.
-- The clauses (3b) to (3h) are of every path that a record of the model holds: the partner of a property, the path of a key, the two of a
-- constraint, the two of a binding. Before them stands the general theorem, `any-path`, over any path that resolves with integral inner names;
-- after them, that every walk which is not refused meets the premises.
use Prim.Native.Nat.{ℕ, ◌+◌, ◌*◌, ◌≤◌, ◌<◌}
use mathlib.Core.Path.{◌≡◌, refl, sym, ◌∙◌, subst}
use mathlib.Core.List.{List, [], ◌∷◌}
use mathlib.Core.Bool.{true, false, false≢true, not}
use native.Mathlib.Omega.{arith}
use lib.ListN.{length}
use lib.Dec.{ltb}
use borrow.Author.Tests.{ltb-true, ltb-false, lt-ltb, le-ltb, not-false}
use Rattle.std.proofs.Common.{Option, Some, None}
use Rattle.csdl.specs.Image.{model_in}
use Rattle.csdl.specs.Find.{ancestor_or_self}
use Rattle.csdl.specs.Path.{Segment, segments_of, resolves, end_of, path_of, start_of, path_end}
use Rattle.csdl.specs.declared.PathKind.{PathKind}
use Rattle.csdl.specs.declared.PathKind.TheVariants.{Key}
use Rattle.csdl.specs.Instance.{instance_in, item_bytes}
use Rattle.csdl.specs.Conforms.{instance_answer}
use Rattle.csdl.specs.Verdict.Answer.{accepted}
use Rattle.csdl.specs.Walk.{walked, opened, reaches_end, start, chosen_start, walk27, walk28, walk29, walk_path, walk_results, walk_opened, walk_answer, result_bytes}
use Rattle.csdl.specs.declared.Holder.{Holder}
use Rattle.csdl.specs.Walk.Item.{value}
use Rattle.csdl.specs.Relations.{Ancestor}
use Rattle.csdl.specs.Types.{type9, rule9}
use Rattle.csdl.specs.Accepted.{ModelPasses, InstancePasses, WalkPasses}
use Rattle.csdl.proofs.Logic.{true-false, or_no}
use Rattle.csdl.proofs.Places.{of_type}
use Rattle.csdl.proofs.Relations.{rule9_decides}
use Rattle.csdl.proofs.Verdicts.{instance_accepts, walk_accepts}
use Rattle.soundness.specs.Lists.{All, Distinct}
use Rattle.soundness.specs.Premises.{Premises}
use Rattle.soundness.specs.Demand.{Held, held_place, held_number, inner_integral, LiesAt, NullHasOrigin, Demand, One}
use Rattle.soundness.proofs.Facts.{ModelFacts, InstanceFacts}
use Rattle.soundness.proofs.Rules.{model_facts, instance_facts}
use Rattle.soundness.proofs.Images.{base_past, state-small}
use Rattle.soundness.proofs.Ways.{inner_way}
use Rattle.soundness.proofs.PathRules.{held_at, held_chosen, path_way, key_way, key_plain, key_single}
use Rattle.soundness.proofs.Counts.{bytes-length}
use Rattle.soundness.proofs.Together.{demand, one}

-- (3a) No type of an accepted model is its own ancestor.
pub no_own-ancestor : (image : List ℕ) → ModelPasses image → (t : ℕ) → t < (model_in image).types → Ancestor (model_in image) t t → ⊥
no_own-ancestor image p t l a =
    let k = p.model_kept in
    true-false (type9 (model_in image) t) ((rule9_decides (model_in image) k.kept4 t l).1 a) (of_type (model_in image) rule9 k.kept9 t l)

-- The premise of all that follows: the check of the instance accepts. It asks the rules 1 and 3 to 19 of the model, and 20 to 26 of the instance.
module _ (model image : List ℕ) (conforms : instance_answer model image ≡ accepted []) where
  passes-all : InstancePasses model image
  passes-all = (instance_accepts model image).0 conforms

  of_model : ModelFacts (model_in model)
  of_model = model_facts (model_in model) passes-all.model_passes.model_kept (base_past model passes-all.model_passes.kept1)

  of_instance : InstanceFacts (model_in model) (instance_in image)
  of_instance = instance_facts (model_in model) (instance_in image) of_model passes-all.instance_kept (state-small image)

  -- The general theorem: any path that resolves from a type, each of whose names but the last is integral, from any node at that type.
  pub any-path : (t : ℕ) (gs : List Segment) → resolves (model_in model) t gs ≡ true → inner_integral (model_in model) t gs ≡ true →
      (v : ℕ) → v < (instance_in image).nodes → ancestor_or_self (model_in model) t ((instance_in image).node_type v) ≡ true →
      Demand (model_in model) (instance_in image) gs (end_of (model_in model) t gs) v
  any-path t gs res integral = demand (model_in model) (instance_in image) of_model of_instance (inner_way (model_in model) t gs res integral)

  key_one : (r : ℕ) → Held (model_in model) Key r → (v : ℕ) → v < (instance_in image).nodes →
      ancestor_or_self (model_in model) (start_of (model_in model) Key r) ((instance_in image).node_type v) ≡ true →
      One (model_in model) (instance_in image) (segments_of (model_in model) (path_of (model_in model) Key r)) v
  key_one r h =
      let k = passes-all.model_passes.model_kept in
      one (model_in model) (instance_in image) of_model of_instance (key_single (model_in model) k) (key_way (model_in model) k r h)
      (key_plain (model_in model) k r h)

  -- Every path that a record of the model holds: w is its kind and r its record; v is a node at its start type.
  pub every_path : (w : PathKind) (r : ℕ) → Held (model_in model) w r → (v : ℕ) → v < (instance_in image).nodes →
      ancestor_or_self (model_in model) (start_of (model_in model) w r) ((instance_in image).node_type v) ≡ true →
      Demand (model_in model) (instance_in image) (segments_of (model_in model) (path_of (model_in model) w r)) (path_end (model_in model) w r) v
  every_path w r h = demand (model_in model) (instance_in image) of_model of_instance (path_way (model_in model) passes-all.model_passes.model_kept of_model w r h)

  -- Each such path has a place and a number, by which a walk takes it; and what a place and a number choose is such a path.
  pub each_has_place : (w : PathKind) (r : ℕ) → Held (model_in model) w r → walk_path model (held_place (model_in model) w r) (held_number w) ≡ Some (record { kind = w; number = r })
  each_has_place w r h = held_chosen (model_in model) w r h

  pub each-is_held : (place n : ℕ) (w : PathKind) (r : ℕ) → walk_path model place n ≡ Some (record { kind = w; number = r }) → Held (model_in model) w r
  each-is_held place n w r e = held_at (model_in model) place n w r e

  -- The clauses, over what a walk answers and writes: place and path number n choose the path.
  module _ (place n : ℕ) (w : PathKind) (r : ℕ) (path : walk_path model place n ≡ Some (record { kind = w; number = r }))
      (v : ℕ) (there : v < (instance_in image).nodes)
      (fitting : ancestor_or_self (model_in model) (start_of (model_in model) w r) ((instance_in image).node_type v) ≡ true) where
    holds_it : Held (model_in model) w r
    holds_it = each-is_held place n w r path

    of_path : Demand (model_in model) (instance_in image) (segments_of (model_in model) (path_of (model_in model) w r)) (path_end (model_in model) w r) v
    of_path = every_path w r holds_it v there fitting

    -- The results and the slots of the call are those of the walk along the path's segments.
    pub results_are :
        walk_results model image place n v
        ≡ walked (model_in model) (instance_in image) (segments_of (model_in model) (path_of (model_in model) w r)) (start (instance_in image) v)
    unfolding walk_results
    results_are = rw path

    pub opened_are :
        walk_opened model image place n v
        ≡ opened (model_in model) (instance_in image) (segments_of (model_in model) (path_of (model_in model) w r)) (start (instance_in image) v)
    unfolding walk_opened
    opened_are = rw path

    -- (3b) The walk is not refused where the result buffer has room for an item for the start, each slot and each item: it answers the number of
    -- results and the number of slots that it opened. And it reaches its end: every segment is taken.
    pub not-refused : (buffer : List ℕ) → item_bytes * (1 + (instance_in image).slots + (instance_in image).items) ≤ length buffer →
        walk_answer model image place n v buffer ≡ accepted (length (walk_results model image place n v) ∷ length (walk_opened model image place n v) ∷ [])
    unfolding walk28 walk29
    not-refused buffer room =
        let m = model_in model in
        let i = instance_in image in
        let values = length (walk_results model image place n v) ∷ length (walk_opened model image place n v) ∷ [] in
        (walk_accepts model image place n v buffer values).1 (
          record {
            instance_passes = passes-all;
            kept27 = rw path;
            kept28 = rw (path, lt-ltb v i.nodes there, fitting);
            kept29 = le-ltb (length buffer) (item_bytes * (1 + i.slots + i.items)) room;
          },
          refl,
        )

    pub takes_every_segment :
        reaches_end (model_in model) (instance_in image) (segments_of (model_in model) (path_of (model_in model) w r)) (start (instance_in image) v) ≡ true
    takes_every_segment = of_path.to_its_end

    -- (3c) Each result is null, or lies at the path's declared type; one of structured type is a node of that type.
    pub results_lie : All (LiesAt (model_in model) (instance_in image) (path_end (model_in model) w r)) (walk_results model image place n v)
    results_lie = rw results_are of_path.each_result

    -- (3d) Each null among the results came in at a name of this path, at a slot that the name opened in a node which is among the items before it,
    -- whose property is nullable and which is null or holds a null item; or at a cast of this path, in the place of a node that is among the items
    -- before that cast and is not at its type.
    pub nulls_have_origin :
        All (NullHasOrigin (model_in model) (instance_in image) (segments_of (model_in model) (path_of (model_in model) w r)) v) (walk_results model image place n v)
    nulls_have_origin = rw results_are of_path.each-null

    -- (3e) A key path has exactly one result, and it is not null: it has a type and a handle.
    pub one_result : w ≡ Key → (type handle : ℕ) × (walk_results model image place n v ≡ value type handle ∷ [])
    one_result is_key =
        let m = model_in model in
        let i = instance_in image in
        let h = subst (λ (z : PathKind). Held m z r) is_key holds_it in
        let f = subst (λ (z : PathKind). ancestor_or_self m (start_of m z r) (i.node_type v) ≡ true) is_key fitting in
        let o = key_one r h v there f in
        let e = subst (λ (z : PathKind). walked m i (segments_of m (path_of m z r)) (start i v) ≡ value o.type o.handle ∷ []) (sym is_key) o.only in
        (o.type, o.handle, results_are ∙ e)

    -- (3f) No slot is opened twice.
    pub none-opened_twice : Distinct (walk_opened model image place n v)
    none-opened_twice = rw opened_are of_path.none_twice

    -- (3g) At most as many slots are opened as the instance has.
    pub opened-at-most : length (walk_opened model image place n v) ≤ (instance_in image).slots
    opened-at-most = rw opened_are of_path.at_most

    -- (3h) The results fit into the stated buffer.
    pub results-at-most : length (walk_results model image place n v) ≤ 1 + (instance_in image).slots + (instance_in image).items
    results-at-most = rw results_are of_path.results_fit

    pub results_fit_buffer : length (result_bytes model image place n v) ≤ item_bytes * (1 + (instance_in image).slots + (instance_in image).items)
    unfolding result_bytes
    results_fit_buffer = omega (arith, bytes-length (walk_results model image place n v), results-at-most)

-- Every walk that is not refused meets the premises of the clauses.
pub premises_of_walk : (model image : List ℕ) (place n v : ℕ) (buffer values : List ℕ) →
    walk_answer model image place n v buffer ≡ accepted values → Premises model image place n v buffer values
unfolding walk28 walk29
premises_of_walk model image place n v buffer values e =
    let a = (walk_accepts model image place n v buffer values).0 e in
    go a.0 a.1 (walk_path model place n) refl a.0.kept27 a.0.kept28
  where
    go : WalkPasses model image place n v buffer → values ≡ length (walk_results model image place n v) ∷ length (walk_opened model image place n v) ∷ [] →
        (c : Option Holder) → walk_path model place n ≡ c → walk27 c ≡ false → walk28 (model_in model) (instance_in image) (chosen_start (model_in model) c) v ≡ false →
        Premises model image place n v buffer values
    go p s None q x y = absurd (false≢true (sym x))
    go p s (Some h) q x y =
        let there = ltb v (instance_in image).nodes in
        let fits = ancestor_or_self (model_in model) (start_of (model_in model) h.kind h.number) ((instance_in image).node_type v) in
        let z = or_no (not there) (not fits) y in
        record {
          conforms = (instance_accepts model image).1 p.instance_passes;
          kind = h.kind;
          holder = h.number;
          path = q;
          there = ltb-true v (instance_in image).nodes (not-false there z.0);
          fitting = not-false fits z.1;
          room = ltb-false (length buffer) (item_bytes * (1 + (instance_in image).slots + (instance_in image).items)) p.kept29;
          reported = s;
        }
