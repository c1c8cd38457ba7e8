-- THE DEMANDS, over the calls as a caller sees them: the word w that a call returns, and the bytes before and after of the buffer that it was
-- lent. The contracts of the exported functions (crates/portal/src/lib.rt) say these promises beside the equations that they follow from;
-- proofs/Kept proves each clause from the theorem that the clause names: File.name stands in csdl/proofs, crate/File.name in the proofs of that crate.
--
-- A word is read by its halves: `upper w` is 0 for an acceptance, else the rule of a refusal, whose place is `lower w`; an accepted model is its
-- number of segments, an accepted instance 0, accepted members 0, an accepted walk `results_in w` and `opened_in w`, 16 bits each.
--
-- Demand 1, that every call ends on all inputs and touches only what it was lent, is the language's: a proved function ends, and reaches nothing
-- but its slices. That a refusal leaves every byte is said here (1a). Demand 2 is (2a) to (2f), demand 3 is (3a) to (3i).
use Rattle.std.specs.Prelude.{ℕ, ◌+◌, ◌*◌, ◌≤◌, ◌<◌, ◌≡◌, List, [], ◌∷◌, true, false, ◌↔◌, ◌⊎◌, length, drop, get_or, Some}
use Rattle.packed.specs.Bytes.{part}
use Rattle.csdl.specs.declared.Run.{Run}
use Rattle.csdl.specs.Model.{Model, in_run, places}
use Rattle.csdl.specs.Image.{model_in}
use Rattle.csdl.specs.Find.{ancestor_or_self}
use Rattle.csdl.specs.Path.{Segment, segments_of, resolves, path_of, start_of, path_steps, path_end}
use Rattle.csdl.specs.declared.PathKind.{PathKind}
use Rattle.csdl.specs.declared.PathKind.TheVariants.{Key}
use Rattle.csdl.specs.Path.Step.{nothing}
use Rattle.csdl.specs.Instance.{Instance, instance_in, instance_places, item_bytes}
use Rattle.csdl.specs.Verdict.{step_code, bytes_of}
use Rattle.csdl.specs.Walk.{Item, reaches_end, start, walked, opened, walk_path, bytes_of_item}
use Rattle.csdl.specs.Walk.Item.{null, value}
use Rattle.csdl.specs.Walk.Origin.{at_slot}
use Rattle.csdl.specs.Relations.{Ancestor}
use Rattle.csdl.specs.Accepted.{ModelPasses, InstancePasses, WalkPasses, IsNull, Lowest, check_stages, later_stages, conform_stages, walk_stages}
use Rattle.csdl.specs.Later.{later_image1}
use Rattle.csdl.specs.Members.{members_in, member_sizes, image_stages, member_stages, MembersPass}
use Rattle.soundness.specs.Lists.{All, Distinct}
use Rattle.soundness.specs.Demand.{Held, held_place, held_number, LiesAt, NullHasOrigin}
use Rattle.demands.specs.Word.{upper, lower, results_in, opened_in}

module _ (model : List ℕ) where
  -- The model in the image, and the path of a kind that its record r holds.
  abbrev m : Model
  m = model_in model

  abbrev path_in : PathKind → ℕ → Run
  path_in kind r = path_of m kind r

  -- tour_check_model, with the resolution buffer.
  pub record ModelPromise (before : List ℕ) (w : ℕ) (after : List ℕ) : Type 0 where
    -- (1a) A refusal leaves every byte; the buffer's length never changes. demands/Kept.model_kept
    pub refused-leaves : 1 ≤ upper w → after ≡ before
    pub same_length : length after ≡ length before
    -- (2a) It accepts exactly the images that break none of the rules 1 and 3 to 19 at any place, with room for two bytes a segment (rule 2).
    -- Verdicts.model_accepts
    pub accepts : (upper w ≡ 0) ↔ (ModelPasses model × (2 * m.segments ≤ length before))
    -- (2b) The word is then the number of segments. demands/Words.model_word
    pub says_segments : upper w ≡ 0 → (w ≡ m.segments) × (w ≤ 1024)
    -- (2c) A refusal is the lowest broken rule, one of 1 to 19, and the lowest place that breaks it. Verdicts.model_refuses, Bounds.model_refusal
    pub refuses : 1 ≤ upper w → (upper w ≤ 19) × Lowest (places m) (check_stages model before) (upper w) (lower w)
    -- (2d) Each segment is the k-th of a path that a record holds, and of no other path. Segments.its_path, Segments.only-path
    pub each_in_path : upper w ≡ 0 → (g : ℕ) → g < m.segments →
        (kind : PathKind) × (r k : ℕ) × Held m kind r × (k < (path_in kind r).count) × (g ≡ (path_in kind r).first + k)
    pub in_one-path : upper w ≡ 0 → (g : ℕ) → g < m.segments → (kind : PathKind) (r : ℕ) → Held m kind r → in_run (path_in kind r) g ≡ true →
        (other : PathKind) (s : ℕ) → Held m other s → in_run (path_in other s) g ≡ true → (other ≡ kind) × (s ≡ r)
    -- (2e) Each path that a record holds resolves, and its k-th segment's two bytes are its k-th step: a property's number, or 32768 and the type
    -- of a cast, high byte first. soundness/PathRules.resolved, Segments.its_step, Segments.step_in_path
    pub resolved : upper w ≡ 0 → (kind : PathKind) (r : ℕ) → Held m kind r → resolves m (start_of m kind r) (segments_of m (path_in kind r)) ≡ true
    pub two_bytes : upper w ≡ 0 → (kind : PathKind) (r : ℕ) → Held m kind r → (k : ℕ) → k < (path_in kind r).count →
        part after (2 * ((path_in kind r).first + k)) 2 ≡ bytes_of (step_code (get_or (path_steps m kind r) k nothing))
    -- (2f) The bytes after those stay. demands/Kept.model_kept
    pub rest-stays : upper w ≡ 0 → drop (2 * m.segments) after ≡ drop (2 * m.segments) before
    -- (3a) No type of an accepted model is its own ancestor. soundness/Demands.no_own-ancestor
    pub no_own-ancestor : upper w ≡ 0 → (t : ℕ) → t < m.types → Ancestor m t t → ⊥

  module _ (image : List ℕ) where
    -- The instance in the image; a node at which the path of a kind that record r holds may start.
    abbrev i : Instance
    i = instance_in image

    abbrev MayStart : PathKind → ℕ → ℕ → Type 0
    MayStart kind r v = (v < i.nodes) × (ancestor_or_self m (start_of m kind r) (i.node_type v) ≡ true)

    -- tour_check_instance.
    pub record InstancePromise (w : ℕ) : Type 0 where
      -- (2a) It accepts exactly where no rule 1 or 3 to 19 is broken at any place of the model and none of 20 to 26 at any of the instance; the word
      -- is then 0. Verdicts.instance_accepts, demands/Words.instance_word
      pub accepts : (upper w ≡ 0) ↔ InstancePasses model image
      pub says_zero : upper w ≡ 0 → w ≡ 0
      -- (2c) A refusal is the lowest broken rule, one of 1 to 26, and the lowest place that breaks it: in the model's image up to 19, else in the
      -- instance's. Verdicts.instance_refuses, Bounds.instance_refusal
      pub refuses : 1 ≤ upper w → (upper w ≤ 26)
          × (Lowest (places m) (later_stages model) (upper w) (lower w) ⊎ (ModelPasses model × Lowest (instance_places i) (conform_stages model image) (upper w) (lower w)))
      -- (3a) No type of the model is its own ancestor. soundness/Demands.no_own-ancestor
      pub no_own-ancestor : upper w ≡ 0 → (t : ℕ) → t < m.types → Ancestor m t t → ⊥

    -- tour_check_members, where the image holds the members of the model's enumerations.
    pub record MembersPromise (w : ℕ) : Type 0 where
      -- (2a) It accepts exactly where no rule 1 or 3 to 19 is broken at any place of the model, the image keeps rule 30 as a whole and none of 30 and 31 is
      -- broken at any member; the word is then 0. Members.members_accepts, demands/Words.members_word
      pub accepts : (upper w ≡ 0) ↔ MembersPass model image
      pub says_zero : upper w ≡ 0 → w ≡ 0
      -- (2c) A refusal is the lowest broken rule, one of 1 to 31, and the lowest place that breaks it: in the model's image up to 19; else 30 of the whole
      -- image, at place 0; else the member's number. Members.members_refuses, Bounds.members_refusal
      pub refuses : 1 ≤ upper w → (upper w ≤ 31) × (Lowest (places m) (later_stages model) (upper w) (lower w)
          ⊎ (ModelPasses model × (Lowest 0 (image_stages image) (upper w) (lower w)
          ⊎ ((later_image1 member_sizes image ≡ false)
          × Lowest (members_in image).count (member_stages m (members_in image)) (upper w) (lower w)))))
      -- (3a) No type of the model is its own ancestor. soundness/Demands.no_own-ancestor
      pub no_own-ancestor : upper w ≡ 0 → (t : ℕ) → t < m.types → Ancestor m t t → ⊥

    -- A walk that is not refused, from node v along the path of a kind that record r holds.
    module _ (kind : PathKind) (r v : ℕ) where
      abbrev path : List Segment
      path = segments_of m (path_in kind r)

      -- What the walk defined in crates/csdl/specs/Walk gives, and the slots that it opens.
      abbrev results : List Item
      results = walked m i path (start i v)

      abbrev slots : List ℕ
      slots = opened m i path (start i v)

      pub record PathPromise (w : ℕ) (after : List ℕ) : Type 0 where
        -- (3b) It ran to its end: every segment was taken. soundness/Demands.every_path
        pub to_its_end : reaches_end m i path (start i v) ≡ true
        -- (3c) Each result is null, or lies at the path's declared type or one derived from it; one of structured type is a node of its type.
        -- soundness/Demands.every_path
        pub each_result : All (LiesAt m i (path_end m kind r)) results
        -- (3d) Each null came in at a name of the path, at a slot that it opened in a node which the walk has before that name, nullable, which is
        -- null or holds a null item; or at a cast of the path, in the place of a node that the walk has before that cast and that is not at its type.
        -- soundness/Demands.every_path
        pub each-null : All (NullHasOrigin m i path v) results
        -- (3e) A key path has exactly one result, and it is not null. soundness/Demands.one_result
        pub key_one : kind ≡ Key → (results_in w ≡ 1) × ((ref handle : ℕ) × (results ≡ value ref handle ∷ []))
        -- (3f) No slot was opened twice. soundness/Demands.every_path
        pub none_twice : Distinct slots
        -- (3g) The two numbers are the results and the slots opened, at most as many as the instance has. demands/Words.walk_word,
        -- soundness/Demands.every_path
        pub says_results : results_in w ≡ length results
        pub says_opened : opened_in w ≡ length slots
        pub opened-most : opened_in w ≤ i.slots
        -- (3h) The results fit into the stated buffer, and stand there as items; 255 with handle 0 stands for null only.
        -- soundness/Demands.every_path, demands/Blocks.block_at, soundness/Plain.null-bytes
        pub results-most : results_in w ≤ 1 + i.slots + i.items
        pub item-bytes : (k : ℕ) → k < results_in w → part after (item_bytes * k) item_bytes ≡ bytes_of_item (get_or results k (null (at_slot 0)))
        pub null-bytes : (k : ℕ) → k < results_in w → part after (item_bytes * k) item_bytes ≡ 255 ∷ 0 ∷ 0 ∷ 0 ∷ [] → IsNull (get_or results k (null (at_slot 0)))

    -- tour_walk: the place, the path's number n, the start node v, with the result buffer.
    pub record WalkPromise (place n v : ℕ) (before : List ℕ) (w : ℕ) (after : List ℕ) : Type 0 where
      -- (1a) A refusal leaves every byte; the buffer's length never changes. demands/Kept.walk_kept
      pub refused-leaves : 1 ≤ upper w → after ≡ before
      pub same_length : length after ≡ length before
      -- (2a), (2c) It accepts exactly where none of the rules 1 and 3 to 29 is broken; else it names the lowest, one of 1 to 29, and its lowest place,
      -- 0 from 27 on. Verdicts.walk_accepts, Verdicts.walk_refuses, Bounds.walk_refusal
      pub accepts : (upper w ≡ 0) ↔ WalkPasses model image place n v before
      pub refuses : 1 ≤ upper w → (upper w ≤ 29) × (Lowest (places m) (later_stages model) (upper w) (lower w)
          ⊎ (ModelPasses model × (Lowest (instance_places i) (conform_stages model image) (upper w) (lower w)
          ⊎ (InstancePasses model image × Lowest 0 (walk_stages model image place n v before) (upper w) (lower w)))))
      -- (3b) to (3h) With an accepted instance, every path that a record holds, asked for by its place and number, from a node at which it may start,
      -- into a buffer with room for an item for the start, each slot and each item, is walked. soundness/Demands.not-refused,
      -- soundness/Demands.each_has_place
      pub every_path : InstancePasses model image → (kind : PathKind) (r : ℕ) → Held m kind r → place ≡ held_place m kind r → n ≡ held_number kind →
          MayStart kind r v → item_bytes * (1 + i.slots + i.items) ≤ length before → (upper w ≡ 0) × PathPromise kind r v w after
      -- (3i) Every walk that is not refused is such a walk. soundness/Demands.premises_of_walk, soundness/Demands.each-is_held
      pub walks_a_path : upper w ≡ 0 → (kind : PathKind) × (r : ℕ) × (walk_path model place n ≡ Some (record { kind = kind; number = r })) × Held m kind r × MayStart kind r v
          × PathPromise kind r v w after
      -- (3h) The bytes after the results stay. demands/Kept.walk_kept
      pub rest-stays : upper w ≡ 0 → drop (item_bytes * results_in w) after ≡ drop (item_bytes * results_in w) before
