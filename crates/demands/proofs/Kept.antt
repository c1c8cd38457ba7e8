-- The calls keep their promises: each clause from its theorem.
use Prim.Native.Nat.{ℕ, ◌+◌, ◌-◌, ◌*◌, ◌≤◌, ◌<◌}
use mathlib.Core.Path.{◌≡◌, refl, sym, ap, ◌∙◌}
use mathlib.Core.List.{List, [], ◌∷◌, ◌++◌}
use mathlib.Core.Bool.{Bool, true, false}
use native.Mathlib.Omega.{arith}
use lib.ListN.{length, drop, get_or, length-append, length-drop}
use lib.Seq.{drop_at}
use lib.Dec.{eqb}
use borrow.Author.Tests.{eq-eqb, ne_eqb, eqb-true, eqb-false, ltb-false, le-ltb}
use Rattle.packed.specs.Bytes.{part}
use Rattle.std.proofs.Common.{Some}
use Rattle.csdl.specs.Search.{tab}
use Rattle.csdl.specs.Model.{Model, present}
use Rattle.csdl.specs.Image.{model_in, header, buffer2}
use Rattle.csdl.specs.Find.{ancestor_or_self}
use Rattle.csdl.specs.Path.{Step, segments_of, path_of, start_of, path_steps, step_of_segment}
use Rattle.csdl.specs.declared.PathKind.{PathKind}
use Rattle.csdl.specs.Path.Step.{nothing}
use Rattle.csdl.specs.Paths.{rule13}
use Rattle.csdl.specs.Instance.{instance_in, item_bytes}
use Rattle.csdl.specs.Verdict.{step_code, bytes_of, resolution, model_answer, model_buffer}
use Rattle.csdl.specs.Verdict.Answer.{accepted, refused}
use Rattle.csdl.specs.Conforms.{instance_answer}
use Rattle.csdl.specs.Walk.{Item, walked, start, walk_path, walk28, walk29, walk_results, walk_opened, walk_answer, walk_buffer, result_bytes, bytes_of_item}
use Rattle.csdl.specs.Members.{members_answer}
use Rattle.csdl.specs.Walk.Item.{null}
use Rattle.csdl.specs.Walk.Origin.{at_slot}
use Rattle.csdl.specs.Accepted.{ModelPasses, WalkPasses}
use Rattle.csdl.proofs.Logic.{run_in, in_run_lem, tab-length, tab-at}
use Rattle.csdl.proofs.Places.{of_segment}
use Rattle.csdl.proofs.Verdicts.{model_accepts, model_refuses, instance_accepts, instance_refuses, walk_accepts, walk_refuses}
use Rattle.csdl.proofs.Members.{members_accepts, members_refuses}
use Rattle.csdl.proofs.Bounds.{model_refusal, instance_refusal, walk_refusal, members_refusal, segments-most, instance_most}
use Rattle.csdl.proofs.Segments.{step_in_path, its_step, its_path, only-path}
use Rattle.soundness.specs.Lists.{All}
use Rattle.soundness.specs.Demand.{Held}
use Rattle.soundness.specs.Premises.{Premises}
use Rattle.soundness.proofs.PathRules.{held_chosen, resolved, within}
use Rattle.soundness.proofs.Lists.{all_get_d}
use Rattle.soundness.proofs.Counts.{item-length, bytes-length}
use Rattle.soundness.proofs.Plain.{Plain, results_plain, null-bytes}
use Rattle.soundness.proofs.Demands.{no_own-ancestor, every_path, each-is_held, results_are, opened_are, not-refused, one_result, results-at-most, premises_of_walk}
use Rattle.demands.specs.Word.{word, upper, lower, results_in, opened_in, answer_in, model_is_in, instance_is_in, members_are_in, walk_is_in}
use Rattle.demands.specs.Demands.{ModelPromise, InstancePromise, MembersPromise, PathPromise, WalkPromise}
use Rattle.demands.proofs.Words.{model_word, instance_word, members_word, few, walk_word}
use Rattle.demands.proofs.Blocks.{blocks_length, block_at}

-- What a word says of an answer.
none_in : (values : List ℕ) (w : ℕ) → upper w ≡ 0 → answer_in values w ≡ accepted values
none_in values w h = rw (eq-eqb (upper w) 0 h)

some_in : (values : List ℕ) (w : ℕ) → 1 ≤ upper w → answer_in values w ≡ refused (upper w) (lower w)
some_in values w h = rw (ne_eqb (upper w) 0 (λ e. omega arith))

-- The two cases of a word.
by_word : {P : Type 0} (w : ℕ) → (upper w ≡ 0 → P) → (1 ≤ upper w → P) → P
by_word {P} w f g = go (eqb (upper w) 0) refl
  where
    go : (b : Bool) → eqb (upper w) 0 ≡ b → P
    go true e = f (eqb-true (upper w) 0 e)
    go false e = let d : upper w ≡ 0 → ⊥ = eqb-false (upper w) 0 e in g (omega arith)

-- The check of a model.
module _ (image before : List ℕ) where
  abbrev m : Model
  m = model_in image

  abbrev w : ℕ
  w = word (model_answer image before)

  accepted_in : upper w ≡ 0 → model_answer image before ≡ accepted (lower w ∷ [])
  unfolding model_is_in
  accepted_in h = sym (model_word image before) ∙ none_in (lower w ∷ []) w h

  refused_in : 1 ≤ upper w → model_answer image before ≡ refused (upper w) (lower w)
  unfolding model_is_in
  refused_in h = sym (model_word image before) ∙ some_in (lower w ∷ []) w h

  passes_in : upper w ≡ 0 → ModelPasses image × (2 * m.segments ≤ length before)
  unfolding buffer2
  passes_in h =
      let p = (model_accepts image before (lower w ∷ [])).0 (accepted_in h) in
      let s = segments-most image p.0.kept1 in
      let r = ltb-false (length before) (2 * header image 8) p.1 in
      (p.0, omega arith)

  accepts_in : ModelPasses image × (2 * m.segments ≤ length before) → upper w ≡ 0
  unfolding word buffer2
  accepts_in p =
      let s = segments-most image p.0.kept1 in
      let r : buffer2 image before ≡ false = le-ltb (length before) (2 * header image 8) (omega arith) in
      let e = (model_accepts image before (m.segments ∷ [])).1 (p.0, r, refl) in
      let z : w ≡ m.segments = rw e in
      omega arith

  says : upper w ≡ 0 → (w ≡ m.segments) × (w ≤ 1024)
  unfolding word
  says h =
      let p = (model_accepts image before (lower w ∷ [])).0 (accepted_in h) in
      let s = segments-most image p.0.kept1 in
      let e = (model_accepts image before (m.segments ∷ [])).1 (p.0, p.1, refl) in
      let z : w ≡ m.segments = rw e in
      (z, omega arith)

  -- What an acceptance writes: a block of two bytes for each segment.
  abbrev code_bytes : ℕ → List ℕ
  code_bytes g = bytes_of (step_code (step_of_segment m g))

  written_in : upper w ≡ 0 → model_buffer image before ≡ resolution m ++ drop (2 * m.segments) before
  unfolding model_buffer
  written_in h = rw (accepted_in h)

  resolution-length : length (resolution m) ≡ 2 * m.segments
  unfolding resolution
  resolution-length = blocks_length code_bytes 2 (λ g. refl) (tab (λ g. g) 0 m.segments) ∙ ap (λ (k : ℕ). 2 * k) (tab-length (λ (g : ℕ). g) 0 m.segments)

  pub model_kept : ModelPromise image before w (model_buffer image before)
  unfolding model_buffer resolution
  model_kept =
      record {
        refused-leaves = λ h. rw (refused_in h);
        same_length =
            by_word w
            (λ h. let p = passes_in h in rw (written_in h, length-append, resolution-length, length-drop) (omega (arith, p.1)))
            (λ h. rw (refused_in h));
        accepts = (passes_in, accepts_in);
        says_segments = says;
        refuses = λ h. ((model_refusal image before (upper w) (lower w) (refused_in h)).1, (model_refuses image before (upper w) (lower w)).0 (refused_in h));
        each_in_path = λ h g l. in_path (passes_in h).0 g l;
        in_one-path = λ h g l kind r a e other s b f.
            only-path m g (of_segment m rule13 (passes_in h).0.model_kept.kept13 g l) kind r a.holder-there e other s b.holder-there f;
        resolved = λ h. resolved m (passes_in h).0.model_kept;
        two_bytes = λ h kind r held k l. two h (passes_in h).0 kind r held k l;
        rest-stays = λ h. rw (written_in h) (drop_at (resolution m) (drop (2 * m.segments) before) (2 * m.segments) resolution-length);
        no_own-ancestor = λ h. no_own-ancestor image (passes_in h).0;
      }
    where
      in_path : ModelPasses image → (g : ℕ) → g < m.segments →
          (kind : PathKind) × (r k : ℕ) × Held m kind r × (k < (path_of m kind r).count) × (g ≡ (path_of m kind r).first + k)
      in_path p g l =
          let s = its_path m g (of_segment m rule13 p.model_kept.kept13 g l) in
          let run = path_of m s.0 s.1 in
          let b = run_in run g s.3 in
          let n : present run ≡ true = rw (ne_eqb run.count 0 (λ e. omega arith)) in
          (s.0, s.1, g - run.first, record { holder-there = s.2; path-there = n }, omega arith, omega arith)

      two : upper w ≡ 0 → ModelPasses image → (kind : PathKind) (r : ℕ) → Held m kind r → (k : ℕ) → k < (path_of m kind r).count →
          part (model_buffer image before) (2 * ((path_of m kind r).first + k)) 2 ≡ bytes_of (step_code (get_or (path_steps m kind r) k nothing))
      two h p kind r held k l =
          let run = path_of m kind r in
          let g = run.first + k in
          let f : g < m.segments = omega (arith, within m p.model_kept kind r held) in
          let n = m.segments in
          let once = of_segment m rule13 p.model_kept.kept13 g f in
          let e = its_step m g once kind r held.holder-there (in_run_lem run g (omega arith) (omega arith)) ∙ step_in_path m kind r k l in
          let b = block_at code_bytes 2 (λ x. refl) 0 (tab (λ x. x) 0 n) (drop (2 * n) before) g (omega (arith, tab-length (λ (x : ℕ). x) 0 n)) in
          rw (written_in h) (b ∙ ap code_bytes (tab-at (λ (x : ℕ). x) 0 n g f) ∙ ap (λ (x : Step). bytes_of (step_code x)) e)

-- The check of an instance.
module _ (model image : List ℕ) where
  abbrev wi : ℕ
  wi = word (instance_answer model image)

  conforms_in : upper wi ≡ 0 → instance_answer model image ≡ accepted []
  unfolding instance_is_in
  conforms_in h = sym (instance_word model image) ∙ none_in [] wi h

  fails_in : 1 ≤ upper wi → instance_answer model image ≡ refused (upper wi) (lower wi)
  unfolding instance_is_in
  fails_in h = sym (instance_word model image) ∙ some_in [] wi h

  pub instance_kept : InstancePromise model image wi
  unfolding word
  instance_kept =
      record {
        accepts = (λ h. (instance_accepts model image).0 (conforms_in h), λ p. rw ((instance_accepts model image).1 p));
        says_zero = λ h. rw (conforms_in h);
        refuses = λ h.
            ((instance_refusal model image (upper wi) (lower wi) (fails_in h)).1, (instance_refuses model image (upper wi) (lower wi)).0 (fails_in h));
        no_own-ancestor = λ h. no_own-ancestor model ((instance_accepts model image).0 (conforms_in h)).model_passes;
      }

-- The check of members.
module _ (model image : List ℕ) where
  abbrev we : ℕ
  we = word (members_answer model image)

  members_in_lem : upper we ≡ 0 → members_answer model image ≡ accepted []
  unfolding members_are_in
  members_in_lem h = sym (members_word model image) ∙ none_in [] we h

  members_fail : 1 ≤ upper we → members_answer model image ≡ refused (upper we) (lower we)
  unfolding members_are_in
  members_fail h = sym (members_word model image) ∙ some_in [] we h

  pub members_kept : MembersPromise model image we
  unfolding word
  members_kept =
      record {
        accepts = (λ h. ((members_accepts model image []).0 (members_in_lem h)).0, λ p. rw ((members_accepts model image []).1 (p, refl)));
        says_zero = λ h. rw (members_in_lem h);
        refuses = λ h.
            ((members_refusal model image (upper we) (lower we) (members_fail h)).1, (members_refuses model image (upper we) (lower we)).0 (members_fail h));
        no_own-ancestor = λ h. no_own-ancestor model ((members_accepts model image []).0 (members_in_lem h)).0.model_passes;
      }

-- The walk.
module _ (model image : List ℕ) (place n v : ℕ) (before : List ℕ) where
  abbrev ww : ℕ
  ww = word (walk_answer model image place n v before)

  abbrev results : List Item
  results = walk_results model image place n v

  abbrev slots : List ℕ
  slots = walk_opened model image place n v

  walked_in : upper ww ≡ 0 → walk_answer model image place n v before ≡ accepted (results_in ww ∷ opened_in ww ∷ [])
  unfolding walk_is_in
  walked_in h = sym (walk_word model image place n v before) ∙ none_in (results_in ww ∷ opened_in ww ∷ []) ww h

  stopped_in : 1 ≤ upper ww → walk_answer model image place n v before ≡ refused (upper ww) (lower ww)
  unfolding walk_is_in
  stopped_in h = sym (walk_word model image place n v before) ∙ some_in (results_in ww ∷ opened_in ww ∷ []) ww h

  premises_in : upper ww ≡ 0 → Premises model image place n v before (results_in ww ∷ opened_in ww ∷ [])
  premises_in h = premises_of_walk model image place n v before (results_in ww ∷ opened_in ww ∷ []) (walked_in h)

  says_two : upper ww ≡ 0 → (results_in ww ≡ length results) × (opened_in ww ≡ length slots)
  says_two h = let e = (premises_in h).reported in (cc, cc)

  walk_back : WalkPasses model image place n v before → upper ww ≡ 0
  unfolding word
  walk_back p =
      let e = (walk_accepts model image place n v before (length results ∷ length slots ∷ [])).1 (p, refl) in
      let f = few model image place n v before (length results ∷ length slots ∷ []) e in
      let z : ww ≡ length results * 65536 + length slots = rw e in
      omega (arith, f.results, f.opened)

  result_bytes_lem : upper ww ≡ 0 → walk_buffer model image place n v before ≡ result_bytes model image place n v ++ drop (length (result_bytes model image place n v)) before
  unfolding walk_buffer
  result_bytes_lem h = rw (walked_in h)

  each-length : length (result_bytes model image place n v) ≡ item_bytes * length results
  unfolding result_bytes
  each-length = bytes-length results

  rest_in : upper ww ≡ 0 → length (result_bytes model image place n v) ≡ item_bytes * results_in ww
  rest_in h = omega (arith, each-length, (says_two h).0)

  -- The walk along the path of a kind that record r holds.
  module _ (conforms : instance_answer model image ≡ accepted []) (kind : PathKind) (r : ℕ) (path : walk_path model place n ≡ Some (record { kind = kind; number = r }))
      (there : v < (instance_in image).nodes) (fitting : ancestor_or_self (model_in model) (start_of (model_in model) kind r) ((instance_in image).node_type v) ≡ true) where
    abbrev along : List Item
    along = walked (model_in model) (instance_in image) (segments_of (model_in model) (path_of (model_in model) kind r)) (start (instance_in image) v)

    along_are : results ≡ along
    along_are = results_are model image conforms place n kind r path v there fitting

    path-kept : upper ww ≡ 0 → PathPromise model image kind r v ww (walk_buffer model image place n v before)
    unfolding result_bytes Plain
    path-kept h =
        let d = every_path model image conforms kind r (each-is_held model image conforms place n kind r path) v there fitting in
        let s = (says_two h).0 ∙ ap length along_are in
        let o = (says_two h).1 ∙ ap length (opened_are model image conforms place n kind r path v there fitting) in
        record {
          to_its_end = d.to_its_end;
          each_result = d.each_result;
          each-null = d.each-null;
          key_one = λ e.
              let z = one_result model image conforms place n kind r path v there fitting e in
              let y = sym along_are ∙ z.2 in
              (s ∙ ap length y, (z.0, z.1, y));
          none_twice = d.none_twice;
          says_results = s;
          says_opened = o;
          opened-most = rw o d.at_most;
          results-most = rw s d.results_fit;
          item-bytes = item;
          null-bytes = λ k l e. null-bytes (get_or along k (null (at_slot 0))) (plain k) (sym (item k l) ∙ e);
        }
      where
        item : (k : ℕ) → k < results_in ww → part (walk_buffer model image place n v before) (item_bytes * k) item_bytes ≡ bytes_of_item (get_or along k (null (at_slot 0)))
        item k l =
            rw (result_bytes_lem h) (block_at (λ x. bytes_of_item x) item_bytes item-length (null (at_slot 0)) results _ k (omega (arith, (says_two h).0)))
            ∙ ap (λ (l : List Item). bytes_of_item (get_or l k (null (at_slot 0)))) along_are

        plain : (k : ℕ) → Plain (get_or along k (null (at_slot 0)))
        plain k =
            let b = instance_most image ((instance_accepts model image).0 conforms).kept20 in
            let gs = segments_of (model_in model) (path_of (model_in model) kind r) in
            let a : All Plain along = results_plain (model_in model) image gs v (omega (arith, there, b.0)) in
            all_get_d (null (at_slot 0)) tt a k

  pub walk_kept : WalkPromise model image place n v before ww (walk_buffer model image place n v before)
  unfolding walk_buffer walk28 walk29
  walk_kept =
      record {
        refused-leaves = λ h. rw (stopped_in h);
        same_length = by_word ww same (λ h. rw (stopped_in h));
        accepts = (λ h. ((walk_accepts model image place n v before (results_in ww ∷ opened_in ww ∷ [])).0 (walked_in h)).0, walk_back);
        refuses = λ h. (
          (walk_refusal model image place n v before (upper ww) (lower ww) (stopped_in h)).1,
          (walk_refuses model image place n v before (upper ww) (lower ww)).0 (stopped_in h),
        );
        every_path = λ p kind r h e f g room.
            let c : walk_path model place n ≡ Some (record { kind = kind; number = r }) = rw (e, f) (held_chosen (model_in model) kind r h) in
            let q = (instance_accepts model image).1 p in
            let o = not-refused model image q place n kind r c v g.0 g.1 before room in
            let z = walk_back ((walk_accepts model image place n v before _).0 o).0 in
            (z, path-kept q kind r c g.0 g.1 z);
        walks_a_path = λ h.
            let p = premises_in h in (
              p.kind,
              p.holder,
              p.path,
              each-is_held model image p.conforms place n p.kind p.holder p.path,
              (p.there, p.fitting),
              path-kept p.conforms p.kind p.holder p.path p.there p.fitting h,
            );
        rest-stays = λ h. rw (result_bytes_lem h) (drop_at (result_bytes model image place n v) _ (item_bytes * results_in ww) (rest_in h) ∙ rw (rest_in h));
      }
    where
      same : upper ww ≡ 0 → length (walk_buffer model image place n v before) ≡ length before
      same h =
          let p = premises_in h in
          let b = results-at-most model image p.conforms place n p.kind p.holder p.path v p.there p.fitting in
          rw (result_bytes_lem h, length-append, length-drop) (omega (arith, each-length, b, p.room))

-- What a contract says: the equations of the word and of the bytes, and with them the promise.
pub model_owed : (image before : List ℕ) {x : ℕ} {after : List ℕ} → x ≡ word (model_answer image before) → after ≡ model_buffer image before →
    (x ≡ word (model_answer image before)) × ((after ≡ model_buffer image before) × ModelPromise image before x after)
model_owed image before e f = (e, (f, rw (e, f) (model_kept image before)))

pub instance_owed : (model image : List ℕ) {x : ℕ} → x ≡ word (instance_answer model image) →
    (x ≡ word (instance_answer model image)) × InstancePromise model image x
instance_owed model image e = (e, rw e (instance_kept model image))

pub members_owed : (model image : List ℕ) {x : ℕ} → x ≡ word (members_answer model image) →
    (x ≡ word (members_answer model image)) × MembersPromise model image x
members_owed model image e = (e, rw e (members_kept model image))

pub walk_owed : (model image : List ℕ) (place n v : ℕ) (before : List ℕ) {x : ℕ} {after : List ℕ} →
    x ≡ word (walk_answer model image place n v before) → after ≡ walk_buffer model image place n v before →
    (x ≡ word (walk_answer model image place n v before)) × ((after ≡ walk_buffer model image place n v before)
    × ((upper x ≡ 0 → opened_in x ≤ (instance_in image).slots) × WalkPromise model image place n v before x after))
walk_owed model image place n v before e f =
    let p = walk_kept model image place n v before in
    (e, (f, rw (e, f) (few p, p)))
  where
    few : WalkPromise model image place n v before (word (walk_answer model image place n v before)) (walk_buffer model image place n v before) →
        upper (word (walk_answer model image place n v before)) ≡ 0 → opened_in (word (walk_answer model image place n v before)) ≤ (instance_in image).slots
    few p h = (p.walks_a_path h).5.opened-most
