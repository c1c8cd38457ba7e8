-- A path resolved so far, and one segment more. Assumes nothing.
use Prim.Native.Nat.{ℕ, ◌+◌, ◌-◌, ◌≤◌, ◌<◌, zero-le}
use mathlib.Core.Path.{◌≡◌, refl, sym, ◌∙◌}
use mathlib.Core.List.{List}
use mathlib.Core.Bool.{Bool, true, false, cond, ◌&&◌, and-true, and-false}
use native.Mathlib.Nat.{not-suc-le-zero}
use native.Mathlib.Numerals.{add-one}
use native.Mathlib.Omega.{arith}
use lib.Dec.{eqb, ltb, leb}
use lib.ListN.{get_or, set, length-set, replicate, length-replicate, get_or-replicate}
use lib.Seq.{get_or-set_same, get_or-set_other}
use borrow.Author.Tests.{le-leb, lt-leb, lt-ltb, le-ltb, eqb-true, eqb-false}
use borrow.Author.Count.{below_more}
use Rattle.csdl.proofs.Logic.{below_or_not}
use Rattle.csdl.specs.Search.{tab}
use Rattle.csdl.specs.Model.{Model}
use Rattle.csdl.specs.Path.{segment_at, step_at, moves_to, resolves_at, resolves, end_of, along_all, along_end}
use Rattle.csdl.specs.Verdict.{step_code}
use Rattle.path_resolution.specs.Resolution.{ResolvedTo, prefix, step_no, code_at, codes_to, resolved_count}
use Rattle.name_classes.proofs.Counting.{count-front}
use Rattle.type_hierarchy.proofs.Tables.{is-tab}
use Rattle.path_resolution.proofs.Laws.{end_more, all_more}

most-next : (b : Bool) (taken k : ℕ) → taken ≤ k → cond b (k + 1) taken ≤ k + 1
most-next true taken k h = omega arith
most-next false taken k h = omega arith

-- the segments before number k resolve as far as before
reach_old : (j k taken : ℕ) (ok : Bool) → j ≤ k → leb j taken ≡ leb j (cond (ok && eqb taken k) (k + 1) taken)
reach_old j k taken false h = refl
reach_old j k taken true h = go (eqb taken k) refl
  where
    go : (q : Bool) → eqb taken k ≡ q → leb j taken ≡ leb j (cond q (k + 1) taken)
    go false e = refl
    go true e =
        let z : taken ≡ k = eqb-true taken k e in
        le-leb j taken (omega arith) ∙ sym (le-leb j (k + 1) (omega arith))

-- and segment k resolves if it does and they do
reach_new : (k taken : ℕ) (ok : Bool) → taken ≤ k → (leb k taken && ok) ≡ leb (k + 1) (cond (ok && eqb taken k) (k + 1) taken)
reach_new k taken false h = rw (and-false, lt-leb (k + 1) taken (omega arith))
reach_new k taken true h = rw and-true (go (eqb taken k) refl)
  where
    go : (q : Bool) → eqb taken k ≡ q → leb k taken ≡ leb (k + 1) (cond q (k + 1) taken)
    go false e =
        let n : taken ≡ k → ⊥ = eqb-false taken k e in
        lt-leb k taken (omega (arith, n)) ∙ sym (lt-leb (k + 1) taken (omega arith))
    go true e =
        let z : taken ≡ k = eqb-true taken k e in
        le-leb k taken (omega arith) ∙ sym (le-leb (k + 1) (k + 1) (omega arith))

module _ (m : Model) (start first : ℕ) where
  resolved_start : ResolvedTo m start first 0 (replicate 16 0) 0 start
  unfolding tab along_all along_end
  resolved_start =
      record {
        size = length-replicate {A = ℕ} 16 0;
        code = λ k h. absurd (not-suc-le-zero h);
        rest = λ k h l. get_or-replicate {A = ℕ} 16 k 0 0 l;
        most = omega arith;
        reach = λ k h. let z : k ≡ 0 = omega arith in rw z;
        goal = refl;
      }

  module _ (codes : List ℕ) (taken t k : ℕ) (old : ResolvedTo m start first k codes taken t) where
    reach-next : (ok : Bool) → ok ≡ resolves_at m t (segment_at m (first + k)) → (j : ℕ) → j < k + 1 + 1
        → resolves m start (prefix m first j) ≡ leb j (cond (ok && eqb taken k) (k + 1) taken)
    reach-next ok e =
        below_more (λ j. resolves m start (prefix m first j) ≡ leb j (cond (ok && eqb taken k) (k + 1) taken)) (k + 1)
        (λ j h. old.reach j (omega arith) ∙ reach_old j k taken ok (omega arith))
        (rw (add-one k, all_more (λ u g. moves_to m u g) (λ g. segment_at m g) (λ u g. resolves_at m u g) start first k, old.reach k (omega arith), ← old.goal, ← e, ← add-one k)
        (reach_new k taken ok old.most))

    resolved-next : {ok : Bool} {code to : ℕ} → k < 16 → ok ≡ resolves_at m t (segment_at m (first + k)) → code ≡ step_code (step_at m t (segment_at m (first + k)))
        → to ≡ moves_to m t (segment_at m (first + k)) → ResolvedTo m start first (k + 1) (set codes k code) (cond (ok && eqb taken k) (k + 1) taken) to
    unfolding code_at step_no
    resolved-next {ok} {code} {to} h e f g =
        record {
          size = rw length-set old.size;
          code =
              below_more (λ j. get_or (set codes k code) j 0 ≡ code_at m start first j) k
              (λ j lt. get_or-set_other codes k j code 0 (λ q. let z : j ≡ k = q in omega arith) ∙ old.code j lt)
              (get_or-set_same codes k code 0 (omega (arith, old.size)) ∙ rw (← old.goal) f);
          rest = λ j a b. get_or-set_other codes k j code 0 (λ q. let z : j ≡ k = q in omega arith) ∙ old.rest j (omega arith) b;
          most = most-next (ok && eqb taken k) taken k old.most;
          reach = λ j le. reach-next ok e j (omega arith);
          goal = rw (add-one k, end_more (λ u x. moves_to m u x) (λ x. segment_at m x) start first k, ← old.goal) g;
        }

  -- What the path resolves to, all of it.
  module _ (count : ℕ) (codes : List ℕ) (taken end : ℕ) (t : ResolvedTo m start first count codes taken end) (few : count ≤ 16) where
    codes_are : codes ≡ codes_to m start first count
    unfolding codes_to
    codes_are =
        is-tab (λ k. cond (ltb k count) (code_at m start first k) 0) 16 codes t.size
        (λ k h. below_or_not k count (λ l. rw (lt-ltb k count l) (t.code k l)) (λ l. rw (le-ltb k count l) (t.rest k l h)))

    taken_is : taken ≡ resolved_count m start first count
    unfolding resolved_count
    taken_is =
        sym (count-front (λ k. resolves m start (prefix m first (k + 1))) count taken t.most
        (λ k h. t.reach (k + 1) (omega (arith, t.most)) ∙ le-leb (k + 1) taken (omega arith))
        (λ k h l. t.reach (k + 1) (omega arith) ∙ lt-leb (k + 1) taken (omega arith)))

    resolved-is : (codes ≡ codes_to m start first count) × (taken ≡ resolved_count m start first count) × (end ≡ end_of m start (prefix m first count))
    resolved-is = (codes_are, taken_is, t.goal)

-- The loop over the segments of a path, before segment k.
pub record Along (m : Model) (start first count : ℕ) (codes : List ℕ) (taken t k : ℕ) : Type 0 where
  pub done : ResolvedTo m start first k codes taken t
  pub most : k ≤ count
  pub few : count < 16
  pub near : first < 2048

pub along-start : {m : Model} {start first count : ℕ} → count < 16 → first < 2048 → Along m start first count (replicate 16 0) 0 start 0
along-start {m} {start} {first} few near = record { done = resolved_start m start first; most = zero-le; few = few; near = near }

module _ {m : Model} {start first count : ℕ} {codes : List ℕ} {taken t k : ℕ} (a : Along m start first count codes taken t k) where
  module _ (h : k < count) where
    pub along-number : first + k < 65536
    along-number = omega (arith, a.few, a.near)

    pub along-few : k < 16
    along-few = omega (arith, a.few)

    pub along_less : count - (k + 1) < count - k
    along_less = omega arith

    pub along-next : {ok : Bool} {code to taken' : ℕ} → ok ≡ resolves_at m t (segment_at m (first + k)) → code ≡ step_code (step_at m t (segment_at m (first + k)))
        → to ≡ moves_to m t (segment_at m (first + k)) → taken' ≡ cond (ok && eqb taken k) (k + 1) taken → Along m start first count (set codes k code) taken' to (k + 1)
    along-next e f g q = record { done = rw q (resolved-next m start first codes taken t k a.done along-few e f g); most = omega arith; few = a.few; near = a.near }

  pub along_end_lem : count ≤ k → ResolvedTo m start first count codes taken t
      × ((codes ≡ codes_to m start first count) × (taken ≡ resolved_count m start first count) × (t ≡ end_of m start (prefix m first count)))
  along_end_lem h =
      let e : k ≡ count = omega (arith, a.most) in
      let r : ResolvedTo m start first count codes taken t = rw e at a.done in
      (r, resolved-is m start first count codes taken t r (omega (arith, a.few)))
