-- The walk of one item, as the code makes it: the end, or one segment and then each item that takes its place. Assumes nothing.
use Prim.Native.Nat.{ℕ, suc, ◌+◌, ◌-◌, ◌≤◌, ◌<◌}
use mathlib.Core.Path.{◌≡◌, refl, sym, ap, ap₂, ◌∙◌}
use mathlib.Core.List.{List, [], ◌∷◌, ◌++◌, append_assoc}
use mathlib.Core.Bool.{Bool, true, false, false≢true, ◌||◌}
use native.Mathlib.Omega.{arith}
use lib.ListN.{length, take, drop}
use lib.Seq.{sets, sets-eq, drop-drop}
use lib.Dec.{eqb}
use borrow.Author.Tests.{eqb-true, eqb-false}
use Rattle.csdl.specs.Search.{tab}
use Rattle.csdl.specs.Model.{Model}
use Rattle.csdl.specs.Path.{Segment, segment_at}
use Rattle.csdl.specs.Instance.{Instance}
use Rattle.csdl.specs.Walk.{Item, bytes_of_number, bytes_of_item}
use Rattle.csdl.specs.Walk.Item.{value}
use Rattle.csdl.specs.Walk.Origin.{at_slot}
use Rattle.csdl.proofs.Logic.{or_no, and_cases}
use Rattle.walk_step.specs.Seen.{null_code, item_of, path_from, written, openings, stops_at, next_at, item_in, StepIs}
use Rattle.walk_step.specs.declared.Next.{Next}
use Rattle.walk_step.proofs.Moves.{step_is}
use Rattle.walk_items.specs.declared.Position.{Position}
use Rattle.walk_items.specs.declared.Done.{Done}
use Rattle.walk_items.specs.From.{next_position, written_from, opened_from}
use Rattle.walk_items.proofs.Going.{rest_all, Going, going_start, going_fits, going_few, going_more, going_end}
use Rattle.walk_items.proofs.Single.{bytes, opens, bytes-null, opens-null, bytes_end, opens_end, bytes_step, count_step}

or-first : (a b : Bool) → (a || b) ≡ true → b ≡ false → a ≡ true
or-first true b e f = refl
or-first false b e f = absurd (false≢true (sym f ∙ e))

four_bytes : (t v : ℕ) → length (bytes_of_item (value t v)) ≡ 4
unfolding bytes_of_item bytes_of_number
four_bytes t v = refl

-- The bytes of an item in the place of four.
pub write_is : (out : List ℕ) (at t v : ℕ) → at + 4 ≤ length out →
    take at out ++ (bytes_of_item (value t v) ++ drop 4 (drop at out)) ≡ sets out at (bytes_of_item (value t v))
write_is out at t v h =
    let b = bytes_of_item (value t v) in
    let e : at + length b ≡ at + 4 = ap (λ (n : ℕ). at + n) (four_bytes t v) in
    sym (sets-eq b out at (omega (arith, e)) ∙ rw (e, drop-drop, append_assoc))

-- What item q of those that come next writes and opens.
abbrev written_by : Model → Instance → Position → Next → ℕ → List ℕ
written_by m i here next q = written m i (here.k + 1) (here.left - 1) (item_in i next q).t (item_in i next q).v

abbrev opened_below : Model → Instance → Position → Next → ℕ → List ℕ
opened_below m i here next q = openings m i (here.k + 1) (here.left - 1) (item_in i next q).t (item_in i next q).v

-- The loop over the items that come next: what was written to out₀ and opened before item q.
abbrev Round : Model → Instance → Position → Next → List ℕ → List ℕ → ℕ → ℕ → ℕ → Type 0
Round m i here next out₀ out end o q =
    Going (written_by m i here next) (opened_below m i here next) (written_from m i here) (opened_from m i here) out₀ here.end
    (next.first + next.count) out end o q

module _ (m : Model) (i : Instance) (here : Position) where
  abbrev k : ℕ
  k = here.k

  abbrev left : ℕ
  left = here.left

  abbrev t : ℕ
  t = here.item.t

  abbrev v : ℕ
  v = here.item.v

  -- No segment is left, or the item is null: it is its own result.
  module _ (h : stops_at left t v ≡ true) where
    stop : (written m i k left t v ≡ bytes_of_item (value t v)) × (openings m i k left t v ≡ [])
    unfolding written openings path_from tab item_of
    stop = go (null_code t v) refl
      where
        gs : List Segment
        gs = tab (λ g. segment_at m g) k left

        go : (a : Bool) → null_code t v ≡ a → (bytes m i gs (item_of t v) ≡ bytes_of_item (value t v)) × (opens m i gs (item_of t v) ≡ [])
        go true e =
            let c = and_cases (eqb t 255) (eqb v 0) e in
            rw (eqb-true t 255 c.0, eqb-true v 0 c.1) (bytes-null m i gs (at_slot 0), opens-null m i gs (at_slot 0))
        go false e =
            rw (e, eqb-true left 0 (or-first (eqb left 0) (null_code t v) h e)) (bytes_end m i (value t v), opens_end m i (value t v))

    stop_fits : {size : ℕ} → here.end + length (written_from m i here) ≤ size → here.end + 4 ≤ size
    stop_fits fit = omega (arith, ap length stop.0, four_bytes t v)

    stop_is : (out : List ℕ) {out' : List ℕ} {end o : ℕ} → out' ≡ sets out here.end (bytes_of_item (value t v)) → end ≡ here.end + 4 → o ≡ 0 →
        (out' ≡ sets out here.end (written_from m i here)) × ((end ≡ here.end + length (written_from m i here)) × (o ≡ length (opened_from m i here)))
    stop_is out e f g = rw (stop.0, stop.1) (e, (f ∙ ap (λ (n : ℕ). here.end + n) (sym (four_bytes t v)), g))

  -- Else the item is not null, and a segment is left.
  module _ (h : stops_at left t v ≡ false) where
    not_null : null_code t v ≡ false
    not_null = (or_no (eqb left 0) (null_code t v) h).1

    some_left : 0 < left
    some_left = let z : left ≡ 0 → ⊥ = eqb-false left 0 (or_no (eqb left 0) (null_code t v) h).0 in omega arith

    path-more : path_from m k left ≡ segment_at m k ∷ path_from m (k + 1) (left - 1)
    unfolding path_from tab
    path-more = let e : left ≡ suc (left - 1) = omega (arith, some_left) in ap (tab (λ g. segment_at m g) k) e

    is-value : item_of t v ≡ value t v
    unfolding item_of
    is-value = rw not_null

    begin : (next : Next) → StepIs m i (segment_at m k) t v next → {out : List ℕ} →
        here.end + length (written_from m i here) ≤ length out → length (opened_from m i here) < 65536 → Round m i here next out out here.end next.opened next.first
    unfolding written openings
    begin next s fit few =
        let g = segment_at m k in
        let gs = path_from m (k + 1) (left - 1) in
        let first = next.first in
        let count = next.count in
        let ref : ℕ → ℕ = λ q. (item_in i next q).t in
        let handle : ℕ → ℕ = λ q. (item_in i next q).v in
        let a = ap₂ (λ (l : List Segment) (x : Item). bytes m i l x) path-more is-value
        ∙ bytes_step m i g gs t v ref handle first count s.next-is ∙ rest_all (written_by m i here next) first count in
        let b = ap₂ (λ (l : List Segment) (x : Item). length (opens m i l x)) path-more is-value
        ∙ count_step m i g gs t v ref handle first count s.next-is
        ∙ ap₂ ◌+◌ (sym s.opening-is) (ap length (rest_all (opened_below m i here next) first count)) in
        going_start a b fit few

-- What the walk of an item asks of its place and of the buffer.
abbrev Asked : Model → Instance → Position → List ℕ → Type 0
Asked m i here out =
    (here.k + here.left < 65536) × ((here.end + length (written_from m i here) ≤ length out) × (length (opened_from m i here) < 65536))

-- What it gives: the buffer, where the results end, how many slots were opened.
abbrev Given : Model → Instance → Position → List ℕ → List ℕ → Done → Type 0
Given m i here out out' d =
    (out' ≡ sets out here.end (written_from m i here)) × ((d.end ≡ here.end + length (written_from m i here)) × (d.opened ≡ length (opened_from m i here)))

-- The loop before item q of those that come next.
pub record Turn (m : Model) (i : Instance) (here : Position) (next : Next) (out₀ out : List ℕ) (end o q : ℕ) : Type 0 where
  pub few-segments : here.k + here.left < 65536
  pub some : 0 < here.left
  pub round : Round m i here next out₀ out end o q

module _ (m : Model) (i : Instance) (here : Position) (out : List ℕ) (asked : Asked m i here out) where
  -- Where the walk stops.
  module _ (h : stops_at here.left here.item.t here.item.v ≡ true) where
    pub last_fits : here.end + 4 ≤ length out
    last_fits = stop_fits m i here h asked.1.0

    pub last_is : {out' : List ℕ} {d : Done} → out' ≡ sets out here.end (bytes_of_item (value here.item.t here.item.v)) → (d.end ≡ here.end + 4) × (d.opened ≡ 0) →
        Given m i here out out' d
    last_is e f = stop_is m i here h out e f.0 f.1

  -- Where it goes on.
  pub turn_start : stops_at here.left here.item.t here.item.v ≡ false → {next : Next} → next ≡ next_at m i here.k here.item →
      Turn m i here next out out here.end next.opened next.first
  turn_start h {next} e =
      let s : StepIs m i (segment_at m here.k) here.item.t here.item.v next = rw e (step_is m i here.k here.item (not_null m i here h)) in
      record {
        few-segments = asked.0;
        some = some_left m i here h;
        round = begin m i here h next s asked.1.0 asked.1.1;
      }

module _ {m : Model} {i : Instance} {here : Position} {next : Next} {out₀ out : List ℕ} {end o q : ℕ} (turn : Turn m i here next out₀ out end o q) where
  module _ (h : q < next.first + next.count) where
    -- The walk of the item.
    module _ {there : Position} (e : there ≡ next_position here (item_in i next q) end) where
      pub turn_asks : {left : ℕ} → here.left ≡ left → (there.left < left) × Asked m i there out
      turn_asks p =
          let a = turn.some in
          let b = turn.few-segments in
          rw (e, ← p) (omega arith, (omega arith, (going_fits turn.round h, omega (arith, going_few turn.round h))))

      module _ {out' : List ℕ} {d : Done} (g : Given m i there out out' d) where
        given : Given m i (next_position here (item_in i next q) end) out out' d
        given = rw e at g

        pub turn_opened : o + d.opened < 65536
        turn_opened = rw given.1.1 (going_few turn.round h)

        pub turn_more : Turn m i here next out₀ out' d.end (o + d.opened) (q + 1)
        turn_more = record { few-segments = turn.few-segments; some = turn.some; round = going_more turn.round h given.0 given.1.0 given.1.1 }

  pub turn_end : next.first + next.count ≤ q → {d : Done} → d.end ≡ end → d.opened ≡ o → Given m i here out₀ out d
  turn_end h e f = let g = going_end turn.round h in (g.0, (e ∙ g.1.0, f ∙ g.1.1))
