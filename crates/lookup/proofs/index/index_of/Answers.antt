use Prim.Native.Nat.{◌+◌, ◌-◌, ◌<◌}
use lib.ListN.{get_or}
use mathlib.Core.Path.{◌≡◌, refl}
use native.Mathlib.Omega.{arith}
use Rattle.model_image.specs.Read.{model_read}
use Rattle.model_image.proofs.Counting.{most_properties, all_properties}
use Rattle.lookup.proofs.Chain.{filled_start, filled_more, filled_past, entry_read, indexed, alike-start}
use Rattle.lookup.proofs.index.index_of.Goals as goal
use Rattle.lookup.proofs.index.index_of.Goals.{In-loop-p}

-- The entry of property p, which the loop reads, is that of the ranks.
entry : (c : In-loop-p) → (get_or c.loop-p.index (512 + (c.loop-p.p - 1)) 0 ≡ get_or c.ranked-index.result (512 + (c.loop-p.p - 1)) 0) × (get_or c.loop-p.index (512 + (c.loop-p.p - 1)) 0 < 513)
entry c =
    let e : c.loop-p.p - 1 + 1 ≡ c.loop-p.p = omega arith in
    entry_read c.args.model.now.properties.now c.args.model.now.names.now c.ranked-index.result c.loop-p.index c.loop-p.later (model_read c.args.model.now).properties (c.loop-p.p - 1) (most_properties c.args.model.now) (omega (arith, c.property_count-p.ensures.0))
    c.ranked-index.ensures.ranked (rw e c.loop-p.invariant)

pub loop-p-init : goal.loop-p-init
loop-p-init c = rw c.property_count-p.ensures.0 (filled_start _ _ _ c.ranked-index.ensures.ranked.size)

pub bounds-later-first : goal.bounds-later-first
bounds-later-first c =
    let e : c.loop-p.p - 1 + 1 ≡ c.loop-p.p = omega arith in
    (entry_read c.args.model.now.properties.now c.args.model.now.names.now c.ranked-index.result c.loop-p.index c.loop-p.later (model_read c.args.model.now).properties (c.loop-p.p - 1) (most_properties c.args.model.now) (omega (arith, c.property_count-p.ensures.0))
    c.ranked-index.ensures.ranked (rw e c.loop-p.invariant)).1

pub bounds-later-first-in-loop-p : goal.bounds-later-first-in-loop-p
bounds-later-first-in-loop-p c = (entry (goal.at.bounds-later-first-in-loop-p c).In-loop-p).1

pub loop-p-preserved : goal.loop-p-preserved
loop-p-preserved c =
    let r = entry (goal.at.loop-p-preserved c).In-loop-p in
    let e : c.loop-p.p - 1 + 1 ≡ c.loop-p.p = omega arith in
    let few = most_properties c.args.model.now in
    filled_past _ _ _ _ _ _ _ _ few (omega arith) (filled_more _ _ _ _ _ _ _ few (omega arith) r.0 r.1 (rw e c.loop-p.invariant))

pub returns-clause-indexed : goal.returns-clause-indexed
returns-clause-indexed c =
    let e : c.loop-p.p ≡ 0 = omega arith in
    indexed _ _ _ _ _ _ (all_properties c.args.model.now c.requires) (most_properties c.args.model.now) c.ranked-index.ensures.ranked (rw e at c.loop-p.invariant)

pub returns-clause-by_index_2 : goal.returns-clause-by_index_2
returns-clause-by_index_2 c =
    let e : c.loop-p.p ≡ 0 = omega arith in
    let all = all_properties c.args.model.now c.requires in
    let x = indexed _ _ _ _ _ _ all (most_properties c.args.model.now) c.ranked-index.ensures.ranked (rw e at c.loop-p.invariant) in
    λ p h. let low = rw all at h in (alike-start _ _ _ x p low _ refl, x.next p low)
