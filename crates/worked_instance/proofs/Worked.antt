-- A model and an instance that are accepted, and walks through it: demand 3 speaks of something.
use Prim.Native.Nat.{ℕ, ◌<◌}
use mathlib.Core.Path.{◌≡◌, refl, sym, ◌∙◌}
use mathlib.Core.List.{List, [], ◌∷◌}
use mathlib.Core.Bool.{true, false, false≢true}
use mathlib.Core.Logic.{⊎_elim}
use native.Mathlib.Omega.{arith}
use lib.ListN.{replicate}
use borrow.Author.Tests.{ltb-true}
use Rattle.std.proofs.Common.{Some}
use Rattle.csdl.specs.Model.{in_run}
use Rattle.csdl.specs.Image.{model_in}
use Rattle.csdl.specs.Find.{ancestor_or_self}
use Rattle.csdl.specs.Path.{Segment, segments_of, path_of, start_of, path_end}
use Rattle.csdl.specs.declared.PathKind.TheVariants.{Partner, Key, Dependent, Principal, Binding, Target}
use Rattle.csdl.specs.Instance.{instance_in}
use Rattle.csdl.specs.Conforms.{is_null, instance_answer}
use Rattle.csdl.specs.Verdict.{model_answer}
use Rattle.csdl.specs.Verdict.Answer.{accepted}
use Rattle.csdl.specs.Walk.{walk_path, walk_results, walk_opened, walk_answer}
use Rattle.csdl.specs.Walk.Item.{null, value}
use Rattle.csdl.specs.Walk.Origin.{at_slot, at-cast}
use Rattle.csdl.specs.Accepted.{NullIn}
use Rattle.csdl.proofs.Everything.{everything}
use Rattle.csdl.proofs.Logic.{run_in}
use Rattle.soundness.specs.Demand.{HasOrigin, Demand}
use Rattle.soundness.proofs.Demands.{every_path, each-is_held}

-- Tour (No, Stops, First, FirstNo), Stop (No, Label, Next, Tour, Words), Text (Lang, Area); Long derives from Stop, Rich from Text; Long
-- redeclares Label, of type Rich. Stops contains stops, and is the partner of Tour; Label is nullable, Words a nullable collection of Text; First,
-- Next and Area are nullable navigations. Keys: No of Tour, No of Stop. First is constrained: FirstNo = No. Bindings: of the set Tours
-- Stops/Long/Next, with a cast to Long, Stops/Label/Area and Stops/Words/Area; of the singleton Main First, to Main/Stops. 320 bytes.
unfoldable pub tours : List ℕ
tours =
    4 ∷ 2 ∷ 0 ∷ 1 ∷ 0 ∷ 5 ∷ 0 ∷ 12 ∷ 0 ∷ 2 ∷ 0 ∷ 1 ∷ 0 ∷ 3 ∷ 0 ∷ 4 ∷ 0 ∷ 17 ∷ 0 ∷ 77 ∷ 0 ∷ 0 ∷ 16 ∷ 0 ∷ 0 ∷ 0 ∷ 0 ∷ 0 ∷ 0 ∷ 65 ∷
    0 ∷ 0 ∷ 0 ∷ 0 ∷ 1 ∷ 65 ∷ 0 ∷ 2 ∷ 0 ∷ 0 ∷ 2 ∷ 65 ∷ 0 ∷ 0 ∷ 1 ∷ 0 ∷ 3 ∷ 65 ∷ 0 ∷ 2 ∷ 1 ∷ 128 ∷ 4 ∷ 65 ∷ 0 ∷ 0 ∷ 18 ∷ 192 ∷ 84 ∷ 8 ∷
    0 ∷ 0 ∷ 3 ∷ 64 ∷ 64 ∷ 92 ∷ 20 ∷ 0 ∷ 8 ∷ 2 ∷ 128 ∷ 64 ∷ 112 ∷ 20 ∷ 0 ∷ 0 ∷ 0 ∷ 146 ∷ 192 ∷ 132 ∷ 28 ∷ 0 ∷ 0 ∷ 4 ∷ 18 ∷ 192 ∷ 84 ∷ 8 ∷ 0 ∷ 0 ∷
    4 ∷ 128 ∷ 128 ∷ 160 ∷ 20 ∷ 0 ∷ 0 ∷ 6 ∷ 128 ∷ 64 ∷ 180 ∷ 16 ∷ 0 ∷ 0 ∷ 6 ∷ 0 ∷ 0 ∷ 4 ∷ 16 ∷ 0 ∷ 136 ∷ 8 ∷ 20 ∷ 0 ∷ 196 ∷ 16 ∷ 0 ∷ 0 ∷ 10 ∷ 128 ∷
    0 ∷ 212 ∷ 16 ∷ 0 ∷ 0 ∷ 5 ∷ 128 ∷ 128 ∷ 228 ∷ 20 ∷ 0 ∷ 0 ∷ 12 ∷ 129 ∷ 0 ∷ 160 ∷ 20 ∷ 0 ∷ 0 ∷ 0 ∷ 1 ∷ 8 ∷ 0 ∷ 0 ∷ 0 ∷ 4 ∷ 1 ∷ 136 ∷ 0 ∷ 0 ∷
    0 ∷ 1 ∷ 0 ∷ 65 ∷ 0 ∷ 162 ∷ 0 ∷ 3 ∷ 224 ∷ 80 ∷ 128 ∷ 4 ∷ 48 ∷ 64 ∷ 1 ∷ 4 ∷ 112 ∷ 96 ∷ 0 ∷ 3 ∷ 24 ∷ 64 ∷ 0 ∷ 0 ∷ 0 ∷ 4 ∷ 152 ∷ 0 ∷ 0 ∷ 0 ∷
    4 ∷ 6 ∷ 8 ∷ 32 ∷ 52 ∷ 64 ∷ 0 ∷ 7 ∷ 24 ∷ 0 ∷ 0 ∷ 0 ∷ 0 ∷ 1 ∷ 4 ∷ 0 ∷ 23 ∷ 5 ∷ 0 ∷ 21 ∷ 2 ∷ 0 ∷ 21 ∷ 2 ∷ 0 ∷ 33 ∷ 7 ∷ 0 ∷ 21 ∷ 2 ∷
    0 ∷ 23 ∷ 5 ∷ 128 ∷ 0 ∷ 3 ∷ 0 ∷ 45 ∷ 4 ∷ 0 ∷ 23 ∷ 5 ∷ 0 ∷ 40 ∷ 5 ∷ 0 ∷ 53 ∷ 4 ∷ 0 ∷ 28 ∷ 5 ∷ 0 ∷ 23 ∷ 5 ∷ 0 ∷ 23 ∷ 5 ∷ 0 ∷ 57 ∷ 5 ∷
    0 ∷ 53 ∷ 4 ∷ 103 ∷ 84 ∷ 111 ∷ 117 ∷ 114 ∷ 83 ∷ 116 ∷ 111 ∷ 112 ∷ 84 ∷ 101 ∷ 120 ∷ 116 ∷ 76 ∷ 111 ∷ 110 ∷ 103 ∷ 82 ∷ 105 ∷ 99 ∷ 104 ∷ 78 ∷ 111 ∷ 83 ∷ 116 ∷ 111 ∷ 112 ∷
    115 ∷ 70 ∷ 105 ∷ 114 ∷ 115 ∷ 116 ∷ 70 ∷ 105 ∷ 114 ∷ 115 ∷ 116 ∷ 78 ∷ 111 ∷ 76 ∷ 97 ∷ 98 ∷ 101 ∷ 108 ∷ 78 ∷ 101 ∷ 120 ∷ 116 ∷ 76 ∷ 97 ∷ 110 ∷ 103 ∷ 65 ∷ 114 ∷ 101 ∷ 97 ∷
    87 ∷ 111 ∷ 114 ∷ 100 ∷ 115 ∷ 84 ∷ 111 ∷ 117 ∷ 114 ∷ 115 ∷ 77 ∷ 97 ∷ 105 ∷ 110 ∷ 83 ∷ 112 ∷ 97 ∷ 114 ∷ 101 ∷ 115 ∷ []

-- Node 0 is a Tour with stops 1 and 2, the first of them 1; 1 is a Stop without label, whose Next is 2 and whose Words are a null and 4; 2 is a
-- Long, whose label is 3, whose Next is null and which has no Words; 3 is a Rich, whose Area is 0; 4 is a Text, whose Area is null. 18 slots, 16
-- items, 182 bytes.
unfoldable pub trip : List ℕ
trip =
    4 ∷ 2 ∷ 0 ∷ 5 ∷ 0 ∷ 18 ∷ 0 ∷ 16 ∷ 0 ∷ 0 ∷ 0 ∷ 128 ∷ 4 ∷ 2 ∷ 0 ∷ 160 ∷ 12 ∷ 4 ∷ 128 ∷ 160 ∷ 16 ∷ 7 ∷ 0 ∷ 64 ∷ 8 ∷ 8 ∷ 0 ∷ 64 ∷ 0 ∷ 32 ∷
    0 ∷ 0 ∷ 32 ∷ 0 ∷ 192 ∷ 2 ∷ 0 ∷ 64 ∷ 1 ∷ 32 ∷ 6 ∷ 0 ∷ 32 ∷ 1 ∷ 160 ∷ 8 ∷ 0 ∷ 32 ∷ 2 ∷ 32 ∷ 10 ∷ 0 ∷ 32 ∷ 2 ∷ 128 ∷ 0 ∷ 0 ∷ 0 ∷ 3 ∷ 32 ∷
    12 ∷ 0 ∷ 32 ∷ 3 ∷ 160 ∷ 14 ∷ 0 ∷ 32 ∷ 5 ∷ 64 ∷ 16 ∷ 0 ∷ 64 ∷ 2 ∷ 32 ∷ 20 ∷ 0 ∷ 32 ∷ 5 ∷ 160 ∷ 22 ∷ 0 ∷ 32 ∷ 3 ∷ 0 ∷ 0 ∷ 0 ∷ 0 ∷ 3 ∷ 160 ∷
    24 ∷ 0 ∷ 32 ∷ 5 ∷ 64 ∷ 0 ∷ 0 ∷ 0 ∷ 4 ∷ 32 ∷ 26 ∷ 0 ∷ 32 ∷ 4 ∷ 160 ∷ 28 ∷ 0 ∷ 32 ∷ 4 ∷ 32 ∷ 30 ∷ 0 ∷ 32 ∷ 4 ∷ 128 ∷ 0 ∷ 0 ∷ 0 ∷ 75 ∷ 0 ∷
    0 ∷ 1 ∷ 1 ∷ 0 ∷ 0 ∷ 1 ∷ 3 ∷ 0 ∷ 0 ∷ 2 ∷ 1 ∷ 0 ∷ 0 ∷ 1 ∷ 75 ∷ 0 ∷ 0 ∷ 1 ∷ 75 ∷ 0 ∷ 0 ∷ 1 ∷ 3 ∷ 0 ∷ 0 ∷ 2 ∷ 0 ∷ 0 ∷ 0 ∷ 0 ∷
    255 ∷ 0 ∷ 0 ∷ 0 ∷ 2 ∷ 0 ∷ 0 ∷ 4 ∷ 75 ∷ 0 ∷ 0 ∷ 2 ∷ 4 ∷ 0 ∷ 0 ∷ 3 ∷ 0 ∷ 0 ∷ 0 ∷ 0 ∷ 80 ∷ 0 ∷ 0 ∷ 7 ∷ 0 ∷ 0 ∷ 0 ∷ 0 ∷ 80 ∷ 0 ∷
    0 ∷ 8 ∷ []

-- Both are accepted.
pub model_accepted : model_answer tours (replicate 34 0) ≡ accepted (17 ∷ [])
unfolding everything tours
model_accepted = refl

pub instance_accepted : instance_answer tours trip ≡ accepted []
unfolding everything tours trip
instance_accepted = refl

-- Every kind of path: the place and number of each.
pub kinds :
    (walk_path tours 7 0 ≡ Some (record { kind = Partner; number = 1 })) × (walk_path tours 19 0 ≡ Some (record { kind = Key; number = 1 })) × (walk_path tours 20 0 ≡ Some (record { kind = Dependent; number = 0 }))
    × (walk_path tours 20 1 ≡ Some (record { kind = Principal; number = 0 })) × (walk_path tours 24 0 ≡ Some (record { kind = Binding; number = 0 })) × (walk_path tours 26 1 ≡ Some (record { kind = Target; number = 2 }))
unfolding everything tours
kinds = (refl, refl, refl, refl, refl, refl)

-- The partner of Stops, from stop 1: its tour. The key of Stop, from node 2, a Long: one result. The dependent path, from the tour, and the
-- principal path, from stop 2. The target Stops, from the tour: the two stops.
pub walks :
    (walk_results tours trip 7 0 1 ≡ value 0 0 ∷ []) × (walk_results tours trip 19 0 2 ≡ value 75 2 ∷ []) × (walk_results tours trip 20 0 0 ≡ value 75 1 ∷ [])
    × (walk_results tours trip 20 1 2 ≡ value 75 2 ∷ []) × (walk_results tours trip 26 1 0 ≡ value 1 1 ∷ value 3 2 ∷ [])
unfolding everything tours trip
walks = (refl, refl, refl, refl, refl)

-- Stops/Long/Next from node 0: at the cast, stop 1 gives null, as it is no Long; at Next, stop 2 gives null, as its slot is null.
-- Stops/Label/Area from node 0: stop 1 has no label; the redeclared label of stop 2 leads to a Rich, and its Area to node 0. Stops/Words/Area: the
-- null that the words of stop 1 hold, and that of the Area of its other word. With 140 bytes of buffer, room for 35 items, the second answers 2
-- results and 4 opened slots.
pub nulls :
    (walk_results tours trip 24 0 0 ≡ null (at-cast 3 1) ∷ null (at_slot 11) ∷ []) × (walk_opened tours trip 24 0 0 ≡ 1 ∷ 11 ∷ [])
    × (walk_results tours trip 25 0 0 ≡ null (at_slot 5) ∷ value 0 0 ∷ []) × (walk_opened tours trip 25 0 0 ≡ 1 ∷ 5 ∷ 10 ∷ 15 ∷ [])
    × (walk_results tours trip 27 0 0 ≡ null (at_slot 8) ∷ null (at_slot 17) ∷ []) × (walk_opened tours trip 27 0 0 ≡ 1 ∷ 8 ∷ 13 ∷ 17 ∷ [])
    × (walk_answer tours trip 25 0 0 (replicate 140 0) ≡ accepted (2 ∷ 4 ∷ []))
unfolding everything tours trip
nulls = (refl, refl, refl, refl, refl, refl, refl)

-- The theorem's premises hold of it: the binding at place 25 is number 1, and node 0 is there, at the start type.
path_held : walk_path tours 25 0 ≡ Some (record { kind = Binding; number = 1 })
unfolding everything tours
path_held = refl

node-there : 0 < (instance_in trip).nodes
unfolding everything trip
node-there = ltb-true 0 (instance_in trip).nodes refl

node_at : ancestor_or_self (model_in tours) (start_of (model_in tours) Binding 1) ((instance_in trip).node_type 0) ≡ true
unfolding everything tours trip
node_at = refl

pub demand_of_it : Demand (model_in tours) (instance_in trip) (segments_of (model_in tours) (path_of (model_in tours) Binding 1)) (path_end (model_in tours) Binding 1) 0
demand_of_it = every_path tours trip instance_accepted Binding 1 (each-is_held tours trip instance_accepted 25 0 Binding 1 path_held) 0 node-there node_at

-- Slot 10, the label of stop 2, is opened by that walk and its property is nullable; but it holds node 3, and no null. A null that a walk gave for
-- it would not have come in rightly, whatever the path and the start.
label_known : ((model_in tours).nullable ((instance_in trip).slot_property 10) ≡ true) × ((instance_in trip).state 10 ≡ 1)
    × (((instance_in trip).slot_items 10).first ≡ 11) × (((instance_in trip).slot_items 10).count ≡ 1) × (is_null (instance_in trip) 11 ≡ false)
unfolding everything tours trip
label_known = (refl, refl, refl, refl, refl)

pub no_made_up_null : (gs : List Segment) (v : ℕ) → HasOrigin (model_in tours) (instance_in trip) gs v (at_slot 10) → ⊥
unfolding HasOrigin NullIn
no_made_up_null gs v h = ⊎_elim (λ e. omega (arith, e, label_known.1)) (λ x. no_item x.0 x.1 x.2) h.null_in
  where
    no_item : (k : ℕ) → in_run ((instance_in trip).slot_items 10) k ≡ true → is_null (instance_in trip) k ≡ true → ⊥
    no_item k a n =
        let r = run_in ((instance_in trip).slot_items 10) k a in
        let e : k ≡ 11 = omega (arith, r.0, r.1, label_known.2, label_known.3) in
        false≢true (sym label_known.4 ∙ rw e at n)
