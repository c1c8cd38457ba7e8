-- Paths: the six kinds with their start types, their segments, and their resolution segment by segment.
use Rattle.std.specs.Prelude.{ℕ, ◌-◌, List, [], ◌∷◌, Bool, true, false, cond, not, ◌&&◌, eqb}
use Rattle.packed.specs.Bytes.{same}
use Rattle.csdl.specs.Search.{first_from, count_from, tab, sum_of, last_or, if_found}
use Rattle.csdl.specs.declared.Run.{Run}
use Rattle.csdl.specs.Model.{Model, segment_text, in_run}
use Rattle.csdl.specs.Find.{structured, ancestor_or_self, find}
use Rattle.csdl.specs.declared.PathKind.{PathKind}
use Rattle.csdl.specs.declared.PathKind.TheVariants.{Partner, Key, Dependent, Principal, Binding, Target}

-- A segment of a path: a name, as its bytes, or a cast to a type.
pub data Segment : Type 0 where
  name : List ℕ → Segment
  cast : ℕ → Segment

-- What a segment resolves to: a property, the type of a cast, or nothing.
pub data Step : Type 0 where
  property : ℕ → Step
  type : ℕ → Step
  nothing : Step

-- The type reference that is none: rule 1 lets no type have the number, and no primitive has code 0.
abbrev pub no_reference : ℕ
no_reference = 64

unfoldable pub segment_at : Model → ℕ → Segment
segment_at m g = cond (m.is_cast g) (cast (m.cast_type g)) (name (segment_text m g))

abbrev pub segments_of : Model → Run → List Segment
segments_of m r = tab (λ g. segment_at m g) r.first r.count

-- A name segment needs a structured type that has the name, and moves to that property's type.
-- A cast needs a structured target at the current type, and moves to it.
unfoldable pub resolves_at : Model → ℕ → Segment → Bool
resolves_at m t (name nm) = structured m t && not (eqb (find m nm t) 0)
resolves_at m t (cast c) = structured m c && ancestor_or_self m t c

unfoldable pub moves_to : Model → ℕ → Segment → ℕ
moves_to m t (name nm) = if_found no_reference (λ p. m.type_ref p) (find m nm t)
moves_to m t (cast c) = c

unfoldable pub step_at : Model → ℕ → Segment → Step
step_at m t (name nm) = if_found nothing (λ p. property p) (find m nm t)
step_at m t (cast c) = type c

-- Along a path from a type: every segment passes; the type at the end; what is made of each segment.
unfoldable pub along_all : (ℕ → Segment → Bool) → (ℕ → Segment → ℕ) → ℕ → List Segment → Bool
along_all ok to t [] = true
along_all ok to t (g ∷ gs) = ok t g && along_all ok to (to t g) gs

unfoldable pub along_end : (ℕ → Segment → ℕ) → ℕ → List Segment → ℕ
along_end to t [] = t
along_end to t (g ∷ gs) = along_end to (to t g) gs

unfoldable pub along : (ℕ → Segment → Step) → (ℕ → Segment → ℕ) → ℕ → List Segment → List Step
along what to t [] = []
along what to t (g ∷ gs) = what t g ∷ along what to (to t g) gs

-- The path resolves from the type; the type reference it ends at; what its segments resolve to.
abbrev pub resolves : Model → ℕ → List Segment → Bool
resolves m t gs = along_all (λ u g. resolves_at m u g) (λ u g. moves_to m u g) t gs

abbrev pub end_of : Model → ℕ → List Segment → ℕ
end_of m t gs = along_end (λ u g. moves_to m u g) t gs

abbrev pub steps_of : Model → ℕ → List Segment → List Step
steps_of m t gs = along (λ u g. step_at m u g) (λ u g. moves_to m u g) t gs

-- The list of all six kinds of path: rule 13 sums over it, rule 14 asks some of it, the resolution takes the first.
abbrev pub kinds : List PathKind
kinds = Partner ∷ Key ∷ Dependent ∷ Principal ∷ Binding ∷ Target ∷ []

-- How many records may hold a path of the kind; the path that record r holds; the type it starts at.
unfoldable pub holders : Model → PathKind → ℕ
holders m Partner = m.properties
holders m Key = m.keys
holders m Dependent = m.constraints
holders m Principal = m.constraints
holders m Binding = m.bindings
holders m Target = m.bindings

unfoldable pub path_of : Model → PathKind → ℕ → Run
path_of m Partner p = m.partner p
path_of m Key k = m.key_path k
path_of m Dependent c = m.dependent c
path_of m Principal c = m.principal c
path_of m Binding b = m.binding_path b
path_of m Target b = m.target_path b

-- Key: the owner. Dependent: the property's owner. Principal and partner: the property's type. Binding: the child's type.
-- Target: the target child's type.
unfoldable pub start_of : Model → PathKind → ℕ → ℕ
start_of m Partner p = m.type_ref p
start_of m Key k = m.key_owner k
start_of m Dependent c = m.owner (m.constrained c)
start_of m Principal c = m.type_ref (m.constrained c)
start_of m Binding b = m.child_type (m.binding_child b)
start_of m Target b = m.child_type (m.target b)

-- The steps of the path of a kind that record r holds, and the type reference that it ends at, its declared type.
abbrev pub path_steps : Model → PathKind → ℕ → List Step
path_steps m w r = steps_of m (start_of m w r) (segments_of m (path_of m w r))

abbrev pub path_end : Model → PathKind → ℕ → ℕ
path_end m w r = end_of m (start_of m w r) (segments_of m (path_of m w r))

-- How many paths of the kind have segment g.
unfoldable pub kind_paths_with : Model → PathKind → ℕ → ℕ
kind_paths_with m w g = count_from (λ r. in_run (path_of m w r) g) 0 (holders m w)

-- How many paths have segment g, of all kinds.
unfoldable pub paths_with : Model → ℕ → ℕ
paths_with m g = sum_of (λ w. kind_paths_with m w g) kinds

-- The first record whose path of the kind has segment g: 0 for none, else its number plus 1.
unfoldable pub holder_of : Model → PathKind → ℕ → ℕ
holder_of m w g = first_from (λ r. in_run (path_of m w r) g) 0 (holders m w)

-- What segment g resolves to as a segment of the path of record r.
unfoldable pub step_in : Model → PathKind → ℕ → ℕ → Step
step_in m w r g =
    let run = path_of m w r in
    step_at m (end_of m (start_of m w r) (tab (λ k. segment_at m k) run.first (g - run.first))) (segment_at m g)

-- What f makes of the first kind of the list and its first record whose path has g; d where no path does.
unfoldable pub by_holder : {A : Type 0} → Model → ℕ → (PathKind → ℕ → A) → A → List PathKind → A
by_holder m g f d [] = d
by_holder m g f d (w ∷ ws) = let rest = by_holder m g f d ws in if_found rest (λ r. f w r) (holder_of m w g)

-- What segment g resolves to, by the path that has it; nothing where none does, and rule 13 is broken.
unfoldable pub step_of_segment : Model → ℕ → Step
step_of_segment m g = by_holder m g (λ w r. step_in m w r g) nothing kinds

-- What f makes of the property that a step is; d where it is none.
abbrev pub of_property : {A : Type 0} → A → (ℕ → A) → Step → A
of_property d f (property p) = f p
of_property d f (type c) = d
of_property d f nothing = d

-- Tests of a step: no property; a property that passes the test; a property that does not.
abbrev pub no_property : Step → Bool
no_property s = of_property true (λ p. false) s

abbrev pub is_property : (ℕ → Bool) → Step → Bool
is_property test s = of_property false test s

abbrev pub is_other : (ℕ → Bool) → Step → Bool
is_other test s = of_property false (λ p. not (test p)) s

-- The last step of a path, nothing where it has none.
abbrev pub last_step : List Step → Step
last_step l = last_or nothing l

-- The properties of a path's names, in order; casts left out.
unfoldable pub properties : List Step → List ℕ
properties [] = []
properties (property p ∷ l) = p ∷ properties l
properties (type c ∷ l) = properties l
properties (nothing ∷ l) = properties l

-- The name that a path begins with; no bytes where it has no segment or begins with a cast.
unfoldable pub first_name : List Segment → List ℕ
first_name [] = []
first_name (name nm ∷ gs) = nm
first_name (cast c ∷ gs) = []

-- The same segments: names as bytes, casts as types.
abbrev pub same_segment : Segment → Segment → Bool
same_segment (name a) (name b) = same a b
same_segment (name a) (cast d) = false
same_segment (cast c) (name b) = false
same_segment (cast c) (cast d) = eqb c d

unfoldable pub same_segments : List Segment → List Segment → Bool
same_segments [] [] = true
same_segments [] (h ∷ hs) = false
same_segments (g ∷ gs) [] = false
same_segments (g ∷ gs) (h ∷ hs) = same_segment g h && same_segments gs hs
