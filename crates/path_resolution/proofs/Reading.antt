-- What the codes of a path say of its steps: loops over codes as searches over the steps of the definition. Assumes nothing.
use Prim.Native.Nat.{ℕ, zero, suc, ◌+◌, ◌-◌, ◌≤◌, ◌<◌}
use mathlib.Core.Path.{◌≡◌, refl, sym, ◌∙◌, ap}
use mathlib.Core.List.{List, [], ◌∷◌, ◌++◌, append-nil}
use mathlib.Core.Bool.{Bool, false≢true, cond, not, ◌||◌}
use native.Mathlib.Nat.{add-zero, zero-add}
use native.Mathlib.Omega.{arith}
use lib.Dec.{eqb-suc-zero}
use lib.ListN.{get_or}
use borrow.Author.Tests.{le-leb, lt-leb, lt-ltb, le-ltb}
use Rattle.csdl.specs.Search.{tab, any_from, first_from, some, but_last, last_or, is_empty, last_fails, if_found, or_else}
use Rattle.csdl.specs.Climb.{nearest}
use Rattle.csdl.specs.Model.{Model}
use Rattle.csdl.specs.Find.{find, own, contain_step}
use Rattle.csdl.specs.Path.{Segment, Step, segment_at, step_at, steps_of, moves_to, end_of, along_end, no_reference, no_property, of_property, is_property, is_other, last_step, properties}
use Rattle.csdl.specs.Path.Step.{property, type, nothing}
use Rattle.csdl.specs.Path.Segment.{name, cast}
use Rattle.csdl.specs.Paths.{has_cast, non_containment, target_step}
use Rattle.csdl.specs.Verdict.{step_code}
use Rattle.csdl.proofs.Logic.{any_same, first-le}
use Rattle.path_resolution.specs.Resolution.{prefix, step_no, code_at, cast_code, is_code, other_code, number_of, code_to, code_end, last_code, last_name, form_of}
use Rattle.path_resolution.proofs.Laws.{but_last_tab, last_tab, some-tab, end_more, steps_tab}

-- ---- a property's number is below the count
from_zero : (test : ℕ → Bool) (n : ℕ) → first_from test 0 n ≤ n
from_zero test n = omega (arith, first-le test 0 n)

nearest-le : (own next : ℕ → ℕ) (n : ℕ) → ((u : ℕ) → own u ≤ n) → (left t : ℕ) → nearest own next left t ≤ n
unfolding nearest
nearest-le own next n h zero t = omega arith
nearest-le own next n h (suc left) t = pick (own t) (next t) (h t) (λ b. nearest-le own next n h left b)
  where
    pick : (o b : ℕ) → o ≤ n → ((u : ℕ) → nearest own next left u ≤ n) → or_else o (if_found 0 (λ u. nearest own next left u) b) ≤ n
    pick zero zero g r = omega arith
    pick zero (suc u) g r = r u
    pick (suc o) b g r = g

pub find-le : (m : Model) (x : List ℕ) (t : ℕ) → find m x t ≤ m.properties
unfolding find own
find-le m x t = nearest-le _ m.base m.properties (λ u. from_zero _ m.properties) m.types t

-- ---- one code
-- Where the step is a property, its number is below n.
abbrev pub Below : ℕ → Step → Type 0
Below n s = (p : ℕ) → s ≡ property p → p < n

pub step_below : (m : Model) (t : ℕ) (g : Segment) → Below m.properties (step_at m t g)
unfolding step_at
step_below m t (name x) p e = go (find m x t) refl e
  where
    go : (f : ℕ) → find m x t ≡ f → if_found nothing (λ q. property q) f ≡ property p → p < m.properties
    go zero z q = absurd (false≢true (ap no_property (sym q)))
    go (suc k) z q = let n : k ≡ p = ap (of_property 0 (λ i. i)) q in omega (arith, find-le m x t)
step_below m t (cast c) p e = absurd (false≢true (ap no_property (sym e)))

pub code-cast : (s : Step) → Below 32768 s → cast_code (step_code s) ≡ no_property s
code-cast (property p) h = lt-leb 32768 p (h p refl)
code-cast (type c) h = le-leb 32768 (32768 + c) (omega arith)
code-cast nothing h = refl

pub code_is : (test : ℕ → Bool) (s : Step) → Below 32768 s → is_code test (step_code s) ≡ is_property test s
code_is test (property p) h = rw (lt-ltb p 32768 (h p refl))
code_is test (type c) h = let e : 32768 ≤ 32768 + c = omega arith in rw (le-ltb (32768 + c) 32768 e)
code_is test nothing h = refl

pub code_moves : (m : Model) (t : ℕ) (g : Segment) → m.properties ≤ 32768 → code_to m (step_code (step_at m t g)) ≡ moves_to m t g
unfolding code_to step_at moves_to
code_moves m t (name x) h = go (find m x t) refl
  where
    go : (f : ℕ) → find m x t ≡ f → code_to m (step_code (if_found nothing (λ q. property q) f)) ≡ if_found no_reference (λ q. m.type_ref q) f
    go zero z = refl
    go (suc k) z = rw (lt-ltb k 32768 (omega (arith, find-le m x t)))
code_moves m t (cast c) h =
    let e : 32768 ≤ 32768 + c = omega arith in
    let d : 32768 + c - 32768 ≡ c = omega arith in
    rw (le-ltb (32768 + c) 32768 e, d)

-- ---- names before the last name
abbrev step_names : Step → List ℕ
step_names (property p) = p ∷ []
step_names (type c) = []
step_names nothing = []

names_more : (g : ℕ → Step) (i n : ℕ) → properties (tab g i (suc n)) ≡ properties (tab g i n) ++ step_names (g (i + n))
unfolding tab properties
names_more g i zero = rw (add-zero i) (one (g i))
  where
    one : (s : Step) → properties (s ∷ []) ≡ step_names s
    one (property p) = refl
    one (type c) = refl
    one nothing = refl
names_more g i (suc n) = let e : i + suc n ≡ i + 1 + n = omega arith in rw e (front (g i) (tab g (i + 1) (suc n)) (tab g (i + 1) n) _ (names_more g (i + 1) n))
  where
    front : (s : Step) (l r : List Step) (k : List ℕ) → properties l ≡ properties r ++ k → properties (s ∷ l) ≡ properties (s ∷ r) ++ k
    front (property p) l r k h = ap (λ x. p ∷ x) h
    front (type c) l r k h = h
    front nothing l r k h = h

some-names : (test : ℕ → Bool) (l : List Step) → some test (properties l) ≡ some (λ s. is_property test s) l
unfolding some properties
some-names test [] = refl
some-names test (property p ∷ l) = rw (some-names test l)
some-names test (type c ∷ l) = some-names test l
some-names test (nothing ∷ l) = some-names test l

last_none : (x : ℕ) → last_or x [] ≡ x
unfolding last_or
last_none x = refl

last_end : (d x : ℕ) (l : List ℕ) → last_or d (l ++ (x ∷ [])) ≡ x
unfolding last_or
last_end d x [] = refl
last_end d x (y ∷ l) = last_end y x l

but_last_end : (x : ℕ) (l : List ℕ) → but_last (l ++ (x ∷ [])) ≡ l
unfolding but_last
but_last_end x [] = refl
but_last_end x (y ∷ []) = refl
but_last_end x (y ∷ (z ∷ l)) = rw (but_last_end x (z ∷ l))

-- The names of a binding's path: there is none, the last does not pass the test, or an earlier one is a navigation property without containment.
abbrev pub names_break : Model → (ℕ → Bool) → List ℕ → Bool
names_break m test l = is_empty l || last_fails test l || some (λ q. non_containment m q) (but_last l)

form_end : (m : Model) (test : ℕ → Bool) (x : ℕ) (l : List ℕ) → names_break m test (l ++ (x ∷ [])) ≡ (not (test x) || some (λ q. non_containment m q) l)
unfolding is_empty last_fails
form_end m test x [] = rw (last_none x, but_last_end x [])
form_end m test x (y ∷ l) = rw (last_end y x l, but_last_end x (y ∷ l))

-- ---- the steps of a path, by number
pub steps_list : (m : Model) (start first n : ℕ) → steps_of m start (prefix m first n) ≡ tab (λ k. step_no m start first k) 0 n
unfolding step_no
steps_list m start first n = steps_tab _ _ _ start first n

-- the property that the last step is, is one of the table
pub last_below : (m : Model) (start first n : ℕ) → Below m.properties (last_step (steps_of m start (prefix m first n)))
unfolding tab last_or step_no
last_below m start first n = rw (steps_list m start first n) (go n)
  where
    go : (j : ℕ) → Below m.properties (last_step (tab (λ k. step_no m start first k) 0 j))
    go zero = λ p e. absurd (false≢true (ap no_property (sym e)))
    go (suc j) = rw (last_tab (λ k. step_no m start first k) nothing 0 j) (step_below m _ _)

module _ (m : Model) (start first n : ℕ) (codes : List ℕ) (coded : (k : ℕ) → k < n → get_or codes k 0 ≡ code_at m start first k) (few : m.properties ≤ 32768) where
  no_small : (k : ℕ) → Below 32768 (step_no m start first k)
  unfolding step_no
  no_small k p e = omega (arith, step_below m (end_of m start (prefix m first k)) (segment_at m (first + k)) p e)

  code_no : (k : ℕ) → k < n → get_or codes k 0 ≡ step_code (step_no m start first k)
  unfolding code_at
  code_no k h = coded k h

  -- a search over the first j codes is one over the first j steps
  pub codes_some : (f : ℕ → Bool) (q : Step → Bool) → ((s : Step) → Below 32768 s → f (step_code s) ≡ q s) → (j : ℕ) → j ≤ n
      → any_from (λ k. f (get_or codes k 0)) 0 j ≡ some q (tab (λ k. step_no m start first k) 0 j)
  codes_some f q e j h =
      any_same _ _ 0 j (λ k a b. ap f (code_no k (omega arith)) ∙ e (step_no m start first k) (no_small k))
      ∙ sym (some-tab q (λ k. step_no m start first k) 0 j)

  pub codes_all : (f : ℕ → Bool) (q : Step → Bool) → ((s : Step) → Below 32768 s → f (step_code s) ≡ q s)
      → any_from (λ k. f (get_or codes k 0)) 0 n ≡ some q (steps_of m start (prefix m first n))
  codes_all f q e = rw (steps_list m start first n) (codes_some f q e n (omega arith))

  pub codes_but_last : (f : ℕ → Bool) (q : Step → Bool) → ((s : Step) → Below 32768 s → f (step_code s) ≡ q s)
      → any_from (λ k. f (get_or codes k 0)) 0 (n - 1) ≡ some q (but_last (steps_of m start (prefix m first n)))
  codes_but_last f q e = rw (steps_list m start first n, but_last_tab (λ k. step_no m start first k) 0 n) (codes_some f q e (n - 1) (omega arith))

  -- the path has a cast
  pub cast_steps : any_from (λ k. cast_code (get_or codes k 0)) 0 n ≡ has_cast (steps_of m start (prefix m first n))
  cast_steps = codes_all cast_code (λ s. no_property s) code-cast

  -- a step but the last is a property that passes; that does not pass
  pub is_steps : (test : ℕ → Bool) → any_from (λ k. is_code test (get_or codes k 0)) 0 (n - 1) ≡ some (λ s. is_property test s) (but_last (steps_of m start (prefix m first n)))
  is_steps test = codes_but_last (is_code test) (λ s. is_property test s) (code_is test)

  pub other_steps : (test : ℕ → Bool) → any_from (λ k. other_code test (get_or codes k 0)) 0 (n - 1) ≡ some (λ s. is_other test s) (but_last (steps_of m start (prefix m first n)))
  other_steps test = is_steps (λ p. not (test p))

  -- the last step, by its code
  pub last_step_lem : last_code codes n ≡ step_code (last_step (steps_of m start (prefix m first n)))
  unfolding last_code tab last_or
  last_step_lem = rw (steps_list m start first n) (go n refl)
    where
      go : (j : ℕ) → j ≡ n → last_code codes j ≡ step_code (last_step (tab (λ k. step_no m start first k) 0 j))
      go zero e = refl
      go (suc j) e = let l : suc j - 1 ≡ j = omega arith in rw (eqb-suc-zero j, l, last_tab (λ k. step_no m start first k) nothing 0 j, zero-add j) (code_no j (omega arith))

  last_small : Below 32768 (last_step (steps_of m start (prefix m first n)))
  last_small p e = omega (arith, last_below m start first n p e)

  pub last_is : (test : ℕ → Bool) → is_code test (last_code codes n) ≡ is_property test (last_step (steps_of m start (prefix m first n)))
  last_is test = rw last_step_lem (code_is test (last_step (steps_of m start (prefix m first n))) last_small)

  pub last_other : (test : ℕ → Bool) → other_code test (last_code codes n) ≡ is_other test (last_step (steps_of m start (prefix m first n)))
  last_other test = last_is (λ p. not (test p))

  pub last_cast : cast_code (last_code codes n) ≡ no_property (last_step (steps_of m start (prefix m first n)))
  last_cast = rw last_step_lem (code-cast (last_step (steps_of m start (prefix m first n))) last_small)

  -- the property that the last step is
  pub last_number : (p : ℕ) → last_step (steps_of m start (prefix m first n)) ≡ property p → number_of (last_code codes n) ≡ p
  last_number p e = rw (last_step_lem, e, lt-ltb p 32768 (last_small p e))

  -- the type reference at the end
  code_end_lem : (j : ℕ) → code_to m (step_code (step_no m start first j)) ≡ end_of m start (prefix m first (suc j))
  unfolding step_no
  code_end_lem j = code_moves m _ _ few ∙ sym (end_more (λ u x. moves_to m u x) (λ x. segment_at m x) start first j)

  pub end_steps : code_end m start codes n ≡ end_of m start (prefix m first n)
  unfolding code_end tab along_end
  end_steps = go n refl
    where
      go : (j : ℕ) → j ≡ n → code_end m start codes j ≡ end_of m start (prefix m first j)
      go zero e = refl
      go (suc j) e =
          let l : suc j - 1 ≡ j = omega arith in
          rw (eqb-suc-zero j, l, code_no j (omega arith)) (code_end_lem j)

  -- the form of a target path (rule 19)
  pub target_steps : (any_from (λ k. other_code (λ p. target_step m p) (get_or codes k 0)) 0 (n - 1) || other_code (λ p. contain_step m p) (last_code codes n))
      ≡ (some (λ s. is_other (λ p. target_step m p) s) (but_last (steps_of m start (prefix m first n))) || is_other (λ p. contain_step m p) (last_step (steps_of m start (prefix m first n))))
  target_steps = rw (other_steps (λ p. target_step m p), last_other (λ p. contain_step m p))

  -- the form of a binding's path (rule 19): up to its last name
  pub binding_steps : (test : ℕ → Bool) → form_of test (λ q. non_containment m q) codes (last_name codes n) ≡ names_break m test (properties (steps_of m start (prefix m first n)))
  unfolding last_name tab properties form_of is_empty last_fails
  binding_steps test = rw (steps_list m start first n) (go n (omega arith))
    where
      ends : (j : ℕ) (s : Step) → j < n → get_or codes j 0 ≡ step_code s → Below 32768 s
          → form_of test (λ q. non_containment m q) codes (last_name codes j) ≡ names_break m test (properties (tab (λ k. step_no m start first k) 0 j))
          → form_of test (λ q. non_containment m q) codes (cond (cast_code (get_or codes j 0)) (last_name codes j) (suc j)) ≡ names_break m test (properties (tab (λ k. step_no m start first k) 0 j) ++ step_names s)
      ends j (property p) h e small old =
          rw (
            e,
            lt-leb 32768 p (small p refl),
            e,
            form_end m test p (properties (tab (λ k. step_no m start first k) 0 j)),
            some-names (λ q. non_containment m q) (tab (λ k. step_no m start first k) 0 j),
            ← codes_some (is_code (λ q. non_containment m q)) (λ s. is_property (λ q. non_containment m q) s) (code_is (λ q. non_containment m q)) j (omega arith),
          )
      ends j (type c) h e small old = rw (e, le-leb 32768 (32768 + c) (omega arith), append-nil) old
      ends j nothing h e small old = rw (e, append-nil) old

      go : (j : ℕ) → j ≤ n → form_of test (λ q. non_containment m q) codes (last_name codes j) ≡ names_break m test (properties (tab (λ k. step_no m start first k) 0 j))
      go zero h = refl
      go (suc j) h = rw (names_more (λ k. step_no m start first k) 0 j, zero-add j) (ends j (step_no m start first j) (omega arith) (code_no j (omega arith)) (no_small j) (go j (omega arith)))
