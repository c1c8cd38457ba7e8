-- The slots of a run against a set of properties. Assumes nothing.
use Prim.Native.Nat.{ℕ, zero, suc, ◌+◌, ◌-◌, ◌*◌, ◌≤◌, ◌<◌}
use mathlib.Core.Path.{◌≡◌, refl, sym, ap, ◌∙◌}
use mathlib.Core.Bool.{Bool, true, false, not, ◌&&◌, ◌||◌, or-false, false≢true}
use mathlib.Core.List.{List}
use native.Mathlib.Omega.{arith}
use native.Mathlib.Numerals.{add-one}
use Rattle.std.proofs.Common.{Some}
use lib.Dec.{eqb, ltb}
use lib.ListN.{length, replicate, length-replicate}
use borrow.Author.Tests.{eq-eqb, ne_eqb, lt-ltb, le-ltb}
use Rattle.csdl.specs.Search.{sum_from, one_if, found}
use Rattle.csdl.specs.declared.Run.{Run}
use Rattle.csdl.specs.Model.{Model}
use Rattle.csdl.specs.Find.{is_name_of}
use Rattle.csdl.specs.Instance.{Instance}
use Rattle.csdl.specs.Conforms.{slots_of, node23}
use Rattle.csdl.proofs.Logic.{any_of, none_any, any_same, equal_or_not, below_or_not}
use Rattle.type_hierarchy.specs.Sets.{member, Members}
use Rattle.type_hierarchy.proofs.SetLaws.{member-none}
use Rattle.type_names.specs.Wide.{wide, MembersWide, unlike_wide, with_row}
use Rattle.type_names.proofs.WideLaws.{wide-none, Unlike, unlike_sets, replaced}
use Rattle.instance_values.specs.Rows.{slots_with, unlike_set, Rows}

-- ---- sums
sum_split : (f : ℕ → ℕ) (a b i : ℕ) → sum_from f i (a + b) ≡ sum_from f i a + sum_from f (i + a) b
unfolding sum_from
sum_split f zero b i = let e : i + 0 ≡ i = omega arith in let z : 0 + b ≡ b = omega arith in rw (e, z) (omega arith)
sum_split f (suc a) b i =
    let e : i + 1 + a ≡ i + suc a = omega arith in
    let z : suc a + b ≡ suc (a + b) = omega arith in
    rw (z, sum_split f a b (i + 1), e) (omega arith)

sum_one : (f : ℕ → ℕ) (i : ℕ) → sum_from f i 1 ≡ f i
unfolding sum_from
sum_one f i = omega arith

sum_none : (f : ℕ → ℕ) (i : ℕ) → sum_from f i 0 ≡ 0
unfolding sum_from
sum_none f i = refl

sum_more : (f : ℕ → ℕ) (i n : ℕ) → sum_from f i (n + 1) ≡ sum_from f i n + f (i + n)
sum_more f i n = sum_split f n 1 i ∙ rw (sum_one f (i + n))

sum_part : (f : ℕ → ℕ) (i a n : ℕ) → a ≤ n → sum_from f i a ≤ sum_from f i n
sum_part f i a n h = let e : a + (n - a) ≡ n = omega arith in rw e at (more (sum_split f a (n - a) i))
  where
    more : sum_from f i (a + (n - a)) ≡ sum_from f i a + sum_from f (i + a) (n - a) → sum_from f i a ≤ sum_from f i (a + (n - a))
    more q = omega (arith, q)

one_if_false : (b : Bool) → b ≡ false → one_if b ≡ 0
one_if_false b e = rw e

-- ---- the slots of a run one after the other: `seen` has the properties that were met
pub record Slotted (i : Instance) (n : ℕ) (run : Run) (seen : List ℕ) (done : ℕ) : Type 0 where
  pub size : length seen ≡ 8
  pub most : done ≤ run.count
  pub counted : (p : ℕ) → p < n → one_if (wide seen 0 p) ≡ slots_with i run.first done p
  pub none : (p : ℕ) → n ≤ p → p < 512 → wide seen 0 p ≡ false

module _ (i : Instance) (rows : List ℕ) (from n : ℕ) (run : Run) (few : n ≤ 512) where
  pub slotted_start : Slotted i n run (replicate 8 0) 0
  slotted_start = record {
    size = length-replicate {A = ℕ} 8 0;
    most = omega arith;
    counted = λ p h. one_if_false _ (wide-none p (omega arith)) ∙ sym (sum_none _ run.first);
    none = λ p h k. wide-none p k;
  }

  module _ (seen : List ℕ) (done : ℕ) (w : Slotted i n run seen done) (l : done < run.count) (x : ℕ) (e : x ≡ i.slot_property (run.first + done)) where
    more : (p : ℕ) → slots_with i run.first (done + 1) p ≡ slots_with i run.first done p + one_if (eqb x p)
    more p = sum_more (λ s. one_if (eqb (i.slot_property s) p)) run.first done ∙ rw (← e)

    -- A property that does not count.
    pub slotted_past : n ≤ x → Slotted i n run seen (done + 1)
    slotted_past h = record {
      size = w.size;
      most = omega arith;
      counted = λ p k. w.counted p k ∙ sym (more p ∙ rw (ne_eqb x p (λ y. omega (arith, y, h, k))) (omega arith));
      none = w.none;
    }

    -- A property that is not in the set, or was met before.
    pub slotted_wrong : x < n → (a b : Bool) → a ≡ wide rows from x → b ≡ wide seen 0 x → (not a || b) ≡ true → true ≡ unlike_set i rows from n run
    slotted_wrong h a b p q g =
        sym (any_of _ 0 n x (omega arith) (omega arith) (ap not (ne_eqb (slots_with i run.first run.count x) (one_if (wide rows from x)) (λ y. omega (arith, y, most-one, at_least)))))
      where
        met : slots_with i run.first (done + 1) x ≡ one_if b + 1
        met = more x ∙ rw (eq-eqb x x refl, ← w.counted x h, ← q)

        at_least : one_if b + 1 ≤ slots_with i run.first run.count x
        at_least = rw (← met) (sum_part (λ s. one_if (eqb (i.slot_property s) x)) run.first (done + 1) run.count (omega arith))

        over : (a b : Bool) → (not a || b) ≡ true → one_if a ≤ one_if b
        over true true g = omega arith
        over true false g = absurd (false≢true g)
        over false b g = omega arith

        most-one : one_if (wide rows from x) ≤ one_if b
        most-one = rw (← p) (over a b g)

    -- A property of the set, met for the first time.
    pub slotted_more : x < n → (a b : Bool) → a ≡ wide rows from x → b ≡ wide seen 0 x → (not a || b) ≡ false
        → (next : List ℕ) → length next ≡ 8 → MembersWide next 0 (λ q. wide seen 0 q || eqb x q) → Slotted i n run next (done + 1)
    slotted_more h a b p q g next s f = record {
      size = s;
      most = omega arith;
      counted = λ k m. ap one_if (f k (omega arith)) ∙ equal_or_not k x
          (λ z. rw (z, eq-eqb x x refl) (one_if_or (wide seen 0 x) ∙ sym (more x ∙ rw (eq-eqb x x refl, ← w.counted x h, ← q, fresh a b g))))
          (λ z. rw (ne_eqb x k (λ y. z (sym y)), or-false (wide seen 0 k)) (w.counted k m ∙ sym (more k ∙ rw (ne_eqb x k (λ y. z (sym y))) (omega arith))));
      none = λ k m u. f k u ∙ rw (w.none k m u, ne_eqb x k (λ y. omega (arith, y, h, m)));
    }
      where
        one_if_or : (b : Bool) → one_if (b || true) ≡ 1
        one_if_or true = refl
        one_if_or false = refl

        fresh : (a b : Bool) → (not a || b) ≡ false → b ≡ false
        fresh true b g = g
        fresh false b g = absurd (false≢true (sym g))

  pub slotted_end : (seen : List ℕ) (done : ℕ) → ((p : ℕ) → n ≤ p → p < 512 → wide rows from p ≡ false) → run.count ≤ done → Slotted i n run seen done → (r : Bool) → r ≡ unlike_wide seen rows from → r ≡ unlike_set i rows from n run
  slotted_end seen done past h w r q = go r refl
    where
      u : Unlike seen rows from r
      u = unlike_sets seen rows from r q

      all : done ≡ run.count
      all = omega (arith, h, w.most)

      count-is : (p : ℕ) → p < n → one_if (wide seen 0 p) ≡ slots_with i run.first run.count p
      count-is p k = w.counted p k ∙ rw all

      one_if_same : (a b : Bool) → one_if a ≡ one_if b → a ≡ b
      one_if_same true true e = refl
      one_if_same true false e = absurd (omega arith)
      one_if_same false true e = absurd (omega arith)
      one_if_same false false e = refl

      go : (b : Bool) → r ≡ b → b ≡ unlike_set i rows from n run
      go true e =
          let d = u.some e in
          let p = d.0 in
          let k : p < n = below_or_not p n (λ l. l) (λ l. absurd (d.2 (w.none p l d.1 ∙ sym (past p l d.1)))) in
          sym (any_of _ 0 n p (omega arith) (omega (arith, k)) (ap not (ne_eqb _ _ (λ y. d.2 (one_if_same _ _ (count-is p k ∙ y))))))
      go false e =
          sym (none_any _ 0 n (λ p a k. ap not (eq-eqb _ _ (sym (count-is p (omega (arith, k))) ∙ ap one_if (u.none e p (omega (arith, k)))))))

-- ---- the rows of the types that were met
module _ (m : Model) where
  abbrev named : ℕ → ℕ → Bool
  named t p = ltb p m.properties && is_name_of m t p

  pub rows_start : Rows m (replicate 512 0) 0
  rows_start = record {
    size = length-replicate {A = ℕ} 512 0;
    is = λ t h e. absurd (false≢true (sym (member-none t) ∙ e));
  }

  rows_more : (rows row next : List ℕ) (done more t : ℕ) → Rows m rows done → MembersWide row 0 (named t) → t < 64 → next ≡ with_row rows row t
      → Members 64 more (λ u. member done u || eqb t u) → Rows m next more
  rows_more rows row next done more t w h s e m = let n = replaced rows row t next s e in record {
    size = n.size;
    is = λ u k f. equal_or_not u t
        (λ z. rw z (λ p l. n.here p l ∙ h p l))
        (λ z. λ p l. n.other u p k z l ∙ w.is u k (sym (or-false (member done u)) ∙ sym (rw (ne_eqb t u (λ y. z (sym y))) at (m u k)) ∙ f) p l);
  }

  rows_has : (done more t : ℕ) → t < 64 → Members 64 more (λ u. member done u || eqb t u) → member more t ≡ true
  rows_has done more t h m = m t h ∙ rw (eq-eqb t t refl) (or-true (member done t))
    where
      or-true : (b : Bool) → b || true ≡ true
      or-true true = refl
      or-true false = refl

  -- After a step that makes the row of t, and after one that has it.
  pub row_made : (rows row next : List ℕ) (done more t : ℕ) → Rows m rows done → MembersWide row 0 (named t) → t < 64 → next ≡ with_row rows row t
      → Members 64 more (λ u. member done u || eqb t u) → (rows' : List ℕ) → rows' ≡ next → (done' : ℕ) → done' ≡ more
      → Rows m rows' done' × (member done' t ≡ true)
  row_made rows row next done more t w h s e m rows' a done' b = rw (a, b) (rows_more rows row next done more t w h s e m, rows_has done more t s m)

  pub row_kept : (rows : List ℕ) (done t : ℕ) → Rows m rows done → member done t ≡ true → (rows' : List ℕ) → rows' ≡ rows → (done' : ℕ) → done' ≡ done
      → Rows m rows' done' × (member done' t ≡ true)
  row_kept rows done t w m rows' a done' b = rw (a, b) (w, m)

  module _ (rows : List ℕ) (done t : ℕ) (w : Rows m rows done) (h : t < 64) (e : member done t ≡ true) where
    pub row_past : (n : ℕ) → n ≡ m.properties → (p : ℕ) → n ≤ p → p < 512 → wide rows (8 * t) p ≡ false
    row_past n z p k l = w.is t h e p l ∙ rw (le-ltb p m.properties (omega arith))

    row-names : (p : ℕ) → p < 512 → p < m.properties → wide rows (8 * t) p ≡ is_name_of m t p
    row-names p k l = w.is t h e p k ∙ rw (lt-ltb p m.properties l)

    pub row_23 : (i : Instance) (v n : ℕ) (run : Run) → n ≡ m.properties → n ≤ 512 → t ≡ i.node_type v → (run.first ≡ (i.node_slots v).first) × (run.count ≡ (i.node_slots v).count)
        → (r : Bool) → r ≡ unlike_set i rows (8 * t) n run
        → r ≡ node23 m i v
    unfolding slots_of node23
    row_23 i v n run z few a b r q =
        q
        ∙ any_same _ _ 0 n (λ p j k. ap (λ (x : Bool). not (eqb (slots_with i run.first run.count p) (one_if x))) (row-names p (omega (arith, k, few)) (omega (arith, k, z))))
        ∙ rw (← a, ← b.0, ← b.1, ← z)

-- What a loop that stops at number k answers.
pub found-hit : (k f : ℕ) → k + 1 ≡ f → Some k ≡ found f
found-hit k f e = rw (← e, add-one k)
