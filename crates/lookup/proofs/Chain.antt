-- The index of the properties: filling its chains, and following one. Assumes nothing.
use Prim.Native.Nat.{ℕ, suc, ◌+◌, ◌-◌, ◌≤◌, ◌<◌}
use mathlib.Core.Path.{◌≡◌, refl, sym, ap, ◌∙◌}
use mathlib.Core.List.{List}
use mathlib.Core.Bool.{Bool, true, false}
use native.Mathlib.Nat.{sub_self, sub-zero}
use native.Mathlib.Numerals.{add-one}
use native.Mathlib.Omega.{arith}
use lib.Dec.{eqb}
use lib.ListN.{length, get_or, set, replicate, length-set, length-replicate, get_or-replicate}
use lib.Seq.{get_or-set_same, get_or-set_other}
use borrow.Author.Tests.{eq-eqb, ne_eqb}
use Rattle.packed.specs.Bytes.{same}
use Rattle.packed.proofs.Laws.{same_sound}
use Rattle.csdl.specs.Search.{first_from}
use Rattle.csdl.specs.Tables.{property_count}
use Rattle.csdl.proofs.Logic.{first_found, first-none, first-same, equal_or_not}
use Rattle.name_classes.specs.Classes.{name_of, Ranked}
use Rattle.name_classes.proofs.Ranks.{entry_low, same_class, entry_first, ranked-kept}
use Rattle.lookup.specs.Index.{named_from, Indexed}
use Rattle.csdl.proofs.Loops.{one_more}

-- ---- filling, of n numbers in the classes that `at` gives
module _ (at : ℕ → ℕ) (n : ℕ) (old : List ℕ) where
  abbrev chain : ℕ → ℕ → ℕ
  chain b k = first_from (λ p. eqb (at p) b) k (n - k)

  chain_none : (b : ℕ) → chain b n ≡ 0
  unfolding first_from
  chain_none b = rw (sub_self n)

  chain_here : (b p : ℕ) → p < n → at p ≡ b → chain b p ≡ suc p
  unfolding first_from
  chain_here b p h e = rw (one_more n p h, eq-eqb (at p) b e)

  chain_on : (b p : ℕ) → p < n → (at p ≡ b → ⊥) → chain b p ≡ chain b (p + 1)
  unfolding first_from
  chain_on b p h e = rw (one_more n p h, ne_eqb (at p) b e)

  -- The entries when the numbers from p on are in.
  pub record Filled (p : ℕ) (index later : List ℕ) : Type 0 where
    pub size : length index ≡ 1793
    pub places : length later ≡ 513
    pub first : (b : ℕ) → b < 513 → get_or later b 0 ≡ chain b p
    pub next : (q : ℕ) → p ≤ q → q < n → get_or index (1024 + q) 0 ≡ chain (at q) (q + 1)
    pub kept : (i : ℕ) → i < 1024 → get_or index i 0 ≡ get_or old i 0
    pub last : get_or index 1536 0 ≡ get_or old 1536 0

  pub filled_start : length old ≡ 1793 → Filled n old (replicate 513 0)
  filled_start s = record {
    size = s;
    places = length-replicate {A = ℕ} 513 0;
    first = λ b h. get_or-replicate {A = ℕ} 513 b 0 0 h ∙ sym (chain_none b);
    next = λ q h k. absurd (omega arith);
    kept = λ i h. refl;
    last = refl;
  }

  module _ (p b : ℕ) (e l : List ℕ) (few : n ≤ 512) (low : p < n) (here : b ≡ at p) (small : b < 513) (f : Filled (p + 1) e l) where
    pub filled_more : Filled p (set e (1024 + p) (get_or l b 0)) (set l b (p + 1))
    filled_more =
        let v = get_or l b 0 in
        record {
          size = length-set e (1024 + p) v ∙ f.size;
          places = length-set l b (p + 1) ∙ f.places;
          first = λ c h. equal_or_not c b
              (λ z. rw z (get_or-set_same l b (p + 1) 0 (rw f.places small) ∙ add-one p ∙ sym (chain_here b p low (sym here))))
              (λ z. get_or-set_other l b c (p + 1) 0 z ∙ f.first c h ∙ sym (chain_on c p low (λ y. z (sym y ∙ sym here))));
          next = λ q h k. equal_or_not q p
              (λ z. rw z (get_or-set_same e (1024 + p) v 0 (rw f.size (omega arith)) ∙ f.first b small ∙ rw here))
              (λ z. get_or-set_other e (1024 + p) (1024 + q) v 0 (λ y. z (omega (arith, y))) ∙ f.next q (omega (arith, h, z)) k);
          kept = λ i h. get_or-set_other e (1024 + p) i v 0 (λ y. omega (arith, y, h)) ∙ f.kept i h;
          last = get_or-set_other e (1024 + p) 1536 v 0 (λ y. omega (arith, y, low, few)) ∙ f.last;
        }

  -- An entry past these changes nothing.
  pub filled_past : (p : ℕ) (e l : List ℕ) (k v : ℕ) → n ≤ 512 → 1536 < k → Filled p e l → Filled p (set e k v) l
  filled_past p e l k v few h f = record {
    size = length-set e k v ∙ f.size;
    places = f.places;
    first = f.first;
    next = λ q a b. get_or-set_other e k (1024 + q) v 0 (λ y. omega (arith, y, b, few, h)) ∙ f.next q a b;
    kept = λ i a. get_or-set_other e k i v 0 (λ y. omega (arith, y, a, h)) ∙ f.kept i a;
    last = get_or-set_other e k 1536 v 0 (λ y. omega (arith, y, h)) ∙ f.last;
  }

-- The index of n properties, which are all.
pub indexed : (properties names old index later : List ℕ) (n : ℕ) → n ≡ property_count properties → n ≤ 512 → Ranked (λ p. name_of properties names p) n (get_or old 1536 0) old
    → Filled (λ p. get_or old (512 + p) 0) n old 0 index later → Indexed properties names index
indexed properties names old index later n all few r f = record {
  ranked = rw all at (ranked-kept (λ p. name_of properties names p) n old index few f.size f.last f.kept r);
  next = rw all at next;
}
  where
    next : (p : ℕ) → p < n → get_or index (1024 + p) 0 ≡ first_from (λ q. same (name_of properties names q) (name_of properties names p)) (p + 1) (n - (p + 1))
    next p h = f.next p (omega arith) h
        ∙ first-same _ _ (p + 1) (n - (p + 1)) (λ k a b. same_class (λ p. name_of properties names p) n (get_or old 1536 0) old r k p (omega (arith, b, h)) h)

-- The entry of a property, as the code reads it.
pub entry_read : (properties names old index later : List ℕ) (n p : ℕ) → n ≤ 512 → p < n
    → Ranked (λ p. name_of properties names p) n (get_or old 1536 0) old
    → Filled (λ p. get_or old (512 + p) 0) n old (p + 1) index later
    → (get_or index (512 + p) 0 ≡ get_or old (512 + p) 0) × (get_or index (512 + p) 0 < 513)
entry_read properties names old index later n p few h r f =
    let e : get_or index (512 + p) 0 ≡ get_or old (512 + p) 0 = f.kept (512 + p) (omega (arith, h, few)) in
    (e, rw e (entry_low (λ p. name_of properties names p) n (get_or old 1536 0) old r few p h))

-- ---- following the chain of a name
module _ (properties names name : List ℕ) where
  -- Where the chain goes on from number k: at p, which has the name, and no number between has it.
  pub record Reached (k p : ℕ) : Type 0 where
    pub from : k ≤ p
    pub below : p < property_count properties
    pub named : same (name_of properties names p) name ≡ true
    pub skips : (j : ℕ) → k ≤ j → j < p → same (name_of properties names j) name ≡ false

  module _ (k a : ℕ) (most : k ≤ property_count properties) (e : a ≡ named_from properties names name k) where
    pub reached : (p : ℕ) → a ≡ suc p → Reached k p
    reached p h =
        let w = first_found (λ q. same (name_of properties names q) name) k (property_count properties - k) p (sym e ∙ h) in
        record { from = w.0; below = omega (arith, w.1, most); named = w.2; skips = w.3 }

    pub ended : a ≡ 0 → (j : ℕ) → k ≤ j → j < property_count properties → same (name_of properties names j) name ≡ false
    ended h j l m = first-none (λ q. same (name_of properties names q) name) k (property_count properties - k) (sym e ∙ h) j l (omega (arith, m, most))

  pub goes_on : (index : List ℕ) → Indexed properties names index → (k p : ℕ) → Reached k p → (a : ℕ) → a ≡ get_or index (1024 + p) 0 → a ≡ named_from properties names name (p + 1)
  goes_on index x k p r a e = e ∙ x.next p r.below ∙ ap (λ (s : List ℕ). named_from properties names s (p + 1)) (same_sound _ _ r.named)

-- The chain of the name of p starts at the entry of p.
pub alike-start : (properties names index : List ℕ) → Indexed properties names index → (p : ℕ) → p < property_count properties → (a : ℕ) → a ≡ get_or index (512 + p) 0
    → a ≡ named_from properties names (name_of properties names p) 0
alike-start properties names index x p h a e =
    rw (sub-zero (property_count properties)) (e ∙ entry_first (λ p. name_of properties names p) (property_count properties) (get_or index 1536 0) index x.ranked p h)

-- A property that has the name leads to the first.
pub guess_start : (properties names index name : List ℕ) → Indexed properties names index → (p : ℕ) → p < property_count properties → (b : Bool) → b ≡ same (name_of properties names p) name → b ≡ true
    → (a : ℕ) → a ≡ get_or index (512 + p) 0 → a ≡ named_from properties names name 0
guess_start properties names index name x p h b e t a q =
    alike-start properties names index x p h a q ∙ ap (λ (s : List ℕ). named_from properties names s 0) (same_sound _ _ (sym e ∙ t))
