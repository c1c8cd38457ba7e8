-- Properties by name: those that have the same name are of one class, which is known by the number of its first property.
use Rattle.std.specs.Prelude.{ℕ, suc, ◌+◌, ◌-◌, ◌≤◌, ◌<◌, ◌≡◌, List, Bool, true, false, cond, not, ◌&&◌, eqb, ltb, leb, length, get_or}
use Rattle.packed.specs.Bytes.{part, same}
use Rattle.csdl.specs.Search.{any_from, count_from}
use Rattle.csdl.specs.Tables.{property_name}
use Rattle.name_classes.specs.Order.{before}

-- The name of property p.
abbrev pub name_of : List ℕ → List ℕ → ℕ → List ℕ
name_of properties names p = part names (property_name properties p).start (property_name properties p).size

-- Property p is the first of its name: none before it has the name. Among n properties there are as many names as such properties.
abbrev pub is_first : (ℕ → List ℕ) → ℕ → Bool
is_first name p = not (any_from (λ q. same (name q) (name p)) 0 p)

abbrev pub name_count : (ℕ → List ℕ) → ℕ → ℕ
name_count name n = count_from (λ p. is_first name p) 0 n

-- How many of these names come before x.
abbrev pub name_rank : (ℕ → List ℕ) → ℕ → List ℕ → ℕ
name_rank name n x = count_from (λ p. is_first name p && before (name p) x) 0 n

-- The entries up to `firsts` are properties in the order of their names, no two of one name.
abbrev pub Sorted : (ℕ → List ℕ) → List ℕ → ℕ → Type 0
Sorted name order firsts = (i j : ℕ) → i < j → j < firsts → before (name (get_or order i 0)) (name (get_or order j 0)) ≡ true

-- Where a name stands among them: those in front come before it, the others do not.
pub record Stands (name : ℕ → List ℕ) (order : List ℕ) (firsts : ℕ) (x : List ℕ) (at : ℕ) : Type 0 where
  pub most : at ≤ firsts
  pub front : (i : ℕ) → i < at → before (name (get_or order i 0)) x ≡ true
  pub back : (i : ℕ) → at ≤ i → i < firsts → before (name (get_or order i 0)) x ≡ false

-- The entry at the place, if it has the name: 0 for none, else its number plus 1.
unfoldable pub first_at : (ℕ → List ℕ) → List ℕ → ℕ → ℕ → List ℕ → ℕ
first_at name order firsts at x = cond (ltb at firsts && same (name (get_or order at 0)) x) (suc (get_or order at 0)) 0

-- One entry more, the p at a place, and what stood there and behind it one place on.
pub record Inserted (order : List ℕ) (firsts at p : ℕ) (next : List ℕ) : Type 0 where
  pub size : length next ≡ length order
  pub front : (i : ℕ) → i < at → get_or next i 0 ≡ get_or order i 0
  pub here : get_or next at 0 ≡ p
  pub back : (i : ℕ) → at ≤ i → i < firsts → get_or next (suc i) 0 ≡ get_or order i 0
  pub rest : (i : ℕ) → firsts < i → get_or next i 0 ≡ get_or order i 0

-- What entry i then is.
abbrev pub entry_after : List ℕ → ℕ → ℕ → ℕ → ℕ → ℕ
entry_after order firsts at p i = cond (eqb i at) p (cond (ltb at i && leb i firsts) (get_or order (i - 1) 0) (get_or order i 0))

-- The first n properties by name. Entry 512 + q has the number of the first property that has the name of property q, plus 1. The entries from 0 on have
-- these first properties in the order of their names, each once, so that a test counts as many there; how many there are stands in entry 1536.
pub record Ranked (name : ℕ → List ℕ) (n firsts : ℕ) (index : List ℕ) : Type 0 where
  pub size : length index ≡ 1793
  pub most : firsts ≤ n
  pub counted : (test : ℕ → Bool) → count_from (λ p. is_first name p && test p) 0 n ≡ count_from (λ i. test (get_or index i 0)) 0 firsts
  pub sorted : Sorted name index firsts
  pub below : (i : ℕ) → i < firsts → get_or index i 0 < n
  pub first : (i : ℕ) → i < firsts → (q : ℕ) → q < get_or index i 0 → name q ≡ name (get_or index i 0) → ⊥
  pub stands : (q : ℕ) → q < n → any_from (λ i. eqb (get_or index (512 + q) 0) (suc (get_or index i 0)) && same (name (get_or index i 0)) (name q)) 0 firsts ≡ true
