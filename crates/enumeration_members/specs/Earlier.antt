-- What the check keeps of the members that it has been at: their order; for each type how many are of it, and the first that is.
use Rattle.std.specs.Prelude.{ℕ, ◌<◌, ◌≡◌, List, ◌∷◌, eqb, length, get_or, Option}
use Rattle.csdl.specs.Search.{first_from, count_from, found}
use Rattle.csdl.specs.Members.{Members, member_text}
use Rattle.name_classes.specs.Classes.{Sorted}

-- A member by its type and name, as one string.
abbrev pub member_key : Members → ℕ → List ℕ
member_key e r = e.member_type r ∷ member_text e r

-- The first n entries are the first n members in the order of their keys, no two of one key.
pub record Ordered (e : Members) (n : ℕ) (order : List ℕ) : Type 0 where
  pub size : length order ≡ 1024
  pub sorted : Sorted (λ r. member_key e r) order n
  pub below : (i : ℕ) → i < n → get_or order i 0 < n
  pub holds : (r : ℕ) → r < n → (i : ℕ) × (i < n) × (get_or order i 0 ≡ r)

-- Of the first n members, how many are of type t, and the first that is: 0 for none, else its number plus 1.
abbrev pub count_of : Members → ℕ → ℕ → ℕ
count_of e n t = count_from (λ s. eqb (e.member_type s) t) 0 n

abbrev pub first_of : Members → ℕ → ℕ → ℕ
first_of e n t = first_from (λ s. eqb (e.member_type s) t) 0 n

-- The two lists have these numbers of each type.
pub record Tally (e : Members) (n : ℕ) (counts : List ℕ) (firsts : List (Option ℕ)) : Type 0 where
  pub counts_size : length counts ≡ 64
  pub firsts_size : length firsts ≡ 64
  pub count : (t : ℕ) → t < 64 → get_or counts t 0 ≡ count_of e n t
  pub first : (t : ℕ) (d : Option ℕ) → t < 64 → get_or firsts t d ≡ found (first_of e n t)
