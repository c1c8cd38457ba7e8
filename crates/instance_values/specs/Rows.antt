-- Rule 23 over sets of properties.
use Rattle.std.specs.Prelude.{ℕ, ◌*◌, ◌<◌, ◌≡◌, Bool, true, not, ◌&&◌, List, eqb, ltb, length}
use Rattle.csdl.specs.Search.{any_from, count_from, one_if}
use Rattle.csdl.specs.declared.Run.{Run}
use Rattle.csdl.specs.Model.{Model}
use Rattle.csdl.specs.Find.{is_name_of}
use Rattle.csdl.specs.Instance.{Instance}
use Rattle.type_hierarchy.specs.Sets.{member}
use Rattle.type_names.specs.Wide.{wide, MembersWide}

-- How many of the slots from `first` on, `count` of them, have property p.
abbrev pub slots_with : Instance → ℕ → ℕ → ℕ → ℕ
slots_with i first count p = count_from (λ s. eqb (i.slot_property s) p) first count

-- Some of the n properties is not had as often as the set says: once, or not at all.
abbrev pub unlike_set : Instance → List ℕ → ℕ → ℕ → Run → Bool
unlike_set i rows from n run = any_from (λ p. not (eqb (slots_with i run.first run.count p) (one_if (wide rows from p)))) 0 n

-- The rows of the types in `done` have the names of these types.
pub record Rows (m : Model) (rows : List ℕ) (done : ℕ) : Type 0 where
  pub size : length rows ≡ 512
  pub is : (t : ℕ) → t < 64 → member done t ≡ true → MembersWide rows (8 * t) (λ p. ltb p m.properties && is_name_of m t p)
