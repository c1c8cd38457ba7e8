-- Laws of Booleans.
use mathlib.Core.Path.{◌≡◌, refl}
use mathlib.Core.Bool.{Bool, true, false, ◌||◌}

-- Nine clauses in three groups.
pub or_threes : (a b c d e f g h i : Bool) → (a || b || c) || (d || e || f) || (g || h || i) ≡ a || b || c || d || e || f || g || h || i
or_threes true b c d e f g h i = refl
or_threes false true c d e f g h i = refl
or_threes false false true d e f g h i = refl
or_threes false false false true e f g h i = refl
or_threes false false false false true f g h i = refl
or_threes false false false false false true g h i = refl
or_threes false false false false false false true h i = refl
or_threes false false false false false false false h i = refl

-- Eight in two groups.
pub or_fours : (a b c d e f g h : Bool) → (a || b || c || d) || (e || f || g || h) ≡ a || b || c || d || e || f || g || h
or_fours true b c d e f g h = refl
or_fours false true c d e f g h = refl
or_fours false false true d e f g h = refl
or_fours false false false true e f g h = refl
or_fours false false false false e f g h = refl
