-- Byte strings in an order: byte by byte, a string before those that it begins.
use Rattle.std.specs.Prelude.{ℕ, List, [], ◌∷◌, Bool, true, false, cond, ltb}

unfoldable pub before : List ℕ → List ℕ → Bool
before [] [] = false
before [] (y ∷ ys) = true
before (x ∷ xs) [] = false
before (x ∷ xs) (y ∷ ys) =
    let rest = before xs ys in
    let down = cond (ltb y x) false rest in
    cond (ltb x y) true down
