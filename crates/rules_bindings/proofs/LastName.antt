-- The last name of a path, and its form. Assumes nothing.
use Prim.Native.Nat.{ℕ, zero, suc, ◌<◌}
use mathlib.Core.Path.{◌≡◌, refl}
use mathlib.Core.List.{List}
use mathlib.Core.Bool.{Bool, true, false, not, ◌||◌}
use native.Mathlib.Omega.{arith}
use lib.ListN.{get_or}
use borrow.Author.Tests.{leb-false, lt-ltb}
use Rattle.csdl.specs.Search.{any_from}
use Rattle.path_resolution.specs.Resolution.{cast_code, is_code, last_name, form_of}

-- the code of the last name is a property's
name_low : (codes : List ℕ) (n k : ℕ) → last_name codes n ≡ suc k → get_or codes k 0 < 32768
unfolding last_name
name_low codes zero k e = absurd (omega (arith, e))
name_low codes (suc n) k e = go (cast_code (get_or codes n 0)) refl (λ z. name_low codes n k z)
  where
    go : (b : Bool) → cast_code (get_or codes n 0) ≡ b → (last_name codes n ≡ suc k → get_or codes k 0 < 32768) → get_or codes k 0 < 32768
    go true q rest = rest (rw q at e)
    go false q rest =
        let s : suc n ≡ suc k = rw q at e in
        let h : k ≡ n = omega arith in
        rw h (leb-false 32768 (get_or codes n 0) q)

pub form_name : (test across : ℕ → Bool) (codes : List ℕ) (n k : ℕ) → last_name codes n ≡ suc k
    → (not (is_code test (get_or codes k 0)) || any_from (λ j. is_code across (get_or codes j 0)) 0 k) ≡ form_of test across codes (last_name codes n)
unfolding form_of
form_name test across codes n k e = let l : get_or codes k 0 < 32768 = name_low codes n k e in rw (e, lt-ltb _ _ l)

pub form_none : (test across : ℕ → Bool) (codes : List ℕ) (n : ℕ) → last_name codes n ≡ 0 → true ≡ form_of test across codes (last_name codes n)
unfolding form_of
form_none test across codes n e = rw e
