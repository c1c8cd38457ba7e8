-- Rule 15, asked in three tests; keys apart by their fingerprints. Assumes nothing.
use Prim.Native.Nat.{ℕ}
use mathlib.Core.Path.{◌≡◌, refl}
use mathlib.Core.List.{List}
use mathlib.Core.Bool.{Bool, true, false, ◌||◌}
use Rattle.csdl.specs.Model.{Model}
use Rattle.csdl.specs.Paths.{key15a, key15b, key15f, key15h}
use Rattle.rules_names.proofs.Fingerprints.{other_fingerprints}
use Rattle.rules_keys.specs.Keys.{coded_name, again_named, named_again, key_codes, key_fingerprint, owner_or_path_fails, alias_fails, key_coded}

reordered : (a f g h : Bool) → (a || g || (f || h)) ≡ (a || f || g || h)
reordered true f g h = refl
reordered false true true h = refl
reordered false true false h = refl
reordered false false g h = refl

pub key_split : (m : Model) (codes : List ℕ) (k : ℕ) → (owner_or_path_fails m codes k || named_again m codes k || alias_fails m k) ≡ key_coded m codes k
unfolding owner_or_path_fails alias_fails key_coded
key_split m codes k = reordered (key15a m k || key15b m k || key_codes m codes k) (key15f m k) (named_again m codes k) (key15h m k)

-- keys whose fingerprints differ are not named alike
pub keys_apart : (m : Model) (codes : List ℕ) (j k : ℕ) → (key_fingerprint m codes j ≡ key_fingerprint m codes k → ⊥) → false ≡ again_named m codes j k
unfolding key_fingerprint again_named
keys_apart m codes j k n = other_fingerprints (m.key_owner j) (m.key_owner k) (coded_name m codes j) (coded_name m codes k) n
