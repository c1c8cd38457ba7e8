-- Rule 15, of the codes of all segments.
use Rattle.std.specs.Prelude.{ℕ, List, [], Bool, cond, not, ◌&&◌, ◌||◌, eqb, get_or}
use Rattle.packed.specs.Bytes.{same}
use Rattle.csdl.specs.Search.{any_from}
use Rattle.csdl.specs.Model.{Model, named, key_alias_text, property_text}
use Rattle.csdl.specs.Paths.{key_step, key_end, key15a, key15b, key15f, key15h}
use Rattle.rules_names.specs.Digests.{fingerprint_of}
use Rattle.path_resolution.specs.Resolution.{cast_code}
use Rattle.path_resolution.specs.Coded.{run_of}
use Rattle.path_steps.specs.Steps.{step_or_end}

-- The name of key k: its alias, else the name of the property that its path begins with; no bytes where it has no segment or begins with a cast.
unfoldable pub coded_name : Model → List ℕ → ℕ → List ℕ
coded_name m codes k =
    let c = get_or codes (m.key_path k).first 0 in
    cond (named (m.key_alias k)) (key_alias_text m k) (cond (eqb (m.key_path k).count 0 || cast_code c) [] (property_text m c))

-- Keys j and k have the same owner and name; 15g of key k.
unfoldable pub again_named : Model → List ℕ → ℕ → ℕ → Bool
again_named m codes j k = eqb (m.key_owner j) (m.key_owner k) && same (coded_name m codes j) (coded_name m codes k)

unfoldable pub named_again : Model → List ℕ → ℕ → Bool
named_again m codes k = any_from (λ j. again_named m codes j k) 0 k

-- 15c to 15e of key k, by the codes of all segments.
unfoldable pub key_codes : Model → List ℕ → ℕ → Bool
key_codes m codes k =
    let n = (m.key_path k).count in
    let run = run_of codes (m.key_path k).first n in
    any_from (λ j. cast_code (get_or run j 0)) 0 n || step_or_end (λ p. not (key_step m p)) (λ p. not (key_end m p)) run n

-- Key k by its owner and name.
unfoldable pub key_fingerprint : Model → List ℕ → ℕ → ℕ
key_fingerprint m codes k = fingerprint_of (m.key_owner k) (coded_name m codes k)

-- 15a to 15e of key k, and 15f and 15h.
unfoldable pub owner_or_path_fails : Model → List ℕ → ℕ → Bool
owner_or_path_fails m codes k = key15a m k || key15b m k || key_codes m codes k

unfoldable pub alias_fails : Model → ℕ → Bool
alias_fails m k = key15f m k || key15h m k

-- Rule 15 of key k, by the codes of all segments.
unfoldable pub key_coded : Model → List ℕ → ℕ → Bool
key_coded m codes k = key15a m k || key15b m k || key_codes m codes k || key15f m k || named_again m codes k || key15h m k
