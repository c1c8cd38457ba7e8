-- The types that own a key, as a set.
use Rattle.std.specs.Prelude.{ℕ, List, Bool, eqb}
use Rattle.csdl.specs.Search.{any_from}
use Rattle.csdl.specs.Tables.{key_count, key_owner}
use Rattle.type_hierarchy.specs.Sets.{Members}

-- One of the first n keys is of type t.
abbrev pub owns_key : List ℕ → ℕ → ℕ → Bool
owns_key keys n t = any_from (λ k. eqb (key_owner keys k) t) 0 n

abbrev pub KeyOwners : List ℕ → ℕ → Type 0
KeyOwners keys owners = Members 64 owners (λ t. owns_key keys (key_count keys) t)
