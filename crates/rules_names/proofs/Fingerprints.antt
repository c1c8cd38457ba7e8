-- Digests, and what fingerprints that differ say. Assumes nothing.
use Prim.Native.Nat.{ℕ, ◌+◌, ◌*◌, ◌%◌, ◌<◌}
use mathlib.Core.Path.{◌≡◌, refl, sym, ◌∙◌}
use mathlib.Core.List.{List}
use mathlib.Core.Bool.{Bool, true, false, ◌&&◌, false≢true}
use borrow.Author.Tests.{eqb-true, eqb-false}
use native.Mathlib.Numerals.{add-one}
use native.Mathlib.Omega.{arith}
use lib.Dec.{eqb}
use lib.ListN.{length, get_or, set, length-set}
use lib.Seq.{get_or-set_same, get_or-set_other}
use Rattle.packed.specs.Field.{field_of}
use Rattle.packed.specs.Bytes.{same}
use Rattle.packed.proofs.Laws.{same_sound}
use Rattle.csdl.specs.Model.{Model, type_text, child_text}
use Rattle.csdl.specs.Form.{same_type}
use Rattle.rules_names.specs.Repeats.{same_child}
use Rattle.rules_names.specs.Digests.{digest_to, fingerprint_of, type_fingerprint, child_fingerprint, Fingerprinted}

-- four bytes more
pub digest_next : (s : List ℕ) (i d w : ℕ) → d ≡ digest_to s i → w ≡ field_of s (8 * (4 * i)) 32 → (1000003 * d + w) % 4294967296 ≡ digest_to s (i + 1)
unfolding digest_to
digest_next s i d w p q = rw (add-one i, p, q)

module _ (a b : ℕ) (s t : List ℕ) where
  -- names that are the same under the same number have one fingerprint
  one_fingerprint : (eqb a b && same s t) ≡ true → fingerprint_of a s ≡ fingerprint_of b t
  one_fingerprint h = go (eqb a b) (same s t) refl refl h
    where
      go : (p q : Bool) → eqb a b ≡ p → same s t ≡ q → (p && q) ≡ true → fingerprint_of a s ≡ fingerprint_of b t
      go true true e f h = rw (eqb-true a b e, same_sound s t f)
      go true false e f h = absurd (false≢true h)
      go false q e f h = absurd (false≢true h)

  pub other_fingerprints : (fingerprint_of a s ≡ fingerprint_of b t → ⊥) → false ≡ (eqb a b && same s t)
  other_fingerprints n = go (eqb a b && same s t) refl
    where
      go : (p : Bool) → (eqb a b && same s t) ≡ p → false ≡ p
      go true e = absurd (n (one_fingerprint e))
      go false e = refl

-- one record more
pub fingerprinted_none : (fingerprint : ℕ → ℕ) (fingerprints : List ℕ) → Fingerprinted fingerprint 0 fingerprints
fingerprinted_none fingerprint fingerprints = record { size = omega arith; each = λ k h. absurd (omega arith) }

pub fingerprinted_more : (fingerprint : ℕ → ℕ) (n : ℕ) (fingerprints : List ℕ) (x : ℕ) → n < length fingerprints → x ≡ fingerprint n → Fingerprinted fingerprint n fingerprints → Fingerprinted fingerprint (n + 1) (set fingerprints n x)
fingerprinted_more fingerprint n fingerprints x h e v = record { size = simp length-set (omega arith); each = λ k l. at k l (eqb k n) refl }
  where
    at : (k : ℕ) → k < n + 1 → (b : Bool) → eqb k n ≡ b → get_or (set fingerprints n x) k 0 ≡ fingerprint k
    at k l true q = let p = eqb-true k n q in rw p (get_or-set_same fingerprints n x 0 h ∙ e)
    at k l false q = let p = eqb-false k n q in get_or-set_other fingerprints n k x 0 p ∙ v.each k (omega (arith, p))

pub fingerprints_apart : (fingerprint : ℕ → ℕ) (n : ℕ) (fingerprints : List ℕ) → Fingerprinted fingerprint n fingerprints → (j k : ℕ) → j < n → k < n → (get_or fingerprints j 0 ≡ get_or fingerprints k 0 → ⊥) → fingerprint j ≡ fingerprint k → ⊥
fingerprints_apart fingerprint n fingerprints v j k p q d e = d (v.each j p ∙ e ∙ sym (v.each k q))

-- types, and children, whose fingerprints differ are not alike
module _ (m : Model) (t u : ℕ) where
  pub types_apart : (type_fingerprint m u ≡ type_fingerprint m t → ⊥) → false ≡ same_type m t u
  unfolding same_type type_fingerprint
  types_apart n = other_fingerprints (m.schema_of u) (m.schema_of t) (type_text m u) (type_text m t) n

  pub children_apart : (child_fingerprint m u ≡ child_fingerprint m t → ⊥) → false ≡ same_child m t u
  unfolding child_fingerprint
  children_apart n = other_fingerprints 0 0 (child_text m u) (child_text m t) n
