-- Digests of names, and the fingerprints of records: records whose fingerprints differ are not alike.
use Rattle.std.specs.Prelude.{ℕ, zero, suc, min, ◌+◌, ◌*◌, ◌/◌, ◌%◌, ◌≤◌, ◌<◌, ◌≡◌, List, length, get_or}
use Rattle.packed.specs.Field.{field_of}
use Rattle.csdl.specs.Model.{Model, type_text, child_text}

-- The digest of the first n times four bytes; bytes past the end are 0.
unfoldable pub digest_to : List ℕ → ℕ → ℕ
digest_to s zero = 0
digest_to s (suc n) = (1000003 * digest_to s n + field_of s (8 * (4 * n)) 32) % 4294967296

-- The digest of a name, which has at most 255 bytes.
unfoldable pub digest_of : List ℕ → ℕ
digest_of s = digest_to s ((min (length s) 256 + 3) / 4)

-- The fingerprint of a name under a number.
unfoldable pub fingerprint_of : ℕ → List ℕ → ℕ
fingerprint_of n s = n * 4294967296 + digest_of s

-- Type t by its schema and name, child h by its name.
unfoldable pub type_fingerprint : Model → ℕ → ℕ
type_fingerprint m t = fingerprint_of (m.schema_of t) (type_text m t)

unfoldable pub child_fingerprint : Model → ℕ → ℕ
child_fingerprint m h = fingerprint_of 0 (child_text m h)

-- The list has the fingerprints of the first n records.
pub record Fingerprinted (fingerprint : ℕ → ℕ) (n : ℕ) (fingerprints : List ℕ) : Type 0 where
  pub size : n ≤ length fingerprints
  pub each : (k : ℕ) → k < n → get_or fingerprints k 0 ≡ fingerprint k
