-- A list of blocks of one length, written one after the other: each stands at its number times that length.
use Prim.Native.Nat.{ℕ, zero, suc, ◌+◌, ◌*◌, ◌<◌}
use mathlib.Core.Path.{◌≡◌, sym}
use mathlib.Core.List.{List, [], ◌∷◌, ◌++◌, append_assoc}
use native.Mathlib.Nat.{mul-zero, mul-suc}
use native.Mathlib.Omega.{arith}
use lib.ListN.{length, get_or, length-append}
use lib.Seq.{take_at, drop-append-add}
use Rattle.packed.specs.Bytes.{part}
use Rattle.csdl.specs.Search.{flat}

module _ {A : Type 0} (f : A → List ℕ) (size : ℕ) (each : (x : A) → length (f x) ≡ size) where
  pub blocks_length : (l : List A) → length (flat f l) ≡ size * length l
  unfolding flat
  blocks_length [] = sym (mul-zero size)
  blocks_length (x ∷ l) = omega (arith, length-append (f x) (flat f l), each x, blocks_length l, mul-suc size (length l))

  pub block_at : (d : A) (l : List A) (rest : List ℕ) (k : ℕ) → k < length l → part (flat f l ++ rest) (size * k) size ≡ f (get_or l k d)
  unfolding flat
  block_at d [] rest k h = absurd (omega arith)
  block_at d (x ∷ l) rest zero h = rw (mul-zero, append_assoc) (take_at (f x) (flat f l ++ rest) size (each x))
  block_at d (x ∷ l) rest (suc k) h =
      let e : size * suc k ≡ length (f x) + size * k = omega (arith, mul-suc size k, each x) in
      rw (e, append_assoc, drop-append-add) (block_at d l rest k (omega arith))
