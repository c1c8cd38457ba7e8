-- Rule 20 leaves what `Sized` says. Assumes nothing.
use mathlib.Core.Path.{◌≡◌}
use mathlib.Core.List.{List}
use mathlib.Core.Bool.{false, ◌||◌}
use Prim.Native.Nat.{ℕ, ◌+◌, ◌-◌, ◌*◌, ◌≤◌}
use native.Mathlib.Omega.{arith}
use lib.Dec.{ltb}
use lib.ListN.{length, length-take, length-drop}
use borrow.Author.Tests.{ltb-false, not-false, eqb-true}
use Rattle.packed.specs.Bytes.{between}
use Rattle.csdl.specs.Image.{header}
use Rattle.csdl.specs.Instance.{item_form, instance_of, instance_in, image20, image20a, image20b, image20c, image20d}
use Rattle.instance_image.specs.Sized.{Sized}
use Rattle.csdl.proofs.Logic.{or_no}

-- The length of a part that lies within.
between-length : (s : List ℕ) (a e : ℕ) → e ≤ length s → length (between s a e) ≡ e - a
between-length s a e h = simp (length-take, length-drop) (omega arith)

pub sized : (image : List ℕ) → image20 image ≡ false → Sized image
unfolding image20 instance_in instance_of
sized image h =
    let n = header image 1 in
    let s = header image 2 in
    let k = header image 3 in
    let d = or_no (image20a image || image20b item_form image || image20c image) (image20d item_form image) h in
    let b = or_no (image20a image || image20b item_form image) (image20c image) d.0 in
    let c = or_no (ltb 256 n || ltb 1024 s) (ltb 2048 k) b.1 in
    let f = or_no (ltb 256 n) (ltb 1024 s) c.0 in
    let whole : length image ≡ 8 + 4 * n + 5 * s + 4 * k = eqb-true _ _ (not-false _ d.1) in
    let nm : n ≤ 256 = ltb-false _ _ f.0 in
    let sm : s ≤ 1024 = ltb-false _ _ f.1 in
    let im : k ≤ 2048 = ltb-false _ _ c.1 in
    let ne : 8 + 4 * n ≤ length image = omega (arith, whole) in
    let se : 8 + 4 * n + 5 * s ≤ length image = omega (arith, whole) in
    let ie : 8 + 4 * n + 5 * s + 4 * k ≤ length image = omega (arith, whole) in
    let ln : length (between image 8 (8 + 4 * n)) ≡ 8 + 4 * n - 8 = between-length image 8 (8 + 4 * n) ne in
    let ls : length (between image (8 + 4 * n) (8 + 4 * n + 5 * s)) ≡ 8 + 4 * n + 5 * s - (8 + 4 * n) = between-length image (8 + 4 * n) (8 + 4 * n + 5 * s) se in
    let li : length (between image (8 + 4 * n + 5 * s) (8 + 4 * n + 5 * s + 4 * k)) ≡ 8 + 4 * n + 5 * s + 4 * k - (8 + 4 * n + 5 * s) = between-length image (8 + 4 * n + 5 * s) (8 + 4 * n + 5 * s + 4 * k) ie in
    record {
      whole = whole;
      nodes-most = nm;
      slots-most = sm;
      items-most = im;
      nodes-length = rw ln (omega (arith, nm));
      slots_length = rw ls (omega (arith, sm));
      items-length = rw li (omega (arith, im));
      nodes-count = rw ln (omega arith);
      slots-count = rw ls (omega arith);
      items-count = rw li (omega arith);
    }
