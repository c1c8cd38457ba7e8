-- What an image that keeps rule 1 has: counts within their limits, nine parts that fill it, and a model with the header's counts.
-- Assumes nothing.
use mathlib.Core.Path.{◌≡◌}
use mathlib.Core.List.{List}
use mathlib.Core.Bool.{Bool, false, ◌||◌}
use Prim.Native.Nat.{ℕ, ◌+◌, ◌*◌, ◌≤◌, min}
use native.Mathlib.Omega.{arith}
use lib.ListN.{length, length-take, length-drop}
use lib.Dec.{eqb, ltb}
use borrow.Author.Tests.{eqb-true, eqb-false, ltb-false, not-false}
use Rattle.packed.specs.Bytes.{between}
use Rattle.csdl.specs.Model.{model_of}
use Rattle.csdl.specs.Image as images
use Rattle.csdl.proofs.Logic.{or_no}
use Rattle.std.proofs.Math.Nat.{min-eq_left}
use Rattle.model_image.specs.Limits.{FewProperties, FewChildren}
use Rattle.model_image.specs.Tables.{properties_in, children_in}
use Rattle.model_image.specs.Sized.{Sized}
use Rattle.csdl.specs.Image.{header, types_from, properties_from, keys_from, constraints_from, children_from, bindings_from, segments_from, names_from, image_end}

-- The length of each part is its record's size times its count.
pub record Parts (image : List ℕ) : Type 0 where
  pub schemas : length (between image 20 (types_from image)) ≡ 5 * header image 1
  pub types : length (between image (types_from image) (properties_from image)) ≡ 6 * header image 2
  pub properties : length (between image (properties_from image) (keys_from image)) ≡ 7 * header image 3
  pub keys : length (between image (keys_from image) (constraints_from image)) ≡ 6 * header image 4
  pub constraints : length (between image (constraints_from image) (children_from image)) ≡ 5 * header image 5
  pub children : length (between image (children_from image) (bindings_from image)) ≡ 4 * header image 6
  pub bindings : length (between image (bindings_from image) (segments_from image)) ≡ 6 * header image 7
  pub segments : length (between image (segments_from image) (names_from image)) ≡ 3 * header image 8
  pub names : length (between image (names_from image) (image_end image)) ≡ header image 9

-- The model has as many records of each table as the header says.
pub record Counts (image : List ℕ) : Type 0 where
  pub schemas : (images.model_in image).schemas ≡ header image 1
  pub types : (images.model_in image).types ≡ header image 2
  pub properties : (images.model_in image).properties ≡ header image 3
  pub keys : (images.model_in image).keys ≡ header image 4
  pub constraints : (images.model_in image).constraints ≡ header image 5
  pub children : (images.model_in image).children ≡ header image 6
  pub bindings : (images.model_in image).bindings ≡ header image 7
  pub segments : (images.model_in image).segments ≡ header image 8
  pub names : length (images.model_in image).names ≡ header image 9

none : (a b c d e f g h i j : Bool) → (a || b || c || d || e || f || g || h || i || j) ≡ false
    → (a ≡ false) × (b ≡ false) × (c ≡ false) × (d ≡ false) × (e ≡ false) × (f ≡ false) × (g ≡ false) × (h ≡ false) × (i ≡ false) × (j ≡ false)
none a b c d e f g h i j p =
    let p9 = or_no (a || b || c || d || e || f || g || h || i) j p in
    let p8 = or_no (a || b || c || d || e || f || g || h) i p9.0 in
    let p7 = or_no (a || b || c || d || e || f || g) h p8.0 in
    let p6 = or_no (a || b || c || d || e || f) g p7.0 in
    let p5 = or_no (a || b || c || d || e) f p6.0 in
    let p4 = or_no (a || b || c || d) e p5.0 in
    let p3 = or_no (a || b || c) d p4.0 in
    let p2 = or_no (a || b) c p3.0 in
    let p1 = or_no a b p2.0 in
    (p1.0, p1.1, p2.1, p3.1, p4.1, p5.1, p6.1, p7.1, p8.1, p9.1)

module _ (image : List ℕ) where
  pub layout : images.image1 image ≡ false → Sized image
  unfolding images.image1
  layout h =
      let d = or_no (images.image1a image || images.image1b image || images.image1c image) (images.image1d image) h in
      let c = or_no (images.image1a image || images.image1b image) (images.image1c image) d.0 in
      let n = none (eqb (header image 1) 0) (ltb 16 (header image 1)) (ltb 64 (header image 2)) (ltb 512 (header image 3)) (ltb 128 (header image 4))
      (ltb 64 (header image 5)) (ltb 64 (header image 6)) (ltb 128 (header image 7)) (ltb 1024 (header image 8)) (ltb 4096 (header image 9)) c.1 in
      record {
        schema = omega (arith, eqb-false (header image 1) 0 n.0);
        schemas = ltb-false 16 (header image 1) n.1;
        types = ltb-false 64 (header image 2) n.2;
        properties = ltb-false 512 (header image 3) n.3;
        keys = ltb-false 128 (header image 4) n.4;
        constraints = ltb-false 64 (header image 5) n.5;
        children = ltb-false 64 (header image 6) n.6;
        bindings = ltb-false 128 (header image 7) n.7;
        segments = ltb-false 1024 (header image 8) n.8;
        names = ltb-false 4096 (header image 9) n.9;
        whole = eqb-true (length image) (image_end image) (not-false (eqb (length image) (image_end image)) d.1);
      }

  part_length : (a n : ℕ) → a + n ≤ length image → length (between image a (a + n)) ≡ n
  part_length a n h = simp (length-take, length-drop) (omega arith)

  pub parts : Sized image → Parts image
  parts l =
      record {
        schemas = part_length 20 (5 * header image 1) (omega arith);
        types = part_length (types_from image) (6 * header image 2) (omega arith);
        properties = part_length (properties_from image) (7 * header image 3) (omega arith);
        keys = part_length (keys_from image) (6 * header image 4) (omega arith);
        constraints = part_length (constraints_from image) (5 * header image 5) (omega arith);
        children = part_length (children_from image) (4 * header image 6) (omega arith);
        bindings = part_length (bindings_from image) (6 * header image 7) (omega arith);
        segments = part_length (segments_from image) (3 * header image 8) (omega arith);
        names = part_length (names_from image) (header image 9) (omega arith);
      }

  pub counts : Sized image → Counts image
  unfolding images.model_in model_of
  counts l =
      let p = parts l in
      record {
        schemas = omega (arith, p.schemas);
        types = omega (arith, p.types);
        properties = omega (arith, p.properties);
        keys = omega (arith, p.keys);
        constraints = omega (arith, p.constraints);
        children = omega (arith, p.children);
        bindings = omega (arith, p.bindings);
        segments = omega (arith, p.segments);
        names = p.names;
      }

  -- No more properties and children than are counted.
  pub all_counted : Sized image → record (images.model_in image) { properties = min (images.model_in image).properties 512; children = min (images.model_in image).children 64 } ≡ images.model_in image
  all_counted l =
      let n = counts l in
      let p : min (images.model_in image).properties 512 ≡ (images.model_in image).properties = min-eq_left (omega (arith, n.properties, l.properties)) in
      let h : min (images.model_in image).children 64 ≡ (images.model_in image).children = min-eq_left (omega (arith, n.children, l.children)) in
      rw (p, h)

  pub few_properties : Sized image → FewProperties (properties_in image)
  few_properties l = omega (arith, (parts l).properties, l.properties)

  pub few_children : Sized image → FewChildren (children_in image)
  few_children l = omega (arith, (parts l).children, l.children)
