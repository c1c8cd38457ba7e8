-- Laws of packed fields, of parts, of equal byte strings and of the two bytes of a number. Assumes nothing.
use mathlib.Core.Path.{◌≡◌, refl, sym, ap, ◌∙◌}
use mathlib.Core.List.{List, [], ◌∷◌}
use mathlib.Core.Bool.{Bool, true, false, cond, ◌&&◌, and-true, and-false, and_assoc, false≢true}
use Prim.Native.Nat.{ℕ, zero, suc, min, ◌+◌, ◌-◌, ◌*◌, ◌/◌, ◌%◌, ◌^◌, ◌≤◌, ◌<◌}
use native.Mathlib.Nat.{zero-add, add-zero, add-suc, add_assoc, mul-one, one-mul, mul_assoc, mul-suc, pow-zero, pow-suc, mod-one, mod-eq_of_lt, div-one, zero-div}
use native.Mathlib.Numerals.{add-one}
use native.Mathlib.Omega.{arith}
use lib.Dec.{eqb, ltb, eqb-zero-suc, eqb-suc-zero, eqb-suc-suc}
use lib.ListN.{length, get_or, take, drop, length-drop, drop_of_length-le, get_or-eq_default}
use lib.Seq.{drop-cons, take_all, take-nil}
use lib.Pow.{mod-pow-add, pow-add, shr-shr, shl_exact, high, low}
use borrow.Author.Tests.{eqb-true, eq-eqb, ne_eqb, ltb-true, ltb-false}
use Rattle.std.proofs.Common.{Option, Some, None, MatchOption, unwrap_or}
use Rattle.std.specs.Bool.{⊤}
use Rattle.std.specs.Cmp.Lexicographic.{pointwise}
use Rattle.packed.specs.Field.{bit, field_of}
use Rattle.packed.specs.Bytes.{same, common_start, part, high_byte, low_byte}

-- ---- fields
pub bit-lt : (s : List ℕ) (k : ℕ) → bit s k < 2
unfolding bit
bit-lt s k = omega arith

pub field_zero : (s : List ℕ) (off : ℕ) → field_of s off 0 ≡ 0
unfolding field_of
field_zero s off = refl

pub field_suc : (s : List ℕ) (off w : ℕ) → field_of s off (suc w) ≡ field_of s off w * 2 + bit s (off + w)
unfolding field_of
field_suc s off w = refl

pub field_lt : (s : List ℕ) (off w : ℕ) → field_of s off w < 2 ^ w
field_lt s off zero = rw (field_zero, pow-zero) (omega arith)
field_lt s off (suc w) = rw (field_suc, pow-suc) (omega (arith, field_lt s off w, bit-lt s (off + w)))

-- past the end all bits are 0
bit_past : (s : List ℕ) (k : ℕ) → 8 * length s ≤ k → bit s k ≡ 0
unfolding bit
bit_past s k h =
    let l : length s ≤ k / 8 = omega arith in
    let e : get_or s (k / 8) 0 ≡ 0 = get_or-eq_default s 0 l in
    rw (e, zero-div)

pub field_past : (s : List ℕ) (off w : ℕ) → 8 * length s ≤ off → field_of s off w ≡ 0
field_past s off zero h = field_zero s off
field_past s off (suc w) h = rw (field_suc, field_past s off w h, bit_past s (off + w) (omega arith))

-- a field of w + n bits is one of w bits and then one of n
pub field_add : (s : List ℕ) (off w n : ℕ) → field_of s off (w + n) ≡ field_of s off w * 2 ^ n + field_of s (off + w) n
field_add s off w zero = simp (add-zero, pow-zero, mul-one, field_zero)
field_add s off w (suc n) =
    rw (add-suc, field_suc s off (w + n), field_suc s (off + w) n, pow-suc, ← mul_assoc, add_assoc off w n)
    (omega (arith, field_add s off w n))

-- the bit n places on, in the same byte, with m bits after it
bit_byte : (s : List ℕ) (off n m : ℕ) → off % 8 + n + m ≡ 7 → bit s (off + n) ≡ get_or s (off / 8) 0 / 2 ^ m % 2
unfolding bit
bit_byte s off n m h =
    let d : (off + n) / 8 ≡ off / 8 = omega arith in
    let e : 7 - (off + n) % 8 ≡ m = omega arith in
    rw (d, e)

-- a field within one byte, with m bits after it
pub field_byte : (s : List ℕ) (off n m : ℕ) → off % 8 + n + m ≡ 8 → field_of s off n ≡ get_or s (off / 8) 0 / 2 ^ m % 2 ^ n
field_byte s off zero m h = simp (field_zero, pow-zero, mod-one)
field_byte s off (suc n) m h =
    let x = get_or s (off / 8) 0 in
    let i : field_of s off n ≡ x / 2 ^ (m + 1) % 2 ^ n = field_byte s off n (m + 1) (omega arith) in
    let b : bit s (off + n) ≡ x / 2 ^ m % 2 = bit_byte s off n m (omega arith) in
    rw (field_suc, i, b, ← shr-shr, ← add-one n, mod-pow-add)

-- a field of n bits among w, with k before it and m after it
within : (s : List ℕ) (at w k n m : ℕ) → k + n + m ≡ w → field_of s at w / 2 ^ m % 2 ^ n ≡ field_of s (at + k) n
within s at w k n m h =
    rw (← h, field_add s at (k + n) m, high (field_of s at (k + n)) m (field_lt s (at + (k + n)) m), field_add s at k n)
    (low (field_of s at k) n (field_lt s (at + k) n))

-- a field within the w bits from its first byte on, with m of them after it
pub field_within : (s : List ℕ) (off w n m : ℕ) → off % 8 + n + m ≡ w → field_of s (8 * (off / 8)) w / 2 ^ m % 2 ^ n ≡ field_of s off n
field_within s off w n m h =
    let o : 8 * (off / 8) + off % 8 ≡ off = omega arith in
    within s (8 * (off / 8)) w (off % 8) n m h ∙ rw o

-- n bits more, of the 32 bits from the byte of bit `off + w` on, which have m bits after them
pub field_more : (s : List ℕ) (off w n m : ℕ) → (off + w) % 8 + n + m ≡ 32
    → field_of s off w * 2 ^ n + field_of s (8 * ((off + w) / 8)) 32 / 2 ^ m % 2 ^ n ≡ field_of s off (w + n)
field_more s off w n m h = rw (field_add, field_within s (off + w) 32 n m h)

-- a field of w + n bits as two, the one above its n low bits and these
pub field_high : (s : List ℕ) (off w n : ℕ) → field_of s off (w + n) / 2 ^ n ≡ field_of s off w
field_high s off w n = rw (field_add s off w n) (high (field_of s off w) n (field_lt s (off + w) n))

pub field_low : (s : List ℕ) (off w n : ℕ) → field_of s off (w + n) % 2 ^ n ≡ field_of s (off + w) n
field_low s off w n = rw (field_add s off w n) (low (field_of s off w) n (field_lt s (off + w) n))

-- whole bytes
pub field_8 : (s : List ℕ) (k : ℕ) → get_or s k 0 < 256 → field_of s (8 * k) 8 ≡ get_or s k 0
field_8 s k h =
    let d : 8 * k / 8 ≡ k = omega arith in
    rw (field_byte s (8 * k) 8 0 (omega arith), d, pow-zero, div-one) (mod-eq_of_lt h)

pub field_16 : (s : List ℕ) (k : ℕ) → get_or s k 0 < 256 → get_or s (k + 1) 0 < 256 → field_of s (8 * k) 16 ≡ get_or s k 0 * 256 + get_or s (k + 1) 0
field_16 s k h j =
    let e : 8 * k + 8 ≡ 8 * (k + 1) = omega arith in
    rw (field_add s (8 * k) 8 8, e, field_8 s k h, field_8 s (k + 1) j)

-- two bytes, as the code reads them, and four
pub field_pair : (s : List ℕ) (k a b : ℕ) → (a ≡ get_or s k 0) × (a < 256) → (b ≡ get_or s (k + 1) 0) × (b < 256) → a * 256 + b ≡ field_of s (8 * k) 16
field_pair s k a b (p, u) (q, v) = sym (rw (field_16 s k (rw (← p) u) (rw (← q) v), ← p, ← q))

pub field_32 : (s : List ℕ) (k a b c d : ℕ) → (a ≡ get_or s k 0) × (a < 256) → (b ≡ get_or s (k + 1) 0) × (b < 256) → (c ≡ get_or s (k + 2) 0) × (c < 256) → (d ≡ get_or s (k + 3) 0) × (d < 256)
    → (a * 256 + b) * 65536 + (c * 256 + d) ≡ field_of s (8 * k) 32
field_32 s k a b c d (p, u) (q, v) (x, w) (y, z) =
    let e : 8 * k + 16 ≡ 8 * (k + 2) = omega arith in
    let t : k + 2 + 1 ≡ k + 3 = omega arith in
    let hi : field_of s (8 * k) 16 ≡ a * 256 + b = sym (field_pair s k a b (p, u) (q, v)) in
    let lo : field_of s (8 * (k + 2)) 16 ≡ c * 256 + d = rw (field_16 s (k + 2) (rw (← x) w) (rw (t, ← y) z), t, ← x, ← y) in
    rw (field_add s (8 * k) 16 16, e, hi, lo)

-- `1 << n`
pub one_shl : (n : ℕ) → n < 64 → 1 * 2 ^ n % 2 ^ 64 ≡ 2 ^ n
one_shl n h = shl_exact 1 n 64 (omega arith) (omega arith) ∙ one-mul (2 ^ n)

-- ---- a part, as the code makes it
module _ (s : List ℕ) (start len : ℕ) where
  pub part_none : length s ≤ start → [] ≡ part s start len
  part_none h = rw (drop_of_length-le s {i = start} h, take-nil)

  pub part-rest : length s ≤ start + len → take (length s - start) (drop start s) ≡ part s start len
  part-rest h =
      let p : length (drop start s) ≤ length s - start = simp length-drop (omega arith) in
      let q : length (drop start s) ≤ len = simp length-drop (omega arith) in
      take_all _ _ p ∙ sym (take_all _ _ q)

  pub part-whole : take (start + len - start) (drop start s) ≡ part s start len
  part-whole = let e : start + len - start ≡ len = omega arith in rw e

-- ---- equal byte strings
pub same_refl : (a : List ℕ) → same a a ≡ true
unfolding same
same_refl [] = refl
same_refl (x ∷ a) = rw (eq-eqb x x refl, same_refl a)

pub same_complete : (a b : List ℕ) → a ≡ b → same a b ≡ true
same_complete a b e = rw e (same_refl b)

both : (p q : Bool) → (p && q) ≡ true → (p ≡ true) × (q ≡ true)
both true q h = (refl, h)
both false q h = absurd (false≢true h)

pub same_sound : (a b : List ℕ) → same a b ≡ true → a ≡ b
unfolding same
same_sound [] [] h = refl
same_sound [] (y ∷ b) h = absurd (false≢true h)
same_sound (x ∷ a) [] h = absurd (false≢true h)
same_sound (x ∷ a) (y ∷ b) h =
    let p = both (eqb x y) (same a b) h in
    rw (eqb-true x y p.0, same_sound a b p.1)

eqb_sym : (x y : ℕ) → eqb x y ≡ eqb y x
eqb_sym zero zero = refl
eqb_sym zero (suc y) = eqb-zero-suc y ∙ sym (eqb-suc-zero y)
eqb_sym (suc x) zero = eqb-suc-zero x ∙ sym (eqb-zero-suc x)
eqb_sym (suc x) (suc y) = eqb-suc-suc x y ∙ eqb_sym x y ∙ sym (eqb-suc-suc y x)

-- the test that `==` makes
pub same_pointwise : (a b : List ℕ) → pointwise eqb a b ≡ same a b
unfolding same
same_pointwise [] [] = refl
same_pointwise [] (y ∷ b) = refl
same_pointwise (x ∷ a) [] = refl
same_pointwise (x ∷ a) (y ∷ b) = rw (same_pointwise a b)

pub same_sym : (a b : List ℕ) → same a b ≡ same b a
unfolding same
same_sym [] [] = refl
same_sym [] (y ∷ b) = refl
same_sym (x ∷ a) [] = refl
same_sym (x ∷ a) (y ∷ b) = rw (eqb_sym x y, same_sym a b)

-- strings of other lengths differ
pub same_lengths : (a b : List ℕ) → (length a ≡ length b → ⊥) → same a b ≡ false
unfolding same
same_lengths [] [] h = absurd (h refl)
same_lengths [] (y ∷ b) h = refl
same_lengths (x ∷ a) [] h = refl
same_lengths (x ∷ a) (y ∷ b) h = rw (same_lengths a b (λ e. h (ap suc e)), and-false)

-- strings of one length are equal where they begin alike in all their bytes
pub same_common : (a b : List ℕ) → length a ≡ length b → eqb (common_start a b) (length a) ≡ same a b
unfolding same common_start
same_common [] [] e = refl
same_common [] (y ∷ b) e = absurd (omega arith)
same_common (x ∷ a) [] e = absurd (omega arith)
same_common (x ∷ a) (y ∷ b) e = go (same_common a b (omega arith)) (eqb x y)
  where
    go : eqb (common_start a b) (length a) ≡ same a b → (c : Bool) → eqb (cond c (suc (common_start a b)) 0) (suc (length a)) ≡ (c && same a b)
    go rest true = eqb-suc-suc (common_start a b) (length a) ∙ rest
    go rest false = eqb-zero-suc (length a)

-- parts of two strings, compared by the first byte and the others, and by the first m bytes and the next n
same_first : (a b : List ℕ) (i n : ℕ) → i < length a → i < length b
    → same (part a i (suc n)) (part b i (suc n)) ≡ (eqb (get_or a i 0) (get_or b i 0) && same (part a (i + 1) n) (part b (i + 1) n))
unfolding same
same_first a b i n h k = rw (add-one, drop-cons a i 0 h, drop-cons b i 0 k)

pub same_two : (a b : List ℕ) (i : ℕ) → i + 2 ≤ length a → i + 2 ≤ length b
    → (eqb (get_or a i 0) (get_or b i 0) && eqb (get_or a (i + 1) 0) (get_or b (i + 1) 0)) ≡ same (part a i 2) (part b i 2)
unfolding same
same_two a b i h k = sym (rw (same_first a b i 1 (omega arith) (omega arith), same_first a b (i + 1) 0 (omega arith) (omega arith), and-true))

pub same_add : (a b : List ℕ) (i m n : ℕ) → i + m ≤ length a → i + m ≤ length b
    → same (part a i (m + n)) (part b i (m + n)) ≡ (same (part a i m) (part b i m) && same (part a (i + m) n) (part b (i + m) n))
unfolding same
same_add a b i zero n h k = rw (zero-add n, add-zero i)
same_add a b i (suc m) n h k =
    let y : suc m + n ≡ suc (m + n) = omega arith in
    let z : i + suc m ≡ i + 1 + m = omega arith in
    let rest = same_add a b (i + 1) m n (omega arith) (omega arith) in
    rw (y, same_first a b i (m + n) (omega arith) (omega arith), same_first a b i m (omega arith) (omega arith), z, rest, and_assoc)

-- strings compared from the front, at byte i
common_nil : (a : List ℕ) → common_start a [] ≡ 0
unfolding common_start
common_nil [] = refl
common_nil (x ∷ a) = refl

module _ (a b : List ℕ) (i : ℕ) where
  common_at : i < length a → i < length b → common_start (drop i a) (drop i b) ≡ cond (eqb (get_or a i 0) (get_or b i 0)) (suc (common_start (drop (i + 1) a) (drop (i + 1) b))) 0
  unfolding common_start
  common_at h k = rw (add-one, drop-cons a i 0 h, drop-cons b i 0 k)

  pub common_step : i < length a → i < length b → get_or a i 0 ≡ get_or b i 0 → common_start (drop i a) (drop i b) ≡ 1 + common_start (drop (i + 1) a) (drop (i + 1) b)
  common_step h k q = rw (common_at h k, eq-eqb _ _ q) (omega arith)

  pub common_differ : i < length a → i < length b → (get_or a i 0 ≡ get_or b i 0 → ⊥) → common_start (drop i a) (drop i b) ≡ 0
  common_differ h k q = rw (common_at h k, ne_eqb _ _ q)

  pub common_end : min (length a) (length b) ≤ i → common_start (drop i a) (drop i b) ≡ 0
  unfolding common_start
  common_end h = go (ltb i (length a)) refl
    where
      go : (c : Bool) → ltb i (length a) ≡ c → common_start (drop i a) (drop i b) ≡ 0
      go true e = let l = ltb-true i (length a) e in rw (drop_of_length-le b {i = i} (omega arith)) (common_nil (drop i a))
      go false e = rw (drop_of_length-le a {i = i} (ltb-false i (length a) e))

-- n bytes that are alike
pub common_more : (a b : List ℕ) (i n : ℕ) → i + n ≤ length a → i + n ≤ length b → same (part a i n) (part b i n) ≡ true
    → common_start (drop i a) (drop i b) ≡ n + common_start (drop (i + n) a) (drop (i + n) b)
common_more a b i zero h k e = rw (add-zero i) (omega arith)
common_more a b i (suc n) h k e =
    let z : i + suc n ≡ i + 1 + n = omega arith in
    let p = both _ _ (sym (same_first a b i n (omega arith) (omega arith)) ∙ e) in
    rw (common_step a b i (omega arith) (omega arith) (eqb-true _ _ p.0), z, common_more a b (i + 1) n (omega arith) (omega arith) p.1) (omega arith)

-- the same of bytes compared one by one, and eight by eight from the first on
pub common_run : (a b : List ℕ) (i n : ℕ) → i + n ≤ length a → i + n ≤ length b → ((k : ℕ) → i ≤ k → k < i + n → get_or a k 0 ≡ get_or b k 0)
    → common_start (drop i a) (drop i b) ≡ n + common_start (drop (i + n) a) (drop (i + n) b)
common_run a b i zero h k e = rw (add-zero i) (omega arith)
common_run a b i (suc n) h k e =
    let z : i + suc n ≡ i + 1 + n = omega arith in
    rw (common_step a b i (omega arith) (omega arith) (e i (omega arith) (omega arith)), z, common_run a b (i + 1) n (omega arith) (omega arith) (λ j p q. e j (omega arith) (omega arith))) (omega arith)

pub common_eights : (a b : List ℕ) (n : ℕ) → 8 * n ≤ length a → 8 * n ≤ length b → ((k : ℕ) → k < n → same (part a (8 * k) 8) (part b (8 * k) 8) ≡ true)
    → common_start a b ≡ 8 * n + common_start (drop (8 * n) a) (drop (8 * n) b)
common_eights a b zero h k e = let z : 8 * zero ≡ 0 = omega arith in rw z (sym (zero-add (common_start a b)))
common_eights a b (suc n) h k e =
    let z : 8 * suc n ≡ 8 * n + 8 = omega arith in
    rw (z, common_eights a b n (omega arith) (omega arith) (λ j p. e j (omega arith)), common_more a b (8 * n) 8 (omega arith) (omega arith) (e n (omega arith))) (omega arith)

-- ---- what a search over a range says of them
module _ (a b : List ℕ) (n : ℕ) (h : n ≤ length a) (k : n ≤ length b) where
  pub alike_to : (r : Option ℕ) → MatchOption r ((j : ℕ) → 0 ≤ j → j < n / 8 → same (part a (8 * j) 8) (part b (8 * j) 8) ≡ true) (λ i. (0 ≤ i) × (i < n / 8) × ⊤ × ((j : ℕ) → 0 ≤ j → j < i → same (part a (8 * j) 8) (part b (8 * j) 8) ≡ true))
      → (8 * unwrap_or r (n / 8) ≤ n) × (common_start a b ≡ 8 * unwrap_or r (n / 8) + common_start (drop (8 * unwrap_or r (n / 8)) a) (drop (8 * unwrap_or r (n / 8)) b))
  alike_to None m = (omega arith, common_eights a b (n / 8) (omega arith) (omega arith) (λ j p. m j (omega arith) p))
  alike_to (Some i) m = (omega (arith, m.1), common_eights a b i (omega (arith, m.1)) (omega (arith, m.1)) (λ j p. m.3 j (omega arith) p))

  pub differ_at : (i : ℕ) → i ≤ n → n ≡ min (length a) (length b) → common_start a b ≡ i + common_start (drop i a) (drop i b)
      → (r : Option ℕ) → MatchOption r ((j : ℕ) → i ≤ j → j < n → get_or a j 0 ≡ get_or b j 0) (λ x. (i ≤ x) × (x < n) × (get_or a x 0 ≡ get_or b x 0 → ⊥) × ((j : ℕ) → i ≤ j → j < x → get_or a j 0 ≡ get_or b j 0))
      → unwrap_or r n ≡ common_start a b
  differ_at i l e s None m =
      let z : i + (n - i) ≡ n = omega arith in
      let q = common_run a b i (n - i) (omega arith) (omega arith) (λ j p v. m j p (omega arith)) in
      let f = common_end a b n (omega arith) in
      let g = rw z at q in
      omega (arith, s, f, g)
  differ_at i l e s (Some x) m =
      let z : i + (x - i) ≡ x = omega (arith, m.0) in
      let q = common_run a b i (x - i) (omega (arith, m.1)) (omega (arith, m.1)) (λ j p v. m.3 j p (omega (arith, m.0))) in
      let f = common_differ a b x (omega (arith, m.1)) (omega (arith, m.1)) m.2 in
      let g = rw z at q in
      omega (arith, s, m.0, f, g)

-- ---- the bytes of a number
pub two_bytes : (n : ℕ) → high_byte n * 256 + low_byte n ≡ n
two_bytes n = omega arith

-- eight bits a byte
pub byte_pow : (k : ℕ) → 2 ^ (8 * k) ≡ 256 ^ k
byte_pow zero = refl
byte_pow (suc k) = rw (mul-suc, pow-add, byte_pow k) (sym (pow-suc 256 k))
