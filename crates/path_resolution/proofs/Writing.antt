-- Writing the codes one after another. Assumes nothing.
use Prim.Native.Nat.{ℕ, zero, suc, ◌+◌, ◌-◌, ◌*◌, ◌/◌, ◌%◌, ◌≤◌, ◌<◌}
use mathlib.Core.Path.{◌≡◌, refl, sym, ap, subst, ◌∙◌}
use mathlib.Core.List.{List, ◌++◌}
use mathlib.Core.Bool.{Bool, true, false}
use native.Mathlib.Omega.{arith}
use lib.ListN.{length, get_or, set, drop, length-set, length-append, length-drop, get_or-append}
use lib.Seq.{ext_get_or, get_or-set_same, get_or-set_other, get_or-append-add, get_or-drop}
use lib.Dec.{eqb, ltb}
use borrow.Author.Tests.{eqb-true, eqb-false, ltb-true, ltb-false}
use Rattle.packed.specs.Bytes.{high_byte, low_byte}
use Rattle.csdl.specs.Search.{flat, tab}
use Rattle.csdl.specs.Verdict.{bytes_of}
use Rattle.path_resolution.specs.Written.{code_of, code_bytes, Written}

-- The two bytes of a code are those of its 16 low bits.
pub high_of : (x : ℕ) → x / 256 % 256 ≡ high_byte (x % 65536)
high_of x = omega arith

pub low_of : (x : ℕ) → x / 1 % 256 ≡ low_byte (x % 65536)
low_of x = omega arith

pub written_start : (codes out : List ℕ) → Written codes 0 out out
written_start codes out = record { same_length = refl; high = λ g h. absurd (omega arith); low = λ g h. absurd (omega arith); rest = λ j h. refl }

-- One code more.
module _ (codes before out : List ℕ) (n : ℕ) (w : Written codes n before out) (fits : 2 * n + 1 < length out) where
  abbrev stored : List ℕ
  stored = set (set out (2 * n) (high_byte (code_of codes n))) (2 * n + 1) (low_byte (code_of codes n))

  stored_other : (j : ℕ) → (j ≡ 2 * n → ⊥) → (j ≡ 2 * n + 1 → ⊥) → get_or stored j 0 ≡ get_or out j 0
  stored_other j a b = get_or-set_other (set out (2 * n) (high_byte (code_of codes n))) (2 * n + 1) j (low_byte (code_of codes n)) 0 b ∙ get_or-set_other out (2 * n) j (high_byte (code_of codes n)) 0 a

  stored_high : get_or stored (2 * n) 0 ≡ high_byte (code_of codes n)
  stored_high = get_or-set_other (set out (2 * n) (high_byte (code_of codes n))) (2 * n + 1) (2 * n) (low_byte (code_of codes n)) 0 (λ e. omega arith) ∙ get_or-set_same out (2 * n) (high_byte (code_of codes n)) 0 (omega arith)

  stored_low : get_or stored (2 * n + 1) 0 ≡ low_byte (code_of codes n)
  stored_low = get_or-set_same (set out (2 * n) (high_byte (code_of codes n))) (2 * n + 1) (low_byte (code_of codes n)) 0 (omega (arith, length-set out (2 * n) (high_byte (code_of codes n))))

  pub written-more : Written codes (n + 1) before stored
  written-more = record {
    same_length = length-set (set out (2 * n) (high_byte (code_of codes n))) (2 * n + 1) (low_byte (code_of codes n)) ∙ length-set out (2 * n) (high_byte (code_of codes n)) ∙ w.same_length;
    high = λ g h. high g h (ltb g n) refl;
    low = λ g h. low g h (ltb g n) refl;
    rest = λ j h. stored_other j (λ e. omega arith) (λ e. omega arith) ∙ w.rest j (omega arith);
  }
    where
      high : (g : ℕ) → g < n + 1 → (b : Bool) → ltb g n ≡ b → get_or stored (2 * g) 0 ≡ high_byte (code_of codes g)
      high g h true e = let l = ltb-true g n e in stored_other (2 * g) (λ q. omega arith) (λ q. omega arith) ∙ w.high g l
      high g h false e = let q : g ≡ n = omega (arith, ltb-false g n e) in rw q stored_high

      low : (g : ℕ) → g < n + 1 → (b : Bool) → ltb g n ≡ b → get_or stored (2 * g + 1) 0 ≡ low_byte (code_of codes g)
      low g h true e = let l = ltb-true g n e in stored_other (2 * g + 1) (λ q. omega arith) (λ q. omega arith) ∙ w.low g l
      low g h false e = let q : g ≡ n = omega (arith, ltb-false g n e) in rw q stored_low

-- Two bytes for each number, as a list.
abbrev pairs : (ℕ → ℕ) → ℕ → ℕ → List ℕ
pairs f i n = flat (λ g. bytes_of (f g)) (tab (λ g. g) i n)

pairs_length : (f : ℕ → ℕ) (i n : ℕ) → length (pairs f i n) ≡ 2 * n
unfolding flat tab
pairs_length f i zero = refl
pairs_length f i (suc n) = omega (arith, pairs_length f (i + 1) n)

pairs_high : (f : ℕ → ℕ) (i n k : ℕ) → k < n → get_or (pairs f i n) (2 * k) 0 ≡ high_byte (f (i + k))
unfolding flat tab
pairs_high f i zero k h = absurd (omega arith)
pairs_high f i (suc n) zero h = let e : i + 0 ≡ i = omega arith in rw e
pairs_high f i (suc n) (suc k) h =
    let e : 2 * suc k ≡ suc (suc (2 * k)) = omega arith in
    let d : i + 1 + k ≡ i + suc k = omega arith in
    rw e (rw d at (pairs_high f (i + 1) n k (omega arith)))

pairs_low : (f : ℕ → ℕ) (i n k : ℕ) → k < n → get_or (pairs f i n) (2 * k + 1) 0 ≡ low_byte (f (i + k))
unfolding flat tab
pairs_low f i zero k h = absurd (omega arith)
pairs_low f i (suc n) zero h = let e : i + 0 ≡ i = omega arith in rw e
pairs_low f i (suc n) (suc k) h =
    let e : 2 * suc k + 1 ≡ suc (suc (2 * k + 1)) = omega arith in
    let d : i + 1 + k ≡ i + suc k = omega arith in
    rw e (rw d at (pairs_low f (i + 1) n k (omega arith)))

-- All codes written: the whole buffer.
pub all-written : (codes before out : List ℕ) (n : ℕ) → 2 * n ≤ length before → Written codes n before out → out ≡ code_bytes codes n ++ drop (2 * n) before
unfolding code_bytes
all-written codes before out n fits w = ext_get_or 0 out (pairs code 0 n ++ drop (2 * n) before) sizes each
  where
    code : ℕ → ℕ
    code g = code_of codes g

    sizes : length out ≡ length (pairs code 0 n ++ drop (2 * n) before)
    sizes = rw (length-append (pairs code 0 n) (drop (2 * n) before), pairs_length code 0 n, length-drop (2 * n) before) (omega (arith, w.same_length))

    left : (j : ℕ) → j < 2 * n → get_or (pairs code 0 n ++ drop (2 * n) before) j 0 ≡ get_or (pairs code 0 n) j 0
    left j h = get_or-append (pairs code 0 n) (drop (2 * n) before) 0 j (omega (arith, pairs_length code 0 n))

    from_0 : (g : ℕ) → 0 + g ≡ g
    from_0 g = omega arith

    each : (j : ℕ) → j < length out → get_or out j 0 ≡ get_or (pairs code 0 n ++ drop (2 * n) before) j 0
    each j h = go (ltb j (2 * n)) refl (eqb (j % 2) 0) refl
      where
        go : (b : Bool) → ltb j (2 * n) ≡ b → (c : Bool) → eqb (j % 2) 0 ≡ c → get_or out j 0 ≡ get_or (pairs code 0 n ++ drop (2 * n) before) j 0
        go true e true f =
            let l = ltb-true j (2 * n) e in
            let z = eqb-true (j % 2) 0 f in
            let q : j ≡ 2 * (j / 2) = omega arith in
            let s : j / 2 < n = omega arith in
            subst (λ (x : ℕ). get_or out x 0 ≡ get_or (pairs code 0 n ++ drop (2 * n) before) x 0) (sym q)
            (w.high (j / 2) s ∙ sym (left (2 * (j / 2)) (omega arith) ∙ pairs_high code 0 n (j / 2) s ∙ ap (λ x. high_byte (code x)) (from_0 (j / 2))))
        go true e false f =
            let l = ltb-true j (2 * n) e in
            let z = eqb-false (j % 2) 0 f in
            let q : j ≡ 2 * (j / 2) + 1 = omega arith in
            let s : j / 2 < n = omega arith in
            subst (λ (x : ℕ). get_or out x 0 ≡ get_or (pairs code 0 n ++ drop (2 * n) before) x 0) (sym q)
            (w.low (j / 2) s ∙ sym (left (2 * (j / 2) + 1) (omega arith) ∙ pairs_low code 0 n (j / 2) s ∙ ap (λ x. low_byte (code x)) (from_0 (j / 2))))
        go false e c f =
            let l = ltb-false j (2 * n) e in
            let q : 2 * n + (j - 2 * n) ≡ j = omega arith in
            let v : length (pairs code 0 n) + (j - 2 * n) ≡ j = omega (arith, pairs_length code 0 n) in
            w.rest j l ∙ sym (ap (λ (x : ℕ). get_or (pairs code 0 n ++ drop (2 * n) before) x 0) (sym v)
            ∙ get_or-append-add (pairs code 0 n) (drop (2 * n) before) (j - 2 * n) 0 ∙ get_or-drop (2 * n) before (j - 2 * n) 0 ∙ ap (λ (x : ℕ). get_or before x 0) q)
