-- A loop that writes, in order, what each number of a run gives, and counts what each opens: what is left of the whole. Assumes nothing.
use Prim.Native.Nat.{ℕ, suc, ◌+◌, ◌-◌, ◌≤◌, ◌<◌}
use mathlib.Core.Path.{◌≡◌, sym, ap, ap₂, ◌∙◌}
use mathlib.Core.List.{List, [], ◌∷◌, ◌++◌}
use native.Mathlib.Omega.{arith}
use native.Mathlib.Nat.{add-zero}
use lib.ListN.{length, set, length-append}
use lib.Seq.{sets, length-sets}
use Rattle.csdl.specs.Search.{tab, flat}

sets_append : (l : List ℕ) (n : ℕ) (a b : List ℕ) → sets l n (a ++ b) ≡ sets (sets l n a) (n + length a) b
sets_append l n [] b = rw add-zero
sets_append l n (x ∷ a) b = let e : suc n + length a ≡ n + suc (length a) = omega arith in rw (← e) (sets_append (set l n x) (suc n) a b)

-- What the numbers from q up to `last` give.
unfoldable pub rest : (ℕ → List ℕ) → ℕ → ℕ → List ℕ
rest f q last = flat f (tab (λ p. p) q (last - q))

rest_more : (f : ℕ → List ℕ) (q last : ℕ) → q < last → rest f q last ≡ f q ++ rest f (q + 1) last
unfolding rest flat tab
rest_more f q last h = let e : last - q ≡ suc (last - (q + 1)) = omega arith in rw e

rest-none : (f : ℕ → List ℕ) (q last : ℕ) → last ≤ q → rest f q last ≡ []
unfolding rest flat tab
rest-none f q last h = let e : last - q ≡ 0 = omega arith in rw e

pub rest_all : (f : ℕ → List ℕ) (first count : ℕ) → flat f (tab (λ p. p) first count) ≡ rest f first (first + count)
unfolding rest
rest_all f first count = let e : first + count - first ≡ count = omega arith in rw e

-- F q is written and G q opened for number q; all is W and O, from byte at₀ of out₀ on.
pub record Going (F G : ℕ → List ℕ) (W O : List ℕ) (out₀ : List ℕ) (at₀ last : ℕ) (out : List ℕ) (at o q : ℕ) : Type 0 where
  pub fits : at + length (rest F q last) ≤ length out
  pub few : o + length (rest G q last) < 65536
  pub out_is : sets out₀ at₀ W ≡ sets out at (rest F q last)
  pub at-is : at₀ + length W ≡ at + length (rest F q last)
  pub o_is : length O ≡ o + length (rest G q last)

pub going_start : {F G : ℕ → List ℕ} {W O : List ℕ} {out : List ℕ} {at o first last : ℕ} → W ≡ rest F first last → length O ≡ o + length (rest G first last) →
    at + length W ≤ length out → length O < 65536 → Going F G W O out at last out at o first
going_start e f fit lim = record { fits = rw (← e) fit; few = omega arith; out_is = rw e; at-is = rw e; o_is = f }

module _ {F G : ℕ → List ℕ} {W O out₀ : List ℕ} {at₀ last : ℕ} {out : List ℕ} {at o q : ℕ} (g : Going F G W O out₀ at₀ last out at o q) where
  module _ (h : q < last) where
    pub going_fits : at + length (F q) ≤ length out
    going_fits = omega (arith, g.fits, ap length (rest_more F q last h), length-append (F q) (rest F (q + 1) last))

    pub going_few : o + length (G q) < 65536
    going_few = omega (arith, g.few, ap length (rest_more G q last h), length-append (G q) (rest G (q + 1) last))

    pub going_more : {out' : List ℕ} {at' d : ℕ} → out' ≡ sets out at (F q) → at' ≡ at + length (F q) → d ≡ length (G q) →
        Going F G W O out₀ at₀ last out' at' (o + d) (q + 1)
    going_more {out'} {at'} {d} e f p =
        let lr = ap length (rest_more F q last h) ∙ length-append (F q) (rest F (q + 1) last) in
        let ls = ap length (rest_more G q last h) ∙ length-append (G q) (rest G (q + 1) last) in
        let lo : length out' ≡ length out = rw e (length-sets out at (F q)) in
        record {
          fits = omega (arith, g.fits);
          few = omega (arith, g.few);
          out_is =
              g.out_is ∙ ap (sets out at) (rest_more F q last h) ∙ sets_append out at (F q) (rest F (q + 1) last)
              ∙ ap₂ (λ (a : List ℕ) (b : ℕ). sets a b (rest F (q + 1) last)) (sym e) (sym f);
          at-is = omega (arith, g.at-is);
          o_is = omega (arith, g.o_is);
        }

  pub going_end : last ≤ q → (out ≡ sets out₀ at₀ W) × ((at ≡ at₀ + length W) × (o ≡ length O))
  going_end h =
      let r = rest-none F q last h in
      let s = rest-none G q last h in
      (sym (g.out_is ∙ ap (sets out at) r), (omega (arith, g.at-is, ap length r), omega (arith, g.o_is, ap length s)))
