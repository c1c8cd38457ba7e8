-- How many of the members that the check has been at are of each type, and the first that is: none yet, and one more. Assumes nothing.
use Prim.Native.Nat.{ℕ, zero, suc, ◌+◌, ◌<◌}
use mathlib.Core.Path.{◌≡◌, refl, sym, ap, ◌∙◌}
use Rattle.std.proofs.Common.{Option, Some, None}
use Rattle.std.specs.Option.{option_or}
use mathlib.Core.List.{List}
use mathlib.Core.Bool.{cond}
use native.Mathlib.Nat.{add-zero, zero-add}
use native.Mathlib.Numerals.{add-one}
use lib.Dec.{eqb}
use lib.ListN.{get_or, set, replicate, length-set, get_or-replicate}
use lib.Seq.{get_or-set_same, get_or-set_other}
use borrow.Author.Tests.{eq-eqb, ne_eqb}
use Rattle.csdl.specs.Search.{first_from, sum_from, or_else, found}
use Rattle.csdl.specs.Members.{Members}
use Rattle.csdl.proofs.Logic.{equal_or_not, count_next}
use Rattle.type_hierarchy.proofs.Near.{first_more}
use Rattle.enumeration_members.specs.Earlier.{count_of, first_of, Tally}

-- No member yet.
pub tally_none : (e : Members) → Tally e 0 (replicate 64 0) (replicate 64 None)
unfolding sum_from first_from
tally_none e =
    record {
      counts_size = refl;
      firsts_size = refl;
      count = λ t h. get_or-replicate 64 t 0 0 h;
      first = λ t d h. get_or-replicate 64 t None d h;
    }

-- One member more.
or_option : (f n : ℕ) → option_or (found f) (Some n) ≡ found (or_else f (suc n))
or_option zero n = refl
or_option (suc k) n = refl

or-none : (f : ℕ) → or_else f 0 ≡ f
or-none zero = refl
or-none (suc k) = refl

first_next : (e : Members) (n u : ℕ) → first_of e (n + 1) u ≡ or_else (first_of e n u) (cond (eqb (e.member_type n) u) (suc n) 0)
first_next e n u = rw (add-one n, first_more (λ s. eqb (e.member_type s) u) 0 n, zero-add n)

module _ (e : Members) (n t c : ℕ) (f : Option ℕ) (counts : List ℕ) (firsts : List (Option ℕ)) (v : Option ℕ) (of : t ≡ e.member_type n) (low : t < 64) (had : Tally e n counts firsts) where
  pub tally_next : c ≡ get_or counts t 0 + 1 → (v ≡ found (first_of e n t)) → f ≡ option_or v (Some n) → Tally e (n + 1) (set counts t c) (set firsts t f)
  tally_next counted kept next =
      record {
        counts_size = simp length-set had.counts_size;
        firsts_size = simp length-set had.firsts_size;
        count = λ u h. equal_or_not u t count-here (count-other u h);
        first = λ u d h. equal_or_not u t (first-here d) (first-other u d h);
      }
    where
      count-here : {u : ℕ} → u ≡ t → get_or (set counts t c) u 0 ≡ count_of e (n + 1) u
      count-here z =
          rw (z, get_or-set_same counts t c 0 (rw had.counts_size low), count_next (λ s. eqb (e.member_type s) t) n, eq-eqb (e.member_type n) t (sym of))
          (rw (← had.count t low) counted)

      count-other : (u : ℕ) → u < 64 → (u ≡ t → ⊥) → get_or (set counts t c) u 0 ≡ count_of e (n + 1) u
      count-other u h d =
          rw (get_or-set_other counts t u c 0 d, count_next (λ s. eqb (e.member_type s) u) n, ne_eqb (e.member_type n) u (λ q. d (sym q ∙ sym of)), had.count u h)
          (sym (add-zero (count_of e n u)))

      first-here : (d : Option ℕ) {u : ℕ} → u ≡ t → get_or (set firsts t f) u d ≡ found (first_of e (n + 1) u)
      first-here d z =
          rw (z, get_or-set_same firsts t f d (rw had.firsts_size low), first_next e n t, eq-eqb (e.member_type n) t (sym of))
          (next ∙ rw kept (or_option (first_of e n t) n))

      first-other : (u : ℕ) (d : Option ℕ) → u < 64 → (u ≡ t → ⊥) → get_or (set firsts t f) u d ≡ found (first_of e (n + 1) u)
      first-other u d h o =
          rw (get_or-set_other firsts t u f d o, first_next e n u, ne_eqb (e.member_type n) u (λ q. o (sym q ∙ sym of)), had.first u d h)
          (ap found (sym (or-none (first_of e n u))))
