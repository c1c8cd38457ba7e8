-- The lowest number that passes one of several tests, one test after another.
use Prim.Native.Nat.{ℕ, ◌+◌, ◌≤◌, ◌<◌}
use mathlib.Core.Path.{◌≡◌, refl, sym, ap, subst, ◌∙◌}
use mathlib.Core.Bool.{Bool, true, false, cond, ◌&&◌, ◌||◌}
use native.Mathlib.Omega.{arith}
use lib.ListN.{get_or}
use lib.Dec.{ltb, leb}
use borrow.Author.Tests.{ltb-true, ltb-false, leb-true, le-ltb}
use Rattle.std.specs.Bool.{then_some}
use Rattle.csdl.specs.Search.{any_from, first_from, some, found}
use Rattle.csdl.proofs.Logic.{any_of, none_any, first-is, none_first}
use Rattle.csdl.specs.declared.Run.{Run}
use Rattle.csdl.specs.Model.{Model, in_run}
use Rattle.csdl.specs.Path.{kinds, holders, path_of}
use Rattle.csdl.specs.declared.PathKind.{PathKind}
use Rattle.csdl.specs.declared.PathKind.TheVariants.{Partner, Key, Dependent, Principal, Binding, Target}
use Rattle.csdl.specs.Paths.{unresolved_in, unresolved_of, unresolved, segment14}
use Rattle.csdl.proofs.Clauses.{rule14-is}
use Rattle.rules_segments.specs.Lowest.{Lowest}

-- The first n tests of a family have been asked.
pub record Least (f : ℕ → ℕ → Bool) (bound n low : ℕ) : Type 0 where
  pub most : low ≤ bound
  pub below : (g : ℕ) → g < low → (j : ℕ) → j < n → f j g ≡ false
  pub hit : low < bound → (j : ℕ) × (j < n) × (f j low ≡ true)

pub least_start : (f : ℕ → ℕ → Bool) (bound : ℕ) → Least f bound 0 bound
least_start f bound = record { most = omega arith; below = λ g h j l. absurd (omega arith); hit = λ h. absurd (omega arith) }

-- One test more, whose lowest number below the present one is found.
pub least_more : (f : ℕ → ℕ → Bool) (bound n low next : ℕ) → Least f bound n low → Lowest (f n) low next → Least f bound (n + 1) next
least_more f bound n low next l s = record {
  most = omega (arith, l.most, s.most);
  below = λ g h j k. under g h j k (ltb j n) refl;
  hit = λ h. met h (ltb next low) refl;
}
  where
    under : (g : ℕ) → g < next → (j : ℕ) → j < n + 1 → (b : Bool) → ltb j n ≡ b → f j g ≡ false
    under g h j k true e = l.below g (omega (arith, s.most)) j (ltb-true j n e)
    under g h j k false e = let q : j ≡ n = omega (arith, ltb-false j n e) in rw q (s.below g h)

    met : next < bound → (b : Bool) → ltb next low ≡ b → (j : ℕ) × (j < n + 1) × (f j next ≡ true)
    met h true e = (n, omega arith, s.hit (ltb-true next low e))
    met h false e =
        let q : next ≡ low = omega (arith, ltb-false next low e, s.most) in
        let w = l.hit (omega arith) in
        (w.0, omega (arith, w.1), subst (λ (x : ℕ). f w.0 x ≡ true) (sym q) w.2)

-- All of them asked: the lowest number at which any passes.
pub least_any : (f : ℕ → ℕ → Bool) (bound n low : ℕ) → Least f bound n low → Lowest (λ g. any_from (λ j. f j g) 0 n) bound low
least_any f bound n low l = record {
  most = l.most;
  below = λ g h. none_any (λ j. f j g) 0 n (λ j a b. l.below g h j (omega arith));
  hit = λ h. let w = l.hit h in any_of (λ j. f j low) 0 n w.0 (omega arith) (omega (arith, w.1)) w.2;
}

-- A path of no segments resolves.
pub empty_run : (run : Run) (g : ℕ) → run.count ≡ 0 → in_run run g ≡ false
empty_run run g h = go (leb run.first g) refl
  where
    go : (b : Bool) → leb run.first g ≡ b → (b && ltb g (run.first + run.count)) ≡ false
    go true e = le-ltb g (run.first + run.count) (omega (arith, leb-true run.first g e, h))
    go false e = refl

pub empty_path : (m : Model) (w : PathKind) (r bound : ℕ) → (path_of m w r).count ≡ 0 → Lowest (λ g. unresolved_in m w g r) bound bound
unfolding unresolved_in
empty_path m w r bound h = record {
  most = omega arith;
  below = λ g l. rw (empty_run (path_of m w r) g h);
  hit = λ l. absurd (omega arith);
}

-- The search from 0 finds the lowest number.
pub lowest_found : (test : ℕ → Bool) (n low : ℕ) → Lowest test n low → then_some (ltb low n) low ≡ found (first_from test 0 n)
lowest_found test n low l = go (ltb low n) refl
  where
    go : (b : Bool) → ltb low n ≡ b → then_some b low ≡ found (first_from test 0 n)
    go true e = let h = ltb-true low n e in ap found (sym (first-is test 0 n low (omega arith) (omega arith) (l.hit h) (λ j a b. l.below j b)))
    go false e = let h = ltb-false low n e in ap found (sym (none_first test 0 n (λ j a b. l.below j (omega (arith, l.most)))))

-- Six tests, by number or joined.
any_six : (a b c d e f : Bool) → cond a true (cond b true (cond c true (cond d true (cond e true (cond f true false))))) ≡ (a || (b || (c || (d || (e || (f || false))))))
any_six true b c d e f = refl
any_six false true c d e f = refl
any_six false false true d e f = refl
any_six false false false true e f = refl
any_six false false false false true f = refl
any_six false false false false false true = refl
any_six false false false false false false = refl

pub any-kind : (m : Model) (g : ℕ) → any_from (λ j. unresolved_of m (get_or kinds j Partner) g) 0 6 ≡ segment14 m g
unfolding any_from unresolved some
any-kind m g =
    any_six (unresolved_of m Partner g) (unresolved_of m Key g) (unresolved_of m Dependent g) (unresolved_of m Principal g) (unresolved_of m Binding g) (unresolved_of m Target g)
    ∙ sym (rule14-is m g)

-- The lowest segment that does not resolve, by all kinds.
pub lowest_14 : (m : Model) (bound low : ℕ) → Least (λ j g. unresolved_of m (get_or kinds j Partner) g) bound 6 low → Lowest (λ g. segment14 m g) bound low
lowest_14 m bound low l =
    let s = least_any (λ j g. unresolved_of m (get_or kinds j Partner) g) bound 6 low l in
    record { most = s.most; below = λ g h. rw (← any-kind m g) (s.below g h); hit = λ h. rw (← any-kind m low) (s.hit h) }

-- The lowest segment at which a path of one kind does not resolve, by all its records.
pub lowest_kind : (m : Model) (w : PathKind) (bound n low : ℕ) → n ≡ holders m w → Least (λ j g. unresolved_in m w g j) bound n low → Lowest (λ g. unresolved_of m w g) bound low
unfolding unresolved_of
lowest_kind m w bound n low e l = rw (← e) (least_any (λ j g. unresolved_in m w g j) bound n low l)
