-- Rule 17 out of the codes of all segments. Assumes nothing.
use Prim.Native.Nat.{ℕ, ◌≤◌, ◌<◌}
use mathlib.Core.Path.{◌≡◌, refl, sym, ap, ap₂, ◌∙◌}
use mathlib.Core.List.{List}
use mathlib.Core.Bool.{Bool, true, false, false≢true, not, ◌&&◌, ◌||◌}
use native.Mathlib.Omega.{arith}
use lib.Dec.{eqb}
use lib.ListN.{get_or}
use Rattle.csdl.specs.Model.{Model, present}
use Rattle.csdl.specs.Path.{Step, holders, path_of, start_of, path_steps, is_property, last_step}
use Rattle.csdl.specs.declared.PathKind.{PathKind}
use Rattle.csdl.specs.declared.PathKind.TheVariants.{Partner}
use Rattle.csdl.specs.Path.Step.{property, type, nothing}
use Rattle.csdl.specs.Paths.{other_contained, property17a, property17b, property17c, property17d, property17e, property17f, property17}
use Rattle.csdl.proofs.Logic.{any_same}
use Rattle.path_resolution.specs.Resolution.{code_at, is_code, number_of}
use Rattle.path_resolution.specs.Coded.{Coded}
use Rattle.path_resolution.proofs.Reading.{is_steps, last_is, last_below, last_number}
use Rattle.path_resolution.proofs.Runs.{run_codes}
use Rattle.rules_bindings.specs.Runs.{path_run}
use Rattle.rules_bindings.specs.Partners.{partner_last, partner_codes, other_partner, contained_partner, other_contains, shared_containment, partner_ends, partner_coded}

order : (a b c d e f : Bool) → (a || b || (c || d || e || f)) ≡ (a || b || c || d || e || f)
order true b c d e f = refl
order false true c d e f = refl
order false false c d e f = refl

-- What follows the first test matters only where it is false.
rest : (a b x y : Bool) → (a ≡ false → x ≡ y) → (a || b || x) ≡ (a || b || y)
rest true b x y f = refl
rest false b x y f = ap (λ z. b || z) (f refl)

module _ (m : Model) (codes : List ℕ) (table : Coded m codes) (few : m.properties ≤ 32768) (short : (w : PathKind) (r : ℕ) → (path_of m w r).count < 16) where
  module _ (p : ℕ) (there : p < m.properties) where
    partner_run : (k : ℕ) → k < (path_of m Partner p).count → get_or (path_run m codes Partner p) k 0 ≡ code_at m (start_of m Partner p) (path_of m Partner p).first k
    unfolding holders
    partner_run = run_codes m codes table Partner p there (short Partner p)

    -- the last step
    partner-is : (test : ℕ → Bool) → is_code test (partner_last m codes p) ≡ is_property test (last_step (path_steps m Partner p))
    unfolding partner_last
    partner-is test = last_is m _ _ _ _ partner_run few test

    partner-number : (q : ℕ) → last_step (path_steps m Partner p) ≡ property q → number_of (partner_last m codes p) ≡ q
    unfolding partner_last
    partner-number = last_number m _ _ _ _ partner_run few

    -- 17a, 17b
    partner-path : partner_codes m (path_run m codes Partner p) (path_of m Partner p).count ≡ (property17a m p || property17b m p)
    unfolding partner_codes
    partner-path = ap₂ ◌||◌ (ap not (last_is m _ _ _ _ partner_run few (λ q. m.navigation q))) (is_steps m _ _ _ (path_run m codes Partner p) partner_run few (λ q. m.navigation q))

  -- 17f, of another property q
  other-is : (p q : ℕ) → q < m.properties → other_contains m codes p q ≡ other_contained m p q
  unfolding other_contains other_contained
  other-is p q h = rw (partner-is q h (λ x. m.contains x))

  -- 17c to 17f, where 17a keeps the path
  ends_coded : (p : ℕ) → p < m.properties → property17a m p ≡ false
      → partner_ends m codes p (number_of (partner_last m codes p)) ≡ (property17c m p || property17d m p || property17e m p || property17f m p)
  unfolding partner_ends other_partner contained_partner shared_containment
  ends_coded p h a = go (last_step (path_steps m Partner p)) refl
    where
      go : (s : Step) → last_step (path_steps m Partner p) ≡ s → partner_ends m codes p (number_of (partner_last m codes p)) ≡ (property17c m p || property17d m p || property17e m p || property17f m p)
      go (property q) e =
          rw (
            partner-number p h q e,
            partner-is q (last_below m _ _ _ q e) (λ x. eqb x p),
            any_same (λ x. other_contains m codes p x) (λ x. other_contained m p x) 0 m.properties (λ x a b. other-is p x (omega arith)),
            e,
          )
      go (type c) e = absurd (false≢true (sym a ∙ rw e))
      go nothing e = absurd (false≢true (sym a ∙ rw e))

  pub partner_coded_lem : (p : ℕ) → p < m.properties → partner_coded m codes p ≡ property17 m p
  unfolding partner_coded property17
  partner_coded_lem p h =
      rw (partner-path p h)
      (ap (λ b. present (m.partner p) && b)
      (rest (property17a m p) (property17b m p) _ (property17c m p || property17d m p || property17e m p || property17f m p) (ends_coded p h)
      ∙ order (property17a m p) (property17b m p) (property17c m p) (property17d m p) (property17e m p) (property17f m p)))
