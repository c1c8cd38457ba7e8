-- Steps between numbers, as a table that goes through one number after the other: what it has when it has gone through the numbers below c is
-- what is reached through them. `m` is the number of columns. Assumes nothing.
use Prim.Native.Nat.{ℕ, ◌+◌, ◌≤◌, ◌<◌}
use mathlib.Core.Path.{◌≡◌, refl, sym, ◌∙◌}
use mathlib.Core.Bool.{Bool, true, false, ◌&&◌, ◌||◌}
use mathlib.Core.Logic.{⊎_elim}
use native.Mathlib.Omega.{arith}
use lib.Dec.{ltb, eqb}
use borrow.Author.Tests.{ltb-true, ltb-false, eqb-true, eqb-false}
use Rattle.csdl.specs.Climb.{reaches}
use Rattle.csdl.proofs.Logic.{or_cases, or_left, or_right, and_cases, and_both, bool_iff}
use Rattle.csdl.proofs.Reaching.{Reach, reaches_exact}
use Rattle.csdl.proofs.Reaching.Reach.{in_one}
use Rattle.type_hierarchy.proofs.Reaching.{direct, wider, after, by_way}

-- The table went through c: each of its first n rows that had c has got what row c had.
pub record Through (n m c : ℕ) (before next : ℕ → ℕ → Bool) : Type 0 where
  pub row : (a b : ℕ) → a < n → b < m → next a b ≡ (before a b || (before a c && before c b))

-- The first n rows have what is reached through numbers below c.
pub record Reached (n c : ℕ) (before next : ℕ → ℕ → Bool) : Type 0 where
  pub found : (a b : ℕ) → a < n → b < n → next a b ≡ true → Reach before c a b
  pub all : (a b : ℕ) → a < n → b < n → Reach before c a b → next a b ≡ true

pub reached_start : (n : ℕ) (before : ℕ → ℕ → Bool) → Reached n 0 before before
reached_start n before = record { found = λ a b h l e. in_one e; all = λ a b h l r. direct before a r }

pub reached_more : (n m c : ℕ) (before rows next : ℕ → ℕ → Bool) → n ≤ m → c < n → Reached n c before rows → Through n m c rows next → Reached n (c + 1) before next
reached_more n m c before rows next few l p t = record { found = found; all = all }
  where
    found : (a b : ℕ) → a < n → b < n → next a b ≡ true → Reach before (c + 1) a b
    found a b h i e =
        ⊎_elim (λ x. wider before c a (p.found a b h i x))
        (λ x. let y = and_cases (rows a c) (rows c b) x in
        after before (c + 1) a (omega arith) (wider before c a (p.found a c h l y.0)) (wider before c c (p.found c b l i y.1)))
        (or_cases (rows a b) (rows a c && rows c b) (sym (t.row a b h (omega arith)) ∙ e))

    all : (a b : ℕ) → a < n → b < n → Reach before (c + 1) a b → next a b ≡ true
    all a b h i r =
        t.row a b h (omega arith)
        ∙ ⊎_elim (λ x. or_left (rows a b) (rows a c && rows c b) (p.all a b h i x))
        (λ x. or_right (rows a b) (rows a c && rows c b) (and_both (rows a c) (rows c b) (p.all a c h l x.0) (p.all c b l i x.1)))
        (by_way before c a r)

-- Two tests of which each passes where the other does.
pub reached_all : (n : ℕ) (before next : ℕ → ℕ → Bool) → Reached n n before next → (a b : ℕ) → a < n → b < n → next a b ≡ reaches before n a b
reached_all n before next p a b h l =
    let x = reaches_exact before n a b l in
    bool_iff (next a b) (reaches before n a b) (λ q. x.1 (p.found a b h l q)) (λ q. p.all a b h l (x.0 q))

-- ---- one number more, row by row
-- The rows below a went through c, those from a on did not yet.
pub record Going (m a c : ℕ) (before rows : ℕ → ℕ → Bool) : Type 0 where
  pub done : (x b : ℕ) → x < a → b < m → rows x b ≡ (before x b || (before x c && before c b))
  pub still : (x b : ℕ) → a ≤ x → b < m → rows x b ≡ before x b

pub going_start : (m c : ℕ) (before : ℕ → ℕ → Bool) → Going m 0 c before before
going_start m c before = record { done = λ x b h l. absurd (omega arith); still = λ x b h l. refl }

absorbed : (p q : Bool) → (p || (q && p)) ≡ p
absorbed true q = refl
absorbed false true = refl
absorbed false false = refl

module _ (m a c : ℕ) (before rows : ℕ → ℕ → Bool) (g : Going m a c before rows) where
  -- row c itself stays as it was
  row_c : (b : ℕ) → b < m → rows c b ≡ before c b
  row_c b l = go (ltb c a) refl
    where
      go : (x : Bool) → ltb c a ≡ x → rows c b ≡ before c b
      go true e = g.done c b (ltb-true c a e) l ∙ absorbed (before c b) (before c c)
      go false e = g.still c b (ltb-false c a e) l

  pub going_more : (next : ℕ → ℕ → Bool) → c < m → ((b : ℕ) → b < m → next a b ≡ (rows a b || (rows a c && rows c b)))
      → ((x b : ℕ) → (x ≡ a → ⊥) → b < m → next x b ≡ rows x b)
      → Going m (a + 1) c before next
  going_more next k here other = record { done = λ x b h i. new x b h i (eqb x a) refl; still = λ x b h i. other x b (λ e. omega arith) i ∙ g.still x b (omega arith) i }
    where
      new : (x b : ℕ) → x < a + 1 → b < m → (y : Bool) → eqb x a ≡ y → next x b ≡ (before x b || (before x c && before c b))
      new x b h i true e =
          let z : x ≡ a = eqb-true x a e in
          rw z (here b i ∙ rw (g.still a b (omega arith) i, g.still a c (omega arith) k, row_c b i))
      new x b h i false e = let z : x ≡ a → ⊥ = eqb-false x a e in other x b z i ∙ g.done x b (omega (arith, z)) i

  pub going_through : (n : ℕ) → n ≤ a → Through n m c before rows
  going_through n h = record { row = λ x b l i. g.done x b (omega arith) i }
