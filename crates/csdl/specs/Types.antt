-- Rules 8 and 9, of a type.
use Rattle.std.specs.Prelude.{ℕ, Bool, false, not, ◌&&◌, ◌||◌, eqb, leb}
use Rattle.csdl.specs.Search.{if_found}
use Rattle.csdl.specs.Model.{Model, on}
use Rattle.csdl.specs.Model.Table.{type-table}
use Rattle.csdl.specs.Find.{ancestor}
use Rattle.csdl.specs.declared.Record.{Record}

-- The type has a base; it has one, and its direct base passes the test.
abbrev pub has_base : Model → ℕ → Bool
has_base m t = not (eqb (m.base t) 0)

abbrev pub of_base : Model → ℕ → (ℕ → Bool) → Bool
of_base m t test = if_found false test (m.base t)

-- Rule 8.
-- 8a (s. 6.1, 9.1): the base is of another kind.
abbrev pub type8a : Model → ℕ → Bool
type8a m t = of_base m t (λ b. not (eqb (m.kind b) (m.kind t)))

-- 8b (s. 10, 11): an enumeration or a type definition has a base or a flag.
abbrev pub type8b : Model → ℕ → Bool
type8b m t = leb 2 (m.kind t) && (has_base m t || m.is_abstract t || m.is_open t || m.is_media t)

-- 8c (s. 6.4, 9): a complex type has the media flag.
abbrev pub type8c : Model → ℕ → Bool
type8c m t = eqb (m.kind t) 1 && m.is_media t

-- 8d (s. 6.2): an abstract entity type has a base that is not abstract.
abbrev pub type8d : Model → ℕ → Bool
type8d m t = eqb (m.kind t) 0 && m.is_abstract t && of_base m t (λ b. not (m.is_abstract b))

-- 8e (s. 6.3, 9.3): the base is open and the type is not.
abbrev pub type8e : Model → ℕ → Bool
type8e m t = of_base m t (λ b. m.is_open b && not (m.is_open t))

-- 8f (s. 6.4): the base has the media flag and the type has not.
abbrev pub type8f : Model → ℕ → Bool
type8f m t = of_base m t (λ b. m.is_media b && not (m.is_media t))

-- 8g (house): a structured type has an underlying type.
abbrev pub type8g : Model → ℕ → Bool
type8g m t = leb (m.kind t) 1 && not (eqb (m.underlying t) 0)

-- 8h (s. 10.1; house: it is stated): the underlying type of an enumeration is none of Byte, Int16, Int32, Int64, SByte.
abbrev pub type8h : Model → ℕ → Bool
type8h m t = eqb (m.kind t) 2 && not (eqb (m.underlying t) 3 || leb 10 (m.underlying t) && leb (m.underlying t) 13)

-- 8i (s. 11, 11.1): a type definition has no underlying type.
abbrev pub type8i : Model → ℕ → Bool
type8i m t = eqb (m.kind t) 3 && eqb (m.underlying t) 0

unfoldable pub type8 : Model → ℕ → Bool
type8 m t = type8a m t || type8b m t || type8c m t || type8d m t || type8e m t || type8f m t || type8g m t || type8h m t || type8i m t

abbrev pub rule8 : Model → Record → Bool
rule8 m r = on type-table (λ t. type8 m t) r

-- Rule 9 (s. 6.1, 9.1). 9a: the type is its own ancestor.
unfoldable pub type9 : Model → ℕ → Bool
type9 m t = ancestor m t t

abbrev pub rule9 : Model → Record → Bool
rule9 m r = on type-table (λ t. type9 m t) r
