-- The members of a model's enumerations, which a second image holds, field by field; rules 30 and 31; the answer of the check.
use Rattle.std.specs.Prelude.{ℕ, ◌+◌, ◌-◌, ◌*◌, ◌/◌, ◌^◌, ◌≡◌, List, [], ◌∷◌, Bool, false, cond, not, ◌&&◌, ◌||◌, length, eqb, ltb, leb}
use Rattle.packed.specs.Field.{field_of, flag_of}
use Rattle.packed.specs.Bytes.{same}
use Rattle.csdl.specs.Search.{first_from, any_from, count_from, if_found}
use Rattle.csdl.specs.Tables.{Name, name_in}
use Rattle.csdl.specs.Model.{Model}
use Rattle.csdl.specs.Find.{enumeration}
use Rattle.csdl.specs.Image.{model_in}
use Rattle.csdl.specs.Form.{beyond4a}
use Rattle.csdl.specs.Properties.{alike}
use Rattle.csdl.specs.Later.{later_table, later_names, later_image1, later_name4, later_name5, later_text}
use Rattle.csdl.specs.Verdict.{Answer, Stage, verdict, model_then}
use Rattle.csdl.specs.Verdict.Answer.{accepted, refused}
use Rattle.csdl.specs.Verdict.Stage.{whole, each}
use Rattle.csdl.specs.Accepted.{Unbroken, ModelPasses}

-- Member, 12 bytes: type 6, given 1, name, value 64, spare 5. A record past the end of the table reads as zeros.
abbrev pub member_sizes : List ℕ
member_sizes = 12 ∷ []

abbrev pub member_count : List ℕ → ℕ
member_count table = length table / 12

abbrev pub member_type_in : List ℕ → ℕ → ℕ
member_type_in table r = field_of table (96 * r) 6

abbrev pub member_given_in : List ℕ → ℕ → Bool
member_given_in table r = flag_of table (96 * r + 6)

abbrev pub member_name_in : List ℕ → ℕ → Name
member_name_in table r = name_in table (96 * r + 7)

abbrev pub member_value_in : List ℕ → ℕ → ℕ
member_value_in table r = field_of table (96 * r + 27) 64

abbrev pub member_spare_in : List ℕ → ℕ → ℕ
member_spare_in table r = field_of table (96 * r + 91) 5

pub record Members : Type 0 where
  -- how many there are, and the name bytes
  pub count : ℕ
  pub names : List ℕ
  -- member: its type's number, whether its value is given, its name, the field of its value
  pub member_type : ℕ → ℕ
  pub given : ℕ → Bool
  pub member_name : ℕ → Name
  pub value_field : ℕ → ℕ
  pub member_spare : ℕ → ℕ

-- The members in the table and the name bytes of an image.
unfoldable pub members_of : List ℕ → List ℕ → Members
members_of table names =
    record {
      count = member_count table;
      names = names;
      member_type = λ r. member_type_in table r;
      given = λ r. member_given_in table r;
      member_name = λ r. member_name_in table r;
      value_field = λ r. member_value_in table r;
      member_spare = λ r. member_spare_in table r;
    }

unfoldable pub members_in : List ℕ → Members
members_in image = members_of (later_table member_sizes image 0) (later_names member_sizes image)

-- The bytes of a member's name.
abbrev pub member_text : Members → ℕ → List ℕ
member_text e r = later_text e.names (e.member_name r)

-- Rule 30, of the whole image: `later_image1 member_sizes`. Of a member:
-- 30a (house): a spare bit is set.
abbrev pub member30a : Members → ℕ → Bool
member30a e r = not (eqb (e.member_spare r) 0)

-- 30b (house): its type's number is not below the model's count.
abbrev pub member30b : Model → Members → ℕ → Bool
member30b m e r = beyond4a (e.member_type r) m.types

-- 30c (house): its name is absent, or goes past the name bytes.
abbrev pub member30c : Members → ℕ → Bool
member30c e r = later_name4 e.names (e.member_name r)

-- 30d (s. 10.3, 15.2): its name is no simple identifier.
abbrev pub member30d : Members → ℕ → Bool
member30d e r = later_name5 e.names (e.member_name r)

-- 30e (house): its value is not given, and the field is not 0.
abbrev pub member30e : Members → ℕ → Bool
member30e e r = not (e.given r) && not (eqb (e.value_field r) 0)

-- 30f (s. 10, 10.3): its type is no enumeration.
abbrev pub member30f : Model → Members → ℕ → Bool
member30f m e r = not (enumeration m (e.member_type r))

unfoldable pub member30 : Model → Members → ℕ → Bool
member30 m e r = member30a e r || member30b m e r || member30c e r || member30d e r || member30e e r || member30f m e r

-- A whole number with its sign: n, or -n.
pub data Signed : Type 0 where
  plus : ℕ → Signed
  minus : ℕ → Signed

-- The number that a field of 64 bits means, in two's complement: the field itself below 2^63, else the field less 2^64.
unfoldable pub signed : ℕ → Signed
signed x = cond (ltb x (2 ^ 63)) (plus x) (minus (2 ^ 64 - x))

-- The number is one from -down to up.
abbrev pub in_range : ℕ → ℕ → Signed → Bool
in_range down up (plus n) = leb n up
in_range down up (minus n) = leb n down

-- The number is a value of the primitive type of a code: Byte, Int16, Int32, Int64, SByte. Rule 8 leaves an enumeration no other.
unfoldable pub fits : ℕ → Signed → Bool
fits code value =
    cond (eqb code 3) (in_range 0 255 value)
    (cond (eqb code 10) (in_range (2 ^ 15) (2 ^ 15 - 1) value)
    (cond (eqb code 11) (in_range (2 ^ 31) (2 ^ 31 - 1) value)
    (cond (eqb code 12) (in_range (2 ^ 63) (2 ^ 63 - 1) value) (cond (eqb code 13) (in_range 128 127 value) false))))

-- Members s and r are of one type.
abbrev pub of_one_type : Members → ℕ → ℕ → Bool
of_one_type e r s = eqb (e.member_type s) (e.member_type r)

-- The value of a member (s. 10.3): the one given, else 0, 1, 2 and so on in order: how many members of its type are before it.
unfoldable pub member_value : Members → ℕ → Signed
member_value e r = cond (e.given r) (signed (e.value_field r)) (plus (count_from (λ s. of_one_type e r s) 0 r))

-- Rule 31, of a member.
-- 31a (s. 10.3): its name is that of an earlier member of its type.
unfoldable pub same_member : Members → ℕ → ℕ → Bool
same_member e r s = of_one_type e r s && same (member_text e s) (member_text e r)

unfoldable pub member31a : Members → ℕ → Bool
member31a e r = any_from (λ s. same_member e r s) 0 r

-- 31b (s. 10.3): whether its value is given is unlike at the first member of its type.
unfoldable pub member31b : Members → ℕ → Bool
member31b e r = if_found false (λ s. not (alike (e.given s) (e.given r))) (first_from (λ s. of_one_type e r s) 0 r)

-- 31c (s. 10.1, 10.3): its value is none of the underlying type.
unfoldable pub member31c : Model → Members → ℕ → Bool
member31c m e r = not (fits (m.underlying (e.member_type r)) (member_value e r))

unfoldable pub member31 : Model → Members → ℕ → Bool
member31 m e r = member31a e r || member31b e r || member31c m e r

-- The check of the members: the rules of the model first, then 30 of the whole image, then 30 and 31 at each member.
abbrev pub image_stages : List ℕ → List Stage
image_stages image = whole 30 (later_image1 member_sizes image) ∷ []

unfoldable pub member_stages : Model → Members → List Stage
member_stages m e = each 30 (λ r. member30 m e r) ∷ each 31 (λ r. member31 m e r) ∷ []

unfoldable pub members_verdict : Model → Members → Answer
members_verdict m e = verdict e.count (member_stages m e) (accepted [])

unfoldable pub members_answer : List ℕ → List ℕ → Answer
members_answer model image = model_then model (verdict 0 (image_stages image) (members_verdict (model_in model) (members_in image)))

-- What an acceptance says: the model breaks none of its rules, the image none of 30 and 31 at any member.
pub record MembersPass (model image : List ℕ) : Type 0 where
  pub model_passes : ModelPasses model
  pub image_kept : later_image1 member_sizes image ≡ false
  pub kept30 : Unbroken (members_in image).count (λ r. member30 (model_in model) (members_in image) r)
  pub kept31 : Unbroken (members_in image).count (λ r. member31 (model_in model) (members_in image) r)
