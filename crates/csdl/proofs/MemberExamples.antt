-- Members of a small model's enumerations, as one theorem on the definitions; and the tables of a later kind of image.
use Prim.Native.Nat.{ℕ}
use mathlib.Core.Path.{◌≡◌, refl}
use mathlib.Core.List.{List, [], ◌∷◌, ◌++◌}
use Rattle.csdl.specs.Verdict.Answer.{accepted, refused}
use mathlib.Core.Bool.{true, false}
use Rattle.csdl.specs.Later.{table_from, later_table, later_names, later_image1}
use Rattle.csdl.specs.Members.{members_of, members_in, member30, signed, fits, member_value, same_member, member31a, member31b, member31c, member31, member_stages, members_verdict, members_answer}
use Rattle.csdl.proofs.Everything.{everything}

-- The model: schema g with the types Colour, an enumeration of Byte, Size, one of Int32, and Room, an entity type.
unfoldable pub model : List ℕ
model =
    4 ∷ 2 ∷ 0 ∷ 1 ∷ 0 ∷ 3 ∷ 0 ∷ 0 ∷ 0 ∷ 0 ∷ 0 ∷ 0 ∷ 0 ∷ 0 ∷ 0 ∷ 0 ∷ 0 ∷ 0 ∷ 0 ∷ 15  -- 1 schema, 3 types, 15 name bytes
    ∷ 0 ∷ 0 ∷ 16 ∷ 0 ∷ 0  -- namespace g at 0, 1 byte; no alias
    ∷ 4 ∷ 0 ∷ 12 ∷ 0 ∷ 65 ∷ 128  -- Colour: enumeration of Byte
    ∷ 4 ∷ 0 ∷ 44 ∷ 1 ∷ 193 ∷ 0  -- Size: enumeration of Int32
    ∷ 0 ∷ 0 ∷ 0 ∷ 2 ∷ 193 ∷ 0  -- Room: entity, no base or flag
    ∷ 103  -- g
    ∷ 67 ∷ 111 ∷ 108 ∷ 111 ∷ 117 ∷ 114  -- Colour
    ∷ 83 ∷ 105 ∷ 122 ∷ 101  -- Size
    ∷ 82 ∷ 111 ∷ 111 ∷ 109  -- Room
    ∷ []

-- Members, 12 bytes each: of Colour first without and then with a value.
unfoldable pub red : List ℕ
red = 0 ∷ 0 ∷ 0 ∷ 96 ∷ 0 ∷ 0 ∷ 0 ∷ 0 ∷ 0 ∷ 0 ∷ 0 ∷ 0 ∷ []

unfoldable pub blue : List ℕ
blue = 0 ∷ 0 ∷ 96 ∷ 128 ∷ 0 ∷ 0 ∷ 0 ∷ 0 ∷ 0 ∷ 0 ∷ 0 ∷ 0 ∷ []

unfoldable pub blue_0 : List ℕ
blue_0 = 2 ∷ 0 ∷ 96 ∷ 128 ∷ 0 ∷ 0 ∷ 0 ∷ 0 ∷ 0 ∷ 0 ∷ 0 ∷ 0 ∷ []

unfoldable pub red_255 : List ℕ
red_255 = 2 ∷ 0 ∷ 0 ∷ 96 ∷ 0 ∷ 0 ∷ 0 ∷ 0 ∷ 0 ∷ 0 ∷ 31 ∷ 224 ∷ []

unfoldable pub red_256 : List ℕ
red_256 = 2 ∷ 0 ∷ 0 ∷ 96 ∷ 0 ∷ 0 ∷ 0 ∷ 0 ∷ 0 ∷ 0 ∷ 32 ∷ 0 ∷ []

-- Of Size: Small is -1, Large is 70000, Red is 7.
unfoldable pub small : List ℕ
small = 6 ∷ 0 ∷ 224 ∷ 191 ∷ 255 ∷ 255 ∷ 255 ∷ 255 ∷ 255 ∷ 255 ∷ 255 ∷ 224 ∷ []

unfoldable pub large : List ℕ
large = 6 ∷ 1 ∷ 128 ∷ 160 ∷ 0 ∷ 0 ∷ 0 ∷ 0 ∷ 0 ∷ 34 ∷ 46 ∷ 0 ∷ []

unfoldable pub red_of_size : List ℕ
red_of_size = 6 ∷ 0 ∷ 0 ∷ 96 ∷ 0 ∷ 0 ∷ 0 ∷ 0 ∷ 0 ∷ 0 ∷ 0 ∷ 224 ∷ []

-- Of Room, which is no enumeration.
unfoldable pub red_of_room : List ℕ
red_of_room = 8 ∷ 0 ∷ 0 ∷ 96 ∷ 0 ∷ 0 ∷ 0 ∷ 0 ∷ 0 ∷ 0 ∷ 0 ∷ 0 ∷ []

-- An image of so many members.
unfoldable pub image : ℕ → List ℕ → List ℕ
image count members =
    4 ∷ 2 ∷ 0 ∷ count ∷ 0 ∷ 17  -- version, members, name bytes
    ∷ members ++ 82 ∷ 101 ∷ 100  -- Red
    ∷ 66 ∷ 108 ∷ 117 ∷ 101  -- Blue
    ∷ 83 ∷ 109 ∷ 97 ∷ 108 ∷ 108  -- Small
    ∷ 76 ∷ 97 ∷ 114 ∷ 103 ∷ 101  -- Large
    ∷ []

-- Two types, one after the other; the second of Colour with a value, the first without; a name twice in one type, and in two; 255 and 256 of Byte; a
-- member of an entity type, which answers before an earlier one that breaks rule 31; enumerations without members; an image that is too short; a
-- model that breaks rule 1.
pub worked_members :
    (members_answer model (image 4 (red ++ small ++ blue ++ large)) ≡ accepted [])
    × (members_answer model (image 4 (red ++ small ++ blue_0 ++ large)) ≡ refused 31 2)
    × (members_answer model (image 3 (red ++ blue ++ red)) ≡ refused 31 2)
    × (members_answer model (image 2 (red ++ red_of_size)) ≡ accepted [])
    × (members_answer model (image 1 red_255) ≡ accepted [])
    × (members_answer model (image 1 red_256) ≡ refused 31 0)
    × (members_answer model (image 1 red_of_room) ≡ refused 30 0)
    × (members_answer model (image 2 (red_256 ++ red_of_room)) ≡ refused 30 1)
    × (members_answer model (image 0 []) ≡ accepted [])
    × (members_answer model (image 1 []) ≡ refused 30 0)
    × (members_answer [] (image 1 red_of_room) ≡ refused 1 0)
unfolding everything table_from later_image1 members_of members_in member30 signed fits member_value same_member member31a member31b member31c member31 member_stages members_verdict members_answer model red blue blue_0 red_255 red_256 small large red_of_size red_of_room image
worked_members = (refl, refl, refl, refl, refl, refl, refl, refl, refl, refl, refl)

-- A kind of image with three tables: records of 2, 3 and 1 bytes, of which it has 1, 2 and 1, and a name byte.
unfoldable pub sizes : List ℕ
sizes = 2 ∷ 3 ∷ 1 ∷ []

unfoldable pub three_tables : List ℕ
three_tables =
    4 ∷ 2 ∷ 0 ∷ 1 ∷ 0 ∷ 2 ∷ 0 ∷ 1 ∷ 0 ∷ 1  -- version, three counts, name bytes
    ∷ 10 ∷ 11  -- the first table
    ∷ 20 ∷ 21 ∷ 22 ∷ 23 ∷ 24 ∷ 25  -- the second
    ∷ 30  -- the third
    ∷ 65  -- A
    ∷ []

pub worked_tables :
    (later_image1 sizes three_tables ≡ false) × (later_table sizes three_tables 1 ≡ 20 ∷ 21 ∷ 22 ∷ 23 ∷ 24 ∷ 25 ∷ [])
    × (later_table sizes three_tables 2 ≡ 30 ∷ [])
    × (later_names sizes three_tables ≡ 65 ∷ [])
    × (later_image1 sizes (three_tables ++ 0 ∷ []) ≡ true)
unfolding everything table_from later_image1 sizes three_tables
worked_tables = (refl, refl, refl, refl, refl)
