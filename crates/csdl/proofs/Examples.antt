-- The worked examples of document 01, as one theorem on the definitions.
use Prim.Native.Nat.{ℕ}
use mathlib.Core.Path.{◌≡◌, refl}
use mathlib.Core.List.{List, [], ◌∷◌, ◌++◌}
use lib.ListN.{replicate}
use Rattle.csdl.specs.Verdict.{model_answer, resolution}
use Rattle.csdl.specs.Verdict.Answer.{accepted, refused}
use Rattle.csdl.specs.Image.{model_in}
use Rattle.csdl.proofs.Everything.{everything}

-- The tables of (a), one record a line.
-- Schemas, 5 bytes each.
unfoldable pub schemas : List ℕ
schemas =
    0 ∷ 0 ∷ 16 ∷ 0 ∷ 0  -- namespace g at 0, 1 byte; no alias
    ∷ []

-- Types, 6 bytes each.
unfoldable pub types : List ℕ
types =
    0 ∷ 0 ∷ 0 ∷ 0 ∷ 65 ∷ 0  -- Tour: entity, no base or flag
    ∷ 0 ∷ 0 ∷ 0 ∷ 1 ∷ 65 ∷ 0  -- Stop: entity, no base or flag
    ∷ 2 ∷ 0 ∷ 0 ∷ 2 ∷ 65 ∷ 0  -- Text: complex, no base or flag
    ∷ []

-- Properties, 7 bytes each; not nullable unless said.
unfoldable pub properties : List ℕ
properties =
    0 ∷ 18 ∷ 192 ∷ 52 ∷ 8 ∷ 0 ∷ 0  -- Tour.No: Int32
    ∷ 3 ∷ 64 ∷ 64 ∷ 60 ∷ 20 ∷ 0 ∷ 0  -- Tour.Stops: navigation, contained collection of Stop
    ∷ 4 ∷ 18 ∷ 192 ∷ 52 ∷ 8 ∷ 0 ∷ 0  -- Stop.No: Int32
    ∷ 4 ∷ 128 ∷ 128 ∷ 80 ∷ 20 ∷ 0 ∷ 0  -- Stop.Label: Text, nullable
    ∷ 6 ∷ 128 ∷ 64 ∷ 100 ∷ 16 ∷ 0 ∷ 0  -- Stop.Next: navigation to Stop, nullable
    ∷ 8 ∷ 20 ∷ 0 ∷ 116 ∷ 16 ∷ 0 ∷ 0  -- Text.Lang: String
    ∷ []

-- Keys, 6 bytes each.
unfoldable pub keys : List ℕ
keys =
    0 ∷ 0 ∷ 8 ∷ 0 ∷ 0 ∷ 0  -- of Tour: segment 0
    ∷ 4 ∷ 0 ∷ 136 ∷ 0 ∷ 0 ∷ 0  -- of Stop: segment 1
    ∷ []

-- Children, 4 bytes each.
unfoldable pub children : List ℕ
children =
    0 ∷ 2 ∷ 16 ∷ 80  -- entity set Tours of Tour
    ∷ 1 ∷ 2 ∷ 96 ∷ 96  -- entity set Spares of Stop
    ∷ []

-- Bindings, 6 bytes each.
unfoldable pub bindings : List ℕ
bindings =
    0 ∷ 1 ∷ 16 ∷ 32 ∷ 0 ∷ 0  -- of Tours: segments 2 and 3, Stops/Next, to Spares
    ∷ []

-- Segments, 3 bytes each.
unfoldable pub segments : List ℕ
segments =
    0 ∷ 13 ∷ 2  -- No
    ∷ 0 ∷ 13 ∷ 2  -- No
    ∷ 0 ∷ 15 ∷ 5  -- Stops
    ∷ 0 ∷ 25 ∷ 4  -- Next
    ∷ []

-- Name bytes: 44.
unfoldable pub names : List ℕ
names =
    103  -- g
    ∷ 84 ∷ 111 ∷ 117 ∷ 114  -- Tour
    ∷ 83 ∷ 116 ∷ 111 ∷ 112  -- Stop
    ∷ 84 ∷ 101 ∷ 120 ∷ 116  -- Text
    ∷ 78 ∷ 111  -- No
    ∷ 83 ∷ 116 ∷ 111 ∷ 112 ∷ 115  -- Stops
    ∷ 76 ∷ 97 ∷ 98 ∷ 101 ∷ 108  -- Label
    ∷ 78 ∷ 101 ∷ 120 ∷ 116  -- Next
    ∷ 76 ∷ 97 ∷ 110 ∷ 103  -- Lang
    ∷ 84 ∷ 111 ∷ 117 ∷ 114 ∷ 115  -- Tours
    ∷ 83 ∷ 112 ∷ 97 ∷ 114 ∷ 101 ∷ 115  -- Spares
    ∷ []

-- The header of (a), two bytes a number.
unfoldable pub header : List ℕ
header =
    4 ∷ 2  -- version
    ∷ 0 ∷ 1  -- schemas
    ∷ 0 ∷ 3  -- types
    ∷ 0 ∷ 6  -- properties
    ∷ 0 ∷ 2  -- keys
    ∷ 0 ∷ 0  -- constraints
    ∷ 0 ∷ 2  -- children
    ∷ 0 ∷ 1  -- bindings
    ∷ 0 ∷ 4  -- segments
    ∷ 0 ∷ 44  -- name bytes
    ∷ []

-- An image from its header and the tables that differ between the examples.
unfoldable pub image : List ℕ → List ℕ → List ℕ → List ℕ → List ℕ → List ℕ → List ℕ → List ℕ
image header types properties keys bindings segments names =
    header ++ schemas ++ types ++ properties ++ keys ++ children ++ bindings ++ segments ++ names

-- (a) The tour model: 167 bytes.
unfoldable pub image_a : List ℕ
image_a = image header types properties keys bindings segments names

-- (b) Tour and Stop each other's base.
unfoldable pub types_b : List ℕ
types_b =
    0 ∷ 1 ∷ 0 ∷ 0 ∷ 65 ∷ 0  -- Tour: entity, base Stop
    ∷ 0 ∷ 0 ∷ 128 ∷ 1 ∷ 65 ∷ 0  -- Stop: entity, base Tour
    ∷ 2 ∷ 0 ∷ 0 ∷ 2 ∷ 65 ∷ 0  -- Text: complex, no base or flag
    ∷ []

unfoldable pub image_b : List ℕ
image_b = image header types_b properties keys bindings segments names

-- (c) Text.Inner, of type Text, required; its name follows the others.
unfoldable pub header_c : List ℕ
header_c = 4 ∷ 2 ∷ 0 ∷ 1 ∷ 0 ∷ 3 ∷ 0 ∷ 7 ∷ 0 ∷ 2 ∷ 0 ∷ 0 ∷ 0 ∷ 2 ∷ 0 ∷ 1 ∷ 0 ∷ 4 ∷ 0 ∷ 49 ∷ []  -- 7 properties, 49 name bytes

unfoldable pub inner_required : List ℕ
inner_required = 8 ∷ 0 ∷ 128 ∷ 176 ∷ 20 ∷ 0 ∷ 0 ∷ []

unfoldable pub inner : List ℕ
inner = 73 ∷ 110 ∷ 110 ∷ 101 ∷ 114 ∷ []

unfoldable pub image_c : List ℕ
image_c = image header_c types (properties ++ inner_required) keys bindings segments (names ++ inner)

-- (d) The same, nullable.
unfoldable pub inner_nullable : List ℕ
inner_nullable = 8 ∷ 128 ∷ 128 ∷ 176 ∷ 20 ∷ 0 ∷ 0 ∷ []

unfoldable pub image_d : List ℕ
image_d = image header_c types (properties ++ inner_nullable) keys bindings segments (names ++ inner)

-- (e) Stop.No nullable.
unfoldable pub properties_e : List ℕ
properties_e =
    0 ∷ 18 ∷ 192 ∷ 52 ∷ 8 ∷ 0 ∷ 0  -- Tour.No: Int32
    ∷ 3 ∷ 64 ∷ 64 ∷ 60 ∷ 20 ∷ 0 ∷ 0  -- Tour.Stops: navigation, contained collection of Stop
    ∷ 4 ∷ 146 ∷ 192 ∷ 52 ∷ 8 ∷ 0 ∷ 0  -- Stop.No: Int32, nullable
    ∷ 4 ∷ 128 ∷ 128 ∷ 80 ∷ 20 ∷ 0 ∷ 0  -- Stop.Label: Text, nullable
    ∷ 6 ∷ 128 ∷ 64 ∷ 100 ∷ 16 ∷ 0 ∷ 0  -- Stop.Next: navigation to Stop, nullable
    ∷ 8 ∷ 20 ∷ 0 ∷ 116 ∷ 16 ∷ 0 ∷ 0  -- Text.Lang: String
    ∷ []

unfoldable pub image_e : List ℕ
image_e = image header types properties_e keys bindings segments names

-- (f) Stop's key gone, and its segment; the binding's path starts one segment earlier.
unfoldable pub keys-f : List ℕ
keys-f =
    0 ∷ 0 ∷ 8 ∷ 0 ∷ 0 ∷ 0  -- of Tour: segment 0
    ∷ []

unfoldable pub header-f : List ℕ
header-f = 4 ∷ 2 ∷ 0 ∷ 1 ∷ 0 ∷ 3 ∷ 0 ∷ 6 ∷ 0 ∷ 1 ∷ 0 ∷ 0 ∷ 0 ∷ 2 ∷ 0 ∷ 1 ∷ 0 ∷ 3 ∷ 0 ∷ 44 ∷ []  -- 1 key, 3 segments

unfoldable pub bindings-f : List ℕ
bindings-f = 0 ∷ 0 ∷ 144 ∷ 32 ∷ 0 ∷ 0 ∷ []  -- of Tours: segments 1 and 2, Stops/Next, to Spares

unfoldable pub segments-f : List ℕ
segments-f =
    0 ∷ 13 ∷ 2  -- No
    ∷ 0 ∷ 15 ∷ 5  -- Stops
    ∷ 0 ∷ 25 ∷ 4  -- Next
    ∷ []

unfoldable pub image_f : List ℕ
image_f = image header-f types properties keys-f bindings-f segments-f names

-- (g) The path Stops/Next/Next.
unfoldable pub header_g : List ℕ
header_g = 4 ∷ 2 ∷ 0 ∷ 1 ∷ 0 ∷ 3 ∷ 0 ∷ 6 ∷ 0 ∷ 2 ∷ 0 ∷ 0 ∷ 0 ∷ 2 ∷ 0 ∷ 1 ∷ 0 ∷ 5 ∷ 0 ∷ 44 ∷ []  -- 5 segments

unfoldable pub bindings_g : List ℕ
bindings_g = 0 ∷ 1 ∷ 24 ∷ 32 ∷ 0 ∷ 0 ∷ []  -- of Tours: segments 2 to 4, Stops/Next/Next, to Spares

unfoldable pub segments_g : List ℕ
segments_g =
    0 ∷ 13 ∷ 2  -- No
    ∷ 0 ∷ 13 ∷ 2  -- No
    ∷ 0 ∷ 15 ∷ 5  -- Stops
    ∷ 0 ∷ 25 ∷ 4  -- Next
    ∷ 0 ∷ 25 ∷ 4  -- Next
    ∷ []

unfoldable pub image_g : List ℕ
image_g = image header_g types properties keys bindings_g segments_g names

-- (h) No bytes.
unfoldable pub image_h : List ℕ
image_h = []

-- (i) A lone schema g: 26 bytes.
unfoldable pub header-i : List ℕ
header-i = 4 ∷ 2 ∷ 0 ∷ 1 ∷ 0 ∷ 0 ∷ 0 ∷ 0 ∷ 0 ∷ 0 ∷ 0 ∷ 0 ∷ 0 ∷ 0 ∷ 0 ∷ 0 ∷ 0 ∷ 0 ∷ 0 ∷ 1 ∷ []  -- 1 schema, 1 name byte

unfoldable pub image_i : List ℕ
image_i = header-i ++ schemas ++ 103 ∷ []

-- A buffer of eight bytes, enough for four segments, and one of ten.
abbrev pub eight : List ℕ
eight = replicate 8 0

abbrev pub ten : List ℕ
ten = replicate 10 0

-- (a) to (i), with the resolution of (a): properties 0, 2, 1 and 4.
pub worked :
    (model_answer image_a eight ≡ accepted (4 ∷ [])) × (resolution (model_in image_a) ≡ 0 ∷ 0 ∷ 0 ∷ 2 ∷ 0 ∷ 1 ∷ 0 ∷ 4 ∷ [])
    × (model_answer image_b eight ≡ refused 9 1)
    × (model_answer image_c eight ≡ refused 12 3)
    × (model_answer image_d eight ≡ accepted (4 ∷ []))
    × (model_answer image_e eight ≡ refused 15 11)
    × (model_answer image_f eight ≡ refused 18 5)
    × (model_answer image_g ten ≡ refused 19 14)
    × (model_answer image_h [] ≡ refused 1 0)
    × (model_answer image_i [] ≡ accepted (0 ∷ []))
unfolding everything header header_c header-f header_g header-i image schemas types types_b properties properties_e inner inner_required inner_nullable keys keys-f children bindings bindings-f bindings_g segments segments-f segments_g names image_a image_b image_c image_d image_e image_f image_g image_h image_i
worked = (refl, refl, refl, refl, refl, refl, refl, refl, refl, refl)
