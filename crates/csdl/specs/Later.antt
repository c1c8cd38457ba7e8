-- The later kinds of image, which are handed in beside a model: a header of 16-bit numbers, tables of records, name bytes, nothing after.
-- A kind of image is the list of its sizes: the bytes of a record of each of its tables.
use Rattle.std.specs.Prelude.{ℕ, ◌+◌, ◌*◌, List, Bool, not, ◌||◌, length, eqb, ltb}
use Rattle.packed.specs.Bytes.{part, between}
use Rattle.csdl.specs.Search.{any_from}
use Rattle.csdl.specs.Tables.{Name}
use Rattle.csdl.specs.Model.{named}
use Rattle.csdl.specs.Image.{header, part_from}
use Rattle.csdl.specs.Form.{simple}

-- The bytes of the header: its numbers are the version, the count of records of each table, and the number of name bytes.
abbrev pub header_size : List ℕ → ℕ
header_size sizes = 2 * (2 + length sizes)

-- Where table k begins, from 0; the one after the last is where the name bytes begin. And where they end.
unfoldable pub table_from : List ℕ → List ℕ → ℕ → ℕ
table_from sizes image k = part_from (λ i. header image i) (header_size sizes) 1 sizes k

abbrev pub later_names_from : List ℕ → List ℕ → ℕ
later_names_from sizes image = table_from sizes image (length sizes)

abbrev pub later_end : List ℕ → List ℕ → ℕ
later_end sizes image = later_names_from sizes image + header image (length sizes + 1)

-- The bytes of table k, and the name bytes.
abbrev pub later_table : List ℕ → List ℕ → ℕ → List ℕ
later_table sizes image k = between image (table_from sizes image k) (table_from sizes image (k + 1))

abbrev pub later_names : List ℕ → List ℕ → List ℕ
later_names sizes image = between image (later_names_from sizes image) (later_end sizes image)

-- What rule 1 forbids, of a later image. 1a: it has fewer bytes than its header.
abbrev pub later1a : List ℕ → List ℕ → Bool
later1a sizes image = ltb (length image) (header_size sizes)

-- 1b: the version is not 0402 in hexadecimal.
abbrev pub later1b : List ℕ → Bool
later1b image = not (eqb (header image 0) 0x0402)

-- 1c: a table has more than 1024 records, or there are more than 4096 name bytes.
abbrev pub later1c : List ℕ → List ℕ → Bool
later1c sizes image = any_from (λ k. ltb 1024 (header image (k + 1))) 0 (length sizes) || ltb 4096 (header image (length sizes + 1))

-- 1d: the length is not the sum of the header, the tables and the name bytes.
abbrev pub later1d : List ℕ → List ℕ → Bool
later1d sizes image = not (eqb (length image) (later_end sizes image))

unfoldable pub later_image1 : List ℕ → List ℕ → Bool
later_image1 sizes image = later1a sizes image || later1b image || later1c sizes image || later1d sizes image

-- What rule 4 forbids of a name in the name bytes: it is absent, or goes past them. What rule 5 forbids: it is no simple identifier.
abbrev pub later_name4 : List ℕ → Name → Bool
later_name4 names n = not (named n) || ltb (length names) (n.start + n.size)

abbrev pub later_text : List ℕ → Name → List ℕ
later_text names n = part names n.start n.size

abbrev pub later_name5 : List ℕ → Name → Bool
later_name5 names n = not (simple (later_text names n))
