-- Where the name of a record stands in the image, and which it is once rule 1 is known to hold.
use Rattle.std.specs.Prelude.{ℕ, ◌+◌, List, []}
use Rattle.csdl.specs.Tables.{Name}
use Rattle.csdl.specs.Model.{Model, places, record_at}
use Rattle.csdl.specs.Image.{names_from}
use Rattle.csdl.specs.Naming.{if_accepted, name_held, record_name}
use Rattle.csdl.specs.Verdict.{verdict, form_stages}
use Rattle.csdl.specs.Verdict.Answer.{accepted}

-- None if rule 3, 4 or 5 is broken anywhere.
unfoldable pub name_at : Model → ℕ → Name
name_at m place = if_accepted (verdict (places m) (form_stages m) (accepted [])) (name_held m (record_at m place))

-- The byte of the image at which the name of the record at a place starts, and how many bytes it has: 0 where there is none.
abbrev pub name_start : List ℕ → ℕ → ℕ
name_start image place = names_from image + (record_name image place).start

abbrev pub name_size : List ℕ → ℕ → ℕ
name_size image place = (record_name image place).size
