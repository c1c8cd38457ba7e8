-- The name of a record, as a part of the image.
use Rattle.std.specs.Prelude.{ℕ, List, [], ◌∷◌, cond}
use Rattle.csdl.specs.Tables.{Name}
use Rattle.csdl.specs.Model.{Model, text, places, record_at}
use Rattle.csdl.specs.Image.{model_in, image1}
use Rattle.csdl.specs.Verdict.{Answer, verdict, form_stages}
use Rattle.csdl.specs.Verdict.Answer.{accepted, refused}
use Rattle.csdl.specs.Verdict.Stage.{whole}
use Rattle.csdl.specs.declared.Record.{Record}
use Rattle.csdl.specs.declared.Record.TheVariants.{OfSchema, OfType, OfProperty, OfKey, OfConstraint, OfChild, OfBinding, OfSegment, Nowhere}

-- No name is held.
abbrev pub no_name : Name
no_name = record { start = 0; size = 0 }

-- A schema's namespace, a key's alias, a cast's type name, else the name in the record itself.
unfoldable pub name_held : Model → Record → Name
name_held m (OfSchema s) = m.namespace s
name_held m (OfType t) = m.type_name t
name_held m (OfProperty p) = m.property_name p
name_held m (OfKey k) = m.key_alias k
name_held m (OfConstraint c) = no_name
name_held m (OfChild h) = m.child_name h
name_held m (OfBinding b) = no_name
name_held m (OfSegment g) = cond (m.is_cast g) (m.type_name (m.cast_type g)) (m.segment_name g)
name_held m Nowhere = no_name

abbrev pub if_accepted : Answer → Name → Name
if_accepted (accepted values) n = n
if_accepted (refused rule place) n = no_name

-- The name of the record at a place: none if rule 1, 3, 4 or 5 is broken anywhere, past the last record, and where none is held.
unfoldable pub record_name : List ℕ → ℕ → Name
record_name image place =
    let m = model_in image in
    let formed = verdict 0 (whole 1 (image1 image) ∷ []) (verdict (places m) (form_stages m) (accepted [])) in
    if_accepted formed (name_held m (record_at m place))

unfoldable pub name_of_record : List ℕ → ℕ → List ℕ
name_of_record image place = text (model_in image) (record_name image place)
