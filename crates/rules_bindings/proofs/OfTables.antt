-- Rule 19 is of the tables of types, properties, children and bindings, however many properties and children there are. Assumes nothing.
use Prim.Native.Nat.{ℕ}
use mathlib.Core.Path.{◌≡◌, refl}
use mathlib.Core.List.{List, []}
use Rattle.csdl.specs.Find.{of_kind, ancestor, ancestor_or_self, complex_step, contain_step}
use Rattle.csdl.specs.Model.{model_of}
use Rattle.csdl.specs.Path.{path_of, start_of}
use Rattle.csdl.specs.Paths.{non_containment, target_step}
use Rattle.csdl.specs.Tables.{binding_count}
use Rattle.model_image.specs.Read.{model_read}
use Rattle.model_image.specs.declared.model.Model.{Model}
use Rattle.path_resolution.specs.Resolution.{code_to, code_end}
use Rattle.rules_bindings.specs.Bindings.{binding_codes, again_bound, binding_again, target_codes, ends_apart, binding_coded}

module _ (m : Model) where
  pub bindings_counted : (model_read m).bindings ≡ binding_count m.bindings.now
  unfolding model_read model_of
  bindings_counted = refl

  pub bindings_of_tables : (index codes : List ℕ) (b : ℕ)
      → binding_coded (model_read m) index codes b ≡ binding_coded (model_of [] m.types.now m.properties.now [] [] m.children.now m.bindings.now [] []) index codes b
  unfolding model_read model_of binding_coded binding_codes again_bound binding_again target_codes ends_apart path_of start_of non_containment target_step complex_step contain_step of_kind ancestor ancestor_or_self code_to code_end
  bindings_of_tables index codes b = refl
