-- The premises of demand 3, of a walk: the instance check accepts, the record holds a path of the kind, the start node is there and at the path's
-- start type, and the buffer has room. It reports the number of results and the number of slots opened.
use Rattle.std.specs.Prelude.{ℕ, ◌+◌, ◌*◌, ◌≤◌, ◌<◌, ◌≡◌, List, [], ◌∷◌, true, length, Some}
use Rattle.csdl.specs.Image.{model_in}
use Rattle.csdl.specs.Find.{ancestor_or_self}
use Rattle.csdl.specs.Path.{start_of}
use Rattle.csdl.specs.declared.PathKind.{PathKind}
use Rattle.csdl.specs.Instance.{instance_in, item_bytes}
use Rattle.csdl.specs.Conforms.{instance_answer}
use Rattle.csdl.specs.Verdict.Answer.{accepted}
use Rattle.csdl.specs.Walk.{walk_path, walk_results, walk_opened}

pub record Premises (model image : List ℕ) (place n v : ℕ) (buffer values : List ℕ) : Type 0 where
  pub conforms : instance_answer model image ≡ accepted []
  pub kind : PathKind
  pub holder : ℕ
  pub path : walk_path model place n ≡ Some (record { kind = kind; number = holder })
  pub there : v < (instance_in image).nodes
  pub fitting : ancestor_or_self (model_in model) (start_of (model_in model) kind holder) ((instance_in image).node_type v) ≡ true
  pub room : item_bytes * (1 + (instance_in image).slots + (instance_in image).items) ≤ length buffer
  pub reported : values ≡ length (walk_results model image place n v) ∷ length (walk_opened model image place n v) ∷ []
