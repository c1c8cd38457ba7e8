-- The segments of the path that a walk takes.
use Rattle.std.specs.Prelude.{Option, Some, None}
use Rattle.csdl.specs.declared.Holder.{Holder}
use Rattle.csdl.specs.declared.Run.{Run}
use Rattle.csdl.specs.Model.{Model}
use Rattle.csdl.specs.Path.{path_of}

abbrev pub chosen_path : Model → Option Holder → Run
chosen_path m None = record { first = 0; count = 0 }
chosen_path m (Some h) = path_of m h.kind h.number
