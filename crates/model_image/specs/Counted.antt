-- The counts of a header as a value, and what they give: where each part begins, and rule 1c.
use Rattle.std.specs.Prelude.{ℕ, ◌+◌, ◌-◌, List, [], ◌∷◌, Bool, get_or}
use Rattle.csdl.specs.Image.{header, part_from, model_sizes, beyond1c}
use Rattle.model_image.specs.declared.image.Counts.{Counts}
use Rattle.model_image.specs.declared.image.Starts.{Starts}

abbrev pub counts_in : List ℕ → Counts
counts_in image =
    record {
      schemas = header image 1;
      types = header image 2;
      properties = header image 3;
      keys = header image 4;
      constraints = header image 5;
      children = header image 6;
      bindings = header image 7;
      segments = header image 8;
      names = header image 9;
    }

-- The count by its number in the header; where part k begins.
abbrev count_by : Counts → ℕ → ℕ
count_by n i =
    get_or (n.schemas ∷ n.types ∷ n.properties ∷ n.keys ∷ n.constraints ∷ n.children ∷ n.bindings ∷ n.segments ∷ n.names ∷ []) (i - 1) 0

abbrev start_by : Counts → ℕ → ℕ
start_by n k = part_from (λ i. count_by n i) 20 1 model_sizes k

abbrev pub starts_by : Counts → Starts
starts_by n =
    record {
      types = start_by n 1;
      properties = start_by n 2;
      keys = start_by n 3;
      constraints = start_by n 4;
      children = start_by n 5;
      bindings = start_by n 6;
      segments = start_by n 7;
      names = start_by n 8;
      end = start_by n 8 + n.names;
    }

abbrev pub unlimited : Counts → Bool
unlimited n = beyond1c (λ i. count_by n i)
