-- Which of its sources refuse a replica.
use Rattle.std.specs.Prelude.{Bool, List}
use Rattle.std.specs.List.{list_all}

-- whether all of them do
abbrev pub all_refuse : List Bool → Bool
all_refuse refusals = list_all (λ refuses. refuses) refusals
