-- What the arguments of `replica` ask for, by the rules of `clap`.
use Rattle.std.specs.Prelude.{◌≡◌, option_map, List, [], ◌∷◌, Some, false, true, codes}
use Rattle.clap.specs.Walk.{Row, first_of}
use Rattle.clap.specs.Simple.{Shape}
use Rattle.wf_line.specs.CommandLine.{cache_rule, is_set, log_rule}
use Rattle.wf_line.specs.NodeCommandLine.{IsNumberOr, command_shape, text_rule}
use Rattle.wf_line.specs.declared.replica_line.ReplicaLine.{ReplicaLine}
use Rattle.wf_service.specs.Service.{most_cached}

-- `replica`, with its folder and the farm's name, with all that it wants, with all its addresses,
-- and whole
abbrev pub replica_shape_start : Shape
replica_shape_start = command_shape (codes "replica") (text_rule (codes "state") true ∷ text_rule (codes "farm") true ∷ [])

abbrev pub replica_shape_wanted : Shape
replica_shape_wanted = command_shape (codes "replica")
    (text_rule (codes "state") true ∷ text_rule (codes "farm") true ∷ text_rule (codes "peers") true ∷ text_rule (codes "http") true ∷ [])

abbrev pub replica_shape_addresses : Shape
replica_shape_addresses = command_shape (codes "replica")
    (text_rule (codes "state") true ∷ text_rule (codes "farm") true ∷ text_rule (codes "peers") true ∷ text_rule (codes "http") true
    ∷ text_rule (codes "readers") false ∷ text_rule (codes "admin") false ∷ [])

abbrev pub replica_shape : Shape
replica_shape = command_shape (codes "replica")
    (text_rule (codes "state") true ∷ text_rule (codes "farm") true ∷ text_rule (codes "peers") true ∷ text_rule (codes "http") true
    ∷ text_rule (codes "readers") false ∷ text_rule (codes "admin") false ∷ cache_rule ∷ log_rule ∷ [])

-- The line is that of the arguments parsed for `replica`.
pub record IsReplicaLineOf (rows : List Row) (line : ReplicaLine) : Type 0 where
  pub state : first_of (codes "state") rows ≡ Some line.state.now
  pub farm : first_of (codes "farm") rows ≡ Some line.farm.now
  pub peers : first_of (codes "peers") rows ≡ Some line.peers.now
  pub http : first_of (codes "http") rows ≡ Some line.http.now
  pub readers : option_map (λ s. s.now) line.readers ≡ first_of (codes "readers") rows
  pub admin : option_map (λ s. s.now) line.admin ≡ first_of (codes "admin") rows
  pub cache : IsNumberOr rows (codes "cache") most_cached 16 line.cache
  pub log : line.log ≡ is_set (first_of (codes "log") rows)
