-- The sessions of `serve`: what was served is steps of the nodes.
use Rattle.std.specs.Prelude.{◌≡◌, ◌⊎◌, ℕ, zero, suc, ⊤, List, [], ◌∷◌, length, map, take, slice_get, Some, None, Result, Ok, Err, IsSome}
use Rattle.wf_execution.specs.Run.{RunEnd, Between}
use Rattle.wf_model.specs.Chosen.{IsIn}
use Rattle.wf_node.specs.Node.{Node}
use Rattle.wf_serve.specs.Connections.{HaveCome, IfReported, IsServing}
use Rattle.wf_serve.specs.Served.{HasServed, Served}
use Rattle.wf_serve.specs.declared.fault.ServeFault.{ServeFault}
use Rattle.wf_service.specs.declared.service.Service.{Service}
use Rattle.wf_tape.specs.declared.tape.Tape.{Ghosts as Tape}
use Rattle.wf_runs.specs.Session.{SessionStep, NodeSession, after_steps, moments_from, AreStepsTaken}
use Rattle.wf_runs.specs.Folder.{IsFolder, IsLeftAt, IsNewTape}
use Rattle.wf_runs.specs.Theorems.{AreOneFarm}

-- ---- what was served is steps

module _ {T : Type 0} (tapes : Tape T) where
  -- The nodes took these steps, and are these then.
  pub record IsReachableBy (nodes : List (Node T)) (steps : List (SessionStep T)) (nodes_after : List (Node T)) : Type 0 where
    pub taken : AreStepsTaken tapes [] nodes steps
    pub come : after_steps nodes steps ≡ nodes_after

  -- one of the connections began while the nodes were these
  unfoldable pub BeganWith : (count connections : ℕ) (nodes nodes_after : List (Node T)) → HaveCome tapes count connections nodes nodes_after → List (Node T) → Type 0
  unfolding HaveCome
  BeganWith count zero nodes nodes_after come then = ⊥
  BeganWith count (suc connection) nodes nodes_after come then = (come.0 ≡ then) ⊎ BeganWith count connection nodes come.0 come.1 then

  abbrev pub IfBegan : (requests : ℕ) (nodes : List (Node T)) (reported : Result (Unit {0}) ServeFault) (nodes_after : List (Node T)) → IfReported tapes requests nodes reported nodes_after → List (Node T) → Type 0
  IfBegan requests nodes (Ok done) nodes_after come then = BeganWith (length nodes) requests nodes nodes_after come then
  IfBegan requests nodes (Err why) nodes_after come then = ⊥

  -- What was served came about by these steps: each connection began at one of their moments.
  pub record IsCourse (requests : ℕ) (nodes : List (Node T)) (reported : Result (Unit {0}) ServeFault) (nodes_after : List (Node T)) (serving : IsServing tapes requests nodes reported nodes_after) (steps : List (SessionStep T)) : Type 0 where
    pub reachable : IsReachableBy nodes steps nodes_after
    pub connections : (then : List (Node T)) → IfBegan requests serving.caught reported nodes_after serving.come then → IsIn then (moments_from nodes steps)

  -- Some steps are such.
  abbrev pub ServingIsSteps : Type 0
  ServingIsSteps = (requests : ℕ) (nodes : List (Node T)) (reported : Result (Unit {0}) ServeFault) (nodes_after : List (Node T)) (serving : IsServing tapes requests nodes reported nodes_after) →
      (steps : List (SessionStep T)) × IsCourse requests nodes reported nodes_after serving steps

-- ---- runs of `serve` on one folder

module _ {M F : Type 0} (inside : Tape M) (outside : Tape F) where
  -- A run of `serve` of a service that has a folder: what it returned, and steps by which that came
  -- about. If the process was killed or the power was cut before, it is what it would have
  -- returned, and only the first ones of these steps were made.
  pub record Ran : Type 0 where
    pub service : Service
    pub has : HasServed inside outside service
    pub on_files : IsSome service.state
    pub steps : List (SessionStep F)
    pub course : IsCourse outside service.requests (has.files on_files).nodes (Ok tt) (has.files on_files).nodes_after (has.files on_files).have.serving steps
    -- how many of the steps were made, and how the run ended for the node at each index
    pub made : ℕ
    pub ends : ℕ → RunEnd

  abbrev pub served_by : (ran : Ran) → Served outside ran.service
  served_by ran = ran.has.files ran.on_files

  -- its session on the folder: the nodes that it opened, and the steps that were made
  abbrev pub session_of : Ran → NodeSession F
  session_of ran = record { nodes = (served_by ran).nodes; steps = take ran.made ran.steps; ends = ran.ends }

  -- What it read of each tape is among what may be read there.
  unfoldable pub ReadsFrom : (ℕ → List ℕ → Type 0) → Ran → Type 0
  ReadsFrom found ran = (i : ℕ) (node : Node F) (at : slice_get (served_by ran).nodes i ≡ Some node) → found i ((served_by ran).read.each i node at).bytes

  -- Each run of a service with n nodes, and each but the first read of the tapes what the one
  -- before it left.
  abbrev pub AreServiceRuns : ℕ → (ℕ → List ℕ → Type 0) → List Ran → Type 0
  AreServiceRuns n found [] = ⊤
  AreServiceRuns n found (ran ∷ later) = (ran.service.nodes ≡ n) × ReadsFrom found ran × AreServiceRuns n (IsLeftAt (session_of ran)) later

  -- So they are on a folder that was new before the first of them, as each that `serve` was given
  -- one is.
  abbrev pub AreRunsOnOne : ℕ → List Ran → Type 0
  AreRunsOnOne n runs = AreServiceRuns n IsNewTape runs

  -- Then they are one farm.
  abbrev pub RunsAreOneFarm : Type 0
  RunsAreOneFarm = (n : ℕ) (runs : List Ran) → AreRunsOnOne n runs → IsFolder outside n (map session_of runs) × AreOneFarm outside (map session_of runs)

  -- The one run of a service without a folder, whose nodes are new ones in memory, is one farm too.
  abbrev pub NewRunIsOneFarm : Type 0
  NewRunIsOneFarm = (service : Service) (has : HasServed inside outside service) (none : service.state ≡ None) (steps : List (SessionStep M)) →
      IsCourse inside service.requests (has.memory none).nodes (Ok tt) (has.memory none).nodes_after (has.memory none).have.serving steps →
      AreOneFarm inside (record { nodes = (has.memory none).nodes; steps = steps; ends = λ i. Between } ∷ [])
