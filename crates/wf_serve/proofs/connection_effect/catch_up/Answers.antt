-- The farm's nodes have caught up.
use Rattle.std.proofs.Common.{◌≡◌, true, false, Result, Ok, Err, OnOk, length, is_err, arith}
use Rattle.wf_catch_up.specs.CatchUp.{StandLevel}
use Rattle.wf_farm.specs.Nodes.{nodes_in}
use Rattle.wf_farm.specs.NodesTheorems.{all_run_on, length-nodes}
use Rattle.wf_serve.proofs.connection_effect.catch_up.Goals as goal

level_by : {A E : Type 0} (result : Result A E) (P : Type 0) → OnOk result P → is_err result ≡ false → P
level_by (Ok x) P holds none = holds
level_by (Err e) P holds none = absurd (true_false none)
  where
    true_false : true ≡ false → ⊥
    true_false same = cc

pub returns-clause-caught : goal.returns-clause-caught
returns-clause-caught g c = record {
  lost = is_err c.catch_up.result;
  caught = c.catch_up.ensures.caught;
  level = λ none. level_by c.catch_up.result (StandLevel (nodes_in c.catch_up.new.farm)) c.catch_up.ensures.level none;
}

pub returns-clause-reachable : goal.returns-clause-reachable
returns-clause-reachable g c = c.catch_up.ensures.reachable

pub returns-clause-running : goal.returns-clause-running
returns-clause-running g c =
    let before = c.args.farm.now.hosts in
    let after = c.catch_up.new.farm.hosts in
    let long : length after ≡ length before = omega (arith, c.catch_up.ensures.reachable.turn.as_many, length-nodes before, length-nodes after) in
    all_run_on before after long c.catch_up.ensures.kept c.requires
