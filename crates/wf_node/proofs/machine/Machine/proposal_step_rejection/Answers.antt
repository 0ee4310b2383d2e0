-- A proposal would be rejected while one is running, then if the last sequence is published, then
-- as the proposer would reject it.
use Rattle.std.proofs.Common.{length, sym, ap, ◌∙◌}
use Rattle.std.proofs.lemmas.Option.{none-some}
use Rattle.wf_model.specs.Table.{Busy, SequenceFull, reject_proposal}
use Rattle.wf_proposer.specs.Proposer.{volatile_of}
use Rattle.wf_node.specs.Parts.{stored_of}
use Rattle.wf_node.proofs.Transitions.{busy, full, has_stored}
use Rattle.wf_node.proofs.machine.Machine.proposal_step_rejection.Goals as goal

pub returns-then-runs : goal.returns-then-runs
returns-then-runs g c =
    let why = busy (stored_of c.args.self.now.persistent.parts) (volatile_of c.args.self.now.proposer).leadership (volatile_of c.args.self.now.proposer).proposing (sym c.runs.ensures ∙ c.if-runs.true) in
    (sym why, λ none. none-some Busy (sym none ∙ why))

pub returns-then-is_full : goal.returns-then-is_full
returns-then-is_full g c =
    let why = full (stored_of c.args.self.now.persistent.parts) (volatile_of c.args.self.now.proposer).leadership (volatile_of c.args.self.now.proposer).proposing (sym c.runs.ensures ∙ c.if-runs.false) (sym c.is_full.ensures ∙ c.if-is_full.true) in
    (sym why, λ none. none-some SequenceFull (sym none ∙ why))

pub returns : goal.returns
returns g c =
    c.fault_for.ensures (reject_proposal (stored_of c.args.self.now.persistent.parts) (volatile_of c.args.self.now.proposer).leadership (volatile_of c.args.self.now.proposer).proposing)
    (c.start_step_rejection.ensures (stored_of c.args.self.now.persistent.parts) (has_stored (stored_of c.args.self.now.persistent.parts) c.last_round.result c.published-published.result c.last_round.ensures (c.published-published.ensures.value ∙ ap length c.history.ensures)))
