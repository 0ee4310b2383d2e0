-- What a node may start on isn't missing, another's or the last.
use Rattle.std.proofs.Common.{◌∙◌, sym, arith}
use Rattle.wf_folder.specs.NodeAdmission.{NodeStartsAreNotRejected}
use Rattle.wf_folder.specs.declared.node_admission.NodeFound.TheVariants as finds
use Rattle.wf_folder.specs.declared.node_admission.NodeRejection.TheVariants as causes
use Rattle.wf_folder.proofs.theorem.no_node_start_is_admitted_and_rejected.Goals as goal

theorem : NodeStartsAreNotRejected
theorem nodes (finds.File file) tape now (causes.OtherNodes other) is why = why.1 (sym why.0 ∙ is.same_nodes)
theorem nodes (finds.File file) tape now causes.MissingTape is why = why.1 is.has_tape
theorem nodes (finds.File file) tape now causes.NoFurtherStart is why = omega (arith, is.countable, why.2)
theorem nodes (finds.File file) tape now causes.NoFile is why = why
theorem nodes (finds.File file) tape now (causes.BadFile fault) is why = why
theorem nodes (finds.File file) tape now (causes.LowerSequence had has) is why = why
theorem nodes (finds.File file) tape now (causes.OtherHistory at) is why = why
theorem nodes (finds.File file) tape now (causes.LowerRound had has) is why = why
theorem nodes (finds.File file) tape now (causes.LowerPromise b) is why = why
theorem nodes (finds.File file) tape now (causes.LowerVote v) is why = why
theorem nodes finds.Nothing tape now why is rejected = absurd is
theorem nodes (finds.Bad fault) tape now why is rejected = absurd is

pub returns : goal.returns
returns c = theorem
