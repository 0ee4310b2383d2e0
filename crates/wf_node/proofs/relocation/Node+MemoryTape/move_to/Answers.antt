-- The records that were written stand on the other tape for what the node has stored.
use Rattle.std.proofs.Common.{◌≡◌, false, Some, sym, subst, ◌∙◌}
use Rattle.wf_model.specs.DurableState.{fold}
use Rattle.wf_node.specs.Compaction.{short_records}
use Rattle.wf_node.specs.DurablePart.{stored_of}
use Rattle.wf_node.specs.Node.{view_of}
use Rattle.wf_node.specs.Relocation.{IsMoved, IsNotMoved}
use Rattle.wf_node.proofs.Moved.{folds_short, moved_keeps, moved_so, not_moved}
use Rattle.wf_node.proofs.relocation.Node+MemoryTape.move_to.Goals as goal

pub invariant_of-result : goal.invariant_of-result
invariant_of-result g c =
    let running : c.self.inside.machine.journal.halted ≡ false = sym c.is_halted.ensures.value ∙ c.if-is_halted.false in
    let folds : fold (short_records (stored_of c.self.inside.machine.persistent)) ≡ Some (stored_of c.self.inside.machine.persistent) =
    folds_short c.folds_are_open.ensures c.votes_are_promised.ensures (stored_of c.self.inside.machine.persistent) _ _ (c.is_halted.ensures.settled tt running) (c.self.invariant.stands tt running) in
    moved_keeps g.U.Tape c.self.inside.machine.journal c.self.inside.machine.persistent c.self.inside.machine.proposer running folds c.args.tape c.in-Ok.journal
    c.self.invariant.same_node c.self.invariant.for_next c.in-Ok.ensures.begun

pub returns-in-Ok-clause-moved : goal.returns-in-Ok-clause-moved
returns-in-Ok-clause-moved g c =
    let running : c.self.inside.machine.journal.halted ≡ false = sym c.is_halted.ensures.value ∙ c.if-is_halted.false in
    let folds : fold (short_records (stored_of c.self.inside.machine.persistent)) ≡ Some (stored_of c.self.inside.machine.persistent) =
    folds_short c.folds_are_open.ensures c.votes_are_promised.ensures (stored_of c.self.inside.machine.persistent) _ _ (c.is_halted.ensures.settled tt running) (c.self.invariant.stands tt running) in
    subst (λ before. IsMoved g.U.Tape before c.args.tape (view_of c.in-Ok.journal c.self.inside.machine.persistent.parts c.self.inside.machine.proposer)) c.self.view_is
    (moved_so g.U.Tape c.self.inside.machine.journal c.self.inside.machine.persistent c.self.inside.machine.proposer running folds c.args.tape c.in-Ok.journal c.in-Ok.ensures.begun)

pub returns-in-Err-clause-left : goal.returns-in-Err-clause-left
returns-in-Err-clause-left g c =
    let running : c.self.inside.machine.journal.halted ≡ false = sym c.is_halted.ensures.value ∙ c.if-is_halted.false in
    let folds : fold (short_records (stored_of c.self.inside.machine.persistent)) ≡ Some (stored_of c.self.inside.machine.persistent) =
    folds_short c.folds_are_open.ensures c.votes_are_promised.ensures (stored_of c.self.inside.machine.persistent) _ _ (c.is_halted.ensures.settled tt running) (c.self.invariant.stands tt running) in
    subst (λ before. IsNotMoved g.U.Tape before c.args.tape c.in-Err.rejection.0 c.in-Err.rejection.1) c.self.view_is
    (not_moved g.U.Tape c.self.inside.machine.journal c.self.inside.machine.persistent c.self.inside.machine.proposer running folds c.args.tape c.in-Err.rejection.0 c.in-Err.rejection.1 c.in-Err.ensures.left)
