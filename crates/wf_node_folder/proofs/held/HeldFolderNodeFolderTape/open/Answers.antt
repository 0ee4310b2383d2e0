-- The tape wasn't opened.
use Rattle.wf_membership.specs.declared.folder_error.FolderError.TheVariants.{Store}
use Rattle.wf_node_folder.proofs.Causes.{halted_by_tape, halted_then}
use Rattle.wf_node_folder.proofs.held.HeldFolderNodeFolderTape.open.Goals as goal
use Rattle.wf_store.specs.CallTheorems.{after_both}

pub returns-in-Err-find_own-clause-err : goal.returns-in-Err-find_own-clause-err
returns-in-Err-find_own-clause-err g c =
    halted_then c.args.self.now.file c.args.self.now.attempted (g.S.Store.calls c.args.self.now.running.store) (g.S.Store.calls c.examine.new.self.store)
    (g.S.Store.calls c.find_own.new.self.running.store) c.examine.ensures.after (Store c.in-Err-find_own.fault) c.not_reopened-in-Err-find_own.result c.args.self.now.starts
    c.not_reopened-in-Err-find_own.ensures c.in-Err-find_own.ensures.err

pub returns-clause-after : goal.returns-clause-after
returns-clause-after g c =
    after_both (g.S.Store.calls c.args.self.now.running.store) (g.S.Store.calls c.find_own.new.self.running.store) (g.S.Store.calls c.open_tape.new.self.store)
    (after_both (g.S.Store.calls c.args.self.now.running.store) (g.S.Store.calls c.examine.new.self.store) (g.S.Store.calls c.find_own.new.self.running.store) c.examine.ensures.after c.find_own.ensures.after)
    c.open_tape.ensures.after

pub returns-clause-err : goal.returns-clause-err
returns-clause-err g c =
    let after = after_both (g.S.Store.calls c.args.self.now.running.store) (g.S.Store.calls c.examine.new.self.store) (g.S.Store.calls c.find_own.new.self.running.store) c.examine.ensures.after
    c.find_own.ensures.after in
    halted_by_tape c.args.self.now.starts c.args.self.now.file c.args.self.now.attempted (g.S.Store.calls c.args.self.now.running.store) (g.S.Store.calls c.find_own.new.self.running.store)
    (g.S.Store.calls c.open_tape.new.self.store) after c.open_tape.result c.open_tape.ensures.err

pub returns-in-Ok-None-clause-after : goal.returns-in-Ok-None-clause-after
returns-in-Ok-None-clause-after g c =
    after_both (g.S.Store.calls c.args.self.now.running.store) (g.S.Store.calls c.examine.new.self.store) (g.S.Store.calls c.find_own.new.self.running.store) c.examine.ensures.after c.find_own.ensures.after

pub returns-in-Err-find_own-clause-after : goal.returns-in-Err-find_own-clause-after
returns-in-Err-find_own-clause-after g c =
    after_both (g.S.Store.calls c.args.self.now.running.store) (g.S.Store.calls c.examine.new.self.store) (g.S.Store.calls c.find_own.new.self.running.store) c.examine.ensures.after c.find_own.ensures.after
