-- The folder goes on joining.
use Rattle.std.proofs.Common.{◌≡◌, ◌∙◌, ap, subst, sym}
use Rattle.std.specs.Prelude.{Option, None}
use Rattle.wf_folder.specs.declared.node_file.NodeFile.{NodeFile}
use Rattle.wf_membership.specs.declared.folder_error.FolderError.TheVariants.{Store}
use Rattle.wf_node_folder.proofs.Causes.{joining_later, joining_then}
use Rattle.wf_node_folder.proofs.FarmPut.{last_there, none_attempted}
use Rattle.wf_node_folder.proofs.held.HeldFolderNodeFolderTape.finish_joining.Goals as goal
use Rattle.wf_node_folder.specs.Cause.{IsOwn, IsOwnFound}
use Rattle.wf_store.specs.CallTheorems.{after_both}

pub returns-in-Err-find_own-clause-err : goal.returns-in-Err-find_own-clause-err
returns-in-Err-find_own-clause-err g c =
    joining_then c.args.self.now.file c.args.self.now.attempted (g.S.Store.calls c.args.self.now.running.store) (g.S.Store.calls c.examine.new.self.store)
    (g.S.Store.calls c.find_own.new.self.running.store) c.examine.ensures.after (Store c.in-Err-find_own.fault) c.in-Err-find_own.ensures.err

pub returns-clause-err : goal.returns-clause-err
returns-clause-err g c =
    let held = c.args.self.now in
    let old = g.S.Store.calls held.running.store in
    let mid = g.S.Store.calls c.find_own.new.self.running.store in
    let after = after_both old (g.S.Store.calls c.examine.new.self.store) mid c.examine.ensures.after c.find_own.ensures.after in
    let own : IsOwn c.in-Some.there held.file held.attempted =
    (subst (λ (found : Option NodeFile). IsOwnFound found held.file held.attempted (g.S.Store.calls c.examine.new.self.store) mid) c.in-Some.is c.in-Ok.ensures.found).0 in
    let none : held.attempted ≡ None = sym c.find_own.ensures.attempted ∙ none_attempted c.find_own.new.self.attempted c.is_none.result c.is_none.ensures c.if-is_none.true in
    joining_later held.file held.attempted old mid (g.S.Store.calls c.finish_joining.new.self.store) after c.in-Some.there.known.reach.published c.finish_joining.result
    (ap (λ (f : NodeFile). f.known.reach.published) (last_there c.in-Some.there held.file held.attempted none own)) c.finish_joining.ensures.err
