-- By its files the folder may vote.
use Rattle.std.proofs.Common.{subst}
use Rattle.std.specs.Prelude.{IfSome, Option}
use Rattle.wf_node_folder.proofs.Causes.{not_joined_then}
use Rattle.wf_node_folder.proofs.FarmPut.{published_still}
use Rattle.wf_node_folder.proofs.Joined.{may_be_emptied}
use Rattle.wf_node_folder.proofs.running.RunningStore.finish_joining.Goals as goal
use Rattle.wf_node_folder.specs.Joined.{SaysJoining}
use Rattle.wf_rejoin.specs.declared.joining.Joining.{Joining}

pub replace-requires-clause-may : goal.replace-requires-clause-may
replace-requires-clause-may g c =
    may_be_emptied (g.S.Store.calls c.find_joining.new.self.store) c.in-Ok-Some.joining
    (subst (λ (found : Option Joining). IfSome found (λ joining. SaysJoining joining (g.S.Store.calls c.find_joining.new.self.store))) c.in-Ok-Some.field-0-is c.in-Ok-Some.ensures.says)
    c.new.result.items c.args.published (c.in-Ok-Some.ensures.published c.args.published c.requires.farm)
    (published_still c.args.published _ _ c.in-Ok-Some.ensures.farm c.requires.put) (c.may_vote.ensures.0 c.if-not-may_vote.false) c.new.ensures.items

pub returns-clause-err : goal.returns-clause-err
returns-clause-err g c =
    not_joined_then c.args.published (g.S.Store.calls c.args.self.now.store) (g.S.Store.calls c.find_joining.new.self.store) (g.S.Store.calls c.replace.new.self.store) c.replace.result
    c.find_joining.ensures.after c.replace.ensures.cause
