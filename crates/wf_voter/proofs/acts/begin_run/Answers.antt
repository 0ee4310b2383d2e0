-- The old run is the last of those that have ended.
use Rattle.std.proofs.Common.{ap, refl, subst, sym, ◌∙◌}
use Rattle.wf_actor.specs.declared.process.Process.{Process}
use Rattle.wf_voter.proofs.Continuation.{kept_begun, keeps_begun}
use Rattle.wf_voter.proofs.acts.begin_run.Goals as goal
use Rattle.wf_voter.specs.Continuation.{IsNextRun}

pub returns-clause-earlier : goal.returns-clause-earlier
returns-clause-earlier g c =
    keeps_begun g.T.Tape c.args.voter.now.process c.replace.new.dest (ap (λ (p : Process _ g.T.Tape). p.ended.items) c.replace.ensures.after ∙ c.requires.ended)
    (λ halted. subst (λ (p : Process _ g.T.Tape). IsNextRun g.T.Tape c.args.voter.now.process.actor p.actor) (sym c.replace.ensures.after) (c.requires.follows halted))

pub returns-clause-kept : goal.returns-clause-kept
returns-clause-kept g c =
    kept_begun g.T.Tape c.args.voter.now _ refl (ap (λ (p : Process _ g.T.Tape). p.ended.items) c.replace.ensures.after ∙ c.requires.ended)
    (ap (λ (p : Process _ g.T.Tape). p.actor.given.items) c.replace.ensures.after ∙ c.requires.given)
