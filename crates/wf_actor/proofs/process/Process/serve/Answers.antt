-- A request, whose messages wait for every node.
use Rattle.std.proofs.Common.{◌<◌, ℕ, refl, sym, subst, ◌∙◌}
use Rattle.std.proofs.Math.Logic.{∥∥₁_map}
use Rattle.wf_wire.specs.Post.{logged}
use Rattle.wf_wire.specs.declared.target.Target.TheVariants.{Everyone}
use Rattle.wf_actor.proofs.Receipt.{given_stays}
use Rattle.wf_actor.proofs.Lives.{moves_numbers}
use Rattle.wf_actor.proofs.Dispatches.{outputs_among, sent_on}
use Rattle.wf_actor.proofs.process.Process.serve.Goals as goal

pub post-requires : goal.post-requires
post-requires g c = ∣ outputs_among (logged c.args.self.now.actor.emitted.items) c.serve-served.result.messages.items _ c.serve-served.ensures.emitted ∣₁

pub invariant_of-self-2 : goal.invariant_of-self-2
invariant_of-self-2 g c =
    let p = c.args.self.now in
    let kept = moves_numbers g.T.Tape p.actor.node c.serve-served.new.self.node c.serve-served.result.messages c.serve-served.ensures.moves in
    record {
      most = p.most;
      some_pictures = p.some_pictures;
      most_pictures = p.most_pictures;
      among = kept.1 ∙ p.among;
      member = subst (λ (k : ℕ). k < p.n) (sym kept.0) p.member;
      sent = ∥∥₁_map p.sent (λ s. sent_on p.backlog.messages.items p.posts.messages.items (logged p.actor.emitted.items) s c.serve-served.result.messages.items Everyone c.post.new.posts.messages.items
          (logged c.serve-served.new.self.emitted.items) c.serve-served.ensures.emitted c.post.ensures);
    }

pub returns-clause-served : goal.returns-clause-served
returns-clause-served g c =
    let p = c.args.self.now in
    let kept = moves_numbers g.T.Tape p.actor.node c.serve-served.new.self.node c.serve-served.result.messages c.serve-served.ensures.moves in
    record {
      outputs = c.serve-served.result.messages;
      outcome_is = c.serve-served.ensures.outcome;
      moves = c.serve-served.ensures.moves;
      ends = c.serve-served.ensures.last;
      emitted = c.serve-served.ensures.emitted;
      given = c.serve-served.ensures.given;
      gone = record { queue = refl; posted = c.post.ensures };
      goes_on = record { read_from = c.serve-served.ensures.read_from; stood = c.serve-served.ensures.stood; ended = refl; number = kept.0; among = refl };
    }
