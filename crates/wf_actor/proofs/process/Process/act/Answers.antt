-- A step, whose messages wait for whom they are for; or an error, by which nothing is posted.
use Rattle.std.proofs.Common.{◌≡◌, ◌<◌, ℕ, [], Ok, Err, refl, sym, subst, ◌∙◌}
use Rattle.std.proofs.Math.Logic.{∥∥₁_map, ∥∥₁_map₂}
use Rattle.wf_execution.specs.Run.{given_to}
use Rattle.wf_wire.specs.Post.{logged}
use Rattle.wf_actor.proofs.Receipt.{given_on}
use Rattle.wf_actor.proofs.Lives.{keeps_numbers}
use Rattle.wf_actor.proofs.Dispatches.{outputs_among, sent_on, sent_still}
use Rattle.wf_actor.proofs.process.Process.act.Goals as goal

pub post-requires : goal.post-requires
post-requires g c = ∣ outputs_among (logged c.args.self.now.actor.emitted.items) c.in-Ok.messages.items _ c.in-Ok.ensures.emitted ∣₁

pub invariant_of-self-in-Ok : goal.invariant_of-self-in-Ok
invariant_of-self-in-Ok g c =
    let p = c.args.self.now in
    let kept = keeps_numbers g.T.Tape c.args.input p.actor.node c.step.new.self.node (Ok c.in-Ok.messages) c.in-Ok.ensures.answer in
    record {
      most = p.most;
      some_pictures = p.some_pictures;
      most_pictures = p.most_pictures;
      among = kept.1 ∙ p.among;
      member = subst (λ (k : ℕ). k < p.n) (sym kept.0) p.member;
      sent = ∥∥₁_map p.sent (λ s. sent_on p.backlog.messages.items p.posts.messages.items (logged p.actor.emitted.items) s c.in-Ok.messages.items c.args.target c.post.new.posts.messages.items (logged c.step.new.self.emitted.items)
          c.in-Ok.ensures.emitted c.post.ensures);
    }

pub returns-in-Ok : goal.returns-in-Ok
returns-in-Ok g c =
    let p = c.args.self.now in
    let kept = keeps_numbers g.T.Tape c.args.input p.actor.node c.step.new.self.node (Ok c.in-Ok.messages) c.in-Ok.ensures.answer in
    record {
      answer = Ok c.in-Ok.messages;
      steps = c.in-Ok.ensures.answer;
      result_is = tt;
      emitted = c.in-Ok.ensures.emitted;
      given = c.in-Ok.ensures.given;
      gone = record { queue = refl; posted = c.post.ensures };
      goes_on = record { read_from = c.in-Ok.ensures.read_from; stood = c.in-Ok.ensures.stood; ended = refl; number = kept.0; among = refl };
    }

pub invariant_of-self-in-Err-1 : goal.invariant_of-self-in-Err-1
invariant_of-self-in-Err-1 g c =
    let p = c.args.self.now in
    let kept = keeps_numbers g.T.Tape c.args.input p.actor.node c.step.new.self.node (Err c.in-Err.fault) c.in-Err.ensures.answer in
    record {
      most = p.most;
      some_pictures = p.some_pictures;
      most_pictures = p.most_pictures;
      among = kept.1 ∙ p.among;
      member = subst (λ (k : ℕ). k < p.n) (sym kept.0) p.member;
      sent = ∥∥₁_map p.sent (λ s. sent_still p.backlog.messages.items p.posts.messages.items (logged p.actor.emitted.items) s (logged c.step.new.self.emitted.items) c.in-Err.ensures.emitted);
    }

pub returns-in-Err : goal.returns-in-Err
returns-in-Err g c =
    let p = c.args.self.now in
    let kept = keeps_numbers g.T.Tape c.args.input p.actor.node c.step.new.self.node (Err c.in-Err.fault) c.in-Err.ensures.answer in
    record {
      answer = Err c.in-Err.fault;
      steps = c.in-Err.ensures.answer;
      result_is = refl;
      emitted = c.in-Err.ensures.emitted;
      given = c.in-Err.ensures.given;
      gone = record { queue = refl; posted = refl };
      goes_on = record { read_from = c.in-Err.ensures.read_from; stood = c.in-Err.ensures.stood; ended = refl; number = kept.0; among = refl };
    }
