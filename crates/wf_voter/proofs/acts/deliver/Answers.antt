use Rattle.std.proofs.Common.{◌≡◌, refl, subst, true}
use Rattle.wf_codec.specs.declared.message.Message.{Message}
use Rattle.wf_voter.specs.Continuation.{is_ask, is_chosen}
use Rattle.wf_voter.proofs.Continuation.{still, taking}
use Rattle.wf_voter.proofs.acts.deliver.Goals as goal

pub returns-then-is_heard : goal.returns-then-is_heard
returns-then-is_heard g c =
    taking g.T.Tape _ _ c.args.message.message c.args.message.from c.args.message.stream _ (c.takes.ensures.gate c.if-takes.true) refl refl refl
    (λ is. subst (λ (m : Message). is_ask m ≡ true) c.message.ensures (c.takes.ensures.asks c.if-takes.true is))
    (λ is. subst (λ (m : Message). is_chosen m ≡ true) c.message.ensures (c.takes.ensures.says c.if-takes.true is))
    (c.is_heard.ensures c.if-is_heard.true)
    c.deliver.ensures

pub returns-else-takes : goal.returns-else-takes
returns-else-takes g c = still g.T.Tape _
