use Rattle.std.proofs.Common.{◌++◌, ◌∷◌, [], ℕ, List, ap, subst, ◌∙◌, rules}
use Rattle.wf_readers_port.proofs.Exchanged.{conversed_one}
use Rattle.wf_readers_port.specs.Exchanges.{Exchange}
use Rattle.wf_readers_port.specs.QuestionReplies.{RepliesTo}
use Rattle.wf_readers_port.proofs.reader.Reader.step.Goals as goal

pub returns-in-Some-outgoing_of : goal.returns-in-Some-outgoing_of
returns-in-Some-outgoing_of g c =
    let one : List Exchange = (c.receive.new.self.question, c.answer.new.out) ∷ [] in
    conversed_one c.args.published.now.own.now c.args.published.now.history.now.definitions c.args.published.now.digests.now c.receive.new.self.question c.answer.new.out
    c.args.self.now.exchanges.items c.args.all.now.items c.reply_with.new.self.exchanges.items c.and.result.items
    (c.reply_with.ensures ∙ ap (λ (s : List Exchange). s ++ one) (c.receive.ensures.exchanges ∙ c.give.ensures.exchanges))
    c.and.ensures
    (c.receive.ensures.whole (search rules))
    (subst (λ (bytes : List ℕ). RepliesTo c.args.published.now.own.now c.args.published.now.history.now.definitions c.args.published.now.digests.now bytes [] c.answer.new.out.items) c.as_slice.ensures.value
    (subst (λ (before : List ℕ). RepliesTo c.args.published.now.own.now c.args.published.now.history.now.definitions c.args.published.now.digests.now c.as_slice.result.now before c.answer.new.out.items) c.new-bytes.ensures.items
    c.in-Replied.ensures))
