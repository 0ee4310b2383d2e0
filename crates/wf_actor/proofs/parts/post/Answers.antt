use Rattle.std.proofs.Common.{◌≡◌, [], rules, ◌∙◌, ap, List}
use Rattle.wf_codec.specs.declared.message.Message.{Message}
use Rattle.wf_wire.specs.Post.{logged}
use Rattle.wf_actor.proofs.Dispatches.{among_along, logged_same, posted_one}
use Rattle.wf_actor.proofs.parts.post.Goals as goal

pub new-requires : goal.new-requires
new-requires c = among_along _ _ _ (logged_same _ _ c.new-none.result c.new-none.ensures.items c.and-returned.ensures) c.requires

pub returns : goal.returns
returns c =
    let some : c.args.messages.items ≡ [] → ⊥ = λ none. search rules in
    let made = c.new.ensures in
    let same = logged_same c.args.returned.now.items c.and-returned.result.items c.new-none.result c.new-none.ensures.items c.and-returned.ensures in
    posted_one c.args.messages.items c.args.target _ _ _ c.new.result some (record {
      are = search rules;
      for = made.target;
      returned = ap logged made.returned ∙ same;
    }) c.push.ensures
