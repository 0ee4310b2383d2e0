-- It is opened from its tape as that is now.
use Rattle.std.proofs.Common.{[], ◌∷◌, ◌++◌, refl, sym, ap, subst, ◌∙◌}
use Rattle.wf_node.specs.Node.{Node}
use Rattle.wf_actor.specs.Start.{IsOpened}
use Rattle.wf_actor.proofs.Lives.{opened_from}
use Rattle.wf_actor.proofs.actor.Actor.of.Goals as goal

pub begin-requires-clause-opened : goal.begin-requires-clause-opened
begin-requires-clause-opened g c = opened_from g.T.Tape c.args.node.tape c.args.node.id c.args.node.n c.args.node c.new.result.items c.and-read_from.result.items c.new.ensures
    (c.and-read_from.ensures ∙ ap (λ (t : g.row.T.Denot). c.new.result.items ++ (t, 0) ∷ []) c.tape.ensures.value) refl refl c.requires.runs
    c.requires.idle c.requires.found

pub returns-clause-opened : goal.returns-clause-opened
returns-clause-opened g c =
    subst (λ (x : Node g.row.T.Denot). IsOpened g.T.Tape c.args.node.tape c.args.node.id c.args.node.n x) (sym c.begin.ensures.node) (record {
      number = refl;
      among = refl;
      runs = c.requires.runs;
      idle = c.requires.idle;
      found = c.requires.found;
      stands = λ durable. c.tape.ensures.stands durable c.requires.runs;
      images = λ durable image left. (image, left, λ records reads. reads);
    })
