use Rattle.std.proofs.Common.{sym, subst}
use Rattle.wf_node.specs.Node.{Node}
use Rattle.wf_actor.specs.Start.{IsOpened}
use Rattle.wf_actor.proofs.Lives.{opened_from}
use Rattle.wf_actor.proofs.actor.Actor.open.Goals as goal

pub begin-requires-clause-opened : goal.begin-requires-clause-opened
begin-requires-clause-opened g c = opened_from g.T.Tape c.args.tape c.args.id c.args.n c.in-Ok.node c.new.result.items c.and-read_from.result.items c.new.ensures c.and-read_from.ensures c.in-Ok.ensures.id c.in-Ok.ensures.n c.in-Ok.ensures.running
    c.in-Ok.ensures.volatile c.in-Ok.ensures.found

pub returns-in-Ok-clause-opened : goal.returns-in-Ok-clause-opened
returns-in-Ok-clause-opened g c =
    subst (λ (x : Node g.row.T.Denot). IsOpened g.T.Tape c.args.tape c.args.id c.args.n x) (sym c.begin.ensures.node) (record {
      number = c.in-Ok.ensures.id;
      among = c.in-Ok.ensures.n;
      runs = c.in-Ok.ensures.running;
      idle = c.in-Ok.ensures.volatile;
      found = c.in-Ok.ensures.found;
      stands = c.in-Ok.ensures.stands;
      images = c.in-Ok.ensures.images;
    })
