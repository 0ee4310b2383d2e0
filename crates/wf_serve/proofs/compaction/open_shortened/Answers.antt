-- Shortening leaves the node as it opened, but for its tape.
use Rattle.wf_serve.proofs.Shortened.{opened_again, read_again}
use Rattle.wf_serve.proofs.compaction.open_shortened.Goals as goal

pub returns-in-Ok-clause-opened : goal.returns-in-Ok-clause-opened
returns-in-Ok-clause-opened g c =
    opened_again g.T.Tape c.args.tape c.in-Ok.node c.shorten.result
    c.in-Ok.ensures.running c.in-Ok.ensures.volatile c.in-Ok.ensures.stored c.shorten.ensures.same c.shorten.ensures.short c.shorten.ensures.stands

pub returns-in-Ok-clause-read : goal.returns-in-Ok-clause-read
returns-in-Ok-clause-read g c =
    read_again g.T.Tape c.args.tape c.in-Ok.node c.shorten.result c.in-Ok.ensures.running c.in-Ok.ensures.volatile c.in-Ok.ensures.found c.shorten.ensures.same
