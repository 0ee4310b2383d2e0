-- The votes that are reported are those of the acceptor's model.
use Rattle.std.proofs.Common.{◌≡◌, ◌∙◌, ap}
use Rattle.wf_acceptor.specs.Acceptor.{Acceptor}
use Rattle.wf_acceptor.specs.Prepared.{report_of}
use Rattle.wf_acceptor.proofs.acceptor.Acceptor.promise_to.Goals as goal

pub returns-clause-answer : goal.returns-clause-answer
returns-clause-answer c =
    let report : c.in_ok-report.report ≡ report_of c.args.self.now.part c.args.slot = c.in_ok-report.ensures ∙ ap (λ (a : Acceptor). report_of a.part c.args.slot) c.self.view_is in
    let id = ap (λ (a : Acceptor). a.part.id) c.self.view_is in
    rw (id, report)
