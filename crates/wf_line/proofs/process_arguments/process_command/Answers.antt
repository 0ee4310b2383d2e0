use Rattle.std.proofs.Common.{inr}
use Rattle.std.specs.Prelude.{map}
use Rattle.clap.specs.Simple.{app_of}
use Rattle.clap.proofs.TakesLemmas.{passed_up}
use Rattle.wf_line.proofs.Named.{kind_on, none_on, passes_on}
use Rattle.wf_line.proofs.ProcessNamed.{asked_of_program, none_of_program}
use Rattle.wf_line.proofs.process_arguments.process_command.Goals as goal

pub returns-in_err-matches-clause-rejected : goal.returns-in_err-matches-clause-rejected
returns-in_err-matches-clause-rejected g c =
    passed_up c.from_residual-in_err-matches.result c.in_err-matches.field-0.0 _ c.from_residual-in_err-matches.ensures.1
    (λ taken command asks. passes_on _ _ c.in_err-matches.field-0.0 c.in_ok-program.ensures c.in_err-matches.ensures.passes taken)

pub returns-in-Some-clause-asked : goal.returns-in-Some-clause-asked
returns-in-Some-clause-asked g c =
    asked_of_program (app_of c.in_ok-program.field-0) (map g.S.AsStr.text c.args.words.now) c.in_ok-matches.matches c.in-Some.command c.in_ok-program.ensures c.in_ok-matches.ensures.matches c.in-Some.ensures.some

pub returns-in_ok-rejection-in-None-clause-rejected : goal.returns-in_ok-rejection-in-None-clause-rejected
returns-in_ok-rejection-in-None-clause-rejected g c = λ taken command asks.
    absurd (none_of_program (app_of c.in_ok-program.field-0) (map g.S.AsStr.text c.args.words.now) c.in_ok-matches.matches c.in_ok-program.ensures c.in_ok-matches.ensures.matches c.in-None.ensures.none command asks)

pub returns-in_err-matches-clause-kind : goal.returns-in_err-matches-clause-kind
returns-in_err-matches-clause-kind g c =
    passed_up c.from_residual-in_err-matches.result c.in_err-matches.field-0.0 _ c.from_residual-in_err-matches.ensures.1
    (kind_on _ _ c.in_err-matches.field-0.0 c.in_ok-program.ensures c.in_err-matches.ensures.kinds)

pub returns-in_ok-rejection-in-None-clause-kind : goal.returns-in_ok-rejection-in-None-clause-kind
returns-in_ok-rejection-in-None-clause-kind g c =
    inr (inr (none_on _ _ c.in_ok-program.ensures c.in_ok-matches.ensures.kinds, c.in_ok-rejection-in-None.ensures))
