use Rattle.std.proofs.Common.{rules, sym, ap, ◌∙◌}
use Rattle.std.specs.Prelude.{Some}
use Rattle.clap.specs.Matches.{found_of}
use Rattle.clap.specs.Simple.{subcommand_rows_of}
use Rattle.clap.specs.Walk.{rows_of}
use Rattle.wf_line.proofs.Named.{name_met, none_asked, none_checked, none_drawn, none_listed, none_served}
use Rattle.wf_line.proofs.arguments.line_of.Goals as goal

pub returns-in-Some-caps-default-clause-none : goal.returns-in-Some-caps-default-clause-none
returns-in-Some-caps-default-clause-none c =
    none_asked c.caps.result (subcommand_rows_of c.args.matches.now) (rows_of (found_of c.in-Some-caps-default.found.now)) (sym c.in-Some-caps-default.ensures.rows)
    (name_met _ ∙ sym c.in-Some-caps-default.ensures.name ∙ ap Some (search rules))
    c.caps.ensures.none

pub returns-in-Some-draw-default-clause-none : goal.returns-in-Some-draw-default-clause-none
returns-in-Some-draw-default-clause-none c =
    none_drawn c.draw.result (subcommand_rows_of c.args.matches.now) (rows_of (found_of c.in-Some-draw-default.found.now)) (sym c.in-Some-draw-default.ensures.rows)
    (name_met _ ∙ sym c.in-Some-draw-default.ensures.name ∙ ap Some (search rules))
    c.draw.ensures.none

pub returns-in-Some-check-default-clause-none : goal.returns-in-Some-check-default-clause-none
returns-in-Some-check-default-clause-none c =
    none_checked c.check.result (subcommand_rows_of c.args.matches.now) (rows_of (found_of c.in-Some-check-default.found.now)) (sym c.in-Some-check-default.ensures.rows)
    (name_met _ ∙ sym c.in-Some-check-default.ensures.name ∙ ap Some (search rules))
    c.check.ensures.none

pub returns-in-Some-tape-default-clause-none : goal.returns-in-Some-tape-default-clause-none
returns-in-Some-tape-default-clause-none c =
    none_listed c.tape.result (subcommand_rows_of c.args.matches.now) (rows_of (found_of c.in-Some-tape-default.found.now)) (sym c.in-Some-tape-default.ensures.rows)
    (name_met _ ∙ sym c.in-Some-tape-default.ensures.name ∙ ap Some (search rules))
    c.tape.ensures.none

pub returns-in-Some-serve-default-clause-none : goal.returns-in-Some-serve-default-clause-none
returns-in-Some-serve-default-clause-none c =
    none_served c.serve.result (subcommand_rows_of c.args.matches.now) (rows_of (found_of c.in-Some-serve-default.found.now)) (sym c.in-Some-serve-default.ensures.rows)
    (name_met _ ∙ sym c.in-Some-serve-default.ensures.name ∙ ap Some (search rules))
    c.serve.ensures.none
