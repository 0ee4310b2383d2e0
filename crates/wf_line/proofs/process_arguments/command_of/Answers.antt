use Rattle.std.proofs.Common.{rules, sym, ap, ◌∙◌}
use Rattle.std.specs.Prelude.{Some}
use Rattle.clap.specs.Matches.{found_of}
use Rattle.clap.specs.Simple.{subcommand_rows_of}
use Rattle.clap.specs.Walk.{rows_of}
use Rattle.wf_line.proofs.Named.{name_met}
use Rattle.wf_line.proofs.ProcessNamed.{none_cleared, none_made, none_replicated, none_served}
use Rattle.wf_line.proofs.process_arguments.command_of.Goals as goal

pub returns-in-Some-init-default-clause-none : goal.returns-in-Some-init-default-clause-none
returns-in-Some-init-default-clause-none c =
    none_made c.init.result (subcommand_rows_of c.args.matches.now) (rows_of (found_of c.in-Some-init-default.found.now)) (sym c.in-Some-init-default.ensures.rows)
    (name_met _ ∙ sym c.in-Some-init-default.ensures.name ∙ ap Some (search rules))
    c.init.ensures.none

pub returns-in-Some-node-default-clause-none : goal.returns-in-Some-node-default-clause-none
returns-in-Some-node-default-clause-none c =
    none_served c.node.result (subcommand_rows_of c.args.matches.now) (rows_of (found_of c.in-Some-node-default.found.now)) (sym c.in-Some-node-default.ensures.rows)
    (name_met _ ∙ sym c.in-Some-node-default.ensures.name ∙ ap Some (search rules))
    c.node.ensures.none

pub returns-in-Some-clear-default-clause-none : goal.returns-in-Some-clear-default-clause-none
returns-in-Some-clear-default-clause-none c =
    none_cleared c.clear.result (subcommand_rows_of c.args.matches.now) (rows_of (found_of c.in-Some-clear-default.found.now)) (sym c.in-Some-clear-default.ensures.rows)
    (name_met _ ∙ sym c.in-Some-clear-default.ensures.name ∙ ap Some (search rules))
    c.clear.ensures.none

pub returns-in-Some-replica-default-clause-none : goal.returns-in-Some-replica-default-clause-none
returns-in-Some-replica-default-clause-none c =
    none_replicated c.replica.result (subcommand_rows_of c.args.matches.now) (rows_of (found_of c.in-Some-replica-default.found.now)) (sym c.in-Some-replica-default.ensures.rows)
    (name_met _ ∙ sym c.in-Some-replica-default.ensures.name ∙ ap Some (search rules))
    c.replica.ensures.none
