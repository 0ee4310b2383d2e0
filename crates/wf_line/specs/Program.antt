-- The program's command line: what the parser takes.
use Rattle.std.specs.Prelude.{◌≡◌, List, [], ◌∷◌, false, true, codes}
use Rattle.clap.specs.Simple.{App, Shape, app_of, new_shape}
use Rattle.clap.specs.declared.builder.command.Command.{Command}
use Rattle.wf_line.specs.CommandLine.{canon_shape, caps_shape, check_shape, draw_shape, run_shape, serve_shape, tape_shape, wire_shape}
use Rattle.wf_line.specs.NodeCommandLine.{clear_shape, init_shape, node_shape}
use Rattle.wf_line.specs.ReplicaCommandLine.{replica_shape}

-- The program's command, as data for the parser: it takes one of twelve commands, or asks for the
-- version or help.
abbrev pub program : App
program = record {
  top = record (new_shape (codes "wfarm")) {
    is_leaf = false;
    no_binary_name = true;
    has_version = true;
    subcommand_required = true;
  };
  subs = caps_shape ∷ draw_shape ∷ canon_shape ∷ check_shape ∷ run_shape ∷ wire_shape ∷ tape_shape ∷ serve_shape
      ∷ init_shape ∷ node_shape ∷ clear_shape ∷ replica_shape ∷ [];
}

-- it with its name and its version only, and without subcommands
abbrev pub named_program : App
named_program = record { top = record (new_shape (codes "wfarm")) { has_version = true }; subs = [] }

abbrev pub bare_program : App
bare_program = record {
  top = record (new_shape (codes "wfarm")) { no_binary_name = true; has_version = true; subcommand_required = true };
  subs = [];
}

-- the command is the program's, with these subcommands so far
abbrev pub HasSubcommands : List Shape → Command → Type 0
HasSubcommands shapes command = app_of command ≡ record program { subs = shapes }
