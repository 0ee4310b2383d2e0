-- The run of the line that the words ask for.
use Rattle.wf_commands.proofs.Ended.{listed_line, service_ended}
use Rattle.wf_commands.proofs.program.run_words.Goals as goal

pub returns-in-Serve-clause-run : goal.returns-in-Serve-clause-run
returns-in-Serve-clause-run g c = (
  c.in-Ok.line,
  c.in-Ok.ensures.asked,
  service_ended _ _ _ _ _ _ _ _ _ c.in-Ok.line c.run_serve.result c.run_serve.ensures.served c.run_serve.ensures.writes c.end.ensures.reported_as c.end.ensures.status,
)

pub returns-in-Tape-clause-run : goal.returns-in-Tape-clause-run
returns-in-Tape-clause-run g c = (
  c.in-Ok.line,
  c.in-Ok.ensures.asked,
  listed_line _ _ _ _ _ _ _ _ _ c.in-Ok.line c.in-Tape.file c.in-Tape.map c.in-Tape.is c.run_tape.result
      c.run_tape.ensures.done c.run_tape.ensures.writes c.end-in-Tape.ensures.reported_as c.end-in-Tape.ensures.status,
)
