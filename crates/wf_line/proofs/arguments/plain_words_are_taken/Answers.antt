use Rattle.wf_line.proofs.PlainWords.{canon_asked, caps_asked, check_asked, draw_asked, json_asked, run_asked, tape_asked, wire_asked}
use Rattle.wf_line.proofs.arguments.plain_words_are_taken.Goals as goal

pub returns-clause-caps : goal.returns-clause-caps
returns-clause-caps c = caps_asked

pub returns-clause-draw : goal.returns-clause-draw
returns-clause-draw c = draw_asked

pub returns-clause-tape : goal.returns-clause-tape
returns-clause-tape c = tape_asked

pub returns-clause-canon : goal.returns-clause-canon
returns-clause-canon c = canon_asked

pub returns-clause-check : goal.returns-clause-check
returns-clause-check c = check_asked

pub returns-clause-json : goal.returns-clause-json
returns-clause-json c = json_asked

pub returns-clause-run : goal.returns-clause-run
returns-clause-run c = run_asked

pub returns-clause-wire : goal.returns-clause-wire
returns-clause-wire c = wire_asked
