-- What was seen of the folder, and what was read of it then.
use Rattle.wf_commands.proofs.Listed.{folder_done}
use Rattle.wf_commands.proofs.tapes.run_opened.Goals as goal

pub returns-in-Ok-clause-done : goal.returns-in-Ok-clause-done
returns-in-Ok-clause-done g c =
    folder_done (g.V.Tapes.content c.args.tapes.now) c.args.path.now c.in-Ok.survey _ _ _ (g.K.Sink.written c.args.sink.now) (g.K.Sink.written c.run_folder.new.sink) c.run_folder.result
    c.requires.new c.requires.no_file c.in-Ok.ensures.surveyed c.inspect.ensures.reads c.run_folder.ensures.reads c.run_folder.ensures.listed
