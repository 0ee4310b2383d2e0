use Rattle.wf_loop.proofs.turn.act_on_all.Goals as goal

pub returns-clause-readers : goal.returns-clause-readers
returns-clause-readers g c = λ are. c.act_on_those-2.ensures.readers (c.act_on_those.ensures.readers are)
