use Rattle.wf_actor.proofs.Farms.{life_is_part, part_is_first}
use Rattle.wf_actor.proofs.theorem.a_life_is_part_of_a_farm.Goals as goal

pub returns-clause-part : goal.returns-clause-part
returns-clause-part g c = life_is_part g.T.Tape

pub returns-clause-first : goal.returns-clause-first
returns-clause-first g c = part_is_first g.T.Tape
