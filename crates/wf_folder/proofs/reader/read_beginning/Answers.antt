-- A file's line says one of the two.
use Rattle.wf_folder.specs.declared.farm_file.Beginning.TheVariants.{Empty, Found}
use Rattle.wf_folder.proofs.reader.read_beginning.Goals as goal

pub returns-in-None-after-clause-none : goal.returns-in-None-after-clause-none
returns-in-None-after-clause-none c Empty = λ rest e. c.in-None.ensures rest e
returns-in-None-after-clause-none c Found = λ rest e. c.in-None-after.ensures rest e
