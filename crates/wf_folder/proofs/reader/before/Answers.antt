-- What is found ends with the line; where nothing is, no such bytes do.
use Rattle.std.proofs.lemmas.Bool.Decides.{Decides-eqb}
use Rattle.std.proofs.lemmas.Slice.Eq.{strip_suffix_is}
use Rattle.wf_folder.proofs.reader.before.Goals as goal

pub returns : goal.returns
returns c = strip_suffix_is Decides-eqb c.args.bytes.now c.args.end.now c.strip_suffix.result c.strip_suffix.ensures.cases
