use Rattle.wf_text.proofs.NumberJoined.{has_parts}
use Rattle.wf_text.proofs.NumberCut.{parts_are_cut, means_its_parts, bad_has_no_parts, without_parts_bad}
use Rattle.wf_text.proofs.number_form.number_form_is_exact.Goals as goal

pub returns-clause-parts : goal.returns-clause-parts
returns-clause-parts c = λ text parts. (has_parts text parts, parts_are_cut text parts)

pub returns-clause-value : goal.returns-clause-value
returns-clause-value c = means_its_parts

pub returns-clause-refused : goal.returns-clause-refused
returns-clause-refused c = λ text. (bad_has_no_parts text, without_parts_bad text)
