use Rattle.wf_text.specs.NumberTextTheorems.{number_again}
use Rattle.wf_text.proofs.number_form.number_is_read_again.Goals as goal

pub returns : goal.returns
returns c = number_again
