-- The digits of a mark are read as it, and are in lowercase.
use Rattle.wf_folder.proofs.Digits.{decoded, of_none}
use Rattle.wf_folder.proofs.reader.mark_of.Goals as goal

pub returns-in-Ok-clause-none : goal.returns-in-Ok-clause-none
returns-in-Ok-clause-none c =
    of_none 16 c.in_lowercase.result c.args.text.now c.decode_to_slice.new.out c.in_lowercase.ensures.none
    (λ mark bytes size e. (decoded 16 _ _ c.args.text.now mark bytes size e c.in-Ok.ensures.value).1)

pub returns-in-Err-clause-none : goal.returns-in-Err-clause-none
returns-in-Err-clause-none c = λ mark bytes size e. cc ((decoded 16 _ _ c.args.text.now mark bytes size e c.in-Err.ensures.value).0)
