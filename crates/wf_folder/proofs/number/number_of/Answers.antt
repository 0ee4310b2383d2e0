-- The digits of a number are read as it, and are in lowercase.
use Rattle.std.proofs.Common.{◌∙◌, ap}
use Rattle.std.specs.Int.{w32, from_be_bytes}
use Rattle.std.proofs.lemmas.Nat.{from_be_bytes-to_be_bytes_4}
use Rattle.wf_folder.proofs.Numbers.{decoded_number, of_no_number}
use Rattle.wf_folder.proofs.number.number_of.Goals as goal

pub returns-in-Ok-clause-none : goal.returns-in-Ok-clause-none
returns-in-Ok-clause-none c =
    of_no_number c.with_digits.result c.args.digits.now c.from_be_bytes.result c.with_digits.ensures.none
    (λ n fits e. c.from_be_bytes.ensures ∙ ap (from_be_bytes w32) (decoded_number _ _ c.args.digits.now n e c.in-Ok.ensures.value).1 ∙ from_be_bytes-to_be_bytes_4 n fits)

pub returns-in-Err-clause-none : goal.returns-in-Err-clause-none
returns-in-Err-clause-none c = λ n fits e. cc ((decoded_number _ _ c.args.digits.now n e c.in-Err.ensures.value).0)
