-- A word that is no number.
use Rattle.std.proofs.Common.{◌≡◌, sym, subst, false}
use Rattle.std.specs.Prelude.{Err}
use Rattle.std.proofs.lemmas.Result.{err_from_is_err_and}
use Rattle.wf_script.specs.ReadContract.{wants_memory}
use Rattle.wf_script.specs.Words.{number}
use Rattle.wf_script.proofs.NumberList.{refused}
use Rattle.wf_script.proofs.order.numbers.Goals as goal

pub returns-in_err-number-clause-value : goal.returns-in_err-number-clause-value
returns-in_err-number-clause-value c =
    let reported = err_from_is_err_and c.from_residual.result c.from_residual.ensures.1 in
    refused (λ v. v.items) c.from_residual.result reported.0 c.loop-word.numbers.items c.args.words.now c.loop-word.words c.next.new.self c.in-Some.word.now reported.1 c.loop-word.invariant c.in-Some.ensures.some
    (subst (λ w. wants_memory w ≡ false → number c.in-Some.word.now ≡ Err w) (sym reported.2) c.in_err-number.ensures)
