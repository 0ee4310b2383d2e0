-- The first line that isn't skipped has the number of nodes, or is no line of a script.
use Rattle.std.proofs.Common.{rules, ◌≡◌, ◌∙◌, sym, ap, false}
use Rattle.std.specs.Prelude.{Ok, Err}
use Rattle.wf_script.specs.Fault.{fault_of, is_memory}
use Rattle.wf_script.specs.ReadContract.{◌>>=◌, at_line}
use Rattle.wf_script.specs.Words.{is_skipped}
use Rattle.wf_script.proofs.LineSteps.{head_line, same_want}
use Rattle.wf_script.proofs.script.first_line.Goals as goal

pub returns-in-Ok-clause-value : goal.returns-in-Ok-clause-value
returns-in-Ok-clause-value c =
    let stands : is_skipped c.in-Some.line.now ≡ false = search rules in
    c.loop-line.invariant.value
    ∙ head_line c.in-Some.line.now c.loop-line.lines c.next.new.self c.in-Some.ensures.some stands
    ∙ ap (λ found. at_line c.next.new.self.number found >>= (λ nodes. Ok (nodes, c.next.new.self))) c.in-Ok.ensures.value

pub returns-in-Err-clause-value : goal.returns-in-Err-clause-value
returns-in-Err-clause-value c = λ isnt.
    let stands : is_skipped c.in-Some.line.now ≡ false = search rules in
    c.loop-line.invariant.value
    ∙ head_line c.in-Some.line.now c.loop-line.lines c.next.new.self c.in-Some.ensures.some stands
    ∙ ap (λ found. at_line c.next.new.self.number found >>= (λ nodes. Ok (nodes, c.next.new.self))) (c.in-Err.ensures.value (sym (same_want c.in-Err.wrong c.number.result) ∙ ap is_memory (sym c.at.ensures) ∙ isnt))
    ∙ ap Err (ap (fault_of c.in-Err.wrong) (sym c.number.ensures) ∙ sym c.at.ensures)
