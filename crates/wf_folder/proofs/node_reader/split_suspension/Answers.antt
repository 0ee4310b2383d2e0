-- The parts of the line are determined, one after the other.
use Rattle.std.proofs.Common.{◌∙◌, sym, arith, codes}
use Rattle.wf_folder.specs.NodeFile.{suspended_then}
use Rattle.wf_folder.proofs.Ends.{is_accuser}
use Rattle.wf_folder.proofs.WordLemmas.{after_mark, after_number, both_numbers, if_none}
use Rattle.wf_folder.proofs.node_reader.split_suspension.Goals as goal

pub returns-in_err-accuser-clause-none : goal.returns-in_err-accuser-clause-none
unfolding suspended_then
returns-in_err-accuser-clause-none c = if_none c.from_residual.result (λ s rest is e. c.in_err-accuser.ensures.none s.accuser _ (omega (arith, is.by_node)) e)

pub returns-in_err-ip-clause-none : goal.returns-in_err-ip-clause-none
unfolding suspended_then
returns-in_err-ip-clause-none c = if_none c.from_residual-in_err-ip.result (λ s rest is e.
    let ip = after_number (codes "\nsuspended by ") c.in_ok-accuser.accuser s.accuser c.in_ok-accuser.rest.now _ (sym c.in_ok-accuser.ensures.some ∙ e) in
    c.in_err-ip.ensures.none s.address.ip _ is.bytes is.size ip)

pub returns-in_err-port-clause-none : goal.returns-in_err-port-clause-none
unfolding suspended_then
returns-in_err-port-clause-none c = if_none c.from_residual-in_err-port.result (λ s rest is e.
    let ip = after_number (codes "\nsuspended by ") c.in_ok-accuser.accuser s.accuser c.in_ok-accuser.rest.now _ (sym c.in_ok-accuser.ensures.some ∙ e) in
    let port = after_mark (codes " at ") c.in_ok-ip.ip s.address.ip c.in_ok-ip.rest.now _ c.in_ok-ip.ensures.mark.1 is.size (sym c.in_ok-ip.ensures.some ∙ ip) in
    c.in_err-port.ensures.none s.address.port _ (omega (arith, is.to_port)) port)

pub returns-in_err-cause-clause-none : goal.returns-in_err-cause-clause-none
unfolding suspended_then
returns-in_err-cause-clause-none c = if_none c.from_residual-in_err-cause.result (λ s rest is e.
    let ip = after_number (codes "\nsuspended by ") c.in_ok-accuser.accuser s.accuser c.in_ok-accuser.rest.now _ (sym c.in_ok-accuser.ensures.some ∙ e) in
    let port = after_mark (codes " at ") c.in_ok-ip.ip s.address.ip c.in_ok-ip.rest.now _ c.in_ok-ip.ensures.mark.1 is.size (sym c.in_ok-ip.ensures.some ∙ ip) in
    let cause = after_number (codes " port ") c.in_ok-port.port s.address.port c.in_ok-port.rest.now _ (sym c.in_ok-port.ensures.some ∙ port) in
    c.in_err-cause.ensures.none s.cause rest (omega (arith, is.of_byte)) cause)

pub returns-in-None-clause-none : goal.returns-in-None-clause-none
unfolding suspended_then
returns-in-None-clause-none c = λ s rest is e.
    let accuser = both_numbers (codes "\nsuspended by ") c.in_ok-accuser.accuser s.accuser c.in_ok-accuser.rest.now _ c.in_ok-accuser.ensures.fits (omega (arith, is.by_node)) (sym c.in_ok-accuser.ensures.some ∙ e) in
    let port = after_mark (codes " at ") c.in_ok-ip.ip s.address.ip c.in_ok-ip.rest.now _ c.in_ok-ip.ensures.mark.1 is.size (sym c.in_ok-ip.ensures.some ∙ accuser.1) in
    let ports = both_numbers (codes " port ") c.in_ok-port.port s.address.port c.in_ok-port.rest.now _ c.in_ok-port.ensures.fits (omega (arith, is.to_port)) (sym c.in_ok-port.ensures.some ∙ port) in
    let causes = both_numbers (codes " cause ") c.in_ok-cause.cause s.cause c.in_ok-cause.rest.now rest c.in_ok-cause.ensures.fits (omega (arith, is.of_byte)) (sym c.in_ok-cause.ensures.some ∙ ports.1) in
    c.in-None.ensures.none s is (sym accuser.0) (sym ports.0) (sym causes.0)

pub returns-in-Some-clause-some : goal.returns-in-Some-clause-some
returns-in-Some-clause-some c =
    is_accuser c.args.bytes.now c.in_ok-accuser.rest.now c.in_ok-ip.rest.now c.in_ok-port.rest.now c.in_ok-cause.rest.now c.in_ok-accuser.accuser c.in_ok-port.port c.in_ok-cause.cause c.in_ok-ip.ip c.in-Some.suspension
    c.in_ok-accuser.ensures.some c.in_ok-ip.ensures.some c.in_ok-port.ensures.some c.in_ok-cause.ensures.some c.in-Some.ensures.some.0 c.in-Some.ensures.some.1 c.in-Some.ensures.some.2 c.in-Some.ensures.some.3
