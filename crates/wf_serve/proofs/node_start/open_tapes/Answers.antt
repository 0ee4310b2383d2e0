-- There is no node yet; then one more is appended.
use Rattle.std.proofs.Common.{◌≡◌, length, sym, ap, subst, arith}
use Rattle.wf_farm.specs.Nodes.{nodes_in}
use Rattle.wf_serve.specs.OpenedNodes.{AreOpened, WereRead}
use Rattle.wf_serve.proofs.Opened.{in_place, none_opened, read_in_place}
use Rattle.wf_serve.proofs.Started.{all_opened, none_opened_yet, one_more_opened, tapes_stopped}
use Rattle.wf_serve.proofs.node_start.open_tapes.Goals as goal

pub loop-number-init : goal.loop-number-init
loop-number-init g c = record {
  opened = subst (AreOpened c.args.n) (sym c.new-hosts.ensures.items) (none_opened _ c.args.n);
  size = ap length c.new-hosts.ensures.items;
  calls = none_opened_yet _;
}

pub loop-number-preserved : goal.loop-number-preserved
loop-number-preserved g c = record {
  opened = c.in-Ok.ensures.opened;
  size = c.in-Ok.ensures.size;
  calls = one_more_opened c.loop-number.number _ _ _ c.loop-number.invariant.calls c.in-Ok.ensures.tape;
}

pub open-requires-clause-in_turn : goal.open-requires-clause-in_turn
open-requires-clause-in_turn g c =
    in_place c.args.n c.loop-number.hosts.items (omega (arith, c.loop-number.invariant.size, c.loop-number-test.false)) c.loop-number.invariant.opened

pub returns-clause-read : goal.returns-clause-read
returns-clause-read g c =
    let long : length c.loop-number.hosts.items ≡ c.args.n = omega (arith, c.loop-number.invariant.size, c.loop-number-test.false) in
    subst WereRead (sym (ap nodes_in c.open.ensures)) (read_in_place c.args.n c.loop-number.hosts.items long c.loop-number.invariant.opened)

pub returns-clause-opened : goal.returns-clause-opened
returns-clause-opened g c =
    let all : c.loop-number.number ≡ c.args.n = omega (arith, c.loop-number.auto.number-end, c.loop-number-test.false) in
    all_opened c.args.n c.loop-number.number _ _ all c.loop-number.invariant.calls

pub returns-in-Err-clause-rejected : goal.returns-in-Err-clause-rejected
returns-in-Err-clause-rejected g c = tapes_stopped c.args.n c.loop-number.number _ _ _ _ c.loop-number-test.true c.loop-number.invariant.calls c.in-Err.ensures.stopped
