use Rattle.std.proofs.Common.{sym}
use Rattle.wf_wms.proofs.EntriesTheorem as entries
use Rattle.wf_wms.proofs.entries.four_entries.Goals as goal

pub returns-in_err-first : goal.returns-in_err-first
returns-in_err-first c = rw c.from_residual.ensures (sym (entries.one_entry _ c.in_err-first.ensures))

pub returns-in_err-second : goal.returns-in_err-second
returns-in_err-second c =
    rw c.from_residual-in_err-second.ensures (sym (entries.two_entries _ _ _ c.in_ok-first.ensures c.in_err-second.ensures))

pub returns-in_err-third : goal.returns-in_err-third
returns-in_err-third c =
    rw c.from_residual-in_err-third.ensures
    (sym (entries.three_entries _ _ _ _ _ c.in_ok-first.ensures c.in_ok-second.ensures c.in_err-third.ensures))

pub returns-in-None : goal.returns-in-None
returns-in-None c =
    sym (entries.four_entries _ _ _ _ _ _ _ c.in_ok-first.ensures c.in_ok-second.ensures c.in_ok-third.ensures c.in-None.ensures)

pub returns-in-Some : goal.returns-in-Some
returns-in-Some c =
    sym (entries.five_entries _ _ _ _ _ _ _ _ _ c.in_ok-first.ensures c.in_ok-second.ensures c.in_ok-third.ensures c.in-Some.ensures)
