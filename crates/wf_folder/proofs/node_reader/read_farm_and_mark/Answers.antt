-- The mark's line is the end of the bytes.
use Rattle.std.proofs.Common.{◌≡◌, ◌∙◌, ◌+◌, length, arith}
use Rattle.wf_folder.proofs.Lines.{mark_after}
use Rattle.wf_folder.proofs.node_reader.read_farm_and_mark.Goals as goal

pub returns-in-None-clause-none : goal.returns-in-None-clause-none
returns-in-None-clause-none c = λ name mark is_name bytes size e.
    let at : c.in_ok-checked_sub.field-0 + 38 ≡ length c.args.bytes.now = omega (arith, c.in_ok-checked_sub.ensures) in
    c.in-None.ensures.none mark bytes size (c.split_at.ensures.back ∙ mark_after c.args.bytes.now name mark c.in_ok-checked_sub.field-0 at size e)
