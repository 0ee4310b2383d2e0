use Rattle.std.proofs.Common.{Some, subst}
use Rattle.wf_listing.specs.Map.{IsMapTextAt}
use Rattle.wf_commands.proofs.Listed.{map_in_part, map_whole}
use Rattle.wf_commands.proofs.tapes.write_map.Goals as goal

pub returns-in-Ok-clause-written : goal.returns-in-Ok-clause-written
returns-in-Ok-clause-written g c =
    let is : IsMapTextAt c.args.bytes.now c.args.sequence (Some c.in-Ok-Some.text) = subst (λ found. IsMapTextAt c.args.bytes.now c.args.sequence found) c.in-Ok-Some.field-0-is c.in-Ok-Some.ensures in
    map_whole c.args.bytes.now c.deref.result.now c.args.sequence c.in-Ok-Some.text _ _ tt is c.deref.ensures.value c.in-Ok.ensures.whole

pub returns-in-Err-written-clause-written : goal.returns-in-Err-written-clause-written
returns-in-Err-written-clause-written g c =
    let is : IsMapTextAt c.args.bytes.now c.args.sequence (Some c.in-Ok-Some.text) = subst (λ found. IsMapTextAt c.args.bytes.now c.args.sequence found) c.in-Ok-Some.field-0-is c.in-Ok-Some.ensures in
    map_in_part c.args.bytes.now c.deref.result.now c.args.sequence c.in-Ok-Some.text c.in-Err-written.field-0 _ _ is c.deref.ensures.value c.in-Err-written.ensures.part.1
