use Rattle.std.proofs.Common.{length, arith}
use Rattle.wf_text.proofs.NumberLemmas.{few_room, fraction_room}
use Rattle.wf_text.proofs.number.all_digits.Goals as goal

pub few_spelled_onto-requires : goal.few_spelled_onto-requires
few_spelled_onto-requires c =
    few_room c.few_spelled_onto-units.result (length c.args.whole.now) (length c.args.fraction.now) c.few_spelled_onto-units.ensures.bound c.requires.whole (omega arith)

pub spelled_onto-requires : goal.spelled_onto-requires
spelled_onto-requires c =
    rw c.from-else-fraction-le-FEW_FRACTION_DIGITS.ensures (fraction_room c.few_spelled_onto-units.result (length c.args.whole.now) (length c.args.fraction.now) c.few_spelled_onto-units.ensures.bound c.requires.whole c.requires.fraction)
