use Rattle.std.proofs.Common.{arith, sym, ◌-◌}
use Rattle.wf_text.proofs.Fraction.{next_digit, rest_below, no_digits, no_place_left}
use Rattle.wf_text.proofs.NumberWriteSequences.{nothing, both, same}
use Rattle.wf_text.proofs.number_text.push_fraction_digits.Goals as goal

pub loop-places-preserved : goal.loop-places-preserved
loop-places-preserved c = record {
  whole = λ after w. c.loop-places.invariant.whole after (same (both c.push.ensures w) (sym (next_digit c.loop-places.places c.loop-places.rest c.pow-unit.result (omega arith) c.if-rest-eq0.false c.pow-unit.ensures)));
  below = rest_below c.loop-places.rest (c.loop-places.places - 1) c.pow-unit.result c.pow-unit.ensures;
}

pub returns-after-loop-places : goal.returns-after-loop-places
returns-after-loop-places c =
    c.loop-places.invariant.whole _ (same (nothing _) (sym (no_digits c.loop-places.places c.loop-places.rest (no_place_left c.loop-places.rest c.loop-places.places c.loop-places-test.false c.loop-places.invariant.below))))

pub returns-then-rest-eq0 : goal.returns-then-rest-eq0
returns-then-rest-eq0 c =
    c.loop-places.invariant.whole _ (same (nothing _) (sym (no_digits c.loop-places.places c.loop-places.rest c.if-rest-eq0.true)))
