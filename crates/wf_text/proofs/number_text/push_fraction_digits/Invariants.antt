use Rattle.std.proofs.Common.{◌<◌, ◌^◌, ℕ, List}
use Rattle.wf_text.specs.NumberText.{fraction_digits, Writes}
use Rattle.wf_text.proofs.number_text.push_fraction_digits.Given as goal

-- the digits written so far followed by those of the rest are the whole fraction
abbrev pub invariant-loop-places : goal.invariant-loop-places
invariant-loop-places l = record {
  whole : (after : List ℕ) → Writes l.out.items (fraction_digits l.places l.rest) after → Writes l.initial.out.items (fraction_digits 6 l.parts) after;
  below : l.rest < 10 ^ l.places;
}
