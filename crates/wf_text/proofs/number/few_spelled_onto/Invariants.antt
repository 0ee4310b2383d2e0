use Rattle.std.proofs.Common.{◌≡◌, ◌≤◌, ◌+◌, ◌*◌, ◌^◌, take}
use Rattle.wf_text.specs.Number.{spelled_onto}
use Rattle.wf_text.proofs.number.few_spelled_onto.Given as goal

abbrev pub invariant-loop-byte : goal.invariant-loop-byte
invariant-loop-byte l = record {
  value : l.spelled ≡ spelled_onto l.value (take l.byte-index l.digits);
  bound : l.spelled + 23 ≤ (l.value + 23) * 10 ^ l.byte-index;
}
