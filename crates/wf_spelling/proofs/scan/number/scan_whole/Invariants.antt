use Rattle.std.proofs.Common.{◌<◌}
use Rattle.std.specs.Fmt.{decimal}
use Rattle.wf_spelling.specs.Scan.{Scans}
use Rattle.wf_spelling.proofs.scan.number.scan_whole.Given as goal

-- the digits so far are those of the integer
abbrev pub invariant-loop : goal.invariant-loop
invariant-loop l = record {
  scanned : Scans l.fn.cursor (decimal l.whole) l.cursor;
  below : l.whole < 1000000000;
}
