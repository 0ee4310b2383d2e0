-- The indices so far are written.
use Rattle.std.proofs.Common.{◌≡◌, ◌++◌, take}
use Rattle.std.specs.Prelude.{codes, flat_map}
use Rattle.std.specs.String.{string_bytes}
use Rattle.wf_play.proofs.Report.{word}
use Rattle.wf_play.proofs.answer.write_published.Given as goal

abbrev pub invariant-loop-number : goal.invariant-loop-number
invariant-loop-number l = string_bytes l.out ≡ string_bytes l.fn.out ++ (codes "published" ++ flat_map word (take l.number l.farm.hosts))
