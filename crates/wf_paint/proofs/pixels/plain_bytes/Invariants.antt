use Rattle.std.proofs.Common.{◌≤◌, ◌*◌, length, drop}
use Rattle.wf_paint.specs.Cells.{IsPlain}
use Rattle.wf_paint.proofs.pixels.plain_bytes.Given as goal

abbrev pub invariant-loop : goal.invariant-loop
invariant-loop l = (l.fn.room ≤ length l.bytes.items) × IsPlain (1024 * l.counter) l.fn.color (drop l.fn.room l.bytes.items)
