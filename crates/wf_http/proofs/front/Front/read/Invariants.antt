use Rattle.std.proofs.Common.{◌≡◌, ◌≤◌, ◌-◌, length}
use Rattle.std.specs.Io.KnownBytes.{Consumes}
use Rattle.arrayvec.specs.ArrayVec.{array_vec_len}
use Rattle.wf_http.specs.Head.{most_head_bytes}
use Rattle.wf_http.specs.Front.{HasNoHead}
use Rattle.wf_http.proofs.front.Front.read.Given as goal

-- the bytes read were taken from the front, no head is complete yet, and no read has failed
abbrev pub invariant-loop-bytes : goal.invariant-loop-bytes
invariant-loop-bytes g l = record {
  taken : Consumes (g.S.Source.left l.fn.source) (g.S.Source.left l.source) l.bytes.items;
  unfinished : HasNoHead l.bytes.items;
  within : length l.bytes.items ≤ most_head_bytes;
  piece : g.S.Source.piece l.source ≡ g.S.Source.piece l.fn.source;
  calm : g.S.Source.failures l.source ≡ g.S.Source.failures l.fn.source;
}

abbrev pub decreases-loop-bytes : goal.decreases-loop-bytes
decreases-loop-bytes g l = most_head_bytes - array_vec_len l.bytes
