-- Messages have a format: no body is longer than the longest.
use Rattle.std.proofs.Common.{arith}
use Rattle.wf_frame.specs.RowTheorems.{AreWithin, kinds_within}
use Rattle.wf_frame.specs.Frame.{IsFormat}
use Rattle.wf_codec.specs.KindTable.{kinds, most_body_bytes}
use Rattle.wf_codec.specs.Encoding.{format}

-- no kind has a longer body
are_within : AreWithin most_body_bytes kinds
are_within = (omega arith, (omega arith, (omega arith, (omega arith, (omega arith, (omega arith, (omega arith, tt)))))))

pub is_format : IsFormat format
is_format = record {
  within = λ version byte layout n known has. kinds_within most_body_bytes kinds byte layout n are_within known has;
  has_four_bytes = omega arith;
}
