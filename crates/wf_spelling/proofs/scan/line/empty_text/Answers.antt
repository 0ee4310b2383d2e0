-- The empty text is a text: the test computes.
use Rattle.std.proofs.Common.{refl}
use Rattle.std.specs.Str.{is_utf8, chars}
use Rattle.wf_text.specs.Text.{is_text}
use Rattle.wf_spelling.proofs.scan.line.empty_text.Goals as goal

pub from_str-requires : goal.from_str-requires
unfolding is_text is_utf8 chars
from_str-requires c = refl
