-- The texts of the empty map are valid: the test computes.
use Rattle.std.proofs.Common.{refl}
use Rattle.std.specs.Char.{encode_utf8}
use Rattle.std.specs.Str.{is_utf8, chars}
use Rattle.wf_text.specs.Text.{is_text}
use Rattle.wf_def.proofs.map.MapDef.empty.Goals as goal

pub from_str-requires : goal.from_str-requires
unfolding is_text is_utf8 chars encode_utf8
from_str-requires c = refl

pub from_str-requires-3 : goal.from_str-requires-3
unfolding is_text is_utf8 chars encode_utf8
from_str-requires-3 c = refl

pub from_str-requires-4 : goal.from_str-requires-4
unfolding is_text is_utf8 chars encode_utf8
from_str-requires-4 c = refl
