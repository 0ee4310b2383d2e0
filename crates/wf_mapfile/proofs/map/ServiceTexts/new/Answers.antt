-- The default is a text: the test computes.
use Rattle.std.proofs.Common.{refl}
use Rattle.std.specs.Str.{is_utf8, chars}
use Rattle.std.specs.Char.{encode_utf8}
use Rattle.wf_def.specs.Text.{is_text}
use Rattle.wf_mapfile.proofs.map.ServiceTexts.new.Goals as goal

pub text_or-requires : goal.text_or-requires
unfolding is_text is_utf8 chars encode_utf8
text_or-requires c = refl
