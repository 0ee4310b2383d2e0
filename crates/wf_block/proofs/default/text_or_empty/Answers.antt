-- The default is a text: the test computes.
use Rattle.std.proofs.Common.{refl}
use Rattle.std.specs.Str.{is_utf8, chars}
use Rattle.wf_text.specs.Text.{is_text}
use Rattle.wf_block.proofs.default.text_or_empty.Goals as goal

pub text_or-requires : goal.text_or-requires
unfolding is_text is_utf8 chars
text_or-requires c = refl
