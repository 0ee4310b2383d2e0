-- The empty text is a text: the test computes.
use Rattle.std.proofs.Common.{refl}
use Rattle.std.specs.Str.{is_utf8, chars}
use Rattle.wf_text.specs.Text.{is_text}
use Rattle.wf_text.proofs.text.check_text.Goals as goal

pub returns-then-is_empty-clause-within : goal.returns-then-is_empty-clause-within
unfolding is_text is_utf8 chars
returns-then-is_empty-clause-within c = refl
