-- A word is a text exactly where it is UTF-8.
use Rattle.std.proofs.Common.{ap, sym}
use Rattle.std.specs.Prelude.{Ok}
use Rattle.std.proofs.lemmas.Bool.{false_from_ne_true}
use Rattle.std.proofs.lemmas.Str.{IsUtf8-from_is_utf8, is_utf8-from_IsUtf8}
use Rattle.wf_script.specs.Words.{text_of}
use Rattle.wf_script.proofs.words.text.Goals as goal

pub returns-in-Ok : goal.returns-in-Ok
unfolding text_of
returns-in-Ok c =
    let is = is_utf8-from_IsUtf8 _ c.in-Ok.ensures.cases.1 in
    rw is (ap Ok (sym c.in-Ok.ensures.cases.0))

pub returns-in-Err : goal.returns-in-Err
unfolding text_of
returns-in-Err c = λ _.
    let isnt = false_from_ne_true _ (λ e. c.in-Err.ensures.cases.0 (IsUtf8-from_is_utf8 c.args.word.now e)) in
    rw isnt
