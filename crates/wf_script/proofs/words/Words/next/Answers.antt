-- How the word is cut off, and the words of what is left.
use Rattle.std.proofs.Common.{◌∙◌, sym}
use Rattle.wf_script.proofs.WordSplits.{Taken, no_word, next_word}
use Rattle.wf_script.proofs.words.Words.next.Goals as goal

pub returns-then-is_empty-clause-none : goal.returns-then-is_empty-clause-none
returns-then-is_empty-clause-none c =
    let taken : Taken c.self.inside.rest.now c.split_at.result.1.now c.split_at-2.result.0.now c.split_at-2.result.1.now = record { skipped = cc; front = cc; back = cc } in
    sym c.self.view_is ∙ (no_word _ _ _ _ taken cc).0

pub returns-then-is_empty-clause-end : goal.returns-then-is_empty-clause-end
returns-then-is_empty-clause-end c =
    let taken : Taken c.self.inside.rest.now c.split_at.result.1.now c.split_at-2.result.0.now c.split_at-2.result.1.now = record { skipped = cc; front = cc; back = cc } in
    (no_word _ _ _ _ taken cc).1

pub returns-clause-some : goal.returns-clause-some
returns-clause-some c =
    let taken : Taken c.self.inside.rest.now c.split_at.result.1.now c.split_at-2.result.0.now c.split_at-2.result.1.now = record { skipped = cc; front = cc; back = cc } in
    sym c.self.view_is ∙ next_word _ _ _ _ taken cc
