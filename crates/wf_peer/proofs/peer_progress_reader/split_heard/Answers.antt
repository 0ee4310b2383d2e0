-- The parts of a line are determined, one after the other.
use Rattle.std.proofs.Common.{◌∙◌, sym, codes, rules}
use Rattle.wf_folder.proofs.WordLemmas.{after_mark, after_number, both_reaches, if_none}
use Rattle.wf_peer.specs.PeerProgressText.{line_then}
use Rattle.wf_peer.specs.Progress.{reach_of}
use Rattle.wf_peer.proofs.Lines.{is_line}
use Rattle.wf_peer.proofs.Same.{is_reach}
use Rattle.wf_peer.proofs.peer_progress_reader.split_heard.Goals as goal

pub returns-in_err-mark-clause-none : goal.returns-in_err-mark-clause-none
unfolding line_then
returns-in_err-mark-clause-none c = if_none c.from_residual.result (λ h rest is e. c.in_err-mark.ensures.none h.progress.mark _ is.1 is.0.mark e)

pub returns-in_err-starts-clause-none : goal.returns-in_err-starts-clause-none
unfolding line_then
returns-in_err-starts-clause-none c = if_none c.from_residual-in_err-starts.result (λ h rest is e.
    let starts = after_mark (codes "mark ") c.in_ok-mark.mark h.progress.mark c.in_ok-mark.rest.now _ c.in_ok-mark.ensures.mark.1 is.0.mark (sym c.in_ok-mark.ensures.some ∙ e) in
    c.in_err-starts.ensures.none h.progress.starts _ is.0.starts starts)

pub returns-in_err-life-clause-none : goal.returns-in_err-life-clause-none
unfolding line_then
returns-in_err-life-clause-none c = if_none c.from_residual-in_err-life.result (λ h rest is e.
    let starts = after_mark (codes "mark ") c.in_ok-mark.mark h.progress.mark c.in_ok-mark.rest.now _ c.in_ok-mark.ensures.mark.1 is.0.mark (sym c.in_ok-mark.ensures.some ∙ e) in
    let life = after_number (codes " starts ") c.in_ok-starts.starts h.progress.starts c.in_ok-starts.rest.now _ (sym c.in_ok-starts.ensures.some ∙ starts) in
    c.in_err-life.ensures.none h.progress.life _ is.2 is.0.life life)

pub returns-in_default-clause-none : goal.returns-in_default-clause-none
unfolding line_then
returns-in_default-clause-none c = λ h rest is e.
    let starts = after_mark (codes "mark ") c.in_ok-mark.mark h.progress.mark c.in_ok-mark.rest.now _ c.in_ok-mark.ensures.mark.1 is.0.mark (sym c.in_ok-mark.ensures.some ∙ e) in
    let life = after_number (codes " starts ") c.in_ok-starts.starts h.progress.starts c.in_ok-starts.rest.now _ (sym c.in_ok-starts.ensures.some ∙ starts) in
    let reach = after_mark (codes " life ") c.in_ok-life.life h.progress.life c.in_ok-life.rest.now _ c.in_ok-life.ensures.mark.1 is.0.life (sym c.in_ok-life.ensures.some ∙ life) in
    c.in_default.ensures.none (reach_of h.progress) _ (is_reach h.progress is.0) reach

pub returns-in_default-split_accusation-clause-none : goal.returns-in_default-split_accusation-clause-none
unfolding line_then
returns-in_default-split_accusation-clause-none c = λ h rest is e.
    let starts = after_mark (codes "mark ") c.in_ok-mark.mark h.progress.mark c.in_ok-mark.rest.now _ c.in_ok-mark.ensures.mark.1 is.0.mark (sym c.in_ok-mark.ensures.some ∙ e) in
    let life = after_number (codes " starts ") c.in_ok-starts.starts h.progress.starts c.in_ok-starts.rest.now _ (sym c.in_ok-starts.ensures.some ∙ starts) in
    let reach = after_mark (codes " life ") c.in_ok-life.life h.progress.life c.in_ok-life.rest.now _ c.in_ok-life.ensures.mark.1 is.0.life (sym c.in_ok-life.ensures.some ∙ life) in
    let accusation = both_reaches c.in-Some.reach (reach_of h.progress) c.in-Some.rest.now _ c.in-Some.ensures.known (is_reach h.progress is.0) (sym c.in-Some.ensures.some ∙ reach) in
    c.in_default-split_accusation.ensures.none h.accusation rest accusation.1

pub returns-clause-some : goal.returns-clause-some
returns-clause-some c =
    let same = is_line c.args.bytes.now c.in_ok-mark.rest.now c.in_ok-starts.rest.now c.in_ok-life.rest.now c.in-Some.rest.now c.in-Some-split_accusation.rest.now _ c.in_ok-mark.mark c.in_ok-life.life c.in_ok-starts.starts c.in-Some.reach
    c.in_ok-mark.ensures.some c.in_ok-starts.ensures.some c.in_ok-life.ensures.some c.in-Some.ensures.some c.in-Some-split_accusation.ensures.some c.new-progress.ensures.mark c.new-progress.ensures.starts c.new-progress.ensures.life c.new-progress.ensures.reach
    in search (rules, same)
