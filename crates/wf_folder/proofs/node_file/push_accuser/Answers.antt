-- The parts of the line are appended, one after the other.
use Rattle.std.proofs.Common.{◌≡◌, ◌∙◌, ◌++◌, [], ℕ, ap, codes, rules}
use Rattle.std.proofs.lemmas.Result.{on_ok_weaker}
use Rattle.wf_folder.specs.Words.{number_then}
use Rattle.wf_folder.proofs.Ends.{suspension_parts}
use Rattle.wf_folder.proofs.node_file.push_accuser.Goals as goal

pub returns : goal.returns
returns c =
    let accuser : c.from.result ≡ c.args.suspension.now.accuser = search rules in
    let port : c.from-2.result ≡ c.args.suspension.now.address.port = search rules in
    let cause : c.from-3.result ≡ c.args.suspension.now.cause = search rules in
    on_ok_weaker c.push_word-3.result
    (λ e. suspension_parts c.args.text.now.items c.push_word.new.text.items c.push_mark_after.new.text.items c.push_word-2.new.text.items c.push_word-3.new.text.items c.args.suspension.now
    (c.in_ok-push_word.ensures.items ∙ ap (λ (n : ℕ). c.args.text.now.items ++ number_then (codes "\nsuspended by ") n []) accuser)
    c.in_ok-push_mark_after.ensures.items
    (c.in_ok-push_word-2.ensures.items ∙ ap (λ (n : ℕ). c.push_mark_after.new.text.items ++ number_then (codes " port ") n []) port)
    (e ∙ ap (λ (n : ℕ). c.push_word-2.new.text.items ++ number_then (codes " cause ") n []) cause))
    c.push_word-3.ensures.items
