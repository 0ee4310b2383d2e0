-- A vote's copy is equal to it.
use Rattle.std.proofs.Common.{◌≡◌, Some, refl, sym, ◌∙◌, ap}
use Rattle.std.specs.Option.{option_copied}
use Rattle.std.specs.FinMap as map
use Rattle.wf_acceptor.proofs.report.copy_of_vote.Goals as goal

pub returns-in_ok-copy-in-Some : goal.returns-in_ok-copy-in-Some
returns-in_ok-copy-in-Some c =
    let vote : map.get c.args.votes.now.by_slot c.args.slot ≡ Some c.in-Some.field-0.now = sym c.value_at.ensures ∙ ap option_copied c.in-Some.is in
    rw (vote, c.in_ok-copy-in-Some.ensures) refl
