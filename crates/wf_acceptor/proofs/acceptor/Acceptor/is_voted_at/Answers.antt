-- The vote that is found is that of the acceptor's model.
use Rattle.std.proofs.Common.{◌≡◌, Some, None, sym, ◌∙◌, ap}
use Rattle.std.specs.Option.{option_copied}
use Rattle.std.specs.FinMap as map
use Rattle.wf_model.specs.VolatileState.{same_ballot}
use Rattle.wf_model.specs.Table.{votes_at}
use Rattle.wf_acceptor.specs.Acceptor.{Acceptor}
use Rattle.wf_acceptor.proofs.acceptor.Acceptor.is_voted_at.Goals as goal

pub returns-in-Some : goal.returns-in-Some
unfolding votes_at same_ballot
returns-in-Some c =
    let shown = ap (λ (a : Acceptor). a.part.votes) c.self.view_is in
    let vote : map.get c.args.self.now.part.votes c.args.slot ≡ Some c.in-Some.field-0.now =
    ap (λ votes. map.get votes c.args.slot) (sym shown) ∙ (sym c.value_at.ensures ∙ ap option_copied c.in-Some.is) in
    rw vote c.eq.ensures

pub returns-in-None : goal.returns-in-None
unfolding votes_at
returns-in-None c =
    let shown = ap (λ (a : Acceptor). a.part.votes) c.self.view_is in
    let vote : map.get c.args.self.now.part.votes c.args.slot ≡ None =
    ap (λ votes. map.get votes c.args.slot) (sym shown) ∙ (sym c.value_at.ensures ∙ ap option_copied c.in-None.is) in
    rw vote
