-- A progress and a greeting are their parts.
use Rattle.std.proofs.Common.{◌≡◌, ◌∙◌, ℕ, List, ap}
use Rattle.std.specs.Prelude.{Option}
use Rattle.wf_ballot.specs.Ballot.{Ballot}
use Rattle.wf_folder.specs.declared.reach.HighestVote.{HighestVote}
use Rattle.wf_peer.specs.declared.greeting.Greeting.{Greeting}
use Rattle.wf_peer.specs.declared.progress.Progress.{Progress}
use Rattle.wf_peer.specs.declared.state.NodeState.{NodeState}
use Rattle.wf_rejoin.specs.declared.replacement.Replacement.{Replacement}

pub same_progress : (a b : Progress) → a.mark ≡ b.mark → a.starts ≡ b.starts → a.life ≡ b.life → a.round ≡ b.round → a.promise ≡ b.promise → a.vote ≡ b.vote → a.published ≡ b.published → a ≡ b
same_progress a b mark starts life round promise vote published =
    let made : List ℕ → ℕ → List ℕ → ℕ → Option Ballot → Option HighestVote → ℕ → Progress = λ m s l r p v q. record { mark = m; starts = s; life = l; round = r; promise = p; vote = v; published = q } in
    ap (λ (m : List ℕ). made m a.starts a.life a.round a.promise a.vote a.published) mark
    ∙ ap (λ (s : ℕ). made b.mark s a.life a.round a.promise a.vote a.published) starts
    ∙ ap (λ (l : List ℕ). made b.mark b.starts l a.round a.promise a.vote a.published) life
    ∙ ap (λ (r : ℕ). made b.mark b.starts b.life r a.promise a.vote a.published) round
    ∙ ap (λ (p : Option Ballot). made b.mark b.starts b.life b.round p a.vote a.published) promise
    ∙ ap (λ (v : Option HighestVote). made b.mark b.starts b.life b.round b.promise v a.published) vote
    ∙ ap (λ (q : ℕ). made b.mark b.starts b.life b.round b.promise b.vote q) published

pub same_greeting : (a b : Greeting) → a.farm ≡ b.farm → a.nodes ≡ b.nodes → a.node ≡ b.node → a.progress ≡ b.progress → a.digest ≡ b.digest → a.state ≡ b.state → a.replacements ≡ b.replacements → a.voted ≡ b.voted → a ≡ b
same_greeting a b farm nodes node progress digest state replacements voted =
    let made : List ℕ → ℕ → ℕ → Progress → List ℕ → NodeState → List (Option Replacement) → ℕ → Greeting = λ f n i p d s k v. record { farm = f; nodes = n; node = i; progress = p; digest = d; state = s; replacements = k; voted = v } in
    ap (λ (f : List ℕ). made f a.nodes a.node a.progress a.digest a.state a.replacements a.voted) farm
    ∙ ap (λ (n : ℕ). made b.farm n a.node a.progress a.digest a.state a.replacements a.voted) nodes
    ∙ ap (λ (i : ℕ). made b.farm b.nodes i a.progress a.digest a.state a.replacements a.voted) node
    ∙ ap (λ (p : Progress). made b.farm b.nodes b.node p a.digest a.state a.replacements a.voted) progress
    ∙ ap (λ (d : List ℕ). made b.farm b.nodes b.node b.progress d a.state a.replacements a.voted) digest
    ∙ ap (λ (s : NodeState). made b.farm b.nodes b.node b.progress b.digest s a.replacements a.voted) state
    ∙ ap (λ (k : List (Option Replacement)). made b.farm b.nodes b.node b.progress b.digest b.state k a.voted) replacements
    ∙ ap (λ (v : ℕ). made b.farm b.nodes b.node b.progress b.digest b.state b.replacements v) voted
