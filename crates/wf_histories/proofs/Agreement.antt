-- The nodes of a farm agree; and the lives of a process.
use Rattle.std.proofs.Common.{◌≡◌, ◌∙◌, ℕ, List, [], ◌∷◌, slice_get, Some, sym, subst}
use Rattle.std.proofs.Math.Logic.{∥∥₁_elim, ∥∥₁_map, ∥∥₁_map₂, ∥∥₁_prop}
use Rattle.wf_actor.specs.Farm.{Step}
use Rattle.wf_actor.specs.Responses.{ProcessesRespondAlike}
use Rattle.wf_actor.specs.declared.actor.Actor.{Actor}
use Rattle.wf_execution.specs.Execution.{Execution, Item}
use Rattle.wf_execution.specs.Theorems.{IsHeld, ListsGrow, OneDefinition, OneHistory}
use Rattle.wf_node.specs.Node.{Node}
use Rattle.wf_tape.specs.declared.tape.Tape.{Ghosts as Tape}
use Rattle.wf_histories.specs.Nodes.{NodeProcess}
use Rattle.wf_histories.specs.Runs.{ComesOf, LivesOf}
use Rattle.wf_histories.specs.Theorems.{AreFarm, GetEqually, IsEver, NeverDiffer, NeverGoBack, NodesAgree, NodesAreOneFarm, ProcessesShowLives, ProcessesShowWhatCame, RespondEqually, ShareHistory}

module _ {T : Type 0} (tapes : Tape T) where
  -- ---- lives

  show_all : (ended : List (Actor T tapes × ℕ)) (now : Actor T tapes) → ∥ LivesOf tapes ended now ∥₁
  show_all [] now = now.lived
  show_all (run ∷ ended) now = ∥∥₁_elim run.0.lived ∥∥₁_prop (λ life. ∥∥₁_map (show_all ended now) (λ later. (life, later)))

  pub show_lives : ProcessesShowLives tapes
  show_lives process = show_all process.ended.items process.actor

  show_come : (ended : List (Actor T tapes × ℕ)) (now : Actor T tapes) → ∥ ComesOf tapes ended now ∥₁
  show_come [] now = now.received
  show_come (run ∷ ended) now = ∥∥₁_map₂ run.0.received (show_come ended now) (λ come later. (come, later))

  pub show_what_came : ProcessesShowWhatCame tapes
  show_what_came process = show_come process.ended.items process.actor

  -- ---- agreement

  module _ (n : ℕ) (before : ℕ → Execution T) (earlier : List Item) (folders : ℕ → List (NodeProcess tapes)) (steps : List Step) (are : AreFarm tapes n before earlier folders steps) where
    pub held : (node : Node T) → IsEver tapes n before folders node → IsHeld n are.executions node
    held node ever = record {
      process = ever.number;
      is_member = ever.is.member;
      moment = ever.moment;
      at = subst (λ (values : List (Node T)). slice_get values ever.moment ≡ Some node) (sym (are.held ever.number ever.is.member)) ever.is.at;
    }

    shared : OneHistory tapes → ShareHistory tapes n before folders
    shared one =
        let has = one n are.executions _ are.farm in
        record { history = has.history; each = λ node ever. has.each node (held node ever) }

    one_definition : OneDefinition tapes → NeverDiffer tapes n before folders
    unfolding NeverDiffer
    one_definition one = λ node other is also. one n are.executions _ are.farm node other (held node is) (held other also)

    grown : ListsGrow tapes → NeverGoBack tapes n before folders
    unfolding NeverGoBack
    grown grow = λ i moment later node next order is also.
        let values = are.held i is.member in
        grow n i (are.executions i) moment later node next (are.farm.each i is.member) order
        (subst (λ (vs : List (Node T)). slice_get vs moment ≡ Some node) (sym values) is.at) (subst (λ (vs : List (Node T)). slice_get vs later ≡ Some next) (sym values) also.at)

    alike : ProcessesRespondAlike tapes → RespondEqually tapes n before folders
    unfolding RespondEqually
    alike respond = λ node other is also. respond n are.executions _ are.farm node other (held node is) (held other also)

    equal : RespondEqually tapes n before folders → GetEqually tapes n before folders
    unfolding RespondEqually GetEqually
    equal respond = λ came query response another one two asks alike.
        let first = one.answer.is_outcome in
        let second = two.answer.is_outcome in
        second.written
        ∙ respond one.process.actor.node two.process.actor.node one.ever two.ever came query one.after.actor.node two.after.actor.node one.answer.outputs two.answer.outputs first.response second.response asks alike
        first.responds (λ is. one.answers (first.status_is ∙ is)) second.responds (λ is. two.answers (second.status_is ∙ is))
        ∙ sym first.written

  pub agree : NodesAreOneFarm tapes → OneHistory tapes → OneDefinition tapes → ListsGrow tapes → ProcessesRespondAlike tapes → NodesAgree tapes
  agree theorem one definition grow respond = λ n before earlier folders steps farm processes.
      let are = theorem n before earlier folders steps farm processes in
      record {
        history = shared n before earlier folders steps are one;
        definition = one_definition n before earlier folders steps are definition;
        grow = grown n before earlier folders steps are grow;
        respond = alike n before earlier folders steps are respond;
        get = equal n before earlier folders steps are (alike n before earlier folders steps are respond);
      }
