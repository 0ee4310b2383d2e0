-- The record's vote becomes that of its slot, and the promise is raised to its ballot.
use Rattle.std.proofs.Common.{◌≡◌, ℕ, Option, Some, None, refl, sym, ◌∙◌, ap, rules}
use Rattle.std.proofs.lemmas.Option.{same_Some}
use Rattle.std.specs.Ordering.{nat_cmp}
use Rattle.std.specs.FinMap.{FinMap, insert}
use Rattle.wf_ballot.specs.Ballot.{Ballot}
use Rattle.wf_model.specs.DurableState.{raised}
use Rattle.wf_def.specs.Definition.{Definition}
use Rattle.wf_journal.specs.declared.record.Record.{Record}
use Rattle.wf_journal.specs.declared.record.Record.TheVariants.{Accepted}
use Rattle.wf_acceptor.specs.Acceptor.{Acceptor, Part}
use Rattle.wf_acceptor.specs.Prepared.{definition_of, with_open}
use Rattle.wf_acceptor.proofs.acceptor.Acceptor.take_in_prepared.Goals as goal
use Rattle.wf_acceptor.proofs.acceptor.Acceptor.take_in_prepared.Goals.{in-Some-Accepted+in-Some, in-Some-Accepted+in_default-take_definition, in-Some+in-Tried-1, in-None-1}

-- The vote of a vote's record is inserted, and the promise is raised.
voted : (old : Part) (s : ℕ) (b : Ballot) (d : Definition) (r : Record) (c : Definition) (promise : Option Ballot)
    (votes : FinMap nat_cmp (Ballot × Definition)) → r ≡ Accepted s b d → Some c ≡ definition_of (Some r) → promise ≡ raised old.promise b →
    votes ≡ insert old.votes s (b, c) →
    record old { promise = promise; votes = votes } ≡ with_open old r
voted old s b d r c promise votes is_vote is_definition is_promise is_votes =
    let same : c ≡ d = same_Some c d (is_definition ∙ ap (λ r. definition_of (Some r)) is_vote) in
    rw (is_vote, is_promise, is_votes, same) refl

pub returns : goal.returns
returns c =
    elim c.match-self.branch [
      | in-Some-Accepted+in-Some w ↦
          let prepared = sym (ap (λ (a : Acceptor). a.prepared) c.self.view_is) ∙ w.in-Some-Accepted.is in
          let definition : Some w.in-Some.canon ≡ definition_of (Some w.in-Some-Accepted.field-0) = sym w.in-Some.is ∙ (w.take_definition.ensures.value ∙ ap definition_of w.in-Some-Accepted.is) in
          let vote_is : w.in-Some-Accepted.field-0 ≡ Accepted w.in-Some-Accepted.slot w.in-Some-Accepted.ballot w.in-Some-Accepted.field-0-2 = search rules in
          let add_promise = ap (λ (a : Acceptor). raised a.part.promise w.in-Some-Accepted.ballot) c.self.view_is in
          let add_vote = ap (λ (a : Acceptor). insert a.part.votes w.in-Some-Accepted.slot (w.in-Some-Accepted.ballot, w.in-Some.canon)) c.self.view_is in
          let vote =
          voted c.args.self.now.part w.in-Some-Accepted.slot w.in-Some-Accepted.ballot w.in-Some-Accepted.field-0-2 w.in-Some-Accepted.field-0 w.in-Some.canon
          w.higher_ballot-self-inside.result w.put.new.self.by_slot vote_is definition (w.higher_ballot-self-inside.ensures ∙ add_promise) (w.put.ensures ∙ add_vote) in
          rw (prepared, w.self-inside-is)
          (ap (λ (a : Acceptor). record {
            part = record a.part { promise = w.higher_ballot-self-inside.result; votes = w.put.new.self.by_slot };
            prepared = None;
          }) c.self.view_is ∙ ap (λ (part : Part). record { part = part; prepared = None }) vote)
      | in-Some-Accepted+in_default-take_definition w ↦ search rules
      | in-Some+in-Tried-1 w ↦ search rules
      | in-None-1 w ↦ search rules
    ]
