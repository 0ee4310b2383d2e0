-- A replica goes on from step to step.
use Rattle.std.proofs.Common.{◌≡◌, ◌∙◌, List, [], ◌++◌, refl, sym, ap, append_assoc, append-nil}
use Rattle.wf_def.specs.Definition.{Definition}
use Rattle.wf_model.specs.Message.{Message}
use Rattle.wf_replica.specs.Follower.{Grows, HasLearnedNothing, answers_of, list_of, read_by, received_by}
use Rattle.wf_replica.specs.Growth.{grown_none, grown_same, grown_twice}
use Rattle.wf_replica.specs.declared.follower.Follower.{Follower}
use Rattle.wf_replica_command.specs.Continuation.{IsLaterReplica}
use Rattle.wf_tape.specs.declared.tape.Tape.{Ghosts as Tape}

module _ {T : Type 0} {tapes : Tape T} where
  pub stays : (a : Follower T tapes) → IsLaterReplica a a
  stays a = record { grows = grown_none a; received = ([], sym (append-nil (received_by a))); read = refl }

  pub stays_same : (a b : Follower T tapes) → HasLearnedNothing a b → IsLaterReplica a b
  stays_same a b same = record { grows = grown_same a b same.list; received = ([], same.received ∙ sym (append-nil (received_by a))); read = same.read }

  pub goes_on_twice : (a b c : Follower T tapes) → IsLaterReplica a b → IsLaterReplica b c → IsLaterReplica a c
  goes_on_twice a b c first second = record {
    grows = grown_twice a b c first.grows second.grows;
    received = (
      first.received.0 ++ second.received.0,
      second.received.1 ∙ ap (λ (h : List (Message Definition)). h ++ second.received.0) first.received.1 ∙ append_assoc (received_by a) first.received.0 second.received.0,
    );
    read = second.read ∙ first.read;
  }

  pub goes_on_by : (a b : Follower T tapes) → Grows a b → (more : List (Message Definition)) × (received_by b ≡ received_by a ++ more) → read_by b ≡ read_by a → IsLaterReplica a b
  goes_on_by a b grows received read = record { grows = grows; received = received; read = read }

  -- ---- nothing was learned

  pub same_itself : (a : Follower T tapes) → HasLearnedNothing a a
  same_itself a = record { list = refl; received = refl; answers = refl; read = refl }

  pub same_by : (a b : Follower T tapes) → list_of b ≡ list_of a → received_by b ≡ received_by a → answers_of b ≡ answers_of a → read_by b ≡ read_by a → HasLearnedNothing a b
  same_by a b list received answers read = record { list = list; received = received; answers = answers; read = read }

  pub same_twice : (a b c : Follower T tapes) → HasLearnedNothing a b → HasLearnedNothing b c → HasLearnedNothing a c
  same_twice a b c first second =
      record { list = second.list ∙ first.list; received = second.received ∙ first.received; answers = second.answers ∙ first.answers; read = second.read ∙ first.read }
