-- How many bytes the parts of a greeting have.
use Rattle.std.proofs.Common.{◌≡◌, ℕ, ◌-◌, List, ◌++◌, length, length-append, Option, Some, None, refl, arith}
use Rattle.std.specs.Prelude.{replicate}
use Rattle.std.specs.Int.{w32, to_be_bytes}
use Rattle.std.proofs.lemmas.List.{length-replicate}
use Rattle.wf_ballot.specs.Ballot.{Ballot, ballot_bytes, round_bytes}
use Rattle.wf_ballot.specs.Sequence.{seq_bytes}
use Rattle.wf_folder.specs.Name.{IsFarmName, name_text}
use Rattle.wf_folder.specs.declared.reach.HighestVote.{HighestVote}
use Rattle.wf_peer.specs.Greeting.{IsProgress, promise_bytes, progress_bytes, vote_bytes}
use Rattle.wf_peer.specs.declared.progress.Progress.{Progress}

pub length_of_farm : (name : List ℕ) → IsFarmName name → length name ≡ 32
length_of_farm name is =
    let text = name_text name in
    let short = is.text.short in
    rw is.whole (omega (arith, short, length-append text (replicate (32 - length text) 0), length-replicate {A = ℕ} (32 - length text) 0))

pub length_of_promise : (promise : Option Ballot) → length (promise_bytes promise) ≡ 5
unfolding ballot_bytes round_bytes
length_of_promise None = refl
length_of_promise (Some ballot) = refl

pub length_of_vote : (vote : Option HighestVote) → length (vote_bytes vote) ≡ 7
unfolding ballot_bytes round_bytes seq_bytes
length_of_vote None = refl
length_of_vote (Some vote) = refl

pub length_of_sequence : (s : ℕ) → length (seq_bytes s) ≡ 2
unfolding seq_bytes
length_of_sequence s = refl

pub length_of_progress : (p : Progress) → IsProgress p → length (progress_bytes p) ≡ 54
unfolding progress_bytes
length_of_progress p is =
    let starts = to_be_bytes w32 p.starts in
    let round = to_be_bytes w32 p.round in
    omega (
      arith,
      is.mark,
      length-append p.mark (starts ++ (p.life ++ (round ++ (promise_bytes p.promise ++ (vote_bytes p.vote ++ seq_bytes p.published))))),
      is.life,
      length-append p.life (round ++ (promise_bytes p.promise ++ (vote_bytes p.vote ++ seq_bytes p.published))),
      length-append (promise_bytes p.promise) (vote_bytes p.vote ++ seq_bytes p.published),
      length-append (vote_bytes p.vote) (seq_bytes p.published),
      length_of_promise p.promise,
      length_of_vote p.vote,
      length_of_sequence p.published,
    )
