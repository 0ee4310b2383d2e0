-- Reports: a report is read from its bytes, what is read has those bytes, and how long it may be.
use Rattle.std.proofs.Common.{◌≡◌, ℕ, zero, suc, ◌+◌, ◌*◌, ◌≤◌, ◌<◌, ◌^◌, Bool, true, false, cond, leb, ◌&&◌, List, [], ◌∷◌, ◌++◌, length, take, drop, Option, Some, None, refl, sym, ap, subst, ◌∙◌, append_assoc, length-append, take-append-drop, le-leb, arith}
use Rattle.std.proofs.lemmas.Bool.{leb-true, and_parts, and_from}
use Rattle.std.proofs.lemmas.Option.{option_and_then_some}
use Rattle.std.proofs.lemmas.List.{get_or-append-add, length-take-le, take_at, drop_at}
use Rattle.std.proofs.lemmas.Nat.{from_be_bytes-to_be_bytes_4}
use Rattle.std.specs.Prelude.{option_and_then}
use Rattle.std.specs.Int.{w32, to_be_bytes, from_be_bytes}
use Rattle.wf_ballot.specs.Sequence.{IsSlot, last_sequence, seq_bytes}
use Rattle.wf_ballot.specs.Ballot.{ballot_bytes}
use Rattle.wf_ballot.specs.Front.{AreBytes, front_slot, front_ballot}
use Rattle.wf_ballot.specs.FrontTheorems.{reads_slots, reads_ballots, four_bytes}
use Rattle.wf_ballot.specs.FieldTheorems.{length-seq_bytes, length-ballot_bytes}
use Rattle.wf_model.specs.Message.{Vote}
use Rattle.wf_model.specs.VolatileState.{window}
use Rattle.wf_model.specs.Table.{sequences_from}
use Rattle.wf_frame.specs.Report.{Report, votes_in_report, IsBoundedText, IsVoteOf, AreVotesOf, IsVoteReport, text_bytes, vote_bytes, votes_bytes, report_bytes, most_report, front_text, front_vote, votes_of, report_of}

-- bytes after the front are bytes
pub AreBytes-rest : (front rest : List ℕ) → AreBytes (front ++ rest) → AreBytes rest
AreBytes-rest front rest fits i = subst (λ (n : ℕ). n < 256) (get_or-append-add front rest i 0) (fits (length front + i))

-- ---- texts behind their lengths

chosen : (b : Bool) (x y : List ℕ × List ℕ) → cond b (Some x) None ≡ Some y → (b ≡ true) × (x ≡ y)
chosen true x y e = (refl, cc)
chosen false x y e = absurd cc

text_stands : (most : ℕ) (bytes rest text : List ℕ) → AreBytes bytes → front_text most bytes ≡ Some (text, rest) → bytes ≡ text_bytes text ++ rest
unfolding front_text text_bytes
text_stands most [] rest text fits e = absurd cc
text_stands most (a ∷ []) rest text fits e = absurd cc
text_stands most (a ∷ b ∷ []) rest text fits e = absurd cc
text_stands most (a ∷ b ∷ c ∷ []) rest text fits e = absurd cc
text_stands most (a ∷ b ∷ c ∷ d ∷ bytes) rest text fits e =
    let n : ℕ = from_be_bytes w32 (a ∷ b ∷ c ∷ d ∷ []) in
    let k = chosen (leb 1 n && (leb n most && leb n (length bytes))) (take n bytes, drop n bytes) (text, rest) e in
    let tests = and_parts (leb n most) (leb n (length bytes)) (and_parts (leb 1 n) (leb n most && leb n (length bytes)) k.0).1 in
    let count : length (take n bytes) ≡ n = length-take-le n bytes (leb-true n (length bytes) tests.1) in
    let head : List ℕ = a ∷ b ∷ c ∷ d ∷ [] in
    let size : to_be_bytes w32 (length (take n bytes)) ≡ head = ap (to_be_bytes w32) count ∙ (four_bytes a b c d bytes fits).0 in
    let joined : head ++ bytes ≡ (to_be_bytes w32 (length (take n bytes)) ++ take n bytes) ++ drop n bytes =
    sym (ap (λ (t : List ℕ). head ++ t) (take-append-drop n bytes)) ∙ sym (append_assoc head (take n bytes) (drop n bytes))
    ∙ ap (λ (t : List ℕ). (t ++ take n bytes) ++ drop n bytes) (sym size) in
    subst (λ (x : List ℕ × List ℕ). head ++ bytes ≡ (to_be_bytes w32 (length x.0) ++ x.0) ++ x.1) k.1 joined

text_again : (most : ℕ) (text rest : List ℕ) → IsBoundedText most text → most < 2 ^ 32 → front_text most (text_bytes text ++ rest) ≡ Some (text, rest)
unfolding front_text text_bytes
text_again most text rest is_text short =
    let again : from_be_bytes w32 (to_be_bytes w32 (length text)) ≡ length text = from_be_bytes-to_be_bytes_4 (length text) (omega (arith, is_text.within)) in
    let front : take (length text) (text ++ rest) ≡ text = take_at text rest (length text) refl in
    let behind : drop (length text) (text ++ rest) ≡ rest = drop_at text rest (length text) refl in
    let tests : (leb 1 (length text) && (leb (length text) most && leb (length text) (length (text ++ rest)))) ≡ true =
    and_from (leb 1 (length text)) (leb (length text) most && leb (length text) (length (text ++ rest))) (le-leb 1 (length text) is_text.least)
    (and_from (leb (length text) most) (leb (length text) (length (text ++ rest))) (le-leb (length text) most is_text.within)
    (le-leb (length text) (length (text ++ rest)) (omega (arith, length-append text rest)))) in
    let read : (n : ℕ) → n ≡ length text →
    cond {A = Option (List ℕ × List ℕ)} (leb 1 n && (leb n most && leb n (length (text ++ rest)))) (Some (take n (text ++ rest), drop n (text ++ rest))) None ≡ Some (text, rest)
    = λ n e. rw (e, tests, front, behind) refl in
    read (from_be_bytes w32 (to_be_bytes w32 (length text))) again

-- ---- votes

vote_stands : (most : ℕ) (bytes rest : List ℕ) (vote : Option (Vote (List ℕ))) → AreBytes bytes → front_vote most bytes ≡ Some (vote, rest) → bytes ≡ vote_bytes vote ++ rest
unfolding front_vote vote_bytes
vote_stands most [] rest vote fits e = absurd cc
vote_stands most (zero ∷ bytes) rest vote fits e =
    let same : (None, bytes) ≡ (vote, rest) = cc in subst (λ (x : Option (Vote (List ℕ)) × List ℕ). 0 ∷ bytes ≡ vote_bytes x.0 ++ x.1) same refl
vote_stands most (suc zero ∷ bytes) rest vote fits e =
    option_and_then_some (λ ballot. option_and_then (λ text. Some (Some (record { ballot = ballot.0; definition = text.0 }), text.1)) (front_text most ballot.1))
    (front_ballot bytes) (vote, rest) e (λ x is goes.
    let bytes_fit = AreBytes-rest (1 ∷ []) bytes fits in
    let front = (reads_ballots.stands bytes x.1 x.0 bytes_fit is).0 in
    let rest_fit = AreBytes-rest (ballot_bytes x.0) x.1 (subst (λ (b : List ℕ). AreBytes b) front bytes_fit) in
    option_and_then_some (λ text. Some (Some (record { ballot = x.0; definition = text.0 }), text.1)) (front_text most x.1) (vote, rest) goes (λ y its same.
    let behind = text_stands most x.1 y.1 y.0 rest_fit its in
    let read : Option (Vote (List ℕ)) × List ℕ = (Some (record { ballot = x.0; definition = y.0 }), y.1) in
    let same_read : read ≡ (vote, rest) = cc in
    let spelled : 1 ∷ bytes ≡ vote_bytes read.0 ++ read.1 =
    ap (λ (t : List ℕ). 1 ∷ t) (front ∙ ap (λ (t : List ℕ). ballot_bytes x.0 ++ t) behind ∙ sym (append_assoc (ballot_bytes x.0) (text_bytes y.0) y.1)) in
    subst (λ (v : Option (Vote (List ℕ)) × List ℕ). 1 ∷ bytes ≡ vote_bytes v.0 ++ v.1) same_read spelled))
vote_stands most (suc (suc mark) ∷ bytes) rest vote fits e = absurd cc

vote_again : (most : ℕ) (vote : Option (Vote (List ℕ))) (rest : List ℕ) → IsVoteOf (IsBoundedText most) vote → most < 2 ^ 32 → front_vote most (vote_bytes vote ++ rest) ≡ Some (vote, rest)
unfolding front_vote vote_bytes
vote_again most None rest is short = refl
vote_again most (Some v) rest is short =
    let joined : (ballot_bytes v.ballot ++ text_bytes v.definition) ++ rest ≡ ballot_bytes v.ballot ++ (text_bytes v.definition ++ rest) =
    append_assoc (ballot_bytes v.ballot) (text_bytes v.definition) rest in
    rw (joined, reads_ballots.read v.ballot (text_bytes v.definition ++ rest) is.0, text_again most v.definition rest is.1 short) refl

votes_stand : (most count : ℕ) (bytes : List ℕ) (votes : List (Option (Vote (List ℕ)))) → AreBytes bytes → votes_of most count bytes ≡ Some votes → bytes ≡ votes_bytes votes
unfolding votes_of votes_bytes
votes_stand most zero [] votes fits e = let same : [] ≡ votes = cc in subst (λ (v : List (Option (Vote (List ℕ)))). [] ≡ votes_bytes v) same refl
votes_stand most zero (byte ∷ rest) votes fits e = absurd cc
votes_stand most (suc count) bytes votes fits e =
    option_and_then_some (λ vote. option_and_then (λ others. Some (vote.0 ∷ others)) (votes_of most count vote.1)) (front_vote most bytes) votes e (λ x is goes.
    let front = vote_stands most bytes x.1 x.0 fits is in
    let rest_fit = AreBytes-rest (vote_bytes x.0) x.1 (subst (λ (b : List ℕ). AreBytes b) front fits) in
    option_and_then_some (λ others. Some (x.0 ∷ others)) (votes_of most count x.1) votes goes (λ others its same.
    let behind = votes_stand most count x.1 others rest_fit its in
    let same_read : x.0 ∷ others ≡ votes = cc in
    subst (λ (v : List (Option (Vote (List ℕ)))). bytes ≡ votes_bytes v) same_read (front ∙ ap (λ (t : List ℕ). vote_bytes x.0 ++ t) behind)))

votes_again : (most : ℕ) (votes : List (Option (Vote (List ℕ)))) → AreVotesOf (IsBoundedText most) votes → most < 2 ^ 32 → votes_of most (length votes) (votes_bytes votes) ≡ Some votes
unfolding votes_of votes_bytes
votes_again most [] are short = refl
votes_again most (vote ∷ votes) are short = rw (vote_again most vote (votes_bytes votes) are.0 short, votes_again most votes are.1 short) refl

-- ---- reports

-- what is read has these bytes
pub report_stands : (most : ℕ) (bytes : List ℕ) (report : Report) → AreBytes bytes → report_of most bytes ≡ Some report → bytes ≡ report_bytes report
unfolding report_of report_bytes
report_stands most bytes report fits e =
    option_and_then_some _ (front_slot bytes) report e (λ x is goes.
    let slot = (reads_slots.stands bytes x.1 x.0 fits is).0 in
    let slot_fit = AreBytes-rest (seq_bytes x.0) x.1 (subst (λ (b : List ℕ). AreBytes b) slot fits) in
    option_and_then_some _ (front_ballot x.1) report goes (λ y its goes'.
    let ballot = (reads_ballots.stands x.1 y.1 y.0 slot_fit its).0 in
    let ballot_fit = AreBytes-rest (ballot_bytes y.0) y.1 (subst (λ (b : List ℕ). AreBytes b) ballot slot_fit) in
    option_and_then_some _ (votes_of most (votes_in_report x.0) y.1) report goes' (λ votes has same.
    let behind = votes_stand most (votes_in_report x.0) y.1 votes ballot_fit has in
    let read : Report = record { slot = x.0; ballot = y.0; votes = votes } in
    let same_read : read ≡ report = cc in
    subst (λ (r : Report). bytes ≡ seq_bytes r.slot ++ ballot_bytes r.ballot ++ votes_bytes r.votes) same_read
    (slot ∙ ap (λ (t : List ℕ). seq_bytes x.0 ++ t) (ballot ∙ ap (λ (t : List ℕ). ballot_bytes y.0 ++ t) behind)
    ∙ sym (append_assoc (seq_bytes x.0) (ballot_bytes y.0) (votes_bytes votes))))))

-- a report is read from its bytes
pub report_again : (most : ℕ) (report : Report) → IsVoteReport most report → report_of most (report_bytes report) ≡ Some report
unfolding report_of report_bytes
report_again most report is =
    let joined : (seq_bytes report.slot ++ ballot_bytes report.ballot) ++ votes_bytes report.votes ≡ seq_bytes report.slot ++ (ballot_bytes report.ballot ++ votes_bytes report.votes) =
    append_assoc (seq_bytes report.slot) (ballot_bytes report.ballot) (votes_bytes report.votes) in
    let votes : votes_of most (votes_in_report report.slot) (votes_bytes report.votes) ≡ Some report.votes =
    subst (λ (n : ℕ). votes_of most n (votes_bytes report.votes) ≡ Some report.votes) is.count (votes_again most report.votes is.votes is.four_bytes) in
    rw (
      joined,
      reads_slots.read report.slot (ballot_bytes report.ballot ++ votes_bytes report.votes) is.slot,
      reads_ballots.read report.ballot (votes_bytes report.votes) is.ballot,
      votes,
    ) refl

-- ---- lengths

at_most : (s count : ℕ) → sequences_from s count ≤ count
unfolding sequences_from
at_most s zero = omega arith
at_most s (suc count) = by_test (leb s last_sequence) (at_most (suc s) count)
  where
    by_test : (b : Bool) → sequences_from (suc s) count ≤ count → cond b (suc (sequences_from (suc s) count)) 0 ≤ suc count
    by_test true h = omega arith
    by_test false h = omega arith

-- there is one at least
at_least : (slot : ℕ) → IsSlot slot → 1 ≤ votes_in_report slot
unfolding sequences_from
at_least slot is = rw (le-leb slot last_sequence (omega (arith, is.to_last))) (omega arith)

vote_length : (most : ℕ) (vote : Option (Vote (List ℕ))) → IsVoteOf (IsBoundedText most) vote → (1 ≤ length (vote_bytes vote)) × (length (vote_bytes vote) ≤ 10 + most)
unfolding vote_bytes text_bytes
vote_length most None is = (omega arith, omega arith)
vote_length most (Some v) is =
    let text : List ℕ = to_be_bytes w32 (length v.definition) ++ v.definition in
    let within : length v.definition ≤ most = is.1.within in
    let count : length (1 ∷ ballot_bytes v.ballot ++ text) ≡ 10 + length v.definition =
    omega (arith, length-append (ballot_bytes v.ballot) text, length-ballot_bytes v.ballot) in
    (omega arith, omega arith)

votes_length : (most : ℕ) (votes : List (Option (Vote (List ℕ)))) → AreVotesOf (IsBoundedText most) votes → (length votes ≤ length (votes_bytes votes)) × (length (votes_bytes votes) ≤ length votes * (10 + most))
unfolding votes_bytes
votes_length most [] are = (omega arith, omega arith)
votes_length most (vote ∷ votes) are =
    let (least, within) = vote_length most vote are.0 in
    let (others_least, others_within) = votes_length most votes are.1 in
    let sum : length (vote_bytes vote ++ votes_bytes votes) ≡ length (vote_bytes vote) + length (votes_bytes votes) = length-append (vote_bytes vote) (votes_bytes votes) in
    (omega arith, omega arith)

-- its length is that of its parts
pub length-report : (report : Report) → length (report_bytes report) ≡ 7 + length (votes_bytes report.votes)
unfolding report_bytes
length-report report =
    omega (
      arith,
      length-append (seq_bytes report.slot ++ ballot_bytes report.ballot) (votes_bytes report.votes),
      length-append (seq_bytes report.slot) (ballot_bytes report.ballot),
      length-seq_bytes report.slot,
      length-ballot_bytes report.ballot,
    )

times : (m n k : ℕ) → m ≤ n → m * k ≤ n * k
times zero n k h = omega arith
times (suc m) zero k h = absurd (omega arith)
times (suc m) (suc n) k h = let rest : m * k ≤ n * k = times m n k (omega arith) in omega arith

pub report_length : (most : ℕ) (report : Report) → IsVoteReport most report → (8 ≤ length (report_bytes report)) × (length (report_bytes report) ≤ most_report most)
report_length most report is =
    let whole : length (report_bytes report) ≡ 7 + length (votes_bytes report.votes) = length-report report in
    let (least, within) = votes_length most report.votes is.votes in
    let some : 1 ≤ votes_in_report report.slot = at_least report.slot is.slot in
    let few : votes_in_report report.slot ≤ window = at_most report.slot window in
    let count : length report.votes ≡ votes_in_report report.slot = is.count in
    let room : length report.votes * (10 + most) ≤ window * (10 + most) = times (length report.votes) window (10 + most) (omega arith) in
    (omega arith, omega arith)
