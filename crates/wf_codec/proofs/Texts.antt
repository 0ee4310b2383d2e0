-- Messages with definitions, and the same messages with canonical texts.
use Rattle.std.proofs.Common.{◌≡◌, ℕ, ◌≤◌, List, [], ◌∷◌, length, Option, Some, None, refl, ap, ◌∙◌, inl, inr, arith}
use Rattle.std.proofs.lemmas.List.{length-map}
use Rattle.wf_def.specs.Definition.{Definition}
use Rattle.wf_canon.specs.Canon.{canon, line, most_canon_bytes}
use Rattle.wf_canon.specs.TextMeaning.{OneTextOneMap}
use Rattle.wf_ballot.specs.Ballot.{Ballot}
use Rattle.wf_frame.specs.Field.{FieldValue}
use Rattle.wf_frame.specs.Report.{IsBoundedText, IsVoteOf, AreVotesOf, vote_with, votes_with, votes_definitions}
use Rattle.wf_frame.specs.Row.{RowEnd, NoEnd, TextEnd, VotesEnd, end_with, end_definitions, IsEndOf, AreInRange, IsRowOf, Row, row_bytes, row_layout, layout_of, read_row}
use Rattle.wf_frame.specs.RowTheorems.{row_fits, row_read}
use Rattle.wf_frame.specs.Frame.{HasBody}
use Rattle.wf_model.specs.Message.{Message, Prepare, Promise, Accept, Accepted, Nack, Chosen, Ask, Vote}
use Rattle.wf_codec.specs.KindTable.{kinds}
use Rattle.wf_codec.specs.Message.{row, texts, HasOne, HasOneOf, HasDefinition, HasText, IsMessage}
use Rattle.wf_codec.specs.Encoding.{message_version, format}
use Rattle.wf_codec.specs.Fault.{IsNoText}

-- a canonical text begins with MAP
not_empty : (d : Definition) → 1 ≤ length (canon d)
unfolding canon line
not_empty d = omega arith

canon_is_text : (d : Definition) → HasText d → IsBoundedText most_canon_bytes (canon d)
canon_is_text d has = record { least = not_empty d; within = has.short }

vote_is_text : (v : Option (Vote Definition)) → IsVoteOf HasText v → IsVoteOf (IsBoundedText most_canon_bytes) (vote_with canon v)
vote_is_text None p = p
vote_is_text (Some v) p = (p.0, canon_is_text v.definition p.1)

votes_are_texts : (votes : List (Option (Vote Definition))) → AreVotesOf HasText votes → AreVotesOf (IsBoundedText most_canon_bytes) (votes_with canon votes)
votes_are_texts [] p = tt
votes_are_texts (vote ∷ votes) p = (vote_is_text vote p.0, votes_are_texts votes p.1)

end_is_text : (end : RowEnd Definition) → IsEndOf HasText end → IsEndOf (IsBoundedText most_canon_bytes) (end_with canon end)
end_is_text NoEnd p = tt
end_is_text (TextEnd d) p = canon_is_text d p
end_is_text (VotesEnd s b votes) p = (p.0, p.1, length-map votes (vote_with canon) ∙ p.2, votes_are_texts votes p.3)

fields_fit : (values : List FieldValue) (end : RowEnd Definition) → AreInRange HasText values end → AreInRange (IsBoundedText most_canon_bytes) values (end_with canon end)
fields_fit [] end p = end_is_text end p
fields_fit (v ∷ values) end p = (p.0, fields_fit values end p.1)

-- a message's texts are texts
texts_fit : (m : Message Definition) → IsMessage m → IsRowOf (IsBoundedText most_canon_bytes) (texts m)
texts_fit m is = fields_fit (row m).fields (row m).ending is

-- a message's fields are those of its kind
has_kind : (m : Message Definition) → layout_of kinds (texts m).byte ≡ Some (row_layout most_canon_bytes (texts m))
unfolding layout_of
has_kind (Prepare s b) = refl
has_kind (Promise i s b votes) = refl
has_kind (Accept s b d) = refl
has_kind (Accepted i s b) = refl
has_kind (Nack i s b q) = refl
has_kind (Chosen s d) = refl
has_kind (Ask s) = refl

-- a message's row is read from its body
pub row_of_message : (m : Message Definition) → IsMessage m → read_row kinds (texts m).byte (row_bytes (texts m)) ≡ Some (texts m)
row_of_message m is = row_read kinds most_canon_bytes (texts m) (omega arith) (has_kind m) (texts_fit m is)

pub body_of_message : (m : Message Definition) → IsMessage m → HasBody format message_version (texts m).byte (row_bytes (texts m))
body_of_message m is = record {
  is_read = refl;
  layout = row_layout most_canon_bytes (texts m);
  has_kind = has_kind m;
  has_length = row_fits most_canon_bytes (texts m) (omega arith) (texts_fit m is);
}

same_vote : (v w : Vote Definition) → v.ballot ≡ w.ballot → v.definition ≡ w.definition → v ≡ w
same_vote v w same_ballot same_definition =
    let with_ballot : Ballot → Vote Definition = λ b. record { ballot = b; definition = v.definition } in
    let with_definition : Definition → Vote Definition = λ d. record { ballot = w.ballot; definition = d } in
    ap with_ballot same_ballot ∙ ap with_definition same_definition

-- a vote with its definition's canonical text
abbrev with_text : Vote Definition → Vote (List ℕ)
with_text v = record { ballot = v.ballot; definition = canon v.definition }

vote_apart : OneTextOneMap → (v w : Option (Vote Definition)) → IsVoteOf HasText v → IsVoteOf HasText w → vote_with canon v ≡ vote_with canon w → v ≡ w
vote_apart one_map None None p q e = refl
vote_apart one_map None (Some w) p q e = absurd cc
vote_apart one_map (Some v) None p q e = absurd cc
vote_apart one_map (Some v) (Some w) p q e =
    let same : with_text v ≡ with_text w = cc in
    ap Some (same_vote v w (ap (λ vote. vote.ballot) same) (one_map v.definition w.definition p.1.within q.1.within (ap (λ vote. vote.definition) same)))

votes_apart : OneTextOneMap → (v w : List (Option (Vote Definition))) → AreVotesOf HasText v → AreVotesOf HasText w → votes_with canon v ≡ votes_with canon w → v ≡ w
votes_apart one_map [] [] p q e = refl
votes_apart one_map [] (y ∷ w) p q e = absurd cc
votes_apart one_map (x ∷ v) [] p q e = absurd cc
votes_apart one_map (x ∷ v) (y ∷ w) p q e =
    let first : x ≡ y = vote_apart one_map x y p.0 q.0 cc in
    let rest : v ≡ w = votes_apart one_map v w p.1 q.1 cc in
    cc

rows_apart : OneTextOneMap → (m n : Message Definition) → IsMessage m → IsMessage n → (texts m).byte ≡ (texts n).byte → (texts m).fields ≡ (texts n).fields → (texts m).ending ≡ (texts n).ending → m ≡ n
rows_apart one_map (Prepare s b) (Prepare t c) p q kind fields end = cc
rows_apart one_map (Prepare s b) n p q kind fields end = absurd (omega (arith, kind))
rows_apart one_map (Promise i s b v) (Promise j t c w) p q kind fields end = let votes : v ≡ w = votes_apart one_map v w p.1.3 q.1.3 cc in cc
rows_apart one_map (Promise i s b v) n p q kind fields end = absurd (omega (arith, kind))
rows_apart one_map (Accept s b d) (Accept t c f) p q kind fields end = let same : d ≡ f = one_map d f p.1.1.within q.1.1.within cc in cc
rows_apart one_map (Accept s b d) n p q kind fields end = absurd (omega (arith, kind))
rows_apart one_map (Accepted i s b) (Accepted j t c) p q kind fields end = cc
rows_apart one_map (Accepted i s b) n p q kind fields end = absurd (omega (arith, kind))
rows_apart one_map (Nack i s b x) (Nack j t c y) p q kind fields end = cc
rows_apart one_map (Nack i s b x) n p q kind fields end = absurd (omega (arith, kind))
rows_apart one_map (Chosen s d) (Chosen t f) p q kind fields end = let same : d ≡ f = one_map d f p.1.within q.1.within cc in cc
rows_apart one_map (Chosen s d) n p q kind fields end = absurd (omega (arith, kind))
rows_apart one_map (Ask s) (Ask t) p q kind fields end = cc
rows_apart one_map (Ask s) n p q kind fields end = absurd (omega (arith, kind))

-- messages with equal texts are equal, since maps with equal texts are
pub texts_apart : OneTextOneMap → (m n : Message Definition) → IsMessage m → IsMessage n → texts m ≡ texts n → m ≡ n
texts_apart one_map m n p q e = rows_apart one_map m n p q (ap (λ (r : Row (List ℕ)). r.byte) e) (ap (λ (r : Row (List ℕ)). r.fields) e) (ap (λ (r : Row (List ℕ)). r.ending) e)

-- a message with a text has a definition
votes_have : (votes : List (Option (Vote Definition))) → HasOne (votes_definitions (votes_with canon votes)) → HasOne (votes_definitions votes)
votes_have [] has = has
votes_have (None ∷ votes) has = votes_have votes has
votes_have (Some v ∷ votes) has = tt

end_has : (end : RowEnd Definition) → HasOne (end_definitions (end_with canon end)) → HasOne (end_definitions end)
end_has NoEnd has = has
end_has (TextEnd d) has = tt
end_has (VotesEnd s b votes) has = votes_have votes has

pub text_is_definition : (m : Message Definition) → HasOne (end_definitions (texts m).ending) → HasDefinition m
text_is_definition m has = end_has (row m).ending has

-- a message's texts are canonical
no_bad_vote : (votes : List (Option (Vote Definition))) → AreVotesOf HasText votes → HasOneOf IsNoText (votes_definitions (votes_with canon votes)) → ⊥
no_bad_vote [] p bad = bad
no_bad_vote (None ∷ votes) p bad = no_bad_vote votes p.1 bad
no_bad_vote (Some v ∷ votes) p (inl bad) = bad v.definition p.0.1 refl
no_bad_vote (Some v ∷ votes) p (inr bad) = no_bad_vote votes p.1 bad

no_bad_end : (values : List FieldValue) (end : RowEnd Definition) → AreInRange HasText values end → HasOneOf IsNoText (end_definitions (end_with canon end)) → ⊥
no_bad_end (v ∷ values) end p bad = no_bad_end values end p.1 bad
no_bad_end [] NoEnd p bad = bad
no_bad_end [] (TextEnd d) p (inl bad) = bad d p refl
no_bad_end [] (TextEnd d) p (inr bad) = bad
no_bad_end [] (VotesEnd s b votes) p bad = no_bad_vote votes p.3 bad

pub not_bad : (m : Message Definition) → IsMessage m → HasOneOf IsNoText (end_definitions (texts m).ending) → ⊥
not_bad m is bad = no_bad_end (row m).fields (row m).ending is bad
