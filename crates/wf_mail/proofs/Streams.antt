-- What comes of a connection.
use Rattle.std.proofs.Common.{◌≡◌, ℕ, List, [], ◌∷◌, ◌++◌, length, refl, sym, ap, subst, ◌∙◌, append_assoc, append-nil, length-append, arith}
use Rattle.wf_codec.proofs.MeaningTheorem.{one_definition}
use Rattle.wf_codec.proofs.Validated.{none_begins_another, none_is_empty}
use Rattle.wf_codec.specs.Encoding.{spelling}
use Rattle.wf_def.specs.Definition.{Definition}
use Rattle.wf_model.specs.Message.{Message}
use Rattle.wf_mail.proofs.Split.{breaks_or_reads, split_one_way, stays_broken}
use Rattle.wf_mail.proofs.WholeMessages.{nothing_is_part}
use Rattle.wf_mail.specs.Stream.{Splits, Reads, Breaks}
use Rattle.wf_codec.specs.declared.fault.DecodeFault.{DecodeFault}
use Rattle.wf_mail.specs.Mail.{spelled, AreMessages, IsFirstPart}
use Rattle.wf_mail.specs.Theorem.{OnlySentCome, AllSentCome, NeverBreaks}

-- ---- a stream that splits

-- its messages have encodings, which it begins with
pub splits_are : (stream : List ℕ) (messages : List (Message Definition)) (rest : List ℕ) → Splits stream messages rest → AreMessages messages × (stream ≡ spelled messages ++ rest)
unfolding spelled
splits_are stream [] rest splits = (tt, splits)
splits_are stream (m ∷ messages) rest splits =
    let later = splits_are splits.1 messages rest splits.4 in (
      (splits.2.is_message, later.0),
      splits.3 ∙ ap (λ bytes. bytes ++ splits.1) splits.2.spelled ∙ ap (λ bytes. spelling m ++ bytes) later.1 ∙ sym (append_assoc (spelling m) (spelled messages) rest),
    )

-- the encodings of messages, followed by other bytes, split into them
pub are_split : (messages : List (Message Definition)) (rest : List ℕ) → AreMessages messages → Splits (spelled messages ++ rest) messages rest
unfolding spelled
are_split [] rest are = refl
are_split (m ∷ messages) rest are =
    (spelling m, spelled messages ++ rest, record { is_message = are.0; spelled = refl }, append_assoc (spelling m) (spelled messages) rest, are_split messages rest are.1)

-- messages before a stream are the first that it splits into
splits_behind : (messages : List (Message Definition)) (stream : List ℕ) (later : List (Message Definition)) (rest : List ℕ) → AreMessages messages → Splits stream later rest → Splits (spelled messages ++ stream) (messages ++ later) rest
unfolding spelled
splits_behind [] stream later rest are splits = splits
splits_behind (m ∷ messages) stream later rest are splits = (
  spelling m,
  spelled messages ++ stream,
  record { is_message = are.0; spelled = refl },
  append_assoc (spelling m) (spelled messages) stream,
  splits_behind messages stream later rest are.1 splits,
)

pub breaks_behind : (messages : List (Message Definition)) (stream : List ℕ) (fault : DecodeFault) → AreMessages messages → Breaks stream fault → Breaks (spelled messages ++ stream) fault
breaks_behind messages stream fault are breaks = record {
  messages = messages ++ breaks.messages;
  rest = breaks.rest;
  splits = splits_behind messages stream breaks.messages breaks.rest are breaks.splits;
  wrong = breaks.wrong;
}

-- ---- what comes of a connection

come_of : (put came : List (Message Definition)) (bytes rest more : List ℕ) → AreMessages put → Splits bytes came rest → bytes ++ more ≡ spelled put → IsFirstPart came put
unfolding spelled
come_of put [] bytes rest more are splits e = (put, refl)
come_of [] (m ∷ came) bytes rest more are splits e =
    absurd (omega (arith, none_is_empty m splits.0 splits.2, ap length e, length-append bytes more, ap length splits.3, length-append splits.0 splits.1))
come_of (p ∷ put) (m ∷ came) bytes rest more are splits e =
    let same = none_begins_another one_definition m p splits.0 (spelling p) (splits.1 ++ more) (spelled put) splits.2 (record { is_message = are.0; spelled = refl })
    (sym (append_assoc splits.0 splits.1 more) ∙ ap (λ all. all ++ more) (sym splits.3) ∙ e) in
    let later = come_of put came splits.1 rest more are.1 splits.4 same.2 in
    (later.0, ap (λ first. first ∷ (came ++ later.0)) same.0 ∙ ap (λ messages. p ∷ messages) later.1)

pub only_sent_come : OnlySentCome
only_sent_come put came bytes rest carried splits =
    come_of put came bytes rest carried.begins.0 carried.messages splits carried.begins.1

-- the encodings of messages are read as them
reads_all : (put : List (Message Definition)) → AreMessages put → Reads (spelled put) put []
reads_all put are = record {
  splits = subst (λ bytes. Splits bytes put []) (append-nil (spelled put)) (are_split put [] are);
  part = nothing_is_part;
}

pub all_sent_come : AllSentCome
all_sent_come put came rest are reads = split_one_way (spelled put) came put rest [] reads (reads_all put are)

pub never_breaks : NeverBreaks
never_breaks put bytes fault carried breaks =
    breaks_or_reads (spelled put) fault put [] (subst (λ all. Breaks all fault) carried.begins.1 (stays_broken bytes carried.begins.0 fault breaks)) (reads_all put carried.messages)

-- ---- the two ends

pub begins_through : {A : Type 0} (xs ys zs : List A) → IsFirstPart xs ys → IsFirstPart ys zs → IsFirstPart xs zs
begins_through xs ys zs (rest, e) (more, h) = (rest ++ more, sym (append_assoc xs rest more) ∙ subst (λ k. k ++ more ≡ zs) (sym e) h)
