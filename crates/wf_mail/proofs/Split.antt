-- A stream splits in one way, wherever it is cut.
use Rattle.std.proofs.Common.{◌≡◌, ℕ, List, [], ◌∷◌, ◌++◌, refl, sym, ap, subst, ◌∙◌, append_assoc}
use Rattle.std.proofs.lemmas.List.{append-nil}
use Rattle.wf_def.specs.Definition.{Definition}
use Rattle.wf_model.specs.Message.{Message}
use Rattle.wf_codec.proofs.MeaningTheorem.{one_definition}
use Rattle.wf_codec.proofs.Validated.{none_begins_another}
use Rattle.wf_codec.specs.Theorem.{BeginsWithNone}
use Rattle.wf_codec.specs.declared.fault.DecodeFault.{DecodeFault}
use Rattle.wf_mail.specs.Stream.{Splits, IsWrong}
use Rattle.wf_mail.specs.StreamTheorem.{SplitOneWay, BreakOneWay, BreaksOrReads, JoinedReads, JoinedBreaks, StaysBroken}
use Rattle.wf_mail.proofs.Faults.{wrong_on, one_error, no_error_in_part}

-- Two splits, each followed by bytes that begin with no message, are compared message by message.
one_way : (stream : List ℕ) (xs ys : List (Message Definition)) (rest_x rest_y : List ℕ) → Splits stream xs rest_x → BeginsWithNone rest_x →
    Splits stream ys rest_y → BeginsWithNone rest_y → (xs ≡ ys) × (rest_x ≡ rest_y)
one_way stream [] [] rest_x rest_y x none_x y none_y = (refl, sym x ∙ y)
one_way stream [] (r ∷ ys) rest_x rest_y x none_x y none_y = absurd (none_x r y.0 y.1 y.2 (sym x ∙ y.3))
one_way stream (q ∷ xs) [] rest_x rest_y x none_x y none_y = absurd (none_y q x.0 x.1 x.2 (sym y ∙ x.3))
one_way stream (q ∷ xs) (r ∷ ys) rest_x rest_y x none_x y none_y =
    let same = none_begins_another one_definition q r x.0 y.0 x.1 y.1 x.2 y.2 (sym x.3 ∙ y.3) in
    let later = one_way x.1 xs ys rest_x rest_y x.4 none_x (subst (λ (t : List ℕ). Splits t ys rest_y) (sym same.2) y.4) none_y in
    (ap (λ (m : Message Definition). m ∷ xs) same.0 ∙ ap (λ (ms : List (Message Definition)). r ∷ ms) later.0, later.1)

-- bytes with an error begin with no message
wrong_is_none : (rest : List ℕ) (fault : DecodeFault) → IsWrong rest fault → BeginsWithNone rest
wrong_is_none rest fault wrong = subst (λ (t : List ℕ). BeginsWithNone t) (append-nil rest) (wrong.never [])

pub split_one_way : SplitOneWay
split_one_way stream messages others rest other_rest reads again =
    one_way stream messages others rest other_rest reads.splits reads.part.longest again.splits again.part.longest

pub break_one_way : BreakOneWay
break_one_way stream fault other breaks again =
    let same = one_way stream breaks.messages again.messages breaks.rest again.rest breaks.splits (wrong_is_none breaks.rest fault breaks.wrong)
    again.splits (wrong_is_none again.rest other again.wrong) in
    one_error breaks.rest fault other breaks.wrong (subst (λ (t : List ℕ). IsWrong t other) (sym same.1) again.wrong)

pub breaks_or_reads : BreaksOrReads
breaks_or_reads stream fault messages rest breaks reads =
    let same = one_way stream breaks.messages messages breaks.rest rest breaks.splits (wrong_is_none breaks.rest fault breaks.wrong) reads.splits reads.part.longest in
    no_error_in_part rest fault reads.part.unfinished (subst (λ (t : List ℕ). IsWrong t fault) same.1 breaks.wrong)

-- ---- pieces

-- bytes appended are appended to the rest
splits_on : (stream : List ℕ) (messages : List (Message Definition)) (rest more : List ℕ) → Splits stream messages rest → Splits (stream ++ more) messages (rest ++ more)
splits_on stream [] rest more splits = ap (λ (t : List ℕ). t ++ more) splits
splits_on stream (m ∷ messages) rest more splits =
    (splits.0, splits.1 ++ more, splits.2, ap (λ (t : List ℕ). t ++ more) splits.3 ∙ append_assoc splits.0 splits.1 more, splits_on splits.1 messages rest more splits.4)

-- the rest is split on
splits_then : (stream : List ℕ) (messages later : List (Message Definition)) (between after : List ℕ) → Splits stream messages between → Splits between later after → Splits stream (messages ++ later) after
splits_then stream [] later between after splits again = subst (λ (t : List ℕ). Splits t later after) (sym splits) again
splits_then stream (m ∷ messages) later between after splits again =
    (splits.0, splits.1, splits.2, splits.3, splits_then splits.1 messages later between after splits.4 again)

-- one piece, then another
joined : (rest piece more : List ℕ) (messages later : List (Message Definition)) (between after : List ℕ) → Splits (rest ++ piece) messages between → Splits (between ++ more) later after →
    Splits (rest ++ (piece ++ more)) (messages ++ later) after
joined rest piece more messages later between after splits again =
    subst (λ (t : List ℕ). Splits t (messages ++ later) after) (append_assoc rest piece more)
    (splits_then ((rest ++ piece) ++ more) messages later (between ++ more) after (splits_on (rest ++ piece) messages between more splits) again)

pub joined_reads : JoinedReads
joined_reads rest piece more messages later between after reads again =
    record { splits = joined rest piece more messages later between after reads.splits again.splits; part = again.part }

pub joined_breaks : JoinedBreaks
joined_breaks rest piece more messages between fault reads breaks = record {
  messages = messages ++ breaks.messages;
  rest = breaks.rest;
  splits = joined rest piece more messages breaks.messages between breaks.rest reads.splits breaks.splits;
  wrong = breaks.wrong;
}

pub stays_broken : StaysBroken
stays_broken stream more fault breaks = record {
  messages = breaks.messages;
  rest = breaks.rest ++ more;
  splits = splits_on stream breaks.messages breaks.rest more breaks.splits;
  wrong = wrong_on breaks.rest more fault breaks.wrong;
}
