-- Bodies and their layouts: a body is read as its parts, what is read has those bytes, and the
-- checks by byte offset agree with it.
use Rattle.std.proofs.Common.{◌≡◌, ℕ, ◌+◌, ◌≤◌, Bool, true, false, cond, ltb, leb, ◌&&◌, List, [], ◌∷◌, ◌++◌, length, drop, Option, Some, None, refl, ap, subst, ◌∙◌, length-append, arith}
use Rattle.std.proofs.lemmas.Bool.{leb-true, le-leb, and_parts, and_from}
use Rattle.std.proofs.lemmas.Option.{option_and_then_some}
use Rattle.std.proofs.lemmas.List.{nil_from_length, drop-drop}
use Rattle.std.specs.Prelude.{is_some, option_map, option_and_then}
use Rattle.wf_ballot.specs.Node.{most_nodes}
use Rattle.wf_ballot.specs.Ballot.{Ballot}
use Rattle.wf_ballot.specs.Front.{AreBytes, ReadsFront, front_node, front_slot, front_round, front_ballot}
use Rattle.wf_ballot.specs.FrontTheorems.{reads_nodes, reads_slots, reads_rounds, reads_ballots}
use Rattle.wf_ballot.specs.FieldTheorems.{length-node_bytes, length-seq_bytes, length-round_bytes, length-ballot_bytes}
use Rattle.wf_frame.specs.Field.{Field, NodeField, SlotField, RoundField, BallotField, Value, IsValue, value_bytes, width, front_value}
use Rattle.wf_frame.specs.Report.{Report, report_of, votes_definitions, texts_of_read}
use Rattle.wf_frame.specs.ReportTheorems.{AreBytes-rest, report_stands, report_again, report_length}
use Rattle.wf_frame.specs.BodyEnd.{BodyEnding, Nothing, Text, Votes, End, IsEnd, end_bytes, least_end, most_end, end_texts, front_end, has_end, texts_in_end}
use Rattle.wf_frame.specs.Layout.{Layout, ends_at, BodyParts, Body, AreParts, IsBody, parts_bytes, body_bytes, end_of, body_texts, widths, fits, read_parts, read_body, has_parts, has_fields, texts_in}

-- ---- fields

reads : (field : Field) → ReadsFront (IsValue field) (value_bytes field) (front_value field)
reads NodeField = reads_nodes
reads SlotField = reads_slots
reads RoundField = reads_rounds
reads BallotField = reads_ballots

pub value_length : (field : Field) (value : Value field) → length (value_bytes field value) ≡ width field
value_length NodeField value = length-node_bytes value
value_length SlotField value = length-seq_bytes value
value_length RoundField value = length-round_bytes value
value_length BallotField value = length-ballot_bytes value

-- the bytes after a field
kept : {A : Type 0} (b : Bool) (a : A) (rest : List ℕ) (x : A × List ℕ) → cond b (Some (a, rest)) None ≡ Some x → x.1 ≡ rest
kept true a rest x e = cc
kept false a rest x e = absurd cc

behind_node : (bytes : List ℕ) (x : ℕ × List ℕ) → front_node bytes ≡ Some x → x.1 ≡ drop 1 bytes
unfolding front_node
behind_node [] x e = absurd cc
behind_node (node ∷ rest) x e = kept (ltb node most_nodes) node rest x e

behind_slot : (bytes : List ℕ) (x : ℕ × List ℕ) → front_slot bytes ≡ Some x → x.1 ≡ drop 2 bytes
unfolding front_slot
behind_slot [] x e = absurd cc
behind_slot (a ∷ []) x e = absurd cc
behind_slot (a ∷ b ∷ rest) x e = kept _ _ rest x e

behind_round : (bytes : List ℕ) (x : ℕ × List ℕ) → front_round bytes ≡ Some x → x.1 ≡ drop 4 bytes
unfolding front_round
behind_round [] x e = absurd cc
behind_round (a ∷ []) x e = absurd cc
behind_round (a ∷ b ∷ []) x e = absurd cc
behind_round (a ∷ b ∷ c ∷ []) x e = absurd cc
behind_round (a ∷ b ∷ c ∷ d ∷ rest) x e = kept _ _ rest x e

behind_ballot : (bytes : List ℕ) (x : Ballot × List ℕ) → front_ballot bytes ≡ Some x → x.1 ≡ drop 5 bytes
unfolding front_ballot
behind_ballot [] x e = absurd cc
behind_ballot (a ∷ []) x e = absurd cc
behind_ballot (a ∷ b ∷ []) x e = absurd cc
behind_ballot (a ∷ b ∷ c ∷ []) x e = absurd cc
behind_ballot (a ∷ b ∷ c ∷ d ∷ []) x e = absurd cc
behind_ballot (a ∷ b ∷ c ∷ d ∷ node ∷ rest) x e = kept _ _ rest x e

behind : (field : Field) (bytes : List ℕ) (x : Value field × List ℕ) → front_value field bytes ≡ Some x → x.1 ≡ drop (width field) bytes
behind NodeField bytes x e = behind_node bytes x e
behind SlotField bytes x e = behind_slot bytes x e
behind RoundField bytes x e = behind_round bytes x e
behind BallotField bytes x e = behind_ballot bytes x e

-- ---- endings

end_lengths : (ending : BodyEnding) (end : End ending) → IsEnd ending end → (least_end ending ≤ length (end_bytes ending end)) × (length (end_bytes ending end) ≤ most_end ending)
end_lengths Nothing end is = (omega arith, omega arith)
end_lengths (Text most) text is = (is.least, is.within)
end_lengths (Votes most) report is = report_length most report is

end_fits : (ending : BodyEnding) (fields n : ℕ) (end : End ending) → n ≡ fields + length (end_bytes ending end) → IsEnd ending end → ends_at ending fields n ≡ true
end_fits ending fields n end e is =
    let (least, within) = end_lengths ending end is in
    and_from (leb (fields + least_end ending) n) (leb n (fields + most_end ending)) (le-leb (fields + least_end ending) n (omega (arith, e, least))) (le-leb n (fields + most_end ending) (omega (arith, e, within)))

end_within : (ending : BodyEnding) (fields n : ℕ) → ends_at ending fields n ≡ true → n ≤ fields + most_end ending
end_within ending fields n has = leb-true n (fields + most_end ending) (and_parts (leb (fields + least_end ending) n) (leb n (fields + most_end ending)) has).1

-- the most bytes of a body
pub fits_most : (layout : Layout) (n : ℕ) → fits layout n ≡ true → n ≤ widths layout.fields + most_end layout.ending
fits_most layout n has = end_within layout.ending (widths layout.fields) n has

end_again : (ending : BodyEnding) (end : End ending) → IsEnd ending end → front_end ending (end_bytes ending end) ≡ Some end
end_again Nothing end is = refl
end_again (Text most) text is = refl
end_again (Votes most) report is = report_again most report is

some_is : {A : Type 0} (P : A → Type 0) (x y : A) → Some x ≡ Some y → P x → P y
some_is P x y e p = let same : x ≡ y = cc in subst P same p

-- an ending that is read has these bytes: by the length that the body can have, nothing follows the
-- last field
end_stands : (ending : BodyEnding) (fields : ℕ) (bytes : List ℕ) (end : End ending) → AreBytes bytes → ends_at ending fields (fields + length bytes) ≡ true → front_end ending bytes ≡ Some end →
    bytes ≡ end_bytes ending end
end_stands Nothing fields bytes end fit has e = nil_from_length bytes (omega (arith, end_within Nothing fields (fields + length bytes) has))
end_stands (Text most) fields bytes text fit has e = some_is (λ x. bytes ≡ x) bytes text e refl
end_stands (Votes most) fields bytes report fit has e = report_stands most bytes report fit e

-- One more field: if it and the others are there, the value is there.
field_then : {A B C : Type 0} (g : B → C) (field : Option (A × List ℕ)) (f : A × List ℕ → Option B) (rest : List ℕ) (others : Bool) (value : C) →
    ((x : A × List ℕ) → field ≡ Some x → x.1 ≡ rest) → ((a : A) → option_map g (f (a, rest)) ≡ cond others (Some value) None) →
    option_map g (option_and_then f field) ≡ cond (is_some field && others) (Some value) None
field_then g None f rest others value behind then = refl
field_then g (Some x) f rest others value behind then = ap (λ (r : List ℕ). option_map g (f (x.0, r))) (behind x refl) ∙ then x.0

report_checked : (most : ℕ) (read : Option Report) → option_map (λ (r : Report). votes_definitions r.votes) read ≡ cond (is_some read) (Some (texts_of_read read)) None
report_checked most None = refl
report_checked most (Some report) = refl

end_checked : (ending : BodyEnding) (bytes : List ℕ) → option_map (end_texts ending) (front_end ending bytes) ≡ cond (has_end ending bytes) (Some (texts_in_end ending bytes)) None
end_checked Nothing bytes = refl
end_checked (Text most) bytes = refl
end_checked (Votes most) bytes = report_checked most (report_of most bytes)

-- ---- bodies

parts_length : (fields : List Field) (ending : BodyEnding) (parts : BodyParts fields ending) → length (parts_bytes fields ending parts) ≡ widths fields + length (end_bytes ending (end_of fields ending parts))
parts_length [] ending end = omega arith
parts_length (field ∷ fields) ending parts =
    omega (arith, length-append (value_bytes field parts.0) (parts_bytes fields ending parts.1), value_length field parts.0, parts_length fields ending parts.1)

-- the length of a body
pub body_length : (layout : Layout) (body : Body layout) → length (body_bytes layout body) ≡ widths layout.fields + length (end_bytes layout.ending (end_of layout.fields layout.ending body))
body_length layout body = parts_length layout.fields layout.ending body

end_is : (fields : List Field) (ending : BodyEnding) (parts : BodyParts fields ending) → AreParts fields ending parts → IsEnd ending (end_of fields ending parts)
end_is [] ending end are = are
end_is (field ∷ fields) ending parts are = end_is fields ending parts.1 are.1

-- a body has a length that its layout allows
pub body_fits : (layout : Layout) (body : Body layout) → IsBody layout body → fits layout (length (body_bytes layout body)) ≡ true
body_fits layout body is =
    end_fits layout.ending (widths layout.fields) (length (body_bytes layout body)) (end_of layout.fields layout.ending body) (body_length layout body) (end_is layout.fields layout.ending body is)

parts_again : {B : Type 0} (fields : List Field) (ending : BodyEnding) (parts : BodyParts fields ending) (payload : BodyParts fields ending → B) → AreParts fields ending parts →
    read_parts fields ending (parts_bytes fields ending parts) payload ≡ Some (payload parts)
parts_again [] ending end payload are = ap (option_map payload) (end_again ending end are)
parts_again (field ∷ fields) ending parts payload are =
    ap (option_and_then (λ value. read_parts fields ending value.1 (λ others. payload (value.0, others)))) ((reads field).read parts.0 (parts_bytes fields ending parts.1) are.0)
    ∙ parts_again fields ending parts.1 (λ others. payload (parts.0, others)) are.1

-- a body is read as its parts
pub body_again : {B : Type 0} (layout : Layout) (body : Body layout) (payload : Body layout → B) → IsBody layout body → read_body layout (body_bytes layout body) payload ≡ Some (payload body)
body_again layout body payload is = parts_again layout.fields layout.ending body payload is

-- parts with these bytes, of which this is made
pub record IsMadeOf {B : Type 0} (fields : List Field) (ending : BodyEnding) (bytes : List ℕ) (payload : BodyParts fields ending → B) (made : B) : Type 0 where
  pub parts : BodyParts fields ending
  pub spelled : bytes ≡ parts_bytes fields ending parts
  pub makes : payload parts ≡ made

mapped_some : {A B P : Type 0} (f : A → B) (o : Option A) (y : B) → option_map f o ≡ Some y → ((x : A) → o ≡ Some x → f x ≡ y → P) → P
mapped_some f None y e go = absurd cc
mapped_some f (Some x) y e go = let same : f x ≡ y = cc in go x refl same

parts_stand : {B : Type 0} (fields : List Field) (ending : BodyEnding) (before : ℕ) (bytes : List ℕ) (payload : BodyParts fields ending → B) (made : B) → AreBytes bytes →
    ends_at ending (before + widths fields) (before + length bytes) ≡ true → read_parts fields ending bytes payload ≡ Some made → IsMadeOf fields ending bytes payload made
parts_stand [] ending before bytes payload made fit has e =
    let none_before : before + 0 ≡ before = omega arith in
    mapped_some payload (front_end ending bytes) made e (λ end is same.
    record {
      parts = end;
      spelled = end_stands ending before bytes end fit (subst (λ (n : ℕ). ends_at ending n (before + length bytes) ≡ true) none_before has) is;
      makes = same;
    })
parts_stand (field ∷ fields) ending before bytes payload made fit has e =
    option_and_then_some (λ value. read_parts fields ending value.1 (λ others. payload (value.0, others))) (front_value field bytes) made e (λ x is goes.
    let stands = (reads field).stands bytes x.1 x.0 fit is in
    let rest_fit = AreBytes-rest (value_bytes field x.0) x.1 (subst (λ (b : List ℕ). AreBytes b) stands.0 fit) in
    let count : before + length bytes ≡ (before + width field) + length x.1 =
    omega (arith, ap length stands.0, length-append (value_bytes field x.0) x.1, value_length field x.0) in
    let sum : before + (width field + widths fields) ≡ (before + width field) + widths fields = omega arith in
    let rest_has : ends_at ending ((before + width field) + widths fields) ((before + width field) + length x.1) ≡ true =
    subst (λ (n : ℕ). ends_at ending n ((before + width field) + length x.1) ≡ true) sum (subst (λ (n : ℕ). ends_at ending (before + (width field + widths fields)) n ≡ true) count has) in
    let rest = parts_stand fields ending (before + width field) x.1 (λ others. payload (x.0, others)) made rest_fit rest_has goes in
    record {
      parts = (x.0, rest.parts);
      spelled = stands.0 ∙ ap (λ (t : List ℕ). value_bytes field x.0 ++ t) rest.spelled;
      makes = rest.makes;
    })

-- what is read from bytes of a length that the layout allows has those bytes
pub body_stands : {B : Type 0} (layout : Layout) (bytes : List ℕ) (payload : Body layout → B) (made : B) → AreBytes bytes → fits layout (length bytes) ≡ true →
    read_body layout bytes payload ≡ Some made → IsMadeOf layout.fields layout.ending bytes payload made
body_stands layout bytes payload made fit has e =
    let fields : 0 + widths layout.fields ≡ widths layout.fields = omega arith in
    let count : 0 + length bytes ≡ length bytes = omega arith in
    parts_stand layout.fields layout.ending 0 bytes payload made fit
    (ap (λ (n : ℕ). ends_at layout.ending n (0 + length bytes)) fields ∙ ap (λ (n : ℕ). ends_at layout.ending (widths layout.fields) n) count ∙ has) e

map_map : {A B C : Type 0} (f : A → B) (g : B → C) (h : A → C) (o : Option A) → ((x : A) → g (f x) ≡ h x) → option_map g (option_map f o) ≡ option_map h o
map_map f g h None same = refl
map_map f g h (Some x) same = ap Some (same x)

parts_checked : {B : Type 0} (fields : List Field) (ending : BodyEnding) (offset : ℕ) (body : List ℕ) (payload : BodyParts fields ending → B) (text : B → List (List ℕ)) →
    ((parts : BodyParts fields ending) → text (payload parts) ≡ end_texts ending (end_of fields ending parts)) →
    option_map text (read_parts fields ending (drop offset body) payload) ≡ cond (has_parts fields ending offset body) (Some (texts_in_end ending (drop (offset + widths fields) body))) None
parts_checked [] ending offset body payload text agrees =
    let none_after : offset ≡ offset + 0 = omega arith in
    map_map payload text (end_texts ending) (front_end ending (drop offset body)) agrees ∙ end_checked ending (drop offset body)
    ∙ ap (λ (n : ℕ). cond (has_end ending (drop offset body)) (Some (texts_in_end ending (drop n body))) None) none_after
parts_checked (field ∷ fields) ending offset body payload text agrees =
    let after : List ℕ = drop (offset + width field) body in
    let sum : (offset + width field) + widths fields ≡ offset + (width field + widths fields) = omega arith in
    field_then text (front_value field (drop offset body)) (λ value. read_parts fields ending value.1 (λ others. payload (value.0, others))) after
    (has_parts fields ending (offset + width field) body) (texts_in_end ending (drop (offset + (width field + widths fields)) body))
    (λ x is. behind field (drop offset body) x is ∙ drop-drop (width field) offset body)
    (λ value. parts_checked fields ending (offset + width field) body (λ others. payload (value, others)) text (λ others. agrees (value, others))
    ∙ ap (λ (n : ℕ). cond (has_parts fields ending (offset + width field) body) (Some (texts_in_end ending (drop n body))) None) sum)

-- A body is read iff each field is in its range, by byte offset, and its texts are those that
-- follow the fields.
pub body_checked : {B : Type 0} (layout : Layout) (bytes : List ℕ) (payload : Body layout → B) (text : B → List (List ℕ)) → ((body : Body layout) → text (payload body) ≡ body_texts layout body) →
    option_map text (read_body layout bytes payload) ≡ cond (has_fields layout bytes) (Some (texts_in layout bytes)) None
body_checked layout bytes payload text agrees =
    let sum : 0 + widths layout.fields ≡ widths layout.fields = omega arith in
    parts_checked layout.fields layout.ending 0 bytes payload text agrees
    ∙ ap (λ (n : ℕ). cond (has_fields layout bytes) (Some (texts_in_end layout.ending (drop n bytes))) None) sum
