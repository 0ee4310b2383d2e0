-- How many bytes the parts of a reply have.
use Rattle.std.proofs.Common.{◌≡◌, ◌∙◌, ℕ, ◌+◌, ◌-◌, ◌*◌, ◌≤◌, ◌<◌, ◌^◌, List, [], ◌∷◌, ◌++◌, length, take, drop, get_or, refl, sym, ap, arith, append-nil, append_assoc, length-append, length-drop}
use Rattle.std.specs.Int.{w32, from_be_bytes, to_be_bytes}
use Rattle.std.proofs.Math.Seq.{take-length}
use Rattle.std.proofs.lemmas.List.{length-take-le, take-append-le}
use Rattle.std.proofs.lemmas.Nat.{be_bytes_4, from_be_bytes-to_be_bytes_4}
use Rattle.wf_ballot.specs.Sequence.{seq_bytes}
use Rattle.wf_def.specs.Definition.{Definition}
use Rattle.wf_frame.specs.Report.{text_bytes}
use Rattle.wf_reader.proofs.Parts.{drop_front, joined, length_of_sequence, take_front}
use Rattle.wf_reader.specs.ReaderAnswer.{ReaderAnswer}
use Rattle.wf_reader.specs.Reply.{AreTexts, IsReply, answer_fields, body_bytes, cause_sequence, most_body_bytes, most_reply_bytes, reply_bytes, texts_bytes}
use Rattle.wf_reader.specs.declared.reply.Reply.{Reply}
use Rattle.wf_reader.specs.declared.reply.Reply.TheVariants as replies
use Rattle.wf_spelling.specs.Canon.{canon, most_canon_bytes}

pub length_of_text : (text : List ℕ) → length (text_bytes text) ≡ 4 + length text
unfolding text_bytes
length_of_text text = length-append (to_be_bytes w32 (length text)) text

pub length_of_texts : (d : Definition) (definitions : List Definition) → length (texts_bytes (d ∷ definitions)) ≡ 4 + length (canon d) + length (texts_bytes definitions)
unfolding texts_bytes
length_of_texts d definitions = omega (arith, length-append (text_bytes (canon d)) (texts_bytes definitions), length_of_text (canon d))

pub length_of_whole : (list : List Definition) (d : Definition) → 1 ≤ length list → d ≡ get_or list 0 d → length (texts_bytes list) ≡ 4 + length (canon d) + length (texts_bytes (take (length list - 1) (drop 1 list)))
length_of_whole [] d some is = absurd (omega (arith, some))
length_of_whole (x ∷ list) d some is =
    let count : length (x ∷ list) - 1 ≡ length list = omega arith in
    let same : take (length (x ∷ list) - 1) list ≡ list = ap (λ (k : ℕ). take k list) count ∙ take-length list in
    length_of_texts x list ∙ ap (λ (e : Definition). 4 + length (canon e) + length (texts_bytes list)) (sym is) ∙ ap (λ (l : List Definition). 4 + length (canon d) + length (texts_bytes l)) (sym same)

pub texts_within : (definitions : List Definition) → AreTexts definitions → length (texts_bytes definitions) ≤ length definitions * (4 + most_canon_bytes)
unfolding texts_bytes AreTexts
texts_within [] texts = omega arith
texts_within (d ∷ definitions) texts =
    omega (arith, length-append (text_bytes (canon d)) (texts_bytes definitions), length_of_text (canon d), texts.0.short, texts_within definitions texts.1)

pub length_of_fields : (a : ReaderAnswer) → length a.digest ≡ 32 → length (answer_fields a) ≡ 34 + length (texts_bytes a.definitions)
unfolding answer_fields
length_of_fields a digest =
    omega (arith, length-append (seq_bytes a.published) (a.digest ++ texts_bytes a.definitions), length_of_sequence a.published, length-append a.digest (texts_bytes a.definitions), digest)

pub body_within : (reply : Reply) → IsReply reply → length (body_bytes reply) ≤ most_body_bytes
unfolding body_bytes
body_within (replies.Answer a) is = omega (arith, length_of_fields a is.digest, texts_within a.definitions is.texts, is.few)
body_within (replies.Rejected why) is = omega (arith, length_of_sequence (cause_sequence why))

pub length_of_reply : (reply : Reply) → length (reply_bytes reply) ≡ 4 + length (body_bytes reply)
unfolding reply_bytes
length_of_reply reply = length-append (to_be_bytes w32 (length (body_bytes reply))) (body_bytes reply)

pub length_within : (reply : Reply) → IsReply reply → length (reply_bytes reply) ≤ most_reply_bytes
length_within reply is = omega (arith, length_of_reply reply, body_within reply is)

-- the length that is stated is that of what follows
pub stated : (bytes rest : List ℕ) (reply : Reply) → IsReply reply → 4 ≤ length bytes → bytes ++ rest ≡ reply_bytes reply → from_be_bytes w32 (take 4 bytes) ≡ length (body_bytes reply)
unfolding reply_bytes
stated bytes rest reply is four e =
    let front : take 4 bytes ≡ to_be_bytes w32 (length (body_bytes reply)) =
    sym (take-append-le 4 bytes rest four) ∙ take_front 4 (bytes ++ rest) (to_be_bytes w32 (length (body_bytes reply))) (body_bytes reply) refl e in
    ap (from_be_bytes w32) front ∙ from_be_bytes-to_be_bytes_4 (length (body_bytes reply)) (omega (arith, body_within reply is))

pub length_read : (bytes rest : List ℕ) (reply : Reply) → IsReply reply → 4 ≤ length bytes → bytes ++ rest ≡ reply_bytes reply → 4 + from_be_bytes w32 (take 4 bytes) ≡ length (reply_bytes reply)
length_read bytes rest reply is four e = omega (arith, stated bytes rest reply is four e, length_of_reply reply)

-- ---- a whole reply
pub whole_length : (bytes : List ℕ) (reply : Reply) → IsReply reply → bytes ≡ reply_bytes reply → length bytes ≡ 4 + from_be_bytes w32 (take 4 bytes)
whole_length bytes reply is e =
    let four : 4 ≤ length bytes = omega (arith, ap length e, length_of_reply reply) in
    omega (arith, ap length e, length_read bytes [] reply is four (append-nil bytes ∙ e))

pub whole_body : (bytes body : List ℕ) (reply : Reply) → body ≡ drop 4 bytes → bytes ≡ reply_bytes reply → body ≡ body_bytes reply
unfolding reply_bytes
whole_body bytes body reply back e = back ∙ drop_front 4 bytes (to_be_bytes w32 (length (body_bytes reply))) (body_bytes reply) refl e

pub whole_reply : (bytes body : List ℕ) (reply : Reply) (stated : ℕ) → take 4 bytes ≡ to_be_bytes w32 stated → 4 + stated ≡ length bytes → body ≡ drop 4 bytes → body ≡ body_bytes reply → bytes ≡ reply_bytes reply
unfolding reply_bytes
whole_reply bytes body reply stated front size back is =
    let length_is : stated ≡ length (body_bytes reply) = omega (arith, size, length-drop 4 bytes, ap length back, ap length is) in
    joined 4 bytes (take 4 bytes) body refl back ∙ ap (λ (f : List ℕ). f ++ body) (front ∙ ap (to_be_bytes w32) length_is) ∙ ap (λ (t : List ℕ). to_be_bytes w32 (length (body_bytes reply)) ++ t) is

pub four_bytes : (bytes : List ℕ) (m : ℕ) → length bytes ≡ 4 → ((i : ℕ) → get_or bytes i 0 < 256) → m ≡ from_be_bytes w32 bytes → bytes ≡ to_be_bytes w32 m
four_bytes bytes m size each is = sym (be_bytes_4 bytes m size each is)

-- ---- a text behind its length
pub text_whole : (bytes front rest text after : List ℕ) (n : ℕ) → front ≡ take 4 bytes → rest ≡ drop 4 bytes → front ≡ to_be_bytes w32 n → n ≤ length rest → text ≡ take n rest → after ≡ drop n rest → bytes ≡ text_bytes text ++ after
unfolding text_bytes
text_whole bytes front rest text after n ef er is within et ea =
    let size : n ≡ length text = omega (arith, within, length-take-le n rest within, ap length et) in
    joined 4 bytes front rest ef er ∙ ap (λ (f : List ℕ). f ++ rest) (is ∙ ap (to_be_bytes w32) size) ∙ ap (λ (r : List ℕ). to_be_bytes w32 (length text) ++ r) (joined n rest text after et ea)
    ∙ sym (append_assoc (to_be_bytes w32 (length text)) text after)

pub record IsCut (bytes text after : List ℕ) : Type 0 where
  pub four : 4 ≤ length bytes
  pub stated : from_be_bytes w32 (take 4 bytes) ≡ length text
  pub behind : drop 4 bytes ≡ text ++ after

pub text_front : (bytes text after : List ℕ) → length text < 2 ^ 32 → bytes ≡ text_bytes text ++ after → IsCut bytes text after
unfolding text_bytes
text_front bytes text after fits e =
    let cut : bytes ≡ to_be_bytes w32 (length text) ++ (text ++ after) = e ∙ append_assoc (to_be_bytes w32 (length text)) text after in
    record {
      four = omega (arith, ap length cut, length-append (to_be_bytes w32 (length text)) (text ++ after));
      stated = ap (from_be_bytes w32) (take_front 4 bytes (to_be_bytes w32 (length text)) (text ++ after) refl cut) ∙ from_be_bytes-to_be_bytes_4 (length text) fits;
      behind = drop_front 4 bytes (to_be_bytes w32 (length text)) (text ++ after) refl cut;
    }
