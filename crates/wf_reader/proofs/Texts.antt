-- Texts behind their lengths, one after the other.
use Rattle.std.proofs.Common.{◌≡◌, ◌∙◌, ℕ, ◌-◌, ◌≤◌, ◌<◌, List, [], ◌∷◌, ◌++◌, length, refl, sym, ap, arith, length-append, append_assoc, append-nil}
use Rattle.std.specs.Int.{w32, to_be_bytes}
use Rattle.std.specs.Prelude.{◌^◌, Result, Ok, Err, MatchResult}
use Rattle.wf_canon.specs.CanonFault.{IsWhyRejected}
use Rattle.wf_codec.specs.Message.{HasText}
use Rattle.wf_def.specs.Definition.{Definition}
use Rattle.wf_frame.specs.Report.{text_bytes}
use Rattle.wf_reader.specs.ReplyReader.{ReadsTexts}
use Rattle.wf_reader.specs.Reply.{AreTexts, texts_bytes}
use Rattle.wf_reader.specs.declared.fault.ReplyFault.{ReplyFault}
use Rattle.wf_reader.specs.declared.fault.ReplyFault.TheVariants.{Memory as NoMemory}
use Rattle.wf_spelling.specs.Canon.{canon}
use Rattle.wf_spelling.specs.declared.fault.CanonFault.{CanonFault}
use Rattle.wf_spelling.specs.declared.fault.CanonFault.TheVariants.{TooBig, NotCanonical, Memory}

pub some_bytes : (d : Definition) (definitions : List Definition) → 4 ≤ length (texts_bytes (d ∷ definitions))
unfolding texts_bytes text_bytes
some_bytes d definitions = omega (arith, length-append (to_be_bytes w32 (length (canon d)) ++ canon d) (texts_bytes definitions), length-append (to_be_bytes w32 (length (canon d))) (canon d))

-- no bytes are no texts
pub none_found : (bytes : List ℕ) (found : List Definition) → bytes ≡ [] → bytes ≡ texts_bytes found → found ≡ []
none_found bytes [] none is = refl
none_found bytes (d ∷ found) none is = absurd (omega (arith, some_bytes d found, ap length is, ap length none))

-- other bytes begin with a text
pub record First (bytes : List ℕ) (found : List Definition) : Type 0 where
  pub first : Definition
  pub rest : List Definition
  pub whole : found ≡ first ∷ rest
  pub text : HasText first
  pub texts : AreTexts rest
  pub bytes_are : bytes ≡ text_bytes (canon first) ++ texts_bytes rest

pub first_found : (bytes : List ℕ) (found : List Definition) → 1 ≤ length bytes → AreTexts found → bytes ≡ texts_bytes found → First bytes found
unfolding texts_bytes AreTexts
first_found bytes [] some texts is = absurd (omega (arith, some, ap length is))
first_found bytes (d ∷ found) some texts is = record { first = d; rest = found; whole = refl; text = texts.0; texts = texts.1; bytes_are = is }

pub nothing_read : (bytes : List ℕ) (most : ℕ) (old : List Definition) → bytes ≡ [] → ReadsTexts bytes most old old
unfolding texts_bytes AreTexts
nothing_read bytes most old none = record { found = []; bytes_are = none; texts = tt; few = omega arith; appended = sym (append-nil old) }

pub one_more : (bytes text rest : List ℕ) (most : ℕ) (old mid new : List Definition) (d : Definition) → bytes ≡ text_bytes text ++ rest → text ≡ canon d → HasText d → 1 ≤ most →
    mid ≡ old ++ d ∷ [] → ReadsTexts rest (most - 1) mid new → ReadsTexts bytes most old new
unfolding texts_bytes AreTexts
one_more bytes text rest most old mid new d is spelled has some pushed reads = record {
  found = d ∷ reads.found;
  bytes_are = is ∙ ap (λ (t : List ℕ). text_bytes t ++ rest) spelled ∙ ap (λ (r : List ℕ). text_bytes (canon d) ++ r) reads.bytes_are;
  texts = (has, reads.texts);
  few = omega (arith, reads.few);
  appended = reads.appended ∙ ap (λ (l : List Definition). l ++ reads.found) pushed ∙ append_assoc old (d ∷ []) reads.found;
}

pub fits : (bytes : List ℕ) (found : List Definition) (first : First bytes found) → length (canon first.first) < 2 ^ 32
fits bytes found first = omega (arith, first.text.short)

pub rest_few : (bytes : List ℕ) (found : List Definition) (first : First bytes found) (most : ℕ) → length found ≤ most → length first.rest ≤ most - 1
rest_few bytes found first most few = omega (arith, few, ap length first.whole)

pub each_more : (result : Result (Unit {0}) ReplyFault) (old mid new found rest : List Definition) (d e : Definition) → mid ≡ old ++ d ∷ [] → d ≡ e → found ≡ e ∷ rest →
    MatchResult result (λ x. new ≡ mid ++ rest) (λ fault. fault ≡ NoMemory) → MatchResult result (λ x. new ≡ old ++ found) (λ fault. fault ≡ NoMemory)
each_more (Ok x) old mid new found rest d e pushed same whole later =
    later ∙ ap (λ (l : List Definition). l ++ rest) pushed ∙ append_assoc old (d ∷ []) rest ∙ ap (λ (x : Definition). old ++ x ∷ rest) same ∙ ap (λ (l : List Definition). old ++ l) (sym whole)
each_more (Err fault) old mid new found rest d e pushed same whole later = later

-- a text that is a definition's isn't rejected, memory aside
pub not_rejected : (fault : CanonFault) (text : List ℕ) (d : Definition) → IsWhyRejected fault text → HasText d → text ≡ canon d → fault ≡ Memory
not_rejected TooBig text d why has is = absurd (omega (arith, why, has.short, ap length is))
not_rejected NotCanonical text d why has is = absurd (why d has.within (sym is))
not_rejected Memory text d why has is = refl
