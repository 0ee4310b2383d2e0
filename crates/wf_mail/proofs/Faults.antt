-- The decoder's error of bytes remains, whatever follows, unless more bytes are needed; part of a
-- message has no error but that.
use Rattle.std.proofs.Common.{◌≡◌, ℕ, Bool, true, false, cond, ltb, List, [], ◌∷◌, ◌++◌, length, take, Option, Some, None, refl, sym, ap, subst, ◌∙◌, length-append, append_assoc, arith, inl, inr}
use Rattle.std.proofs.lemmas.Bool.{ltb-false, lt-ltb, le-ltb}
use Rattle.std.proofs.lemmas.List.{take-append-le}
use Rattle.std.specs.Int.{w32, from_be_bytes}
use Rattle.wf_frame.specs.Layout.{Layout}
use Rattle.wf_frame.specs.Row.{layout_of}
use Rattle.wf_frame.specs.Frame.{LacksBody}
use Rattle.wf_codec.specs.declared.fault.DecodeFault.{DecodeFault}
use Rattle.wf_codec.specs.declared.fault.DecodeFault.TheVariants as decoder
use Rattle.wf_codec.specs.KindTable.{kinds, most_body_bytes}
use Rattle.wf_codec.specs.Fault.{layout_in, length_in, behind_header, body_in, check_version, check_kind, check_longest, check_length, check_whole, check_fields, first_failing, first_fault, texts_of_kind, texts_in, HasFault, IsNoText}
use Rattle.wf_codec.specs.Message.{HasOneOf}
use Rattle.wf_codec.specs.Theorem.{IsUnfinished, IsLastingFault, BeginsWithNone}
use Rattle.wf_mail.proofs.Headers.{body_within}
use Rattle.wf_mail.specs.Stream.{IsWrong}

abbrev short : Option DecodeFault
short = Some decoder.Short

-- ---- the first failing check of more bytes

-- one check is the same, and those after it want more bytes
one_same : (p : Option DecodeFault) (checks others : List (Option DecodeFault)) (o : Option DecodeFault) → first_failing checks ≡ short → first_failing (p ∷ checks) ≡ o → (o ≡ short → ⊥) →
    first_failing (p ∷ others) ≡ o
one_same None checks others o wants e not_short = absurd (not_short (sym e ∙ wants))
one_same (Some x) checks others o wants e not_short = e

-- two checks are the same
two_same : (p q : Option DecodeFault) (checks others : List (Option DecodeFault)) (o : Option DecodeFault) → first_failing checks ≡ short → first_failing (p ∷ q ∷ checks) ≡ o → (o ≡ short → ⊥) →
    first_failing (p ∷ q ∷ others) ≡ o
two_same None q checks others o wants e not_short = one_same q checks others o wants e not_short
two_same (Some x) q checks others o wants e not_short = e

-- the header isn't whole
header_lacks : (layout : Option Layout) (fields : Option DecodeFault) → first_failing (None ∷ check_length layout None ∷ short ∷ fields ∷ []) ≡ short
header_lacks None fields = refl
header_lacks (Some layout) fields = refl

last_same : (few few_on : Bool) (fields fields_on o : Option DecodeFault) → (few ≡ false → few_on ≡ false) → (few ≡ false → fields_on ≡ fields) →
    first_failing (cond few short None ∷ fields ∷ []) ≡ o → (o ≡ short → ⊥) → first_failing (cond few_on short None ∷ fields_on ∷ []) ≡ o
last_same true few_on fields fields_on o stays same e not_short = absurd (not_short (sym e))
last_same false few_on fields fields_on o stays same e not_short = rw (stays refl, same refl) e

-- all checks of the header are the same, and the body is whole
four_same : (p q r s : Option DecodeFault) (few few_on : Bool) (fields fields_on o : Option DecodeFault) → (few ≡ false → few_on ≡ false) → (few ≡ false → fields_on ≡ fields) →
    first_failing (p ∷ q ∷ r ∷ s ∷ cond few short None ∷ fields ∷ []) ≡ o → (o ≡ short → ⊥) → first_failing (p ∷ q ∷ r ∷ s ∷ cond few_on short None ∷ fields_on ∷ []) ≡ o
four_same (Some x) q r s few few_on fields fields_on o stays same e not_short = e
four_same None (Some x) r s few few_on fields fields_on o stays same e not_short = e
four_same None None (Some x) s few few_on fields fields_on o stays same e not_short = e
four_same None None None (Some x) few few_on fields fields_on o stays same e not_short = e
four_same None None None None few few_on fields fields_on o stays same e not_short = last_same few few_on fields fields_on o stays same e not_short

-- a whole body stays whole, and the same
whole_stays : (n : ℕ) (bytes more : List ℕ) → ltb (length bytes) n ≡ false → ltb (length (bytes ++ more)) n ≡ false
whole_stays n bytes more few = le-ltb (length (bytes ++ more)) n (omega (arith, ltb-false (length bytes) n few, length-append bytes more))

same_body : (n : ℕ) (bytes more : List ℕ) → ltb (length bytes) n ≡ false → take n (bytes ++ more) ≡ take n bytes
same_body n bytes more few = take-append-le n bytes more (ltb-false (length bytes) n few)

-- Whatever follows, the first failing check is the same, or still none, unless it was that more
-- bytes are needed.
first_on : (bytes more : List ℕ) (o : Option DecodeFault) → first_fault bytes ≡ o → (o ≡ short → ⊥) → first_fault (bytes ++ more) ≡ o
unfolding first_fault layout_in length_in
first_on [] more o e not_short = absurd (not_short (sym e))
first_on (v ∷ []) more o e not_short = one_same (check_version (v ∷ [])) _ _ o refl e not_short
first_on (v ∷ k ∷ []) more o e not_short = two_same (check_version (v ∷ [])) (check_kind (v ∷ k ∷ [])) _ _ o (header_lacks (layout_of kinds k) _) e not_short
first_on (v ∷ k ∷ a ∷ []) more o e not_short = two_same (check_version (v ∷ [])) (check_kind (v ∷ k ∷ [])) _ _ o (header_lacks (layout_of kinds k) _) e not_short
first_on (v ∷ k ∷ a ∷ b ∷ []) more o e not_short = two_same (check_version (v ∷ [])) (check_kind (v ∷ k ∷ [])) _ _ o (header_lacks (layout_of kinds k) _) e not_short
first_on (v ∷ k ∷ a ∷ b ∷ c ∷ []) more o e not_short = two_same (check_version (v ∷ [])) (check_kind (v ∷ k ∷ [])) _ _ o (header_lacks (layout_of kinds k) _) e not_short
first_on (v ∷ k ∷ a ∷ b ∷ c ∷ d ∷ bytes) more o e not_short =
    let n : ℕ = from_be_bytes w32 (a ∷ b ∷ c ∷ d ∷ []) in
    four_same (check_version (v ∷ [])) (check_kind (v ∷ k ∷ [])) (check_longest (Some n)) (check_length (layout_of kinds k) (Some n)) (ltb (length bytes) n) (ltb (length (bytes ++ more)) n)
    (check_fields (layout_of kinds k) (take n bytes)) (check_fields (layout_of kinds k) (take n (bytes ++ more))) o
    (whole_stays n bytes more) (λ few. ap (check_fields (layout_of kinds k)) (same_body n bytes more few)) e not_short

-- ---- the texts of more bytes

-- the check of the body's length didn't fail
fifth : (p q r s : Option DecodeFault) (few : Bool) (fields : Option DecodeFault) → first_failing (p ∷ q ∷ r ∷ s ∷ cond few short None ∷ fields ∷ []) ≡ None → few ≡ false
fifth (Some x) q r s few fields e = absurd cc
fifth None (Some x) r s few fields e = absurd cc
fifth None None (Some x) s few fields e = absurd cc
fifth None None None (Some x) few fields e = absurd cc
fifth None None None None true fields e = absurd cc
fifth None None None None false fields e = refl

one_fails : (p : Option DecodeFault) (checks : List (Option DecodeFault)) → first_failing checks ≡ short → first_failing (p ∷ checks) ≡ None → ⊥
one_fails None checks wants e = let no : short ≡ None = sym wants ∙ e in absurd cc
one_fails (Some x) checks wants e = absurd cc

two_fail : (p q : Option DecodeFault) (checks : List (Option DecodeFault)) → first_failing checks ≡ short → first_failing (p ∷ q ∷ checks) ≡ None → ⊥
two_fail None q checks wants e = one_fails q checks wants e
two_fail (Some x) q checks wants e = absurd cc

-- if no check fails, the texts are the same, whatever follows
texts_on : (bytes more : List ℕ) → first_fault bytes ≡ None → texts_in (bytes ++ more) ≡ texts_in bytes
unfolding first_fault layout_in length_in
texts_on [] more e = absurd cc
texts_on (v ∷ []) more e = absurd (one_fails (check_version (v ∷ [])) _ refl e)
texts_on (v ∷ k ∷ []) more e = absurd (two_fail (check_version (v ∷ [])) (check_kind (v ∷ k ∷ [])) _ (header_lacks (layout_of kinds k) _) e)
texts_on (v ∷ k ∷ a ∷ []) more e = absurd (two_fail (check_version (v ∷ [])) (check_kind (v ∷ k ∷ [])) _ (header_lacks (layout_of kinds k) _) e)
texts_on (v ∷ k ∷ a ∷ b ∷ []) more e = absurd (two_fail (check_version (v ∷ [])) (check_kind (v ∷ k ∷ [])) _ (header_lacks (layout_of kinds k) _) e)
texts_on (v ∷ k ∷ a ∷ b ∷ c ∷ []) more e = absurd (two_fail (check_version (v ∷ [])) (check_kind (v ∷ k ∷ [])) _ (header_lacks (layout_of kinds k) _) e)
texts_on (v ∷ k ∷ a ∷ b ∷ c ∷ d ∷ bytes) more e =
    let n : ℕ = from_be_bytes w32 (a ∷ b ∷ c ∷ d ∷ []) in
    let few = fifth (check_version (v ∷ [])) (check_kind (v ∷ k ∷ [])) (check_longest (Some n)) (check_length (layout_of kinds k) (Some n)) (ltb (length bytes) n) (check_fields (layout_of kinds k) (take n bytes)) e in
    ap (texts_of_kind (layout_of kinds k)) (same_body n bytes more few)

-- ---- an error remains

fault_on : (fault : DecodeFault) (bytes more : List ℕ) → IsLastingFault fault → HasFault bytes fault → HasFault (bytes ++ more) fault
fault_on decoder.BadVersion bytes more rejection e = first_on bytes more (Some decoder.BadVersion) e (λ is. absurd cc)
fault_on decoder.BadKind bytes more rejection e = first_on bytes more (Some decoder.BadKind) e (λ is. absurd cc)
fault_on decoder.BadField bytes more rejection e = first_on bytes more (Some decoder.BadField) e (λ is. absurd cc)
fault_on decoder.TooLong bytes more rejection e = first_on bytes more (Some decoder.TooLong) e (λ is. absurd cc)
fault_on decoder.NotCanonical bytes more rejection carries = record {
  no_fault = first_on bytes more None carries.no_fault (λ is. absurd cc);
  no_text = subst (λ (texts : List (List ℕ)). HasOneOf IsNoText texts) (sym (texts_on bytes more carries.no_fault)) carries.no_text;
}
fault_on decoder.Memory bytes more rejection e = absurd rejection
fault_on decoder.Short bytes more rejection e = absurd rejection

pub wrong_on : (bytes more : List ℕ) (fault : DecodeFault) → IsWrong bytes fault → IsWrong (bytes ++ more) fault
wrong_on bytes more fault wrong = record {
  has_fault = fault_on fault bytes more wrong.rejection wrong.has_fault;
  rejection = wrong.rejection;
  never = λ later. subst (λ (t : List ℕ). BeginsWithNone t) (sym (append_assoc bytes more later)) (wrong.never (more ++ later));
}

-- ---- bytes have one error

-- the first failing check of bytes with this error
reported : DecodeFault → Option DecodeFault
reported decoder.NotCanonical = None
reported fault = Some fault

-- the error with this first failing check
back : Option DecodeFault → DecodeFault
back None = decoder.NotCanonical
back (Some fault) = fault

reported_back : (fault : DecodeFault) → back (reported fault) ≡ fault
unfolding back reported
reported_back decoder.NotCanonical = refl
reported_back decoder.BadVersion = refl
reported_back decoder.BadKind = refl
reported_back decoder.BadField = refl
reported_back decoder.TooLong = refl
reported_back decoder.Memory = refl
reported_back decoder.Short = refl

is_reported : (fault : DecodeFault) (bytes : List ℕ) → IsLastingFault fault → HasFault bytes fault → first_fault bytes ≡ reported fault
unfolding reported
is_reported decoder.NotCanonical bytes rejection carries = carries.no_fault
is_reported decoder.BadVersion bytes rejection e = e
is_reported decoder.BadKind bytes rejection e = e
is_reported decoder.BadField bytes rejection e = e
is_reported decoder.TooLong bytes rejection e = e
is_reported decoder.Memory bytes rejection e = absurd rejection
is_reported decoder.Short bytes rejection e = absurd rejection

pub one_error : (bytes : List ℕ) (fault other : DecodeFault) → IsWrong bytes fault → IsWrong bytes other → fault ≡ other
one_error bytes fault other wrong again =
    let same : reported fault ≡ reported other = sym (is_reported fault bytes wrong.rejection wrong.has_fault) ∙ is_reported other bytes again.rejection again.has_fault in
    sym (reported_back fault) ∙ ap back same ∙ reported_back other

-- ---- part of a message has no error

-- the checks after that of the kind, of part of a message
lacks_is_short : (v k : ℕ) (layout : Layout) (bytes : List ℕ) → layout_of kinds k ≡ Some layout → LacksBody layout bytes →
    first_failing (check_longest (length_in (v ∷ k ∷ bytes)) ∷ check_length (Some layout) (length_in (v ∷ k ∷ bytes)) ∷ check_whole (length_in (v ∷ k ∷ bytes)) (behind_header (v ∷ k ∷ bytes))
    ∷ check_fields (Some layout) (body_in (v ∷ k ∷ bytes)) ∷ []) ≡ short
unfolding length_in
lacks_is_short v k layout [] known lacks = refl
lacks_is_short v k layout (a ∷ []) known lacks = refl
lacks_is_short v k layout (a ∷ b ∷ []) known lacks = refl
lacks_is_short v k layout (a ∷ b ∷ c ∷ []) known lacks = refl
lacks_is_short v k layout (a ∷ b ∷ c ∷ d ∷ bytes) known (inl few) = absurd (omega (arith, few))
lacks_is_short v k layout (a ∷ b ∷ c ∷ d ∷ bytes) known (inr lacks) =
    let n : ℕ = from_be_bytes w32 (a ∷ b ∷ c ∷ d ∷ []) in
    rw (le-ltb most_body_bytes n (body_within k layout n known lacks.0), lacks.0, lt-ltb (length bytes) n (omega (arith, lacks.1))) refl

part_is_short : (bytes : List ℕ) → IsUnfinished bytes → first_fault bytes ≡ short
unfolding first_fault layout_in length_in
part_is_short [] unfinished = refl
part_is_short (v ∷ []) same = rw same refl
part_is_short (v ∷ k ∷ bytes) unfinished =
    rw (unfinished.0, unfinished.1.1) (lacks_is_short v k unfinished.1.0 bytes unfinished.1.1 unfinished.1.2)

not_short : (fault : DecodeFault) → IsLastingFault fault → reported fault ≡ short → ⊥
unfolding reported
not_short decoder.NotCanonical rejection e = absurd cc
not_short decoder.BadVersion rejection e = absurd cc
not_short decoder.BadKind rejection e = absurd cc
not_short decoder.BadField rejection e = absurd cc
not_short decoder.TooLong rejection e = absurd cc
not_short decoder.Memory rejection e = absurd rejection
not_short decoder.Short rejection e = absurd rejection

pub no_error_in_part : (bytes : List ℕ) (fault : DecodeFault) → IsUnfinished bytes → IsWrong bytes fault → ⊥
no_error_in_part bytes fault unfinished wrong =
    not_short fault wrong.rejection (sym (is_reported fault bytes wrong.rejection wrong.has_fault) ∙ part_is_short bytes unfinished)
