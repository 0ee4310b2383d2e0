-- Frames: a whole frame is split off whatever follows it, what is split off is at the front, an
-- error remains whatever follows, and the error of too few bytes means part of a frame.
use Rattle.std.proofs.Common.{◌≡◌, ℕ, ◌<◌, ◌≤◌, Bool, true, false, cond, ltb, List, [], ◌∷◌, ◌++◌, length, take, drop, Option, Some, None, Result, Ok, Err, refl, sym, ap, subst, ◌∙◌, length-append, arith, inl, inr}
use Rattle.std.proofs.Math.Seq.{take-append_seam}
use Rattle.std.proofs.lemmas.Bool.{ltb-true, ltb-false, lt-ltb, le-ltb}
use Rattle.std.proofs.lemmas.List.{take-append-drop, length-take}
use Rattle.std.proofs.lemmas.Nat.{from_be_bytes-to_be_bytes_4}
use Rattle.std.specs.Int.{w32, from_be_bytes, to_be_bytes}
use Rattle.wf_ballot.specs.Front.{AreBytes}
use Rattle.wf_ballot.specs.Field.{frame}
use Rattle.wf_ballot.specs.FrontTheorems.{four_bytes, AreBytes-take}
use Rattle.wf_frame.specs.declared.fault.FrameFault.{FrameFault}
use Rattle.wf_frame.specs.declared.fault.FrameFault.TheVariants.{Short, BadVersion, TooLong, BadLength}
use Rattle.wf_frame.specs.Layout.{Layout, fits, body_bytes, body_texts, read_body}
use Rattle.wf_frame.specs.Frame.{Format, IsFormat, HasBody, FrameFound, body_front, length_front, kind_front, frame_front, LacksBody, IsUnfinishedFrame}
use Rattle.wf_frame.specs.Theorem.{IsFramed, FramesAreRead, BodiesAreRead, Payload, IsPayload, NoneBeginsAnother}
use Rattle.wf_frame.specs.ReportTheorems.{AreBytes-rest}
use Rattle.wf_frame.specs.LayoutTheorems.{body_fits, body_again, body_stands, body_checked}

-- ---- a whole frame is split off

split_again : (format : Format) → IsFormat format → (version byte : ℕ) (layout : Layout) (n : ℕ) (bytes rest : List ℕ) → format.layout version byte ≡ Some layout → n ≡ length bytes →
    fits layout n ≡ true → body_front format version byte layout n (bytes ++ rest) ≡ Ok (version, byte, bytes)
unfolding body_front
split_again format is version byte layout n bytes rest known same has =
    let front : take n (bytes ++ rest) ≡ bytes = ap (λ (k : ℕ). take k (bytes ++ rest)) same ∙ take-append_seam bytes rest in
    rw (le-ltb format.longest n (is.within version byte layout n known has), has, le-ltb (length (bytes ++ rest)) n (omega (arith, same, length-append bytes rest)), front) refl

pub frame_again : (format : Format) → IsFormat format → (version byte : ℕ) (bytes rest : List ℕ) → HasBody format version byte bytes →
    frame_front format (frame version byte bytes ++ rest) ≡ Ok (version, byte, bytes)
unfolding frame frame_front kind_front length_front
frame_again format is version byte bytes rest has =
    let n : ℕ = length bytes in
    let within : n ≤ format.longest = is.within version byte has.layout n has.has_kind has.has_length in
    let again : from_be_bytes w32 (to_be_bytes w32 n) ≡ n = from_be_bytes-to_be_bytes_4 n (omega (arith, within, is.has_four_bytes)) in
    let has_again : fits has.layout (from_be_bytes w32 (to_be_bytes w32 n)) ≡ true = ap (fits has.layout) again ∙ has.has_length in
    rw (has.is_read, has.has_kind) (split_again format is version byte has.layout (from_be_bytes w32 (to_be_bytes w32 n)) bytes rest has.has_kind again has_again)

-- ---- what is split off is at the front

abbrev ok : {A : Type 0} → A → Result A FrameFault
ok x = Ok x

ok_is : {A : Type 0} (x y : A) → ok x ≡ ok y → x ≡ y
ok_is x y e = cc

-- what follows the version and the kind: the length, the body and a rest
record IsSized (layout : Layout) (bytes body : List ℕ) : Type 0 where
  rest : List ℕ
  parts : bytes ≡ to_be_bytes w32 (length body) ++ (body ++ rest)
  has_length : fits layout (length body) ≡ true
  body_bytes : AreBytes body

-- the test of a value that was returned is true
passed : {A : Type 0} (b : Bool) (fault : FrameFault) (r : Result A FrameFault) (y : A) → cond b r (Err fault) ≡ Ok y → (b ≡ true) × (r ≡ Ok y)
passed true fault r y e = (refl, e)
passed false fault r y e = absurd cc

-- the three tests after the length: is it too long, can the kind have it, are too few bytes there
abbrev tests : {A : Type 0} → Bool → Bool → Bool → A → Result A FrameFault
tests long has few x = cond long (Err TooLong) (cond has (cond few (Err Short) (Ok x)) (Err BadLength))

tests_passed : {A : Type 0} (long has few : Bool) (x y : A) → tests long has few x ≡ Ok y → (has ≡ true) × (few ≡ false) × (x ≡ y)
tests_passed true has few x y e = absurd cc
tests_passed false false few x y e = absurd cc
tests_passed false true true x y e = absurd cc
tests_passed false true false x y e = (refl, refl, ok_is x y e)

-- the version, the kind and the body that were split off
record IsSplit (o : Option Layout) (bytes : List ℕ) (v k version byte : ℕ) (body : List ℕ) : Type 0 where
  version_is : v ≡ version
  byte_is : k ≡ byte
  layout : Layout
  has_kind : o ≡ Some layout
  sized : IsSized layout bytes body

size_stands : (format : Format) (v k : ℕ) (o : Option Layout) (bytes : List ℕ) (version byte : ℕ) (body : List ℕ) → AreBytes bytes → length_front format v k o bytes ≡ Ok (version, byte, body) →
    IsSplit o bytes v k version byte body
unfolding length_front body_front
size_stands format v k None bytes version byte body fit e = absurd cc
size_stands format v k (Some layout) [] version byte body fit e = absurd cc
size_stands format v k (Some layout) (a ∷ []) version byte body fit e = absurd cc
size_stands format v k (Some layout) (a ∷ b ∷ []) version byte body fit e = absurd cc
size_stands format v k (Some layout) (a ∷ b ∷ c ∷ []) version byte body fit e = absurd cc
size_stands format v k (Some layout) (a ∷ b ∷ c ∷ d ∷ bytes) version byte body fit e =
    let n : ℕ = from_be_bytes w32 (a ∷ b ∷ c ∷ d ∷ []) in
    let stands = tests_passed {A = FrameFound} (ltb format.longest n) (fits layout n) (ltb (length bytes) n) (v, k, take n bytes) (version, byte, body) e in
    let number = four_bytes a b c d bytes fit in
    let same_body : take n bytes ≡ body = ap (λ (x : FrameFound). x.2) stands.2 in
    let enough = ltb-false (length bytes) n stands.1 in
    let same_length : length body ≡ n = omega (arith, ap length same_body, length-take n bytes) in
    let front : to_be_bytes w32 (length body) ≡ a ∷ b ∷ c ∷ d ∷ [] = ap (to_be_bytes w32) same_length ∙ number.0 in
    let back : body ++ drop n bytes ≡ bytes = ap (λ (t : List ℕ). t ++ drop n bytes) (sym same_body) ∙ take-append-drop n bytes in
    record {
      version_is = ap (λ (x : FrameFound). x.0) stands.2;
      byte_is = ap (λ (x : FrameFound). x.1) stands.2;
      layout = layout;
      has_kind = refl;
      sized = record {
        rest = drop n bytes;
        parts = sym (ap (λ (f : List ℕ). f ++ (body ++ drop n bytes)) front ∙ ap (λ (t : List ℕ). a ∷ b ∷ c ∷ d ∷ t) back);
        has_length = ap (fits layout) same_length ∙ stands.0;
        body_bytes = subst (λ (t : List ℕ). AreBytes t) same_body (AreBytes-take n bytes (AreBytes-rest (a ∷ b ∷ c ∷ d ∷ []) bytes fit));
      };
    }

-- the format has the frame that was split off
has_split : (format : Format) (v k version byte : ℕ) (layout : Layout) (body : List ℕ) → v ≡ version → k ≡ byte → format.is_read v ≡ true → format.layout v k ≡ Some layout →
    fits layout (length body) ≡ true → HasBody format version byte body
has_split format v k version byte layout body version_is byte_is own known has =
    record {
      is_read = subst (λ (x : ℕ). format.is_read x ≡ true) version_is own;
      layout = layout;
      has_kind = subst (λ (x : ℕ). format.layout version x ≡ Some layout) byte_is (subst (λ (x : ℕ). format.layout x k ≡ Some layout) version_is known);
      has_length = has;
    }

pub frame_stands : (format : Format) (bytes : List ℕ) (version byte : ℕ) (body : List ℕ) → AreBytes bytes → frame_front format bytes ≡ Ok (version, byte, body) →
    IsFramed format bytes version byte body
unfolding frame_front kind_front frame
frame_stands format [] version byte body fit e = absurd cc
frame_stands format (v ∷ []) version byte body fit e = let passes = passed {A = FrameFound} (format.is_read v) BadVersion (Err Short) (version, byte, body) e in absurd cc
frame_stands format (v ∷ k ∷ bytes) version byte body fit e =
    let passes = passed {A = FrameFound} (format.is_read v) BadVersion (length_front format v k (format.layout v k) bytes) (version, byte, body) e in
    let split = size_stands format v k (format.layout v k) bytes version byte body (AreBytes-rest (v ∷ k ∷ []) bytes fit) passes.1 in
    record {
      rest = split.sized.rest;
      parts = ap (λ (x : ℕ). x ∷ k ∷ bytes) split.version_is ∙ ap (λ (x : ℕ). version ∷ x ∷ bytes) split.byte_is ∙ ap (λ (t : List ℕ). version ∷ byte ∷ t) split.sized.parts;
      has_body = has_split format v k version byte split.layout body split.version_is split.byte_is passes.0 split.has_kind split.sized.has_length;
      body_bytes = split.sized.body_bytes;
    }

-- ---- an error remains, whatever follows

tests_go_on : {A : Type 0} (long has few few_on : Bool) (x y : A) (fault : FrameFault) → tests long has few x ≡ Err fault → (fault ≡ Short → ⊥) → tests long has few_on y ≡ Err fault
tests_go_on true has few few_on x y fault e not_short = cc
tests_go_on false false few few_on x y fault e not_short = cc
tests_go_on false true true few_on x y fault e not_short = let short : fault ≡ Short = cc in absurd (not_short short)
tests_go_on false true false few_on x y fault e not_short = absurd cc

length_goes_on : (format : Format) (v k : ℕ) (o : Option Layout) (bytes more : List ℕ) (fault : FrameFault) → length_front format v k o bytes ≡ Err fault → (fault ≡ Short → ⊥) →
    length_front format v k o (bytes ++ more) ≡ Err fault
unfolding length_front body_front
length_goes_on format v k None bytes more fault e not_short = e
length_goes_on format v k (Some layout) [] more fault e not_short = let short : fault ≡ Short = cc in absurd (not_short short)
length_goes_on format v k (Some layout) (a ∷ []) more fault e not_short = let short : fault ≡ Short = cc in absurd (not_short short)
length_goes_on format v k (Some layout) (a ∷ b ∷ []) more fault e not_short = let short : fault ≡ Short = cc in absurd (not_short short)
length_goes_on format v k (Some layout) (a ∷ b ∷ c ∷ []) more fault e not_short = let short : fault ≡ Short = cc in absurd (not_short short)
length_goes_on format v k (Some layout) (a ∷ b ∷ c ∷ d ∷ bytes) more fault e not_short =
    let n : ℕ = from_be_bytes w32 (a ∷ b ∷ c ∷ d ∷ []) in
    tests_go_on {A = FrameFound} (ltb format.longest n) (fits layout n) (ltb (length bytes) n) (ltb (length (bytes ++ more)) n) (v, k, take n bytes) (v, k, take n (bytes ++ more)) fault e not_short

kind_goes_on : (format : Format) (version : ℕ) (bytes more : List ℕ) (fault : FrameFault) → kind_front format version bytes ≡ Err fault → (fault ≡ Short → ⊥) →
    kind_front format version (bytes ++ more) ≡ Err fault
unfolding kind_front
kind_goes_on format version [] more fault e not_short = let short : fault ≡ Short = cc in absurd (not_short short)
kind_goes_on format version (byte ∷ bytes) more fault e not_short = length_goes_on format version byte (format.layout version byte) bytes more fault e not_short

version_goes_on : {A : Type 0} (b : Bool) (r s : Result A FrameFault) (fault : FrameFault) → (r ≡ Err fault → s ≡ Err fault) → cond b r (Err BadVersion) ≡ Err fault → cond b s (Err BadVersion) ≡ Err fault
version_goes_on true r s fault on e = on e
version_goes_on false r s fault on e = e

pub frame_goes_on : (format : Format) (bytes more : List ℕ) (fault : FrameFault) → frame_front format bytes ≡ Err fault → (fault ≡ Short → ⊥) →
    frame_front format (bytes ++ more) ≡ Err fault
unfolding frame_front
frame_goes_on format [] more fault e not_short = let short : fault ≡ Short = cc in absurd (not_short short)
frame_goes_on format (version ∷ bytes) more fault e not_short =
    version_goes_on (format.is_read version) (kind_front format version bytes) (kind_front format version (bytes ++ more)) fault (λ k. kind_goes_on format version bytes more fault k not_short) e

-- ---- Short means unfinished

tests_short : {A : Type 0} (long has few : Bool) (x : A) → tests long has few x ≡ Err Short → (has ≡ true) × (few ≡ true)
tests_short true has few x e = absurd cc
tests_short false false few x e = absurd cc
tests_short false true true x e = (refl, refl)
tests_short false true false x e = absurd cc

length_short : (format : Format) (v k : ℕ) (layout : Layout) (bytes : List ℕ) → length_front format v k (Some layout) bytes ≡ Err Short → LacksBody layout bytes
unfolding length_front body_front
length_short format v k layout [] e = inl (omega arith)
length_short format v k layout (a ∷ []) e = inl (omega arith)
length_short format v k layout (a ∷ b ∷ []) e = inl (omega arith)
length_short format v k layout (a ∷ b ∷ c ∷ []) e = inl (omega arith)
length_short format v k layout (a ∷ b ∷ c ∷ d ∷ bytes) e =
    let n : ℕ = from_be_bytes w32 (a ∷ b ∷ c ∷ d ∷ []) in
    let stands = tests_short {A = FrameFound} (ltb format.longest n) (fits layout n) (ltb (length bytes) n) (v, k, take n bytes) e in
    let few : length bytes < n = ltb-true (length bytes) n stands.1 in
    inr (stands.0, omega (arith, few))

kind_short : (format : Format) (v k : ℕ) (o : Option Layout) (bytes : List ℕ) → length_front format v k o bytes ≡ Err Short → (layout : Layout) × (o ≡ Some layout) × LacksBody layout bytes
unfolding length_front
kind_short format v k None bytes e = absurd cc
kind_short format v k (Some layout) bytes e = (layout, refl, length_short format v k layout bytes e)

version_short : {A : Type 0} (b : Bool) (r : Result A FrameFault) → cond b r (Err BadVersion) ≡ Err Short → (b ≡ true) × (r ≡ Err Short)
version_short true r e = (refl, e)
version_short false r e = absurd cc

pub short_is_unfinished : (format : Format) (bytes : List ℕ) → frame_front format bytes ≡ Err Short → IsUnfinishedFrame format bytes
unfolding frame_front kind_front
short_is_unfinished format [] e = tt
short_is_unfinished format (version ∷ []) e = (version_short {A = FrameFound} (format.is_read version) (Err Short) e).0
short_is_unfinished format (version ∷ byte ∷ bytes) e =
    let v = version_short {A = FrameFound} (format.is_read version) (length_front format version byte (format.layout version byte) bytes) e in
    (v.0, kind_short format version byte (format.layout version byte) bytes v.1)

body_is_short : (format : Format) → IsFormat format → (v k : ℕ) (layout : Layout) (n : ℕ) (bytes : List ℕ) → format.layout v k ≡ Some layout → fits layout n ≡ true → length bytes < n →
    body_front format v k layout n bytes ≡ Err Short
unfolding body_front
body_is_short format is v k layout n bytes known has few = rw (le-ltb format.longest n (is.within v k layout n known has), has, lt-ltb (length bytes) n few) refl

length_is_short : (format : Format) → IsFormat format → (v k : ℕ) (layout : Layout) (bytes : List ℕ) → format.layout v k ≡ Some layout → LacksBody layout bytes →
    length_front format v k (Some layout) bytes ≡ Err Short
unfolding length_front
length_is_short format is v k layout [] known lacks = refl
length_is_short format is v k layout (a ∷ []) known lacks = refl
length_is_short format is v k layout (a ∷ b ∷ []) known lacks = refl
length_is_short format is v k layout (a ∷ b ∷ c ∷ []) known lacks = refl
length_is_short format is v k layout (a ∷ b ∷ c ∷ d ∷ bytes) known (inl few) = absurd (omega (arith, few))
length_is_short format is v k layout (a ∷ b ∷ c ∷ d ∷ bytes) known (inr lacks) =
    body_is_short format is v k layout (from_be_bytes w32 (a ∷ b ∷ c ∷ d ∷ [])) bytes known lacks.0 (omega (arith, lacks.1))

pub unfinished_is_short : (format : Format) → IsFormat format → (bytes : List ℕ) → IsUnfinishedFrame format bytes → frame_front format bytes ≡ Err Short
unfolding frame_front kind_front
unfinished_is_short format is [] unfinished = refl
unfinished_is_short format is (version ∷ []) same = rw same refl
unfinished_is_short format is (version ∷ byte ∷ bytes) unfinished =
    rw (unfinished.0, unfinished.1.1) (length_is_short format is version byte unfinished.1.0 bytes unfinished.1.1 unfinished.1.2)

pub frames_are_read : (format : Format) → IsFormat format → FramesAreRead format
frames_are_read format is = record {
  whole = frame_again format is;
  front = frame_stands format;
  remains = frame_goes_on format;
  short = λ bytes. (short_is_unfinished format bytes, unfinished_is_short format is bytes);
}

-- No frame is a prefix of another's: bytes that begin with both are cut into one.
pub one_frame : (format : Format) → IsFormat format → (v k version byte : ℕ) (x y after_x after_y : List ℕ) → HasBody format v k x → HasBody format version byte y →
    frame v k x ++ after_x ≡ frame version byte y ++ after_y → ◌≡◌ {A = FrameFound} (v, k, x) (version, byte, y)
one_frame format is v k version byte x y after_x after_y has_x has_y e =
    ok_is {A = FrameFound} (v, k, x) (version, byte, y) (sym (frame_again format is v k x after_x has_x) ∙ ap (frame_front format) e ∙ frame_again format is version byte y after_y has_y)

-- ---- bodies

pub bodies_are_read : BodiesAreRead
bodies_are_read = record {
  fit = body_fits;
  again = λ layout body is. body_again layout body (λ b. b) is;
  stand = λ layout bytes body fit has e.
      let stands = body_stands layout bytes (λ b. b) body fit has e in
      stands.spelled ∙ ap (body_bytes layout) stands.makes;
  checked = λ layout bytes. body_checked layout bytes (λ b. b) (body_texts layout) (λ b. refl);
}

-- what a frame says
abbrev read_as : ℕ → ℕ → List ℕ → Option Layout → Option Payload
read_as version byte bytes None = None
read_as version byte bytes (Some layout) = read_body layout bytes (λ body. record { version = version; byte = byte; layout = layout; body = body })

abbrev read_payload : Format → FrameFound → Option Payload
read_payload format found = read_as found.0 found.1 found.2 (format.layout found.0 found.1)

some_same : {A : Type 0} (x y : A) → Some x ≡ Some y → x ≡ y
some_same x y e = cc

-- the bytes of its body
abbrev payload_body : Payload → List ℕ
payload_body x = body_bytes x.layout x.body

payload_has : (format : Format) (x : Payload) → IsPayload format x → HasBody format x.version x.byte (payload_body x)
payload_has format x is = record { is_read = is.is_read; layout = x.layout; has_kind = is.has_kind; has_length = body_fits x.layout x.body is.is_body }

payload_again : (format : Format) (x : Payload) → IsPayload format x → read_payload format (x.version, x.byte, payload_body x) ≡ Some x
payload_again format x is =
    ap (read_as x.version x.byte (payload_body x)) is.has_kind
    ∙ body_again x.layout x.body (λ body. record { version = x.version; byte = x.byte; layout = x.layout; body = body }) is.is_body

pub none_begins_another : (format : Format) → IsFormat format → NoneBeginsAnother format
none_begins_another format is x y after_x after_y is_x is_y e =
    let same = one_frame format is x.version x.byte y.version y.byte (payload_body x) (payload_body y) after_x after_y (payload_has format x is_x) (payload_has format y is_y) e in
    some_same {A = Payload} x y (sym (payload_again format x is_x) ∙ ap (read_payload format) same ∙ payload_again format y is_y)
