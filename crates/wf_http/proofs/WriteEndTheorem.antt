-- From the pieces written to the whole, or to how writing broke off.
use Rattle.std.proofs.Common.{◌≡◌, ◌∙◌, ◌+◌, ◌-◌, ◌≤◌, ◌^◌, ℕ, Bool, false, min, List, [], ◌++◌, length, take, drop, refl, sym, ap, subst, subst₂, arith}
use Rattle.std.specs.Prelude.{Some}
use Rattle.std.specs.Io.KnownBytes.{Appends, Keeps}
use Rattle.std.proofs.lemmas.List.{append_assoc, take-append-drop, take-append-le, length-append, length-take-le}
use Rattle.std.proofs.Math.Seq.{drop-append-add, take-append-add}
use Rattle.wf_stream.specs.KnownTheorems.{appends_keeps, appends_none, appends_more}
use Rattle.wf_stream.specs.Effects.{EndsByFailing, Rises}
use Rattle.wf_stream.specs.declared.stream.Sink.{Ghosts as Sink}
use Rattle.wf_http.specs.WriteEnd.{IsWriting, HasWritten, HasBroken, BreaksOff}
use Rattle.wf_http.specs.Response.{WritesPart}
use Rattle.wf_http.specs.declared.response.WriteProgress.{WriteProgress}

module _ {K : Type 0} (sinks : Sink K) where
  -- ---- piece by piece

  -- before the first piece
  pub writing_starts : (now : K) (progress : WriteProgress) → progress ≡ record { written = 0; failed = false }
      → IsWriting sinks now [] now progress.written progress.failed
  writing_starts now progress start =
      subst (λ (p : WriteProgress). IsWriting sinks now [] now p.written p.failed) (sym start)
      (record { whole = appends_none (sinks.written now); calm = refl; counts = refl })

  -- a piece was written
  pub writing_goes_on : (first old new : K) (bytes piece : List ℕ) (before after : ℕ) → Appends (sinks.written old) (sinks.written new) piece
      → sinks.failures new ≡ sinks.failures old → after ≡ min (before + length piece) (2 ^ 64 - 1)
      → HasWritten sinks first bytes old before → HasWritten sinks first (bytes ++ piece) new after
  writing_goes_on first old new bytes piece before after appends calm more so_far =
      let size = length-append bytes piece in
      let counted = so_far.counts in
      let is : after ≡ min (length bytes + length piece) (2 ^ 64 - 1) = omega arith in
      record {
        whole = appends_more (sinks.written first) (sinks.written old) (sinks.written new) bytes piece so_far.whole appends;
        calm = calm ∙ so_far.calm;
        counts = rw size is;
      }

  -- a piece broke off
  module _ (first old new : K) (bytes piece : List ℕ) (before count after : ℕ) (short : count ≤ length piece)
      (appends : Appends (sinks.written old) (sinks.written new) (take count piece)) (cause : Rises (sinks.failures old) (sinks.failures new))
      (ends : EndsByFailing sinks.written sinks.failures sinks.fails (take count piece) old new) (more : after ≡ min (before + count) (2 ^ 64 - 1))
      (so_far : HasWritten sinks first bytes old before) where
    part_is : bytes ++ take count piece ≡ take (length bytes + count) (bytes ++ piece)
    part_is = sym (take-append-add bytes piece count)

    within : length bytes + count ≤ length (bytes ++ piece)
    within = rw (length-append bytes piece) (omega (arith, short))

    counted : after ≡ min (length bytes + count) (2 ^ 64 - 1)
    counted = let counts = so_far.counts in omega (arith, counts, more)

    broken_part : WritesPart (bytes ++ piece) (sinks.written first) (sinks.written new) after
    broken_part = record {
      part = length bytes + count;
      within = within;
      appends = subst (λ bs. Appends (sinks.written first) (sinks.written new) bs) part_is
          (appends_more (sinks.written first) (sinks.written old) (sinks.written new) bytes (take count piece) so_far.whole appends);
      counts = counted;
    }

    broken_last : BreaksOff sinks (bytes ++ piece) first new after
    broken_last = record {
      part = length bytes + count;
      within = within;
      counts = counted;
      ends = record {
        before = ends.before;
        appended = subst (λ bs. Appends (sinks.written first) (sinks.written ends.before) bs) part_is
            (appends_more (sinks.written first) (sinks.written old) (sinks.written ends.before) bytes (take count piece) so_far.whole ends.appended);
        calm = ends.calm ∙ so_far.calm;
        failed = ends.failed;
      };
    }

    pub writing_breaks : HasBroken sinks first (bytes ++ piece) new after
    writing_breaks = record {
      part = broken_part;
      cause = subst (λ n. Rises n (sinks.failures new)) so_far.calm cause;
      last = broken_last;
    }

  -- what broke off stays so
  module _ (first now : K) (bytes piece : List ℕ) (count : ℕ) (broken : HasBroken sinks first bytes now count) where
    still_part : WritesPart (bytes ++ piece) (sinks.written first) (sinks.written now) count
    still_part = record {
      part = broken.part.part;
      within = let short = broken.part.within in rw (length-append bytes piece) (omega (arith, short));
      appends = subst (λ bs. Appends (sinks.written first) (sinks.written now) bs) (sym (take-append-le broken.part.part bytes piece broken.part.within)) broken.part.appends;
      counts = broken.part.counts;
    }

    still_last : BreaksOff sinks (bytes ++ piece) first now count
    still_last = record {
      part = broken.last.part;
      within = let short = broken.last.within in rw (length-append bytes piece) (omega (arith, short));
      counts = broken.last.counts;
      ends = record {
        before = broken.last.ends.before;
        appended = subst (λ bs. Appends (sinks.written first) (sinks.written broken.last.ends.before) bs)
            (sym (take-append-le broken.last.part bytes piece broken.last.within)) broken.last.ends.appended;
        calm = broken.last.ends.calm;
        failed = broken.last.ends.failed;
      };
    }

    pub writing_stays : HasBroken sinks first (bytes ++ piece) now count
    writing_stays = record { part = still_part; cause = broken.cause; last = still_last }

-- everything buffered from the start on is the bytes
pub gathered_is : {K : Type 0} (sinks : Sink K) (first now : K) (before bytes gathered : List ℕ) (count : ℕ) (failed : Bool) → sinks.written first ≡ Some before
    → sinks.written now ≡ Some gathered → before ≡ [] → failed ≡ false → IsWriting sinks first bytes now count failed → gathered ≡ bytes
gathered_is sinks first now before bytes gathered count failed was is none whole writing =
    let done = subst (λ (f : Bool). IsWriting sinks first bytes now count f) whole writing in
    let appended : gathered ≡ before ++ bytes = subst₂ (λ old new. Appends old new bytes) was is done.whole in
    appended ∙ ap (λ (b : List ℕ). b ++ bytes) none

-- ---- two pieces

take_pair : (one two : List ℕ) (count : ℕ) → count ≤ length one → take count (one ++ two) ≡ take count one
take_pair one two count short = take-append-le count one two short

-- what is left of the first of two pieces, and the second
pub rest_of_first : (bytes one two rest : List ℕ) (count : ℕ) → count ≤ length one → rest ≡ drop count one
    → ((bytes ++ take count (one ++ two)) ++ rest) ++ two ≡ bytes ++ (one ++ two)
rest_of_first bytes one two rest count short is =
    ap (λ (back : List ℕ). ((bytes ++ take count (one ++ two)) ++ back) ++ two) is
    ∙ ap (λ (front : List ℕ). ((bytes ++ front) ++ drop count one) ++ two) (take_pair one two count short)
    ∙ ap (λ (front : List ℕ). front ++ two) (append_assoc bytes (take count one) (drop count one) ∙ ap (λ (whole : List ℕ). bytes ++ whole) (take-append-drop count one))
    ∙ append_assoc bytes one two

-- what is left of the second
pub rest_of_second : (bytes one two rest : List ℕ) (count : ℕ) → length one ≤ count → rest ≡ drop (count - length one) two
    → (bytes ++ take count (one ++ two)) ++ rest ≡ bytes ++ (one ++ two)
rest_of_second bytes one two rest count long is =
    let index : length one + (count - length one) ≡ count = omega arith in
    let same : drop (count - length one) two ≡ drop count (one ++ two) =
    sym (drop-append-add one two (count - length one)) ∙ ap (λ (n : ℕ). drop n (one ++ two)) index in
    ap (λ (back : List ℕ). (bytes ++ take count (one ++ two)) ++ back) (is ∙ same)
    ∙ append_assoc bytes (take count (one ++ two)) (drop count (one ++ two))
    ∙ ap (λ (whole : List ℕ). bytes ++ whole) (take-append-drop count (one ++ two))

module _ {K : Type 0} (sinks : Sink K) where
  -- the first bytes of a piece were written
  pub writing_begins : (first old new : K) (bytes piece : List ℕ) (before count after : ℕ) → count ≤ length piece →
      Appends (sinks.written old) (sinks.written new) (take count piece) → sinks.failures new ≡ sinks.failures old → after ≡ min (before + count) (2 ^ 64 - 1) →
      HasWritten sinks first bytes old before → HasWritten sinks first (bytes ++ take count piece) new after
  writing_begins first old new bytes piece before count after short appends calm more so_far =
      writing_goes_on sinks first old new bytes (take count piece) before after appends calm
      (more ∙ ap (λ (n : ℕ). min (before + n) (2 ^ 64 - 1)) (sym (length-take-le count piece short))) so_far

  -- a call failed before any byte of a piece was written
  pub writing_fails : (first old new : K) (bytes piece : List ℕ) (before : ℕ) → Keeps (sinks.written old) (sinks.written new) →
      Rises (sinks.failures old) (sinks.failures new) → sinks.fails old new →
      HasWritten sinks first bytes old before → HasBroken sinks first (bytes ++ piece) new before
  writing_fails first old new bytes piece before keeps cause failed so_far =
      let counts = so_far.counts in
      writing_breaks sinks first old new bytes piece before 0 before (omega arith)
      (appends_keeps (sinks.written old) (sinks.written old) (sinks.written new) [] (appends_none (sinks.written old)) keeps) cause
      (record { before = old; appended = appends_none (sinks.written old); calm = refl; failed = failed })
      (omega (arith, counts)) so_far
