-- Each query has an answer at each sequence that a history has.
use Rattle.std.proofs.Common.{◌≡◌, ℕ, ◌≤◌, Bool, true, false, List, length, refl, arith}
use Rattle.std.specs.Prelude.{Option, None, Some, codes, nat_lt, Result, Ok, Err, ⊤, if◌then◌else◌}
use Rattle.std.specs.Char.{is_ascii_digit}
use Rattle.std.specs.List.{list_all}
use Rattle.std.proofs.lemmas.Bool.Decides.{nat_tests}
use Rattle.wf_def.specs.Definition.{Definition}
use Rattle.wf_picture.specs.Picture.{EachRequestHasAnImage}
use Rattle.wf_picture.specs.Request.{RequestValue}
use Rattle.wf_text.specs.Number.{number_of_digits}
use Rattle.wf_wms.specs.Answer.{AnswerValue, EachQueryHasAnAnswer, IsAnswerOf, IsAnswerOn, IsMapAnswer, metadata_answer, operation_of, picture_answer, rejection}
use Rattle.wf_wms.specs.MapRequest.{◌>>=◌, check_version, map_sequence, picture_in, sequence_in}
use Rattle.wf_wms.specs.Query.{pairs_of, parameter}
use Rattle.wf_wms.specs.declared.exception.Exception.{Exception}
use Rattle.wf_wms.specs.declared.exception.Exception.TheVariants as exception
use Rattle.wf_wms.specs.declared.exception.Parameter.TheVariants as parameters
use Rattle.wf_wms.specs.declared.checks.WmsOperation.{WmsOperation}
use Rattle.wf_wms.specs.declared.checks.WmsOperation.TheVariants.{Capabilities, Map}
use Rattle.wf_wms.proofs.HistoryTheorem.{map_there}
use Rattle.wf_wms.proofs.ServiceTheorem.{map_drawn, map_rejected, rejected}

-- ---- a MAPSEQ that passes its check names a map that is published

number_within : (s number m : ℕ) (above : Bool) → nat_lt s number ≡ above →
    (if above then Err exception.MapNotPublished else Ok number) ≡ Ok m → m ≤ s
number_within s number m true is passes = absurd (let impossible : ⊥ = cc in impossible)
number_within s number m false is passes = let same : number ≡ m = cc in grind (arith, nat_tests)

digits_within : (s number m : ℕ) (digits : Bool) →
    (if digits then (if nat_lt s number then Err exception.MapNotPublished else Ok number) else Err (exception.BadValue parameters.MapSequence)) ≡ Ok m → m ≤ s
digits_within s number m true passes = number_within s number m (nat_lt s number) refl passes
digits_within s number m false passes = absurd (let impossible : ⊥ = cc in impossible)

sequence_within : (s m : ℕ) (value : Option (List ℕ)) → sequence_in s value ≡ Ok m → m ≤ s
sequence_within s m None passes = let same : s ≡ m = cc in omega arith
sequence_within s m (Some text) passes = digits_within s (number_of_digits text) m (list_all is_ascii_digit text) passes

checked_within : (s m : ℕ) (version : Result ⊤ Exception) (value : Option (List ℕ)) → (version >>= λ _. sequence_in s value) ≡ Ok m → m ≤ s
checked_within s m (Ok x) value passes = sequence_within s m value passes
checked_within s m (Err e) value passes = absurd (let impossible : ⊥ = cc in impossible)

within : (s m : ℕ) (pairs : List (List ℕ × List ℕ)) → map_sequence s pairs ≡ Ok m → m ≤ s
unfolding map_sequence
within s m pairs passes = checked_within s m (check_version (parameter (codes "VERSION") pairs)) (parameter (codes "MAPSEQ") pairs) passes

-- ---- an answer to each operation

record Answers (operation : Result WmsOperation Exception) (s : ℕ) (history : List Definition) (pairs : List (List ℕ × List ℕ)) : Type 0 where
  answer : AnswerValue
  is : IsAnswerOn operation s history pairs answer

record Draws (map : Definition) (asked : Result RequestValue Exception) : Type 0 where
  answer : AnswerValue
  is : IsMapAnswer map asked answer

drawn : EachRequestHasAnImage → (map : Definition) (asked : Result RequestValue Exception) → Draws map asked
drawn images map (Err e) = record { answer = rejection e; is = refl }
drawn images map (Ok request) =
    let found = images map request in
    record { answer = picture_answer found.bytes; is = record { of_kind = refl; of_media = refl; image = found.is } }

map_answer : EachRequestHasAnImage → (s : ℕ) (history : List Definition) (pairs : List (List ℕ × List ℕ)) → s ≤ length history →
    (asked : Result ℕ Exception) → map_sequence s pairs ≡ asked → Answers (Ok Map) s history pairs
map_answer images s history pairs low (Err e) failed = record { answer = rejection e; is = map_rejected s history pairs e (rejection e) low failed refl }
map_answer images s history pairs low (Ok number) asked =
    let published = within s number pairs asked in
    let there = map_there history number (omega arith) in
    let picture = drawn images there.0 (picture_in there.0 pairs) in
    record { answer = picture.answer; is = map_drawn s history pairs number there.0 picture.answer asked there.1 picture.is }

operation_answer : EachRequestHasAnImage → (operation : Result WmsOperation Exception) (s : ℕ) (history : List Definition) (pairs : List (List ℕ × List ℕ)) →
    s ≤ length history → Answers operation s history pairs
operation_answer images (Err e) s history pairs low =
    record { answer = rejection e; is = rejected (Err e) s history pairs e (rejection e) low refl refl }
operation_answer images (Ok Capabilities) s history pairs low =
    let there = map_there history s low in
    record { answer = metadata_answer s there.0 pairs; is = record { map = there.0; is_published = there.1; is_answer = refl } }
operation_answer images (Ok Map) s history pairs low = map_answer images s history pairs low (map_sequence s pairs) refl

pub an_answer : EachRequestHasAnImage → EachQueryHasAnAnswer
unfolding IsAnswerOf
an_answer images s history query low =
    let found = operation_answer images (operation_of (parameter (codes "REQUEST") (pairs_of query))) s history (pairs_of query) low in
    record { answer = found.answer; is = found.is }
