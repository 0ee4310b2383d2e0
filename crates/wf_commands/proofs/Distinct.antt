-- No text is the listing of a file and of a folder: the one begins with an offset, the other with a
-- letter.
use Rattle.std.proofs.Common.{◌≡◌, ◌∙◌, ◌++◌, ℕ, suc, Bool, true, false, List, [], ◌∷◌, inl, inr, ap, arith, subst, sym, refl}
use Rattle.std.proofs.lemmas.Fmt.{decimal_digit}
use Rattle.std.specs.Prelude.{◌⊎◌, Option, Some, None, decimal, length, slice_index_or, zero}
use Rattle.wf_def.specs.Definition.{Definition}
use Rattle.wf_folder.specs.Admission.{is_there}
use Rattle.wf_folder.specs.declared.admission.Start.TheVariants as starts
use Rattle.wf_folder.specs.declared.farm_file.Beginning.{Beginning}
use Rattle.wf_folder.specs.declared.farm_file.Beginning.TheVariants as beginnings
use Rattle.wf_folder.specs.declared.presence.Presence.{Presence}
use Rattle.wf_folder.specs.declared.presence.Presence.TheVariants.{Absent}
use Rattle.wf_journal.specs.Records.{length_of}
use Rattle.wf_listing.specs.Listing.{record_line, record_lines, rest_line}
use Rattle.wf_listing.specs.declared.line.Rest.{Rest}
use Rattle.wf_listing.specs.declared.line.Rest.TheVariants as rests
use Rattle.wf_serve.specs.TapesTaken.{NumberedTape}
use Rattle.wf_serve.specs.declared.survey.Survey.{Survey}
use Rattle.wf_store.specs.Call.{Call}
use Rattle.wf_model.specs.DurableState.{Record, Tried, Promised, Accepted, Published}
use Rattle.wf_commands.specs.Folder.{AreListed, IsFolderListing, IsNextTape, ListingsAreDistinct, tape_line}
use Rattle.wf_commands.specs.FolderEnd.{IsLastLine, own_line}
use Rattle.wf_commands.specs.declared.folder_state.FolderState.{FolderState}
use Rattle.wf_commands.specs.declared.folder_state.FolderState.TheVariants as states

abbrev first_of : List ℕ → Option ℕ
first_of [] = None
first_of (x ∷ xs) = Some x

abbrev zero_digit : Option ℕ
zero_digit = Some 48

-- n, of a tape's name or a last line
abbrev n : Option ℕ
n = Some 110

-- w, of a last line
abbrev w : Option ℕ
w = Some 119

-- a text begins as its front does
begins_with : (c : ℕ) (front more : List ℕ) → first_of front ≡ Some c → first_of (front ++ more) ≡ Some c
begins_with c [] more is = let clash : None ≡ Some c = is in cc
begins_with c (x ∷ front) more is = is

-- ---- the listing of a file begins with the offset 0

zero_starts : (more : List ℕ) → first_of (decimal 0 ++ more) ≡ zero_digit
zero_starts more = begins_with 48 (decimal 0) more (ap first_of (decimal_digit 0 (omega arith)))

record_starts : (r : Record Definition) → first_of (record_line 0 r) ≡ zero_digit
record_starts (Tried round) = begins_with 48 _ _ (begins_with 48 _ _ (zero_starts _))
record_starts (Promised s b) = begins_with 48 _ _ (begins_with 48 _ _ (begins_with 48 _ _ (begins_with 48 _ _ (zero_starts _))))
record_starts (Accepted s b d) = begins_with 48 _ _ (begins_with 48 _ _ (begins_with 48 _ _ (begins_with 48 _ _ (begins_with 48 _ _ (begins_with 48 _ _ (zero_starts _))))))
record_starts (Published s d) = begins_with 48 _ _ (begins_with 48 _ _ (begins_with 48 _ _ (begins_with 48 _ _ (zero_starts _))))

rest_starts : (count : ℕ) (rest : Rest) → first_of (rest_line 0 count rest) ≡ zero_digit
rest_starts count rests.Nothing = zero_starts _
rest_starts count rests.Torn = begins_with 48 _ _ (begins_with 48 _ _ (begins_with 48 _ _ (begins_with 48 _ _ (zero_starts _))))
rest_starts count rests.Bad = begins_with 48 _ _ (begins_with 48 _ _ (begins_with 48 _ _ (begins_with 48 _ _ (zero_starts _))))

begins_at_0 : (records : List (Record Definition)) (count : ℕ) (rest : Rest) → first_of (record_lines 0 records ++ rest_line (length_of records) count rest) ≡ zero_digit
unfolding record_lines length_of
begins_at_0 [] count rest = rest_starts count rest
begins_at_0 (r ∷ records) count rest = begins_with 48 (record_lines 0 (r ∷ records)) _ (begins_with 48 (record_line 0 r) _ (record_starts r))

-- ---- that of a folder with a letter

-- the listings of tapes, if there are any
abbrev IsFront : List ℕ → Type 0
IsFront text = (text ≡ []) ⊎ (first_of text ≡ n)

front_after : (number : ℕ) (there : Bool) (before after : List NumberedTape) (calls later : List Call) (old new : List ℕ) → IsFront old →
    IsNextTape number there before after calls later old new → IsFront new
front_after number true before after calls later old new (inl empty) (bytes, more, is) =
    inr (ap first_of (more.named.is ∙ ap (λ front. front ++ (tape_line number ++ more.named.listing)) empty))
front_after number true before after calls later old new (inr letter) (bytes, more, is) =
    inr (ap first_of more.named.is ∙ begins_with 110 old (tape_line number ++ more.named.listing) letter)
front_after number false before after calls later old new front (same, unchanged, unread) = subst IsFront (sym same) front

is_front : (tapes : List Presence) (number : ℕ) (listed : List NumberedTape) (calls later : List Call) (text : List ℕ) → AreListed tapes number listed calls later text → IsFront text
unfolding AreListed
is_front tapes zero listed calls later text (none, empty, unread) = inl empty
is_front tapes (suc number) listed calls later text (before, front, middle, are, next) =
    front_after number (is_there (slice_index_or tapes number Absent)) before listed middle later front text (is_front tapes number before calls middle front are) next

abbrev BeginsWithLetter : List ℕ → Type 0
BeginsWithLetter text = (first_of text ≡ n) ⊎ (first_of text ≡ w)

own_letter : (nodes : ℕ) (beginning : Beginning) → first_of (own_line nodes beginning) ≡ w
own_letter nodes beginnings.Empty = refl
own_letter nodes beginnings.Found = refl

last_letter : (state : FolderState) (line : List ℕ) → IsLastLine state line → BeginsWithLetter line
last_letter (states.Farm nodes starts.New) line is = inl (ap first_of is)
last_letter (states.Farm nodes starts.TakenOver) line is = inr (ap first_of is)
last_letter (states.Farm nodes (starts.Own file)) line is = inr (ap first_of is ∙ own_letter nodes file.beginning)
last_letter (states.Node file) line is = inr (ap first_of is)
last_letter (states.Rejected cause) line (why, is) = inl (ap first_of is)
last_letter (states.NodeRejected rejection) line (why, is) = inl (ap first_of is)

folder_letter : (survey : Survey) (calls later : List Call) (text : List ℕ) → IsFolderListing survey calls later text → BeginsWithLetter text
folder_letter survey calls later text listing =
    elim (is_front survey.tapes (length survey.tapes) listing.listed listing.middle later listing.front listing.are_listed) [
      | inl empty ↦ subst BeginsWithLetter (sym (listing.is ∙ ap (λ front. front ++ listing.last) empty)) (last_letter listing.state listing.last listing.ends)
      | inr letter ↦ inl (ap first_of listing.is ∙ begins_with 110 listing.front listing.last letter)
    ]

pub distinct : ListingsAreDistinct
distinct bytes text survey calls later file folder =
    let zero_first : first_of text ≡ zero_digit = ap first_of file.lines ∙ begins_at_0 file.records (length file.left) file.rest in
    elim (folder_letter survey calls later text folder) [
      | inl letter ↦ (let clash : Some 48 ≡ Some 110 = sym zero_first ∙ letter in cc)
      | inr letter ↦ (let clash : Some 48 ≡ Some 119 = sym zero_first ∙ letter in cc)
    ]
