-- The canonical text of a map means that map.
use Rattle.std.proofs.Common.{subst, ◌≡◌, ℕ, ◌<◌, ◌≤◌, Bool, true, false, not, ◌&&◌, cond, leb, nat_le, List, [], ◌∷◌, length, Option, Some, None, Err, refl, sym, ap, ◌∙◌, arith}
use Rattle.std.specs.Prelude.{codes, IfSome}
use Rattle.std.specs.List.{list_all}
use Rattle.std.specs.Str.{is_utf8, bytes_eq}
use Rattle.std.proofs.lemmas.Slice.Eq.{bytes_eq-Decides}
use Rattle.std.proofs.lemmas.Bool.Decides.{nat_tests}
use Rattle.std.proofs.lemmas.List.{append-nil}
use Rattle.std.proofs.lemmas.List.Folds.{list_all-append}
use Rattle.wf_text.specs.Booleans.{and_left, and_right}
use Rattle.wf_def.specs.Definition.{Definition}
use Rattle.wf_def.specs.Limits.{IsWithinLimits}
use Rattle.wf_block.specs.Token.{Token, Word, Between, without_mark, tokens, tokens_from}
use Rattle.wf_block.specs.Grammar.{◌>>=◌, word}
use Rattle.wf_mapfile.specs.Meaning.{file, longest_mapfile, meaning, Means, MeansNothing}
use Rattle.wf_block.specs.ReadContract.{IsNotUtf8, is_memory}
use Rattle.wf_block.specs.declared.fault.MapFault.{MapFault}
use Rattle.wf_block.specs.declared.fault.MapFault.TheVariants as reading
use Rattle.wf_block.specs.Spelling.{is_written, are_written, line}
use Rattle.wf_spelling.specs.Canon.{map_lines, canon, most_canon_bytes, IsCanon, IsCauseOf}
use Rattle.wf_spelling.specs.declared.fault.CanonFault.{CanonFault}
use Rattle.wf_spelling.specs.declared.fault.CanonFault.TheVariants.{TooBig, NotCanonical, Memory}
use Rattle.wf_canon.specs.TextMeaning.{Denotes}
use Rattle.wf_canon.specs.CanonFault.{HasNoCanon, IsWhyRejected, reject_again}
use Rattle.wf_block.specs.Spelling.{tokens_of}
use Rattle.wf_block.specs.SpellingTheorems.{lex_text}
use Rattle.wf_block.specs.Utf8Theorems.{text_of-is_utf8}
use Rattle.wf_canon.proofs.Steps.{inside, is_keyword}
use Rattle.wf_canon.proofs.MapTheorem.{map_again}

-- ---- the text is read

file_again : (d : Definition) → IsWithinLimits d → file (tokens_of (map_lines d)) ≡ Some d
unfolding file word
file_again d h =
    ap (λ (ts : List Token). file (Word (codes "MAP") ∷ ts)) (sym (append-nil (tokens_of (inside (map_lines d))))) ∙ rw ((map_again d h).read []) refl

lines_are_written : (lines : List (List Token)) → list_all is_written (tokens_of lines) ≡ true → are_written lines ≡ true
lines_are_written [] e = refl
lines_are_written (l ∷ lines) e =
    let all : (list_all is_written l && list_all is_written (tokens_of lines)) ≡ true = sym (list_all-append is_written l (tokens_of lines)) ∙ e in
    rw (and_left (list_all is_written l) (list_all is_written (tokens_of lines)) all) (lines_are_written lines (and_right (list_all is_written l) (list_all is_written (tokens_of lines)) all))

map_is_written : (d : Definition) → IsWithinLimits d → are_written (map_lines d) ≡ true
unfolding is_keyword
map_is_written d h = lines_are_written (map_lines d) (map_again d h).written

no_mark : (d : Definition) → without_mark (canon d) ≡ canon d
unfolding without_mark canon line
no_mark d = refl

tokens_again : (d : Definition) → IsWithinLimits d → tokens (canon d) ≡ Some (tokens_of (map_lines d))
unfolding tokens canon
tokens_again d h = ap (tokens_from Between) (no_mark d) ∙ lex_text (map_lines d) (map_is_written d h)

pub canon_again : (d : Definition) → IsWithinLimits d → (tokens (canon d) >>= file) ≡ Some d
canon_again d h = ap (λ (ts : Option (List Token)). ts >>= file) (tokens_again d h) ∙ file_again d h

pub canon-is_utf8 : (d : Definition) → IsWithinLimits d → is_utf8 (canon d) ≡ true
unfolding canon
canon-is_utf8 d h = text_of-is_utf8 (map_lines d) (map_is_written d h)

pub canon_denotes : (d : Definition) → IsWithinLimits d → Denotes (canon d) d
canon_denotes d h = record { utf8 = canon-is_utf8 d h; settings = canon_again d h }

pub canon_means : (d : Definition) → IsWithinLimits d → length (canon d) ≤ longest_mapfile → Means (canon d) d
unfolding meaning
canon_means d h short =
    let fits : leb (length (canon d)) longest_mapfile ≡ true = grind (arith, nat_tests) in
    rw (fits, canon-is_utf8 d h) (canon_again d h)

abbrev some_of : Definition → Option Definition
some_of d = Some d

some_is : (d e : Definition) → some_of d ≡ some_of e → d ≡ e
some_is d e same = cc

pub one_definition : (d e : Definition) → IsWithinLimits d → IsWithinLimits e → canon d ≡ canon e → d ≡ e
one_definition d e h g same =
    some_is d e (sym (canon_again d h) ∙ ap (λ (bytes : List ℕ). tokens bytes >>= file) same ∙ canon_again e g)

-- bytes that mean nothing aren't a map's text
pub unread_has_no_canon : (bytes : List ℕ) → length bytes ≤ most_canon_bytes → MeansNothing bytes → HasNoCanon bytes
unread_has_no_canon bytes short none d h e =
    let short_text : length (canon d) ≤ longest_mapfile = rw e (omega arith) in
    none d (sym (ap meaning e) ∙ canon_means d h short_text)

-- bytes that mean a map are no map's text unless they are that map's text
pub other_has_no_canon : (bytes text : List ℕ) (def : Definition) → length bytes ≤ most_canon_bytes → Means bytes def → text ≡ canon def → (text ≡ bytes → ⊥) → HasNoCanon bytes
other_has_no_canon bytes text def short meant spelled other d h e =
    let short_text : length (canon d) ≤ longest_mapfile = rw e (omega arith) in
    let means : meaning (canon d) ≡ Some d = canon_means d h short_text in
    let one : some_of def ≡ some_of d = sym meant ∙ sym (ap meaning e) ∙ means in
    other (spelled ∙ ap canon (some_is def d one) ∙ e)

-- bytes within the limit are no map's text if the map that they mean has a text over the limit
pub long_has_no_canon : (bytes : List ℕ) (def : Definition) → length bytes ≤ most_canon_bytes → Means bytes def → most_canon_bytes < length (canon def) → HasNoCanon bytes
long_has_no_canon bytes def short meant long =
    other_has_no_canon bytes (canon def) def short meant refl (λ same. let e : length (canon def) ≡ length bytes = ap length same in absurd (omega arith))

unread_if : (within : Bool) (read : Option Definition) → cond (within && false) read None ≡ None
unread_if true read = refl
unread_if false read = refl

-- bytes that mean a map are UTF-8
pub means-is_utf8 : (bytes : List ℕ) (def : Definition) (utf8 : Bool) → is_utf8 bytes ≡ utf8 → Means bytes def → is_utf8 bytes ≡ true
unfolding meaning
means-is_utf8 bytes def true is meant = is
means-is_utf8 bytes def false is meant =
    let unread : meaning bytes ≡ None = rw is (unread_if (nat_le (length bytes) longest_mapfile) (tokens bytes >>= file)) in
    let none : None ≡ some_of def = sym unread ∙ meant in
    absurd (let impossible : ⊥ = cc in impossible)

pub why_rejected_again : (fault : CanonFault) (bytes : List ℕ) (def : Definition) → length bytes ≤ most_canon_bytes → Means bytes def → IsCauseOf fault def → IsWhyRejected (reject_again fault) bytes
why_rejected_again TooBig bytes def short meant long = long_has_no_canon bytes def short meant long
why_rejected_again NotCanonical bytes def short meant none = absurd none
why_rejected_again Memory bytes def short meant few = (short, means-is_utf8 bytes def (is_utf8 bytes) refl meant)

pub unlike : (xs ys : List ℕ) → true ≡ not (bytes_eq xs ys) → xs ≡ ys → ⊥
unlike xs ys e same =
    let eq : bytes_eq xs ys ≡ true = (bytes_eq-Decides xs ys).1 same in
    absurd cc

-- allocation fails only for UTF-8: other bytes are rejected as such
memory-is_utf8 : (fault : MapFault) (bytes : List ℕ) (utf8 : Bool) → is_utf8 bytes ≡ utf8 → is_memory fault ≡ true
    → (is_utf8 bytes ≡ false → IsNotUtf8 {X = Definition} (Err fault)) → is_utf8 bytes ≡ true
memory-is_utf8 fault bytes true is memory none = is
memory-is_utf8 reading.Memory bytes false is memory none = absurd (none is)
memory-is_utf8 _ bytes false is memory none = absurd (let impossible : ⊥ = cc in impossible)

-- the meaning of the reader's error, for allocation failure and for others
why_unread_by : (memory : Bool) (unread : MapFault) (fault : CanonFault) (bytes : List ℕ) → length bytes ≤ most_canon_bytes → is_memory unread ≡ memory
    → fault ≡ cond memory Memory NotCanonical → (is_utf8 bytes ≡ false → IsNotUtf8 {X = Definition} (Err unread)) → (memory ≡ false → MeansNothing bytes)
    → IsWhyRejected fault bytes
why_unread_by true unread fault bytes short kind is utf8 none = rw is (short, memory-is_utf8 unread bytes (is_utf8 bytes) refl kind utf8)
why_unread_by false unread fault bytes short kind is utf8 none = rw is (unread_has_no_canon bytes short (none refl))

pub why_unread : (unread : MapFault) (fault : CanonFault) (bytes : List ℕ) → length bytes ≤ most_canon_bytes → fault ≡ cond (is_memory unread) Memory NotCanonical
    → (length bytes ≤ longest_mapfile → is_utf8 bytes ≡ false → IsNotUtf8 {X = Definition} (Err unread)) → (is_memory unread ≡ false → MeansNothing bytes)
    → IsWhyRejected fault bytes
why_unread unread fault bytes short is utf8 none =
    why_unread_by (is_memory unread) unread fault bytes short refl is (λ other. utf8 (omega arith) other) none

-- bytes that are a canonical text mean their map
canonical_means : (bytes : List ℕ) (d : Definition) → IsCanon bytes d → Means bytes d
canonical_means bytes d is =
    let short_text : length (canon d) ≤ longest_mapfile = let e : length bytes ≡ length (canon d) = ap length is.spelled in let short = is.short in omega arith in
    subst (λ (text : List ℕ). Means text d) (sym is.spelled) (canon_means d is.within short_text)

pub scanned_means : (bytes : List ℕ) (d : Definition) (result : Option Definition) → IsCanon bytes d → IfSome result (λ c. c ≡ d) → IfSome result (Means bytes)
scanned_means bytes d None is none = tt
scanned_means bytes d (Some c) is same = subst (λ (x : Definition). Means bytes x) (sym same) (canonical_means bytes d is)
