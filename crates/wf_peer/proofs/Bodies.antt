-- A greeting's bytes as a whole: how many they are, and where the number of replaced nodes is.
use Rattle.std.proofs.Common.{◌≡◌, ◌∙◌, ◌<◌, ◌≤◌, ◌+◌, ℕ, List, ◌++◌, length, take, drop, get_or, refl, sym, ap, append_assoc, arith, length-append}
use Rattle.std.specs.Prelude.{Option}
use Rattle.std.specs.Int.{w16, to_be_bytes}
use Rattle.std.proofs.lemmas.List.{get_or_append_left, get_or-append_right, length-take, take-append-drop, take-append-le}
use Rattle.wf_peer.specs.Greeting.{AreTold, HasFixedParts, IsGreeting, body_bytes, fixed_bytes, greeting_bytes, greeting_length, greeting_mark, peer_version, plain, told_bytes, told_length}
use Rattle.wf_peer.specs.declared.greeting.Greeting.{Greeting}
use Rattle.wf_peer.proofs.Decoded.{behind_front, length_of_fixed, take_front}
use Rattle.wf_peer.proofs.ToldReplacements.{length_of_told_after}
use Rattle.wf_rejoin.specs.Replacements.{known_count}
use Rattle.wf_rejoin.specs.declared.replacement.Replacement.{Replacement}

-- ---- the numbers of bytes

pub length_of_told : (known : List (Option Replacement)) (voted : ℕ) → AreTold known voted → length (told_bytes known voted) ≡ 1 + told_length (known_count known)
unfolding told_bytes
length_of_told known voted told = omega (arith, length_of_told_after (known_count known) known voted told refl)

pub length_of_body : (g : Greeting) → IsGreeting g → length (body_bytes g) ≡ 122 + told_length (known_count g.replacements)
unfolding body_bytes
length_of_body g is =
    omega (arith, length-append (fixed_bytes g) (told_bytes g.replacements g.voted), length_of_fixed g is.fixed, length_of_told g.replacements g.voted is.told)

pub length_of_greeting : (g : Greeting) → IsGreeting g → length (greeting_bytes g) ≡ 132 + told_length (known_count g.replacements)
unfolding greeting_bytes
length_of_greeting g is = omega (arith, length_of_body g is)

-- ---- the number of replaced nodes

told_first : (known : List (Option Replacement)) (voted : ℕ) (rest : List ℕ) → get_or (told_bytes known voted ++ rest) 0 0 ≡ known_count known
unfolding told_bytes
told_first known voted rest = refl

count_in_body : (g : Greeting) (rest : List ℕ) → IsGreeting g → get_or (body_bytes g ++ rest) 121 0 ≡ known_count g.replacements
unfolding body_bytes
count_in_body g rest is =
    ap (λ (l : List ℕ). get_or l 121 0) (append_assoc (fixed_bytes g) (told_bytes g.replacements g.voted) rest)
    ∙ get_or-append_right (fixed_bytes g) (told_bytes g.replacements g.voted ++ rest) 121 121 0 (length_of_fixed g is.fixed) (omega arith)
    ∙ told_first g.replacements g.voted rest

count_in_greeting : (g : Greeting) (rest : List ℕ) → IsGreeting g → get_or (greeting_bytes g ++ rest) 131 0 ≡ known_count g.replacements
unfolding greeting_bytes
count_in_greeting g rest is =
    get_or-append_right (greeting_mark ++ to_be_bytes w16 peer_version) (body_bytes g ++ rest) 10 131 0 refl (omega arith)
    ∙ count_in_body g rest is

-- of bytes that go as far, it is the greeting's
pub count_read : (bytes more rest : List ℕ) (g : Greeting) → IsGreeting g → bytes ++ more ≡ greeting_bytes g ++ rest → 132 ≤ length bytes → get_or bytes 131 0 ≡ known_count g.replacements
count_read bytes more rest g is e far =
    sym (get_or_append_left bytes more 0 131 (omega (arith, far))) ∙ ap (λ (l : List ℕ). get_or l 131 0) e ∙ count_in_greeting g rest is

pub count_whole : (bytes more rest : List ℕ) (g : Greeting) (count length_read : ℕ) → IsGreeting g → bytes ++ more ≡ greeting_bytes g ++ rest → 132 ≤ length bytes → count ≡ get_or bytes 131 0 → length_read ≡ told_length count →
    132 + length_read ≡ length (greeting_bytes g)
count_whole bytes more rest g count length_read is e far read told =
    let same : count ≡ known_count g.replacements = read ∙ count_read bytes more rest g is e far in
    omega (arith, told, ap told_length same, length_of_greeting g is)

pub at_least : (g : Greeting) → IsGreeting g → 132 ≤ length (greeting_bytes g)
at_least g is = omega (arith, length_of_greeting g is)

-- two with which the same bytes begin tell of equally many replaced nodes, and so are as long
pub as_long : (g h : Greeting) (rest more : List ℕ) → IsGreeting g → IsGreeting h → greeting_bytes g ++ rest ≡ greeting_bytes h ++ more →
    length (greeting_bytes g) ≡ length (greeting_bytes h)
as_long g h rest more is also e =
    let same : known_count h.replacements ≡ known_count g.replacements =
    sym (count_read (greeting_bytes g) rest more h also e (at_least g is)) ∙ count_read (greeting_bytes g) rest rest g is refl (at_least g is) in
    omega (arith, ap told_length same, length_of_greeting g is, length_of_greeting h also)

-- ---- a greeting is what it is without replacements, and what it tells of these

pub whole_greeting : (g : Greeting) (known : List (Option Replacement)) (voted : ℕ) → known ≡ g.replacements → voted ≡ g.voted → ◌≡◌ {A = Greeting} (record g { replacements = known; voted = voted }) g
whole_greeting g known voted replacements sequence =
    ap (λ (k : List (Option Replacement)). record g { replacements = k; voted = voted }) replacements
    ∙ ap (λ (v : ℕ). record g { replacements = g.replacements; voted = v }) sequence

-- ---- it is written in two pieces

pub greeting_put : (t0 t1 t2 : List ℕ) (g : Greeting) → t1 ≡ t0 ++ (greeting_mark ++ (to_be_bytes w16 peer_version ++ fixed_bytes g)) → t2 ≡ t1 ++ told_bytes g.replacements g.voted → t2 ≡ t0 ++ greeting_bytes g
unfolding greeting_bytes body_bytes
greeting_put t0 t1 t2 g e1 e2 =
    e2 ∙ ap (λ (l : List ℕ). l ++ told_bytes g.replacements g.voted) e1
    ∙ append_assoc t0 (greeting_mark ++ (to_be_bytes w16 peer_version ++ fixed_bytes g)) (told_bytes g.replacements g.voted)

-- ---- it is read in two pieces

pub body_whole : (bytes fixed told rest : List ℕ) (g : Greeting) → fixed ≡ take 121 bytes → told ≡ drop 121 bytes → fixed ≡ fixed_bytes g → told ≡ told_bytes g.replacements g.voted ++ rest → bytes ≡ body_bytes g ++ rest
unfolding body_bytes
body_whole bytes fixed told rest g of_fixed of_told is_fixed is_told =
    sym (take-append-drop 121 bytes)
    ∙ ap (λ (l : List ℕ). l ++ drop 121 bytes) (sym of_fixed ∙ is_fixed)
    ∙ ap (λ (l : List ℕ). fixed_bytes g ++ l) (sym of_told ∙ is_told)
    ∙ sym (append_assoc (fixed_bytes g) (told_bytes g.replacements g.voted) rest)

pub body_parts : (bytes fixed told more rest : List ℕ) (g : Greeting) → HasFixedParts g → 121 ≤ length bytes → fixed ≡ take 121 bytes → told ≡ drop 121 bytes → bytes ++ more ≡ body_bytes g ++ rest →
    (fixed ≡ fixed_bytes g) × (told ++ more ≡ told_bytes g.replacements g.voted ++ rest)
unfolding body_bytes
body_parts bytes fixed told more rest g is far of_fixed of_told e =
    let whole : bytes ++ more ≡ fixed_bytes g ++ (told_bytes g.replacements g.voted ++ rest) = e ∙ append_assoc (fixed_bytes g) (told_bytes g.replacements g.voted) rest in
    let front : fixed ≡ fixed_bytes g = of_fixed ∙ sym (take-append-le 121 bytes more far) ∙ take_front 121 (bytes ++ more) (fixed_bytes g) _ (length_of_fixed g is) whole in
    let cut : bytes ≡ fixed_bytes g ++ told = sym (take-append-drop 121 bytes) ∙ ap (λ (l : List ℕ). l ++ drop 121 bytes) (sym of_fixed ∙ front) ∙ ap (λ (l : List ℕ). fixed_bytes g ++ l) (sym of_told) in
    (front, behind_front bytes told more (fixed_bytes g) (told_bytes g.replacements g.voted ++ rest) cut whole)

pub same_fixed : (g : Greeting) (known : List (Option Replacement)) (voted : ℕ) → fixed_bytes (record g { replacements = known; voted = voted }) ≡ fixed_bytes g
unfolding fixed_bytes
same_fixed g known voted = refl

pub has_parts : (g : Greeting) (known : List (Option Replacement)) (voted : ℕ) → HasFixedParts g → AreTold known voted → IsGreeting (record g { replacements = known; voted = voted })
has_parts g known voted parts told =
    record { fixed = record { farm = parts.farm; nodes = parts.nodes; node = parts.node; progress = parts.progress; digest = parts.digest }; told = told }

-- the greeting that was read in two pieces
pub read_whole : (plainly g : Greeting) (known : List (Option Replacement)) (voted : ℕ) → plainly ≡ plain g → known ≡ g.replacements → voted ≡ g.voted → ◌≡◌ {A = Greeting} (record plainly { replacements = known; voted = voted }) g
read_whole plainly g known voted same replacements sequence =
    ap (λ (x : Greeting). record x { replacements = known; voted = voted }) same ∙ whole_greeting g known voted replacements sequence

-- fewer than its least are less than those that it has
pub short_of_body : (bytes : List ℕ) (n : ℕ) → length bytes < 122 → length bytes < 122 + n
short_of_body bytes n less = omega (arith, less)

pub short_of_told : (bytes told : List ℕ) → told ≡ drop 121 bytes → 121 ≤ length bytes → length told < 1 + told_length (get_or told 0 0) → length bytes < 122 + told_length (get_or bytes 121 0)
short_of_told bytes told of_told far less =
    let whole : bytes ≡ take 121 bytes ++ told = sym (take-append-drop 121 bytes) ∙ ap (λ (l : List ℕ). take 121 bytes ++ l) (sym of_told) in
    let size : length (take 121 bytes) ≡ 121 = omega (arith, length-take 121 bytes, far) in
    let same : get_or bytes 121 0 ≡ get_or told 0 0 = ap (λ (l : List ℕ). get_or l 121 0) whole ∙ get_or-append_right (take 121 bytes) told 121 121 0 size (omega arith) in
    omega (arith, less, ap told_length same, size, ap length whole, length-append (take 121 bytes) told)

pub short_of_greeting : (bytes rest body : List ℕ) → bytes ≡ greeting_mark ++ rest → rest ≡ to_be_bytes w16 peer_version ++ body → length body < 122 + told_length (get_or body 121 0) → length bytes < greeting_length bytes
short_of_greeting bytes rest body marked versioned less =
    let whole : bytes ≡ (greeting_mark ++ to_be_bytes w16 peer_version) ++ body = marked ∙ ap (λ (l : List ℕ). greeting_mark ++ l) versioned in
    let same : get_or bytes 131 0 ≡ get_or body 121 0 = ap (λ (l : List ℕ). get_or l 131 0) whole ∙ get_or-append_right (greeting_mark ++ to_be_bytes w16 peer_version) body 10 131 0 refl (omega arith) in
    omega (arith, less, ap told_length same, ap length whole, length-append (greeting_mark ++ to_be_bytes w16 peer_version) body)
