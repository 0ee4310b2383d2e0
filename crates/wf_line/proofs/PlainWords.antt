-- How the parser parses arguments without a leading hyphen.
use Rattle.std.proofs.Common.{◌≡◌, ◌∙◌, ◌==◌, ◌&&◌, ◌||◌, cond, drop, subst, if◌then◌else◌, ◌≤◌, not, ℕ, List, [], ◌∷◌, true, false, sym, ap, refl, codes, arith, rules}
use Rattle.std.specs.Prelude.{option_and_then, Some, None, pos, neg_ℤ, ◌≤ℤ◌, FitsSigned}
use Rattle.std.specs.Str.{bytes_eq}
use Rattle.std.specs.Str.Parse.{IsNumeral, digits_value, signed_digits_value, starts_with_minus, without_leading_plus, without_leading_sign}
use Rattle.std.specs.List.{list_all}
use Rattle.std.specs.Option.{option_map_or}
use Rattle.std.proofs.lemmas.Int.{fits_signed_from_abs}
use mir.Syntax.{w64}
use Rattle.clap.proofs.OnLiterals.{clap_on_literals}
use Rattle.clap.proofs.ValueTestLemmas.{Accepts-accepts}
use Rattle.clap.specs.Lexer.{long_of, long_of_rest, short_of, short_of_rest, strip_byte}
use Rattle.clap.specs.Simple.{Shape, built_leaf, inherited, subcommand_of}
use Rattle.clap.specs.Takes.{bundle_passes, default_passes, flag_word_passes, is_valid, settle_passes, step_passes, takes, turn_passes, walk_passes, word_passes}
use Rattle.clap.specs.ValueTests.{accepts}
use Rattle.clap.specs.declared.builder.value_parser.ValueParser.TheVariants.{Signed}
use Rattle.clap.specs.Walk.{Held, Row, finished, nothing_held, pushed, settled, walk, Rule, Text, Walk, after_step, arg_by_index, first_of, idle, long_or_other, short_or_plain, trailing, to_positional, value, walk_from, walked, word_met}
use Rattle.wf_line.specs.CommandLine.{IsMapBy, caps_shape, draw_shape, tape_shape}
use Rattle.wf_line.specs.Program.{program}
use Rattle.wf_line.specs.Rejection.{JsonCheckIsAsked, PlainCanonIsAsked, PlainCapsIsAsked, PlainCheckIsAsked, PlainDrawIsAsked, PlainRunIsAsked, PlainTapeIsAsked, PlainWireIsAsked, is_plain}
use Rattle.wf_line.specs.Line.{SpellsSequence}
use Rattle.wf_line.specs.declared.command_line.Line.TheVariants as lines

-- the state of the walk over positionals
abbrev at : Held → ℕ → Walk
at held position = record { held = held; waiting = idle; position = position; is_trailing = false; stopped = None }

no_hyphen : (first : ℕ) → not (first == 45) ≡ true → (first == 45) ≡ false
no_hyphen first plain = grind (arith)

strip_none : (first : ℕ) (rest : Text) → (first == 45) ≡ false → strip_byte 45 (first ∷ rest) ≡ None
strip_none first rest e = ap (λ b. if b then Some rest else None) e

-- an argument without a leading hyphen isn't an option, nor the `--` that ends the options
pub no_option : (word : Text) → is_plain word ≡ true → (bytes_eq word (45 ∷ 45 ∷ []) ≡ false) × (long_of word ≡ None) × (short_of word ≡ None)
no_option [] plain = (refl, refl, refl)
no_option (first ∷ rest) plain =
    let e = no_hyphen first plain in (
      ap (λ b. b && bytes_eq rest (45 ∷ [])) e,
      ap (λ s. option_and_then long_of_rest (option_and_then (strip_byte 45) s)) (strip_none first rest e),
      ap (λ s. option_and_then short_of_rest s) (strip_none first rest e),
    )

-- it is taken as a positional
plain_met : (rules : List Rule) (held : Held) (position : ℕ) (word : Text) → is_plain word ≡ true
    → word_met rules [] false idle position word held ≡ (held, value)
plain_met rules held position word plain =
    let no = no_option word plain in
    ap (λ b. if b then (held, trailing position) else long_or_other rules idle word (long_of word) held) no.0
    ∙ ap (λ l. long_or_other rules idle word l held) no.1
    ∙ ap (λ s. short_or_plain rules idle word s held) no.2

plain_walked : (rules : List Rule) (held : Held) (position : ℕ) (word : Text) → is_plain word ≡ true
    → walked rules [] (at held position) word ≡ to_positional rules (arg_by_index rules position) word (at held position) held
unfolding walked
plain_walked rules held position word plain = ap (λ met. after_step rules word (at held position) met.0 met.1) (plain_met rules held position word plain)

abbrev caps_rules : List Rule
caps_rules = (built_leaf (inherited program.top caps_shape)).rules

-- the two arguments are parsed for SEQ and QUERY
found_words : (word query : Text) → is_plain word ≡ true → is_plain query ≡ true
    → walk caps_rules [] nothing_held (word ∷ query ∷ []) ≡ at (pushed (codes "QUERY") query (settled caps_rules (pushed (codes "SEQ") word nothing_held))) 3
unfolding clap_on_literals
found_words word query plain_word plain_query =
    ap (λ w. walked caps_rules [] w query) (plain_walked caps_rules nothing_held 1 word plain_word)
    ∙ plain_walked caps_rules (pushed (codes "SEQ") word nothing_held) 2 query plain_query

pub caps_rows : (word query : Text) → is_plain word ≡ true → is_plain query ≡ true
    → (rows : List Row) × (subcommand_of program (codes "caps" ∷ word ∷ query ∷ []) ≡ Some (codes "caps", rows))
    × (first_of (codes "SEQ") rows ≡ Some word) × (first_of (codes "QUERY") rows ≡ Some query)
unfolding clap_on_literals
caps_rows word query plain_word plain_query =
    (_, ap (λ w. Some (codes "caps", finished caps_rules w.held)) (found_words word query plain_word plain_query), refl, refl)

-- ---- the parser accepts them

word_taken : (s : Shape) (held : Held) (word : Text) → is_plain word ≡ true → word_passes s [] false idle word held ≡ true
word_taken s held word plain =
    let no = no_option word plain in
    ap (λ b. b || flag_word_passes s.rules s.args_override_self (long_of word) word held) no.0
    ∙ ap (λ l. flag_word_passes s.rules s.args_override_self l word held) no.1
    ∙ ap (λ f. option_map_or (λ flags. bundle_passes s.rules s.args_override_self flags held) f true) no.2

turn_taken : (s : Shape) (held : Held) (position : ℕ) (word : Text) → is_plain word ≡ true
    → turn_passes s [] (at held position) word ≡ step_passes s position held value
turn_taken s held position word plain =
    ap (λ b. b && step_passes s position (word_met s.rules [] false idle position word held).0 (word_met s.rules [] false idle position word held).1)
    (word_taken s held word plain)
    ∙ ap (λ met. step_passes s position met.0 met.1) (plain_met s.rules held position word plain)

no_minus : (word : Text) → is_plain word ≡ true → starts_with_minus word ≡ false
no_minus [] plain = refl
no_minus (first ∷ rest) plain = no_hyphen first plain

sequence_accepted : (word : Text) (seq : ℕ) → is_plain word ≡ true → SpellsSequence word seq → accepts false (Signed (pos 0) (pos 4096)) word ≡ true
sequence_accepted word seq plain is =
    let minus = no_minus word plain in
    let bare : without_leading_sign word ≡ without_leading_plus word = ap (λ b. cond b (drop 1 word) (without_leading_plus word)) minus in
    let number : signed_digits_value 10 word ≡ pos seq =
    ap (λ b. cond b (neg_ℤ (pos (digits_value 10 (without_leading_sign word)))) (pos (digits_value 10 (without_leading_sign word)))) minus
    ∙ ap (λ ds. pos (digits_value 10 ds)) bare ∙ ap pos (sym is.number) in
    Accepts-accepts false (Signed (pos 0) (pos 4096)) word (
      subst (IsNumeral 10) (sym bare) is.digits,
      subst (FitsSigned w64) (sym number) (fits_signed_from_abs w64 (pos seq) (let most : seq ≤ 4096 = is.most in omega arith)),
      subst (λ z. pos 0 ≤ℤ z) (sym number) (search rules),
      subst (λ z. z ≤ℤ pos 4096) (sym number) (search rules),
    )

abbrev caps_built : Shape
caps_built = built_leaf (inherited program.top caps_shape)

words_taken : (word query : Text) → is_plain word ≡ true → is_plain query ≡ true → accepts false (Signed (pos 0) (pos 4096)) word ≡ true
    → walk_passes caps_built [] (walk_from nothing_held) (word ∷ query ∷ []) ≡ true
unfolding clap_on_literals
words_taken word query plain_word plain_query accepted =
    ap (λ b. b && walk_passes caps_built [] (walked caps_rules [] (at nothing_held 1) word) (query ∷ [])) (turn_taken caps_built nothing_held 1 word plain_word)
    ∙ ap (λ w. walk_passes caps_built [] w (query ∷ [])) (plain_walked caps_rules nothing_held 1 word plain_word)
    ∙ ap (λ b. b && true) (turn_taken caps_built (pushed (codes "SEQ") word nothing_held) 2 query plain_query)
    ∙ ap (λ b. (b && true) && true) accepted

pub caps_taken : (word query : Text) → is_plain word ≡ true → is_plain query ≡ true → accepts false (Signed (pos 0) (pos 4096)) word ≡ true
    → takes program (codes "caps" ∷ word ∷ query ∷ []) ≡ true
unfolding clap_on_literals
caps_taken word query plain_word plain_query accepted =
    ap (λ b. (b && (settle_passes caps_rules false (walk caps_rules [] nothing_held (word ∷ query ∷ [])).held && (list_all default_passes caps_rules
    && is_valid caps_built (finished caps_rules (walk caps_rules [] nothing_held (word ∷ query ∷ [])).held) false))) && true)
    (words_taken word query plain_word plain_query accepted)
    ∙ ap (λ w. (settle_passes caps_rules false w.held && (list_all default_passes caps_rules && is_valid caps_built (finished caps_rules w.held) false)) && true)
    (found_words word query plain_word plain_query)
    ∙ refl

pub caps_asked : PlainCapsIsAsked
caps_asked word query (lines.Caps seq asked) plain_word plain_query is =
    let found = caps_rows word query plain_word plain_query in
    (caps_taken word query plain_word plain_query (sequence_accepted word seq plain_word is.0), rw found.1 (refl, (word, query, found.2, found.3, is)))
caps_asked word query (lines.Draw asked) plain_word plain_query is = absurd is
caps_asked word query lines.Canon plain_word plain_query is = absurd is
caps_asked word query (lines.Check format) plain_word plain_query is = absurd is
caps_asked word query (lines.Tape asked map) plain_word plain_query is = absurd is
caps_asked word query lines.Run plain_word plain_query is = absurd is
caps_asked word query lines.Wire plain_word plain_query is = absurd is
caps_asked word query (lines.Serve service) plain_word plain_query is = absurd is

-- ---- draw and its argument

abbrev draw_built : Shape
draw_built = built_leaf (inherited program.top draw_shape)

-- the argument is parsed for QUERY
found_word : (query : Text) → is_plain query ≡ true
    → walk draw_built.rules [] nothing_held (query ∷ []) ≡ at (pushed (codes "QUERY") query nothing_held) 2
unfolding clap_on_literals
found_word query plain = plain_walked draw_built.rules nothing_held 1 query plain

draw_rows : (query : Text) → is_plain query ≡ true
    → (rows : List Row) × (subcommand_of program (codes "draw" ∷ query ∷ []) ≡ Some (codes "draw", rows)) × (first_of (codes "QUERY") rows ≡ Some query)
unfolding clap_on_literals
draw_rows query plain = (_, ap (λ w. Some (codes "draw", finished draw_built.rules w.held)) (found_word query plain), refl)

word_walked : (query : Text) → is_plain query ≡ true → walk_passes draw_built [] (walk_from nothing_held) (query ∷ []) ≡ true
unfolding clap_on_literals
word_walked query plain = ap (λ b. b && true) (turn_taken draw_built nothing_held 1 query plain)

draw_taken : (query : Text) → is_plain query ≡ true → takes program (codes "draw" ∷ query ∷ []) ≡ true
unfolding clap_on_literals
draw_taken query plain =
    ap (λ b. (b && (settle_passes draw_built.rules false (walk draw_built.rules [] nothing_held (query ∷ [])).held && (list_all default_passes draw_built.rules
    && is_valid draw_built (finished draw_built.rules (walk draw_built.rules [] nothing_held (query ∷ [])).held) false))) && true)
    (word_walked query plain)
    ∙ ap (λ w. (settle_passes draw_built.rules false w.held && (list_all default_passes draw_built.rules && is_valid draw_built (finished draw_built.rules w.held) false)) && true)
    (found_word query plain)
    ∙ refl

pub draw_asked : PlainDrawIsAsked
draw_asked query (lines.Caps seq asked) plain is = absurd is
draw_asked query (lines.Draw asked) plain is =
    let found = draw_rows query plain in
    (draw_taken query plain, rw found.1 (refl, (query, found.2, is)))
draw_asked query lines.Canon plain is = absurd is
draw_asked query (lines.Check format) plain is = absurd is
draw_asked query (lines.Tape asked map) plain is = absurd is
draw_asked query lines.Run plain is = absurd is
draw_asked query lines.Wire plain is = absurd is
draw_asked query (lines.Serve service) plain is = absurd is

-- ---- tape and its argument

abbrev tape_built : Shape
tape_built = built_leaf (inherited program.top tape_shape)

-- the argument is parsed for FILE
found_file : (file : Text) → is_plain file ≡ true
    → walk tape_built.rules [] nothing_held (file ∷ []) ≡ at (pushed (codes "FILE") file nothing_held) 2
unfolding clap_on_literals
found_file file plain = plain_walked tape_built.rules nothing_held 1 file plain

tape_rows : (file : Text) → is_plain file ≡ true
    → (rows : List Row) × (subcommand_of program (codes "tape" ∷ file ∷ []) ≡ Some (codes "tape", rows)) × (first_of (codes "FILE") rows ≡ Some file) × (first_of (codes "map") rows ≡ None)
unfolding clap_on_literals
tape_rows file plain = (_, ap (λ w. Some (codes "tape", finished tape_built.rules w.held)) (found_file file plain), refl, refl)

file_walked : (file : Text) → is_plain file ≡ true → walk_passes tape_built [] (walk_from nothing_held) (file ∷ []) ≡ true
unfolding clap_on_literals
file_walked file plain = ap (λ b. b && true) (turn_taken tape_built nothing_held 1 file plain)

tape_taken : (file : Text) → is_plain file ≡ true → takes program (codes "tape" ∷ file ∷ []) ≡ true
unfolding clap_on_literals
tape_taken file plain =
    ap (λ b. (b && (settle_passes tape_built.rules false (walk tape_built.rules [] nothing_held (file ∷ [])).held && (list_all default_passes tape_built.rules
    && is_valid tape_built (finished tape_built.rules (walk tape_built.rules [] nothing_held (file ∷ [])).held) false))) && true)
    (file_walked file plain)
    ∙ ap (λ w. (settle_passes tape_built.rules false w.held && (list_all default_passes tape_built.rules && is_valid tape_built (finished tape_built.rules w.held) false)) && true)
    (found_file file plain)
    ∙ refl

pub tape_asked : PlainTapeIsAsked
tape_asked file (lines.Caps seq asked) plain is = absurd is
tape_asked file (lines.Draw asked) plain is = absurd is
tape_asked file lines.Canon plain is = absurd is
tape_asked file (lines.Check format) plain is = absurd is
tape_asked file (lines.Tape asked map) plain is =
    let found = tape_rows file plain in
    (tape_taken file plain, rw found.1 (refl, (file, found.2, (is.0, subst (λ word. IsMapBy word map) (sym found.3) is.1))))
tape_asked file lines.Run plain is = absurd is
tape_asked file lines.Wire plain is = absurd is
tape_asked file (lines.Serve service) plain is = absurd is

pub canon_asked : PlainCanonIsAsked
unfolding clap_on_literals
canon_asked = (refl, refl)

pub check_asked : PlainCheckIsAsked
unfolding clap_on_literals
check_asked = (refl, (refl, refl))

pub json_asked : JsonCheckIsAsked
unfolding clap_on_literals
json_asked = (refl, (refl, refl))

pub run_asked : PlainRunIsAsked
unfolding clap_on_literals
run_asked = (refl, refl)

pub wire_asked : PlainWireIsAsked
unfolding clap_on_literals
wire_asked = (refl, refl)
