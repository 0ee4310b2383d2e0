-- From the parsed arguments to the line that they ask for.
use Rattle.std.proofs.Common.{◌≡◌, ◌∙◌, ◌≤◌, ℕ, List, [], true, inl, inr, sym, ap, subst, refl, codes, arith}
use Rattle.std.specs.Prelude.{Box, Option, Some, None, option_map, IfNone, IfSome}
use Rattle.std.specs.Box.{box_value}
use Rattle.std.specs.Str.{bytes_eq}
use Rattle.std.proofs.lemmas.Bool.{false≢true}
use Rattle.clap.proofs.OnLiterals.{clap_on_literals}
use Rattle.clap.proofs.WalkLemmas.{first_value-rows}
use Rattle.clap.specs.Faults.{fault_of, is_simple_and_free}
use Rattle.clap.specs.Kinds.{HasKind}
use Rattle.clap.specs.Matches.{first_value}
use Rattle.clap.specs.Simple.{App, HasMatchesOf, is_simple, subcommand_of, subcommand_rows, subcommand_rows_of}
use Rattle.clap.specs.Takes.{takes}
use Rattle.clap.specs.Values.{kind_of}
use Rattle.clap.specs.Walk.{Row, Text, first_of, rows_of}
use Rattle.clap.specs.declared.error.Error.{Error}
use Rattle.clap.specs.declared.error.kind.ErrorKind.TheVariants.{OutOfMemory}
use Rattle.clap.specs.declared.parser.matches.ArgMatches.TheViews.{out-SubCommand}
use Rattle.clap.specs.declared.parser.matches.ArgMatches.{ArgMatches}
use Rattle.clap.specs.declared.parser.matches.Found.{Found}
use Rattle.clap.specs.declared.parser.matches.SubCommand.{SubCommand}
use Rattle.wf_line.specs.CommandLine.{Asks, IsCacheBy, IsCapsOf, IsCheckAsked, IsDrawOf, IsMapBy, IsServeOf, IsServiceOf, IsTapeOption}
use Rattle.wf_line.specs.Program.{program}
use Rattle.wf_line.specs.Rejection.{IsLineRejection, rejections}
use Rattle.wf_ballot.specs.Sequence.{last_sequence}
use Rattle.wf_line.specs.Line.{IsInRange}
use Rattle.wf_line.specs.declared.command_line.Line.{Line}
use Rattle.wf_service.specs.Service.{IsService}
use Rattle.wf_service.specs.Service.{most_cached}
use Rattle.wf_service.specs.declared.service.Service.{Service}
use Rattle.wf_line.specs.declared.command_line.Line.TheVariants as lines

-- the parsed argument is in its row
pub word_in_row : (found : Found) (id : Text) (word : Option Text) → word ≡ first_value found id → first_of id (rows_of found) ≡ word
word_in_row found id word is = sym (is ∙ first_value-rows found id)

-- the parsed command name is in its rows
pub name_met : {Z : Type 0} (met : Option (Box SubCommand Z)) → option_map (λ p. p.0) (subcommand_rows met) ≡ option_map (λ b. (out-SubCommand (box_value b)).name.now) met
name_met None = refl
name_met (Some b) = refl

-- if `caps` was named and no `caps` line has its arguments, they ask for nothing
asks_of : (p : Text × List Row) (rows : List Row) → p.1 ≡ rows → p.0 ≡ codes "caps" → ((l : Line) → ¬ (IsCapsOf rows l)) → (l : Line) → ¬ (Asks (Some p) l)
asks_of p rows has named none (lines.Caps seq query) asks = none (lines.Caps seq query) (rw has at asks.1)
asks_of p rows has named none (lines.Draw query) asks = false≢true (sym (ap (bytes_eq (codes "caps")) (sym named ∙ asks.0)))
asks_of p rows has named none lines.Canon asks = let clash : codes "caps" ≡ codes "canon" = sym named ∙ asks in cc
asks_of p rows has named none (lines.Check format) asks = false≢true (sym (ap (bytes_eq (codes "caps")) (sym named ∙ asks.0)))
asks_of p rows has named none (lines.Tape file map) asks = false≢true (sym (ap (bytes_eq (codes "caps")) (sym named ∙ asks.0)))
asks_of p rows has named none lines.Run asks = let clash : codes "caps" ≡ codes "run" = sym named ∙ asks in cc
asks_of p rows has named none lines.Wire asks = false≢true (sym (ap (bytes_eq (codes "caps")) (sym named ∙ asks)))
asks_of p rows has named none (lines.Serve service) asks = false≢true (sym (ap (bytes_eq (codes "caps")) (sym named ∙ asks.0)))

-- if `serve` was named and no `serve` line has its arguments, they ask for nothing
serve_asks_of : (p : Text × List Row) (rows : List Row) → p.1 ≡ rows → p.0 ≡ codes "serve" → ((l : Line) → ¬ (IsServeOf rows l)) → (l : Line) → ¬ (Asks (Some p) l)
serve_asks_of p rows has named none (lines.Caps seq query) asks = false≢true (sym (ap (bytes_eq (codes "serve")) (sym named ∙ asks.0)))
serve_asks_of p rows has named none (lines.Draw query) asks = false≢true (sym (ap (bytes_eq (codes "serve")) (sym named ∙ asks.0)))
serve_asks_of p rows has named none lines.Canon asks = false≢true (sym (ap (bytes_eq (codes "serve")) (sym named ∙ asks)))
serve_asks_of p rows has named none (lines.Check format) asks = false≢true (sym (ap (bytes_eq (codes "serve")) (sym named ∙ asks.0)))
serve_asks_of p rows has named none (lines.Tape file map) asks = false≢true (sym (ap (bytes_eq (codes "serve")) (sym named ∙ asks.0)))
serve_asks_of p rows has named none lines.Run asks = false≢true (sym (ap (bytes_eq (codes "serve")) (sym named ∙ asks)))
serve_asks_of p rows has named none lines.Wire asks = false≢true (sym (ap (bytes_eq (codes "serve")) (sym named ∙ asks)))
serve_asks_of p rows has named none (lines.Serve service) asks = none (lines.Serve service) (rw has at asks.1)

pub none_served : (line : Option Line) (met : Option (Text × List Row)) (rows : List Row) → option_map (λ p. p.1) met ≡ Some rows
    → option_map (λ p. p.0) met ≡ Some (codes "serve") → IfNone line ((l : Line) → ¬ (IsServeOf rows l)) → IfNone line ((l : Line) → ¬ (Asks met l))
none_served (Some line) met rows has named none = tt
none_served None None rows has named none = λ l asks. asks
none_served None (Some p) rows has named none = serve_asks_of p rows (let is : p.1 ≡ rows = cc in is) (let is : p.0 ≡ codes "serve" = cc in is) none

-- if `draw` was named and no `draw` line has its arguments, they ask for nothing
draw_asks_of : (p : Text × List Row) (rows : List Row) → p.1 ≡ rows → p.0 ≡ codes "draw" → ((l : Line) → ¬ (IsDrawOf rows l)) → (l : Line) → ¬ (Asks (Some p) l)
draw_asks_of p rows has named none (lines.Caps seq query) asks = false≢true (sym (ap (bytes_eq (codes "draw")) (sym named ∙ asks.0)))
draw_asks_of p rows has named none (lines.Draw query) asks = none (lines.Draw query) (rw has at asks.1)
draw_asks_of p rows has named none lines.Canon asks = false≢true (sym (ap (bytes_eq (codes "draw")) (sym named ∙ asks)))
draw_asks_of p rows has named none (lines.Check format) asks = false≢true (sym (ap (bytes_eq (codes "draw")) (sym named ∙ asks.0)))
draw_asks_of p rows has named none (lines.Tape file map) asks = false≢true (sym (ap (bytes_eq (codes "draw")) (sym named ∙ asks.0)))
draw_asks_of p rows has named none lines.Run asks = false≢true (sym (ap (bytes_eq (codes "draw")) (sym named ∙ asks)))
draw_asks_of p rows has named none lines.Wire asks = false≢true (sym (ap (bytes_eq (codes "draw")) (sym named ∙ asks)))
draw_asks_of p rows has named none (lines.Serve service) asks = false≢true (sym (ap (bytes_eq (codes "draw")) (sym named ∙ asks.0)))

pub none_drawn : (line : Option Line) (met : Option (Text × List Row)) (rows : List Row) → option_map (λ p. p.1) met ≡ Some rows
    → option_map (λ p. p.0) met ≡ Some (codes "draw") → IfNone line ((l : Line) → ¬ (IsDrawOf rows l)) → IfNone line ((l : Line) → ¬ (Asks met l))
none_drawn (Some line) met rows has named none = tt
none_drawn None None rows has named none = λ l asks. asks
none_drawn None (Some p) rows has named none = draw_asks_of p rows (let is : p.1 ≡ rows = cc in is) (let is : p.0 ≡ codes "draw" = cc in is) none

-- if `tape` was named and no `tape` line has its arguments, they ask for nothing
tape_asks_of : (p : Text × List Row) (rows : List Row) → p.1 ≡ rows → p.0 ≡ codes "tape" → ((l : Line) → ¬ (IsTapeOption rows l)) → (l : Line) → ¬ (Asks (Some p) l)
tape_asks_of p rows has named none (lines.Caps seq query) asks = false≢true (sym (ap (bytes_eq (codes "tape")) (sym named ∙ asks.0)))
tape_asks_of p rows has named none (lines.Draw query) asks = false≢true (sym (ap (bytes_eq (codes "tape")) (sym named ∙ asks.0)))
tape_asks_of p rows has named none lines.Canon asks = false≢true (sym (ap (bytes_eq (codes "tape")) (sym named ∙ asks)))
tape_asks_of p rows has named none (lines.Check format) asks = false≢true (sym (ap (bytes_eq (codes "tape")) (sym named ∙ asks.0)))
tape_asks_of p rows has named none (lines.Tape file map) asks = none (lines.Tape file map) (rw has at asks.1)
tape_asks_of p rows has named none lines.Run asks = false≢true (sym (ap (bytes_eq (codes "tape")) (sym named ∙ asks)))
tape_asks_of p rows has named none lines.Wire asks = false≢true (sym (ap (bytes_eq (codes "tape")) (sym named ∙ asks)))
tape_asks_of p rows has named none (lines.Serve service) asks = false≢true (sym (ap (bytes_eq (codes "tape")) (sym named ∙ asks.0)))

pub none_listed : (line : Option Line) (met : Option (Text × List Row)) (rows : List Row) → option_map (λ p. p.1) met ≡ Some rows
    → option_map (λ p. p.0) met ≡ Some (codes "tape") → IfNone line ((l : Line) → ¬ (IsTapeOption rows l)) → IfNone line ((l : Line) → ¬ (Asks met l))
none_listed (Some line) met rows has named none = tt
none_listed None None rows has named none = λ l asks. asks
none_listed None (Some p) rows has named none = tape_asks_of p rows (let is : p.1 ≡ rows = cc in is) (let is : p.0 ≡ codes "tape" = cc in is) none

-- if `check` was named and no `check` line has its arguments, they ask for nothing
check_asks_of : (p : Text × List Row) (rows : List Row) → p.1 ≡ rows → p.0 ≡ codes "check" → ((l : Line) → ¬ (IsCheckAsked rows l)) → (l : Line) → ¬ (Asks (Some p) l)
check_asks_of p rows has named none (lines.Caps seq query) asks = false≢true (sym (ap (bytes_eq (codes "check")) (sym named ∙ asks.0)))
check_asks_of p rows has named none (lines.Draw query) asks = false≢true (sym (ap (bytes_eq (codes "check")) (sym named ∙ asks.0)))
check_asks_of p rows has named none lines.Canon asks = false≢true (sym (ap (bytes_eq (codes "check")) (sym named ∙ asks)))
check_asks_of p rows has named none (lines.Check format) asks = none (lines.Check format) (rw has at asks.1)
check_asks_of p rows has named none (lines.Tape file map) asks = false≢true (sym (ap (bytes_eq (codes "check")) (sym named ∙ asks.0)))
check_asks_of p rows has named none lines.Run asks = false≢true (sym (ap (bytes_eq (codes "check")) (sym named ∙ asks)))
check_asks_of p rows has named none lines.Wire asks = false≢true (sym (ap (bytes_eq (codes "check")) (sym named ∙ asks)))
check_asks_of p rows has named none (lines.Serve service) asks = false≢true (sym (ap (bytes_eq (codes "check")) (sym named ∙ asks.0)))

pub none_checked : (line : Option Line) (met : Option (Text × List Row)) (rows : List Row) → option_map (λ p. p.1) met ≡ Some rows
    → option_map (λ p. p.0) met ≡ Some (codes "check") → IfNone line ((l : Line) → ¬ (IsCheckAsked rows l)) → IfNone line ((l : Line) → ¬ (Asks met l))
none_checked (Some line) met rows has named none = tt
none_checked None None rows has named none = λ l asks. asks
none_checked None (Some p) rows has named none = check_asks_of p rows (let is : p.1 ≡ rows = cc in is) (let is : p.0 ≡ codes "check" = cc in is) none

-- the numbers of the line that is asked for are in range
cache_in_range : (word : Option Text) (cached : ℕ) → IsCacheBy word cached → (1 ≤ cached) × (cached ≤ most_cached)
cache_in_range None cached is = (omega (arith, is), omega (arith, is))
cache_in_range (Some word) cached is = (is.low, is.high)

service_in_range : (rows : List Row) (service : Service) → IsServiceOf rows service → IsService service
service_in_range rows service is =
    let cache = cache_in_range (first_of (codes "cache") rows) service.cache is.cache in
    record { some = is.nodes.2.low; nodes = is.nodes.2.high; port = is.port.2.high; requests = is.requests.2.high; cache = cache.0; cache_most = cache.1 }

map_in_range : (word : Option Text) (map : Option ℕ) → IsMapBy word map → IfSome map (λ seq. (1 ≤ seq) × (seq ≤ last_sequence))
map_in_range None map none = subst (λ m. IfSome m (λ seq. (1 ≤ seq) × (seq ≤ last_sequence))) (sym none) tt
map_in_range (Some word) map (seq, is, number) = subst (λ m. IfSome m (λ s. (1 ≤ s) × (s ≤ last_sequence))) (sym is) (number.low, number.high)

pub asked_in_range : (met : Option (Text × List Row)) (line : Line) → Asks met line → IsInRange line
asked_in_range None line asks = absurd asks
asked_in_range (Some named) (lines.Caps seq query) (is, (word, text, first, second, (sequence, same))) = sequence.most
asked_in_range (Some named) (lines.Draw query) asks = tt
asked_in_range (Some named) lines.Canon asks = tt
asked_in_range (Some named) (lines.Check format) asks = tt
asked_in_range (Some named) (lines.Tape file map) (is, (word, first, (same, by))) = map_in_range (first_of (codes "map") named.1) map by
asked_in_range (Some named) lines.Run asks = tt
asked_in_range (Some named) lines.Wire asks = tt
asked_in_range (Some named) (lines.Serve service) asks = service_in_range named.1 service asks.1

pub none_asked : (line : Option Line) (met : Option (Text × List Row)) (rows : List Row) → option_map (λ p. p.1) met ≡ Some rows
    → option_map (λ p. p.0) met ≡ Some (codes "caps") → IfNone line ((l : Line) → ¬ (IsCapsOf rows l)) → IfNone line ((l : Line) → ¬ (Asks met l))
none_asked (Some line) met rows has named none = tt
none_asked None None rows has named none = λ l asks. asks
none_asked None (Some p) rows has named none = asks_of p rows (let is : p.1 ≡ rows = cc in is) (let is : p.0 ≡ codes "caps" = cc in is) none

-- arguments that the parser accepts are rejected only if an allocation fails
pub passes_on : (app : App) (words : List Text) (error : Error) → app ≡ program → (takes app words ≡ true → kind_of error ≡ OutOfMemory)
    → takes program words ≡ true → kind_of error ≡ OutOfMemory
passes_on app words error is passes taken = passes (ap (λ a. takes a words) is ∙ taken)

-- ---- the parsed command is that of the program's rules

simple_program : is_simple program ≡ true
unfolding clap_on_literals
simple_program = refl

pub met_is : (app : App) (words : List Text) (m : ArgMatches) → app ≡ program → HasMatchesOf app words m → subcommand_rows_of m ≡ subcommand_of program words
met_is app words m is has = (has (ap is_simple is ∙ simple_program)).1 ∙ ap (λ (a : App). subcommand_of a words) is

pub asked_of_program : (app : App) (words : List Text) (m : ArgMatches) (line : Line) → app ≡ program → HasMatchesOf app words m → Asks (subcommand_rows_of m) line →
    Asks (subcommand_of program words) line
asked_of_program app words m line is has asks = subst (λ (rows : Option (Text × List Row)). Asks rows line) (met_is app words m is has) asks

pub none_of_program : (app : App) (words : List Text) (m : ArgMatches) → app ≡ program → HasMatchesOf app words m → ((line : Line) → ¬ (Asks (subcommand_rows_of m) line)) →
    (line : Line) → ¬ (Asks (subcommand_of program words) line)
none_of_program app words m is has none line asks = none line (subst (λ (rows : Option (Text × List Row)). Asks rows line) (sym (met_is app words m is has)) asks)

-- ---- the kinds of rejection are the parser's for the program's rules

free_program : is_simple_and_free program ≡ true
unfolding clap_on_literals
free_program = refl

pub kind_on : (app : App) (words : List Text) (error : Error) → app ≡ program → (is_simple_and_free app ≡ true → HasKind (fault_of app words) error)
    → IsLineRejection words (kind_of error)
unfolding rejections
kind_on app words error is kinds =
    elim (subst (λ (a : App). HasKind (fault_of a words) error) is (kinds (ap is_simple_and_free is ∙ free_program))) [
      | inl memory ↦ inl memory
      | inr among ↦ inr (inl among)
    ]

pub none_on : (app : App) (words : List Text) → app ≡ program → (is_simple_and_free app ≡ true → fault_of app words ≡ []) → rejections words ≡ []
unfolding rejections
none_on app words is kinds = subst (λ (a : App). fault_of a words ≡ []) is (kinds (ap is_simple_and_free is ∙ free_program))
