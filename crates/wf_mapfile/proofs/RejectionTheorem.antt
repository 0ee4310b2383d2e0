-- A file by its first token.
use Rattle.std.proofs.Common.{◌≡◌, ◌∙◌, ◌<◌, ◌≤◌, Bool, true, false, ℕ, List, [], ◌∷◌, length, suc, arith, refl, sym, ap, subst}
use Rattle.std.specs.Prelude.{◌==◌, Option, Some, None, codes, Result, Err, if◌then◌else◌}
use Rattle.std.specs.Str.{is_utf8, str_eq_ignore_ascii_case}
use Rattle.std.specs.Str.Lossy.{utf8_valid_len}
use Rattle.std.proofs.lemmas.Bool.Decides.{nat_tests}
use Rattle.wf_block.specs.Grammar.{◌>>=◌, word}
use Rattle.wf_block.specs.ReadContract.{IsNotUtf8}
use Rattle.wf_block.specs.declared.fault.MapFault.{MapFault}
use Rattle.wf_block.specs.declared.fault.MapFault.TheVariants as faults
use Rattle.wf_def.specs.Definition.{Definition}
use Rattle.wf_mapfile.specs.Map.{map}
use Rattle.wf_mapfile.specs.Meaning.{MeansNothing, file, longest_mapfile}
use Rattle.wf_mapfile.specs.Rejection.{HasError, IsErrorOf, begins_map}
use Rattle.wf_block.specs.Token.{Token, Word, Quoted, Braced, tokens as lexed}

-- ---- its meaning

-- a file without a token means nothing
pub nothing_there : (tokens : List Token) → tokens ≡ [] → file tokens ≡ None
unfolding file word
nothing_there tokens none = rw none refl

not_named : (named : Bool) (rest : Option (Definition × List Token)) → named ≡ false →
    ((if named then rest else None) >>= λ all. if length all.1 == 0 then Some all.0 else None) ≡ None
not_named true rest is = absurd (let impossible : ⊥ = cc in impossible)
not_named false rest is = refl

is_named : (named : Bool) (read : Option (Definition × List Token)) → named ≡ true →
    ((if named then read else None) >>= λ all. if length all.1 == 0 then Some all.0 else None) ≡ (read >>= λ all. if length all.1 == 0 then Some all.0 else None)
is_named true read is = refl
is_named false read is = absurd (let impossible : ⊥ = cc in impossible)

no_map : (first : Token) (rest : List Token) → begins_map first ≡ false → file (first ∷ rest) ≡ None
unfolding file word begins_map
no_map (Word bytes) rest is = not_named (str_eq_ignore_ascii_case bytes (codes "MAP")) (map rest) is
no_map (Quoted bytes) rest is = refl
no_map (Braced inside) rest is = refl

-- a file that doesn't begin with MAP means nothing
pub other_first : (tokens : List Token) (first : Token) (rest : List Token) → tokens ≡ first ∷ rest → begins_map first ≡ false → file tokens ≡ None
other_first tokens first rest begins is = ap file begins ∙ no_map first rest is

map_first : (first : Token) (rest : List Token) → begins_map first ≡ true → file (first ∷ rest) ≡ (map rest >>= λ all. if length all.1 == 0 then Some all.0 else None)
unfolding file word begins_map
map_first (Word bytes) rest is = is_named (str_eq_ignore_ascii_case bytes (codes "MAP")) (map rest) is
map_first (Quoted bytes) rest is = absurd (let impossible : ⊥ = cc in impossible)
map_first (Braced inside) rest is = absurd (let impossible : ⊥ = cc in impossible)

-- a file that begins with MAP means nothing if no map follows
pub no_map_follows : (tokens : List Token) (first : Token) (rest : List Token) → tokens ≡ first ∷ rest → begins_map first ≡ true → map rest ≡ None → file tokens ≡ None
no_map_follows tokens first rest begins is none = ap file begins ∙ map_first first rest is ∙ rw none refl

-- if one does, and ends the file, that is the meaning
pub map_alone : (tokens : List Token) (first : Token) (rest more : List Token) (d : Definition) → tokens ≡ first ∷ rest → begins_map first ≡ true →
    map rest ≡ Some (d, more) → more ≡ [] → file tokens ≡ Some d
map_alone tokens first rest more d begins is read none = ap file begins ∙ map_first first rest is ∙ rw (read, none) refl

more_than_none : (n : ℕ) → (suc n == 0) ≡ false
more_than_none n = grind (arith, nat_tests)

some_left : (empty : Bool) (d : Definition) → empty ≡ false → (if empty then Some d else None) ≡ None
some_left true d is = absurd (let impossible : ⊥ = cc in impossible)
some_left false d is = refl

-- and if it doesn't end the file, there is none
pub map_and_more : (tokens : List Token) (first next : Token) (rest more after : List Token) (d : Definition) → tokens ≡ first ∷ rest → begins_map first ≡ true →
    map rest ≡ Some (d, more) → more ≡ next ∷ after → file tokens ≡ None
map_and_more tokens first next rest more after d begins is read some =
    ap file begins ∙ map_first first rest is ∙ rw (read, some) (some_left (length (next ∷ after) == 0) d (more_than_none (length after)))

-- ---- its error

one_first : (first other : Token) (rest more : List Token) → first ∷ rest ≡ other ∷ more → first ≡ other
one_first first other rest more is = cc

one_rest : (first other : Token) (rest more : List Token) → first ∷ rest ≡ other ∷ more → rest ≡ more
one_rest first other rest more is = cc

some_there : {P : Type 0} (first : Token) (rest : List Token) → first ∷ rest ≡ [] → P
some_there first rest is = absurd (let impossible : ⊥ = cc in impossible)

none_there : {P : Type 0} (first : Token) (rest : List Token) → [] ≡ first ∷ rest → P
none_there first rest is = absurd (let impossible : ⊥ = cc in impossible)

both_tests : {P : Type 0} (first other : Token) → first ≡ other → begins_map first ≡ true → begins_map other ≡ false → P
both_tests first other same is not = absurd (let clash : true ≡ false = sym is ∙ ap begins_map same ∙ not in cc)

-- of a file without a token
pub error_missing : (tokens : List Token) → tokens ≡ [] → IsErrorOf tokens faults.Missing
error_missing tokens none = record {
  no_token = λ _. refl;
  no_map = λ first rest begins is. none_there first rest (sym none ∙ begins);
  trailing = λ first rest more d begins is read some. none_there first rest (sym none ∙ begins);
}

-- of a file that doesn't begin with MAP
pub error_unexpected : (tokens : List Token) (first : Token) (rest : List Token) (byte_offset : ℕ) → tokens ≡ first ∷ rest → begins_map first ≡ false →
    IsErrorOf tokens (faults.UnexpectedWord byte_offset)
error_unexpected tokens first rest byte_offset begins is = record {
  no_token = λ none. some_there first rest (sym begins ∙ none);
  no_map = λ other others also not. tt;
  trailing = λ other others more d also named read some. both_tests other first (sym (one_first first other rest others (sym begins ∙ also))) named is;
}

-- of a file that begins with MAP, and no map follows: whatever its error is
pub error_within : (tokens : List Token) (first : Token) (rest : List Token) (fault : MapFault) → tokens ≡ first ∷ rest → begins_map first ≡ true →
    map rest ≡ None → IsErrorOf tokens fault
error_within tokens first rest fault begins is none = record {
  no_token = λ nothing. some_there first rest (sym begins ∙ nothing);
  no_map = λ other others also not. both_tests first other (one_first first other rest others (sym begins ∙ also)) is not;
  trailing = λ other others more d also named read some.
      let same : rest ≡ others = one_rest first other rest others (sym begins ∙ also) in
      let clash : None ≡ Some (d, more) = sym none ∙ ap map same ∙ read in
      absurd (let impossible : ⊥ = cc in impossible);
}

-- of a file that begins with a map
pub error_trailing : (tokens : List Token) (first : Token) (rest : List Token) (byte_offset : ℕ) → tokens ≡ first ∷ rest → begins_map first ≡ true →
    IsErrorOf tokens (faults.Trailing byte_offset)
error_trailing tokens first rest byte_offset begins is = record {
  no_token = λ nothing. some_there first rest (sym begins ∙ nothing);
  no_map = λ other others also not. both_tests first other (one_first first other rest others (sym begins ∙ also)) is not;
  trailing = λ other others more d also named read some. tt;
}

-- ---- of bytes

abbrev rejected : MapFault → Result Definition MapFault
rejected fault = Err fault

same_fault : (fault other : MapFault) → rejected fault ≡ rejected other → fault ≡ other
same_fault fault other is = cc

pub not_utf8 : (result : Result Definition MapFault) (byte_offset : ℕ) → result ≡ rejected (faults.NotUtf8 byte_offset) → IsNotUtf8 result
not_utf8 result byte_offset is = subst (λ r. IsNotUtf8 r) (sym is) tt

pub has_error : (bytes : List ℕ) (fault : MapFault) → MeansNothing bytes
    → (longest_mapfile < length bytes → rejected fault ≡ rejected faults.TooLong)
    → (length bytes ≤ longest_mapfile → is_utf8 bytes ≡ false → rejected fault ≡ rejected (faults.NotUtf8 (utf8_valid_len bytes)))
    → (length bytes ≤ longest_mapfile → is_utf8 bytes ≡ true → (file : List Token) → lexed bytes ≡ Some file → IsErrorOf file fault)
    → HasError bytes fault
has_error bytes fault nothing too_long not_utf8 reported = record {
  means_nothing = nothing;
  too_long = λ over. same_fault fault faults.TooLong (too_long over);
  not_utf8 = λ within no. same_fault fault (faults.NotUtf8 (utf8_valid_len bytes)) (not_utf8 within no);
  of_tokens = λ file within utf8 is. reported within utf8 file is;
}
