-- From the parts of a message to the message.
use Rattle.std.proofs.Common.{◌≡◌, ◌∙◌, ℕ, ◌+◌, ◌<◌, List, [], ◌∷◌, ◌++◌, ap, append_assoc, codes, get_or, length, map, refl, sym, take}
use Rattle.std.specs.Prelude.{Option, Some, None}
use Rattle.std.specs.List.{flat_map}
use Rattle.std.proofs.lemmas.List.{append-nil, map-append, take_more}
use Rattle.std.proofs.lemmas.List.Concat.{flat_map-append}
use Rattle.wf_block.specs.Blocks.{block_name}
use Rattle.wf_block.specs.declared.place.Block.{Block}
use Rattle.wf_check.specs.Message.{IsAllowedBetween, IsAllowedHere, IsAllowedIn, IsKeywordList, IsSaid, IsSaidHere, Says, enumerated, said}
use Rattle.wf_check.specs.declared.finding.Finding.{Finding}
use Rattle.wf_mapfile.specs.Keywords.{AreKeywordsOf}
use Rattle.wf_mapfile.specs.declared.keywords.Takes.{Takes}

-- what may stand between the keywords of a block
pub between : (block : Block) (keyword : Option ℕ) (offset : ℕ) (text : List ℕ) → IsAllowedIn block text → IsAllowedBetween (Some block) keyword offset text
between block None offset text allowed = allowed
between block (Some begin) offset text allowed = λ own. allowed

-- nothing is said where a keyword has begun before
pub behind_keyword : (block : Block) (keyword : Option ℕ) (offset : ℕ) (text : List ℕ) → (keyword ≡ None → ⊥) → (keyword ≡ Some offset → ⊥)
    → IsAllowedBetween (Some block) keyword offset text
behind_keyword block None offset text none own = absurd (none refl)
behind_keyword block (Some begin) offset text none own = λ same. absurd (own (ap Some same))

pub says : (text found allowed : List ℕ) → text ≡ said found allowed → Says text allowed
says text found allowed is = (found, is)

pub is_said : (text found allowed : List ℕ) → text ≡ said found allowed → IsSaid text
is_said text found allowed is = (allowed, (found, is))

pub said_here : (finding : Finding) (text allowed : List ℕ) → IsAllowedHere finding allowed → Says text allowed → IsSaidHere finding text
said_here finding text allowed here says = (allowed, here, says)

-- one more keyword of a list
one_more : {A : Type 0} (f : A → List ℕ × Takes) (keywords so_far : List A) (keyword : A) → keywords ≡ so_far ++ keyword ∷ []
    → enumerated (map f so_far) ++ (f keyword).0 ++ codes ", " ≡ enumerated (map f keywords)
one_more f keywords so_far keyword is =
    let each : List ℕ × Takes → List ℕ = λ k. k.0 ++ codes ", " in
    append_assoc (enumerated (map f so_far)) (f keyword).0 (codes ", ")
    ∙ sym (ap (λ ks. flat_map each (map f ks)) is ∙ ap (flat_map each) (map-append f so_far (keyword ∷ [])) ∙ flat_map-append each (map f so_far) (map f (keyword ∷ []))
    ∙ ap (λ t. flat_map each (map f so_far) ++ t) (append-nil (each (f keyword))))

-- one more keyword is written
pub next_keyword : {A : Type 0} (f : A → List ℕ × Takes) (all : List A) (i : ℕ) (other : A) (before after : List ℕ) → i < length all → before ≡ enumerated (map f (take i all))
    → after ≡ before ++ (f (get_or all i other)).0 ++ codes ", " → after ≡ enumerated (map f (take (i + 1) all))
next_keyword f all i other before after within is next =
    next ∙ ap (λ t. t ++ (f (get_or all i other)).0 ++ codes ", ") is
    ∙ one_more f (take (i + 1) all) (take i all) (get_or all i other) (take_more all i other within)

-- all keywords of a block, and its END
pub listing : (block : Block) (keywords : List (List ℕ × Takes)) (text names end : List ℕ) → AreKeywordsOf block keywords → names ≡ enumerated keywords
    → end ≡ block_name block → text ≡ names ++ codes "or the END of " ++ end → IsKeywordList block text
listing block keywords text names end are is ends whole =
    (keywords, are, whole ∙ ap (λ n. n ++ codes "or the END of " ++ end) is ∙ ap (λ e. enumerated keywords ++ codes "or the END of " ++ e) ends)
