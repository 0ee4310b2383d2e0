-- The better votes of two lists, whose first votes are taken out one after the other.
use Rattle.std.proofs.Common.{◌≡◌, List, [], ◌∷◌, ◌++◌, Option, Some, None, refl, sym, ap, ◌∙◌, append_assoc, append-nil, slice_get, remove}
use Rattle.std.proofs.lemmas.List.{map-append}
use Rattle.wf_ballot.specs.Ballot.{Ballot}
use Rattle.wf_def.specs.Definition.{Definition}
use Rattle.wf_model.specs.Message.{Vote}
use Rattle.wf_model.specs.VolatileState.{better, better_each}
use Rattle.wf_codec.specs.Message.{view_vote, view_votes}

abbrev Held : Type 0
Held = Option (Ballot × Definition)

-- ---- one taken out

none_first : {A : Type 0} (xs : List A) → slice_get xs 0 ≡ None → xs ≡ []
none_first [] e = refl
none_first (x ∷ xs) e = absurd cc

first_then_rest : {A : Type 0} (xs : List A) (x : A) → slice_get xs 0 ≡ Some x → xs ≡ x ∷ remove xs 0
first_then_rest [] x e = absurd cc
first_then_rest (y ∷ xs) x e = let same : y ≡ x = cc in ap (λ first. first ∷ xs) same

-- ---- all are put behind the others

pub none_left : (votes out : List Held) → slice_get votes 0 ≡ None → out ≡ out ++ votes
none_left votes out e = sym (ap (λ (list : List Held). out ++ list) (none_first votes e) ∙ append-nil out)

pub one_put : (votes out pushed new : List Held) (vote : Held) → slice_get votes 0 ≡ Some vote → pushed ≡ out ++ vote ∷ [] → new ≡ pushed ++ remove votes 0 → new ≡ out ++ votes
one_put votes out pushed new vote first put others =
    others ∙ ap (λ (list : List Held). list ++ remove votes 0) put ∙ append_assoc out (vote ∷ []) (remove votes 0) ∙ ap (λ (list : List Held). out ++ list) (sym (first_then_rest votes vote first))

-- ---- the better ones

-- without any votes the others are the better ones
pub none_better : (best votes out new : List Held) → slice_get best 0 ≡ None → new ≡ out ++ votes → view_votes new ≡ view_votes out ++ better_each (view_votes best) (view_votes votes)
unfolding better_each
none_better best votes out new none put =
    ap view_votes put ∙ map-append view_vote out votes ∙
    ap (λ (list : List Held). view_votes out ++ better_each (view_votes list) (view_votes votes)) (sym (none_first best none))

better_each-none : {V : Type 0} (best : Option (Vote V)) (rest : List (Option (Vote V))) → better_each (best ∷ rest) [] ≡ best ∷ rest
unfolding better_each
better_each-none best rest = refl

pub best_alone : (best votes out pushed new : List Held) (first : Held) → slice_get best 0 ≡ Some first → slice_get votes 0 ≡ None → pushed ≡ out ++ first ∷ [] → new ≡ pushed ++ remove best 0 →
    view_votes new ≡ view_votes out ++ better_each (view_votes best) (view_votes votes)
best_alone best votes out pushed new first some none put others =
    let all : new ≡ out ++ best = one_put best out pushed new first some put others in
    let is : best ≡ first ∷ remove best 0 = first_then_rest best first some in
    let alone : better_each (view_votes best) (view_votes votes) ≡ view_votes best =
    ap (λ (list : List Held). better_each (view_votes best) (view_votes list)) (none_first votes none) ∙
    ap (λ (list : List Held). better_each (view_votes list) []) is ∙
    better_each-none (view_vote first) (view_votes (remove best 0)) ∙
    ap view_votes (sym is) in
    ap view_votes all ∙ map-append view_vote out best ∙ ap (λ (list : List (Option (Vote Definition))). view_votes out ++ list) (sym alone)

better_each-both : {V : Type 0} (best vote : Option (Vote V)) (rest votes : List (Option (Vote V))) → better_each (best ∷ rest) (vote ∷ votes) ≡ better best vote ∷ better_each rest votes
unfolding better_each
better_each-both best vote rest votes = refl

pub both_better : (best votes out pushed new : List Held) (first vote chosen : Held) → slice_get best 0 ≡ Some first → slice_get votes 0 ≡ Some vote →
    view_vote chosen ≡ better (view_vote first) (view_vote vote) → pushed ≡ out ++ chosen ∷ [] →
    view_votes new ≡ view_votes pushed ++ better_each (view_votes (remove best 0)) (view_votes (remove votes 0)) →
    view_votes new ≡ view_votes out ++ better_each (view_votes best) (view_votes votes)
both_better best votes out pushed new first vote chosen some_best some_vote is_better put others =
    let rest : List (Option (Vote Definition)) = better_each (view_votes (remove best 0)) (view_votes (remove votes 0)) in
    let first_of_best : best ≡ first ∷ remove best 0 = first_then_rest best first some_best in
    let first_of_votes : votes ≡ vote ∷ remove votes 0 = first_then_rest votes vote some_vote in
    let both : better_each (view_votes best) (view_votes votes) ≡ better (view_vote first) (view_vote vote) ∷ rest =
    ap (λ (list : List Held). better_each (view_votes list) (view_votes votes)) first_of_best ∙
    ap (λ (list : List Held). better_each (view_votes (first ∷ remove best 0)) (view_votes list)) first_of_votes ∙
    better_each-both (view_vote first) (view_vote vote) (view_votes (remove best 0)) (view_votes (remove votes 0)) in
    let pushed_votes : view_votes pushed ≡ view_votes out ++ view_vote chosen ∷ [] = ap view_votes put ∙ map-append view_vote out (chosen ∷ []) in
    others ∙ ap (λ (list : List (Option (Vote Definition))). list ++ rest) pushed_votes ∙ append_assoc (view_votes out) (view_vote chosen ∷ []) rest ∙
    ap (λ (first_better : Option (Vote Definition)). view_votes out ++ first_better ∷ rest) is_better ∙ ap (λ (list : List (Option (Vote Definition))). view_votes out ++ list) (sym both)
