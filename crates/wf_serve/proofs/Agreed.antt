-- Nodes with one history that published equally many maps, or are asked for one map, have that map,
-- and so they respond alike.
use Rattle.std.proofs.Common.{◌≡◌, ◌<◌, ◌≤◌, ℕ, zero, suc, List, [], ◌∷◌, length, slice_get, Some, refl, ap, ◌∙◌, arith}
use Rattle.std.specs.declared.alloc.Global.{Global}
use Rattle.wf_def.specs.Definition.{Definition}
use Rattle.wf_edge.specs.Theorem.{AnswerAlike, are_asked_alike, stand_alike, EqualRequestsHaveEqualResponses}
use Rattle.wf_delivery.specs.Reachability.{HaveOneHistory}
use Rattle.wf_learner.specs.History.{map_at}
use Rattle.wf_model.specs.DurableState.{definition_at}
use Rattle.wf_node.specs.Node.{Node}
use Rattle.wf_wms.specs.Answer.{subject}
use Rattle.wf_serve.specs.Agreement.{AskedAlike, AtOneSequence, ForOneMap, RespondAlike}
use Rattle.wf_serve.proofs.Asked.{asks_published}
use Rattle.wf_tape.specs.declared.tape.Tape.{Ghosts as Tape}

-- lists of one length whose elements agree are equal
same_list : {A : Type 0} → (xs ys : List A) → length ys ≡ length xs → ((k : ℕ) (x y : A) → slice_get xs k ≡ Some x → slice_get ys k ≡ Some y → x ≡ y) → xs ≡ ys
same_list [] [] long agree = refl
same_list [] (y ∷ ys) long agree = absurd (omega (arith, long))
same_list (x ∷ xs) [] long agree = absurd (omega (arith, long))
same_list (x ∷ xs) (y ∷ ys) long agree =
    let shorter : length ys ≡ length xs = omega (arith, long) in
    ap (λ z. z ∷ xs) (agree zero x y refl refl) ∙ ap (λ zs. y ∷ zs) (same_list xs ys shorter (λ k a b here there. agree (suc k) a b here there))

-- elements that agree are equal where both lists have one
both_there : {A : Type 0} → (xs ys : List A) (k : ℕ) → k < length xs → k < length ys → ((x y : A) → slice_get xs k ≡ Some x → slice_get ys k ≡ Some y → x ≡ y) → slice_get xs k ≡ slice_get ys k
both_there [] ys k here there agree = absurd (omega (arith, here))
both_there (x ∷ xs) [] k here there agree = absurd (omega (arith, there))
both_there (x ∷ xs) (y ∷ ys) zero here there agree = ap Some (agree x y refl refl)
both_there (x ∷ xs) (y ∷ ys) (suc k) here there agree = both_there xs ys k (omega (arith, here)) (omega (arith, there)) agree

module _ {T : Type 0} (nodes : List (Node T)) (i j : ℕ) (node other : Node T) (one : HaveOneHistory nodes) (here : slice_get nodes i ≡ Some node) (there : slice_get nodes j ≡ Some other) where
  -- two nodes of one history that published equally many maps published the same ones
  same_history : length other.parts.history ≡ length node.parts.history → node.parts.history ≡ other.parts.history
  unfolding HaveOneHistory definition_at
  same_history long = same_list node.parts.history other.parts.history long (λ k c d entry another. one i j (suc k) node other c d here there entry another)

  -- and one map under a sequence that both have published
  same_map : (m : ℕ) → m ≤ length node.parts.history → m ≤ length other.parts.history → map_at node.parts.history m ≡ map_at other.parts.history m
  unfolding HaveOneHistory map_at definition_at
  same_map zero below below_too = refl
  same_map (suc k) below below_too =
      both_there node.parts.history other.parts.history k (omega (arith, below)) (omega (arith, below_too)) (λ c d entry another. one i j (suc k) node other c d here there entry another)

  answer_alike : (query : List ℕ) → AskedAlike query node.parts.history other.parts.history → AnswerAlike query node.parts.history other.parts.history
  answer_alike query (AtOneSequence long) =
      stand_alike long (ap (λ (h : List Definition). map_at h (subject (length node.parts.history) query)) (same_history long))
  answer_alike query (ForOneMap m asks asks_too) =
      are_asked_alike m asks asks_too (same_map m (asks_published m (length node.parts.history) query asks) (asks_published m (length other.parts.history) query asks_too))

module _ {T : Type 0} (tapes : Tape T) where
  pub respond_alike : EqualRequestsHaveEqualResponses Global tapes → (nodes : List (Node T)) → HaveOneHistory nodes → RespondAlike tapes nodes
  respond_alike theorem nodes one = record {
    bytes = λ i j input query node node_after other other_after sent other_sent response another here there alike asks responds served also served_too.
        theorem input query node node_after other other_after sent other_sent response another asks
        (answer_alike nodes i j node other one here there query alike) responds served also served_too;
  }
