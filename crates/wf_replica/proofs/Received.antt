-- One more message is heard.
use Rattle.std.proofs.Common.{◌≡◌, ◌∙◌, ℕ, ◌≤◌, ◌<◌, ◌-◌, inl, inr, zero, suc, List, [], ◌∷◌, ◌++◌, length, take, drop, get_or, refl, sym, ap, arith, append_assoc, append-nil, length-append}
use Rattle.std.specs.Prelude.{◌↔◌, IsSome, None, Option, false, is_some}
use Rattle.std.proofs.lemmas.Bool.{cases_lt}
use Rattle.std.proofs.lemmas.List.{map-append, take-append-le}
use Rattle.std.proofs.Math.Seq.{take-length}
use Rattle.wf_ballot.specs.Sequence.{last_sequence}
use Rattle.wf_execution.specs.Replica.{after_learning}
use Rattle.wf_codec.specs.Message.{view}
use Rattle.wf_codec.specs.declared.message.Message as code
use Rattle.wf_def.specs.Definition.{Definition}
use Rattle.wf_learner.specs.History.{next_of}
use Rattle.wf_model.specs.Message.{Chosen, Message}
use Rattle.wf_replica.proofs.Reported.{learned_append, learned_own}
use Rattle.wf_replica.specs.MapList.{Learns, heard_by, maps_of}
use Rattle.wf_replica.specs.declared.maps.MapList.{MapList}
use Rattle.wf_replica.specs.LearnedList.{learned, messages_of, numbered}

pub messages_more : (log : List (code.Message × ℕ)) (m : code.Message) (n : ℕ) → messages_of (log ++ (m, n) ∷ []) ≡ messages_of log ++ view m ∷ []
messages_more log m n = map-append (λ (entry : code.Message × ℕ). view entry.0) log ((m, n) ∷ [])

pub learned_more : (received : List (Message Definition)) (m : Message Definition) (list : List Definition) → learned [] received ≡ list → learned [] (received ++ m ∷ []) ≡ after_learning list m
unfolding learned
learned_more received m list is = learned_append [] received (m ∷ []) ∙ ap (λ (l : List Definition). after_learning l m) is

-- a definition that is chosen for the next sequence
pub chosen_next : (list : List Definition) (s : ℕ) (d : Definition) → s ≡ next_of list → after_learning list (Chosen s d) ≡ list ++ d ∷ []
chosen_next list s d next = learned_own list s d next

-- ---- several definitions, the first and then the others

pub received_first : (old mid new : List (Message Definition)) (list mid_list : List Definition) (d : Definition) (rest : List Definition) (k : ℕ) →
    mid ≡ old ++ Chosen (next_of list) d ∷ [] → mid_list ≡ list ++ d ∷ [] → new ≡ mid ++ numbered (next_of mid_list) (take k rest) →
    new ≡ old ++ numbered (next_of list) (take (suc k) (d ∷ rest))
unfolding numbered
received_first old mid new list mid_list d rest k first grown later =
    let next : next_of mid_list ≡ suc (next_of list) = omega (arith, ap length grown, length-append list (d ∷ [])) in
    later ∙ ap (λ (s : ℕ). mid ++ numbered s (take k rest)) next ∙ ap (λ (l : List (Message Definition)). l ++ numbered (suc (next_of list)) (take k rest)) first
    ∙ append_assoc old (Chosen (next_of list) d ∷ []) (numbered (suc (next_of list)) (take k rest))

pub list_first : (list mid new : List Definition) (d : Definition) (rest : List Definition) → mid ≡ list ++ d ∷ [] → new ≡ mid ++ rest → new ≡ list ++ d ∷ rest
list_first list mid new d rest first later = later ∙ ap (λ (l : List Definition). l ++ rest) first ∙ append_assoc list (d ∷ []) rest

pub nothing_received : (received : List (Message Definition)) (s : ℕ) (definitions : List Definition) → received ≡ received ++ numbered s (take 0 definitions)
unfolding numbered
nothing_received received s definitions = sym (append-nil received)

pub nothing_learned : (list definitions : List Definition) → list ≡ list ++ take 0 definitions
nothing_learned list definitions = sym (append-nil list)

-- no more than there are sequences
pub whole_list : (list definitions : List Definition) → length list ≤ last_sequence → last_sequence ≤ length list → list ≡ take last_sequence (list ++ definitions)
whole_list list definitions most least =
    let size : last_sequence ≡ length list = omega (arith, most, least) in
    sym (take-append-le last_sequence list definitions least ∙ ap (λ (n : ℕ). take n list) size ∙ take-length list)

take_all : (list : List Definition) (n : ℕ) → length list ≤ n → take n list ≡ list
take_all [] zero most = refl
take_all [] (suc n) most = refl
take_all (x ∷ list) zero most = absurd (omega (arith, most))
take_all (x ∷ list) (suc n) most = ap (λ (l : List Definition). x ∷ l) (take_all list n (omega (arith, most)))

pub short_list : (list : List Definition) → length list ≤ last_sequence → list ≡ take last_sequence (list ++ [])
short_list list most = sym (ap (take last_sequence) (append-nil list) ∙ take_all list last_sequence most)

pub empty_list : (list definitions : List Definition) → length list ≤ last_sequence → length definitions < 1 → list ≡ take last_sequence (list ++ definitions)
empty_list list [] most none = short_list list most
empty_list list (d ∷ definitions) most none = absurd (omega (arith, none))

pub full : (o : Option ℕ) (n : ℕ) → o ≡ None → (IsSome o ↔ (n < last_sequence)) → last_sequence ≤ n
full o n none test = elim (cases_lt n last_sequence) [
  | inl below ↦ let some : IsSome o = test.1 below in let isnt : is_some o ≡ false = ap (λ (x : Option ℕ). is_some x) none in absurd cc
  | inr within ↦ within
]

-- ---- of a replica

pub whole : (list : List Definition) (d : Definition) → 1 ≤ length list → d ≡ get_or list 0 d → list ≡ d ∷ take (length list - 1) (drop 1 list)
whole [] d some is = absurd (omega (arith, some))
whole (x ∷ list) d some is =
    let count : length (x ∷ list) - 1 ≡ length list = omega arith in
    let same : take (length (x ∷ list) - 1) list ≡ list = ap (λ (k : ℕ). take k list) count ∙ take-length list in
    ap (λ (e : Definition). e ∷ list) (sym is) ∙ ap (λ (l : List Definition). d ∷ l) (sym same)

pub learns_none : (old new : MapList) (definitions : List Definition) → heard_by new ≡ heard_by old → maps_of new ≡ maps_of old → Learns 0 old new definitions
learns_none old new definitions received list = record {
  within = omega arith;
  received = received ∙ nothing_received (heard_by old) (next_of (maps_of old)) definitions;
  list = list ∙ nothing_learned (maps_of old) definitions;
}

pub learns_first : (old mid new : MapList) (s : ℕ) (d : Definition) (definitions rest : List Definition) (k : ℕ) → definitions ≡ d ∷ rest → s ≡ next_of (maps_of old) →
    heard_by mid ≡ heard_by old ++ Chosen s d ∷ [] → maps_of mid ≡ maps_of old ++ d ∷ [] → Learns k mid new rest → Learns (suc k) old new definitions
learns_first old mid new s d definitions rest k is next received list later =
    let first : heard_by mid ≡ heard_by old ++ Chosen (next_of (maps_of old)) d ∷ [] = received ∙ ap (λ (n : ℕ). heard_by old ++ Chosen n d ∷ []) next in
    record {
      within = omega (arith, ap length is, later.within);
      received = received_first (heard_by old) (heard_by mid) (heard_by new) (maps_of old) (maps_of mid) d rest k first list later.received
          ∙ ap (λ (l : List Definition). heard_by old ++ numbered (next_of (maps_of old)) (take (suc k) l)) (sym is);
      list = list_first (maps_of old) (maps_of mid) (maps_of new) d (take k rest) list later.list ∙ ap (λ (l : List Definition). maps_of old ++ take (suc k) l) (sym is);
    }
