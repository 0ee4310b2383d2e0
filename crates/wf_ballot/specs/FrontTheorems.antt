-- Fields at the front of bytes: a field is read iff the bytes begin with it.
use Rattle.std.proofs.Common.{◌≡◌, ℕ, ◌<◌, ◌^◌, Bool, true, false, cond, ltb, leb, ◌&&◌, List, [], ◌∷◌, ◌++◌, take, Option, Some, None, refl, sym, ap, subst, arith, inl, inr}
use Rattle.std.proofs.lemmas.Bool.{cases_lt, and_parts, ltb-true, leb-true, lt-ltb, le-leb}
use Rattle.std.proofs.lemmas.List.{get_or-take, get_or_past, length-take}
use Rattle.std.proofs.lemmas.Nat.{be_bytes_2, be_bytes_4, from_be_bytes-to_be_bytes_2, from_be_bytes-to_be_bytes_4}
use Rattle.std.specs.Int.{w16, w32, from_be_bytes, to_be_bytes}
use Rattle.wf_ballot.specs.Node.{most_nodes, IsNode, node_bytes}
use Rattle.wf_ballot.specs.Sequence.{IsSlot, last_sequence, seq_bytes}
use Rattle.wf_ballot.specs.Ballot.{Ballot, IsBallot, round_bytes, ballot_bytes, IsRound}
use Rattle.wf_ballot.specs.Front.{AreBytes, ReadsFront, front_node, front_slot, front_round, front_ballot}

-- the test of a value that was returned is true
kept : {A : Type 0} (b : Bool) (x y : A) → cond b (Some x) None ≡ Some y → (b ≡ true) × (x ≡ y)
kept true x y e = (refl, cc)
kept false x y e = absurd cc

-- a prefix of bytes is bytes
pub AreBytes-take : (n : ℕ) (bytes : List ℕ) → AreBytes bytes → AreBytes (take n bytes)
AreBytes-take n bytes fits i =
    elim (cases_lt i n) [
      | inl below ↦ rw (get_or-take n bytes i 0 below) (fits i)
      | inr past ↦ rw (get_or_past (take n bytes) i 0 (omega (arith, length-take n bytes))) (omega arith)
    ]

-- ---- nodes

node_stands : (bytes rest : List ℕ) (n : ℕ) → AreBytes bytes → front_node bytes ≡ Some (n, rest) → (bytes ≡ node_bytes n ++ rest) × IsNode n
unfolding front_node
node_stands [] rest n fits e = absurd cc
node_stands (m ∷ bytes) rest n fits e =
    let k = kept (ltb m most_nodes) (m, bytes) (n, rest) e in
    subst (λ (x : ℕ × List ℕ). (m ∷ bytes ≡ x.0 ∷ x.1) × IsNode x.0) k.1 (refl, ltb-true m most_nodes k.0)

node_read : (n : ℕ) (rest : List ℕ) → IsNode n → front_node (node_bytes n ++ rest) ≡ Some (n, rest)
unfolding front_node
node_read n rest is_node = rw (lt-ltb n most_nodes is_node) refl

pub reads_nodes : ReadsFront IsNode node_bytes front_node
reads_nodes = record { stands = node_stands; read = node_read }

-- ---- slots

slot_stands : (bytes rest : List ℕ) (s : ℕ) → AreBytes bytes → front_slot bytes ≡ Some (s, rest) → (bytes ≡ seq_bytes s ++ rest) × IsSlot s
unfolding front_slot seq_bytes
slot_stands [] rest s fits e = absurd cc
slot_stands (a ∷ []) rest s fits e = absurd cc
slot_stands (a ∷ b ∷ bytes) rest s fits e =
    let n : ℕ = from_be_bytes w16 (a ∷ b ∷ []) in
    let k = kept (leb 1 n && leb n last_sequence) (n, bytes) (s, rest) e in
    let tests = and_parts (leb 1 n) (leb n last_sequence) k.0 in
    let spelled : to_be_bytes w16 n ≡ a ∷ b ∷ [] = be_bytes_2 (a ∷ b ∷ []) n refl (AreBytes-take 2 (a ∷ b ∷ bytes) fits) refl in
    subst (λ (x : ℕ × List ℕ). (a ∷ b ∷ bytes ≡ to_be_bytes w16 x.0 ++ x.1) × IsSlot x.0) k.1 (
      sym (ap (λ (front : List ℕ). front ++ bytes) spelled),
      record { from_one = leb-true 1 n tests.0; to_last = leb-true n last_sequence tests.1 },
    )

slot_read : (s : ℕ) (rest : List ℕ) → IsSlot s → front_slot (seq_bytes s ++ rest) ≡ Some (s, rest)
unfolding front_slot seq_bytes
slot_read s rest is_slot =
    let again : from_be_bytes w16 (to_be_bytes w16 s) ≡ s = from_be_bytes-to_be_bytes_2 s (omega (arith, is_slot.to_last)) in
    let chosen : (n : ℕ) → n ≡ s → cond {A = Option (ℕ × List ℕ)} (leb 1 n && leb n last_sequence) (Some (n, rest)) None ≡ Some (s, rest)
    = λ n e. rw (e, le-leb 1 s is_slot.from_one, le-leb s last_sequence is_slot.to_last) refl in
    chosen (from_be_bytes w16 (to_be_bytes w16 s)) again

pub reads_slots : ReadsFront IsSlot seq_bytes front_slot
reads_slots = record { stands = slot_stands; read = slot_read }

-- ---- rounds

-- four bytes are their number, and the number is below 2 ^ 32
pub four_bytes : (a b c d : ℕ) (bytes : List ℕ) → AreBytes (a ∷ b ∷ c ∷ d ∷ bytes) →
    (to_be_bytes w32 (from_be_bytes w32 (a ∷ b ∷ c ∷ d ∷ [])) ≡ a ∷ b ∷ c ∷ d ∷ []) × (from_be_bytes w32 (a ∷ b ∷ c ∷ d ∷ []) < 2 ^ 32)
four_bytes a b c d bytes fits = (
  be_bytes_4 (a ∷ b ∷ c ∷ d ∷ []) (from_be_bytes w32 (a ∷ b ∷ c ∷ d ∷ [])) refl (AreBytes-take 4 (a ∷ b ∷ c ∷ d ∷ bytes) fits) refl,
  omega (arith, fits 0, fits 1, fits 2, fits 3),
)

round_stands : (bytes rest : List ℕ) (r : ℕ) → AreBytes bytes → front_round bytes ≡ Some (r, rest) → (bytes ≡ round_bytes r ++ rest) × IsRound r
unfolding front_round round_bytes
round_stands [] rest r fits e = absurd cc
round_stands (a ∷ []) rest r fits e = absurd cc
round_stands (a ∷ b ∷ []) rest r fits e = absurd cc
round_stands (a ∷ b ∷ c ∷ []) rest r fits e = absurd cc
round_stands (a ∷ b ∷ c ∷ d ∷ bytes) rest r fits e =
    let n : ℕ = from_be_bytes w32 (a ∷ b ∷ c ∷ d ∷ []) in
    let k = kept (leb 1 n) (n, bytes) (r, rest) e in
    let number = four_bytes a b c d bytes fits in
    subst (λ (x : ℕ × List ℕ). (a ∷ b ∷ c ∷ d ∷ bytes ≡ to_be_bytes w32 x.0 ++ x.1) × IsRound x.0) k.1
    (sym (ap (λ (front : List ℕ). front ++ bytes) number.0), (record { from_one = leb-true 1 n k.0; to_last = omega (arith, number.1) }))

round_read : (r : ℕ) (rest : List ℕ) → IsRound r → front_round (round_bytes r ++ rest) ≡ Some (r, rest)
unfolding front_round round_bytes
round_read r rest is_round =
    let again : from_be_bytes w32 (to_be_bytes w32 r) ≡ r = from_be_bytes-to_be_bytes_4 r (omega (arith, is_round.to_last)) in
    let chosen : (n : ℕ) → n ≡ r → cond {A = Option (ℕ × List ℕ)} (leb 1 n) (Some (n, rest)) None ≡ Some (r, rest)
    = λ n e. rw (e, le-leb 1 r is_round.from_one) refl in
    chosen (from_be_bytes w32 (to_be_bytes w32 r)) again

pub reads_rounds : ReadsFront IsRound round_bytes front_round
reads_rounds = record { stands = round_stands; read = round_read }

-- ---- ballots

ballot_stands : (bytes rest : List ℕ) (b : Ballot) → AreBytes bytes → front_ballot bytes ≡ Some (b, rest) → (bytes ≡ ballot_bytes b ++ rest) × IsBallot b
unfolding front_ballot round_bytes ballot_bytes
ballot_stands [] rest ballot fits e = absurd cc
ballot_stands (a ∷ []) rest ballot fits e = absurd cc
ballot_stands (a ∷ b ∷ []) rest ballot fits e = absurd cc
ballot_stands (a ∷ b ∷ c ∷ []) rest ballot fits e = absurd cc
ballot_stands (a ∷ b ∷ c ∷ d ∷ []) rest ballot fits e = absurd cc
ballot_stands (a ∷ b ∷ c ∷ d ∷ node ∷ bytes) rest ballot fits e =
    let n : ℕ = from_be_bytes w32 (a ∷ b ∷ c ∷ d ∷ []) in
    let read : Ballot = record { round = n; node = node } in
    let k = kept (leb 1 n && ltb node most_nodes) (read, bytes) (ballot, rest) e in
    let tests = and_parts (leb 1 n) (ltb node most_nodes) k.0 in
    let number = four_bytes a b c d (node ∷ bytes) fits in
    subst (λ (x : Ballot × List ℕ). (a ∷ b ∷ c ∷ d ∷ node ∷ bytes ≡ ballot_bytes x.0 ++ x.1) × IsBallot x.0) k.1 (
      sym (ap (λ (front : List ℕ). front ++ node ∷ bytes) number.0),
      record { from_one = leb-true 1 n tests.0; to_last = omega (arith, number.1); by_node = ltb-true node most_nodes tests.1 },
    )

ballot_read : (b : Ballot) (rest : List ℕ) → IsBallot b → front_ballot (ballot_bytes b ++ rest) ≡ Some (b, rest)
unfolding front_ballot round_bytes ballot_bytes
ballot_read b rest is_ballot =
    let again : from_be_bytes w32 (to_be_bytes w32 b.round) ≡ b.round = from_be_bytes-to_be_bytes_4 b.round (omega (arith, is_ballot.to_last)) in
    let read : ℕ → Ballot = λ n. record { round = n; node = b.node } in
    let chosen : (n : ℕ) → n ≡ b.round → cond {A = Option (Ballot × List ℕ)} (leb 1 n && ltb b.node most_nodes) (Some (read n, rest)) None ≡ Some (b, rest)
    = λ n e. rw (e, le-leb 1 b.round is_ballot.from_one, lt-ltb b.node most_nodes is_ballot.by_node) refl in
    chosen (from_be_bytes w32 (to_be_bytes w32 b.round)) again

pub reads_ballots : ReadsFront IsBallot ballot_bytes front_ballot
reads_ballots = record { stands = ballot_stands; read = ballot_read }
