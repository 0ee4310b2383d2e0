-- The fields of messages and records: their lengths, and that each determines its value.
use Rattle.std.proofs.Common.{◌≡◌, ℕ, ◌<◌, ◌^◌, List, ◌++◌, length, get_or, take, drop, refl, sym, ap, ◌∙◌, append_assoc, arith}
use Rattle.std.proofs.Math.Seq.{take-append_seam, drop-append_seam}
use Rattle.std.proofs.lemmas.Nat.{from_be_bytes-to_be_bytes_2, from_be_bytes-to_be_bytes_4}
use Rattle.std.specs.Int.{w16, w32, from_be_bytes}
use Rattle.wf_ballot.specs.Node.{IsNode, node_bytes}
use Rattle.wf_ballot.specs.Sequence.{IsSequence, seq_bytes}
use Rattle.wf_ballot.specs.Ballot.{Ballot, IsBallot, round_bytes, ballot_bytes}
use Rattle.wf_ballot.specs.Field.{AreDistinct}
use Rattle.wf_ballot.specs.OrderTheorems.{same_ballot}

pub length-node_bytes : (n : ℕ) → length (node_bytes n) ≡ 1
length-node_bytes n = refl

pub length-seq_bytes : (s : ℕ) → length (seq_bytes s) ≡ 2
unfolding seq_bytes
length-seq_bytes s = refl

pub length-round_bytes : (round : ℕ) → length (round_bytes round) ≡ 4
unfolding round_bytes
length-round_bytes round = refl

pub length-ballot_bytes : (b : Ballot) → length (ballot_bytes b) ≡ 5
unfolding ballot_bytes round_bytes
length-ballot_bytes b = refl

-- equal lists with prefixes of the same length have equal prefixes and equal rests
same_parts : (xs ys after_x after_y : List ℕ) → length xs ≡ length ys → xs ++ after_x ≡ ys ++ after_y →
    (xs ≡ ys) × (after_x ≡ after_y)
same_parts xs ys after_x after_y same_length same = (
  sym (take-append_seam xs after_x) ∙ ap (take (length xs)) same
      ∙ ap (λ n. take n (ys ++ after_y)) same_length ∙ take-append_seam ys after_y,
  sym (drop-append_seam xs after_x) ∙ ap (drop (length xs)) same
      ∙ ap (λ n. drop n (ys ++ after_y)) same_length ∙ drop-append_seam ys after_y,
)

pub nodes_are_distinct : AreDistinct IsNode node_bytes
nodes_are_distinct m n after_m after_n is_m is_n same =
    let parts = same_parts (node_bytes m) (node_bytes n) after_m after_n refl same in
    (ap (λ bytes. get_or bytes 0 0) parts.0, parts.1)

pub sequences_are_distinct : AreDistinct IsSequence seq_bytes
unfolding seq_bytes
sequences_are_distinct s t after_s after_t is_s is_t same =
    let parts = same_parts (seq_bytes s) (seq_bytes t) after_s after_t refl same in (
      sym (from_be_bytes-to_be_bytes_2 s (omega arith)) ∙ ap (from_be_bytes w16) parts.0
          ∙ from_be_bytes-to_be_bytes_2 t (omega arith),
      parts.1,
    )

pub rounds_are_distinct : AreDistinct (λ round. round < 2 ^ 32) round_bytes
unfolding round_bytes
rounds_are_distinct q r after_q after_r is_q is_r same =
    let parts = same_parts (round_bytes q) (round_bytes r) after_q after_r refl same in (
      sym (from_be_bytes-to_be_bytes_4 q is_q) ∙ ap (from_be_bytes w32) parts.0
          ∙ from_be_bytes-to_be_bytes_4 r is_r,
      parts.1,
    )

-- a ballot's first 4 bytes determine its round, and the next byte its node
pub ballots_are_distinct : AreDistinct IsBallot ballot_bytes
unfolding ballot_bytes
ballots_are_distinct a b after_a after_b is_a is_b same =
    let regrouped = sym (append_assoc (round_bytes a.round) (node_bytes a.node) after_a) ∙ same
    ∙ append_assoc (round_bytes b.round) (node_bytes b.node) after_b in
    let rounds = rounds_are_distinct a.round b.round (node_bytes a.node ++ after_a) (node_bytes b.node ++ after_b)
    (omega (arith, is_a.to_last)) (omega (arith, is_b.to_last)) regrouped in
    let nodes = nodes_are_distinct a.node b.node after_a after_b is_a.by_node is_b.by_node rounds.1 in
    (same_ballot a b rounds.0 nodes.0, nodes.1)
