-- The parts of the bytes are those of the greeting.
use Rattle.std.proofs.Common.{◌≡◌, ◌∙◌, ap, sym, subst, refl, get_or, List, [], ◌∷◌, ℕ, arith, rules}
use Rattle.std.specs.Prelude.{Some, IsSome, is_some, false}
use Rattle.wf_ballot.specs.Node.{IsNode}
use Rattle.wf_folder.specs.Name.{IsFarmName}
use Rattle.wf_peer.specs.declared.greeting.Greeting.{Greeting}
use Rattle.wf_peer.specs.Greeting.{plain}
use Rattle.wf_peer.proofs.Decoded.{fixed_parts, fixed_whole, one}
use Rattle.wf_peer.proofs.Parts.{same_greeting}
use Rattle.wf_peer.proofs.decoder.fixed_of.Goals as goal

pub returns-in_err-farm-clause-each : goal.returns-in_err-farm-clause-each
returns-in_err-farm-clause-each c = λ g is e.
    let parts = fixed_parts c.args.bytes.now c.split_at.result.1.now c.split_at-2.result.1.now c.split_at-3.result.1.now c.split_at.result.0.now c.split_at-2.result.0.now c.split_at-3.result.0.now c.split_at-4.result.0.now c.split_at-4.result.1.now c.split_at.ensures.front c.split_at.ensures.back c.split_at-2.ensures.front c.split_at-2.ensures.back c.split_at-3.ensures.front c.split_at-3.ensures.back c.split_at-4.ensures.front c.split_at-4.ensures.back g is e in
    let some : IsSome c.from_bytes.result = c.from_bytes.ensures.valid.1 (subst IsFarmName (sym parts.0) is.farm) in
    let none : is_some c.from_bytes.result ≡ false = ap (λ (o : _). is_some o) c.in_err-farm.was in
    cc

pub returns-in_err-node-clause-each : goal.returns-in_err-node-clause-each
returns-in_err-node-clause-each c = λ g is e.
    let parts = fixed_parts c.args.bytes.now c.split_at.result.1.now c.split_at-2.result.1.now c.split_at-3.result.1.now c.split_at.result.0.now c.split_at-2.result.0.now c.split_at-3.result.0.now c.split_at-4.result.0.now c.split_at-4.result.1.now c.split_at.ensures.front c.split_at.ensures.back c.split_at-2.ensures.front c.split_at-2.ensures.back c.split_at-3.ensures.front c.split_at-3.ensures.back c.split_at-4.ensures.front c.split_at-4.ensures.back g is e in
    let same : get_or c.split_at-2.result.0.now 1 0 ≡ g.node = ap (λ (l : List ℕ). get_or l 1 0) parts.1 in
    let some : IsSome c.new.result = c.new.ensures.valid.1 (subst IsNode (sym same) is.node) in
    let none : is_some c.new.result ≡ false = ap (λ (o : _). is_some o) c.in_err-node.was in
    cc

pub returns-in_err-progress-clause-each : goal.returns-in_err-progress-clause-each
returns-in_err-progress-clause-each c = λ g is e.
    let parts = fixed_parts c.args.bytes.now c.split_at.result.1.now c.split_at-2.result.1.now c.split_at-3.result.1.now c.split_at.result.0.now c.split_at-2.result.0.now c.split_at-3.result.0.now c.split_at-4.result.0.now c.split_at-4.result.1.now c.split_at.ensures.front c.split_at.ensures.back c.split_at-2.ensures.front c.split_at-2.ensures.back c.split_at-3.ensures.front c.split_at-3.ensures.back c.split_at-4.ensures.front c.split_at-4.ensures.back g is e in
    let got = c.progress_of.ensures.each g.progress is.progress parts.2 in
    let none = c.in_err-progress.was in
    cc

pub returns-in_err-state-clause-each : goal.returns-in_err-state-clause-each
returns-in_err-state-clause-each c = λ g is e.
    let parts = fixed_parts c.args.bytes.now c.split_at.result.1.now c.split_at-2.result.1.now c.split_at-3.result.1.now c.split_at.result.0.now c.split_at-2.result.0.now c.split_at-3.result.0.now c.split_at-4.result.0.now c.split_at-4.result.1.now c.split_at.ensures.front c.split_at.ensures.back c.split_at-2.ensures.front c.split_at-2.ensures.back c.split_at-3.ensures.front c.split_at-3.ensures.back c.split_at-4.ensures.front c.split_at-4.ensures.back g is e in
    let got = c.of_byte.ensures.each g.state (ap (λ (l : List ℕ). get_or l 0 0) parts.4) in
    let none = c.in_err-state.was in
    cc

pub returns-clause-some : goal.returns-clause-some
returns-clause-some c = fixed_whole c.args.bytes.now c.split_at.result.1.now c.split_at-2.result.1.now c.split_at-3.result.1.now c.split_at.result.0.now c.split_at-2.result.0.now c.split_at-3.result.0.now c.split_at-4.result.0.now c.split_at-4.result.1.now c.split_at.ensures.front c.split_at.ensures.back c.split_at-2.ensures.front c.split_at-2.ensures.back c.split_at-3.ensures.front c.split_at-3.ensures.back c.split_at-4.ensures.front c.split_at-4.ensures.back c.split_at-2.ensures.front_len _ c.in_ok-farm.ensures.value refl c.in_ok-node.ensures.value c.in_ok-progress.ensures.some c.array.ensures (one c.split_at-4.result.1.now (omega (arith, c.requires, c.split_at.ensures.back_len, c.split_at-2.ensures.back_len, c.split_at-3.ensures.back_len, c.split_at-4.ensures.back_len)) ∙ ap (λ (n : ℕ). n ∷ []) c.in_ok-state.ensures.value)

pub returns-clause-each : goal.returns-clause-each
returns-clause-each c = λ g is e.
    let parts = fixed_parts c.args.bytes.now c.split_at.result.1.now c.split_at-2.result.1.now c.split_at-3.result.1.now c.split_at.result.0.now c.split_at-2.result.0.now c.split_at-3.result.0.now c.split_at-4.result.0.now c.split_at-4.result.1.now c.split_at.ensures.front c.split_at.ensures.back c.split_at-2.ensures.front c.split_at-2.ensures.back c.split_at-3.ensures.front c.split_at-3.ensures.back c.split_at-4.ensures.front c.split_at-4.ensures.back g is e in
    let progress = c.progress_of.ensures.each g.progress is.progress parts.2 in
    let was_progress = c.in_ok-progress.was in
    let state = c.of_byte.ensures.each g.state (ap (λ (l : List ℕ). get_or l 0 0) parts.4) in
    let was_state = c.in_ok-state.was in
    ap (λ (q : Greeting). Some q) (same_greeting _ (plain g) (c.in_ok-farm.ensures.value ∙ parts.0) (ap (λ (l : List ℕ). get_or l 0 0) parts.1) (c.in_ok-node.ensures.value ∙ ap (λ (l : List ℕ). get_or l 1 0) parts.1) (cc) (c.array.ensures ∙ parts.3) (cc) c.new-2.ensures (search rules))
