-- All bytes are synced, and the state before is noted if it was another.
use Rattle.std.proofs.Common.{◌≡◌, length, reverse, subst, arith}
use Rattle.wf_tape.specs.MemoryTape.{TapeValue, states_before, settled}
use Rattle.wf_tape.proofs.Noted.{settled_is, settled_same, is_less, is_not_less}
use Rattle.wf_tape.proofs.memory.MemoryTape.settle.Goals as goal

pub returns-then-self-length-clause-settled : goal.returns-then-self-length-clause-settled
returns-then-self-length-clause-settled c =
    let old : TapeValue = record { bytes = c.self.inside.bytes.items; synced = c.self.inside.synced; past = states_before c.self.inside.bytes.items (reverse c.self.inside.earlier.items); fuse = c.self.inside.fuse; failures = c.self.inside.failures } in
    let is : old ≡ c.args.self.now = c.self.view_is in
    let new : TapeValue = record { bytes = c.self.inside.bytes.items; synced = c.len-length.result; past = states_before c.self.inside.bytes.items (reverse c.push_reserved.new.self.items); fuse = c.self.inside.fuse; failures = c.self.inside.failures } in
    let all : c.len-length.result ≡ length c.self.inside.bytes.items = omega (arith, c.len-length.ensures, c.self.inside.bytes.ok.0) in
    subst (λ (k : TapeValue). new ≡ settled k) is
    (settled_is c.self.inside.bytes.items c.len-length.result c.self.inside.synced c.self.inside.fuse c.self.inside.failures c.self.inside.earlier.items c.push_reserved.new.self.items all
    (is_less c.self.inside.synced (length c.self.inside.bytes.items) (omega (arith, all, c.if-self-length.true))) c.push_reserved.ensures.items)

pub returns-else-self-length-clause-settled : goal.returns-else-self-length-clause-settled
returns-else-self-length-clause-settled c =
    let old : TapeValue = record { bytes = c.self.inside.bytes.items; synced = c.self.inside.synced; past = states_before c.self.inside.bytes.items (reverse c.self.inside.earlier.items); fuse = c.self.inside.fuse; failures = c.self.inside.failures } in
    let is : old ≡ c.args.self.now = c.self.view_is in
    let length_is : c.len-length.result ≡ length c.self.inside.bytes.items = omega (arith, c.len-length.ensures, c.self.inside.bytes.ok.0) in
    let all : c.self.inside.synced ≡ length c.self.inside.bytes.items = omega (arith, length_is, c.if-self-length.false, c.self.invariant.0) in
    subst (λ (k : TapeValue). k ≡ settled k) is (settled_same old all (is_not_less c.self.inside.synced (length c.self.inside.bytes.items) all))
