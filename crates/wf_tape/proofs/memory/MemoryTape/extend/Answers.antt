-- The bytes are appended, and the state before is noted.
use Rattle.std.proofs.Common.{◌≡◌, reverse, subst, arith}
use Rattle.wf_tape.specs.MemoryTape.{TapeValue, states_before, appended}
use Rattle.wf_tape.proofs.Noted.{appended_is}
use Rattle.wf_tape.proofs.memory.MemoryTape.extend.Goals as goal

pub returns-clause-ok : goal.returns-clause-ok
returns-clause-ok c =
    let old : TapeValue = record { bytes = c.self.inside.bytes.items; synced = c.self.inside.synced; past = states_before c.self.inside.bytes.items (reverse c.self.inside.earlier.items); fuse = c.self.inside.fuse; failures = c.self.inside.failures } in
    let is : old ≡ c.args.self.now = c.self.view_is in
    let new : TapeValue = record { bytes = c.extend_from_slice.new.self.items; synced = c.self.inside.synced; past = states_before c.extend_from_slice.new.self.items (reverse c.push_reserved.new.self.items); fuse = c.self.inside.fuse; failures = c.self.inside.failures } in
    subst (λ (k : TapeValue). new ≡ appended k c.args.bytes.now) is
    (appended_is c.self.inside.bytes.items c.args.bytes.now c.extend_from_slice.new.self.items c.len-length.result c.self.inside.synced c.self.inside.fuse c.self.inside.failures c.self.inside.earlier.items
    c.reserve.new.self.items c.push_reserved.new.self.items c.in_ok-extend_from_slice.ensures.items (omega (arith, c.len-length.ensures, c.self.inside.bytes.ok.0)) c.reserve.ensures.items c.push_reserved.ensures.items)
