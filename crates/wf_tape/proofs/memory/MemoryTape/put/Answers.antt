-- The content is replaced, and the state before is noted.
use Rattle.std.proofs.Common.{◌≡◌, reverse, ap, subst, arith, rules}
use Rattle.wf_tape.specs.MemoryTape.{TapeValue, states_before, replaced}
use Rattle.wf_tape.proofs.Noted.{replaced_is}
use Rattle.wf_tape.proofs.memory.MemoryTape.put.Goals as goal

pub returns-clause-ok : goal.returns-clause-ok
returns-clause-ok c =
    let old : TapeValue = record { bytes = c.self.inside.bytes.items; synced = c.self.inside.synced; past = states_before c.self.inside.bytes.items (reverse c.self.inside.earlier.items); fuse = c.self.inside.fuse; failures = c.self.inside.failures } in
    let is : old ≡ c.args.self.now = c.self.view_is in
    let new : TapeValue = record { bytes = c.replace-replaced.new.dest.items; synced = c.len-self-inside.result; past = states_before c.replace-replaced.new.dest.items (reverse c.push_reserved.new.self.items); fuse = c.self.inside.fuse; failures = c.self.inside.failures } in
    let content : c.replace-replaced.new.dest.items ≡ c.args.bytes.now = search rules in
    subst (λ (k : TapeValue). new ≡ replaced k c.args.bytes.now) is
    (replaced_is c.replace-replaced.new.dest.items c.self.inside.bytes.items c.args.bytes.now c.replace-replaced.result c.len-self-inside.result c.self.inside.synced c.self.inside.fuse c.self.inside.failures c.self.inside.earlier.items c.reserve.new.self.items
    c.push_reserved.new.self.items content (omega (arith, c.len-self-inside.ensures, c.replace-replaced.new.dest.ok.0)) (ap (λ v. v.items) c.replace-replaced.ensures.value) c.reserve.ensures.items c.push_reserved.ensures.items)
