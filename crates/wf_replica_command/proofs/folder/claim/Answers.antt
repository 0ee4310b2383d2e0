-- The file `farm` was read, and is another's.
use Rattle.std.proofs.Common.{◌≡◌, ◌∷◌, ℕ, List, Option, Vec, Global, subst, sym}
use Rattle.std.specs.Prelude.{Some}
use Rattle.wf_replica.specs.FarmFile.{replica_text}
use Rattle.wf_replica_command.proofs.Starting.{other_found}
use Rattle.wf_store.specs.Call.{bytes_of, read}
use Rattle.wf_store.specs.declared.file_name.FileName.TheVariants.{Farm}
use Rattle.wf_replica_command.proofs.folder.claim.Goals as goal

pub returns-in-Ok-Some-clause-cause : goal.returns-in-Ok-Some-clause-cause
returns-in-Ok-Some-clause-cause g c =
    let calls : g.S.Store.calls c.read.new.self ≡ read Farm (Some c.in-Ok-Some.bytes.items) ∷ g.S.Store.calls c.args.store.now =
    subst (λ (found : Option (Vec ℕ Global)). g.S.Store.calls c.read.new.self ≡ read Farm (bytes_of found) ∷ g.S.Store.calls c.args.store.now) c.in-Ok-Some.field-0-is c.in-Ok-Some.ensures.ok in
    other_found (replica_text c.args.farm.now) c.deref.result.now (g.S.Store.calls c.args.store.now) (g.S.Store.calls c.read.new.self) c.judge.result
    (subst (λ (bytes : List ℕ). g.S.Store.calls c.read.new.self ≡ read Farm (Some bytes) ∷ g.S.Store.calls c.args.store.now) (sym c.deref.ensures.value) calls)
    c.judge.ensures.other
