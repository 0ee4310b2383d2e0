-- The file `farm` was written, or was to be.
use Rattle.std.proofs.Common.{refl, subst}
use Rattle.std.specs.Prelude.{Option}
use Rattle.wf_folder.specs.declared.node_file.NodeFile.{NodeFile}
use Rattle.wf_node_folder.proofs.FarmPut.{put_now, put_tried}
use Rattle.wf_node_folder.proofs.held.HeldFolder.write.Goals as goal
use Rattle.wf_node_folder.specs.FarmPut.{IsPutBetween}

pub invariant_of-self-in-Ok-replace : goal.invariant_of-self-in-Ok-replace
invariant_of-self-in-Ok-replace g c = record {
  sound = record { last = c.requires.file; later = tt };
  put = put_now c.args.next.now c.in-Ok-text.text.items (g.S.Store.calls c.replace.new.self.store) c.requires.file c.in-Ok-text.ensures (c.in-Ok-replace.ensures.now refl);
}

pub invariant_of-self-in-Err-replace : goal.invariant_of-self-in-Err-replace
invariant_of-self-in-Err-replace g c =
    let held = c.args.self.now in
    let settled = c.settle.new.self in
    let calls = g.S.Store.calls settled.running.store in
    let between : IsPutBetween held.file held.attempted calls =
    subst (λ (file : NodeFile). IsPutBetween file held.attempted calls) c.settle.ensures.last
    (subst (λ (attempted : Option NodeFile). IsPutBetween settled.file attempted calls) c.settle.ensures.attempted settled.put) in
    record {
      sound = record { last = c.in-Ok.ensures.file; later = c.requires.file };
      put = put_tried held.file c.in-Ok.there c.args.next.now held.attempted c.in-Ok-text.text.items calls (g.S.Store.calls c.replace.new.self.store) between c.requires.file c.in-Ok-text.ensures
          c.in-Ok.ensures.there c.in-Ok.ensures.put c.requires.no_less c.replace.ensures.either (c.replace.ensures.tried refl);
    }
