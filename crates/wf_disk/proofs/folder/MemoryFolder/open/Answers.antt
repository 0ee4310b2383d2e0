-- The own file was absent, and is made.
use Rattle.std.proofs.Common.{◌≡◌, reverse, Some, subst}
use Rattle.wf_disk.specs.Folder.{Folder}
use Rattle.wf_disk.specs.Call.{opened_over}
use Rattle.wf_disk.proofs.Files.{opened_new}
use Rattle.wf_disk.proofs.folder.MemoryFolder.open.Goals as goal

pub returns : goal.returns
returns c = (
  tt,
  subst (λ (folder : Folder). record { own = Some c.new.result; second = c.self.inside.second; earlier = reverse c.push_reserved.new.self.items } ≡ opened_over folder.own folder) c.self.view_is
      (opened_new c.self.inside.own c.self.inside.second c.new.result c.self.inside.earlier.items c.reserve.new.self.items c.push_reserved.new.self.items (cc (c.is_some.ensures, c.if-is_some.false)) c.new.ensures c.reserve.ensures.items c.push_reserved.ensures.items),
)
