-- The synced bytes and a prefix of the rest are kept.
use Rattle.std.proofs.Common.{◌≡◌, ◌+◌, false, take, drop, length, subst, ◌∙◌, arith}
use Rattle.wf_disk.specs.Folder.{File}
use Rattle.wf_disk.specs.MemoryDisk.{left_by}
use Rattle.wf_disk.proofs.Files.{cut_at, cut_short}
use Rattle.wf_disk.proofs.file.MemoryFile.cut.Goals as goal

pub returns : goal.returns
returns c =
    let left : c.truncate.new.self.items ≡ take (c.self.inside.synced + c.args.keep) c.self.inside.bytes.items =
    c.truncate.ensures.items ∙ cut_at c.self.inside.bytes.items (c.self.inside.synced + c.args.keep) c.saturating_add.result c.saturating_add.ensures (omega (arith, c.self.inside.bytes.ok)) in
    let all : c.len-self-inside.result ≡ length c.truncate.new.self.items = omega (arith, c.len-self-inside.ensures, c.truncate.new.self.ok.0) in
    subst (λ (file : File). record { synced = take c.len-self-inside.result c.truncate.new.self.items; rest = drop c.len-self-inside.result c.truncate.new.self.items; doubtful = false } ≡ left_by c.args.keep file) c.self.view_is
    (cut_short c.self.inside.bytes.items c.truncate.new.self.items c.self.inside.synced c.args.keep c.len-self-inside.result left all)
