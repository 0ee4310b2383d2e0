use Rattle.std.proofs.Common.{◌≡◌, arith}
use Rattle.wf_wms.proofs.ServiceTheorem.{get_some}
use Rattle.wf_wms.proofs.history.HistoryMapSource.published_map.Goals as goal

pub unwrap-requires : goal.unwrap-requires
unwrap-requires c =
    let same : c.unwrap-seq.result ≡ c.args.seq = rw c.unwrap-seq.ensures at c.new.ensures.value in
    get_some c.args.self.now.definitions c.unwrap-seq.result c.get.result c.get.ensures.value (omega arith)
