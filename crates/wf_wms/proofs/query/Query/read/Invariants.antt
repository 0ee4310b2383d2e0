use Rattle.std.proofs.Common.{◌≡◌, map, ◌++◌, string_bytes}
use Rattle.form_urlencoded.specs.Parse.{owned_pairs_left}
use Rattle.wf_wms.specs.Query.{pairs_of, decoded_pair}
use Rattle.wf_wms.proofs.query.Query.read.Given as goal

-- the pairs read so far, and then those that are left
abbrev pub invariant-loop-pair : goal.invariant-loop-pair
invariant-loop-pair l =
    map (λ pair. (string_bytes pair.0, string_bytes pair.1)) l.pairs.items
    ++ map decoded_pair (owned_pairs_left l.pair-iterator) ≡ pairs_of l.query
