use Rattle.std.proofs.Common.{rules, ◌≡◌, string_bytes, true, false, is_some, sym, ◌∙◌}
use Rattle.std.specs.HashSet.{contains_text}
use Rattle.std.proofs.lemmas.Map.Text.{hash_set_updates_text}
use Rattle.wf_block.specs.Grammar.{end}
use Rattle.wf_mapfile.specs.Pairs.{keep}
use Rattle.wf_mapfile.proofs.Pairs.{collect_more}
use Rattle.wf_mapfile.proofs.metadata.read_pairs.Goals as goal

-- a pair after those so far
pub loop-preserved : goal.loop-preserved
loop-preserved c =
    let key = string_bytes c.in_ok-key.key in
    let closed : is_some (end c.loop.parser) ≡ false = search rules in
    let kept : c.keep.new.self ≡ keep c.loop.kept key c.in_ok-key.value = search rules in
    let more = collect_more (λ key. contains_text c.loop.keys key) (λ key. contains_text c.insert.new.self key) c.loop.kept c.len-end.result c.loop.counter
    c.loop.parser c.read_new_pair.new.parser key c.in_ok-key.value c.loop-test.true closed c.in_ok-key.ensures
    (hash_set_updates_text key c.loop.keys c.insert.new.self true c.in_ok-insert.ensures.updates) in
    rw kept (sym more ∙ c.loop.invariant)
