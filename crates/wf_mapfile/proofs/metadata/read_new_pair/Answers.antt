use Rattle.std.proofs.Common.{rules, string_bytes}
use Rattle.std.specs.HashSet.{contains_text}
use Rattle.wf_mapfile.proofs.Pairs.{pair_seen, pair_read}
use Rattle.wf_mapfile.proofs.metadata.read_new_pair.Goals as goal

pub returns-then-contains : goal.returns-then-contains
returns-then-contains c = λ _.
    pair_seen (λ key. contains_text c.args.keys.now key) c.args.parser.now c.read_key.new.parser c.in_ok-text.text.now (string_bytes c.in_ok-key.key) c.in_ok-text.ensures.read (search rules) (search rules)

pub returns-in-Ok : goal.returns-in-Ok
returns-in-Ok c =
    pair_read (λ key. contains_text c.args.keys.now key) c.args.parser.now c.read_key.new.parser c.in_ok-text.text.now (string_bytes c.in_ok-key.key) c.in_ok-text.ensures.read (search rules)
    c.in-Ok.value c.text.new.self (search rules) c.in-Ok.ensures
