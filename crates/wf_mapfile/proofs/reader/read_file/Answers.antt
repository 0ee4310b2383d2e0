use Rattle.std.proofs.Common.{◌∙◌, sym}
use Rattle.wf_mapfile.proofs.RejectionTheorem.{map_alone, map_and_more}
use Rattle.wf_mapfile.proofs.reader.read_file.Goals as goal

pub returns-in-None-clause-meaning : goal.returns-in-None-clause-meaning
returns-in-None-clause-meaning c =
    map_alone c.args.parser.now _ c.next.new.self c.read_map.new.parser c.in_ok-map.map c.in_ok-first.ensures (sym c.begins_map.ensures ∙ c.if-not-begins_map.false)
    c.in_ok-map.ensures c.in-None.ensures

pub returns-in-Some-clause-meaning : goal.returns-in-Some-clause-meaning
returns-in-Some-clause-meaning c = λ _.
    map_and_more c.args.parser.now _ _ c.next.new.self c.read_map.new.parser _ c.in_ok-map.map c.in_ok-first.ensures (sym c.begins_map.ensures ∙ c.if-not-begins_map.false)
    c.in_ok-map.ensures c.in-Some.ensures
