-- By the number of replaced nodes nothing is told, or so many bytes are.
use Rattle.std.proofs.Common.{◌≡◌, ◌∙◌, ◌<◌, ◌*◌, arith, rules}
use Rattle.wf_peer.proofs.ToldReplacements.{far_enough, none_known, not_far_enough, nothing_after, nothing_begins}
use Rattle.wf_peer.proofs.replaced_decoder.decode_counted.Goals as goal

pub returns-then-count-eq0-clause-front : goal.returns-then-count-eq0-clause-front
returns-then-count-eq0-clause-front c =
    let none : c.args.count ≡ 0 = search rules in
    (c.args.bytes.now, nothing_after c.args.bytes.now c.args.count c.unwrap.result c.new.result none)

pub returns-then-count-eq0-clause-each : goal.returns-then-count-eq0-clause-each
returns-then-count-eq0-clause-each c = λ known voted rest told counted e.
    let none : c.args.count ≡ 0 = search rules in
    let nothing = c.new.ensures in
    let first : c.unwrap.result ≡ 0 = search rules in
    let all = none_known 64 known told.size (counted ∙ none) in
    let unvoted = told.unvoted (counted ∙ none) in
    cc

pub returns-then-count-eq0-clause-begins : goal.returns-then-count-eq0-clause-begins
returns-then-count-eq0-clause-begins c = λ known voted more told counted some e.
    let none : c.args.count ≡ 0 = search rules in
    absurd (nothing_begins c.args.bytes.now more c.args.count voted known none some e)

pub returns-then-bytes-size-clause-each : goal.returns-then-bytes-size-clause-each
returns-then-bytes-size-clause-each c = λ known voted rest told counted e.
    let some : 0 < c.args.count = search rules in
    absurd (not_far_enough c.args.bytes.now rest c.args.count (21 * c.from-size.result) voted known told counted some (omega (arith, c.from-size.ensures)) (omega (arith, c.if-bytes-size.true)) e)

pub returns-in-Some-clause-begins : goal.returns-in-Some-clause-begins
returns-in-Some-clause-begins c = λ known voted more told counted some e.
    let count : 0 < c.args.count = search rules in
    absurd (far_enough c.args.bytes.now more c.args.count (21 * c.from-size.result) voted known told counted count (omega (arith, c.from-size.ensures)) (omega (arith, c.if-bytes-size.false)) some e)

pub returns-in-None-clause-begins : goal.returns-in-None-clause-begins
returns-in-None-clause-begins c = λ known voted more told counted some e.
    let count : 0 < c.args.count = search rules in
    absurd (far_enough c.args.bytes.now more c.args.count (21 * c.from-size.result) voted known told counted count (omega (arith, c.from-size.ensures)) (omega (arith, c.if-bytes-size.false)) some e)
