-- The first byte is the number of replaced nodes.
use Rattle.std.proofs.Common.{◌≡◌, ◌∙◌, [], length, sym, rules}
use Rattle.std.proofs.lemmas.List.{append-nil}
use Rattle.wf_peer.proofs.Decoded.{handed_on, no_error}
use Rattle.wf_peer.proofs.ToldReplacements.{begin_with_nil, counted_front, counted_parts, nil_after, told_not_empty, with_nil}
use Rattle.wf_peer.proofs.replaced_decoder.decode_told.Goals as goal

pub returns-in-None-clause-each : goal.returns-in-None-clause-each
returns-in-None-clause-each c = λ known voted rest told e.
    let none : length c.args.bytes.now ≡ 0 = search rules in
    absurd (told_not_empty c.args.bytes.now rest voted known none e)

pub returns-in-Ok-clause-front : goal.returns-in-Ok-clause-front
returns-in-Ok-clause-front c =
    let front = c.in-Ok.ensures.front in
    (front.0, counted_front c.args.bytes.now c.in-Some.rest.now front.0 c.in-Some.count.now c.in-Ok.told.1 c.in-Ok.told.0 c.in-Some.ensures.cases.0 c.in-Ok.ensures.count front.1)

pub returns-in-Ok-clause-each : goal.returns-in-Ok-clause-each
returns-in-Ok-clause-each c = λ known voted rest told e.
    let parts = counted_parts c.args.bytes.now c.in-Some.rest.now [] rest c.in-Some.count.now voted known c.in-Some.ensures.cases.0 (begin_with_nil c.args.bytes.now _ e) in
    c.in-Ok.ensures.each known voted rest told parts.0 (sym (append-nil c.in-Some.rest.now) ∙ parts.1)

pub returns-in-Ok-clause-begins : goal.returns-in-Ok-clause-begins
returns-in-Ok-clause-begins c = λ known voted more told some e.
    let parts = counted_parts c.args.bytes.now c.in-Some.rest.now more [] c.in-Some.count.now voted known c.in-Some.ensures.cases.0 (with_nil _ _ e) in
    absurd (no_error c.in-Ok.told _ (c.in-Ok.ensures.begins known voted more told parts.0 some (nil_after _ _ parts.1)))

pub returns-in-Err-clause-each : goal.returns-in-Err-clause-each
returns-in-Err-clause-each c = λ known voted rest told e.
    let parts = counted_parts c.args.bytes.now c.in-Some.rest.now [] rest c.in-Some.count.now voted known c.in-Some.ensures.cases.0 (begin_with_nil c.args.bytes.now _ e) in
    c.in-Err.ensures.each known voted rest told parts.0 (sym (append-nil c.in-Some.rest.now) ∙ parts.1)

pub returns-in-Err-clause-begins : goal.returns-in-Err-clause-begins
returns-in-Err-clause-begins c = λ known voted more told some e.
    let parts = counted_parts c.args.bytes.now c.in-Some.rest.now more [] c.in-Some.count.now voted known c.in-Some.ensures.cases.0 (with_nil _ _ e) in
    handed_on c.in-Err.fault _ (c.in-Err.ensures.begins known voted more told parts.0 some (nil_after _ _ parts.1))
