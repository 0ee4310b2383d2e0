-- The first bytes are those of replacements, and the next two those of the sequence.
use Rattle.std.proofs.Common.{◌∙◌, drop}
use Rattle.wf_peer.specs.Greeting.{entries_from}
use Rattle.wf_peer.proofs.ToldReplacements.{length_of_entries, size_read, told_parts, told_whole}
use Rattle.wf_peer.proofs.replaced_decoder.told_of.Goals as goal

pub returns-in_default-clause-each : goal.returns-in_default-clause-each
returns-in_default-clause-each c = λ known voted rest size are sequence counted e.
    let parts = told_parts c.args.bytes.now c.split_at.result.0.now c.split_at.result.1.now c.split_at-2.result.0.now (entries_from 0 known) rest c.args.size voted c.split_at.ensures.front c.split_at.ensures.back c.split_at-2.ensures.front (length_of_entries 0 known are ∙ counted) e in
    let got = c.in_default.ensures.each known size are parts.0 in
    cc

pub returns-in-Some-from_bytes-clause-size : goal.returns-in-Some-from_bytes-clause-size
returns-in-Some-from_bytes-clause-size c =
    size_read c.args.bytes.now c.split_at.result.0.now c.args.size c.in-Some.replacements c.requires c.split_at.ensures.front c.in-Some.ensures.told.1 c.in-Some.ensures.some

pub returns-in-Some-from_bytes-clause-front : goal.returns-in-Some-from_bytes-clause-front
returns-in-Some-from_bytes-clause-front c = (
  drop 2 c.split_at.result.1.now,
  told_whole c.args.bytes.now c.split_at.result.0.now c.split_at.result.1.now c.split_at-2.result.0.now (entries_from 0 c.in-Some.replacements) c.args.size c.in-Some-from_bytes.voted c.split_at.ensures.front c.split_at.ensures.back c.split_at-2.ensures.front c.in-Some.ensures.some c.in-Some-from_bytes.ensures.value,
)

pub returns-in-Some-from_bytes-clause-each : goal.returns-in-Some-from_bytes-clause-each
returns-in-Some-from_bytes-clause-each c = λ known voted rest size are sequence counted e.
    let parts = told_parts c.args.bytes.now c.split_at.result.0.now c.split_at.result.1.now c.split_at-2.result.0.now (entries_from 0 known) rest c.args.size voted c.split_at.ensures.front c.split_at.ensures.back c.split_at-2.ensures.front (length_of_entries 0 known are ∙ counted) e in
    let replacements = c.in-Some.ensures.each known size are parts.0 in
    let sequence = c.in-Some-from_bytes.ensures.each voted sequence parts.1 in
    cc

pub returns-in-None-clause-each : goal.returns-in-None-clause-each
returns-in-None-clause-each c = λ known voted rest size are sequence counted e.
    let parts = told_parts c.args.bytes.now c.split_at.result.0.now c.split_at.result.1.now c.split_at-2.result.0.now (entries_from 0 known) rest c.args.size voted c.split_at.ensures.front c.split_at.ensures.back c.split_at-2.ensures.front (length_of_entries 0 known are ∙ counted) e in
    let got = c.in-None.ensures.each voted sequence parts.1 in
    cc
