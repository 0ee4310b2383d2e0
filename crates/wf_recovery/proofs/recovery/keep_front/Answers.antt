-- The front of the bytes reads as all of them do.
use Rattle.wf_recovery.proofs.Fronts.{reads_front, same_after, same_or_front}
use Rattle.wf_recovery.proofs.recovery.keep_front.Goals as goal

pub returns-in-Ok-clause-same : goal.returns-in-Ok-clause-same
returns-in-Ok-clause-same g c = λ durable.
    reads_front c.records_are_read_one_way.ensures.one c.args.bytes.now c.split_at.result.0.now c.args.offset c.requires.within (c.requires.bad durable) c.split_at.ensures.front
    (g.T.Tape.content c.replace.new.self) (c.in-Ok.ensures.ok durable)

pub returns-in-Ok-clause-images : goal.returns-in-Ok-clause-images
returns-in-Ok-clause-images g c = λ durable.
    same_after c.records_are_read_one_way.ensures.one c.args.bytes.now c.split_at.result.0.now c.args.offset c.requires.within (c.requires.bad durable) c.split_at.ensures.front
    (g.T.Tape.images c.args.tape.now) (g.T.Tape.images c.replace.new.self) (c.requires.image durable) (c.in-Ok.ensures.synced durable)

pub returns-in-Ok-clause-inside : goal.returns-in-Ok-clause-inside
returns-in-Ok-clause-inside g c = λ durable.
    same_or_front c.records_are_read_one_way.ensures.one c.args.bytes.now c.split_at.result.0.now c.args.offset c.requires.within (c.requires.bad durable) c.split_at.ensures.front
    (g.T.Tape.images c.args.tape.now) (g.T.Tape.left_since c.replace.new.self (g.T.Tape.moment c.args.tape.now)) (c.requires.image durable) (c.replace.ensures.inside durable)

pub returns-in-Err-clause-images : goal.returns-in-Err-clause-images
returns-in-Err-clause-images g c = λ durable.
    same_or_front c.records_are_read_one_way.ensures.one c.args.bytes.now c.split_at.result.0.now c.args.offset c.requires.within (c.requires.bad durable) c.split_at.ensures.front
    (g.T.Tape.images c.args.tape.now) (g.T.Tape.images c.replace.new.self) (c.requires.image durable) (c.in-Err.ensures.images durable)

pub returns-in-Err-clause-inside : goal.returns-in-Err-clause-inside
returns-in-Err-clause-inside g c = λ durable.
    same_or_front c.records_are_read_one_way.ensures.one c.args.bytes.now c.split_at.result.0.now c.args.offset c.requires.within (c.requires.bad durable) c.split_at.ensures.front
    (g.T.Tape.images c.args.tape.now) (g.T.Tape.left_since c.replace.new.self (g.T.Tape.moment c.args.tape.now)) (c.requires.image durable) (c.replace.ensures.inside durable)
