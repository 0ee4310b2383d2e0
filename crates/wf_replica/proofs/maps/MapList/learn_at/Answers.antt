-- The tape gets the record of the map that was learned; where none was, it is as it was.
use Rattle.std.proofs.Common.{rules, ◌≡◌, [], ◌∷◌, ◌++◌, refl}
use Rattle.wf_replica.proofs.Received.{chosen_next}
use Rattle.wf_replica.proofs.Recorded.{recorded_more, recorded_same}
use Rattle.wf_replica.specs.MapList.{maps_of}
use Rattle.wf_replica.specs.Recorded.{HasAppended}
use Rattle.wf_replica.proofs.maps.MapList.learn_at.Goals as goal

pub returns-in_err-receive-clause-recorded : goal.returns-in_err-receive-clause-recorded
returns-in_err-receive-clause-recorded g c = λ recorded.
    recorded_same g.T.Tape (maps_of c.args.self.now) (maps_of c.receive.new.self) c.args.tape.now c.args.tape.now recorded refl c.in_err-receive.ensures.same_list

pub returns-clause-recorded : goal.returns-clause-recorded
returns-clause-recorded g c = λ recorded.
    let grown : maps_of c.receive.new.self ≡ maps_of c.args.self.now ++ c.args.definition.now ∷ [] = search (rules, chosen_next) in
    let appended : g.T.Tape.durable → HasAppended g.T.Tape c.in_ok-bytes.bytes.items c.args.tape.now c.append.new.tape = search rules in
    recorded_more g.T.Tape (maps_of c.args.self.now) (maps_of c.receive.new.self) c.args.tape.now c.args.tape.now c.append.new.tape c.args.slot c.args.definition.now c.in_ok-bytes.bytes.items
    recorded refl c.requires c.in_ok-bytes.ensures appended grown
