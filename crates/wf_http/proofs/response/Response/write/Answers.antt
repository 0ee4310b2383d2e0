use Rattle.std.proofs.Common.{subst}
use Rattle.wf_http.specs.WriteEnd.{IsWriting}
use Rattle.wf_http.specs.Response.{response_bytes}
use Rattle.wf_http.proofs.WriteEndTheorem.{writing_starts}
use Rattle.wf_http.proofs.response.Response.write.Goals as goal

pub returns-then-progress-clause-part : goal.returns-then-progress-clause-part
returns-then-progress-clause-part g c =
    let first = c.args.sink.now in
    let done = c.put_all.ensures first (writing_starts g.K.Sink first c.start-progress.result c.start-progress.ensures) in
    let ended = subst (λ failed. IsWriting g.K.Sink first (response_bytes c.args.self.now) c.put_all.new.sink c.put_all.new.progress.written failed) c.if-progress.true done in
    ended.part

pub returns-then-progress-clause-cause : goal.returns-then-progress-clause-cause
returns-then-progress-clause-cause g c =
    let first = c.args.sink.now in
    let done = c.put_all.ensures first (writing_starts g.K.Sink first c.start-progress.result c.start-progress.ensures) in
    let ended = subst (λ failed. IsWriting g.K.Sink first (response_bytes c.args.self.now) c.put_all.new.sink c.put_all.new.progress.written failed) c.if-progress.true done in
    ended.cause

pub returns-then-progress-clause-last : goal.returns-then-progress-clause-last
returns-then-progress-clause-last g c =
    let first = c.args.sink.now in
    let done = c.put_all.ensures first (writing_starts g.K.Sink first c.start-progress.result c.start-progress.ensures) in
    let ended = subst (λ failed. IsWriting g.K.Sink first (response_bytes c.args.self.now) c.put_all.new.sink c.put_all.new.progress.written failed) c.if-progress.true done in
    ended.last

pub returns-else-progress-clause-whole : goal.returns-else-progress-clause-whole
returns-else-progress-clause-whole g c =
    let first = c.args.sink.now in
    let done = c.put_all.ensures first (writing_starts g.K.Sink first c.start-progress.result c.start-progress.ensures) in
    let ended = subst (λ failed. IsWriting g.K.Sink first (response_bytes c.args.self.now) c.put_all.new.sink c.put_all.new.progress.written failed) c.if-progress.false done in
    ended.whole

pub returns-else-progress-clause-count : goal.returns-else-progress-clause-count
returns-else-progress-clause-count g c =
    let first = c.args.sink.now in
    let done = c.put_all.ensures first (writing_starts g.K.Sink first c.start-progress.result c.start-progress.ensures) in
    let ended = subst (λ failed. IsWriting g.K.Sink first (response_bytes c.args.self.now) c.put_all.new.sink c.put_all.new.progress.written failed) c.if-progress.false done in
    ended.counts

pub returns-else-progress-clause-calm : goal.returns-else-progress-clause-calm
returns-else-progress-clause-calm g c =
    let first = c.args.sink.now in
    let done = c.put_all.ensures first (writing_starts g.K.Sink first c.start-progress.result c.start-progress.ensures) in
    let ended = subst (λ failed. IsWriting g.K.Sink first (response_bytes c.args.self.now) c.put_all.new.sink c.put_all.new.progress.written failed) c.if-progress.false done in
    ended.calm
