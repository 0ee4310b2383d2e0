-- The order that is performed, and whose text is written, is the one at that index.
use Rattle.std.proofs.Common.{◌≡◌, ◌∙◌, ap, slice_get, Some}
use Rattle.std.specs.String.{string_bytes}
use Rattle.wf_script.specs.Script.{Script, numbered}
use Rattle.wf_play.specs.Session.{Session}
use Rattle.wf_play.proofs.OrderEffect.{performed_at}
use Rattle.wf_play.proofs.Report.{written_at}
use Rattle.wf_play.proofs.session.Session.perform_order.Goals as goal

pub returns-in-Ok-clause-does : goal.returns-in-Ok-clause-does
returns-in-Ok-clause-does g c =
    let script : c.self.inside.script.now ≡ c.args.self.now.script = ap (λ (s : Session). s.script) c.self.view_is in
    let there : Some (numbered c.in-Some.numbered.now) ≡ slice_get c.args.self.now.script.orders c.args.number =
    c.in-Some.ensures ∙ ap (λ (s : Script). slice_get s.orders c.args.number) script in
    performed_at c.args.self.now.script.maps (slice_get c.args.self.now.script.orders c.args.number) (numbered c.in-Some.numbered.now)
    c.args.self.now.farm c.obey.new.self.farm there c.in-Ok.ensures.does

pub returns-in-Ok-clause-reports : goal.returns-in-Ok-clause-reports
returns-in-Ok-clause-reports g c =
    let script : c.self.inside.script.now ≡ c.args.self.now.script = ap (λ (s : Session). s.script) c.self.view_is in
    let there : Some (numbered c.in-Some.numbered.now) ≡ slice_get c.args.self.now.script.orders c.args.number =
    c.in-Some.ensures ∙ ap (λ (s : Script). slice_get s.orders c.args.number) script in
    written_at c.args.self.now.script (slice_get c.args.self.now.script.orders c.args.number) (numbered c.in-Some.numbered.now)
    c.args.self.now.farm c.obey.new.self.farm (string_bytes c.args.out.now) (string_bytes c.obey.new.out) there c.in-Ok.ensures.reports
