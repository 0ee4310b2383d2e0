use Rattle.std.proofs.Common.{◌∙◌}
use Rattle.wf_http.proofs.FieldTheorem.{first_value}
use Rattle.wf_http.proofs.fields.Fields.first.Goals as goal

pub returns : goal.returns
returns c = c.find_value.ensures ∙ first_value c.args.name.now c.args.self.now
