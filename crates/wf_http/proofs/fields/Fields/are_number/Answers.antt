use Rattle.std.proofs.Common.{◌∙◌, not, ap}
use Rattle.wf_http.specs.Fields.{is_number}
use Rattle.wf_http.proofs.FieldTheorem.{all_values}
use Rattle.wf_http.proofs.fields.Fields.are_number.Goals as goal

pub returns : goal.returns
returns c = ap not c.finds_other.ensures ∙ all_values c.args.name.now (is_number c.args.first.now) c.args.self.now
