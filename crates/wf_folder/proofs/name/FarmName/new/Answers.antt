-- The bytes of a name's text are a name.
use Rattle.std.proofs.Common.{subst, sym, rules}
use Rattle.wf_folder.specs.Name.{IsFarmName, IsNameText}
use Rattle.wf_folder.proofs.Names.{padded_is_name}
use Rattle.wf_folder.proofs.name.FarmName.new.Goals as goal

pub invariant_of-result : goal.invariant_of-result
invariant_of-result c =
    let text : IsNameText c.args.text.now = search rules in
    subst IsFarmName (sym c.pad.ensures) (padded_is_name c.args.text.now text)
