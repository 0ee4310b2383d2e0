use Rattle.std.proofs.Common.{◌≡◌, Some, refl, rules}
use Rattle.std.specs.Str.{is_utf8, chars}
use Rattle.std.specs.Char.{encode_utf8}
use Rattle.wf_def.specs.Text.{is_text}
use Rattle.wf_mapfile.specs.Map.{definition, map_of}
use Rattle.wf_mapfile.proofs.slots.MapSlots.fill.Goals as goal

-- The default is a text: the test computes.
pub text_or-requires : goal.text_or-requires
unfolding is_text is_utf8 chars encode_utf8
text_or-requires c = refl

-- The required keywords came, and the layers are added to a map of the rest.
pub returns-in-Ok-into_map : goal.returns-in-Ok-into_map
unfolding map_of definition
returns-in-Ok-into_map c =
    let extent : c.args.self.single.extent ≡ Some c.in-Some.extent = search rules in
    let projection : c.args.self.single.projection ≡ Some c.in-Some-projection.projection = search rules in
    rw (extent, projection) (search rules)
