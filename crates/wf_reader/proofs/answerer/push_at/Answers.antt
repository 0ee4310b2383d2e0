-- A number that isn't a slot's has no definition.
use Rattle.std.proofs.Common.{◌≡◌, ◌∙◌, ◌++◌, ap, sym, append-nil, arith}
use Rattle.std.specs.Prelude.{Option, IsSome, is_some, false}
use Rattle.std.specs.Option.{option_to_list}
use Rattle.wf_ballot.specs.Sequence.{IsSlot}
use Rattle.wf_def.specs.Definition.{Definition}
use Rattle.wf_reader.proofs.Next.{no_definition}
use Rattle.wf_reader.proofs.answerer.push_at.Goals as goal

pub returns-in_default-clause-ok : goal.returns-in_default-clause-ok
returns-in_default-clause-ok c =
    let not_slot : IsSlot c.args.number → ⊥ =
    λ slot. let some : IsSome c.new.result = c.new.ensures.valid.1 slot in let none : is_some c.new.result ≡ false = ap (λ (o : _). is_some o) c.in_default.is in cc in
    let nothing = no_definition c.args.history.now.definitions c.args.number c.requires (omega (arith, c.published.ensures.in_range, c.published.ensures.value)) not_slot in
    sym (ap (λ (o : Option Definition). c.args.found.now.items ++ option_to_list o) nothing ∙ append-nil c.args.found.now.items)
