-- The definition's index is one below its number.
use Rattle.std.proofs.Common.{◌≡◌, ℕ, ◌-◌, List, length, slice_get, Option, Some, None, Bor, refl, sym, ◌∙◌, ap}
use Rattle.std.proofs.lemmas.Option.{slice_get_past, slice_get_read}
use Rattle.std.specs.Option.{option_copied}
use Rattle.std.specs.Slice.{IsItemAt}
use Rattle.wf_def.specs.Definition.{Definition}
use Rattle.wf_learner.specs.History.{History}
use Rattle.wf_learner.proofs.Reported.{definition_before}
use Rattle.wf_learner.proofs.history.History.definition.Goals as goal

-- what is borrowed is the element, if there is one
lent : {X : Type 0} (xs : List X) (i : ℕ) (r : Option (Bor X)) → IsItemAt xs i r → option_copied r ≡ slice_get xs i
lent xs i None got = sym (slice_get_past xs i got.3)
lent xs i (Some x) got = sym (slice_get_read xs (length xs) i x.now refl got.3.0 got.1)

pub returns : goal.returns
returns c =
    let items = c.deref.ensures.value ∙ ap (λ (h : History). h.definitions) c.self.view_is in
    lent c.deref.result.now (c.args.number - 1) c.get.result c.get.ensures.lookup
    ∙ (ap (λ (xs : List Definition). slice_get xs (c.args.number - 1)) items ∙ sym (definition_before c.args.self.now.definitions c.args.number c.requires))
