-- Two maps within the limits have the same text iff they are equal.
use Rattle.std.proofs.Common.{◌≡◌, ℕ, Bool, List, ap, ◌∙◌}
use Rattle.std.specs.Bool.{Decides}
use Rattle.std.specs.Str.{bytes_eq}
use Rattle.std.proofs.lemmas.Bool.Decides.{Decides-at, Decides-like, same_from_decides}
use Rattle.std.proofs.lemmas.Slice.Eq.{bytes_eq-Decides}
use Rattle.wf_def.specs.Definition.{Definition}
use Rattle.wf_def.specs.Limits.{IsWithinLimits}
use Rattle.wf_def.specs.EqualityTheorems.{definition_eq-Decides}
use Rattle.wf_spelling.specs.Canon.{canon}
use Rattle.wf_canon.proofs.MeaningTheorem.{one_definition}
use Rattle.wf_canon.proofs.equality.CanonPartialEq.eq.Goals as goal

canon-Decides : (d e : Definition) → IsWithinLimits d → IsWithinLimits e → Decides (bytes_eq (canon d) (canon e)) (d ≡ e)
canon-Decides d e within_d within_e =
    Decides-like _ (one_definition d e within_d within_e) (ap canon) (bytes_eq-Decides (canon d) (canon e))

texts-decide : (r : Bool) (t u : List ℕ) (d e : Definition) → r ≡ bytes_eq t u → t ≡ canon d → u ≡ canon e → IsWithinLimits d → IsWithinLimits e → Decides r (d ≡ e)
texts-decide r t u d e compared text_d text_e within_d within_e =
    Decides-at r _ (compared ∙ ap (λ x. bytes_eq x u) text_d ∙ ap (bytes_eq (canon d)) text_e) (canon-Decides d e within_d within_e)

pub returns-clause-test : goal.returns-clause-test
returns-clause-test c =
    same_from_decides _ _
    (texts-decide _ _ _ _ _ c.eq.ensures c.text.ensures.value c.text-2.ensures.value c.text.ensures.within c.text-2.ensures.within)
    (definition_eq-Decides _ _)

pub returns-clause-equal : goal.returns-clause-equal
returns-clause-equal c =
    texts-decide _ _ _ _ _ c.eq.ensures c.text.ensures.value c.text-2.ensures.value c.text.ensures.within c.text-2.ensures.within
