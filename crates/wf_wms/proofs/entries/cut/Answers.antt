use Rattle.std.proofs.Common.{◌≡◌, ℕ, ◌==◌, ◌<◌, ◌∷◌, [], List, length, lit<}
use Rattle.std.specs.Prelude.{Option, Some, None, MatchOption}
use Rattle.std.specs.List.{position_or_len, before_first, after_first}
use denote.Ref.{Bor}
use Rattle.wf_wms.specs.MapRequest.{entries}
use Rattle.wf_wms.proofs.EntriesTheorem.{only_entry, first_entry}
use Rattle.wf_wms.proofs.entries.cut.Goals as goal

both : (text : List ℕ) (r : Option (Bor (List ℕ) × Bor (List ℕ))) →
    MatchOption r (position_or_len (λ b. b == 44) text ≡ length text)
    (λ x. (x.0.now ≡ before_first (λ b. b == 44) text) × (x.1.now ≡ after_first (λ b. b == 44) text) × (position_or_len (λ b. b == 44) text < length text)) →
    MatchOption r (entries text ≡ text ∷ []) (λ cut. entries text ≡ cut.0.now ∷ entries cut.1.now)
both text None none = only_entry text none
both text (Some x) cut = rw (cut.0, cut.1) (first_entry text cut.2)

pub returns : goal.returns
returns c = both c.args.text.now c.split_once.result (c.split_once.ensures.byte (lit< tt) (λ w o finds. finds))
