-- Two histories with the same definitions, as far as both go, or with different ones.
use Rattle.std.specs.Prelude.{◌≡◌, ◌≢◌, ℕ, List, Some}
use Rattle.wf_def.specs.Definition.{Definition}
use Rattle.wf_model.specs.DurableState.{definition_at}

-- under this sequence both have a definition, and not the same one
abbrev pub DifferAt : List Definition → List Definition → ℕ → Type 0
DifferAt first second s = (d e : Definition) × (definition_at first s ≡ Some d) × (definition_at second s ≡ Some e) × (d ≢ e)

-- under this sequence they don't have different ones
abbrev pub AgreeAt : List Definition → List Definition → ℕ → Type 0
AgreeAt first second s = (d e : Definition) → definition_at first s ≡ Some d → definition_at second s ≡ Some e → d ≡ e

-- under no sequence do they
abbrev pub Agree : List Definition → List Definition → Type 0
Agree first second = (s : ℕ) → AgreeAt first second s
