-- Which folder a node takes for a peer's, by what it knows of replacements.
use Rattle.std.specs.Prelude.{◌≡◌, ◌≢◌, ◌<◌, ◌≤◌, true, false, Option, Some, None}
use Rattle.wf_rejoin.specs.Replacements.{count_of}
use Rattle.wf_rejoin.specs.declared.admission.FolderRejection.{FolderRejection}
use Rattle.wf_rejoin.specs.declared.admission.FolderRejection.TheVariants as causes
use Rattle.wf_rejoin.specs.declared.admission.GreetedFolder.{GreetedFolder}
use Rattle.wf_rejoin.specs.declared.replacement.Replacement.{Replacement}

-- Where a replacement is known, it is that one's folder; else it is one that was never replaced,
-- and doesn't join.
abbrev pub IsFolderTaken : Option Replacement → GreetedFolder → Type 0
IsFolderTaken None g = (g.joins ≡ false) × (g.replacement.count ≡ 0)
IsFolderTaken (Some k) g = g.replacement.mark ≡ k.mark

-- it joins, and no operator has begun its replacement
pub record IsUnbegun (g : GreetedFolder) : Type 0 where
  pub joins : g.joins ≡ true
  pub no_count : g.replacement.count ≡ 0

-- Why it isn't: its replacement wasn't begun; it says that it has a higher count than is known; or
-- another folder takes its place, with a count that isn't lower.
abbrev pub IsFolderCause : Option Replacement → GreetedFolder → FolderRejection → Type 0
IsFolderCause known g causes.NotBegun = IsUnbegun g
IsFolderCause known g causes.NotTold = (¬ IsUnbegun g) × (count_of known < g.replacement.count)
IsFolderCause known g (causes.Retired k) = (¬ IsUnbegun g) × (known ≡ Some k) × (g.replacement.count ≤ k.count) × (g.replacement.mark ≢ k.mark)
