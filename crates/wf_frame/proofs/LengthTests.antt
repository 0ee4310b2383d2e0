-- The lengths of a kind are those that its layout allows, and there are none without a kind.
use Rattle.std.proofs.Common.{◌≡◌, ℕ, ◌&&◌, leb, List, Option, Some, None, Result, Err, refl, ap}
use Rattle.std.specs.Prelude.{option_map}
use Rattle.wf_frame.specs.declared.fault.FrameFault.{FrameFault}
use Rattle.wf_frame.specs.declared.fault.FrameFault.TheVariants.{BadKind}
use Rattle.wf_frame.specs.declared.lengths.Lengths.{Lengths}
use Rattle.wf_frame.specs.Layout.{Layout, fits, lengths_of}
use Rattle.wf_frame.specs.Frame.{Format, FrameFound, length_front, IsSplitAs}

pub unknown_front : (format : Format) (version byte : ℕ) (o : Option Layout) (bytes : List ℕ) → None ≡ option_map lengths_of o → length_front format version byte o bytes ≡ Err BadKind
unfolding length_front
unknown_front format version byte None bytes e = refl
unknown_front format version byte (Some layout) bytes e = absurd cc

pub known_front : {X : Type 0} (view : X → FrameFound) (result : Result X FrameFault) (format : Format) (version byte : ℕ) (o : Option Layout) (lengths : Lengths) (bytes : List ℕ) →
    Some lengths ≡ option_map lengths_of o → ((layout : Layout) → lengths ≡ lengths_of layout → IsSplitAs view result (length_front format version byte (Some layout) bytes)) →
    IsSplitAs view result (length_front format version byte o bytes)
known_front view result format version byte None lengths bytes e known = absurd cc
known_front view result format version byte (Some layout) lengths bytes e known = known layout cc

-- the test of a length is that of the layout
pub allowed : (lengths : Lengths) (layout : Layout) (n : ℕ) → lengths ≡ lengths_of layout → (leb lengths.least n && leb n lengths.most) ≡ fits layout n
allowed lengths layout n same = ap (λ (l : Lengths). leb l.least n && leb n l.most) same
