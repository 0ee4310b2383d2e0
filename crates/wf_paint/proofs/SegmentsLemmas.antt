-- The path through positions, without further ones.
use Rattle.std.proofs.Common.{◌≡◌, List, [], ◌++◌, sym, ap, ◌∙◌}
use Rattle.std.proofs.lemmas.List.{append-nil}
use Rattle.wf_geometry.specs.Position.{PositionValue}
use Rattle.wf_geometry.specs.Segments.{path_from}
use Rattle.wf_geometry.specs.declared.operation.Segment.{Segment}

pub path_whole : (after before : List Segment) (start : PositionValue) (rest : List PositionValue) →
    after ++ [] ≡ before ++ path_from start (rest ++ []) → after ≡ before ++ path_from start rest
path_whole after before start rest e =
    sym (append-nil after) ∙ e ∙ ap (λ (r : List PositionValue). before ++ path_from start r) (append-nil rest)
