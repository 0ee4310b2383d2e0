-- The operations of a class's styles, given the segments of a feature.
use Rattle.std.specs.Prelude.{List, ◌++◌}
use Rattle.wf_def.specs.Definition.{StyleDefinition}
use Rattle.wf_geometry.specs.Operation.{OperationValue, FillOf, LineOf, in_color}
use Rattle.wf_geometry.specs.declared.operation.Segment.{Segment}

-- a line along the segments
abbrev pub line_along : List Segment → StyleDefinition → List OperationValue
line_along segments style = in_color (LineOf style.width segments) style.color

-- the inside of the edges, then the border along them
abbrev pub filled_and_outlined : List Segment → StyleDefinition → List OperationValue
filled_and_outlined edges style = in_color (FillOf edges) style.color ++ in_color (LineOf style.width edges) style.outline_color
