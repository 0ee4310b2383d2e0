pub mod Styles
pub mod Pixmap
pub mod Cells
pub mod Canvas
pub mod Shown
pub mod RowPart
pub mod Marks
pub mod Edges
