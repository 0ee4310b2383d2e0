pub mod PointsTheorem
pub mod Counted
pub mod Unlike
pub mod GatheredTheorem
pub mod LayerNames
