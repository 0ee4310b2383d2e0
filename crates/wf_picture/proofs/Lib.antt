pub mod ImageLemmas
pub mod WholeLemmas
pub mod ViewLemmas
pub mod TileLemmas
pub mod PictureLemmas
