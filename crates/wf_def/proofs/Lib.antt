mod LayerLemmas
mod MapLemmas
