pub mod SliceSources
pub mod CellSources
