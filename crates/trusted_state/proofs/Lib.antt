pub mod Carrying
pub mod ListedVerdicts
pub mod MetadataNames
pub mod OrderSteps
pub mod RootRows
pub mod ShelfPlaces
