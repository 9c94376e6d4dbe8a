pub mod CatalogEdit
pub mod Defining
pub mod Now
