pub mod Contents
pub mod Items
pub mod OpenedFiles
pub mod Seen
