pub mod Faults
pub mod FileSource
pub mod MemorySink
pub mod MemorySource
pub mod StdPair
pub mod Told
