mod Alterations
mod Plans
mod Choosing
mod Deletions
mod Entering
mod GoneEntries
pub mod GrownLemmas
pub mod Later
pub mod Named
mod NewEntries
mod OnVolume
mod Overs
mod Rising
mod Targets
mod WorkedDeletions
