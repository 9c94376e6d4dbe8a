pub mod CallerLemmas
pub mod EntryRead
pub mod FaultLemmas
pub mod FieldLemmas
pub mod NameLemmas
pub mod RecordLemmas
