pub mod ReadingSlots
pub mod SlotSet
pub mod WritingSlots
pub mod CallerLemmas
