mod AfterLemmas
mod AnswerLemmas
pub mod CallerLemmas
mod FileLemmas
mod HeldLemmas
mod KeptLemmas
mod KeyedLemmas
mod LeastLemmas
mod LogLemmas
mod OpeningLemmas
mod Outcomes
mod PlaceLemmas
mod RecordLemmas
mod StayLemmas
mod CalmLemmas
mod TakingLemmas
