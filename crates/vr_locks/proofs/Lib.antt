mod AskLemmas
pub mod CallerLemmas
mod EndLemmas
mod FiledLemmas
mod FilingLemmas
mod GrantLemmas
mod ListedLemmas
mod MapLemmas
mod NameLemmas
mod PlanLemmas
mod RefusalLemmas
