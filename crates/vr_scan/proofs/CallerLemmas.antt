-- Lemmas for callers: the laws of command texts.

-- lines have one list of tokens or one first fault, and never both
pub use Rattle.vr_scan.proofs.Outcomes.{one_list_of_tokens, no_tokens_at_a_fault, one_first_fault}
pub use Rattle.vr_scan.proofs.Existing.{tokens_or_a_fault}
-- the places of tokens ascend strictly, where the numbers of the lines do
pub use Rattle.vr_scan.proofs.Ascending.{places_ascend}
-- each end follows another token, and the last token is one
pub use Rattle.vr_scan.proofs.Ends.{commands_are_ended}
