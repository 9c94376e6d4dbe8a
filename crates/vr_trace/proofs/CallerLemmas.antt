-- Laws of the merged history, for those who run decks over several volumes.

-- a volume's part is its history
pub use Rattle.vr_trace.proofs.Merges.{volume_part}
-- a deck's part is the merge of its parts
pub use Rattle.vr_trace.proofs.Merges.{deck_part}
-- a deck's part is what the deck asked, in its order
pub use Rattle.vr_trace.proofs.Merges.{deck_asked}
-- it grows where a volume's history does, as do its requests, and stays where it has no entry there
pub use Rattle.vr_trace.proofs.Merges.{deck_grows, requests_grow, deck_stays}
-- the code of a step is what one of the entries of its decks makes
pub use Rattle.vr_trace.proofs.Worst.{worst}
-- a deck's requests are among its entries; the entries of a list of histories, one by one
pub use Rattle.vr_trace.proofs.Volumes.{entries_again, on_one, requests_of_deck}
-- inserting one by one sorts
pub use Rattle.vr_trace.proofs.Insertions.{IsInsertion, sorted_views}
