-- What the crates above cite: the record or roster in a block is the one that it spells, how long
-- its spelling is, the block of a roster is that roster's, and that a record without its last
-- entries keeps the rules.
pub use Rattle.vr_seqset.proofs.ListLemmas.{All-left, All-right}
pub use Rattle.vr_seqset.proofs.RecordLemmas.{record_is, length-block_of_record}
pub use Rattle.vr_seqset.proofs.RecordLemmas.{length-head_bytes, length-spelling, count_within}
pub use Rattle.vr_seqset.proofs.EntryLemmas.{length-entry_bytes}
pub use Rattle.vr_seqset.proofs.PrefixLemmas.{earlier_keep}
pub use Rattle.vr_seqset.proofs.RosterLemmas.{roster_is, length-block_of_roster, block_of_roster_is}
