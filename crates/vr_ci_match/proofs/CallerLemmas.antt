-- Lemmas for crates that read and write control intervals, each with its comment where it is
-- proved.
pub use Rattle.vr_ci_match.proofs.ChainLemmas.{chain_rdfs, chain-push, chain-last}
pub use Rattle.vr_ci_match.proofs.ChainLemmas.{chain-front, last_from-push, alone, all_records}
pub use Rattle.vr_ci_match.proofs.CompareLemmas.{take-past, part_is, in_cidf, half_at, cidf_is}
pub use Rattle.vr_ci_match.proofs.ComparedLemmas.{spans-push, mask, masked-push}
pub use Rattle.vr_ci_match.proofs.EndLemmas.{whole_end}
pub use Rattle.vr_ci_match.proofs.LayoutLemmas.{zeros, length-zeros, length-padded, padded_fits}
pub use Rattle.vr_ci_match.proofs.LayoutLemmas.{byte, Parts, before_cidf, cidf_says, field_busy}
pub use Rattle.vr_ci_match.proofs.MarkLemmas.{total, total-all, take-add, masked_marks, masked_is}
pub use Rattle.vr_ci_match.proofs.MarkLemmas.{length-masked_marks, room_of_rdfs, rdfs_room-append}
pub use Rattle.vr_ci_match.proofs.MarkLemmas.{AreSingles, singles}
pub use Rattle.vr_ci_match.proofs.RdfLemmas.{same_ends, some_bytes, control-push, control_thirds}
pub use Rattle.vr_ci_match.proofs.RdfLemmas.{control_prefix, control_same}
pub use Rattle.vr_ci_match.proofs.TallyLemmas.{place_is}
