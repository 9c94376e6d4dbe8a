use Rattle.vr_space.proofs.search.entry_at.Goals as goal
