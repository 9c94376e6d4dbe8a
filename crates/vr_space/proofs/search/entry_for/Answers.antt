use Rattle.vr_space.proofs.search.entry_for.Goals as goal
