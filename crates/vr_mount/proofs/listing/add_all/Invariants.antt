use Rattle.std.proofs.Common.{◌≡◌}
use Rattle.std.specs.Prelude.{IsTrue}
use Rattle.vr_types.specs.Content.{Content}
use Rattle.vr_types.specs.Blocks.{Keeps}
use Rattle.vr_space.specs.Part.{StandsFor}
use Rattle.vr_mount.proofs.Reading.{AreRead}
use Rattle.vr_mount.proofs.listing.add_all.Given as goal

-- the calls so far put nothing, and the records so far are those up to the last place
abbrev pub invariant-loop-turn : goal.invariant-loop-turn
invariant-loop-turn g l =
    let B = g.B.Blocks in
    let P = g.P.Part in
    let shape = P.shape l.fn.part in
    let first = B.seen l.fn.blocks in
    record {
      keeps : Keeps B.tells first (B.seen l.blocks);
      read : IsTrue B.tells → (content : Content) → StandsFor shape first.cur content
          → AreRead shape first.cur l.last l.records.items content;
      faults : B.faults l.blocks ≡ B.faults l.fn.blocks;
      shape : P.shape l.part ≡ shape;
      known : P.known l.part ≡ P.known l.fn.part;
      put : P.put l.part ≡ P.put l.fn.part;
    }
