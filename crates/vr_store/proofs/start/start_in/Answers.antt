-- A part that is made in the least free area: it owns that one alone, and where it can't be made the
-- area is free again.
use Rattle.std.proofs.Common.{◌∙◌, List, Option, ap, subst}
use Rattle.vr_types.specs.Space.{released}
use Rattle.vr_types.specs.declared.unit.PartNo.{PartNo}
use Rattle.vr_space.specs.Part.{owned_count}
use Rattle.vr_attach.specs.Owning.{owner_of}
use Rattle.vr_volume.specs.Defining.{IsStarted}
use Rattle.vr_store.proofs.NewAreas.{alone, back}
use Rattle.vr_store.proofs.start.start_in.Goals as goal

pub start-requires-clause-alone : goal.start-requires-clause-alone
start-requires-clause-alone g c = ap (owned_count c.args.part) c.mark.ensures
    ∙ alone c.args.part c.args.space.now c.args.area.0 c.requires.least c.requires.unowned

pub returns-in-Ok-clause-started : goal.returns-in-Ok-clause-started
returns-in-Ok-clause-started g c told =
    let made = c.in-Ok.ensures in
    subst (λ (areas : List (Option PartNo)). IsStarted (g.P.Part.shape c.in-Ok.started)
    (owner_of c.args.geometry.now areas) (g.P.Part.known c.in-Ok.started)
    (g.B.Blocks.seen c.start.new.blocks)) c.mark.ensures
    (record {
      on = made.on;
      rests = made.rests told;
      claimed = made.claimed;
      room = made.room told;
      knows = made.knows told;
      reads = made.reads told;
      firm = made.firm told;
    })

pub returns-in-Err-clause-free : goal.returns-in-Err-clause-free
returns-in-Err-clause-free g c = c.release.ensures
    ∙ ap (released c.args.part) c.mark.ensures
    ∙ back c.args.part c.args.space.now c.args.area.0 c.requires.least c.requires.unowned
