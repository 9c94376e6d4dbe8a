use Rattle.std.proofs.Common.{◌≡◌, ◌∙◌, None, Option, List, ℕ, Some, MatchOption, ap, refl}
use Rattle.std.proofs.Common.{rules, subst, sym}
use Rattle.vr_types.specs.Image.{Image}
use Rattle.vr_space.specs.AreaCalls.{read_here}
use Rattle.vr_space.specs.Keyed.{Keyed}
use Rattle.vr_keyed.specs.Look.{AreaStands, HasEntry}
use Rattle.vr_keyed.proofs.Adding.{if-ok-map}
use Rattle.vr_keyed.proofs.Places.{area-known, area-stands, entry-there, read-there}
use Rattle.vr_keyed.proofs.chain.look_at.Goals as goal

pub look_in-requires-clause-stands : goal.look_in-requires-clause-stands
look_in-requires-clause-stands g c told =
    let image : Image = (g.B.Blocks.seen c.args.blocks.now).cur in
    let now = c.args.areas.now in
    let at = c.area_for-layout.ensures in
    let place = c.args.place.now in
    subst (λ (area : Keyed). AreaStands area image) (sym at.3)
    (area-stands now.part image (c.requires.stands told) place at.0
    (area-known now.part now.areas now.ends image (c.requires.knows told) place at.0 at.1))

pub look_in-requires-clause-entry : goal.look_in-requires-clause-entry
look_in-requires-clause-entry g c told =
    let image : Image = (g.B.Blocks.seen c.args.blocks.now).cur in
    let now = c.args.areas.now in
    let at = c.area_for-layout.ensures in
    let place = c.args.place.now in
    subst (λ (area : Keyed). HasEntry area image place) (sym at.3)
    (entry-there now.part image (c.requires.stands told) place at.0
    (area-known now.part now.areas now.ends image (c.requires.knows told) place at.0 at.1))

pub returns : goal.returns
returns g c =
    let image : Image = (g.B.Blocks.seen c.args.blocks.now).cur in
    let now = c.args.areas.now in
    let at = c.area_for-layout.ensures in
    let place = c.args.place.now in (
      (refl, λ x. tt, search rules),
      record {
        item = λ told.
            let found = area-known now.part now.areas now.ends image (c.requires.knows told) place
            at.0 at.1 in
            if-ok-map c.look_in.result _ _
            (λ lent is. subst (λ (read : Option (List ℕ)). MatchOption lent (read ≡ None)
            (λ s. read ≡ Some s.now))
            (ap (λ (area : Keyed). read_here area image place) at.3
            ∙ sym (read-there now.part image (c.requires.stands told) place at.0 found)) is)
            (c.look_in.ensures.item told);
        after = tt;
      },
    )
