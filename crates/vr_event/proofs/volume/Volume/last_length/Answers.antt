use Rattle.std.proofs.Common.{◌≡◌, ◌∙◌, List, None, ap, subst, sym}
use Rattle.std.specs.Option.{option_map}
use Rattle.vr_catalog.specs.Catalog.{definition_of}
use Rattle.vr_catalog.specs.declared.entry.CatEntry.{CatEntry}
use Rattle.vr_types.specs.declared.unit.PartNo.{PartNo}
use Rattle.vr_event.specs.Volume.{IsWhole, VolumeNow}
use Rattle.vr_event.proofs.AllowedLengths.{Allowing, allowed-length, allowed-there, last-allows}
use Rattle.vr_event.proofs.volume.Volume.last_length.Goals as goal

pub least_length-requires-clause-some : goal.least_length-requires-clause-some
least_length-requires-clause-some g c =
    let seen = g.B.Blocks.seen in
    let before : VolumeNow g.row.B.Denot = record {
      blocks = c.self.inside.blocks;
      number = c.self.inside.number;
      store = c.self.inside.store;
      file = c.self.inside.file;
    } in
    let whole : IsWhole seen before = subst (IsWhole seen) (sym c.self.view_is) c.requires.whole in
    let going : before.file.stopped ≡ None =
    ap (λ (v : VolumeNow g.row.B.Denot). v.file.stopped) c.self.view_is ∙ c.requires.going in
    allowed-there (definition_of c.catalog.result.now c.in-Some.part.0)
    (subst (λ (entries : List CatEntry). Allowing (definition_of entries c.in-Some.part.0))
    (sym c.catalog.ensures)
    (last-allows seen before c.args.unit c.in-Some.part.0 whole going
    (sym c.last_part.ensures ∙ ap (option_map (λ (part : PartNo). part.0)) c.in-Some.is)))

pub least_length-requires-clause-allows : goal.least_length-requires-clause-allows
least_length-requires-clause-allows g c =
    let seen = g.B.Blocks.seen in
    let before : VolumeNow g.row.B.Denot = record {
      blocks = c.self.inside.blocks;
      number = c.self.inside.number;
      store = c.self.inside.store;
      file = c.self.inside.file;
    } in
    let whole : IsWhole seen before = subst (IsWhole seen) (sym c.self.view_is) c.requires.whole in
    let going : before.file.stopped ≡ None =
    ap (λ (v : VolumeNow g.row.B.Denot). v.file.stopped) c.self.view_is ∙ c.requires.going in
    allowed-length (definition_of c.catalog.result.now c.in-Some.part.0)
    (subst (λ (entries : List CatEntry). Allowing (definition_of entries c.in-Some.part.0))
    (sym c.catalog.ensures)
    (last-allows seen before c.args.unit c.in-Some.part.0 whole going
    (sym c.last_part.ensures ∙ ap (option_map (λ (part : PartNo). part.0)) c.in-Some.is)))
