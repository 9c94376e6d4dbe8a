use Rattle.std.proofs.Common.{◌==◌, List, ap, ◌∙◌}
use Rattle.std.specs.Prelude.{is_some}
use Rattle.std.specs.List.{list_any}
use Rattle.vr_store.specs.Store.{StoreNow, part_among}
use Rattle.vr_store.specs.declared.parts.Laid.{Laid}
use Rattle.vr_store.proofs.LaidParts.{any-laid}
use Rattle.vr_store.proofs.store.Store.has_part.Goals as goal

pub returns : goal.returns
returns g c =
    let number = c.args.number.0 in
    c.is_laid.ensures
    ∙ ap (λ (items : List (Laid g.row.P.Denot)).
    list_any (λ (laid : Laid g.row.P.Denot). laid.number.0 == number) items) c.deref.ensures.value
    ∙ any-laid g.P.Part.shape g.P.Part.known number c.self.inside.parts.items
    ∙ ap (λ (s : StoreNow). is_some (part_among s.parts number)) c.self.view_is
