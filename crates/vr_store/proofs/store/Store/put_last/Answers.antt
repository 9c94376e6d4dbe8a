use Rattle.std.proofs.Common.{◌<◌, List, None, ap, map, refl, subst, sym, ◌∙◌}
use Rattle.std.specs.Prelude.{IfSome}
use Rattle.vr_types.specs.Moments.{Guards}
use Rattle.vr_space.specs.Part.{CanSet}
use Rattle.vr_history.specs.State.{BeforeImage}
use Rattle.vr_undo.specs.Records.{befores_of, image_of}
use Rattle.vr_undo.specs.declared.record.KeptRecord.{KeptRecord}
use Rattle.vr_volume.specs.Committed.{committed_by}
use Rattle.vr_volume.specs.PutBack.{lengths_kept}
use Rattle.vr_volume.specs.Safe.{IsSafeImage}
use Rattle.vr_store.specs.LastImage.{HasNoStage, IsBackIn, OnLast, last_of_unit}
use Rattle.vr_store.specs.Store.{IsFitImage, IsSet, IsStored, Stands, StoreNow, changed_by, part_now}
use Rattle.vr_store.specs.Left.{left_for}
use Rattle.vr_store.specs.Parts.{OnlyMet}
use Rattle.vr_store.specs.Store.{PartNow, owners_of, part_among, shape_among, store_of}
use Rattle.vr_store.proofs.LastImages.{back-in, back-made, back-of, back-state, can-back, last-has}
use Rattle.vr_store.proofs.LastImages.{last-on, last-out, on-last, set-taken, taken-from}
use Rattle.vr_store.proofs.PlacedParts.{shapes-same, split-met}
use Rattle.vr_store.proofs.StagesLeft.{waits-back}
use Rattle.vr_store.proofs.store.Store.put_last.Goals as goal

pub put_before-requires-clause-set : goal.put_before-requires-clause-set
put_before-requires-clause-set g c =
    let inside = c.self.inside in
    let unit = c.args.unit in
    let a = g.B.Blocks.seen c.args.blocks.now in
    let v : StoreNow = record {
      log = inside.log;
      undo = inside.undo;
      parts = map (part_now g.P.Part.shape g.P.Part.known) inside.parts.items;
      changed = map changed_by inside.changed.items;
      space = inside.space;
    } in
    let before = c.in-Some.before in
    let set = subst (λ (s : StoreNow). IsSet s a) (sym c.self.view_is) c.requires.set in
    set-taken v a unit c.take_one.new.self c.take_one.ensures.befores set

pub put_before-requires-clause-part : goal.put_before-requires-clause-part
put_before-requires-clause-part g c =
    let inside = c.self.inside in
    let unit = c.args.unit in
    let a = g.B.Blocks.seen c.args.blocks.now in
    let v : StoreNow = record {
      log = inside.log;
      undo = inside.undo;
      parts = map (part_now g.P.Part.shape g.P.Part.known) inside.parts.items;
      changed = map changed_by inside.changed.items;
      space = inside.space;
    } in
    let before = c.in-Some.before in
    let set = subst (λ (s : StoreNow). IsSet s a) (sym c.self.view_is) c.requires.set in
    let last = last-out unit (befores_of inside.undo) c.take_one.result before c.in-Some.is
    c.take_one.ensures.value in
    let fit = last-has (IsFitImage v.parts) unit (befores_of inside.undo) (image_of unit before)
    set.kept last in
    fit.part

pub put_before-requires-clause-place : goal.put_before-requires-clause-place
put_before-requires-clause-place g c =
    let inside = c.self.inside in
    let unit = c.args.unit in
    let a = g.B.Blocks.seen c.args.blocks.now in
    let v : StoreNow = record {
      log = inside.log;
      undo = inside.undo;
      parts = map (part_now g.P.Part.shape g.P.Part.known) inside.parts.items;
      changed = map changed_by inside.changed.items;
      space = inside.space;
    } in
    let before = c.in-Some.before in
    let set = subst (λ (s : StoreNow). IsSet s a) (sym c.self.view_is) c.requires.set in
    let last = last-out unit (befores_of inside.undo) c.take_one.result before c.in-Some.is
    c.take_one.ensures.value in
    let fit = last-has (IsFitImage v.parts) unit (befores_of inside.undo) (image_of unit before)
    set.kept last in
    fit.place

pub put_before-requires-clause-item : goal.put_before-requires-clause-item
put_before-requires-clause-item g c =
    let inside = c.self.inside in
    let unit = c.args.unit in
    let a = g.B.Blocks.seen c.args.blocks.now in
    let v : StoreNow = record {
      log = inside.log;
      undo = inside.undo;
      parts = map (part_now g.P.Part.shape g.P.Part.known) inside.parts.items;
      changed = map changed_by inside.changed.items;
      space = inside.space;
    } in
    let before = c.in-Some.before in
    let set = subst (λ (s : StoreNow). IsSet s a) (sym c.self.view_is) c.requires.set in
    let last = last-out unit (befores_of inside.undo) c.take_one.result before c.in-Some.is
    c.take_one.ensures.value in
    let fit = last-has (IsFitImage v.parts) unit (befores_of inside.undo) (image_of unit before)
    set.kept last in
    fit.old

pub put_before-requires-clause-can : goal.put_before-requires-clause-can
put_before-requires-clause-can g c told =
    let inside = c.self.inside in
    let unit = c.args.unit in
    let a = g.B.Blocks.seen c.args.blocks.now in
    let v : StoreNow = record {
      log = inside.log;
      undo = inside.undo;
      parts = map (part_now g.P.Part.shape g.P.Part.known) inside.parts.items;
      changed = map changed_by inside.changed.items;
      space = inside.space;
    } in
    let before = c.in-Some.before in
    let last = last-out unit (befores_of inside.undo) c.take_one.result before c.in-Some.is
    c.take_one.ensures.value in
    let stands = subst (λ (s : StoreNow). Stands s a) (sym c.self.view_is) (c.requires.stands told) in
    let none = subst (λ (s : StoreNow). OnLast s unit (λ one. HasNoStage s a.cur one.part one.place))
    (sym c.self.view_is) (c.requires.no_stage told) in
    subst (λ (images : List BeforeImage). IfSome (part_among v.parts before.part.0)
    (λ (part : PartNow). CanSet part.shape part.known a.cur (lengths_kept images before.part.0)
    before.place before.old)) (sym c.take_one.ensures.images)
    (can-back v a stands.number stands.state stands.stored unit (image_of unit before) last before.old
    refl
    (on-last (λ (one : BeforeImage). HasNoStage v a.cur one.part one.place) (last_of_unit v unit)
    (image_of unit before) last none))

pub returns-in_err-put_before-in-Some-clause-moments : goal.returns-in_err-put_before-in-Some-clause-moments
returns-in_err-put_before-in-Some-clause-moments g c told volume old stored current =
    let inside = c.self.inside in
    let unit = c.args.unit in
    let a = g.B.Blocks.seen c.args.blocks.now in
    let v : StoreNow = record {
      log = inside.log;
      undo = inside.undo;
      parts = map (part_now g.P.Part.shape g.P.Part.known) inside.parts.items;
      changed = map changed_by inside.changed.items;
      space = inside.space;
    } in
    let before = c.in-Some.before in
    let last = last-out unit (befores_of inside.undo) c.take_one.result before c.in-Some.is
    c.take_one.ensures.value in
    subst (λ (s : StoreNow). Guards a (g.B.Blocks.seen c.put_before.new.blocks)
    (IsSafeImage s.log.geometry volume (owners_of s) s.log (committed_by old))) c.self.view_is
    (let was = subst (λ (s : StoreNow). IsStored volume s old a) (sym c.self.view_is) stored in
    c.put_before.ensures.moments told volume None old (back-state v a volume old was unit before last)
    (taken-from v a volume old was unit before last c.take_one.new.self c.take_one.ensures.images
    c.take_one.ensures.befores)
    (back-of v a volume old was unit before last current)
    (back-in v a volume old was unit before last (back-state v a volume old was unit before last)
    (back-made v a volume old was unit before last)))

pub returns-in_err-put_before-in-Some-clause-shapes : goal.returns-in_err-put_before-in-Some-clause-shapes
returns-in_err-put_before-in-Some-clause-shapes g c number =
    let inside = c.self.inside in
    let unit = c.args.unit in
    let a = g.B.Blocks.seen c.args.blocks.now in
    let v : StoreNow = record {
      log = inside.log;
      undo = inside.undo;
      parts = map (part_now g.P.Part.shape g.P.Part.known) inside.parts.items;
      changed = map changed_by inside.changed.items;
      space = inside.space;
    } in
    let before = c.in-Some.before in
    shapes-same c.put_before.new.self.parts v.parts
    (split-met c.put_before.new.self.parts v.parts c.put_before.ensures.parts.parts) number
    ∙ ap (λ (s : StoreNow). shape_among s.parts number) c.self.view_is

pub returns-clause-back : goal.returns-clause-back
returns-clause-back g c told volume old new stored current back =
    let inside = c.self.inside in
    let unit = c.args.unit in
    let a = g.B.Blocks.seen c.args.blocks.now in
    let v : StoreNow = record {
      log = inside.log;
      undo = inside.undo;
      parts = map (part_now g.P.Part.shape g.P.Part.known) inside.parts.items;
      changed = map changed_by inside.changed.items;
      space = inside.space;
    } in
    let before = c.in-Some.before in
    let last = last-out unit (befores_of inside.undo) c.take_one.result before c.in-Some.is
    c.take_one.ensures.value in
    let was = subst (λ (s : StoreNow). IsStored volume s old a) (sym c.self.view_is) stored in
    c.in_ok-put_before-in-Some.ensures.back told volume None old new
    (taken-from v a volume old was unit before last c.take_one.new.self c.take_one.ensures.images
    c.take_one.ensures.befores)
    (back-of v a volume old was unit before last current)
    (back-in v a volume old was unit before last new
    (subst (λ (s : StoreNow). IsBackIn s.log.geometry unit old new) (sym c.self.view_is) back))

pub returns-clause-moments : goal.returns-clause-moments
returns-clause-moments g c told volume old stored current =
    let inside = c.self.inside in
    let unit = c.args.unit in
    let a = g.B.Blocks.seen c.args.blocks.now in
    let v : StoreNow = record {
      log = inside.log;
      undo = inside.undo;
      parts = map (part_now g.P.Part.shape g.P.Part.known) inside.parts.items;
      changed = map changed_by inside.changed.items;
      space = inside.space;
    } in
    let before = c.in-Some.before in
    let last = last-out unit (befores_of inside.undo) c.take_one.result before c.in-Some.is
    c.take_one.ensures.value in
    subst (λ (s : StoreNow). Guards a (g.B.Blocks.seen c.put_before.new.blocks)
    (IsSafeImage s.log.geometry volume (owners_of s) s.log (committed_by old))) c.self.view_is
    (let was = subst (λ (s : StoreNow). IsStored volume s old a) (sym c.self.view_is) stored in
    c.put_before.ensures.moments told volume None old (back-state v a volume old was unit before last)
    (taken-from v a volume old was unit before last c.take_one.new.self c.take_one.ensures.images
    c.take_one.ensures.befores)
    (back-of v a volume old was unit before last current)
    (back-in v a volume old was unit before last (back-state v a volume old was unit before last)
    (back-made v a volume old was unit before last)))

pub returns-clause-shapes : goal.returns-clause-shapes
returns-clause-shapes g c number =
    let inside = c.self.inside in
    let unit = c.args.unit in
    let a = g.B.Blocks.seen c.args.blocks.now in
    let v : StoreNow = record {
      log = inside.log;
      undo = inside.undo;
      parts = map (part_now g.P.Part.shape g.P.Part.known) inside.parts.items;
      changed = map changed_by inside.changed.items;
      space = inside.space;
    } in
    let before = c.in-Some.before in
    shapes-same c.put_before.new.self.parts v.parts
    (split-met c.put_before.new.self.parts v.parts c.put_before.ensures.parts.parts) number
    ∙ ap (λ (s : StoreNow). shape_among s.parts number) c.self.view_is

pub returns-in_err-put_before-in-Some-clause-parts : goal.returns-in_err-put_before-in-Some-clause-parts
returns-in_err-put_before-in-Some-clause-parts g c =
    let inside = c.self.inside in
    let unit = c.args.unit in
    let v : StoreNow = store_of g.P.Part.shape g.P.Part.known inside.log inside.undo
    inside.parts.items inside.changed.items inside.space in
    let before = c.in-Some.before in
    let new = c.put_before.new.self.parts in
    subst (λ (s : StoreNow). OnLast s unit (λ (last : BeforeImage).
    OnlyMet last.part s.parts new)) c.self.view_is
    (last-on (λ (last : BeforeImage). OnlyMet last.part v.parts new) (last_of_unit v unit)
    (image_of unit before)
    (last-out unit (befores_of inside.undo) c.take_one.result before c.in-Some.is
    c.take_one.ensures.value) c.put_before.ensures.parts)

pub returns-in_err-put_before-in-Some-clause-nearer : goal.returns-in_err-put_before-in-Some-clause-nearer
returns-in_err-put_before-in-Some-clause-nearer g c =
    let inside = c.self.inside in
    let unit = c.args.unit in
    let v : StoreNow = store_of g.P.Part.shape g.P.Part.known inside.log inside.undo
    inside.parts.items inside.changed.items inside.space in
    let before = c.in-Some.before in
    let new = c.put_before.new.self in
    subst (λ (s : StoreNow). left_for unit new < left_for unit s) c.self.view_is
    (subst (λ (s : StoreNow). left_for unit s < left_for unit v) (sym c.put_before.ensures.rest)
    (subst (λ (undo : List KeptRecord). left_for unit (record v {
      undo = undo;
      parts = new.parts;
      changed = new.changed;
    }) < left_for unit v) (sym c.take_one.ensures.out)
    (waits-back unit v (image_of unit before)
    (last-out unit (befores_of inside.undo) c.take_one.result before c.in-Some.is
    c.take_one.ensures.value) before.part.0 new.parts new.changed c.put_before.ensures.parts)))

pub returns-clause-parts : goal.returns-clause-parts
returns-clause-parts g c =
    let inside = c.self.inside in
    let unit = c.args.unit in
    let v : StoreNow = store_of g.P.Part.shape g.P.Part.known inside.log inside.undo
    inside.parts.items inside.changed.items inside.space in
    let before = c.in-Some.before in
    let new = c.put_before.new.self.parts in
    subst (λ (s : StoreNow). OnLast s unit (λ (last : BeforeImage).
    OnlyMet last.part s.parts new)) c.self.view_is
    (last-on (λ (last : BeforeImage). OnlyMet last.part v.parts new) (last_of_unit v unit)
    (image_of unit before)
    (last-out unit (befores_of inside.undo) c.take_one.result before c.in-Some.is
    c.take_one.ensures.value) c.put_before.ensures.parts)

pub returns-clause-nearer : goal.returns-clause-nearer
returns-clause-nearer g c =
    let inside = c.self.inside in
    let unit = c.args.unit in
    let v : StoreNow = store_of g.P.Part.shape g.P.Part.known inside.log inside.undo
    inside.parts.items inside.changed.items inside.space in
    let before = c.in-Some.before in
    let new = c.put_before.new.self in
    subst (λ (s : StoreNow). left_for unit new < left_for unit s) c.self.view_is
    (subst (λ (s : StoreNow). left_for unit s < left_for unit v) (sym c.put_before.ensures.rest)
    (subst (λ (undo : List KeptRecord). left_for unit (record v {
      undo = undo;
      parts = new.parts;
      changed = new.changed;
    }) < left_for unit v) (sym c.take_one.ensures.out)
    (waits-back unit v (image_of unit before)
    (last-out unit (befores_of inside.undo) c.take_one.result before c.in-Some.is
    c.take_one.ensures.value) before.part.0 new.parts new.changed c.put_before.ensures.parts)))
