use Rattle.std.proofs.Common.{◌≡◌, ◌<◌, ◌+◌, ◌∙◌, [], ap, filter, map, refl, sym, subst}
use Rattle.std.specs.Prelude.{All}
use Rattle.std.proofs.lemmas.List.Elements.{All-filter}
use Rattle.vr_types.specs.Moments.{Guards}
use Rattle.vr_log.specs.LogNow.{HasLog, with_record}
use Rattle.vr_log.specs.declared.record.LogRecord.TheVariants.{End}
use Rattle.vr_history.specs.Effects.{is_other}
use Rattle.vr_history.specs.State.{BeforeImage, Logged}
use Rattle.vr_undo.specs.Records.{befores_of, images_in, logged_of}
use Rattle.vr_volume.specs.Committed.{committed_by}
use Rattle.vr_volume.specs.Safe.{IsSafeImage}
use Rattle.vr_store.specs.Store.{IsFitImage, IsSet, IsStored, StoreNow, blocks_of, changed_by}
use Rattle.vr_store.specs.Store.{owners_of, part_now}
use Rattle.vr_store.proofs.Ends.{firm, idle-ended, set-ended, stored-ended}
use Rattle.vr_store.proofs.store.Store.end.Goals as goal

pub returns-in_err-end_unit-clause-moments : goal.returns-in_err-end_unit-clause-moments
returns-in_err-end_unit-clause-moments g c told volume state stored keeps =
    let inside = c.self.inside in
    let a = g.B.Blocks.seen c.args.blocks.now in
    let b = g.B.Blocks.seen c.end_unit.new.blocks in
    let unit = c.args.unit in
    let kind = c.args.kind in
    let store : StoreNow = record {
      log = inside.log;
      undo = inside.undo;
      parts = map (part_now g.P.Part.shape g.P.Part.known) inside.parts.items;
      changed = map changed_by inside.changed.items;
      space = inside.space;
    } in
    subst (λ (s : StoreNow). IsSet s a → blocks_of unit s.changed ≡ [] → IsStored volume s state a
    → Guards a b (IsSafeImage s.log.geometry volume (owners_of s)
    (with_record s.log (End unit kind)) (committed_by state))) c.self.view_is
    (λ set none stored. c.end_unit.ensures.any_moment told store.log.geometry volume
    (owners_of store) state stored.volume (firm store a set volume state stored unit none) keeps)
    c.requires.set c.requires.none_left stored

pub returns-clause-moments : goal.returns-clause-moments
returns-clause-moments g c told volume state stored keeps =
    let inside = c.self.inside in
    let a = g.B.Blocks.seen c.args.blocks.now in
    let b = g.B.Blocks.seen c.end_unit.new.blocks in
    let unit = c.args.unit in
    let kind = c.args.kind in
    let store : StoreNow = record {
      log = inside.log;
      undo = inside.undo;
      parts = map (part_now g.P.Part.shape g.P.Part.known) inside.parts.items;
      changed = map changed_by inside.changed.items;
      space = inside.space;
    } in
    subst (λ (s : StoreNow). IsSet s a → blocks_of unit s.changed ≡ [] → IsStored volume s state a
    → Guards a b (IsSafeImage s.log.geometry volume (owners_of s)
    (with_record s.log (End unit kind)) (committed_by state))) c.self.view_is
    (λ set none stored. c.end_unit.ensures.any_moment told store.log.geometry volume
    (owners_of store) state stored.volume (firm store a set volume state stored unit none) keeps)
    c.requires.set c.requires.none_left stored

pub returns-clause-ended : goal.returns-clause-ended
returns-clause-ended g c told volume old new stored current keeps made below =
    let inside = c.self.inside in
    let a = g.B.Blocks.seen c.args.blocks.now in
    let b = g.B.Blocks.seen c.end_unit.new.blocks in
    let unit = c.args.unit in
    let kind = c.args.kind in
    let done = c.in_ok-end_unit.ensures in
    let store : StoreNow = record {
      log = inside.log;
      undo = inside.undo;
      parts = map (part_now g.P.Part.shape g.P.Part.known) inside.parts.items;
      changed = map changed_by inside.changed.items;
      space = inside.space;
    } in
    let log = c.end_unit.new.log in
    let undo = c.end_unit.new.undo in
    let changed = map changed_by c.forget.new.changed.items in
    let after : StoreNow = record store { log = log; undo = undo; changed = changed } in
    subst (λ (s : StoreNow). IsSet s a → blocks_of unit s.changed ≡ []
    → s.log.generation + 1 < 9223372036854775808 → IsStored volume s old a
    → IsStored volume after new b) c.self.view_is
    (λ set none generation stored.
    stored-ended store a set volume old stored unit log undo changed kind new b
    (HasLog (with_record store.log (End unit kind)))
    (g.met.B.Blocks.cur_may c.args.blocks.now told) (c.end_unit.ensures.touches told) done.log
    done.images done.befores done.logged c.forget.ensures.others made
    (done.rests told store.log.geometry volume (owners_of store) old new stored.volume current
    (firm store a set volume old stored unit none) keeps made generation)
    (λ shape known rested. done.others told store.log.geometry volume (owners_of store) old new
    shape known refl stored.volume (firm store a set volume old stored unit none) made rested))
    c.requires.set c.requires.none_left below stored

pub returns-clause-set : goal.returns-clause-set
returns-clause-set g c =
    let inside = c.self.inside in
    let a = g.B.Blocks.seen c.args.blocks.now in
    let b = g.B.Blocks.seen c.end_unit.new.blocks in
    let done = c.in_ok-end_unit.ensures in
    let store : StoreNow = record {
      log = inside.log;
      undo = inside.undo;
      parts = map (part_now g.P.Part.shape g.P.Part.known) inside.parts.items;
      changed = map changed_by inside.changed.items;
      space = inside.space;
    } in
    let is-set = subst (λ (s : StoreNow). IsSet s a) (sym c.self.view_is) c.requires.set in
    set-ended store a b c.end_unit.new.log c.end_unit.new.undo
    (map changed_by c.forget.new.changed.items) is-set
    (idle-ended store.log c.end_unit.new.log c.args.unit c.args.kind done.log)
    (subst (All (IsFitImage store.parts)) (sym done.befores)
    (All-filter (λ (kept : BeforeImage). is_other c.args.unit kept.unit)
    (IsFitImage store.parts) (befores_of store.undo) is-set.kept))
    done.log.geometry done.log.sound done.shape c.forget.ensures.each

pub returns-clause-images : goal.returns-clause-images
returns-clause-images g c = c.in_ok-end_unit.ensures.images
    ∙ ap (λ (s : StoreNow). filter (λ (image : BeforeImage). is_other c.args.unit image.unit)
    (images_in s.undo)) c.self.view_is

pub returns-clause-befores : goal.returns-clause-befores
returns-clause-befores g c = c.in_ok-end_unit.ensures.befores
    ∙ ap (λ (s : StoreNow). filter (λ (kept : BeforeImage). is_other c.args.unit kept.unit)
    (befores_of s.undo)) c.self.view_is

pub returns-clause-logged : goal.returns-clause-logged
returns-clause-logged g c = c.in_ok-end_unit.ensures.logged
    ∙ ap (λ (s : StoreNow). filter (λ (logged : Logged). is_other c.args.unit logged.unit)
    (logged_of s.undo)) c.self.view_is
