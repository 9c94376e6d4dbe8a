use Rattle.std.proofs.Common.{◌<◌, refl, sym, ap, subst, map}
use Rattle.std.proofs.Common.{set, List, Option, None, rules, IsTrue}
use Rattle.vr_types.specs.declared.unit.PartNo.{PartNo}
use Rattle.vr_types.specs.Space.{free_count}
use Rattle.std.specs.Prelude.{IfOk, IfSome}
use Rattle.vr_types.specs.Moments.{Guards}
use Rattle.vr_volume.specs.Safe.{IsSafeImage}
use Rattle.vr_space.specs.Part.{HasMore, IsLengthOf, IsPlaceOf, IsStageOf, OwnersAfter, Shape}
use Rattle.vr_space.specs.Part.{left_of, part_no}
use Rattle.vr_space.proofs.CallerLemmas.{room-stage}
use Rattle.vr_attach.specs.Owning.{claimed_by, owner_of}
use Rattle.vr_undo.specs.Records.{images_in}
use Rattle.vr_volume.specs.Committed.{committed_by}
use Rattle.vr_volume.specs.PutBack.{lengths_kept}
use Rattle.vr_volume.specs.Rests.{IsPartAtRest}
use Rattle.vr_volume.proofs.Rested.{laid-rest}
use Rattle.vr_store.specs.Left.{parts_left}
use Rattle.vr_store.specs.Parts.{but_split}
use Rattle.vr_store.specs.Store.{IsStored, PartNow, StoreNow, owners_of, part_among, part_now}
use Rattle.vr_store.specs.Store.{store_of}
use Rattle.vr_store.proofs.Kept.{err-as}
use Rattle.vr_store.proofs.PartsAt.{found-new, laid-at, laid-found, none-laid, only-split, part-split}
use Rattle.vr_store.proofs.Recorded.{at-part, at-shape, number-at, part-number-at, rested-at, set-at}
use Rattle.vr_store.proofs.Recorded.{shape-at}
use Rattle.vr_store.proofs.Rooms.{due-at, room-at}
use Rattle.vr_store.proofs.StagesLeft.{free-after, left-with}
use Rattle.vr_store.proofs.Worked.{set-unclaimed, set-worked, stored-met, stored-worked}
use Rattle.vr_store.proofs.stage.advance_at.Goals as goal

pub do_stage-requires : goal.do_stage-requires
do_stage-requires g c =
    let shape = g.P.Part.shape in
    let known = g.P.Part.known in
    let store : StoreNow = store_of shape known c.args.log.now c.args.undo.now
    c.args.parts.now.items c.args.changed.now.items c.args.space.now in
    let a = g.B.Blocks.seen c.args.blocks.now in
    let laid = c.index_mut.result.now in
    let number = c.args.number.0 in
    let part = part_now shape known laid in
    let found = laid-found shape known c.args.parts.now.items number c.deref.result.now
    c.index_of.result store.parts c.deref.ensures.value
    refl c.index_of.ensures c.in-Some.at c.in-Some.is
    laid c.index_mut.ensures.value in
    let rested = λ (told : IsTrue g.B.Blocks.tells).
    let stands = c.requires.stands told in
    rested-at store a c.requires.set stands.number stands.state number part found stands.stored in
    record {
      on = (set-at store a c.requires.set number part found).on;
      place = at-shape (λ (s : Shape). IsPlaceOf s c.args.place.now) store.parts number part found
          c.requires.place;
      length = at-shape (λ (s : Shape). IsLengthOf s c.args.length) store.parts number part found
          c.requires.length;
      rests = λ told. (owners_of store, (rested told).rests);
      room = λ told. (rested told).room;
      knows = λ told. (rested told).knows;
      due = λ told. due-at store c.args.space.now c.args.undo.now refl refl number part
          found
          (number-at store a c.requires.set number part found) a.cur c.args.place.now c.args.length
          (c.requires.due told);
    }

pub unreachable-requires : goal.unreachable-requires
unreachable-requires g c = c.requires.part
    (none-laid g.P.Part.shape g.P.Part.known c.args.parts.now.items c.args.number.0
    c.deref.result.now c.index_of.result (map (part_now g.P.Part.shape g.P.Part.known)
    c.args.parts.now.items) c.deref.ensures.value
    refl c.index_of.ensures c.in-None.is)

pub returns-in_err-kind-in-Some : goal.returns-in_err-kind-in-Some
returns-in_err-kind-in-Some g c =
    let shape = g.P.Part.shape in
    let known = g.P.Part.known in
    let store : StoreNow = store_of shape known c.args.log.now c.args.undo.now
    c.args.parts.now.items c.args.changed.now.items c.args.space.now in
    let a = g.B.Blocks.seen c.args.blocks.now in
    let b = g.B.Blocks.seen c.do_stage.new.blocks in
    let laid = c.index_mut.result.now in
    let number = c.args.number.0 in
    let space = c.do_stage.new.space in
    let before = part_now shape known laid in
    let after = part_now shape known
    (record { number = laid.number; part = c.do_stage.new.part }) in
    let at = laid-at shape known c.args.parts.now.items number c.deref.result.now c.index_of.result
    store.parts c.deref.ensures.value refl
    c.index_of.ensures c.in-Some.at c.in-Some.is laid
    (record { number = laid.number; part = c.do_stage.new.part }) c.index_mut.ensures.value in
    let parts = map (part_now shape known) (set c.args.parts.now.items c.in-Some.at
    (record { number = laid.number; part = c.do_stage.new.part })) in
    let same = ap (λ (s : Shape). but_split (part-split laid.number s None))
    c.do_stage.ensures.shape in
    record {
      stage = search rules;
      owners = search rules;
      owners_stay = search rules;
      kind = λ told. shape-at (λ (s : Shape). IfOk c.from_residual.result (IsStageOf s)) store.parts
          number before at.found (search rules);
      set = set-unclaimed store number before after parts space at same a b
          c.do_stage.ensures.count c.do_stage.ensures.size
          c.in_err-kind-in-Some.ensures.chain_stays c.in_err-kind-in-Some.ensures.owners_stay c.requires.set;
      stored = search rules;
      moments = λ told volume state stored.
          subst (λ (owner : PartNo). Guards a b (IsSafeImage store.log.geometry volume
          (owner_of store.log.geometry (claimed_by owner store.space)) store.log
          (committed_by state)))
          (part-number-at store a c.requires.set c.args.number before at.found)
          (c.do_stage.ensures.safe told store.log.geometry volume store.log (committed_by state)
          stored.volume.safe
          (laid-rest store.log.geometry volume (owners_of store) store.log (images_in store.undo)
          state a stored.volume before.shape before.known
          (rested-at store a c.requires.set volume state number before at.found stored) _ refl)
          (rested-at store a c.requires.set volume state number before at.found stored).claimed).0;
      unread = err-as c.from_residual.result c.in_err-kind-in-Some.field-0.0 _
          c.from_residual.ensures.1
          (λ read.
          let kept = c.in_err-kind-in-Some.ensures.unread read in (
            kept.0,
            λ told volume state stored. subst (λ (areas : List (Option PartNo)).
                IsStored volume (record store { parts = parts; space = areas }) state b)
                (sym c.in_err-kind-in-Some.ensures.owners_stay)
                (stored-met g.B.Blocks.tells told a b kept.0
                (g.met.B.Blocks.cur_may c.args.blocks.now told) store number before after parts
                at same c.in_err-kind-in-Some.ensures.moves volume state c.requires.set stored
                (kept.1 told)),
          ));
      more = search rules;
      fewer = search rules;
      parts = only-split number before after store.parts parts at refl same;
      cause = search rules;
    }

pub returns : goal.returns
returns g c =
    let shape = g.P.Part.shape in
    let known = g.P.Part.known in
    let store : StoreNow = store_of shape known c.args.log.now c.args.undo.now
    c.args.parts.now.items c.args.changed.now.items c.args.space.now in
    let a = g.B.Blocks.seen c.args.blocks.now in
    let b = g.B.Blocks.seen c.do_stage.new.blocks in
    let laid = c.index_mut.result.now in
    let number = c.args.number.0 in
    let space = c.do_stage.new.space in
    let done = c.in_ok-kind-in-Some in
    let images = images_in store.undo in
    let before = part_now shape known laid in
    let after = part_now shape known
    (record { number = laid.number; part = c.do_stage.new.part }) in
    let at = laid-at shape known c.args.parts.now.items number c.deref.result.now c.index_of.result
    store.parts c.deref.ensures.value refl
    c.index_of.ensures c.in-Some.at c.in-Some.is laid
    (record { number = laid.number; part = c.do_stage.new.part }) c.index_mut.ensures.value in
    let parts = map (part_now shape known) (set c.args.parts.now.items c.in-Some.at
    (record { number = laid.number; part = c.do_stage.new.part })) in
    let same = ap (λ (s : Shape). but_split (part-split laid.number s None))
    c.do_stage.ensures.shape in
    let owners = subst (λ (owner : PartNo). OwnersAfter owner done.kind c.args.space.now space)
    (part-number-at store a c.requires.set c.args.number before at.found)
    done.ensures.owners in
    let kind = λ (told : IsTrue g.B.Blocks.tells).
    let stands = c.requires.stands told in
    room-stage before.shape before.known a a.cur (free_count c.args.space.now)
    (lengths_kept (images_in c.args.undo.now) (part_no before.shape).0) c.args.place.now
    c.args.length done.kind
    (rested-at store a c.requires.set stands.number stands.state number before at.found
    stands.stored).knows.way (sym (done.ensures.stage told)) in
    let free = free_count c.args.space.now in
    let left = free_count space in
    let more = λ (told : IsTrue g.B.Blocks.tells).
    let stands = c.requires.stands told in
    done.ensures.more told stands.number store.log images stands.state stands.stored.volume
    (rested-at store a c.requires.set stands.number stands.state number before at.found
    stands.stored) c.requires.set.areas in
    record {
      stage = λ told. room-at store c.args.space.now c.args.undo.now refl refl number before
          at.found
          (number-at store a c.requires.set number before at.found) a.cur c.args.place.now
          c.args.length _ (done.ensures.stage told);
      owners = owners;
      kind = λ told. shape-at (λ (s : Shape). IsStageOf s done.kind) store.parts number before
          at.found (kind told);
      owners_stay = search rules;
      set = set-worked store number before after parts space at same a b
          c.do_stage.ensures.count c.do_stage.ensures.size done.ensures.chain c.requires.set;
      stored = λ told volume state stored.
          let mine = rested-at store a c.requires.set volume state number before at.found stored in
          let rest = done.ensures.at_rest told volume store.log images state stored.volume mine
          refl in
          stored-worked store number before after parts space at same volume state a b
          c.requires.set stored rest.0
          (subst (λ (s : Shape). IsPartAtRest store.log.geometry
          (owner_of store.log.geometry space) images state s after.known b)
          (sym c.do_stage.ensures.shape) rest.1)
          (λ other apart rested. done.ensures.others told volume store.log images state
          other.shape other.known stored.volume mine apart rested)
          (done.ensures.due told)
          (λ other apart rested. done.ensures.others_due told volume store.log images state
          other.shape other.known stored.volume mine apart rested);
      moments = λ told volume state stored.
          subst (λ (owner : PartNo). Guards a b (IsSafeImage store.log.geometry volume
          (owner_of store.log.geometry (claimed_by owner store.space)) store.log
          (committed_by state)))
          (part-number-at store a c.requires.set c.args.number before at.found)
          (c.do_stage.ensures.safe told store.log.geometry volume store.log (committed_by state)
          stored.volume.safe
          (laid-rest store.log.geometry volume (owners_of store) store.log images state a
          stored.volume before.shape before.known
          (rested-at store a c.requires.set volume state number before at.found stored) _ refl)
          (rested-at store a c.requires.set volume state number before at.found stored).claimed).0;
      unread = search rules;
      more = λ told. at-part (λ (one : PartNow). IfSome (part_among parts number)
          (λ (later : PartNow). HasMore one.shape done.kind one.known later.known free left))
          store.parts number before at.found
          (at-part (λ (later : PartNow).
          HasMore before.shape done.kind before.known later.known free left) parts number after
          (found-new number before after store.parts parts at refl) (more told));
      fewer = λ told. subst (λ (list : List PartNow).
          parts_left left list < parts_left free store.parts) (sym at.is)
          (left-with number before after free left
          (free-after c.args.number done.kind c.args.space.now space owners)
          (subst (λ (s : Shape). left_of s after.known left < left_of before.shape before.known free)
          (sym c.do_stage.ensures.shape) (more told).fewer) store.parts at.found);
      parts = only-split number before after store.parts parts at refl same;
      cause = search rules;
    }
