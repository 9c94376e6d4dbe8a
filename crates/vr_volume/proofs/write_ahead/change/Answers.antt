use Rattle.std.proofs.Common.{◌≢◌, ◌∷◌, ◌++◌, [], None, subst, sym}
use Rattle.vr_types.proofs.CallerLemmas.{guards-then, guards-weaken}
use Rattle.vr_space.specs.Part.{given, part_no}
use Rattle.vr_space.proofs.CallerLemmas.{can-stays, knows-stays, rest-sound, rest-stays, room-stays}
use Rattle.vr_space.proofs.CallerLemmas.{same-stays, sets-after}
use Rattle.vr_log.specs.LogNow.{HasLog, with_record}
use Rattle.vr_log.specs.declared.record.LogRecord.{LogRecord}
use Rattle.vr_volume.specs.PutBack.{images_of, oldest}
use Rattle.vr_volume.specs.Safe.{IsSafe, IsSafeImage}
use Rattle.vr_volume.proofs.Befores.{safe-more}
use Rattle.vr_volume.proofs.Calls.{stays-part}
use Rattle.vr_volume.proofs.LogCalls.{change-then, first-there, image-less, log-guards}
use Rattle.std.proofs.Common.{◌∙◌}
use Rattle.vr_types.specs.declared.geometry.Geometry.{Geometry}
use Rattle.std.proofs.Common.{ℕ, List}
use Rattle.vr_space.specs.Part.{HasKeptRoom, HasRoom, SetsOne}
use Rattle.vr_space.specs.Room.{Lengths}
use Rattle.vr_volume.specs.Committed.{committed_by}
use Rattle.vr_volume.specs.Laying.{IsLaidBy, IsLogged}
use Rattle.vr_volume.proofs.Rested.{first-of, given-item, laid-by-more, part-first-change}
use Rattle.vr_volume.proofs.Rested.{rec-is, stands-part}
use Rattle.vr_space.proofs.CallerLemmas.{due-at-then, due-stays}
use Rattle.std.proofs.Common.{◌≡◌, ap}
use Rattle.vr_types.specs.declared.unit.PartNo.{PartNo}
use Rattle.vr_attach.specs.Owning.{IsPastLog}
use Rattle.vr_volume.specs.Rests.{HoldsNoMore}
use Rattle.vr_volume.proofs.Rested.{other-first-change, stays-apart, stays-holds, stays-then}
use Rattle.vr_volume.proofs.Rested.{volume-first-change}
use Rattle.vr_volume.specs.Laying.{InLogOr}
use Rattle.vr_volume.proofs.Calls.{log-or-part, touches-wider}
use Rattle.std.proofs.Common.{inl}
use Rattle.vr_log.specs.Standing.{InLog}
use Rattle.vr_volume.proofs.write_ahead.change.Goals as goal

-- nothing is touched but the log and the part
pub returns-in_err-log_forced-clause-touches : goal.returns-in_err-log_forced-clause-touches
returns-in_err-log_forced-clause-touches g c told owners past rests =
    let B = g.B.Blocks in
    let log = c.args.log.now in
    let shape = g.P.Part.shape c.args.part.now in
    touches-wider (InLog log.geometry) (InLogOr log.geometry shape owners)
    (HasLog (with_record log c.args.rec.now)) (B.seen c.args.blocks.now)
    (B.seen c.log_forced.new.blocks) (λ n inside. inl inside) (c.log_forced.ensures.touches told)

pub returns-in_err-set_free-clause-touches : goal.returns-in_err-set_free-clause-touches
returns-in_err-set_free-clause-touches g c told owners past rests =
    let B = g.B.Blocks in
    let log = c.args.log.now in
    let shape = g.P.Part.shape c.args.part.now in
    log-or-part log.geometry shape owners (HasLog (with_record log c.args.rec.now))
    (HasRoom shape (g.K.Kept.kept c.args.kept.now (part_no shape))) (B.seen c.args.blocks.now)
    (B.seen c.log_forced.new.blocks) (B.seen c.set_free.new.blocks) past rests
    (c.log_forced.ensures.touches told) (c.set_free.ensures.touches told owners)

pub returns-clause-touches : goal.returns-clause-touches
returns-clause-touches g c told owners past rests =
    let B = g.B.Blocks in
    let log = c.args.log.now in
    let shape = g.P.Part.shape c.args.part.now in
    log-or-part log.geometry shape owners (HasLog (with_record log c.args.rec.now))
    (HasRoom shape (g.K.Kept.kept c.args.kept.now (part_no shape))) (B.seen c.args.blocks.now)
    (B.seen c.log_forced.new.blocks) (B.seen c.set_free.new.blocks) past rests
    (c.log_forced.ensures.touches told) (c.set_free.ensures.touches told owners)

pub set_free-requires-clause-rests : goal.set_free-requires-clause-rests
set_free-requires-clause-rests g c told =
    let B = g.B.Blocks in
    let own = c.requires.rests told in
    let owners = own.0 in
    let log = c.args.log.now in
    let shape = g.P.Part.shape c.args.part.now in
    let a = B.seen c.args.blocks.now in
    let b = B.seen c.log_forced.new.blocks in (
      owners,
      rest-stays a b shape owners
          (stays-part log.geometry shape owners (HasLog (with_record log c.args.rec.now)) a b own.1
          (c.log_forced.ensures.touches told)) own.2,
    )

pub set_free-requires-clause-room : goal.set_free-requires-clause-room
set_free-requires-clause-room g c told =
    let B = g.B.Blocks in
    let own = c.requires.rests told in
    let owners = own.0 in
    let log = c.args.log.now in
    let shape = g.P.Part.shape c.args.part.now in
    let a = B.seen c.args.blocks.now in
    let b = B.seen c.log_forced.new.blocks in
    room-stays a b shape owners (g.K.Kept.kept c.args.kept.now (part_no shape))
    (stays-part log.geometry shape owners (HasLog (with_record log c.args.rec.now)) a b own.1
    (c.log_forced.ensures.touches told))
    (rest-sound shape owners a own.2) (c.requires.room told)

pub set_free-requires-clause-knows : goal.set_free-requires-clause-knows
set_free-requires-clause-knows g c told =
    let B = g.B.Blocks in
    let own = c.requires.rests told in
    let owners = own.0 in
    let log = c.args.log.now in
    let part = c.args.part.now in
    let shape = g.P.Part.shape part in
    let a = B.seen c.args.blocks.now in
    let b = B.seen c.log_forced.new.blocks in
    knows-stays a b shape owners (g.P.Part.known part)
    (stays-part log.geometry shape owners (HasLog (with_record log c.args.rec.now)) a b own.1
    (c.log_forced.ensures.touches told))
    (rest-sound shape owners a own.2) (g.met.B.Blocks.cur_may c.args.blocks.now told) own.3
    (c.requires.knows told)

pub set_free-requires-clause-can : goal.set_free-requires-clause-can
set_free-requires-clause-can g c told =
    let B = g.B.Blocks in
    let own = c.requires.rests told in
    let owners = own.0 in
    let log = c.args.log.now in
    let part = c.args.part.now in
    let shape = g.P.Part.shape part in
    let a = B.seen c.args.blocks.now in
    let b = B.seen c.log_forced.new.blocks in
    can-stays a b shape owners (g.P.Part.known part) (g.K.Kept.kept c.args.kept.now (part_no shape))
    c.args.place.now (given c.args.bytes)
    (stays-part log.geometry shape owners (HasLog (with_record log c.args.rec.now)) a b own.1
    (c.log_forced.ensures.touches told))
    (rest-sound shape owners a own.2) (g.met.B.Blocks.cur_may c.args.blocks.now told)
    (c.requires.can told)

pub returns-in_err-log_forced-clause-any_moment : goal.returns-in_err-log_forced-clause-any_moment
returns-in_err-log_forced-clause-any_moment g c told number owners committed unit old is safe next
    laid =
    let B = g.B.Blocks in
    let log = c.args.log.now in
    let a = B.seen c.args.blocks.now in
    let more = subst
    (λ (r : LogRecord). IsSafe log.geometry number owners (with_record log r) committed a) (sym is)
    (safe-more log.geometry number owners log committed a unit _ _ old safe
    (g.met.B.Blocks.cur_may c.args.blocks.now told) next) in
    log-guards log.geometry number owners committed (with_record log c.args.rec.now) a
    (B.seen c.log_forced.new.blocks) more (c.log_forced.ensures.touches told)

-- what the part is set in
pub returns-clause-set : goal.returns-clause-set
returns-clause-set g c told =
    let B = g.B.Blocks in
    let own = c.requires.rests told in
    let owners = own.0 in
    let log = c.args.log.now in
    let shape = g.P.Part.shape c.args.part.now in
    let a = B.seen c.args.blocks.now in
    let b = B.seen c.log_forced.new.blocks in
    sets-after shape c.args.place.now (given c.args.bytes) a.cur b.cur
    (B.seen c.set_free.new.blocks).cur
    (same-stays a b shape owners
    (stays-part log.geometry shape owners (HasLog (with_record log c.args.rec.now)) a b own.1
    (c.log_forced.ensures.touches told))
    (rest-sound shape owners a own.2) (g.met.B.Blocks.cur_may c.args.blocks.now told))
    (c.in_ok-set_free.ensures.set told)

pub returns-in_err-set_free-clause-any_moment : goal.returns-in_err-set_free-clause-any_moment
returns-in_err-set_free-clause-any_moment g c told number owners committed unit old is safe next
    laid =
    let B = g.B.Blocks in
    let log = c.args.log.now in
    let new = c.log_forced.new.log in
    let rec = c.args.rec.now in
    let shape = g.P.Part.shape c.args.part.now in
    let part = part_no shape in
    let a = B.seen c.args.blocks.now in
    let b = B.seen c.log_forced.new.blocks in
    let d = B.seen c.set_free.new.blocks in
    let more = subst
    (λ (r : LogRecord). IsSafe log.geometry number owners (with_record log r) committed a) (sym is)
    (safe-more log.geometry number owners log committed a unit _ _ old safe
    (g.met.B.Blocks.cur_may c.args.blocks.now told) next) in
    let touches = c.log_forced.ensures.touches told in
    let logged = c.in_ok-log_forced.ensures.logged told in
    let then = change-then log.geometry number owners log new rec committed part.0 shape
    (g.K.Kept.kept c.args.kept.now part) a b more touches logged
    (c.in_ok-log_forced.ensures.stands told) laid c.args.place.now
    (subst (λ (r : LogRecord). oldest (images_of (log.records ++ r ∷ [])) part.0 c.args.place.now
    ≢ None) (sym is)
    (first-there log.geometry log committed unit part c.args.place.now old next)) in
    guards-then a b d (IsSafeImage log.geometry number owners (with_record log rec) committed)
    (log-guards log.geometry number owners committed (with_record log rec) a b more touches)
    (guards-weaken b d (IsSafeImage log.geometry number owners new committed)
    (IsSafeImage log.geometry number owners (with_record log rec) committed)
    (c.set_free.ensures.safe told log.geometry number owners new committed then.0 then.1 then.2).0
    (image-less log.geometry number owners new (with_record log rec) committed logged.less))

pub returns-clause-any_moment : goal.returns-clause-any_moment
returns-clause-any_moment g c told number owners committed unit old is safe next laid =
    let B = g.B.Blocks in
    let log = c.args.log.now in
    let new = c.log_forced.new.log in
    let rec = c.args.rec.now in
    let shape = g.P.Part.shape c.args.part.now in
    let part = part_no shape in
    let a = B.seen c.args.blocks.now in
    let b = B.seen c.log_forced.new.blocks in
    let d = B.seen c.set_free.new.blocks in
    let more = subst
    (λ (r : LogRecord). IsSafe log.geometry number owners (with_record log r) committed a) (sym is)
    (safe-more log.geometry number owners log committed a unit _ _ old safe
    (g.met.B.Blocks.cur_may c.args.blocks.now told) next) in
    let touches = c.log_forced.ensures.touches told in
    let logged = c.in_ok-log_forced.ensures.logged told in
    let then = change-then log.geometry number owners log new rec committed part.0 shape
    (g.K.Kept.kept c.args.kept.now part) a b more touches logged
    (c.in_ok-log_forced.ensures.stands told) laid c.args.place.now
    (subst (λ (r : LogRecord). oldest (images_of (log.records ++ r ∷ [])) part.0 c.args.place.now
    ≢ None) (sym is)
    (first-there log.geometry log committed unit part c.args.place.now old next)) in
    guards-then a b d (IsSafeImage log.geometry number owners (with_record log rec) committed)
    (log-guards log.geometry number owners committed (with_record log rec) a b more touches)
    (guards-weaken b d (IsSafeImage log.geometry number owners new committed)
    (IsSafeImage log.geometry number owners (with_record log rec) committed)
    (c.set_free.ensures.safe told log.geometry number owners new committed then.0 then.1 then.2).0
    (image-less log.geometry number owners new (with_record log rec) committed logged.less))

pub returns-clause-after : goal.returns-clause-after
returns-clause-after g c told number owners committed unit old is safe next laid =
    let B = g.B.Blocks in
    let log = c.args.log.now in
    let new = c.log_forced.new.log in
    let rec = c.args.rec.now in
    let shape = g.P.Part.shape c.args.part.now in
    let part = part_no shape in
    let a = B.seen c.args.blocks.now in
    let b = B.seen c.log_forced.new.blocks in
    let more = subst
    (λ (r : LogRecord). IsSafe log.geometry number owners (with_record log r) committed a) (sym is)
    (safe-more log.geometry number owners log committed a unit _ _ old safe
    (g.met.B.Blocks.cur_may c.args.blocks.now told) next) in
    let touches = c.log_forced.ensures.touches told in
    let logged = c.in_ok-log_forced.ensures.logged told in
    let then = change-then log.geometry number owners log new rec committed part.0 shape
    (g.K.Kept.kept c.args.kept.now part) a b more touches logged
    (c.in_ok-log_forced.ensures.stands told) laid c.args.place.now
    (subst (λ (r : LogRecord). oldest (images_of (log.records ++ r ∷ [])) part.0 c.args.place.now
    ≢ None) (sym is)
    (first-there log.geometry log committed unit part c.args.place.now old next)) in
    (c.set_free.ensures.safe told log.geometry number owners new committed then.0 then.1 then.2).1

-- the part rests by whichever owners it rested by
pub returns-clause-rests : goal.returns-clause-rests
returns-clause-rests g c told owners past rests =
    let B = g.B.Blocks in
    let log = c.args.log.now in
    let shape = g.P.Part.shape c.args.part.now in
    let a = B.seen c.args.blocks.now in
    let b = B.seen c.log_forced.new.blocks in
    c.in_ok-set_free.ensures.rests told owners (rest-stays a b shape owners
    (stays-part log.geometry shape owners (HasLog (with_record log c.args.rec.now)) a b past
    (c.log_forced.ensures.touches told)) rests)

-- the log stands while the part is put
pub returns-clause-stands : goal.returns-clause-stands
returns-clause-stands g c told =
    let B = g.B.Blocks in
    let own = c.requires.rests told in
    let owners = own.0 in
    let log = c.args.log.now in
    let shape = g.P.Part.shape c.args.part.now in
    let a = B.seen c.args.blocks.now in
    let b = B.seen c.log_forced.new.blocks in
    let logged = c.in_ok-log_forced.ensures.logged told in
    stands-part c.log_forced.new.log shape owners
    (HasRoom shape (g.K.Kept.kept c.args.kept.now (part_no shape)))
    (B.seen c.log_forced.new.blocks) (B.seen c.set_free.new.blocks) logged.forced
    (c.in_ok-log_forced.ensures.stands told)
    (subst (λ (g : Geometry). IsPastLog g owners) (sym logged.geometry) own.1)
    (c.set_free.ensures.touches told owners (rest-stays a b shape owners
    (stays-part log.geometry shape owners (HasLog (with_record log c.args.rec.now)) a b own.1
    (c.log_forced.ensures.touches told)) own.2))

pub returns-clause-at_rest : goal.returns-clause-at_rest
returns-clause-at_rest g c told number owners old new change images after rest part of made is
    given-for kept room =
    let B = g.B.Blocks in
    let log = c.args.log.now in
    let shape = g.P.Part.shape c.args.part.now in
    let a = B.seen c.args.blocks.now in
    let b = B.seen c.log_forced.new.blocks in
    let d = B.seen c.set_free.new.blocks in
    let more = c.log_forced.new.log in
    let known = g.P.Part.known c.args.part.now in
    let place = c.args.place.now in
    let found = given c.args.bytes in
    let it = is ∙ rec-is log.geometry number owners log images after old new change a shape known
    place found rest part of made given-for kept in
    let next = first-of log.geometry number owners log images after old new change a shape known
    place found rest part of made given-for kept c.requires.place in
    let laid = laid-by-more log.geometry number owners log images after old new change a shape known
    place found rest part of made given-for kept in
    let logged = subst (λ (r : LogRecord). IsLogged log r more) is
    (c.in_ok-log_forced.ensures.logged told) in
    let safe = (returns-clause-after g c told) number owners (committed_by old) change.unit
    change.old it rest.safe next
    (subst (λ (r : LogRecord). IsLaidBy log.geometry (log.records ++ r ∷ []) (committed_by old)
    (part_no shape).0 shape (g.K.Kept.kept c.args.kept.now (part_no shape))) (sym it)
    (record { laid = laid.laid; kept_is = room ∙ laid.kept_is })) in
    let stands = (returns-clause-stands g c told) in (
      volume-first-change log.geometry number owners log more images after old new change a d rest
          of made logged kept stands safe,
      part-first-change log.geometry number owners log more images after old new change a d rest of
          made
          logged kept shape known (g.P.Part.known c.set_free.new.part) found part
          (subst (λ (q : List ℕ). HoldsNoMore shape q a d) given-for.place_is
          (λ other item apart held. stays-holds shape owners a b
          (stays-part log.geometry shape owners (HasLog (with_record log c.args.rec.now)) a b
          rest.safe.past (c.log_forced.ensures.touches told)) (rest-sound shape owners a part.rests)
          other item (c.set_free.ensures.elsewhere told other item apart held)))
          given-for.part
          (c.set_free.ensures.count ∙ c.in_ok-log_forced.ensures.count)
          (c.set_free.ensures.size ∙ c.in_ok-log_forced.ensures.size)
          (returns-clause-rests g c told owners rest.safe.past part.rests)
          (subst (λ (lengths : Lengths). HasKeptRoom shape lengths d) room
          (c.set_free.ensures.room told))
          (c.in_ok-set_free.ensures.knows told) c.set_free.ensures.moves
          (subst (λ (q : List ℕ). SetsOne shape q found a.cur d.cur) given-for.place_is
          (returns-clause-set g c told))
          (given-item old change shape place found given-for),
    )

pub returns-clause-due : goal.returns-clause-due
returns-clause-due g c told =
    let B = g.B.Blocks in
    let own = c.requires.rests told in
    let owners = own.0 in
    let log = c.args.log.now in
    let shape = g.P.Part.shape c.args.part.now in
    let a = B.seen c.args.blocks.now in
    let b = B.seen c.log_forced.new.blocks in
    due-at-then shape c.args.place.now (g.P.Part.put c.set_free.new.part) a b
    (B.seen c.set_free.new.blocks)
    (due-stays shape owners a b
    (stays-part log.geometry shape owners (HasLog (with_record log c.args.rec.now)) a b own.1
    (c.log_forced.ensures.touches told))
    (rest-sound shape owners a own.2) (g.met.B.Blocks.cur_may c.args.blocks.now told))
    (c.in_ok-set_free.ensures.due told)

pub returns-clause-others : goal.returns-clause-others
returns-clause-others g c told number owners old new change images after other known rest part of
    made at kept apart others =
    let B = g.B.Blocks in
    let log = c.args.log.now in
    let shape = g.P.Part.shape c.args.part.now in
    let a = B.seen c.args.blocks.now in
    let b = B.seen c.log_forced.new.blocks in
    let d = B.seen c.set_free.new.blocks in
    let here : (part_no shape).0 ≡ change.part.0 = ap (λ (p : PartNo). p.0) at in
    other-first-change log.geometry number owners log images after old new change a d rest of
    made.contents kept other known others apart
    (stays-then other owners a b d
    (stays-part log.geometry other owners (HasLog (with_record log c.args.rec.now)) a b
    rest.safe.past (c.log_forced.ensures.touches told)) (stays-apart shape other owners
    (HasRoom shape (g.K.Kept.kept c.args.kept.now (part_no shape))) b d
    (λ same. apart (same ∙ here)) (c.set_free.ensures.touches told owners
    (rest-stays a b shape owners
    (stays-part log.geometry shape owners (HasLog (with_record log c.args.rec.now)) a b
    rest.safe.past (c.log_forced.ensures.touches told)) part.rests))))
    (g.met.B.Blocks.cur_may c.args.blocks.now told)

pub returns-clause-others_due : goal.returns-clause-others_due
returns-clause-others_due g c told number owners images state other known rest part apart others =
    let B = g.B.Blocks in
    let log = c.args.log.now in
    let shape = g.P.Part.shape c.args.part.now in
    let a = B.seen c.args.blocks.now in
    let b = B.seen c.log_forced.new.blocks in
    let d = B.seen c.set_free.new.blocks in
    due-stays other owners a d (stays-then other owners a b d
    (stays-part log.geometry other owners (HasLog (with_record log c.args.rec.now)) a b
    rest.safe.past (c.log_forced.ensures.touches told)) (stays-apart shape other owners
    (HasRoom shape (g.K.Kept.kept c.args.kept.now (part_no shape))) b d
    apart (c.set_free.ensures.touches told owners (rest-stays a b shape owners
    (stays-part log.geometry shape owners (HasLog (with_record log c.args.rec.now)) a b
    rest.safe.past (c.log_forced.ensures.touches told)) part.rests))))
    (rest-sound other owners a others.rests) (g.met.B.Blocks.cur_may c.args.blocks.now told)
