use Rattle.std.proofs.Common.{◌≡◌, ◌∙◌, None, Option, Some, ap, length, refl, subst, sym}
use Rattle.std.specs.Prelude.{All}
use Rattle.std.proofs.lemmas.List.{take_all}
use Rattle.std.proofs.lemmas.List.Elements.{All-get_or, All-nil}
use Rattle.std.proofs.lemmas.Option.{none-some}
use Rattle.vr_types.proofs.CallerLemmas.{keeps-none}
use Rattle.vr_types.specs.Faults.{Faults}
use Rattle.vr_record_file.specs.Now.{FileNow, state_now}
use Rattle.vr_volume.specs.declared.setting.EntryChange.{EntryChange}
use Rattle.vr_store.specs.Store.{StoreNow}
use Rattle.vr_event.specs.EditSteps.{AreMetAt, HasOpened, HasOpeningFaults, IsOpenAt}
use Rattle.vr_event.specs.Putting.{HasMetAt}
use Rattle.vr_event.specs.declared.edit.Edit.{Edit}
use Rattle.vr_event.specs.declared.edit.Edit.TheVariants as answers
use Rattle.vr_event.proofs.AskedClusters.{holds-later}
use Rattle.vr_event.proofs.EditAsked.{open-after}
use Rattle.vr_event.proofs.EditOpened.{held-then, opened-met, opened-then}
use Rattle.vr_event.proofs.EditPlaces.{lacks-one, met-more, only-more, open-more, room-first}
use Rattle.vr_event.proofs.EditPlaces.{room-more}
use Rattle.vr_event.proofs.Recovers.{recovers-keeps}
use Rattle.vr_event.proofs.UtilitySteps.{less-after, less-as, less-met}
use Rattle.vr_event.proofs.volume.Volume.open_changes.Goals as goal

pub loop-change-init : goal.loop-change-init
loop-change-init g c =
    let B = g.B.Blocks in
    let seen = B.seen in
    let old = c.args.self.now in
    record {
      opened = opened-met seen c.args.after c.args.unit c.args.line old old c.requires.may.whole
          refl refl refl;
      only = record {
        file = refl;
        only = record { parts = refl; others = λ other apart. refl };
        rest = refl;
      };
      room = room-first (length c.args.changes.now) old.store.parts c.requires.room;
      met = All-nil (λ (change : EntryChange). HasMetAt old.store.parts 0 change.place);
      still = λ told. refl;
      opens = λ told. All-nil (IsOpenAt old.store (seen old.blocks).cur);
      held = λ told opening held. record {
        held = held;
        moments = recovers-keeps old.number old.store (state_now opening old.file)
            (seen old.blocks) (seen old.blocks) (held.stored c.requires.may.going) B.tells told
            (keeps-none B.tells (seen old.blocks)
            (λ told image is. g.met.B.Blocks.images_may old.blocks image told is));
      };
      faults = refl;
    }

pub open_place-requires-clause-may : goal.open_place-requires-clause-may
open_place-requires-clause-may g c =
    let inv = c.loop-change.invariant in
    open-after g.B.Blocks.seen c.args.after c.args.self.now c.loop-change.self inv.opened.whole
    inv.only.file c.requires.may

pub open_place-requires-clause-place : goal.open_place-requires-clause-place
open_place-requires-clause-place g c =
    let change = c.change-item.result in
    subst (λ (one : EntryChange). length one.place ≡ 44) (sym c.change-item.is)
    (All-get_or (λ (one : EntryChange). length one.place ≡ 44) c.args.changes.now
    c.loop-change.change-index change c.loop-change-test.true c.requires.places)

pub open_place-requires-clause-holds : goal.open_place-requires-clause-holds
open_place-requires-clause-holds g c told = holds-later g.B.Blocks.seen c.args.self.now
    c.loop-change.self (c.requires.holds told) (λ opening held.
    let then = c.loop-change.invariant.held told opening held in then.held)

-- ---- where one answers

pub returns-in-Some-clause-opened : goal.returns-in-Some-clause-opened
returns-in-Some-clause-opened g c =
    let seen = g.B.Blocks.seen in
    subst (λ (o : Option Edit). HasOpened seen c.args.after c.args.unit c.args.line o
    c.args.self.now c.open_place.new.self) c.in-Some.is
    (opened-then seen c.args.after c.args.unit c.args.line c.open_place.result c.args.self.now
    c.loop-change.self c.open_place.new.self c.loop-change.invariant.opened
    c.open_place.ensures.opened)

pub returns-in-Some-clause-no_room : goal.returns-in-Some-clause-no_room
returns-in-Some-clause-no_room g c told is =
    let seen = g.B.Blocks.seen in
    let old = c.args.self.now in
    let mid = c.loop-change.self in
    let inv = c.loop-change.invariant in
    lacks-one seen old mid inv.opened.whole
    (ap (λ (f : FileNow). f.stopped) inv.only.file ∙ c.requires.may.going) inv.only
    c.args.changes.now c.loop-change.change-index c.change-item.result c.loop-change-test.true
    c.change-item.is (seen old.blocks).cur (seen mid.blocks).cur (inv.still told)
    (c.open_place.ensures.no_room told (c.in-Some.is ∙ is))

pub returns-in-Some-clause-cause : goal.returns-in-Some-clause-cause
returns-in-Some-clause-cause g c =
    let faults = g.B.Blocks.faults in
    let new = c.open_place.new.self in
    subst (λ (o : Option Edit). HasOpeningFaults o (faults c.args.self.now.blocks)
    (faults new.blocks)) c.in-Some.is
    (subst (λ (f : Faults). HasOpeningFaults c.open_place.result f (faults new.blocks))
    c.loop-change.invariant.faults c.open_place.ensures.cause)

pub returns-in-Some-clause-less : goal.returns-in-Some-clause-less
returns-in-Some-clause-less g c told =
    let only = c.loop-change.invariant.only in
    less-after _ 0 c.args.self.now c.loop-change.self c.open_place.new.self only.only only.rest
    only.file
    (less-as (c.open_place.result ≡ Some answers.Again) _ c.loop-change.self
    c.open_place.new.self (λ is. c.in-Some.is ∙ is) (c.open_place.ensures.less told))

pub returns-in-Some-clause-held : goal.returns-in-Some-clause-held
returns-in-Some-clause-held g c told opening held =
    let inv = c.loop-change.invariant in
    let then = inv.held told opening held in
    held-then g.B.Blocks.seen opening c.args.self.now c.loop-change.self c.open_place.new.self
    inv.only.file inv.opened.number (ap (λ (s : StoreNow). s.log) inv.only.rest) then.moments
    (c.open_place.ensures.held told opening then.held)

-- ---- where nothing is in the way

pub loop-change-preserved : goal.loop-change-preserved
loop-change-preserved g c =
    let B = g.B.Blocks in
    let seen = B.seen in
    let old = c.args.self.now in
    let mid = c.loop-change.self in
    let new = c.open_place.new.self in
    let inv = c.loop-change.invariant in
    let changes = c.args.changes.now in
    let i = c.loop-change.change-index in
    let change = c.change-item.result in
    let below = c.loop-change-test.true in
    let going = ap (λ (f : FileNow). f.stopped) inv.only.file ∙ c.requires.may.going in
    let next = c.open_place.ensures.met c.in_default.is in
    record {
      opened = opened-then seen c.args.after c.args.unit c.args.line None old mid new inv.opened
          (subst (λ (o : Option Edit). HasOpened seen c.args.after c.args.unit c.args.line o mid
          new) c.in_default.is c.open_place.ensures.opened);
      only = only-more seen old mid new change.place inv.only next;
      room = room-more seen changes i change below c.change-item.is mid new inv.opened.whole going
          next inv.room;
      met = met-more seen changes i change below c.change-item.is mid new inv.opened.whole going
          next inv.room inv.met;
      still = λ told. c.open_place.ensures.still told c.in_default.is ∙ inv.still told;
      opens = λ told. open-more seen changes i change below c.change-item.is mid new
          inv.opened.whole going next (seen mid.blocks).cur (seen new.blocks).cur
          (c.open_place.ensures.still told c.in_default.is) (inv.opens told)
          (c.open_place.ensures.open told c.in_default.is);
      held = λ told opening held.
          let then = inv.held told opening held in
          held-then seen opening old mid new inv.only.file inv.opened.number
          (ap (λ (s : StoreNow). s.log) inv.only.rest) then.moments
          (c.open_place.ensures.held told opening then.held);
      faults = subst (λ (o : Option Edit). HasOpeningFaults o (B.faults mid.blocks)
          (B.faults new.blocks)) c.in_default.is c.open_place.ensures.cause ∙ inv.faults;
    }

pub returns-clause-met : goal.returns-clause-met
returns-clause-met g c none = (
  c.loop-change.invariant.only,
  subst (AreMetAt c.loop-change.self.store.parts)
      (take_all c.loop-change.change-index c.args.changes.now c.loop-change-test.false)
      c.loop-change.invariant.met,
)

pub returns-clause-open : goal.returns-clause-open
returns-clause-open g c told none =
    let now = c.loop-change.self in
    subst (All (IsOpenAt now.store (g.B.Blocks.seen now.blocks).cur))
    (take_all c.loop-change.change-index c.args.changes.now c.loop-change-test.false)
    (c.loop-change.invariant.opens told)

pub returns-clause-less : goal.returns-clause-less
returns-clause-less g c told =
    let only = c.loop-change.invariant.only in
    less-met _ 0 c.args.self.now c.loop-change.self (λ is. none-some _ is) only.only only.file
