-- A definition: a part is made, and the catalog gets its record; where the log is full the part is
-- taken back.
use Rattle.std.proofs.Common.{◌∙◌, ◌<◌, ◌+◌, ◌^◌, [], Option, ap, inl, inr, subst, sym}
use Rattle.std.specs.Option.{option_map}
use Rattle.std.specs.Prelude.{IfSome}
use Rattle.vr_types.specs.Moments.{Guards}
use Rattle.vr_types.specs.Space.{released}
use Rattle.vr_types.proofs.CallerLemmas.{guards-weaken}
use Rattle.vr_space.specs.Known.{HasMet}
use Rattle.vr_space.specs.Part.{IsPlaceOf, IsRecordOf, Shape}
use Rattle.vr_log.specs.LogNow.{IsFullNo}
use Rattle.vr_volume.specs.Crashes.{RecoversTo}
use Rattle.vr_store.specs.Store.{IsSet, IsStored, PartNow, StoreNow}
use Rattle.vr_store.proofs.Definitions.{Either, begun-here, catalog-same, guards-defined}
use Rattle.vr_store.proofs.Definitions.{if-err-any, new-part, new-shape, ready-here, taken-back}
use Rattle.vr_store.proofs.NewAreas.{given-differs}
use Rattle.vr_store.proofs.NobodysBlocks.{guards-beside, stored-beside}
use Rattle.vr_store.proofs.PutNothing.{set-still}
use Rattle.vr_store.proofs.store.Store.define_by.Goals as goal

pub returns-in_err-start_part-clause-moments : goal.returns-in_err-start_part-clause-moments
returns-in_err-start_part-clause-moments g c told volume old new is =
    let store = c.args.self.now in
    let part = c.args.part in
    let area = c.args.area in
    let definition = c.args.definition.now in
    let place = c.args.place.now in
    let bytes = c.args.bytes.now in
    let unit = c.args.unit in
    let mid = c.start_part.new.self in
    let a = g.B.Blocks.seen c.args.blocks.now in
    let now = g.B.Blocks.seen c.start_part.new.blocks in
    let none = c.requires.unowned in
    let least = c.requires.least in
    guards-weaken a now (RecoversTo store.log.geometry volume old []) (Either store volume old new)
    (guards-beside store part area.0 least none a now
    (g.met.B.Blocks.cur_may c.args.blocks.now told) (c.start_part.ensures.touches told) volume old
    is.stored c.requires.fresh)
    (λ image recovers. inl recovers)

pub returns-in_err-start_part-clause-unchanged : goal.returns-in_err-start_part-clause-unchanged
returns-in_err-start_part-clause-unchanged g c =
    let store = c.args.self.now in
    let part = c.args.part in
    let area = c.args.area in
    let definition = c.args.definition.now in
    let place = c.args.place.now in
    let bytes = c.args.bytes.now in
    let unit = c.args.unit in
    let mid = c.start_part.new.self in
    let a = g.B.Blocks.seen c.args.blocks.now in
    let now = g.B.Blocks.seen c.start_part.new.blocks in
    let none = c.requires.unowned in
    let least = c.requires.least in
    let same = c.in_err-start_part.ensures.same in
    if-err-any c.from_residual.result _ (λ fault other. (
      same,
      subst (λ (s : StoreNow). IsSet s now) (sym same)
          (set-still store a now c.start_part.ensures.count c.start_part.ensures.size
          c.requires.set),
    ))

pub returns-in_err-start_part-clause-stored : goal.returns-in_err-start_part-clause-stored
returns-in_err-start_part-clause-stored g c told =
    let store = c.args.self.now in
    let part = c.args.part in
    let area = c.args.area in
    let definition = c.args.definition.now in
    let place = c.args.place.now in
    let bytes = c.args.bytes.now in
    let unit = c.args.unit in
    let mid = c.start_part.new.self in
    let a = g.B.Blocks.seen c.args.blocks.now in
    let now = g.B.Blocks.seen c.start_part.new.blocks in
    let none = c.requires.unowned in
    let least = c.requires.least in
    let same = c.in_err-start_part.ensures.same in
    if-err-any c.from_residual.result _ (λ fault other volume state stored.
    subst (λ (s : StoreNow). IsStored volume s state now) (sym same)
    (stored-beside store part area.0 least none a now
    (g.met.B.Blocks.cur_may c.args.blocks.now told) (c.start_part.ensures.touches told) volume state
    stored c.requires.fresh))

pub add_entry-requires-clause-catalog : goal.add_entry-requires-clause-catalog
add_entry-requires-clause-catalog g c nothing =
    let store = c.args.self.now in
    let part = c.args.part in
    let area = c.args.area in
    let definition = c.args.definition.now in
    let place = c.args.place.now in
    let bytes = c.args.bytes.now in
    let unit = c.args.unit in
    let mid = c.start_part.new.self in
    let a = g.B.Blocks.seen c.args.blocks.now in
    let now = g.B.Blocks.seen c.start_part.new.blocks in
    let none = c.requires.unowned in
    let least = c.requires.least in
    let started = c.in_ok-start_part.ensures.started in
    let same = catalog-same g.B.Blocks.tells part area definition store mid now started
    c.requires.fresh c.requires.catalog in
    c.requires.catalog (sym same ∙ nothing)

pub add_entry-requires-clause-place : goal.add_entry-requires-clause-place
add_entry-requires-clause-place g c =
    let store = c.args.self.now in
    let part = c.args.part in
    let area = c.args.area in
    let definition = c.args.definition.now in
    let place = c.args.place.now in
    let bytes = c.args.bytes.now in
    let unit = c.args.unit in
    let mid = c.start_part.new.self in
    let a = g.B.Blocks.seen c.args.blocks.now in
    let now = g.B.Blocks.seen c.start_part.new.blocks in
    let none = c.requires.unowned in
    let least = c.requires.least in
    let started = c.in_ok-start_part.ensures.started in
    let same = catalog-same g.B.Blocks.tells part area definition store mid now started
    c.requires.fresh c.requires.catalog in
    subst (λ (found : Option Shape). IfSome found (λ shape. IsPlaceOf shape place))
    (ap (option_map (λ (one : PartNow). one.shape)) (sym same)) c.requires.place

pub add_entry-requires-clause-item : goal.add_entry-requires-clause-item
add_entry-requires-clause-item g c =
    let store = c.args.self.now in
    let part = c.args.part in
    let area = c.args.area in
    let definition = c.args.definition.now in
    let place = c.args.place.now in
    let bytes = c.args.bytes.now in
    let unit = c.args.unit in
    let mid = c.start_part.new.self in
    let a = g.B.Blocks.seen c.args.blocks.now in
    let now = g.B.Blocks.seen c.start_part.new.blocks in
    let none = c.requires.unowned in
    let least = c.requires.least in
    let started = c.in_ok-start_part.ensures.started in
    let same = catalog-same g.B.Blocks.tells part area definition store mid now started
    c.requires.fresh c.requires.catalog in
    subst (λ (found : Option Shape). IfSome found (λ shape. IsRecordOf shape place bytes))
    (ap (option_map (λ (one : PartNow). one.shape)) (sym same)) c.requires.item

pub add_entry-requires-clause-met : goal.add_entry-requires-clause-met
add_entry-requires-clause-met g c =
    let store = c.args.self.now in
    let part = c.args.part in
    let area = c.args.area in
    let definition = c.args.definition.now in
    let place = c.args.place.now in
    let bytes = c.args.bytes.now in
    let unit = c.args.unit in
    let mid = c.start_part.new.self in
    let a = g.B.Blocks.seen c.args.blocks.now in
    let now = g.B.Blocks.seen c.start_part.new.blocks in
    let none = c.requires.unowned in
    let least = c.requires.least in
    let started = c.in_ok-start_part.ensures.started in
    let same = catalog-same g.B.Blocks.tells part area definition store mid now started
    c.requires.fresh c.requires.catalog in
    subst (λ (found : Option PartNow). IfSome found (λ one. HasMet one.known place)) (sym same)
    c.requires.met

pub add_entry-requires-clause-ready : goal.add_entry-requires-clause-ready
add_entry-requires-clause-ready g c told =
    let store = c.args.self.now in
    let part = c.args.part in
    let area = c.args.area in
    let definition = c.args.definition.now in
    let place = c.args.place.now in
    let bytes = c.args.bytes.now in
    let unit = c.args.unit in
    let mid = c.start_part.new.self in
    let a = g.B.Blocks.seen c.args.blocks.now in
    let now = g.B.Blocks.seen c.start_part.new.blocks in
    let none = c.requires.unowned in
    let least = c.requires.least in
    let started = c.in_ok-start_part.ensures.started in
    ready-here g.B.Blocks.tells part area definition store mid now started c.requires.fresh
    c.requires.catalog least none a (g.met.B.Blocks.cur_may c.args.blocks.now told)
    (c.start_part.ensures.touches told) place bytes c.requires.set (c.requires.stands told)
    (c.requires.can told)

pub returns-in-Ok-clause-defined : goal.returns-in-Ok-clause-defined
returns-in-Ok-clause-defined g c told volume old new is below =
    let store = c.args.self.now in
    let part = c.args.part in
    let area = c.args.area in
    let definition = c.args.definition.now in
    let place = c.args.place.now in
    let bytes = c.args.bytes.now in
    let unit = c.args.unit in
    let mid = c.start_part.new.self in
    let a = g.B.Blocks.seen c.args.blocks.now in
    let now = g.B.Blocks.seen c.start_part.new.blocks in
    let none = c.requires.unowned in
    let least = c.requires.least in
    let started = c.in_ok-start_part.ensures.started in
    c.in-Ok.ensures.defined told volume old new
    (begun-here g.B.Blocks.tells part area definition store mid now started c.requires.fresh
    c.requires.catalog least none a (g.met.B.Blocks.cur_may c.args.blocks.now told)
    (c.start_part.ensures.touches told) volume unit place bytes old new told is)
    (subst (λ (s : StoreNow). s.log.generation + 1 < 2 ^ 63) (sym started.is) below)

pub returns-in-Ok-clause-moments : goal.returns-in-Ok-clause-moments
returns-in-Ok-clause-moments g c told volume old new is =
    let store = c.args.self.now in
    let part = c.args.part in
    let area = c.args.area in
    let definition = c.args.definition.now in
    let place = c.args.place.now in
    let bytes = c.args.bytes.now in
    let unit = c.args.unit in
    let mid = c.start_part.new.self in
    let a = g.B.Blocks.seen c.args.blocks.now in
    let now = g.B.Blocks.seen c.start_part.new.blocks in
    let none = c.requires.unowned in
    let least = c.requires.least in
    let started = c.in_ok-start_part.ensures.started in
    guards-defined g.B.Blocks.tells part area definition store mid now started c.requires.fresh
    c.requires.catalog least none a (g.met.B.Blocks.cur_may c.args.blocks.now told)
    (c.start_part.ensures.touches told) (g.B.Blocks.seen c.add_entry.new.blocks) volume unit place
    bytes old new told is (λ begun. c.add_entry.ensures.moments told volume old new begun)

pub returns-in-Err-Full-clause-moments : goal.returns-in-Err-Full-clause-moments
returns-in-Err-Full-clause-moments g c told volume old new is =
    let store = c.args.self.now in
    let part = c.args.part in
    let area = c.args.area in
    let definition = c.args.definition.now in
    let place = c.args.place.now in
    let bytes = c.args.bytes.now in
    let unit = c.args.unit in
    let mid = c.start_part.new.self in
    let a = g.B.Blocks.seen c.args.blocks.now in
    let now = g.B.Blocks.seen c.start_part.new.blocks in
    let none = c.requires.unowned in
    let least = c.requires.least in
    let started = c.in_ok-start_part.ensures.started in
    guards-defined g.B.Blocks.tells part area definition store mid now started c.requires.fresh
    c.requires.catalog least none a (g.met.B.Blocks.cur_may c.args.blocks.now told)
    (c.start_part.ensures.touches told) (g.B.Blocks.seen c.add_entry.new.blocks) volume unit place
    bytes old new told is (λ begun. c.add_entry.ensures.moments told volume old new begun)

pub returns-in-Err-Write-clause-moments : goal.returns-in-Err-Write-clause-moments
returns-in-Err-Write-clause-moments g c told volume old new is =
    let store = c.args.self.now in
    let part = c.args.part in
    let area = c.args.area in
    let definition = c.args.definition.now in
    let place = c.args.place.now in
    let bytes = c.args.bytes.now in
    let unit = c.args.unit in
    let mid = c.start_part.new.self in
    let a = g.B.Blocks.seen c.args.blocks.now in
    let now = g.B.Blocks.seen c.start_part.new.blocks in
    let none = c.requires.unowned in
    let least = c.requires.least in
    let started = c.in_ok-start_part.ensures.started in
    guards-defined g.B.Blocks.tells part area definition store mid now started c.requires.fresh
    c.requires.catalog least none a (g.met.B.Blocks.cur_may c.args.blocks.now told)
    (c.start_part.ensures.touches told) (g.B.Blocks.seen c.add_entry.new.blocks) volume unit place
    bytes old new told is (λ begun. c.add_entry.ensures.moments told volume old new begun)

pub returns-in-Ok-clause-parts : goal.returns-in-Ok-clause-parts
returns-in-Ok-clause-parts g c =
    let store = c.args.self.now in
    let part = c.args.part in
    let area = c.args.area in
    let definition = c.args.definition.now in
    let place = c.args.place.now in
    let bytes = c.args.bytes.now in
    let unit = c.args.unit in
    let mid = c.start_part.new.self in
    let a = g.B.Blocks.seen c.args.blocks.now in
    let now = g.B.Blocks.seen c.start_part.new.blocks in
    let none = c.requires.unowned in
    let least = c.requires.least in
    let started = c.in_ok-start_part.ensures.started in
    new-part g.B.Blocks.tells part area definition store mid now started c.requires.fresh
    c.requires.catalog c.add_entry.new.self.parts c.in-Ok.ensures.parts

pub returns-in-Ok-clause-shapes : goal.returns-in-Ok-clause-shapes
returns-in-Ok-clause-shapes g c =
    let store = c.args.self.now in
    let part = c.args.part in
    let area = c.args.area in
    let definition = c.args.definition.now in
    let place = c.args.place.now in
    let bytes = c.args.bytes.now in
    let unit = c.args.unit in
    let mid = c.start_part.new.self in
    let a = g.B.Blocks.seen c.args.blocks.now in
    let now = g.B.Blocks.seen c.start_part.new.blocks in
    let none = c.requires.unowned in
    let least = c.requires.least in
    let started = c.in_ok-start_part.ensures.started in
    new-shape g.B.Blocks.tells part area definition store mid now started c.requires.fresh
    c.requires.catalog c.add_entry.new.self.parts c.in-Ok.ensures.parts

pub returns-in-Err-Full-clause-unchanged : goal.returns-in-Err-Full-clause-unchanged
returns-in-Err-Full-clause-unchanged g c other =
    let store = c.args.self.now in
    let part = c.args.part in
    let area = c.args.area in
    let definition = c.args.definition.now in
    let place = c.args.place.now in
    let bytes = c.args.bytes.now in
    let unit = c.args.unit in
    let mid = c.start_part.new.self in
    let a = g.B.Blocks.seen c.args.blocks.now in
    let now = g.B.Blocks.seen c.start_part.new.blocks in
    let none = c.requires.unowned in
    let least = c.requires.least in
    let started = c.in_ok-start_part.ensures.started in
    let entered = c.in-Err-Full.ensures.unchanged
    (subst IsFullNo (sym c.in-Err-Full.field-0-is) tt) in
    let same = taken-back g.B.Blocks.tells part area definition store mid now started
    c.requires.fresh c.requires.catalog least none c.take_back.new.self
    (λ before last is. c.take_back.ensures before last
    (ap (λ (s : StoreNow). s.parts) entered.0 ∙ is)
    ∙ ap (λ (s : StoreNow). let t : StoreNow = record s {
      parts = before;
      space = released part s.space;
    } in t) entered.0) in (
      same,
      subst (λ (blocks : _). IsSet c.take_back.new.self (g.B.Blocks.seen blocks)) (sym entered.1)
          (subst (λ (s : StoreNow). IsSet s now) (sym same)
          (set-still store a now c.start_part.ensures.count c.start_part.ensures.size
          c.requires.set)),
    )

pub returns-in-Err-Full-clause-stored : goal.returns-in-Err-Full-clause-stored
returns-in-Err-Full-clause-stored g c told other volume state stored =
    let store = c.args.self.now in
    let part = c.args.part in
    let area = c.args.area in
    let definition = c.args.definition.now in
    let place = c.args.place.now in
    let bytes = c.args.bytes.now in
    let unit = c.args.unit in
    let mid = c.start_part.new.self in
    let a = g.B.Blocks.seen c.args.blocks.now in
    let now = g.B.Blocks.seen c.start_part.new.blocks in
    let none = c.requires.unowned in
    let least = c.requires.least in
    let started = c.in_ok-start_part.ensures.started in
    let entered = c.in-Err-Full.ensures.unchanged
    (subst IsFullNo (sym c.in-Err-Full.field-0-is) tt) in
    let same = taken-back g.B.Blocks.tells part area definition store mid now started
    c.requires.fresh c.requires.catalog least none c.take_back.new.self
    (λ before last is. c.take_back.ensures before last
    (ap (λ (s : StoreNow). s.parts) entered.0 ∙ is)
    ∙ ap (λ (s : StoreNow). let t : StoreNow = record s {
      parts = before;
      space = released part s.space;
    } in t) entered.0) in
    subst (λ (blocks : _). IsStored volume c.take_back.new.self state (g.B.Blocks.seen blocks))
    (sym entered.1)
    (subst (λ (s : StoreNow). IsStored volume s state now) (sym same)
    (stored-beside store part area.0 least none a now
    (g.met.B.Blocks.cur_may c.args.blocks.now told) (c.start_part.ensures.touches told) volume state
    stored c.requires.fresh))

pub returns-in_err-start_part-clause-kept : goal.returns-in_err-start_part-clause-kept
returns-in_err-start_part-clause-kept g c = if-err-any c.from_residual.result _
    (λ fault. inl (ap (λ (s : StoreNow). s.space) c.in_err-start_part.ensures.same))

pub returns-in_err-start_part-clause-begun : goal.returns-in_err-start_part-clause-begun
returns-in_err-start_part-clause-begun g c told = if-err-any c.from_residual.result _
    (λ fault same volume state stored. guards-beside c.args.self.now c.args.part c.args.area.0
    c.requires.least c.requires.unowned (g.B.Blocks.seen c.args.blocks.now)
    (g.B.Blocks.seen c.start_part.new.blocks) (g.met.B.Blocks.cur_may c.args.blocks.now told)
    (c.start_part.ensures.touches told) volume state stored c.requires.fresh)

pub returns-in-Err-Full-clause-kept : goal.returns-in-Err-Full-clause-kept
returns-in-Err-Full-clause-kept g c =
    let entered = c.in-Err-Full.ensures.unchanged
    (subst IsFullNo (sym c.in-Err-Full.field-0-is) tt) in
    inl (ap (λ (s : StoreNow). s.space) (taken-back g.B.Blocks.tells c.args.part c.args.area
    c.args.definition.now c.args.self.now c.start_part.new.self
    (g.B.Blocks.seen c.start_part.new.blocks) c.in_ok-start_part.ensures.started c.requires.fresh
    c.requires.catalog c.requires.least c.requires.unowned c.take_back.new.self
    (λ before last is. c.take_back.ensures before last
    (ap (λ (s : StoreNow). s.parts) entered.0 ∙ is)
    ∙ ap (λ (s : StoreNow). let t : StoreNow = record s {
      parts = before;
      space = released c.args.part s.space;
    } in t) entered.0)))

pub returns-in-Err-Full-clause-begun : goal.returns-in-Err-Full-clause-begun
returns-in-Err-Full-clause-begun g c told same volume state stored =
    let entered = c.in-Err-Full.ensures.unchanged
    (subst IsFullNo (sym c.in-Err-Full.field-0-is) tt) in
    let a = g.B.Blocks.seen c.args.blocks.now in
    subst (λ (blocks : _). Guards a (g.B.Blocks.seen blocks)
    (RecoversTo c.args.self.now.log.geometry volume state [])) (sym entered.1)
    (guards-beside c.args.self.now c.args.part c.args.area.0 c.requires.least c.requires.unowned a
    (g.B.Blocks.seen c.start_part.new.blocks) (g.met.B.Blocks.cur_may c.args.blocks.now told)
    (c.start_part.ensures.touches told) volume state stored c.requires.fresh)

pub returns-in-Err-Write-clause-kept : goal.returns-in-Err-Write-clause-kept
returns-in-Err-Write-clause-kept g c = inr (ap (λ (s : StoreNow). s.space) c.add_entry.ensures.rest
    ∙ ap (λ (s : StoreNow). s.space) c.in_ok-start_part.ensures.started.is)

pub returns-in-Err-Write-clause-begun : goal.returns-in-Err-Write-clause-begun
returns-in-Err-Write-clause-begun g c told same = absurd (given-differs c.args.part
    c.args.self.now.space c.args.area.0 c.requires.least c.requires.unowned
    (sym (ap (λ (s : StoreNow). s.space) c.add_entry.ensures.rest
    ∙ ap (λ (s : StoreNow). s.space) c.in_ok-start_part.ensures.started.is) ∙ same))
