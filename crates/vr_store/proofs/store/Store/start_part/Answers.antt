-- A part that is made is added to the parts of the store, on the area that was free.
use Rattle.std.proofs.Common.{◌≡◌, ◌∙◌, ◌++◌, ◌∷◌, [], List, Option, Some, ap, map, refl, set}
use Rattle.std.proofs.Common.{sym, subst}
use Rattle.std.proofs.lemmas.List.{map-append}
use Rattle.vr_types.specs.Space.{least_free}
use Rattle.vr_types.specs.declared.geometry.Geometry.{Geometry}
use Rattle.vr_types.specs.declared.unit.PartNo.{PartNo}
use Rattle.vr_types.proofs.CallerLemmas.{keeps-none, keeps-touches}
use Rattle.vr_space.specs.Part.{owned_count}
use Rattle.vr_attach.specs.Laid.{shape_by_kind}
use Rattle.vr_attach.specs.Owning.{owner_of}
use Rattle.vr_volume.specs.Defining.{IsStarted}
use Rattle.vr_store.specs.Define.{IsStartedIn}
use Rattle.vr_store.specs.Store.{IsSet, PartNow, StoreNow, changed_by, part_among, part_now}
use Rattle.vr_store.proofs.AddedParts.{chain-held, grown-is, kind-number, set-grown}
use Rattle.vr_store.proofs.store.Store.start_part.Goals as goal

pub returns-in_err-room_for_one-clause-touches : goal.returns-in_err-room_for_one-clause-touches
returns-in_err-room_for_one-clause-touches g c told =
    let a = g.B.Blocks.seen c.args.blocks.now in
    keeps-touches g.B.Blocks.tells
    (λ n. owner_of c.args.self.now.log.geometry
    (set c.args.self.now.space c.args.area.0 (Some c.args.part)) n
    ≡ Some c.args.part.0) (λ image. Unit {0}) a a told
    (keeps-none g.B.Blocks.tells a
    (λ told image. g.met.B.Blocks.images_may c.args.blocks.now image told))
    (λ image left. tt)

pub returns-clause-started : goal.returns-clause-started
returns-clause-started g c =
    let shape = g.P.Part.shape in
    let known = g.P.Part.known in
    let inside = c.self.inside in
    let part = c.args.part in
    let area = c.args.area.0 in
    let definition = c.args.definition.now in
    let b = g.B.Blocks.seen c.start_in.new.blocks in
    let made = c.in_ok-started.ensures in
    let v : StoreNow = record {
      log = inside.log;
      undo = inside.undo;
      parts = map (part_now shape known) inside.parts.items;
      changed = map changed_by inside.changed.items;
      space = inside.space;
    } in
    let added : PartNow = record {
      number = part;
      shape = shape c.in_ok-started.started;
      known = known c.in_ok-started.started;
    } in
    let w : StoreNow = record v {
      parts = map (part_now shape known) c.push_reserved.new.self.items;
      space = c.start_in.new.space;
    } in
    let geometry : c.args.geometry.now ≡ v.log.geometry =
    c.requires.geometry ∙ sym (ap (λ (s : StoreNow). s.log.geometry) c.self.view_is) in
    subst (λ (s : StoreNow). IsStartedIn g.B.Blocks.tells part c.args.area definition s w b)
    c.self.view_is
    (record {
      added = added;
      is = grown-is v added w.parts w.space (set v.space area (Some part))
          (ap (map (part_now shape known)) c.push_reserved.ensures.items
          ∙ map-append (part_now shape known) c.room_for_one.new.parts.items
          (record { number = part; part = c.in_ok-started.started } ∷ [])
          ∙ ap (λ (parts : List PartNow). parts ++ added ∷ [])
          (ap (map (part_now shape known)) c.room_for_one.ensures.same)) made.claimed;
      number = refl;
      laid = ap (λ (g : Geometry). shape_by_kind g part.0 area definition definition.kind)
          (sym geometry) ∙ made.shape;
      split = made.split;
      moves = made.moves;
      areas = chain-held added.shape added.known made.moves ∙ made.holds;
      started = λ told. subst (λ (g : Geometry). IsStarted added.shape (owner_of g w.space)
          added.known b) geometry
          (subst (λ (areas : List (Option PartNo)). IsStarted added.shape
          (owner_of c.args.geometry.now areas) added.known b) (sym made.claimed)
          (made.started told));
    })

pub returns-clause-set : goal.returns-clause-set
returns-clause-set g c =
    let shape = g.P.Part.shape in
    let known = g.P.Part.known in
    let inside = c.self.inside in
    let part = c.args.part in
    let area = c.args.area.0 in
    let definition = c.args.definition.now in
    let a = g.B.Blocks.seen c.args.blocks.now in
    let b = g.B.Blocks.seen c.start_in.new.blocks in
    let made = c.in_ok-started.ensures in
    let v : StoreNow = record {
      log = inside.log;
      undo = inside.undo;
      parts = map (part_now shape known) inside.parts.items;
      changed = map changed_by inside.changed.items;
      space = inside.space;
    } in
    let added : PartNow = record {
      number = part;
      shape = shape c.in_ok-started.started;
      known = known c.in_ok-started.started;
    } in
    let w : StoreNow = record v {
      parts = map (part_now shape known) c.push_reserved.new.self.items;
      space = c.start_in.new.space;
    } in
    let least = ap (λ (s : StoreNow). least_free s.space) c.self.view_is ∙ c.requires.least in
    let none = ap (λ (s : StoreNow). owned_count part s.space) c.self.view_is
    ∙ c.requires.unowned in
    let fresh = ap (λ (s : StoreNow). part_among s.parts part.0) c.self.view_is
    ∙ c.requires.fresh in
    subst (λ (s : StoreNow). IsSet s b)
    (sym (grown-is v added w.parts w.space (set v.space area (Some part))
    (ap (map (part_now shape known)) c.push_reserved.ensures.items
    ∙ map-append (part_now shape known) c.room_for_one.new.parts.items
    (record { number = part; part = c.in_ok-started.started } ∷ [])
    ∙ ap (λ (parts : List PartNow). parts ++ added ∷ [])
    (ap (map (part_now shape known)) c.room_for_one.ensures.same)) made.claimed))
    (set-grown v part area added least none fresh refl a b c.start_in.ensures.count
    c.start_in.ensures.size
    (kind-number c.args.geometry.now part area definition definition.kind added.shape made.shape)
    made.on made.owns (subst (λ (s : StoreNow). IsSet s a) (sym c.self.view_is) c.requires.set))
