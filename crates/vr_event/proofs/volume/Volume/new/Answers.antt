use Rattle.std.proofs.Common.{◌≡◌, ◌∙◌, ◌-◌, List, sym, ap, subst, length, map}
use Rattle.std.proofs.lemmas.List.Sorted.{IsPermutation-refl}
use Rattle.vr_types.specs.Geometry.{area_count}
use Rattle.vr_types.specs.Space.{free_count}
use Rattle.vr_types.specs.declared.geometry.Geometry.{Geometry}
use Rattle.vr_catalog.specs.declared.entry.CatEntry.{CatEntry}
use Rattle.vr_history.specs.Legal.{state_of}
use Rattle.vr_history.specs.State.{State, opening_state}
use Rattle.vr_record_file.specs.Now.{state_now}
use Rattle.vr_event.specs.Opening.{owned_in}
use Rattle.vr_volume.specs.Laid.{shape_in}
use Rattle.vr_store.specs.Store.{IsSet, IsStored, StoreNow, part_now, shape_among}
use Rattle.vr_event.proofs.Areas.{owned-same, unlaid-same}
use Rattle.vr_event.proofs.Opened.{free-owned, opened-stored}
use Rattle.vr_event.proofs.Served.{served_are, served_same}
use Rattle.vr_event.proofs.volume.Volume.new.Goals as goal

pub returns-clause-held : goal.returns-clause-held
returns-clause-held g c told contents catalog served geometry records sound count parts unlaid
    opened =
    let space = c.args.space in
    let opening = opening_state contents (owned_in space) in
    let file = c.new-2.result in
    let seen = g.B.Blocks.seen c.args.blocks in
    let same : state_now opening file ≡ opening =
    ap (state_of file.geometry opening) c.new-2.ensures.entries in
    record {
      file = c.new-2.ensures.state contents (owned_in space) catalog
          (served_are c.args.geometry c.args.catalog served) parts;
      free = ap (λ (s : StoreNow). free_count s.space) c.new.ensures
          ∙ free-owned space (area_count file.geometry)
          (count ∙ sym (ap area_count c.new-2.ensures.geometry))
          ∙ sym (ap (λ (s : State). area_count file.geometry - length s.owned) same);
      owned = owned-same space c.new.result.space (owned_in space) (state_now opening file).owned
          (ap (λ (s : StoreNow). s.space) c.new.ensures) (ap (λ (s : State). s.owned) same)
          (IsPermutation-refl (owned_in space));
      unlaid = λ going. unlaid-same c.args.geometry file.geometry c.args.catalog file.catalog space
          c.new.result.space c.new-2.ensures.geometry c.new-2.ensures.catalog
          (ap (λ (s : StoreNow). s.space) c.new.ensures) unlaid;
      stored = λ going. subst (λ (s : State). IsStored c.args.number c.new.result s seen)
          (sym same)
          (subst (λ (s : StoreNow). IsStored c.args.number s opening seen) (sym c.new.ensures)
          (opened-stored c.args.number c.args.log
          (map (part_now g.P.Part.shape g.P.Part.known) c.args.parts.items) contents
          space seen records sound opened (g.met.B.Blocks.cur_may c.args.blocks told)));
    }

pub returns-clause-whole : goal.returns-clause-whole
returns-clause-whole g c served set geometry laid =
    let file = c.new-2.result in
    let seen = g.B.Blocks.seen c.args.blocks in
    record {
      served = served_same c.args.geometry file.geometry c.args.catalog file.catalog
          c.new-2.ensures.geometry c.new-2.ensures.catalog served;
      geometry = λ going. ap (λ (s : StoreNow). s.log.geometry) c.new.ensures ∙ geometry
          ∙ sym c.new-2.ensures.geometry;
      laid = λ going part. ap (λ (s : StoreNow). shape_among s.parts part) c.new.ensures ∙ laid part
          ∙ sym (ap (λ (entries : List CatEntry). shape_in file.geometry entries part)
          c.new-2.ensures.catalog
          ∙ ap (λ (shape : Geometry). shape_in shape c.args.catalog part) c.new-2.ensures.geometry);
      set = λ going. subst (λ (s : StoreNow). IsSet s seen) (sym c.new.ensures) set;
    }
