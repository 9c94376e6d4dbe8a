use Rattle.std.proofs.Common.{ℕ, List, Option, ap, ◌∙◌, map}
use Rattle.std.proofs.lemmas.Result.{on_ok_weaker}
use Rattle.vr_types.proofs.CallerLemmas.{keeps-none}
use Rattle.vr_space.specs.Part.{IsPlaceOf, Shape}
use Rattle.vr_store.specs.Store.{StoreNow, changed_by}
use Rattle.vr_store.specs.Store.{part_now}
use Rattle.vr_store.specs.Visiting.{after_found}
use Rattle.vr_store.proofs.PartsAt.{laid-found, laid-same, none-laid, store-of}
use Rattle.vr_store.proofs.Recorded.{at-shape, knows-at, none-read, record-read, set-at, stand-at}
use Rattle.vr_store.proofs.store.Store.visit.Goals as goal

pub visit_at-requires : goal.visit_at-requires
visit_at-requires g c =
    let shape = g.P.Part.shape in
    let known = g.P.Part.known in
    let store = c.args.self.now in
    let a = g.B.Blocks.seen c.args.blocks.now in
    let laid = c.index_mut.result.now in
    let number = c.args.number.0 in
    let part = part_now shape known laid in
    let found = laid-found shape known c.self.inside.parts.items number c.deref.result.now
    c.index_of.result store.parts c.deref.ensures.value
    (ap (λ (s : StoreNow). s.parts) c.self.view_is) c.index_of.ensures c.in-Some.at c.in-Some.is
    laid c.index_mut.ensures.value in
    record {
      on = (set-at store a c.requires.set number part found).on;
      place = at-shape (λ (s : Shape). IsPlaceOf s c.args.place.now) store.parts number part found
          c.requires.place;
      stands = λ told. stand-at store a c.requires.set number part found
          (g.met.B.Blocks.cur_may c.args.blocks.now told) (c.requires.stands told);
      knows = λ told. knows-at store a c.requires.set number part found (c.requires.stands told);
    }

pub returns-in-Some : goal.returns-in-Some
returns-in-Some g c =
    let shape = g.P.Part.shape in
    let known = g.P.Part.known in
    let store = c.args.self.now in
    let inside = c.self.inside in
    let a = g.B.Blocks.seen c.args.blocks.now in
    let b = g.B.Blocks.seen c.visit_at.new.blocks in
    let laid = c.index_mut.result.now in
    let number = c.args.number.0 in
    let part = part_now shape known laid in
    let found = laid-found shape known inside.parts.items number c.deref.result.now
    c.index_of.result store.parts c.deref.ensures.value
    (ap (λ (s : StoreNow). s.parts) c.self.view_is) c.index_of.ensures c.in-Some.at c.in-Some.is
    laid c.index_mut.ensures.value in
    let same = ap
    (store-of inside.log inside.undo (map changed_by inside.changed.items) inside.space)
    (laid-same shape known inside.parts.items c.in-Some.at laid c.visit_at.new.part
    c.index_mut.ensures.value c.visit_at.ensures.shape c.visit_at.ensures.known)
    ∙ c.self.view_is in
    record {
      found = λ told. on_ok_weaker c.visit_at.result
          (λ is volume state stored. is ∙ ap (λ (found : Option (List ℕ)).
          after_found g.R.RecordVisitor.after c.args.place.now found c.args.visitor.now)
          (record-read store a c.requires.set volume state number part found stored
          c.args.place.now))
          (c.visit_at.ensures.found told);
      one = c.visit_at.ensures.one;
      none = c.visit_at.ensures.none;
      same = same;
      keeps = c.visit_at.ensures.keeps;
      cause = c.visit_at.ensures.cause;
    }

pub returns-in-None-clause-found : goal.returns-in-None-clause-found
returns-in-None-clause-found g c told volume state stored =
    ap (λ (found : Option (List ℕ)).
    after_found g.R.RecordVisitor.after c.args.place.now found c.args.visitor.now)
    (none-read c.args.self.now (g.B.Blocks.seen c.args.blocks.now) volume state c.args.number.0
    (none-laid g.P.Part.shape g.P.Part.known c.self.inside.parts.items c.args.number.0
    c.deref.result.now c.index_of.result c.args.self.now.parts c.deref.ensures.value
    (ap (λ (s : StoreNow). s.parts) c.self.view_is) c.index_of.ensures c.in-None.is) stored
    c.args.place.now)

pub returns-in-None-clause-keeps : goal.returns-in-None-clause-keeps
returns-in-None-clause-keeps g c =
    keeps-none g.B.Blocks.tells (g.B.Blocks.seen c.args.blocks.now)
    (λ told image is. g.met.B.Blocks.images_may c.args.blocks.now image told is)
