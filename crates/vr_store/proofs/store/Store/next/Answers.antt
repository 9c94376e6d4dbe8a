use Rattle.std.proofs.Common.{Bool, false, ◌≤◌, Option, ap, refl, sym, subst, ◌∙◌, map}
use Rattle.std.proofs.lemmas.Result.{IfOk-weaker}
use Rattle.vr_types.proofs.CallerLemmas.{keeps-none}
use Rattle.vr_space.specs.Part.{NextIs, Shape, place_length}
use Rattle.vr_store.specs.Next.{IsNextAt, NextOf}
use Rattle.vr_store.specs.Store.{PartNow, StoreNow, changed_by, part_now}
use Rattle.vr_store.proofs.PartsAt.{laid-found, laid-same, none-laid, store-of}
use Rattle.vr_store.proofs.Recorded.{at-shape, knows-at, set-at, stand-at}
use Rattle.vr_store.proofs.store.Store.next.Goals as goal

pub next-requires : goal.next-requires
next-requires g c =
    let shape = g.P.Part.shape in
    let known = g.P.Part.known in
    let store = c.args.self.now in
    let a = g.B.Blocks.seen c.args.blocks.now in
    let laid = c.index_mut.result.now in
    let number = c.args.number.0 in
    let part = part_now shape known laid in
    let found = laid-found shape known c.self.inside.parts.items number c.deref.result.now
    c.index_of.result store.parts c.deref.ensures.value
    (ap (λ (s : StoreNow). s.parts) c.self.view_is) c.index_of.ensures c.in-Some.at c.in-Some.is
    laid c.index_mut.ensures.value in
    record {
      on = (set-at store a c.requires.set number part found).on;
      room = at-shape (λ (s : Shape). place_length s ≤ c.args.into.now.room) store.parts number part
          found c.requires.room;
      stands = λ told. stand-at store a c.requires.set number part found
          (g.met.B.Blocks.cur_may c.args.blocks.now told) (c.requires.stands told);
      knows = λ told. knows-at store a c.requires.set number part found (c.requires.stands told);
    }

pub returns-in-Some-clause-next : goal.returns-in-Some-clause-next
returns-in-Some-clause-next g c told =
    let shape = g.P.Part.shape in
    let known = g.P.Part.known in
    let store = c.args.self.now in
    let a = g.B.Blocks.seen c.args.blocks.now in
    let laid = c.index_mut.result.now in
    let number = c.args.number.0 in
    let part = part_now shape known laid in
    let from = c.args.from in
    let found = laid-found shape known c.self.inside.parts.items number c.deref.result.now
    c.index_of.result store.parts c.deref.ensures.value
    (ap (λ (s : StoreNow). s.parts) c.self.view_is) c.index_of.ensures c.in-Some.at c.in-Some.is
    laid c.index_mut.ensures.value in
    IfOk-weaker c.next.result
    (λ (some : Bool). NextIs part.shape a.cur from some c.next.new.into.place)
    (λ (some : Bool). IsNextAt store a.cur number from some c.next.new.into.place)
    (λ some is. subst (λ (one : Option PartNow). NextOf one a.cur from some c.next.new.into.place)
    (sym found) is)
    (c.next.ensures.next told)

pub returns-in-Some-clause-same : goal.returns-in-Some-clause-same
returns-in-Some-clause-same g c =
    let shape = g.P.Part.shape in
    let known = g.P.Part.known in
    let inside = c.self.inside in
    ap (store-of inside.log inside.undo (map changed_by inside.changed.items) inside.space)
    (laid-same shape known inside.parts.items c.in-Some.at c.index_mut.result.now c.next.new.self
    c.index_mut.ensures.value c.next.ensures.shape c.next.ensures.known)
    ∙ c.self.view_is

pub returns-in-None-clause-next : goal.returns-in-None-clause-next
returns-in-None-clause-next g c told =
    subst (λ (one : Option PartNow). NextOf one (g.B.Blocks.seen c.args.blocks.now).cur c.args.from
    false c.args.into.now.place)
    (sym (none-laid g.P.Part.shape g.P.Part.known c.self.inside.parts.items c.args.number.0
    c.deref.result.now c.index_of.result c.args.self.now.parts c.deref.ensures.value
    (ap (λ (s : StoreNow). s.parts) c.self.view_is) c.index_of.ensures c.in-None.is)) refl

pub returns-in-None-clause-keeps : goal.returns-in-None-clause-keeps
returns-in-None-clause-keeps g c =
    keeps-none g.B.Blocks.tells (g.B.Blocks.seen c.args.blocks.now)
    (λ told image is. g.met.B.Blocks.images_may c.args.blocks.now image told is)
