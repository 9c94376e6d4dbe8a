use Rattle.std.proofs.Common.{◌≡◌, ◌∙◌, ◌<◌, ℕ, List, All, ap, arith, length, subst, sym}
use Rattle.std.specs.Prelude.{IfSome, IsSomeAnd, Option}
use Rattle.std.proofs.lemmas.List.{length_push}
use Rattle.vr_worker.specs.Latched.{IsSince, LatchedNow}
use Rattle.vr_worker.specs.Placing.{AreWhole, IsOfPlace}
use Rattle.vr_worker.specs.Ready.{AreLater, AreTold, IsToldAt}
use Rattle.vr_worker.proofs.Told.{all-same-then, told-more, turns-at}
use Rattle.vr_worker.proofs.Volumes.{later-more}
use Rattle.vr_worker.proofs.running.take_all.Goals as goal

pub take_out-volume-requires-clause-turns : goal.take_out-volume-requires-clause-turns
take_out-volume-requires-clause-turns g c =
    let place : c.len-place.result < g.N.Names.count = omega (
      arith,
      c.len-place.ensures,
      c.loop-one.back.ok.0,
      c.loop-one.invariant.count,
      c.requires.many,
      ap (λ (them : List (Option (LatchedNow g.row.V.Denot))). length them)
          c.in-Some.ensures.steps.0,
    ) in
    turns-at g.N.Names.ledgers g.N.Names.count c.len-place.result place c.loop-one.invariant.seats
    c.requires.turns

pub take_out-volume-requires-clause-place : goal.take_out-volume-requires-clause-place
take_out-volume-requires-clause-place g c =
    let V = g.V.Served in
    let back = c.loop-one.back.items in
    let own = (subst (AreWhole V.number (length back)) c.in-Some.ensures.steps.0
    c.loop-one.invariant.whole).0 in
    subst (λ (one : Option (LatchedNow g.row.V.Denot)). IsSomeAnd one
    (IsOfPlace V.number (length back))) c.in-Some-one.is own
    ∙ sym (c.len-place.ensures ∙ c.loop-one.back.ok.0)

pub loop-one-preserved : goal.loop-one-preserved
loop-one-preserved g c =
    let V = g.V.Served in
    let back = c.loop-one.back.items in
    let volume = c.take_out-volume.result in
    let seats = c.take_out-volume.new.seats in
    let pushed = c.push_reserved.ensures.items in
    let have = c.loop-one.invariant in
    let place : c.len-place.result ≡ length back = c.len-place.ensures ∙ c.loop-one.back.ok.0 in
    record {
      count = omega (
        arith,
        have.count,
        ap (λ (them : List g.row.V.Denot). length them) pushed,
        length_push back volume,
        ap (λ (them : List (Option (LatchedNow g.row.V.Denot))). length them)
            c.in-Some.ensures.steps.0,
      );
      room = omega (arith, c.push_reserved.ensures.capacity, have.room);
      whole = subst (λ (n : ℕ). AreWhole V.number n c.next.new.self.rest.items)
          (omega (
            arith,
            length_push back volume,
            ap (λ (them : List g.row.V.Denot). length them) pushed,
          ))
          (subst (AreWhole V.number (length back)) c.in-Some.ensures.steps.0 have.whole).1;
      later = subst (AreLater V.number V.entries V.follows g.N.Names.start g.N.Names.decks)
          (sym pushed) (later-more V.number V.entries V.follows g.N.Names.start g.N.Names.decks back
          volume have.later (c.take_out-volume.ensures.place ∙ place)
          (subst (λ (n : ℕ). IfSome (g.N.Names.start n) (λ (first : g.row.V.Denot).
          IsSince V.entries V.follows g.N.Names.decks first volume)) place
          c.take_out-volume.ensures.since));
      told = subst (λ (them : List g.row.V.Denot). All (AreTold V.entries them) seats) (sym pushed)
          (told-more V.entries back volume c.take_out-volume.ensures.seats have.told
          (subst (λ (n : ℕ). All (IsToldAt n (V.entries volume)) seats) place
          c.take_out-volume.ensures.told));
      seats = all-same-then have.seats c.take_out-volume.ensures.seats;
    }
