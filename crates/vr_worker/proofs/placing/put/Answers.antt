use Rattle.std.proofs.Common.{◌≡◌, ◌+◌, ◌<◌, None, Option, Some, arith, get_or, length, set}
use Rattle.std.proofs.Common.{subst, sym}
use Rattle.vr_worker.specs.Latched.{LatchedNow}
use Rattle.vr_worker.specs.Placing.{ArePut, taken}
use Rattle.vr_worker.proofs.Puttings.{at-there, put-one, taken-one}
use Rattle.vr_worker.proofs.placing.put.Goals as goal

pub refute_twin-requires : goal.refute_twin-requires
refute_twin-requires g c =
    let place = c.number-place.result in
    let found = c.index-places-place.result in
    let near : place < length c.args.places.now =
    omega (arith, c.number-place.ensures.within, c.requires.places.many) in
    let at = c.index-places-place.is in
    let value = c.take.ensures.value in
    let some = c.in-Some.is in
    let there : get_or c.args.places.now place found ≡ Some c.in-Some.twin = cc in
    record {
      same = omega (
        arith,
        at-there g.V.Served.number 0 place c.args.places.now found c.in-Some.twin
            c.requires.places.placed near there,
        c.number-place.ensures.number,
      );
    }

pub returns-in-None-clause-places : goal.returns-in-None-clause-places
returns-in-None-clause-places g c =
    let place = c.number-place.result in
    subst (λ (it : Option (LatchedNow g.row.V.Denot)). ArePut g.V.Served.number g.N.Names.count
    (set (set c.args.places.now place it) place (Some c.args.latched))) (sym c.take.ensures.after)
    (put-one g.V.Served.number g.N.Names.count place c.args.places.now c.args.latched
    (sym c.number-place.ensures.number) c.requires.places)

pub returns-in-None-clause-taken : goal.returns-in-None-clause-taken
returns-in-None-clause-taken g c =
    let place = c.number-place.result in
    let found = c.index-places-place.result in
    let near : place < length c.args.places.now =
    omega (arith, c.number-place.ensures.within, c.requires.places.many) in
    let at = c.index-places-place.is in
    let value = c.take.ensures.value in
    let none = c.in-None.is in
    let free : get_or c.args.places.now place found ≡ None = cc in
    subst (λ (it : Option (LatchedNow g.row.V.Denot)).
    taken (set (set c.args.places.now place it) place (Some c.args.latched))
    ≡ taken c.args.places.now + 1) (sym c.take.ensures.after)
    (taken-one g.V.Served.number place c.args.places.now found c.args.latched near free)
