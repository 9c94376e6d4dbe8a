use Rattle.std.proofs.Common.{◌≡◌, ◌-◌, ℕ, Option, IfSome, IsOk, OnOk, length, refl, subst, sym, true}
use Rattle.vr_types.proofs.CallerLemmas.{keeps-none}
use Rattle.vr_recent.specs.Buffers.{AreOf, Fronts, HoldsBlock, IsOf, fronted, place_or}
use Rattle.vr_recent.proofs.Buffers.{all_fronted, found_below, found_first}
use Rattle.vr_recent.proofs.keeping.bring.Goals as goal

pub to_front-requires : goal.to_front-requires
to_front-requires g c = found_below c.args.n c.in-Some.place c.args.buffers.now c.requires.some
    c.in-Some.ensures

pub returns-in-Some-clause-kept : goal.returns-in-Some-clause-kept
returns-in-Some-clause-kept g c = subst
    (λ (o : Option ℕ). IfSome o (λ place. (true ≡ true) × (c.args.device.now ≡ c.args.device.now)
    × (c.to_front.new.buffers ≡ fronted place c.args.buffers.now))) c.in-Some.ensures
    (refl, refl, c.to_front.ensures)

pub returns-in-Some-clause-first : goal.returns-in-Some-clause-first
returns-in-Some-clause-first g c = subst
    (λ (o : Option ℕ). Fronts (place_or (length c.args.buffers.now - 1) o) (HoldsBlock c.args.n)
    c.args.buffers.now c.to_front.new.buffers) c.in-Some.ensures
    (found_first c.args.n c.in-Some.place c.args.buffers.now c.to_front.new.buffers
    c.requires.some c.in-Some.ensures c.to_front.ensures)

pub returns-in-Some-clause-of : goal.returns-in-Some-clause-of
returns-in-Some-clause-of g c =
    let tells = g.D.BlockDevice.tells in
    let seen = g.D.BlockDevice.seen c.args.device.now in
    subst (AreOf tells seen) (sym c.to_front.ensures)
    (all_fronted (IsOf tells seen) c.in-Some.place c.args.buffers.now c.requires.of)

pub returns-in-Some-clause-after : goal.returns-in-Some-clause-after
returns-in-Some-clause-after g c = keeps-none g.D.BlockDevice.tells
    (g.D.BlockDevice.seen c.args.device.now)
    (λ told image left. g.met.D.BlockDevice.images_may c.args.device.now image told left)

pub returns-in-None-clause-kept : goal.returns-in-None-clause-kept
returns-in-None-clause-kept g c = subst
    (λ (o : Option ℕ). IfSome o (λ place. IsOk c.read_in.result
    × (c.read_in.new.device ≡ c.args.device.now)
    × (c.read_in.new.buffers ≡ fronted place c.args.buffers.now))) c.in-None.ensures tt

pub returns-in-None-clause-first : goal.returns-in-None-clause-first
returns-in-None-clause-first g c = subst
    (λ (o : Option ℕ). OnOk c.read_in.result (Fronts (place_or (length c.args.buffers.now - 1) o)
    (HoldsBlock c.args.n) c.args.buffers.now c.read_in.new.buffers)) c.in-None.ensures
    c.read_in.ensures.ok
