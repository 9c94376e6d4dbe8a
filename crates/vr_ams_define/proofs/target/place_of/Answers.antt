use Rattle.std.proofs.Common.{◌∙◌, ap, map, sym, false, [], arith}
use Rattle.std.proofs.lemmas.List.{get_or-map, length-map}
use Rattle.vr_trace.specs.Shown.{Shown, has_name}
use Rattle.vr_ams_define.proofs.Targets.{place-here, place-none, without-next, without-none}
use Rattle.vr_ams_define.proofs.target.place_of.Goals as goal

pub loop-place-init : goal.loop-place-init
loop-place-init g c = without-none (map g.V.ShownVolume.shown c.args.volumes.now) c.args.name.now

pub loop-place-preserved : goal.loop-place-preserved
loop-place-preserved g c =
    let shown = g.V.ShownVolume.shown in
    let volumes = c.args.volumes.now in
    let name = c.args.name.now in
    let one = c.index-volumes-place.result in
    without-next (map shown volumes) name c.loop-place.place c.loop-place.invariant
    (λ spare. ap (λ (volume : Shown). has_name volume name)
    (get_or-map shown volumes c.loop-place.place one spare c.loop-place-test.true
    ∙ ap shown (sym c.index-volumes-place.is))
    ∙ sym c.has_name.ensures ∙ c.if-has_name.false)

pub returns-then-has_name-clause-place : goal.returns-then-has_name-clause-place
returns-then-has_name-clause-place g c =
    let shown = g.V.ShownVolume.shown in
    let volumes = c.args.volumes.now in
    let name = c.args.name.now in
    let one = c.index-volumes-place.result in
    sym (place-here (map shown volumes) name c.loop-place.place c.loop-place.invariant (shown one)
    (omega (arith, length-map volumes shown, c.loop-place-test.true))
    (ap (λ (volume : Shown). has_name volume name)
    (get_or-map shown volumes c.loop-place.place one (shown one) c.loop-place-test.true
    ∙ ap shown (sym c.index-volumes-place.is))
    ∙ sym c.has_name.ensures ∙ c.if-has_name.true))

pub returns-clause-place : goal.returns-clause-place
returns-clause-place g c =
    let shown = g.V.ShownVolume.shown in
    let volumes = c.args.volumes.now in
    sym (place-none (map shown volumes) c.args.name.now c.loop-place.place c.loop-place.invariant
    (record { catalog = []; stopped = false })
    (omega (arith, length-map volumes shown, c.loop-place-test.false)))
