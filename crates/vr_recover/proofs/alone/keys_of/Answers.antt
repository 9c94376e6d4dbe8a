use Rattle.std.proofs.Common.{◌∙◌, ◌++◌, ◌∷◌, [], List, ap, map, sym, take}
use Rattle.std.specs.List.{filter_map}
use Rattle.std.proofs.lemmas.List.{map-append, take_all}
use Rattle.vr_log.specs.Live.{live_in}
use Rattle.vr_volume.specs.PutBack.{image_in}
use Rattle.vr_recover.specs.Keys.{key_of}
use Rattle.vr_recover.proofs.Keeping.{images-next}
use Rattle.vr_recover.proofs.alone.keys_of.Goals as goal

pub loop-rec-preserved : goal.loop-rec-preserved
loop-rec-preserved c =
    let f = image_in (live_in c.args.log.now.records) in
    let records = c.args.records.now in
    let so_far = filter_map f (take c.loop-rec.rec-index records) in
    let here = filter_map f (c.rec-item.result ∷ []) in
    c.in_ok-add_key.ensures
    ∙ ap (λ (keys : List (List _)). keys ++ map key_of here) c.loop-rec.invariant
    ∙ sym (map-append key_of so_far here)
    ∙ ap (map key_of) (images-next f records c.loop-rec.rec-index c.rec-item.result
    c.loop-rec-test.true (sym c.rec-item.is))

pub returns : goal.returns
returns c =
    let f = image_in (live_in c.args.log.now.records) in
    c.loop-rec.invariant
    ∙ ap (λ rs. map key_of (filter_map f rs))
    (take_all c.loop-rec.rec-index c.args.records.now c.loop-rec-test.false ∙ c.requires.records)
