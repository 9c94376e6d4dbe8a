use Rattle.std.proofs.Common.{◌≡◌, ◌∷◌, ◌++◌, ◌+◌, ℕ, [], List, Option, ap, sym, ◌∙◌, take}
use Rattle.std.proofs.lemmas.List.{take_more}
use Rattle.vr_undo.specs.Records.{before_of, image_of, images_in, with_image}
use Rattle.vr_volume.specs.declared.setting.EntryChange.{EntryChange}
use Rattle.vr_store.proofs.ManyChanges.{kept-more}
use Rattle.vr_store.proofs.entry_changes.keep_all.Goals as goal

pub loop-change-preserved : goal.loop-change-preserved
loop-change-preserved c =
    let changes = c.args.changes.now in
    let i = c.loop-change.change-index in
    let change = c.change-item.result in
    let more : take (i + 1) changes ≡ take i changes ++ change ∷ [] =
    take_more changes i change c.loop-change-test.true
    ∙ ap (λ (one : EntryChange). take i changes ++ one ∷ []) (sym c.change-item.is) in
    c.in_ok-keep.ensures.images
    ∙ ap (λ (old : Option (List ℕ)). with_image c.args.unit
    (image_of c.args.unit (before_of (record { 0 = 0 }) change.place old))
    (images_in c.loop-change.kept)) c.standing.ensures
    ∙ kept-more c.args.unit changes i change (images_in c.loop-change.kept) c.requires.apart more
    c.loop-change.invariant
