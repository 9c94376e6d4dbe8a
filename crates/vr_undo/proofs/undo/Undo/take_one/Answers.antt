use Rattle.std.proofs.Common.{List, ◌≡◌, subst, ap, ◌∙◌, false, get_or}
use Rattle.std.specs.Prelude.{option_map}
use Rattle.std.specs.List.{list_any}
use Rattle.vr_undo.specs.Found.{IsLastAt}
use Rattle.vr_undo.specs.Records.{befores_of, image_of, images_in, keeps_for}
use Rattle.vr_undo.specs.Searched.{IsLastLive, out_of, record_at}
use Rattle.vr_undo.specs.declared.record.KeptRecord.{KeptRecord}
use Rattle.vr_undo.proofs.Leaving.{befores-out, images-out, last-kept, none-last, none-out}
use Rattle.vr_undo.proofs.Leaving.{put-out-at}
use Rattle.vr_undo.proofs.undo.Undo.take_one.Goals as goal

module _ (c : goal.After-take_kept) where
  is-last : IsLastAt (keeps_for c.args.unit) c.args.self.now
      (get_or c.self.inside.live.items c.in-Some.at 0)
  is-last =
      (subst (λ live. IsLastLive c.args.unit c.args.self.now live c.in-Some.at)
      c.deref-2.ensures.value
      (subst (λ (records : List KeptRecord). IsLastLive c.args.unit records c.deref-2.result.now
      c.in-Some.at) (c.deref.ensures.value ∙ c.self.view_is) c.in-Some.ensures)).last

pub returns-in-Some-clause-value : goal.returns-in-Some-clause-value
returns-in-Some-clause-value c =
    ap (option_map (image_of c.args.unit)) (c.take_kept.ensures.value
    ∙ ap (λ (records : List KeptRecord).
    (record_at records (get_or c.self.inside.live.items c.in-Some.at 0)).kept) c.self.view_is)
    ∙ last-kept c.args.unit c.args.self.now (get_or c.self.inside.live.items c.in-Some.at 0)
    (is-last c)

pub returns-in-Some-clause-out : goal.returns-in-Some-clause-out
returns-in-Some-clause-out c =
    c.take_kept.ensures.records
    ∙ ap (λ (records : List KeptRecord).
    out_of records (get_or c.self.inside.live.items c.in-Some.at 0)) c.self.view_is
    ∙ put-out-at c.args.unit c.args.self.now (get_or c.self.inside.live.items c.in-Some.at 0)
    (is-last c)

pub returns-in-Some-clause-befores : goal.returns-in-Some-clause-befores
returns-in-Some-clause-befores c =
    ap befores_of (returns-in-Some-clause-out c) ∙ befores-out c.args.unit c.args.self.now

pub returns-in-Some-clause-images : goal.returns-in-Some-clause-images
returns-in-Some-clause-images c =
    ap images_in (returns-in-Some-clause-out c) ∙ images-out c.args.unit c.args.self.now

none-kept : (c : goal.In-None) → list_any (keeps_for c.args.unit) c.args.self.now ≡ false
none-kept c =
    subst (λ (records : List KeptRecord). list_any (keeps_for c.args.unit) records ≡ false)
    (c.deref.ensures.value ∙ c.self.view_is) c.in-None.ensures

pub returns-in-None-clause-value : goal.returns-in-None-clause-value
returns-in-None-clause-value c = none-last c.args.unit c.args.self.now (none-kept c)

pub returns-in-None-clause-out : goal.returns-in-None-clause-out
returns-in-None-clause-out c = none-out c.args.unit c.args.self.now (none-kept c)

pub returns-in-None-clause-befores : goal.returns-in-None-clause-befores
returns-in-None-clause-befores c =
    ap befores_of (returns-in-None-clause-out c) ∙ befores-out c.args.unit c.args.self.now
