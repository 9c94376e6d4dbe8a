-- A planned edit, and what it comes to.
use Rattle.std.proofs.Common.{◌≡◌, ◌∙◌, ◌<◌, ℕ, false, List, length, map, Option, Some, None, refl}
use Rattle.std.proofs.Common.{sym, ap, subst, get_or, arith, inl, inr, slice_get}
use Rattle.std.proofs.Common.{Result, Ok, Err, IfOk, IfErr}
use Rattle.std.specs.Prelude.{IfSome, slice_set}
use Rattle.std.proofs.lemmas.List.{length-map}
use Rattle.std.proofs.lemmas.Option.{same_Some, slice_get-get_or, slice_get_within}
use Rattle.vr_types.specs.declared.geometry.Geometry.{Geometry}
use Rattle.vr_edits.specs.Edits.{MayEdit}
use Rattle.vr_edits.specs.declared.edit.CatalogEdit.{CatalogEdit}
use Rattle.vr_trace.specs.Shown.{Shown}
use Rattle.vr_trace.specs.declared.command.Failure.{Failure}
use Rattle.vr_trace.specs.declared.no.RunNo.{RunNo}
use Rattle.vr_ams_define.specs.Answers.{Answering, HasEdited}
use Rattle.vr_ams_define.specs.Asked.{IsEditedBy}
use Rattle.vr_ams_define.specs.EditSteps.{HasAsked, IsCarried, IsPlanned, IsRefusedBy, IsThere}
use Rattle.vr_ams_define.specs.declared.answer.Changed.{Changed}
use Rattle.vr_ams_define.specs.declared.carrying.Planned.{Planned}
use Rattle.vr_ams_define.specs.declared.refusal.DefineNo.{DefineNo}
use Rattle.vr_ams_define.specs.declared.refusal.DefineNo.TheVariants.{Refused, Ended}
use Rattle.vr_ams_define.proofs.OnVolume.{shown-at}

-- ---- its volume, which is asked

pub near-there : {V : Type 0} (shown : V → Shown) (geometries : List Geometry) (volumes : List V)
    (plan : Planned) → IsThere (map shown volumes) geometries plan
    → plan.place < length volumes
near-there shown geometries volumes plan there = omega (
  arith,
  slice_get_within (map shown volumes) plan.place there.volume there.volume_is,
  length-map volumes shown,
)

module _ {V : Type 0} (shown : V → Shown) (geometry : V → Geometry) (volumes : List V)
    (plan : Planned) (spare : V)
    (there : IsThere (map shown volumes) (map geometry volumes) plan) where
  near : plan.place < length volumes
  near = near-there shown (map geometry volumes) volumes plan there

  volume-shows : there.volume ≡ shown (get_or volumes plan.place spare)
  volume-shows = same_Some there.volume (shown (get_or volumes plan.place spare))
      (sym there.volume_is ∙ shown-at shown volumes plan.place spare near)

  pub going-there : (shown (get_or volumes plan.place spare)).stopped ≡ false
  going-there = subst (λ (one : Shown). one.stopped ≡ false) volume-shows there.going

  pub may-there : MayEdit (geometry (get_or volumes plan.place spare))
      (shown (get_or volumes plan.place spare)).catalog plan.edit
  may-there = subst (λ (one : Shown).
      MayEdit (geometry (get_or volumes plan.place spare)) one.catalog plan.edit) volume-shows
      (there.may (geometry (get_or volumes plan.place spare))
      (shown-at geometry volumes plan.place spare near))

  pub asked-there : (answers : Answering V) (line : ℕ) (new : V) (result : Result Changed RunNo)
      → IfOk result (HasEdited shown answers line plan.edit (get_or volumes plan.place spare) new)
      → IfOk result (HasAsked shown answers line plan volumes (slice_set volumes plan.place new))
  asked-there answers line new (Err error) edited = tt
  asked-there answers line new (Ok answer) edited = record {
    before = get_or volumes plan.place spare;
    before_is = slice_get-get_or volumes plan.place spare near;
    after = new;
    edited = edited;
    others = refl;
  }

-- ---- what the command came to

module _ (volumes : List Shown) (geometries : List Geometry) (first : Option Failure)
    (number : Option ℕ) (edit : Option CatalogEdit) where
  -- what is planned is there
  pub planned-there : (plan : Result (Option Planned) DefineNo)
      → IfOk plan (IsPlanned volumes geometries first number edit)
      → IfOk plan (λ (planned : Option Planned). IfSome planned (IsThere volumes geometries))
  planned-there (Ok (Some plan)) planned = planned.there
  planned-there (Ok None) planned = tt
  planned-there (Err end) planned = tt

module _ {V : Type 0} (shown : V → Shown) (geometries : List Geometry) (answers : Answering V)
    (line : ℕ) (first : Option Failure) (number : Option ℕ) (edit : Option CatalogEdit)
    (old new : List V) (why : Option Failure) where
  pub edited-by : (plan : Result (Option Planned) DefineNo)
      → IfOk plan (IsPlanned (map shown old) geometries first number edit)
      → IfErr plan (IsRefusedBy first)
      → IsCarried shown answers line plan old new why
      → IsEditedBy shown answers line first number edit old new why
  edited-by (Ok (Some plan)) planned refused carried = inr (inr (record {
    allowed = planned.allowed;
    place = plan.place;
    place_is = planned.place_is;
    asked = plan.edit;
    asked_is = planned.edit_is;
    before = carried.asked.before;
    before_is = carried.asked.before_is;
    after = carried.asked.after;
    answer = carried.answer;
    edited = carried.asked.edited;
    why_is = carried.why_is;
    others = carried.asked.others;
  }))
  edited-by (Ok None) planned refused carried = inr (inl (record {
    allowed = planned.0;
    none = planned.1;
    why_is = carried.0;
    same = carried.1;
  }))
  edited-by (Err (Refused failure)) planned refused carried = inl (record {
    failure = failure;
    first_is = refused;
    why_is = carried.0;
    same = carried.1;
  })
  edited-by (Err (Ended end)) planned refused carried = absurd carried
