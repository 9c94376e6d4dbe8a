-- Several before-images of the catalog that a unit logs first, in a log that has no record: each is
-- that of what is committed, and an image that is safe by the log with some of them recovers to what
-- was committed.
use Rattle.std.proofs.Common.{◌≡◌, ◌≢◌, ◌⊎◌, inl, inr, ⊎_elim, ℕ, List, [], ◌∷◌, ◌++◌, Option, Some}
use Rattle.std.proofs.Common.{None, refl, sym, ap, subst, ◌∙◌, length, take, arith, zero, suc, true}
use Rattle.std.specs.Prelude.{All}
use Rattle.std.specs.Option.{option_map}
use Rattle.std.proofs.lemmas.List.{map-append, take-map}
use Rattle.std.proofs.lemmas.List.Elements.{All-head, All-nil, All-push, All-tail, All-take}
use Rattle.std.proofs.lemmas.List.Elements.{All-weaker}
use Rattle.vr_types.specs.Content.{Content, Standing, Withdrawn, item_at}
use Rattle.vr_types.specs.Image.{Image}
use Rattle.vr_types.specs.Seen.{Seen}
use Rattle.vr_types.specs.declared.geometry.Geometry.{Geometry}
use Rattle.vr_types.specs.declared.unit.Unit.{Unit as UnitOfRecovery}
use Rattle.vr_space.specs.Owners.{Owners}
use Rattle.vr_space.specs.Part.{IsPlaceOf, Shape}
use Rattle.vr_space.specs.Room.{Lengths}
use Rattle.vr_log.specs.Content.{Content as LogContent}
use Rattle.vr_log.specs.Live.{is_in, live_in}
use Rattle.vr_log.specs.LogNow.{IsLogOf, LogNow, with_record, with_records}
use Rattle.vr_log.specs.declared.record.LogRecord.{LogRecord}
use Rattle.vr_history.specs.State.{BeforeImage, State}
use Rattle.vr_volume.specs.Committed.{committed_by}
use Rattle.vr_volume.specs.Crashes.{RecoversTo, committed_with, kept_but}
use Rattle.vr_volume.specs.EntryChanges.{AreApart, CanChangeEntries, MissAll, logged_for}
use Rattle.vr_volume.specs.Laid.{catalog_shape, shape_by}
use Rattle.vr_volume.specs.Laying.{AreLogged, IsLaidSo}
use Rattle.vr_volume.specs.Logged.{AreFirstBefores, HasNoneOf, IsFirstBefore}
use Rattle.vr_volume.specs.PutBack.{images_of, lengths_kept, oldest, put_back, standing}
use Rattle.vr_volume.specs.Rests.{IsVolumeAtRest}
use Rattle.vr_volume.specs.Safe.{IsImageSafe, IsSafeImage}
use Rattle.vr_volume.specs.declared.setting.EntryChange.{EntryChange}
use Rattle.vr_volume.proofs.AllSet.{all-both}
use Rattle.vr_volume.proofs.Begun.{catalog_no}
use Rattle.vr_volume.proofs.Committing.{shape-same}
use Rattle.vr_volume.proofs.Crashing.{recovers-to}
use Rattle.vr_volume.proofs.EntriesLogged.{here, images, images-logged, live-logged, logs}
use Rattle.vr_volume.proofs.EntriesLogged.{oldest-misses}
use Rattle.vr_volume.proofs.EntryIdle.{committed-idle, none-before}
use Rattle.vr_volume.proofs.Recovering.{image_recovers}
use Rattle.vr_volume.proofs.Rested.{none-images}

none-withdrawn : (bytes : Option (List ℕ)) (n : ℕ)
    → option_map Standing bytes ≡ Some (Withdrawn n) → ⊥
none-withdrawn None n is = cc
none-withdrawn (Some bytes) n is = cc

no-logs : (unit : UnitOfRecovery) (changes : List EntryChange) → changes ≢ []
    → logs unit changes ≡ [] → ⊥
no-logs unit [] some none = some refl
no-logs unit (change ∷ changes) some none = absurd (omega (arith, ap length none))

module _ {geometry : Geometry} {number : ℕ} {owners : Owners} {log : LogNow}
    {given : List BeforeImage} {old : State} {a : Seen} {unit : UnitOfRecovery}
    {changes : List EntryChange} {gone : Option ℕ}
    (rest : IsVolumeAtRest geometry number owners log given old a)
    (can : CanChangeEntries geometry log unit changes gone old) where
  abbrev Stands : EntryChange → Type 0
  Stands change = item_at (old.contents 0) change.place ≡ option_map Standing change.before

  abbrev AtPlace : EntryChange → Type 0
  AtPlace change = IsPlaceOf (catalog_shape geometry) change.place

  -- ---- each is the first of its place

  first-of : (done : List EntryChange) (change : EntryChange) (now : LogNow) → now.forced ≡ 0
      → now.records ≡ logs unit done → MissAll change.place done → AtPlace change → Stands change
      → IsFirstBefore geometry now (committed_by old) unit catalog_no change.place change.before
  first-of done change now none is misses at stands = record {
    forced = omega (arith, none);
    live = by done is;
    first = ap (λ (rs : List LogRecord). oldest (images_of rs) 0 change.place) is
        ∙ ap (λ (them : List BeforeImage). oldest them 0 change.place) (images-logged unit done)
        ∙ oldest-misses unit 0 change.place done (λ zero. misses);
    item = sym (ap (λ (contents : ℕ → Content). item_at (contents 0) change.place)
        (committed-idle rest can.idle now.records) ∙ stands);
    same = committed-idle rest can.idle (now.records ++ logged_for unit change ∷ [])
        ∙ sym (committed-idle rest can.idle now.records);
    shape = catalog_shape geometry;
    laid = refl;
    at = at;
  }
    where
      by : (done : List EntryChange) → now.records ≡ logs unit done
          → (is_in unit (live_in now.records) ≡ true) ⊎ HasNoneOf unit now.records
      by [] is = inr (subst (HasNoneOf unit) (sym is) tt)
      by (first ∷ more) is = inl (ap (λ (rs : List LogRecord). is_in unit (live_in rs)) is
          ∙ ap (is_in unit) (live-logged unit first more) ∙ here unit)

  firsts-of : (done more : List EntryChange) (now : LogNow) → now.forced ≡ 0
      → now.records ≡ logs unit done
      → All (λ (change : EntryChange). MissAll change.place done) more → AreApart more
      → All AtPlace more → All Stands more
      → AreFirstBefores geometry now (committed_by old) (logs unit more)
  firsts-of done [] now none is misses apart at stands = tt
  firsts-of done (change ∷ more) now none is misses apart at stands = (
    first-of done change now none is
        (All-head (λ (other : EntryChange). MissAll other.place done) change more misses)
        (All-head AtPlace change more at) (All-head Stands change more stands),
    firsts-of (done ++ change ∷ []) more (with_record now (logged_for unit change)) none
        (ap (λ (rs : List LogRecord). rs ++ logged_for unit change ∷ []) is
        ∙ sym (map-append (logged_for unit) done (change ∷ [])))
        (All-weaker (λ (other : EntryChange). MissAll other.place done
        × (other.place ≢ change.place))
        (λ (other : EntryChange). MissAll other.place (done ++ change ∷ []))
        (λ other both. All-push (λ (one : EntryChange). other.place ≢ one.place) done change
        both.0 both.1) more
        (all-both (λ (other : EntryChange). MissAll other.place done)
        (λ (other : EntryChange). other.place ≢ change.place) more
        (All-tail (λ (other : EntryChange). MissAll other.place done) change more misses)
        apart.0))
        apart.1 (All-tail AtPlace change more at) (All-tail Stands change more stands),
  )

  none-missed : (cs : List EntryChange) → All (λ (change : EntryChange). MissAll change.place []) cs
  none-missed [] = All-nil (λ (change : EntryChange). MissAll change.place [])
  none-missed (change ∷ cs) = Rattle.std.proofs.lemmas.List.Elements.All-cons
      (λ (other : EntryChange). MissAll other.place []) change cs
      (All-nil (λ (other : EntryChange). change.place ≢ other.place)) (none-missed cs)

  pub first-entries : AreFirstBefores geometry log (committed_by old) (logs unit changes)
  first-entries = firsts-of [] changes log (rest.forced ∙ ap length can.idle) can.idle
      (none-missed changes) can.apart can.places can.stands

  -- ---- an image that has some of them

  -- what was withdrawn somewhere has no before-image there
  misses-withdrawn : (part : ℕ) (at : List ℕ) (n : ℕ)
      → item_at (old.contents part) at ≡ Some (Withdrawn n) → part ≡ 0 → MissAll at changes
  misses-withdrawn part at n item nought = All-weaker Stands
      (λ (change : EntryChange). at ≢ change.place)
      (λ change stands same. none-withdrawn change.before n (sym stands
      ∙ ap (item_at (old.contents 0)) (sym same)
      ∙ ap (λ (p : ℕ). item_at (old.contents p) at) (sym nought) ∙ item)) changes can.stands

  free-withdrawn : (content : LogContent)
      → IsLogOf (with_records log (logs unit changes)) content → (part : ℕ) (at : List ℕ) (n : ℕ)
      → item_at (old.contents part) at ≡ Some (Withdrawn n)
      → oldest (images_of content.records) part at ≡ None
  free-withdrawn content (inl prefix) part at n item =
      let are : content.records ≡ logs unit (take prefix.count changes) =
      ap (λ (c : LogContent). c.records) prefix.is
      ∙ ap (λ (rs : List LogRecord). take prefix.count (rs ++ logs unit changes)) can.idle
      ∙ take-map (logged_for unit) prefix.count changes in
      ap (λ (rs : List LogRecord). oldest (images_of rs) part at) are
      ∙ ap (λ (them : List BeforeImage). oldest them part at)
      (images-logged unit (take prefix.count changes))
      ∙ oldest-misses unit part at (take prefix.count changes)
      (λ zero. All-take (λ (change : EntryChange). at ≢ change.place) prefix.count changes
      (misses-withdrawn part at n item zero))
  free-withdrawn content (inr older) part at n item = ⊎_elim
      (λ own. ap (λ (rs : List LogRecord). oldest (images_of rs) part at)
      (ap (λ (c : LogContent). c.records) own
      ∙ ap (λ (rs : List LogRecord). take log.forced rs) can.idle ∙ none-taken log.forced))
      (λ begun. ap (λ (them : List BeforeImage). oldest them part at)
      (none-images content.records begun.1))
      (rest.stands.behind content older)
    where
      none-taken : (n : ℕ) → (let xs : List LogRecord = [] in take n xs ≡ xs)
      none-taken zero = refl
      none-taken (suc n) = refl

  records-old : (part : ℕ) → standing (old.contents part) ≡ committed_with [] old part
  records-old part = sym (ap (λ (befores : List BeforeImage).
      put_back part (kept_but [] befores) (standing (old.contents part)))
      (none-before rest can.idle))

  -- It recovers to what was committed.
  pub entries-recover : (image : Image)
      → IsSafeImage geometry number owners (with_records log (logs unit changes))
      (committed_by old) image → RecoversTo geometry number old [] image
  entries-recover image has =
      recovers-to geometry number image has.0 old.contents old []
      (image_recovers geometry number owners image has.0 old.contents
      (subst (λ (contents : ℕ → Content). IsImageSafe geometry number owners has.0 contents image)
      (committed-idle rest can.idle has.0.records) has.2))
      records-old
      (λ part at n unlogged item. (free-withdrawn has.0 has.1 part at n item, item))

  -- ---- once they are all forced

  module _ {more : LogNow} (logged : AreLogged log (logs unit changes) more) (some : changes ≢ [])
    where
      pub more-are : more.records ≡ logs unit changes
      more-are = logged.records_are
          ∙ ap (λ (rs : List LogRecord). rs ++ logs unit changes) can.idle

      -- each image has them all
      pub all-of : (content : LogContent) → IsLogOf more content → content.records ≡ more.records
      all-of content is = ⊎_elim (λ whole. whole)
          (λ none. absurd (no-logs unit changes some (sym more-are ∙ none))) (logged.all content is)

      pub images-more : images_of more.records ≡ images unit changes
      images-more = ap images_of more-are ∙ images-logged unit changes

      -- and the catalog is laid by it, for which these are kept
      pub laid-entries : (catalog : Shape) → shape_by geometry (old.contents 0) 0 ≡ Some catalog
          → (kept : Lengths) → kept ≡ lengths_kept (images unit changes) 0
          → IsLaidSo geometry more (committed_by old) 0 catalog kept
      laid-entries catalog is kept room content has = record {
        laid = shape-same geometry old rest.laid content.records 0 ∙ is;
        kept_is = room ∙ sym (ap (λ (rs : List LogRecord). lengths_kept (images_of rs) 0)
            (all-of content has)
            ∙ ap (λ (them : List BeforeImage). lengths_kept them 0) images-more);
      }
