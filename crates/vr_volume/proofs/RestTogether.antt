-- A volume at rest of which several places are logged together: it is at rest by the state in which
-- they are logged and what stands at each is kept, and so is each part.
use Rattle.std.proofs.Common.{◌≡◌, ◌≢◌, ⊎_elim, ℕ, List, [], ◌∷◌, ◌++◌, None, refl, sym, ap}
use Rattle.std.proofs.Common.{subst, ◌∙◌, map, length, arith}
use Rattle.std.proofs.lemmas.List.{append-nil, append_assoc}
use Rattle.std.proofs.lemmas.List.Folds.{find-append}
use Rattle.vr_types.specs.Content.{Content, item_at}
use Rattle.vr_types.specs.Image.{Image}
use Rattle.vr_types.specs.Regions.{Touches}
use Rattle.vr_types.specs.Seen.{Left, Seen}
use Rattle.vr_types.specs.declared.geometry.Geometry.{Geometry}
use Rattle.vr_space.specs.Known.{Known}
use Rattle.vr_space.specs.Owners.{Owners}
use Rattle.vr_space.specs.Part.{HasKeptRoom, IsSound, Shape, part_no}
use Rattle.vr_space.proofs.CallerLemmas.{StaysPart, knows-stays, on-still, rest-sound, rest-stays}
use Rattle.vr_space.proofs.CallerLemmas.{same-stays}
use Rattle.vr_log.specs.Content.{Content as LogContent}
use Rattle.vr_log.specs.LogNow.{IsLogOf, LogNow}
use Rattle.vr_log.specs.Standing.{InLog, LogStands}
use Rattle.vr_log.specs.declared.record.LogRecord.{LogRecord}
use Rattle.vr_history.specs.State.{BeforeImage, State}
use Rattle.vr_volume.specs.Committed.{committed_by}
use Rattle.vr_volume.specs.Laid.{shape_by}
use Rattle.vr_volume.specs.Laying.{AreLogged}
use Rattle.vr_volume.specs.Logged.{AreFirstBefores}
use Rattle.vr_volume.specs.PutBack.{images_of, is_image_of, lengths_kept, oldest}
use Rattle.vr_volume.specs.Rests.{IsPartAtRest, IsVolumeAtRest}
use Rattle.vr_volume.specs.Safe.{IsSafe, IsSafeBy}
use Rattle.vr_volume.specs.Steps.{AreKept, Changing, MayBeLogged, image_by, logged_by}
use Rattle.vr_volume.proofs.Befores.{option-first}
use Rattle.vr_volume.proofs.Calls.{stays-part}
use Rattle.vr_volume.proofs.Committing.{before-same, shape-same}
use Rattle.vr_volume.proofs.Defined.{by-whole}
use Rattle.vr_volume.proofs.KeptTogether.{KeepsAll, firsts-kept, keeps-all}
use Rattle.vr_volume.proofs.Rested.{stays-holds}
use Rattle.vr_volume.proofs.Resting.{AreAlikeIn, alike-same, safe-alike}

no-records : (changes : List Changing) (records : List LogRecord) → changes ≢ []
    → records ++ map logged_by changes ≡ [] → ⊥
no-records [] records some none = some refl
no-records (change ∷ changes) [] some none = absurd (omega (arith, ap length none))
no-records (change ∷ changes) (first ∷ records) some none = absurd (omega (arith, ap length none))

-- what is committed is the same with several before-images more
before-all : (state : State) (changes : List Changing) (records : List LogRecord)
    → committed_by state (records ++ map logged_by changes) ≡ committed_by state records
before-all state [] records = ap (committed_by state)
    (append-nil records)
before-all state (change ∷ changes) records =
    ap (committed_by state) (sym (append_assoc records
    (logged_by change ∷ []) (map logged_by changes)))
    ∙ before-all state changes (records ++ logged_by change ∷ [])
    ∙ before-same state records change.unit change.part change.place change.old

-- a place that more images miss is missed by the first of them
missed-first : (images more : List BeforeImage) (part : ℕ) (place : List ℕ)
    → oldest (images ++ more) part place ≡ None → oldest images part place ≡ None
missed-first images more part place none = option-first (oldest images part place)
    (oldest more part place)
    (sym (find-append (is_image_of part place) images more) ∙ none)

module _ {geometry : Geometry} {number : ℕ} {owners : Owners} {log : LogNow} {old : State}
    {images : List BeforeImage} {a : Seen} {changes : List Changing}
    (rest : IsVolumeAtRest geometry number owners log images old a)
    (may : MayBeLogged geometry log old changes) where
  -- Each is the first before-image of its place.
  pub firsts-may : AreFirstBefores geometry log (committed_by old) (map logged_by changes)
  firsts-may = firsts-kept geometry old rest.laid changes log old (omega (arith, rest.forced))
      rest.laid rest.logged may refl (λ part place. refl)

  module _ {new : State} (kept : AreKept log changes old new) (some : changes ≢ []) {more : LogNow}
      {records : List LogRecord} (are : records ≡ map logged_by changes)
      (logged : AreLogged log records more) where
    grown : more.records ≡ log.records ++ map logged_by changes
    grown = logged.records_are ∙ ap (λ (rs : List LogRecord). log.records ++ rs) are

    keeps : KeepsAll geometry log more changes old new
    keeps = keeps-all geometry changes log more old new rest.laid rest.logged may kept grown

    images-kept : images ++ map image_by changes ≡ images_of more.records
    images-kept = ap (λ (them : List BeforeImage). them ++ map image_by changes) rest.kept
        ∙ sym keeps.images

    whole : (content : LogContent) → IsLogOf more content → content.records ≡ more.records
    whole content is = ⊎_elim (λ all. all)
        (λ none. absurd (no-records changes log.records some (sym grown ∙ none)))
        (logged.all content is)

    module _ {d : Seen} (safe : IsSafe geometry number owners more (committed_by old) d)
        (stands : LogStands more d) where
      pub safe-kept : IsSafe geometry number owners more (committed_by new) d
      safe-kept = safe-alike geometry number owners more (committed_by old) (committed_by new) d safe
          (λ content is. subst (λ (rs : List LogRecord).
          AreAlikeIn geometry old new rs) (sym (whole content is))
          (alike-same geometry old new rest.laid keeps.laid
          (ap (λ (contents : ℕ → Content). contents 0) kept.contents) more.records
          (λ part place. keeps.items part place
          ∙ ap (λ (contents : ℕ → Content). item_at (contents part) place)
          (sym (ap (committed_by old) grown ∙ before-all old changes log.records)))))

      -- The volume is at rest then,
      pub volume-kept : IsVolumeAtRest geometry number owners more (images ++ map image_by changes)
          new d
      volume-kept = record {
        safe = safe-kept;
        stands = stands;
        sound = logged.sound;
        forced = logged.forced;
        laid = keeps.laid;
        logged = keeps.logged;
        kept = images-kept;
      }

      -- and so is each part, in which nothing was put.
      pub part-kept : (shape : Shape) (known : Known) (Q : Image → Type 0) → Left a a.cur
          → Touches (InLog geometry) Q a d
          → IsPartAtRest geometry owners images old shape known a
          → IsPartAtRest geometry owners (images ++ map image_by changes) new shape known d
      part-kept shape known Q left call part = record {
        laid = ap (λ (contents : ℕ → Content). shape_by geometry (contents 0) (part_no shape).0)
            kept.contents ∙ part.laid;
        on = on-still shape a d part.on stays.count stays.size;
        rests = rest-stays a d shape owners stays part.rests;
        claimed = part.claimed;
        room = subst (λ (them : List BeforeImage).
            HasKeptRoom shape (lengths_kept them (part_no shape).0) d) (sym images-kept)
            (by-all.parts (part_no shape).0 shape
            (shape-same geometry old rest.laid more.records (part_no shape).0 ∙ part.laid)).room;
        knows = knows-stays a d shape owners known stays sound left part.claimed part.knows;
        reads = λ place. same-stays a d shape owners stays sound left place ∙ part.reads place
            ∙ sym (same place);
        firm = λ place found none held.
            part.firm place found
            (missed-first images (map image_by changes) (part_no shape).0 place none)
            (stays-holds shape owners a d stays sound place found held) ∙ sym (same place);
      }
        where
          stays : StaysPart shape owners a d
          stays = stays-part geometry shape owners Q a d rest.safe.past call

          sound : IsSound shape owners a
          sound = rest-sound shape owners a part.rests

          by-all : IsSafeBy geometry owners more.records (committed_by old more.records) d
          by-all = by-whole geometry number owners more (committed_by old) d logged.forced safe

          same : (place : List ℕ) → item_at (new.contents (part_no shape).0) place
              ≡ item_at (old.contents (part_no shape).0) place
          same place = ap (λ (contents : ℕ → Content). item_at (contents (part_no shape).0) place)
              kept.contents
