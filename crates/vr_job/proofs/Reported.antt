-- What the steps of IDCAMS report is what the histories of the volumes say, and so are the
-- catalogs by which decks are bound.
use Rattle.std.proofs.Common.{◌≡◌, ◌∙◌, ◌<◌, ⊎_elim, ℕ, zero, suc, Bool, List, [], ◌∷◌, ◌++◌, Option}
use Rattle.std.proofs.Common.{Some, None, arith, refl, sym, ap, subst, drop, get_or, length, map, take}
use Rattle.std.specs.Prelude.{slice_get}
use Rattle.std.specs.Option.{option_map}
use Rattle.std.proofs.lemmas.List.{length-map}
use Rattle.std.proofs.lemmas.Option.{get_or_from_slice_get, slice_get-get_or, slice_get-map}
use Rattle.std.proofs.lemmas.Option.{slice_get_within}
use Rattle.vr_types.specs.Faults.{Faults}
use Rattle.vr_types.specs.Seen.{Seen}
use Rattle.vr_catalog.specs.declared.entry.CatEntry.{CatEntry}
use Rattle.vr_event.specs.Volume.{VolumeNow}
use Rattle.vr_history.specs.State.{State}
use Rattle.vr_history.specs.declared.entry.Entry.{Entry}
use Rattle.vr_job_text.specs.declared.job.JobStep.{JobStep}
use Rattle.vr_job_text.specs.declared.job.JobStep.TheVariants.{Decks, Utilities}
use Rattle.vr_job_text.specs.declared.job.UtilityStep.{UtilityStep}
use Rattle.vr_trace.specs.declared.report.StepReport.{StepReport}
use Rattle.vr_ams_define.specs.Answers.{Answering}
use Rattle.vr_worker.specs.Reports.{AreBetween, IsAddedBy, IsBoundAt, IsReportAt}
use Rattle.vr_worker.specs.Reports.{AreReportedFrom as AreReportedBy}
use Rattle.vr_worker.specs.Steps.{IsSinceSteps}
use Rattle.vr_job.specs.Answering.{IsAnswered}
use Rattle.vr_job.specs.Catalogs.{catalog_by}
use Rattle.vr_job.specs.Going.{Follows, ShowsStop, follows-catalog}
use Rattle.vr_job.specs.Reported.{AnswersBy, AreBound, AreReportedFrom, AreVolumesAt, IsCatalogAt}
use Rattle.vr_job.specs.Reported.{IsCutAt, IsReportOf, IsVolumeAt, VolumeAt, VolumeFrom}
use Rattle.vr_job.specs.Serving.{shown_of}
use Rattle.vr_job.specs.Shelf.{catalog_of, entries_on, shape_of}
use Rattle.vr_job.proofs.AnsweredBy.{IsHeldFrom, answers-by, at_of}
use Rattle.vr_job.proofs.EachSeen.{EachHeld, each_seen, held-each, past, seen-count, seen-there}
use Rattle.vr_job.proofs.Reports.{report-seen}

-- an element that a list was mapped to is that of one of the list
mapped-at : {X Y : Type 0} (f : X → Y) (xs : List X) (place : ℕ) (y : Y)
    → slice_get (map f xs) place ≡ Some y → (x : X) × (slice_get xs place ≡ Some x) × (y ≡ f x)
mapped-at f xs place y is = by (slice_get xs place) refl
  where
    some-is : {X : Type 0} {a b : X} → Some a ≡ Some b → a ≡ b
    some-is same = cc

    none-some : {X : Type 0} {a : X} → ◌≡◌ {A = Option X} None (Some a) → ⊥
    none-some same = cc

    by : (found : Option _) → slice_get xs place ≡ found
        → (x : _) × (slice_get xs place ≡ Some x) × (y ≡ f x)
    by None at = absurd (none-some (sym (ap (option_map f) at) ∙ sym (slice_get-map f xs place) ∙ is))
    by (Some x) at = (
      x,
      at,
      some-is (sym is ∙ slice_get-map f xs place ∙ ap (option_map f) at),
    )

-- ---- what reports speak of

module _ {D : Type 0} where
  -- a volume that was opened in this state, as it was then and as it came out of the steps
  abbrev pub from_of : State → VolumeNow D → VolumeNow D → VolumeFrom
  from_of opening first now = record {
    geometry = shape_of first;
    opening = opening;
    catalog = catalog_of first;
    entries = entries_on now;
  }

  abbrev pub froms_of : (ℕ → State) → List (VolumeNow D) → List (VolumeNow D) → List VolumeFrom
  froms_of openings [] ran = []
  froms_of openings (first ∷ volumes) [] = []
  froms_of openings (first ∷ volumes) (now ∷ ran) =
      from_of (openings zero) first now ∷ froms_of (past openings) volumes ran

  froms-count : (openings : ℕ → State) (volumes ran : List (VolumeNow D))
      → length volumes ≡ length ran → length (froms_of openings volumes ran) ≡ length ran
  froms-count openings [] ran same = same
  froms-count openings (first ∷ volumes) [] same = absurd (omega (arith, same))
  froms-count openings (first ∷ volumes) (now ∷ ran) same =
      ap suc (froms-count (past openings) volumes ran (omega (arith, same)))

  -- the one of a place is of the volumes there
  record IsFromAt (openings : ℕ → State) (volumes ran : List (VolumeNow D)) (place : ℕ)
      (from : VolumeFrom) : Type 0 where
    first : VolumeNow D
    first_is : slice_get volumes place ≡ Some first
    now : VolumeNow D
    now_is : slice_get ran place ≡ Some now
    is : from ≡ from_of (openings place) first now

  froms-there : (openings : ℕ → State) (volumes ran : List (VolumeNow D)) (place : ℕ)
      (from : VolumeFrom) → slice_get (froms_of openings volumes ran) place ≡ Some from
      → IsFromAt openings volumes ran place from
  froms-there openings [] ran place from there = absurd cc
  froms-there openings (first ∷ volumes) [] place from there = absurd cc
  froms-there openings (first ∷ volumes) (now ∷ ran) zero from there = record {
    first = first;
    first_is = refl;
    now = now;
    now_is = refl;
    is = same from (from_of (openings zero) first now) there;
  }
    where
      same : (a b : VolumeFrom) → Some b ≡ Some a → a ≡ b
      same a b is = cc
  froms-there openings (first ∷ volumes) (now ∷ ran) (suc place) from there =
      let is = froms-there (past openings) volumes ran place from there in record {
        first = is.first;
        first_is = is.first_is;
        now = is.now;
        now_is = is.now_is;
        is = is.is;
      }

-- the volumes as they were opened, in these states, with no history yet, and as they came out of
-- the steps
module _ {D : Type 0} (tells : Bool) (seen : D → Seen) (faults : D → Faults)
    (volumes ran : List (VolumeNow D)) (openings : ℕ → State)
    (begins : (place : ℕ) (volume : VolumeNow D) → slice_get volumes place ≡ Some volume
    → volume.file.entries ≡ [])
    (held : (place : ℕ) (volume : VolumeNow D) → slice_get volumes place ≡ Some volume
    → IsHeldFrom tells seen (openings place) volume) where
  abbrev Later : VolumeNow D → VolumeNow D → Type 0
  Later = Follows tells seen faults

  abbrev answering : Answering (VolumeNow D)
  answering = IsAnswered tells seen faults

  abbrev froms : List VolumeFrom
  froms = froms_of openings volumes ran

  abbrev catalogs : List (List CatEntry)
  catalogs = map catalog_of volumes

  abbrev histories : List (List Entry)
  histories = map entries_on ran

  -- ---- later states

  -- a later state of a volume shows whether it has stopped, too
  later-shows : (old new : VolumeNow D) → Later old new → ShowsStop old.file → ShowsStop new.file
  later-shows old new later before = ⊎_elim
      (λ same. subst (λ (v : VolumeNow D). ShowsStop v.file) (sym same) before)
      (λ went. went.on.shows before) later

  later-shape : (old new : VolumeNow D) → Later old new → new.file.geometry ≡ old.file.geometry
  later-shape old new later = ⊎_elim
      (λ same. ap (λ (v : VolumeNow D). v.file.geometry) same) (λ went. went.on.geometry) later

  -- the catalog of a later state of one that had no history yet is what its entries made it
  later-catalog : (old new : VolumeNow D) → Later old new → old.file.entries ≡ []
      → new.file.catalog ≡ catalog_by old.file.catalog new.file.entries
  later-catalog old new later none = follows-catalog tells seen faults old new later
      new.file.entries (ap (λ (them : List Entry). them ++ new.file.entries) (sym none))

  -- ---- the volumes between two steps

  module _ (before after : List JobStep) (between : List (VolumeNow D))
      (are : AreBetween entries_on Later before after volumes between ran) where
    since-at : (place : ℕ) (first here : VolumeNow D) → slice_get volumes place ≡ Some first
        → slice_get between place ≡ Some here → IsSinceSteps entries_on Later before first here
    since-at place first here first_is here_is =
        subst (λ (v : VolumeNow D). IsSinceSteps entries_on Later before first v)
        (get_or_from_slice_get between place here first here_is)
        (subst (λ (v : VolumeNow D). IsSinceSteps entries_on Later before v
        (get_or between place first)) (get_or_from_slice_get volumes place first first first_is)
        (are.since.each place first (slice_get_within volumes place first first_is)))

    added-at : (place : ℕ) (here now : VolumeNow D) → slice_get between place ≡ Some here
        → slice_get ran place ≡ Some now → IsAddedBy after here.file.entries now.file.entries
    added-at place here now here_is now_is =
        subst (λ (v : VolumeNow D). IsAddedBy after v.file.entries now.file.entries)
        (get_or_from_slice_get between place here now here_is)
        (subst (λ (v : VolumeNow D). IsAddedBy after
        (get_or between place now).file.entries v.file.entries)
        (get_or_from_slice_get ran place now now now_is)
        (are.added place now (slice_get_within between place here here_is)))

    cut-at : (place : ℕ) (first here now : VolumeNow D) → slice_get volumes place ≡ Some first
        → slice_get between place ≡ Some here → slice_get ran place ≡ Some now
        → (entries : List Entry) → entries ≡ now.file.entries
        → IsCutAt before after entries here.file.entries
    cut-at place first here now first_is here_is now_is entries same =
        let added = added-at place here now here_is now_is in
        record {
          rest = added.more;
          entries_are = same ∙ added.is;
          of_before = (since-at place first here first_is here_is).of_steps;
          of_after = added.of_steps;
        }

    catalog-at : (place : ℕ) (first here : VolumeNow D) → slice_get volumes place ≡ Some first
        → slice_get between place ≡ Some here → (catalog : List CatEntry)
        → catalog ≡ first.file.catalog → here.file.catalog ≡ catalog_by catalog here.file.entries
    catalog-at place first here first_is here_is catalog same =
        later-catalog first here (since-at place first here first_is here_is).is_later
        (begins place first first_is)
        ∙ ap (λ (them : List CatEntry). catalog_by them here.file.entries) (sym same)

    volume-at : (place : ℕ) (first here now : VolumeNow D)
        → slice_get volumes place ≡ Some first → slice_get between place ≡ Some here
        → slice_get ran place ≡ Some now
        → IsVolumeAt before after (from_of (openings place) first now)
        (at_of (openings place) here)
    volume-at place first here now first_is here_is now_is = record {
      shape_is = later-shape first here (since-at place first here first_is here_is).is_later;
      opening_is = refl;
      cut = cut-at place first here now first_is here_is now_is now.file.entries refl;
      catalog_is = catalog-at place first here first_is here_is first.file.catalog refl;
      stopped_is = later-shows first here (since-at place first here first_is here_is).is_later
          (held place first first_is).shows;
    }

    seen-volume : (place : ℕ) (from : VolumeFrom) (at : VolumeAt)
        → IsFromAt openings volumes ran place from
        → (here : VolumeNow D) × (slice_get between place ≡ Some here)
        × (at ≡ at_of (openings place) here)
        → IsVolumeAt before after from at
    seen-volume place from at is here =
        subst (λ (f : VolumeFrom). IsVolumeAt before after f at) (sym is.is)
        (subst (IsVolumeAt before after (from_of (openings place) is.first is.now)) (sym here.2)
        (volume-at place is.first here.0 is.now is.first_is here.1 is.now_is))

    as-many : length between ≡ length ran
    as-many = sym are.later.count

    volumes-at : AreVolumesAt before after froms (each_seen at_of openings between)
    volumes-at = record {
      count = seen-count at_of openings between ∙ as-many
          ∙ sym (froms-count openings volumes ran (sym are.since.count ∙ as-many));
      each = λ place from at from_at at_at. seen-volume place from at
          (froms-there openings volumes ran place from from_at)
          (seen-there at_of openings between place at at_at);
    }

    -- a later state of a volume is held from the same state
    later-held : (opening : State) (old new : VolumeNow D) → Later old new
        → IsHeldFrom tells seen opening old → IsHeldFrom tells seen opening new
    later-held opening old new later from = ⊎_elim
        (λ same. subst (IsHeldFrom tells seen opening) (sym same) from)
        (λ went. record {
          shows = went.on.shows from.shows;
          held = λ told. went.held told opening (from.held told);
        }) later

    between-held : EachHeld (IsHeldFrom tells seen) openings between
    between-held = held-each (IsHeldFrom tells seen) openings between (λ place here here_is.
        let near : place < length volumes =
        omega (arith, slice_get_within between place here here_is, are.since.count) in
        let first_is = slice_get-get_or volumes place here near in
        later-held (openings place) (get_or volumes place here) here
        (since-at place (get_or volumes place here) here first_is here_is).is_later
        (held place (get_or volumes place here) first_is))

  -- ---- the catalogs by which decks are bound

  abbrev shown_catalog : VolumeNow D → List CatEntry
  shown_catalog volume = (shown_of volume).catalog

  module _ (steps : List JobStep) (by : ℕ → List (List CatEntry))
      (bound : (number : ℕ) → IsBoundAt shown_of entries_on Later steps volumes ran by number)
    where
      catalog-then : (number place : ℕ) (catalog given : List CatEntry) (entries : List Entry)
          → (v : VolumeNow D) × (slice_get volumes place ≡ Some v) × (catalog ≡ catalog_of v)
          → (v : VolumeNow D) × (slice_get ran place ≡ Some v) × (entries ≡ entries_on v)
          → (v : VolumeNow D) × (slice_get (bound number).volumes place ≡ Some v)
          × (given ≡ shown_catalog v)
          → IsCatalogAt number steps catalog entries given
      catalog-then number place catalog given entries first now here =
          let between = (bound number).volumes in
          let are = (bound number).between in
          record {
            first = here.0.file.entries;
            cut = cut-at (take number steps) (drop number steps) between are place first.0 here.0
                now.0 first.1 here.1 now.1 entries now.2;
            is = here.2 ∙ catalog-at (take number steps) (drop number steps) between are place first.0
                here.0 first.1 here.1 catalog first.2;
          }

      pub are-bound : AreBound steps catalogs histories by
      are-bound = record {
        count = λ number. ap (λ (them : List (List CatEntry)). length them)
            (bound number).catalogs_are
            ∙ length-map (bound number).volumes shown_catalog
            ∙ as-many (take number steps) (drop number steps) (bound number).volumes
            (bound number).between ∙ sym (length-map ran entries_on);
        each = λ number place catalog given entries catalog_at entries_at given_at.
            catalog-then number place catalog given entries
            (mapped-at catalog_of volumes place catalog catalog_at)
            (mapped-at entries_on ran place entries entries_at)
            (mapped-at shown_catalog (bound number).volumes place given
            (ap (λ (them : List (List CatEntry)). slice_get them place)
            (sym (bound number).catalogs_are) ∙ given_at));
      }

  -- ---- reports

  module _ (by : ℕ → List (List CatEntry)) where
    report-of : (before : List JobStep) (step : UtilityStep) (after : List JobStep)
        (report : StepReport)
        → IsReportAt shown_of shape_of answering entries_on Later by before step after volumes ran
        report
        → IsReportOf tells before step after froms report
    report-of before step after report is = record {
      volumes = each_seen at_of openings is.volumes;
      volumes_are = volumes-at before (Utilities step ∷ after) is.volumes is.between;
      left = each_seen at_of openings is.left;
      left_are = volumes-at (before ++ Utilities step ∷ []) after is.left is.then;
      is = report-seen shape_of shown_of entries_on answering (AnswersBy tells)
          (IsHeldFrom tells seen) (λ opening old line exchange new from so.
          answers-by tells seen faults opening old line exchange new from so)
          openings step.commands is.volumes is.left report
          (between-held before (Utilities step ∷ after) is.volumes is.between) is.is;
    }

    pub reported-from : (before steps : List JobStep) (reports : List StepReport)
        → AreReportedBy shown_of shape_of answering entries_on Later by before volumes ran steps
        reports
        → AreReportedFrom tells before froms steps reports
    reported-from before [] reports is = is
    reported-from before (Decks step ∷ steps) reports is =
        reported-from (before ++ Decks step ∷ []) steps reports is
    reported-from before (Utilities step ∷ steps) [] is = tt
    reported-from before (Utilities step ∷ steps) (report ∷ reports) is = (
      report-of before step steps report is.0,
      reported-from (before ++ Utilities step ∷ []) steps reports is.1,
    )

-- where nothing ran, nothing is reported
pub reported-none : (tells : Bool) (before : List JobStep) (of : List VolumeFrom)
    (steps : List JobStep) → AreReportedFrom tells before of steps []
reported-none tells before of [] = refl
reported-none tells before of (Decks step ∷ steps) =
    reported-none tells (before ++ Decks step ∷ []) of steps
reported-none tells before of (Utilities step ∷ steps) = tt
