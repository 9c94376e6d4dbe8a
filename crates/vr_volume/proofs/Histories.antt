-- What is committed in the state of a history is what the history committed.
use Rattle.std.proofs.Common.{◌≡◌, ℕ, Bool, true, false, cond, not, List, [], ◌∷◌, Option, Some}
use Rattle.std.proofs.Common.{None, refl, sym, ap, ◌∙◌, ◌&&◌}
use Rattle.std.specs.Prelude.{All, find}
use Rattle.std.proofs.lemmas.List.Elements.{All-head, All-tail}
use Rattle.vr_types.specs.Content.{Ascends, Content, Item, item_at}
use Rattle.vr_types.specs.declared.geometry.Geometry.{Geometry}
use Rattle.vr_types.specs.declared.unit.Unit.{Unit as UnitOfRecovery}
use Rattle.vr_history.specs.declared.entry.Entry.{Entry}
use Rattle.vr_history.specs.Committed.{committed, is_counted, is_kept_of, kept_or}
use Rattle.vr_history.specs.Laws.{HasPartThroughout, record_in, record_now}
use Rattle.vr_history.specs.Legal.{AreSteps, state_of}
use Rattle.vr_history.specs.State.{BeforeImage, Owned, State, opening_state}
use Rattle.vr_history.proofs.Counting.{settled_everywhere}
use Rattle.vr_log.specs.declared.record.LogRecord.{LogRecord}
use Rattle.vr_undo.proofs.CallerLemmas.{stands-read}
use Rattle.vr_volume.specs.Committed.{CountAlike, committed_by, has_commit, kept_by}
use Rattle.vr_volume.specs.PutBack.{is_image_of, oldest, put_back, standing, standing_of}
use Rattle.vr_volume.proofs.PuttingBack.{back-item, back-record}

-- of the images that the log keeps, the oldest of a place is the first that a unit which doesn't
-- count keeps there
same-found : (counts : UnitOfRecovery → Bool) (records : List LogRecord) (part : ℕ)
    (place : List ℕ) (befores : List BeforeImage)
    → All (λ (image : BeforeImage). counts image.unit ≡ has_commit records image.unit) befores
    → oldest (kept_by records befores) part place ≡ find (is_kept_of counts part place) befores
same-found counts records part place [] alike = refl
same-found counts records part place (image ∷ befores) alike =
    by_commit (has_commit records image.unit) (is_image_of part place image) refl
    (ap (λ (b : Bool). not b) (All-head
    (λ (i : BeforeImage). counts i.unit ≡ has_commit records i.unit) image befores alike))
    (same-found counts records part place befores (All-tail
    (λ (i : BeforeImage). counts i.unit ≡ has_commit records i.unit) image befores alike))
  where
    by_commit : (has here : Bool) → is_image_of part place image ≡ here
        → not (counts image.unit) ≡ not has
        → oldest (kept_by records befores) part place ≡ find (is_kept_of counts part place) befores
        → oldest (cond (not has) (image ∷ kept_by records befores) (kept_by records befores)) part
        place ≡ cond (not (counts image.unit) && is_image_of part place image) (Some image)
        (find (is_kept_of counts part place) befores)
    by_commit true here is same further = further
        ∙ sym (ap (λ (b : Bool). cond (b && is_image_of part place image) (Some image)
        (find (is_kept_of counts part place) befores)) same)
    by_commit false here is same further =
        ap (cond (is_image_of part place image) (Some image)) further
        ∙ sym (ap (λ (b : Bool). cond (b && is_image_of part place image) (Some image)
        (find (is_kept_of counts part place) befores)) same)

-- ---- the records of what is committed

-- what was withdrawn is no record
record-kept : (found : Option BeforeImage) (item : Option Item)
    → record_in (kept_or found (standing_of item)) ≡ record_in (kept_or found item)
record-kept None item = stands-read item
record-kept (Some image) item = refl

-- So it is the same whether before-images are put back into a content or into its records.
pub record-back : (part : ℕ) (images : List BeforeImage) (content : Content) (place : List ℕ)
    → Ascends content
    → record_in (item_at (put_back part images (standing content)) place)
    ≡ record_in (item_at (put_back part images content) place)
record-back part images content place ascends =
    ap record_in (back-record part images content place ascends)
    ∙ record-kept (oldest images part place) (item_at content place)
    ∙ sym (ap record_in (back-item part images content place))

-- The records are those that the history committed.
pub committed-everywhere : (geometry : Geometry) (contents : ℕ → Content) (owned : List Owned)
    (entries : List Entry) (others : List UnitOfRecovery) (records : List LogRecord) (part : ℕ)
    → AreSteps geometry (opening_state contents owned) entries
    → HasPartThroughout geometry part (is_counted others entries) (opening_state contents owned)
    contents entries
    → CountAlike others entries records
    (state_of geometry (opening_state contents owned) entries) → (place : List ℕ)
    → record_now (committed_by (state_of geometry (opening_state contents owned) entries) records)
    part place
    ≡ record_now (committed geometry (opening_state contents owned) entries others) part place
committed-everywhere geometry contents owned entries others records part steps has alike place =
    ap record_in
    (back-item part (kept_by records state.befores) (state.contents part) place)
    ∙ ap (λ (found : Option BeforeImage).
    record_in (kept_or found (item_at (state.contents part) place)))
    (same-found (is_counted others entries) records part place state.befores alike)
    ∙ sym (settled_everywhere geometry contents owned entries others part steps has place)
  where
    state : State
    state = state_of geometry (opening_state contents owned) entries
