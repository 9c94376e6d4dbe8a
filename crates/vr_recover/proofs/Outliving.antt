-- What is settled as a crash comes is an item of what is opened next; and what a volume is opened
-- with is one where another crash comes while it is opened.
use Rattle.std.proofs.Common.{◌≡◌, ◌≢◌, ◌∙◌, ⊎_elim, ℕ, List, Some, None, ap, subst, sym}
use Rattle.vr_types.specs.Content.{Content, Item, Withdrawn, item_at}
use Rattle.vr_types.specs.Image.{Image}
use Rattle.vr_types.specs.Seen.{Seen}
use Rattle.vr_types.specs.declared.geometry.Geometry.{Geometry}
use Rattle.vr_types.specs.declared.unit.Unit.{Unit as UnitOfRecovery}
use Rattle.vr_history.specs.State.{BeforeImage, State}
use Rattle.vr_log.specs.Content.{Content as LogContent}
use Rattle.vr_space.specs.Part.{item_of}
use Rattle.vr_undo.proofs.CallerLemmas.{stands-item}
use Rattle.vr_volume.specs.Crashes.{RecoversTo, committed_with}
use Rattle.vr_volume.specs.PutBack.{images_of, oldest, put_back, standing, standing_of}
use Rattle.vr_volume.specs.Volume.{Recovers, VolumeStandsFor}
use Rattle.vr_volume.proofs.Unique.{one_volume}
use Rattle.vr_recover.specs.Addresses.{HasItem, IsSettledIn, IsSettledAt}
use Rattle.vr_recover.specs.Opening.{HasContents}
use Rattle.vr_recover.specs.Recovered.{AreBackOf, KeepsAll, item_back, standing_all}
use Rattle.vr_recover.proofs.Logs.{same_log}
use Rattle.vr_recover.proofs.Wholes.{recovers-items}

-- ---- what recovers has one content of each part, and one that it recovers to

module _ (geometry : Geometry) (number : ℕ) (image : Image) (recovered other : ℕ → Content)
    (first : Recovers geometry number image recovered)
    (second : Recovers geometry number image other) where
  logs : first.log ≡ second.log
  logs = same_log geometry image first.log second.log first.stands.log_is second.stands.log_is

  same_contents : (part : ℕ) → first.contents part ≡ second.contents part
  same_contents part = one_volume geometry number image first.log first.contents second.contents
      first.stands
      (subst (λ (l : LogContent). VolumeStandsFor geometry number image l second.contents)
      (sym logs) second.stands) part

  same_recovery : (part : ℕ) → recovered part ≡ other part
  same_recovery part = first.back part
      ∙ ap (λ (l : LogContent). put_back part (images_of l.records)
      (standing (first.contents part))) logs
      ∙ ap (λ (c : Content). put_back part (images_of second.log.records) (standing c))
      (same_contents part)
      ∙ sym (second.back part)

-- ---- what is opened

module _ (geometry : Geometry) (number : ℕ) (contents : ℕ → Content) (now : Seen)
    (has : HasContents number geometry contents now) where
  abbrev own : Recovers geometry number now.cur (standing_all contents)
  own = has.volume.recovers

  back-here : AreBackOf geometry own.log.records contents now.cur
  back-here part shape laid place = has.whole.items part shape laid place
      ∙ ap (λ (l : LogContent). item_back shape (oldest (images_of l.records) part place)
      (item_of shape now.cur place))
      (same_log geometry now.cur has.whole.log own.log has.whole.spelled own.stands.log_is)

  module _ (recovered : ℕ → Content) (is : Recovers geometry number now.cur recovered) where
    -- where nothing is put back it has the item of the blocks
    item-found : (part : ℕ) (place : List ℕ)
        → oldest (images_of is.log.records) part place ≡ None
        → item_at (is.contents part) place ≡ item_at (contents part) place
    item-found part place none =
        let it = recovers-items geometry number now.cur contents own back-here has.others in
        ap (λ (c : Content). item_at c place)
        (same_contents geometry number now.cur recovered (standing_all contents) is it.recovers part)
        ∙ it.items part place (ap (λ (l : LogContent). oldest (images_of l.records) part place)
        (logs geometry number now.cur (standing_all contents) recovered own is) ∙ none)

    -- and each record that the blocks recover to is one of its own
    record-found : (part : ℕ) (place : List ℕ) → item_at (recovered part) place ≢ None
        → HasItem (contents part) place
    record-found part place there none = there (ap (λ (c : Content). item_at c place)
        (same_recovery geometry number now.cur recovered (standing_all contents) is own part)
        ∙ stands-item (contents part) place (has.ascends part)
        ∙ ap standing_of none)

  pub outlives-crash : (state : State) (counted : List UnitOfRecovery)
      → RecoversTo geometry number state counted now.cur → (part : ℕ) (place : List ℕ)
      → IsSettledAt counted state part place → HasItem (contents part) place
  outlives-crash state counted is part place settled = ⊎_elim
      (λ there. record-found (committed_with counted state) is.recovers part place there)
      (λ gone none.
      let kept = is.withdrawn part place gone.0 gone.1 gone.2 in
      no-item (Withdrawn gone.0) (sym kept.1
      ∙ item-found (committed_with counted state) is.recovers part place kept.0 ∙ none))
      settled
    where
      no-item : (item : Item) → Some item ≡ None → ⊥
      no-item item same = cc

  pub outlives-opening : (images : List BeforeImage) (before : ℕ → Content)
      → KeepsAll geometry number images before now.cur → (part : ℕ) (place : List ℕ)
      → IsSettledIn images before part place → HasItem (contents part) place
  outlives-opening images before is part place kept =
      let recovers = is.items.recovers in
      ⊎_elim
      (λ there. record-found (standing_all before) recovers part place there)
      (λ free none.
      let nothing = is.fewer part place free.0 in
      free.1 (sym (is.items.items part place nothing)
      ∙ item-found (standing_all before) recovers part place
      (ap (λ (l : LogContent). oldest (images_of l.records) part place) is.items.log_is ∙ nothing)
      ∙ none))
      kept
