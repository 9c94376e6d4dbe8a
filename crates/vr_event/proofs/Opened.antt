-- A volume that was opened is at rest by the state that it is opened with.
use Rattle.std.proofs.Common.{◌≡◌, ◌∙◌, ℕ, ◌+◌, ◌-◌, false, List, [], ◌∷◌, Option}
use Rattle.std.proofs.Common.{Some, None, refl, sym, ap, subst, arith, map, length}
use Rattle.std.specs.Prelude.{All}
use Rattle.std.proofs.lemmas.List.Elements.{All-nil, All-weaker}
use Rattle.vr_types.specs.Content.{Content}
use Rattle.vr_types.specs.Seen.{Left, Seen}
use Rattle.vr_types.specs.Space.{free_count}
use Rattle.vr_types.specs.declared.unit.PartNo.{PartNo}
use Rattle.vr_space.specs.Owners.{Owners}
use Rattle.vr_space.specs.Part.{MayHold, item_of}
use Rattle.vr_space.proofs.CallerLemmas.{content_item, rest-sound, sound-image}
use Rattle.vr_attach.specs.Owning.{owner_of}
use Rattle.vr_log.specs.Live.{is_in, live_in, used_by}
use Rattle.vr_log.specs.LogNow.{LogNow}
use Rattle.vr_log.specs.declared.record.LogRecord.{LogRecord}
use Rattle.vr_history.specs.State.{BeforeImage, State, opening_state}
use Rattle.vr_volume.specs.Committed.{HasLogged, IsCurrent, IsKeptIn, IsPast, logged_of}
use Rattle.vr_volume.specs.PutBack.{AreAlone, images_of, oldest}
use Rattle.vr_volume.specs.Rests.{IsPartAtRest, IsVolumeAtRest}
use Rattle.vr_event.specs.Opening.{IsOpened, IsPartOpened, opened_store, owned_from, owned_in}
use Rattle.vr_store.specs.Store.{IsRestedPart, IsStored, PartNow}

-- ---- areas

-- each area is free, or a part has it
counted : (from : ℕ) (owners : List (Option PartNo))
    → free_count owners + length (owned_from from owners) ≡ length owners
counted from [] = refl
counted from (None ∷ owners) = omega (arith, counted (from + 1) owners)
counted from (Some part ∷ owners) = omega (arith, counted (from + 1) owners)

-- so those are free that no part has
pub free-owned : (owners : List (Option PartNo)) (count : ℕ) → length owners ≡ count
    → free_count owners ≡ count - length (owned_in owners)
free-owned owners count is = omega (arith, counted 0 owners, is)

-- ---- the volume

module _ (number : ℕ) (log : LogNow) (parts : List PartNow) (contents : ℕ → Content)
    (space : List (Option PartNo)) (now : Seen) (records : log.records ≡ [])
    (sound : log.broken ≡ false)
    (is : IsOpened number (owner_of log.geometry space) log parts contents now) where
  abbrev owners : Owners
  owners = owner_of log.geometry space

  abbrev state : State
  state = opening_state contents (owned_in space)

  none-some : (image : BeforeImage) → None ≡ Some image → ⊥
  none-some image same = cc

  -- the log has no before-image
  no-image : (part : ℕ) (place : List ℕ) → oldest (images_of log.records) part place ≡ None
  no-image part place =
      ap (λ (them : List LogRecord). oldest (images_of them) part place) records

  logs-nothing : HasLogged log state
  logs-nothing = record {
    alone = subst (λ (them : List LogRecord). AreAlone (images_of them)) (sym records) tt;
    once = tt;
    kept = λ part place image same. absurd (none-some image same);
    back = λ part place image same none. absurd
        (none-some image (sym (no-image part place) ∙ same));
    logged = ap (λ (them : List LogRecord). map logged_of (images_of them)) records;
    live = λ unit. ap (λ (them : List LogRecord). is_in unit (live_in them)) records;
    used = ap used_by records;
    ended = subst (All (IsPast state.numbers)) (sym records) (All-nil (IsPast state.numbers));
    current = All-nil (λ (image : BeforeImage). IsCurrent state.numbers image.unit);
  }

  volume-rests : IsVolumeAtRest log.geometry number owners log [] state now
  volume-rests = record {
    safe = is.safe;
    stands = is.stands;
    sound = sound;
    forced = is.forced;
    laid = record {
      each = is.each;
      catalog = is.catalog;
      others = is.others;
      kept = All-nil (IsKeptIn log.geometry state);
    };
    logged = logs-nothing;
    kept = sym (ap images_of records);
  }

  -- what is read at a place is what a crash may leave there
  read-may : (left : Left now now.cur) (part : PartNow) → IsPartOpened log.geometry owners contents
      now part
      → (place : List ℕ) → MayHold part.shape now.may place (item_of part.shape now.cur place)
  read-may left part opened place =
      let has = sound-image part.shape owners now
      (rest-sound part.shape owners now opened.rests) now.cur
      (record { each = λ n below inside. left.each n below }) in
      subst (MayHold part.shape now.may place)
      (content_item part.shape now.cur has.content has.stands place) (has.each place)

  part-rests : Left now now.cur → (part : PartNow) → IsPartOpened log.geometry owners contents now
      part
      → IsPartAtRest log.geometry owners [] state part.shape part.known now
  part-rests left part opened = record {
    laid = opened.laid;
    on = opened.on;
    rests = opened.rests;
    claimed = opened.claimed;
    room = opened.room;
    knows = opened.knows;
    reads = λ place. opened.holds place (item_of part.shape now.cur place)
        (read-may left part opened place);
    firm = λ place found none may. opened.holds place found may;
  }

  pub opened-stored : Left now now.cur
      → IsStored number (opened_store log parts space) state now
  opened-stored left = record {
    volume = volume-rests;
    parts = All-weaker (IsPartOpened log.geometry owners contents now)
        (IsRestedPart (opened_store log parts space) state now) (part-rests left) parts is.opened;
    whole = is.whole;
    befores = refl;
    logged = refl;
    due = λ unit part place image shape same mine laid. absurd
        (none-some image (sym (no-image part place) ∙ same));
  }
