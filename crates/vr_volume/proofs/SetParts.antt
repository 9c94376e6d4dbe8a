-- A part of a volume in which a call set a record, or took one away, and whose blocks were forced
-- then: a crash leaves at the place what the call made of it, and the part is at rest by each state
-- that has that there.
use Rattle.std.proofs.Common.{◌≡◌, inr, ℕ, Bool, true, false, IsTrue, List, Option, Some, None}
use Rattle.std.proofs.Common.{refl, sym, ap, subst, ◌∙◌, bytes_eq}
use Rattle.std.proofs.lemmas.Bool.{true≢false}
use Rattle.std.proofs.lemmas.Slice.Eq.{bytes_eq-Decides}
use Rattle.vr_types.specs.Blocks.{Forced, Keeps}
use Rattle.vr_types.specs.Content.{Item, item_at}
use Rattle.vr_types.specs.Image.{Image}
use Rattle.vr_types.specs.Regions.{Touches}
use Rattle.vr_types.specs.Seen.{Left, Seen}
use Rattle.vr_types.specs.declared.geometry.Geometry.{Geometry}
use Rattle.vr_space.specs.Known.{Known}
use Rattle.vr_space.specs.Owners.{Owners}
use Rattle.vr_space.specs.Part.{DueMoreAt, HasKeptRoom, IsAtRest, IsSound, Knows, MayHold}
use Rattle.vr_space.specs.Part.{OwnsClaimed, SetsOne, Shape, item_of, left_by, part_no}
use Rattle.vr_space.proofs.CallerLemmas.{StaysPart, due-none, firm-due, knows-stays, on-still}
use Rattle.vr_space.proofs.CallerLemmas.{owns-same, rest-sound, rest-stays, room-stays, same-stays}
use Rattle.vr_space.proofs.CallerLemmas.{stays-keeps}
use Rattle.vr_attach.specs.Owning.{IsPastLog}
use Rattle.vr_log.specs.Standing.{InLog}
use Rattle.vr_history.specs.State.{BeforeImage, State}
use Rattle.vr_volume.specs.Laid.{shape_by}
use Rattle.vr_volume.specs.PutBack.{lengths_kept, oldest}
use Rattle.vr_volume.specs.Rests.{IsPartAtRest}
use Rattle.vr_volume.proofs.Calls.{stays-part}
use Rattle.vr_volume.proofs.ForceCalls.{due-forced}
use Rattle.vr_volume.proofs.Rested.{stays-holds, stays-then}

module _ {geometry : Geometry} {owners : Owners} {images : List BeforeImage} {old : State}
    {shape : Shape} {known : Known} {a : Seen}
    (part : IsPartAtRest geometry owners images old shape known a) (place : List ℕ) (m d : Seen)
    {tells : Bool} (told : IsTrue tells) (rests : IsAtRest shape owners m)
    {bytes : Option (List ℕ)} (set : SetsOne shape place bytes a.cur m.cur)
    (force : Keeps tells m d) where
  -- Once the blocks are forced a crash leaves at the place what the call made of it.
  pub firm-set : (put : List ℕ) → oldest images (part_no shape).0 place ≡ None
      → DueMoreAt shape place put a m → Forced put m.cur d.may → (item : Option Item)
      → MayHold shape d.may place item → item ≡ left_by shape (item_of shape a.cur place) bytes
  firm-set put free due forced item held =
      due-none shape owners d
      (rest-sound shape owners d (rest-stays m d shape owners
      (stays-keeps tells told m d force shape owners) rests)) place
      (due-forced tells told m d force shape owners put place forced
      (rest-sound shape owners m rests)
      (due put place (firm-due shape owners put place a
      (rest-sound shape owners a part.rests)
      (λ found may. part.firm place found free may ∙ sym (part.reads place)))
      (inr (λ n there. there)))) item held
      ∙ ap (λ (image : Image). item_of shape image place) (force.content told)
      ∙ set.here

  -- By a state that has that there, and elsewhere what was there, the part is at rest, and stays so
  -- while the log is put.
  pub set-rests : (more : List BeforeImage) (new : State) (b : Seen) (Q : Image → Type 0)
      (later : Known) → IsPastLog geometry owners → Touches (InLog geometry) Q d b
      → Left m m.cur → m.count ≡ a.count → m.size ≡ a.size
      → HasKeptRoom shape (lengths_kept more (part_no shape).0) m → Knows shape later m
      → later.move ≡ known.move
      → shape_by geometry (new.contents 0) (part_no shape).0 ≡ Some shape
      → left_by shape (item_of shape a.cur place) bytes
      ≡ item_at (new.contents (part_no shape).0) place
      → ((at : List ℕ) → (at ≡ place → ⊥) → item_at (new.contents (part_no shape).0) at
      ≡ item_at (old.contents (part_no shape).0) at)
      → ((found : Option Item) → MayHold shape d.may place found
      → found ≡ item_at (new.contents (part_no shape).0) place)
      → ((at : List ℕ) (found : Option Item) → (at ≡ place → ⊥)
      → oldest more (part_no shape).0 at ≡ None → MayHold shape d.may at found
      → found ≡ item_at (new.contents (part_no shape).0) at)
      → IsPartAtRest geometry owners more new shape later b
  set-rests more new b Q later past last left count size room knows moves laid here others firm held
      = record {
        laid = laid;
        on = on-still shape m b (on-still shape a m part.on count size) stays.count stays.size;
        rests = rest-stays m b shape owners stays rests;
        claimed = owned;
        room = room-stays m b shape owners (lengths_kept more (part_no shape).0) stays sound room;
        knows = knows-stays m b shape owners later stays sound left owned knows;
        reads = λ at. same-stays m b shape owners stays sound left at
            ∙ read-at at (bytes_eq at place) refl;
        firm = λ at found none may. firm-at at found none
            (stays-holds shape owners d b (stays-part geometry shape owners Q d b past last)
            (rest-sound shape owners d (rest-stays m d shape owners
            (stays-keeps tells told m d force shape owners) rests)) at found may)
            (bytes_eq at place) refl;
      }
    where
      stays : StaysPart shape owners m b
      stays = stays-then shape owners m d b (stays-keeps tells told m d force shape owners)
          (stays-part geometry shape owners Q d b past last)

      sound : IsSound shape owners m
      sound = rest-sound shape owners m rests

      owned : OwnsClaimed shape owners later
      owned = owns-same shape owners known later moves part.claimed

      apart : (at : List ℕ) → bytes_eq at place ≡ false → at ≡ place → ⊥
      apart at is there = true≢false (sym ((bytes_eq-Decides at place).1 there) ∙ is)

      read-at : (at : List ℕ) (same : Bool) → bytes_eq at place ≡ same
          → item_of shape m.cur at ≡ item_at (new.contents (part_no shape).0) at
      read-at at true is =
          let there : at ≡ place = (bytes_eq-Decides at place).0 is in
          ap (item_of shape m.cur) there ∙ set.here ∙ here
          ∙ ap (item_at (new.contents (part_no shape).0)) (sym there)
      read-at at false is = set.others at (apart at is) ∙ part.reads at
          ∙ sym (others at (apart at is))

      firm-at : (at : List ℕ) (found : Option Item) → oldest more (part_no shape).0 at ≡ None
          → MayHold shape d.may at found → (same : Bool) → bytes_eq at place ≡ same
          → found ≡ item_at (new.contents (part_no shape).0) at
      firm-at at found none may true is =
          let there : at ≡ place = (bytes_eq-Decides at place).0 is in
          firm found (subst (λ (q : List ℕ). MayHold shape d.may q found) there may)
          ∙ ap (item_at (new.contents (part_no shape).0)) (sym there)
      firm-at at found none may false is = held at found (apart at is) none may
