-- The contents that a choice names, in what a history keeps.
use Rattle.std.proofs.Common.{◌≡◌, ⊎_elim, ◌<◌, ◌+◌, ◌-◌, ℕ, suc, List, [], ◌∷◌, length, slice_get}
use Rattle.std.proofs.Common.{slice_index, take, drop, Vec, sym, ap, subst, ◌∙◌, arith}
use Rattle.std.specs.List.{AllByRecursion}
use Rattle.std.proofs.lemmas.Bool.{cases_lt}
use Rattle.std.proofs.lemmas.List.{take-map, length-map}
use Rattle.vr_types.specs.Image.{Image, block_at}
use Rattle.vr_device.specs.Disk.{contents_of, choices_of, IsChosen}
use Rattle.vr_device.specs.Past.{Past, disk_of, writes_in, after_all, fresh, contents_from}
use Rattle.vr_device.specs.Past.{ArePicked, IsWithin}
use Rattle.vr_device.specs.PastEvent.{event_of, events_of, blocks_of}
use Rattle.vr_device.specs.Kept.{IsKept, past_of}
use Rattle.std.specs.declared.alloc.Global.{Global}
use Rattle.vr_device.specs.declared.past.PastEvent.{PastEvent}
use Rattle.vr_device.specs.declared.past.Past.TheInside.{Inside}
use Rattle.vr_device.proofs.Choosing.{since-is, within-take}

-- the events since the last sync that succeeded, as a slice of all
abbrev pub since : Inside → List PastEvent → List PastEvent
since h entries = take (length entries - h.stable_at) (drop h.stable_at entries)

module _ (h : Inside) (kept : IsKept h) (p : Past) (view_is : past_of h ≡ p)
    (entries : List PastEvent) (all : entries ≡ h.entries.items) where
  pub writes-since : (disk_of p).writes ≡ writes_in (events_of (since h entries))
  writes-since = ap (λ q. (disk_of q).writes) (sym view_is) ∙ kept.writes
      ∙ ap writes_in (sym (ap (λ es. events_of (since h es)) all
      ∙ since-is h.entries.items h.stable_at))

  pub choices-long : (n : ℕ) → length (choices_of (disk_of p) n) ≡ length
      (contents_from [] (events_of (since h entries)) n)
  choices-long n = ap (λ ws. suc (length (contents_of ws n))) writes-since

-- one block more
pub each-next : (P : ℕ → Type 0) (n : ℕ) → ((m : ℕ) → m < n → P m) → P n → (m : ℕ) → m < n + 1 → P m
each-next P n below this m less = ⊎_elim (λ before. below m before) (λ now. let same : n ≡ m =
    omega (arith, less, now) in subst P same this) (cases_lt m n)

module _ (h : Inside) (kept : IsKept h) where
  -- the writes up to the last sync are of blocks that there are
  pub stable-within : (count : ℕ) (entries : List PastEvent) → count ≡ length h.start.items
      → entries ≡ h.entries.items → AllByRecursion (IsWithin count)
      (events_of (take h.stable_at entries))
  stable-within count entries same all =
      subst (λ n. AllByRecursion (IsWithin n) (events_of (take h.stable_at entries))) (sym same)
      (subst (λ es. AllByRecursion (IsWithin (length h.start.items)) es)
      (sym (ap (λ es. events_of (take h.stable_at es)) all
      ∙ sym (take-map event_of h.stable_at h.entries.items)))
      (within-take (length h.start.items) h.size (events_of h.entries.items) h.stable_at kept.fits))

  pub stable-is : (p : Past) → past_of h ≡ p → (blocks : Image) (entries : List PastEvent)
      → blocks ≡ blocks_of h.start.items → entries ≡ h.entries.items
      → (after_all (events_of (take h.stable_at entries)) (fresh blocks)).seen ≡ (disk_of p).stable
  stable-is p view_is blocks entries same all =
      ap (λ b. (after_all (events_of (take h.stable_at entries)) (fresh b)).seen) same
      ∙ ap (λ es. (after_all es (fresh (blocks_of h.start.items))).seen)
      (ap (λ es. events_of (take h.stable_at es)) all
      ∙ sym (take-map event_of h.stable_at h.entries.items))
      ∙ sym kept.stable ∙ ap (λ q. (disk_of q).stable) view_is

  -- what is picked is what the choice names
  pub picked-chosen : (p : Past) → past_of h ≡ p → (entries : List PastEvent)
      → entries ≡ h.entries.items → (stable blocks : Image) (choice : List ℕ)
      → stable ≡ (disk_of p).stable → length stable ≡ length p.start
      → ArePicked stable (events_of (since h entries)) choice blocks
      → IsChosen (length p.start) (disk_of p) choice blocks
  picked-chosen p view_is entries all stable blocks choice same long picked = record {
    length_is = picked.length_is ∙ long;
    each = λ n below.
        ap (λ l. slice_get l (slice_index choice n))
        (ap (λ b. b ∷ contents_of (disk_of p).writes n) (ap (λ bs. block_at bs n) (sym same))
        ∙ ap (λ ws. block_at stable n ∷ contents_of ws n)
        (writes-since h kept p view_is entries all))
        ∙ picked.each n (omega (arith, below, long));
  }

pub same-count : (xs ys : List (Vec ℕ Global)) → blocks_of xs ≡ blocks_of ys → length xs ≡ length ys
same-count xs ys same = sym (length-map xs (λ b. b.items)) ∙ ap length same
    ∙ length-map ys (λ b. b.items)
