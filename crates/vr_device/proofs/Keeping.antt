-- One more event in a history keeps what a history keeps.
use Rattle.std.proofs.Common.{◌≡◌, ℕ, ◌+◌, ◌<◌, ◌≤◌, List, [], ◌∷◌, ◌++◌, length, take, drop}
use Rattle.std.proofs.Common.{get_or, Vec, refl, sym, ap, subst, ◌∙◌, arith, length-append}
use Rattle.std.proofs.Common.{take_all}
use Rattle.std.specs.List.{AllByRecursion}
use Rattle.std.proofs.lemmas.List.{take-append-le, drop-append-le, map-append, length-map, drop_all}
use Rattle.std.proofs.lemmas.List.{get_or-map}
use Rattle.vr_types.specs.Image.{Block, block_at}
use Rattle.vr_device.specs.Disk.{Disk}
use Rattle.vr_device.specs.Past.{Past, with_event, Event, wrote, failed, forced, after, after_all}
use Rattle.vr_device.specs.Past.{fresh, disk_of, EventFits, writes_in}
use Rattle.vr_device.specs.PastEvent.{blocks_of, events_of, event_of}
use Rattle.vr_device.specs.Kept.{IsKept, past_of}
use Rattle.std.specs.declared.alloc.Global.{Global}
use Rattle.vr_device.specs.declared.past.PastEvent.{PastEvent}
use Rattle.vr_device.specs.declared.past.Past.TheInside.{Inside}
use Rattle.vr_device.proofs.Events.{disk-event}
use Rattle.vr_device.specs.Sizes.{Sized, IsSized, sized-of, after-sized}

all-push : {X : Type 0} (P : X → Type 0) (xs : List X) (x : X) → AllByRecursion P xs → P x
    → AllByRecursion P (xs ++ x ∷ [])
all-push P [] x all this = (this, tt)
all-push P (y ∷ xs) x all this = (all.0, all-push P xs x all.1 this)

writes_in-append : (xs ys : List Event) → writes_in (xs ++ ys) ≡ writes_in xs ++ writes_in ys
writes_in-append [] ys = refl
writes_in-append (wrote n bytes ∷ xs) ys = ap (λ l. (n, bytes) ∷ l) (writes_in-append xs ys)
writes_in-append (failed n bytes ∷ xs) ys = ap (λ l. (n, bytes) ∷ l) (writes_in-append xs ys)
writes_in-append (forced ∷ xs) ys = writes_in-append xs ys

module _ (h : Inside) (kept : IsKept h) (seen' : Vec (Vec ℕ Global) Global)
    (entries' : Vec PastEvent Global) (entry : PastEvent)
    (pushed : entries'.items ≡ h.entries.items ++ entry ∷ [])
    (fits : EventFits (length h.start.items) h.size (event_of entry))
    (seen_is : blocks_of seen'.items ≡ (after (event_of entry) (disk_of (past_of h))).seen) where
  events_is : events_of entries'.items ≡ events_of h.entries.items ++ event_of entry ∷ []
  events_is = ap events_of pushed ∙ map-append event_of h.entries.items (entry ∷ [])

  disk_is : after_all (events_of entries'.items) (fresh (blocks_of h.start.items)) ≡ after
      (event_of entry) (disk_of (past_of h))
  disk_is = ap (λ es. after_all es (fresh (blocks_of h.start.items))) events_is
      ∙ disk-event (past_of h) (event_of entry)

  long : length entries'.items ≡ length h.entries.items + 1
  long = ap length pushed ∙ length-append h.entries.items (entry ∷ [])

  known : h.stable_at ≤ length (events_of h.entries.items)
  known = omega (arith, kept.stable_at, length-map h.entries.items event_of)

  -- a write
  pub kept-write : (write : ℕ × Block) → ((disk : Disk)
      → (after (event_of entry) disk).stable ≡ disk.stable)
      → ((disk : Disk) → (after (event_of entry) disk).writes ≡ disk.writes ++ write ∷ [])
      → writes_in (event_of entry ∷ []) ≡ write ∷ []
      → IsKept (record {
        alloc = h.alloc;
        size = h.size;
        start = h.start;
        seen = seen';
        entries = entries';
        stable_at = h.stable_at;
      })
  kept-write write stays adds is = record {
    count = kept.count;
    sizes = kept.sizes;
    fits = subst (λ es. AllByRecursion (EventFits (length h.start.items) h.size) es)
        (sym events_is) (all-push (EventFits (length h.start.items) h.size)
        (events_of h.entries.items) (event_of entry) kept.fits fits);
    seen = seen_is ∙ ap (λ d. d.seen) (sym disk_is);
    stable_at = omega (arith, kept.stable_at, long);
    stable = ap (λ d. d.stable) disk_is ∙ stays (disk_of (past_of h)) ∙ kept.stable
        ∙ ap (λ es. (after_all es (fresh (blocks_of h.start.items))).seen)
        (sym (ap (λ es. take h.stable_at es) events_is
        ∙ take-append-le h.stable_at (events_of h.entries.items) (event_of entry ∷ []) known));
    writes = ap (λ d. d.writes) disk_is ∙ adds (disk_of (past_of h))
        ∙ ap (λ ws. ws ++ write ∷ []) kept.writes
        ∙ sym (ap (λ es. writes_in (drop h.stable_at es)) events_is
        ∙ ap writes_in (drop-append-le h.stable_at (events_of h.entries.items)
        (event_of entry ∷ []) known)
        ∙ writes_in-append (drop h.stable_at (events_of h.entries.items)) (event_of entry ∷ [])
        ∙ ap (λ ws. writes_in (drop h.stable_at (events_of h.entries.items)) ++ ws) is);
  }

  -- a sync
  pub kept-sync : (at : ℕ) → at ≡ length entries'.items → event_of entry ≡ forced
      → IsKept (record {
        alloc = h.alloc;
        size = h.size;
        start = h.start;
        seen = seen';
        entries = entries';
        stable_at = at;
      })
  kept-sync at end is =
      let disk = disk_of (past_of h) in
      let now : after_all (events_of entries'.items)
      (fresh (blocks_of h.start.items)) ≡ after forced disk =
      disk_is ∙ ap (λ e. after e disk) is in
      let all : at ≡ length (events_of entries'.items) =
      end ∙ sym (length-map entries'.items event_of) in
      record {
        count = kept.count;
        sizes = kept.sizes;
        fits = subst (λ es. AllByRecursion (EventFits (length h.start.items) h.size) es)
            (sym events_is) (all-push (EventFits (length h.start.items) h.size)
            (events_of h.entries.items) (event_of entry) kept.fits fits);
        seen = seen_is ∙ ap (λ d. d.seen) (sym disk_is);
        stable_at = omega (arith, end);
        stable = ap (λ d. d.stable) now ∙ ap (λ d. d.seen) (sym now)
            ∙ ap (λ es. (after_all es (fresh (blocks_of h.start.items))).seen)
            (sym (take_all at (events_of entries'.items) (omega (arith, all))));
        writes = ap (λ d. d.writes) now ∙ ap writes_in
            (sym (drop_all at (events_of entries'.items) (omega (arith, all))));
      }

sized : (h : Inside) → IsKept h → IsSized (past_of h)
sized h kept = sized-of (past_of h) kept.sizes
    (subst (λ n. AllByRecursion (EventFits n h.size) (events_of h.entries.items))
    (sym (length-map h.start.items (λ block. block.items))) kept.fits)

-- the blocks that are read are as many, and each has the size of a block
pub seen-count : (h : Inside) → IsKept h → length h.seen.items ≡ length h.start.items
seen-count h kept =
    sym (length-map h.seen.items (λ block. block.items)) ∙ ap length kept.seen
    ∙ (sized h kept).length_is ∙ length-map h.start.items (λ block. block.items)

-- what stands at a place of the blocks that are read
pub seen-block : (h : Inside) → IsKept h → (n : ℕ) (block : Vec ℕ Global)
    → n < length h.start.items → get_or h.seen.items n block ≡ block
    → block.items ≡ block_at (disk_of (past_of h)).seen n
seen-block h kept n block below is =
    ap (λ v. v.items) (sym is) ∙ sym (get_or-map (λ v. v.items) h.seen.items n block []
    (omega (arith, below, seen-count h kept))) ∙ ap (λ bs. block_at bs n) kept.seen

pub seen-size : (h : Inside) → IsKept h → (n : ℕ) (block : Vec ℕ Global) → n < length h.start.items
    → get_or h.seen.items n block ≡ block → length block.items ≡ h.size
seen-size h kept n block below is =
    ap length (seen-block h kept n block below is)
    ∙ (sized h kept).seen n (omega (
      arith,
      below,
      length-map h.start.items (λ block. block.items),
    ))

-- one more event that fits
pub sized-event : (old new : Past) (event : Event) → new ≡ with_event old event
    → EventFits (length old.start) old.size event → IsSized old → IsSized new
sized-event old new event is fits sized =
    subst IsSized (sym is) (subst (λ disk. Sized (length old.start) old.size disk)
    (sym (disk-event old event)) (after-sized (length old.start) old.size event
    (disk_of old) fits sized))
