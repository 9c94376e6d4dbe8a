-- One step of the loops over a device's past.
use Rattle.std.proofs.Common.{◌≡◌, ⊎_elim, ◌<◌, ◌-◌, ℕ, false, true≢false, Option, Some}
use Rattle.std.proofs.Common.{None, Bor, is_none, is_some, option_copied, slice_get, drop, take_all}
use Rattle.std.proofs.Common.{length-drop, zero, suc, ◌+◌, List, [], ◌∷◌, ◌++◌, length, get_or}
use Rattle.std.proofs.Common.{take, map, set, Vec, refl, sym, ap, subst, ◌∙◌, arith}
use Rattle.std.specs.List.{AllByRecursion}
use Rattle.std.specs.declared.alloc.Global.{Global}
use Rattle.std.proofs.lemmas.Option.{slice_get_cases}
use Rattle.vr_types.specs.Image.{Block}
use Rattle.std.proofs.lemmas.List.{drop-map, map-append, take-map, map-set, take_more}
use Rattle.vr_device.specs.Disk.{Disk}
use Rattle.vr_device.specs.Past.{Event, wrote, failed, forced, after, after_all, EventFits}
use Rattle.vr_device.specs.Past.{IsWithin}
use Rattle.vr_device.specs.PastEvent.{blocks_of, event_of, events_of}
use Rattle.vr_device.specs.declared.past.PastEvent.{PastEvent}
use Rattle.vr_device.specs.declared.past.PastEvent.TheVariants.{Wrote, Failed, Forced}
use Rattle.vr_device.proofs.Events.{after_all-append}

-- the first i + 1 are the first i and this one
pub take_next : {X : Type 0} (xs : List X) (i : ℕ) (x : X) → i < length xs → x ≡ get_or xs i x
    → take (i + 1) xs ≡ take i xs ++ x ∷ []
take_next xs i x below is = take_more xs i x below ∙ ap (λ y. take i xs ++ y ∷ []) (sym is)

pub taken-copied : (blocks copy : List (Vec ℕ Global)) (i : ℕ) (block : Vec ℕ Global)
    (bytes : Vec ℕ Global) → i < length blocks → block ≡ get_or blocks i block
    → bytes.items ≡ block.items
    → blocks_of copy ≡ take i (blocks_of blocks)
    → blocks_of (copy ++ bytes ∷ []) ≡ take (i + 1) (blocks_of blocks)
taken-copied blocks copy i block bytes below is same so_far =
    map-append (λ b. b.items) copy (bytes ∷ [])
    ∙ ap (λ l. l ++ bytes.items ∷ []) (so_far ∙ take-map (λ b. b.items) i blocks)
    ∙ ap (λ l. map (λ (b : Vec ℕ Global). b.items) (take i blocks) ++ l ∷ []) same
    ∙ sym (map-append (λ b. b.items) (take i blocks) (block ∷ []))
    ∙ ap blocks_of (sym (take_next blocks i block below is))
    ∙ sym (take-map (λ b. b.items) (i + 1) blocks)

-- one more event on the blocks that are read
pub seen-next : (entries : List PastEvent) (i : ℕ) (entry : PastEvent) (disk : Disk)
    → i < length entries → entry ≡ get_or entries i entry
    → after_all (events_of (take (i + 1) entries)) disk ≡ after (event_of entry)
    (after_all (events_of (take i entries)) disk)
seen-next entries i entry disk below is =
    ap (λ es. after_all (events_of es) disk) (take_next entries i entry below is)
    ∙ ap (λ es. after_all es disk) (map-append event_of (take i entries) (entry ∷ []))
    ∙ after_all-append (events_of (take i entries)) (event_of entry ∷ []) disk

pub within-at : (count : ℕ) (entries : List PastEvent) (i : ℕ) (entry : PastEvent)
    → AllByRecursion (IsWithin count) (events_of entries) → i < length entries
    → entry ≡ get_or entries i entry → IsWithin count (event_of entry)
within-at count [] i entry all below is = absurd (omega (arith, below))
within-at count (e ∷ entries) zero entry all below is =
    subst (λ x. IsWithin count (event_of x)) (sym is) all.0
within-at count (e ∷ entries) (suc i) entry all below is =
    within-at count entries i entry all.1 (omega (arith, below)) is

pub within-take : (count size : ℕ) (events : List Event) (k : ℕ)
    → AllByRecursion (EventFits count size) events → AllByRecursion (IsWithin count) (take k events)
within-take count size events zero all = tt
within-take count size [] (suc k) all = tt
within-take count size (wrote n bytes ∷ events) (suc k) all =
    (all.0.0, within-take count size events k all.1)
within-take count size (failed n bytes ∷ events) (suc k) all =
    (all.0.0, within-take count size events k all.1)
within-take count size (forced ∷ events) (suc k) all = (tt, within-take count size events k all.1)

-- a write that succeeded, on the blocks that are read
pub seen-wrote : (blocks : List (Vec ℕ Global)) (n : ℕ) (bytes : Vec ℕ Global)
    (wrote_bytes : Vec ℕ Global) (entry : PastEvent) (disk : Disk) → entry ≡ Wrote n wrote_bytes
    → bytes.items ≡ wrote_bytes.items
    → blocks_of blocks ≡ disk.seen → blocks_of (set blocks n bytes) ≡
    (after (event_of entry) disk).seen
seen-wrote blocks n bytes wrote_bytes entry disk is same so_far =
    map-set (λ b. b.items) blocks n bytes ∙ ap (λ l. set l n bytes.items) so_far
    ∙ ap (λ b. set disk.seen n b) same
    ∙ ap (λ e. (after (event_of e) disk).seen) (sym is)

-- any other event leaves them
pub seen-other : (entry : PastEvent) (disk : Disk)
    → ((n : ℕ) (bytes : Vec ℕ Global) → entry ≡ Wrote n bytes → ⊥)
    → (after (event_of entry) disk).seen ≡ disk.seen
seen-other (Wrote n bytes) disk not = absurd (not n bytes refl)
seen-other (Failed n bytes) disk not = refl
seen-other Forced disk not = refl

-- what a history keeps, as the contents that a choice names
pub since-is : (entries : List PastEvent) (k : ℕ)
    → events_of (take (length entries - k) (drop k entries)) ≡ drop k (events_of entries)
since-is entries k =
    ap events_of (take_all (length entries - k) (drop k entries)
    (omega (arith, length-drop k entries))) ∙ sym (drop-map event_of k entries)

pub named : (r : Option (Bor (List ℕ))) (xs : List Block) (k : ℕ)
    → option_copied r ≡ slice_get xs k → is_none r ≡ false → k < length xs
named None xs k is some = absurd (true≢false some)
named (Some b) xs k is some = ⊎_elim (λ found. found.1) (λ past. absurd (some_none (is ∙ past.1)))
    (slice_get_cases xs k).1
  where
    some_none : Some b.now ≡ None → ⊥
    some_none e = true≢false (ap is_some e)
