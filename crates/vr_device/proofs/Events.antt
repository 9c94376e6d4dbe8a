-- What a call leaves of what is seen of a past: one more event, or none.
use Rattle.std.proofs.Common.{◌≡◌, ◌⊎◌, inl, inr, ⊎_elim, ℕ, ◌+◌, ◌≤◌, ◌<◌, List, [], ◌∷◌, ◌++◌}
use Rattle.std.proofs.Common.{length, true, refl, sym, ap, subst, ◌∙◌, arith, length-append}
use Rattle.std.proofs.lemmas.Bool.{cases_lt}
use Rattle.std.proofs.lemmas.List.{take-append-le}
use Rattle.vr_types.specs.Image.{Block, Image, IsImage, block_at}
use Rattle.vr_types.specs.Seen.{Left}
use Rattle.vr_types.specs.Moments.{During}
use Rattle.vr_types.specs.Blocks.{Keeps, Puts}
use Rattle.vr_types.proofs.CallerLemmas.{keeps-none, keeps-puts}
use Rattle.vr_device.specs.Disk.{Disk, MayHold, written, synced}
use Rattle.vr_device.specs.Choices.{MayHold-written, MayHold-synced, IsReadable}
use Rattle.vr_device.specs.Past.{Event, wrote, failed, forced, after, after_all, fresh, Past}
use Rattle.vr_device.specs.Past.{disk_of, ImageAt, with_event, seen_of}
use Rattle.vr_device.specs.Readable.{images-now, readable-of}

pub after_all-append : (xs ys : List Event) (disk : Disk)
    → after_all (xs ++ ys) disk ≡ after_all ys (after_all xs disk)
after_all-append [] ys disk = refl
after_all-append (x ∷ xs) ys disk = after_all-append xs ys (after x disk)

pub disk-event : (past : Past) (event : Event)
    → disk_of (with_event past event) ≡ after event (disk_of past)
disk-event past event = after_all-append past.events (event ∷ []) (fresh past.start)

image-earlier : (past : Past) (event : Event) (t : ℕ) (image : Image) → t ≤ length past.events
    → ImageAt (with_event past event) t image ≡ ImageAt past t image
image-earlier past event t image le = ap
    (λ es. IsImage (length past.start) (MayHold (after_all es (fresh past.start))) image)
    (take-append-le t past.events (event ∷ []) le)

cast : {A B : Type 0} → A ≡ B → A → B
cast same a = subst (λ T. T) same a

-- one more event: the moment before it and the moment after it have P
during-event : (past : Past) (event : Event) (P : Image → Type 0)
    → ((image : Image) → Left (seen_of past) image → P image)
    → ((image : Image) → IsImage (length past.start) (MayHold (after event (disk_of past))) image
    → P image)
    → During (seen_of past) (seen_of (with_event past event)) P
during-event past event P here then =
    let now : length (past.events ++ event ∷ []) ≡ length past.events + 1 =
    length-append past.events (event ∷ []) in
    record {
      forward = omega (arith, now);
      passed = λ t image before.
          let same = image-earlier past event t image (omega (arith, before)) in
          (λ left. cast same left, λ left. cast (sym same) left);
      kept = λ image left. cast (sym (image-earlier past event (length past.events) image
          (omega arith))) left;
      each = λ t image from to left. ⊎_elim
          (λ before.
          let at : t ≡ length past.events = omega (arith, before, from) in
          here image (images-now past image (subst (λ s. ImageAt past s image) at
          (cast (image-earlier past event t image (omega (arith, before))) left))))
          (λ later.
          let at : t ≡ length (past.events ++ event ∷ []) = omega (arith, now, later, to) in
          then image (subst (λ d. IsImage (length past.start) (MayHold d) image)
          (disk-event past event)
          (images-now (with_event past event) image
          (subst (λ s. ImageAt (with_event past event) s image) at left))))
          (cases_lt t (length past.events + 1));
    }

-- no event
pub keeps-same : (past : Past) → Keeps true (seen_of past) (seen_of past)
keeps-same past = keeps-none true (seen_of past) (λ told image left. images-now past image left)

-- a sync that succeeded
pub keeps-forced : (past : Past) → Keeps true (seen_of past) (seen_of (with_event past forced))
keeps-forced past =
    let readable : IsReadable (length past.start) (disk_of past) = readable-of past in
    let before : (n : ℕ) (block : Block) → n < length past.start
    → MayHold (synced (disk_of past)) n block → MayHold (disk_of past) n block =
    λ n block below holds. subst (λ b. MayHold (disk_of past) n b)
    (sym (MayHold-synced (disk_of past) n block holds)) (readable.each n below) in
    record {
      count_same = refl;
      size_same = refl;
      content = λ told. ap (λ d. d.seen) (disk-event past forced);
      adds_none = λ told n block below holds. before n block below
          (subst (λ d. MayHold d n block) (disk-event past forced) holds);
      moments = λ told. during-event past forced (Left (seen_of past)) (λ image left. left)
          (λ image left. record {
            length_is = left.length_is;
            each = λ n below. before n (block_at image n) below (left.each n below);
          });
    }

-- a write that succeeded or failed: it adds its bytes to what the block may hold
puts-event : (past : Past) (event : Event) (n : ℕ) (bytes : Block)
    → (after event (disk_of past)).stable ≡ (disk_of past).stable
    → (after event (disk_of past)).writes ≡ (written (disk_of past) n bytes).writes
    → ((after event (disk_of past)).seen ≡ (disk_of past).seen)
    ⊎ ((after event (disk_of past)).seen ≡ (written (disk_of past) n bytes).seen)
    → Puts true n bytes (seen_of past) (seen_of (with_event past event))
puts-event past event n bytes stable writes seen =
    let also : (m : ℕ) (block : Block) → MayHold (after event (disk_of past)) m block
    → MayHold (written (disk_of past) n bytes) m block =
    λ m block holds. subst (λ (w : List (ℕ × Block)). MayHold
    (record {
      seen = (written (disk_of past) n bytes).seen;
      stable = (disk_of past).stable;
      writes = w;
    }) m block) writes
    (subst (λ (s : Image). MayHold (record {
      seen = (written (disk_of past) n bytes).seen;
      stable = s;
      writes = (after event (disk_of past)).writes;
    }) m block) stable holds) in
    record {
      count_same = refl;
      size_same = refl;
      content = λ told. ⊎_elim (λ same. inl (ap (λ d. d.seen) (disk-event past event) ∙ same))
          (λ new. inr (ap (λ d. d.seen) (disk-event past event) ∙ new)) seen;
      adds = λ told m block below holds. MayHold-written (disk_of past) n bytes m block
          (also m block (subst (λ d. MayHold d m block) (disk-event past event) holds));
      moments = λ told. during-event past event _
          (λ image left. record {
            length_is = left.length_is;
            each = λ m below. inl (left.each m below);
          })
          (λ image left. record {
            length_is = left.length_is;
            each = λ m below. MayHold-written (disk_of past) n bytes m (block_at image m)
                (also m (block_at image m) (left.each m below));
          });
    }

pub puts-wrote : (past : Past) (n : ℕ) (bytes : Block)
    → Puts true n bytes (seen_of past) (seen_of (with_event past (wrote n bytes)))
puts-wrote past n bytes = puts-event past (wrote n bytes) n bytes refl refl (inr refl)

pub puts-failed : (past : Past) (n : ℕ) (bytes : Block)
    → Puts true n bytes (seen_of past) (seen_of (with_event past (failed n bytes)))
puts-failed past n bytes = puts-event past (failed n bytes) n bytes refl refl (inl refl)

-- a write that did nothing
pub puts-none : (past : Past) (n : ℕ) (bytes : Block)
    → Puts true n bytes (seen_of past) (seen_of past)
puts-none past n bytes = keeps-puts true n bytes (seen_of past) (seen_of past) (keeps-same past)
