-- What calls leave of blocks that are held over a device: what is seen of them, and what always
-- holds of the list of those that are held.
use Rattle.std.proofs.Common.{◌≡◌, ◌⊎◌, inl, inr, ⊎_elim, ◌<◌, ℕ, Bool, true, false, IsTrue, List}
use Rattle.std.proofs.Common.{[], ◌∷◌, ◌++◌, refl, sym, ap, ◌∙◌, subst, arith, length, slice_set}
use Rattle.std.proofs.Common.{get_or-set_same}
use Rattle.std.specs.List.{AllByRecursion}
use Rattle.vr_types.specs.Image.{Block, Image, IsImage, MayAlso, block_at}
use Rattle.vr_types.specs.Seen.{Seen, Left}
use Rattle.vr_types.specs.Moments.{During}
use Rattle.vr_types.specs.Blocks.{Keeps, Puts}
use Rattle.vr_resident.specs.Held.{Held, IsHeld, IsOther, overlay, IsChanged, AreClean, clean, over}
use Rattle.vr_resident.specs.Seeing.{left_over}
use Rattle.vr_resident.proofs.Held.{all_at, all_rest, all_with, once_other, once_rest, once_same}
use Rattle.vr_resident.proofs.Held.{clean_past, overlay-written, overlay-absorbs, overlay-clean}
use Rattle.vr_resident.proofs.Held.{changed_here, changed_clean, changed_more}

module _ (tells : Bool) where
  module _ (device : Seen) (held next : List Held) (within : IsTrue tells → (image : Image)
      → device.images device.moment image → Left device image) where
    none_during : (P : Image → Type 0) → IsTrue tells
        → ((image : Image) → Left device image → P image)
        → During (over device held) (over device next) P
    none_during P told holds = record {
      forward = omega arith;
      passed = λ t image past. (λ left. left, λ left. left);
      kept = λ image left. left;
      each = λ t image from to left. let now : t ≡ device.moment = omega (arith, from, to) in
          holds image (within told image (subst (λ s. device.images s image) now left));
    }

    -- no call of the device: the list changes, and what is read does not
    pub no_call : (IsTrue tells → overlay device.cur next ≡ overlay device.cur held)
        → ((n : ℕ) (b : Block) → IsChanged next n b → IsChanged held n b)
        → Keeps tells (over device held) (over device next)
    no_call reads fewer = record {
      count_same = refl;
      size_same = refl;
      content = reads;
      adds_none = λ told n block below may. ⊎_elim (λ old. inl old) (λ new. inr (fewer n block new))
          may;
      moments = λ told. none_during (Left (over device held)) told (left_over device held);
    }

    -- a block is put, and stays in its frame
    pub put_only : (n : ℕ) (bytes : Block)
        → (IsTrue tells → overlay device.cur next ≡ slice_set (overlay device.cur held) n bytes)
        → ((m : ℕ) (b : Block) → IsChanged next m b → IsChanged held m b ⊎ ((m ≡ n) × (b ≡ bytes)))
        → Puts tells n bytes (over device held) (over device next)
    put_only n bytes reads adds = record {
      count_same = refl;
      size_same = refl;
      content = λ told. inr (reads told);
      adds = λ told m block below may. ⊎_elim (λ old. inl (inl old))
          (λ new. ⊎_elim (λ old. inl (inr old)) (λ put. inr put) (adds m block new)) may;
      moments = λ told. none_during (IsImage device.count (MayAlso (over device held).may n bytes))
          told (λ image left. record {
            length_is = left.length_is;
            each =
                λ m below. inl (inl (left.each m below));
          });
    }

  module _ (device after : Seen) (held next : List Held) where
    -- a read or a sync of the device
    pub keeps_over : Keeps tells device after → Keeps tells (over device held) (over after held)
    keeps_over call = record {
      count_same = call.count_same;
      size_same = call.size_same;
      content = λ told. ap (λ (i : Image). overlay i held) (call.content told);
      adds_none = λ told n block below may. ⊎_elim
          (λ old. inl (call.adds_none told n block below old)) (λ new. inr new) may;
      moments = λ told. let d = call.moments told in record {
        forward = d.forward;
        passed = d.passed;
        kept = d.kept;
        each = λ t image from to left. left_over device held image (d.each t image from to left);
      };
    }

    -- a write of a block that is changed, failing or not
    pub write_over : (m : ℕ) (bytes : Block) → Puts tells m bytes device after
        → IsChanged held m bytes
        → (IsTrue tells → overlay after.cur next ≡ overlay device.cur held)
        → ((n : ℕ) (b : Block) → IsChanged next n b → IsChanged held n b)
        → Keeps tells (over device held) (over after next)
    write_over m bytes call is_changed reads fewer = record {
      count_same = call.count_same;
      size_same = call.size_same;
      content = reads;
      adds_none = λ told n block below may. ⊎_elim
          (λ old. also n block (call.adds told n block below old)) (λ new. inr (fewer n block new))
          may;
      moments = λ told. let d = call.moments told in record {
        forward = d.forward;
        passed = d.passed;
        kept = d.kept;
        each = λ t image from to left. let i = d.each t image from to left in
            record {
              length_is = i.length_is;
              each =
                  λ n below. also n (block_at image n) (i.each n below);
            };
      };
    }
      where
        also : (n : ℕ) (block : Block) → MayAlso device.may m bytes n block → device.may n block
            ⊎ IsChanged held n block
        also n block may =
            ⊎_elim (λ old. inl old)
            (λ new. inr (subst (λ (k : ℕ). IsChanged held k block) (sym new.0)
            (subst (λ (b : Block). IsChanged held m b) (sym new.1) is_changed))) may

  -- what always holds, where the list changes
  module _ (device : Seen) (h : Held) (xs ys : List Held) where
    pub held_front : IsHeld tells device (xs ++ h ∷ ys) → IsHeld tells device (h ∷ xs ++ ys)
    held_front is = record {
      below = (all_at _ h xs ys is.below, all_rest _ h xs ys is.below);
      once = (once_other h xs ys is.once, once_rest h xs ys is.once);
      are_clean = λ told.
          (all_at _ h xs ys (is.are_clean told), all_rest _ h xs ys (is.are_clean told));
    }

    pub held_rest : IsHeld tells device (xs ++ h ∷ ys) → IsHeld tells device (xs ++ ys)
    held_rest is = record {
      below = all_rest _ h xs ys is.below;
      once = once_rest h xs ys is.once;
      are_clean = λ told. all_rest _ h xs ys (is.are_clean told);
    }

    pub held_put : (k : Held) → k.block ≡ h.block → k.changed ≡ true
        → IsHeld tells device (xs ++ h ∷ ys) → IsHeld tells device (k ∷ xs ++ ys)
    held_put k same marked is = record {
      below = (
        subst (λ (n : ℕ). n < device.count) (sym same)
            (all_at (λ j. j.block < device.count) h xs ys is.below),
        all_rest _ h xs ys is.below,
      );
      once = (
        subst (λ (n : ℕ). IsOther n (xs
            ++ ys)) (sym same) (once_other h xs ys is.once),
        once_rest h xs ys is.once,
      );
      are_clean = λ told. ((λ unmarked. cc), all_rest _ h xs ys (is.are_clean told));
    }

  pub held_more : (device : Seen) (h : Held) (held : List Held) → h.block < device.count
      → IsOther h.block held
      → (IsTrue tells → h.changed ≡ false → h.bytes ≡ block_at device.cur h.block)
      → IsHeld tells device held → IsHeld tells device (h ∷ held)
  held_more device h held below other is_clean is = record {
    below = (below, is.below);
    once = (other, is.once);
    are_clean = λ told. (is_clean told, is.are_clean told);
  }

  pub held_after : (device after : Seen) (held : List Held) → Keeps tells device after
      → IsHeld tells device held → IsHeld tells after held
  held_after device after held call is = record {
    below = subst (λ (n : ℕ). AllByRecursion (λ (h : Held). h.block < n) held) (sym call.count_same)
        is.below;
    once = is.once;
    are_clean = λ told. subst (λ (i : Image). AreClean i held) (sym (call.content told))
        (is.are_clean told);
  }

  -- a write of a changed block
  module _ (device after : Seen) (h : Held) (xs ys : List Held) (marked : h.changed ≡ true)
      (call : Puts tells h.block h.bytes device after) (is : IsHeld tells device (xs
      ++ h ∷ ys)) where
    other : IsOther h.block (xs ++ ys)
    other = once_other h xs ys is.once

    rest_clean : IsTrue tells → AreClean after.cur (xs ++ ys)
    rest_clean told = ⊎_elim
        (λ same. subst (λ (i : Image). AreClean i (xs
        ++ ys)) (sym same) (all_rest _ h xs ys (is.are_clean told)))
        (λ new. subst (λ (i : Image). AreClean i (xs ++ ys)) (sym new) (clean_past device.cur (xs
        ++ ys) h.block h.bytes other (all_rest _ h xs ys (is.are_clean told))))
        (call.content told)

    still_below : AllByRecursion (λ (k : Held). k.block < after.count) (xs ++ h ∷ ys)
    still_below = subst (λ (n : ℕ). AllByRecursion (λ (k : Held). k.block < n) (xs
        ++ h ∷ ys)) (sym call.count_same) is.below

    -- it failed: the block stays changed
    pub held_unwritten : IsHeld tells after (xs ++ h ∷ ys)
    held_unwritten = record {
      below = still_below;
      once = is.once;
      are_clean = λ told. all_with (λ k. k.changed ≡ false
          → k.bytes ≡ block_at after.cur k.block) h xs ys (λ unmarked. cc) (rest_clean told);
    }

    pub unwritten_over : Keeps tells (over device (xs ++ h ∷ ys)) (over after (xs ++ h ∷ ys))
    unwritten_over =
        write_over device after (xs ++ h ∷ ys) (xs
        ++ h ∷ ys) h.block h.bytes call (changed_here h xs ys marked)
        (λ told. ⊎_elim (λ same. ap (λ (i : Image). overlay i (xs
        ++ h ∷ ys)) same) (λ new. ap (λ (i : Image). overlay i (xs ++ h ∷ ys)) new
        ∙ overlay-absorbs device.cur h xs ys marked other) (call.content told))
        (λ n b is_changed. is_changed)

    module _ (written : IsTrue tells
        → after.cur ≡ slice_set device.cur h.block h.bytes) (long : IsTrue tells
        → length device.cur ≡ device.count) where
      -- it is clean
      pub held_written : IsHeld tells after (xs ++ clean h ∷ ys)
      held_written = record {
        below = all_with (λ k. k.block < after.count) (clean h) xs ys
            (all_at (λ k. k.block < after.count) h xs ys still_below)
            (all_rest _ h xs ys still_below);
        once = once_same h (clean h) xs ys refl is.once;
        are_clean = λ told. all_with (λ k. k.changed ≡ false
            → k.bytes ≡ block_at after.cur k.block) (clean h) xs ys
            (λ unmarked. sym (ap (λ (i : Image). block_at i h.block) (written told)
            ∙ get_or-set_same device.cur h.block h.bytes []
            (omega (arith, long told, all_at (λ k. k.block < device.count) h xs ys is.below))))
            (rest_clean told);
      }

      pub written_over : Keeps tells (over device (xs ++ h ∷ ys)) (over after (xs ++ clean h ∷ ys))
      written_over =
          write_over device after (xs ++ h ∷ ys) (xs
          ++ clean h ∷ ys) h.block h.bytes call (changed_here h xs ys marked)
          (λ told. overlay-clean after.cur (clean h) xs ys refl
          ∙ ap (λ (i : Image). overlay i (xs ++ ys)) (written told)
          ∙ overlay-written device.cur h xs ys marked other)
          (changed_clean h xs ys)

      -- or it leaves
      pub held_left : IsHeld tells after (xs ++ ys)
      held_left = record {
        below = all_rest _ h xs ys still_below;
        once = once_rest h xs ys is.once;
        are_clean = rest_clean;
      }

      pub left_written : Keeps tells (over device (xs ++ h ∷ ys)) (over after (xs ++ ys))
      left_written =
          write_over device after (xs ++ h ∷ ys) (xs
          ++ ys) h.block h.bytes call (changed_here h xs ys marked)
          (λ told. ap (λ (i : Image). overlay i (xs ++ ys)) (written told)
          ∙ overlay-written device.cur h xs ys marked other)
          (changed_more h xs ys)
