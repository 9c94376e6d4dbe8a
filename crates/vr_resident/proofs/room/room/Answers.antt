use Rattle.std.proofs.Common.{◌≡◌, ℕ, List, Option, None, refl, sym, subst, inl, inr}
use Rattle.lru.specs.LruCache.{LruCache}
use Rattle.vr_resident.specs.Places.{AreNone}
use Rattle.vr_resident.specs.declared.place.Place.{Place}
use Rattle.vr_resident.specs.declared.place.Sought.TheVariants.{Empty, Held}
use Rattle.vr_types.specs.Blocks.{Keeps}
use Rattle.vr_resident.specs.Held.{Held as Block, over}
use Rattle.vr_resident.specs.Cache.{entries_of, held_by}
use Rattle.vr_resident.specs.Table.{IsLastOf}
use Rattle.vr_resident.specs.declared.frames.Frames.{Frames}
use Rattle.vr_resident.proofs.Entries.{none_of}
use Rattle.vr_resident.proofs.Over.{no_call}
use Rattle.vr_resident.proofs.Taking.{last_left, some_held, kept_taken, kept_none}
use Rattle.vr_resident.proofs.room.room.Goals as goal

-- there is no empty frame
no_empty : (frames : Frames) (empty : Option ℕ) → IsLastOf Empty (entries_of frames) empty
    → empty ≡ None → AreNone Empty (entries_of frames)
no_empty frames empty last none = none_of Empty (entries_of frames) empty last none

pub returns-in-Some-clause-after : goal.returns-in-Some-clause-after
returns-in-Some-clause-after g c =
    let d = g.D.BlockDevice.seen c.args.device.now in
    let hs = held_by c.args.frames.now in
    no_call g.D.BlockDevice.tells d hs hs
    (λ told image left. g.met.D.BlockDevice.images_may c.args.device.now image told left)
    (λ told. refl) (λ n b is. is)

pub returns-in-Some-take_frame-clause-after : goal.returns-in-Some-take_frame-clause-after
returns-in-Some-take_frame-clause-after g c =
    let d = g.D.BlockDevice.seen c.args.device.now in
    let hs = held_by c.args.frames.now in
    subst (λ (next : List Block). Keeps g.D.BlockDevice.tells (over d hs) (over d next))
    (sym (kept_taken g.D.BlockDevice.tells d c.args.frames.now c.take_frame.new.frames
    (no_empty c.args.frames.now c.args.last.empty c.requires.last.1.empty c.in_default.is)
    c.in-Some-take_frame.ensures.got c.take_frame.ensures.seated
    c.requires.kept).0.held)
    (no_call g.D.BlockDevice.tells d hs hs
    (λ told image left. g.met.D.BlockDevice.images_may c.args.device.now image told left)
    (λ told. refl) (λ n b is. is))

pub unwrap-number-requires : goal.unwrap-number-requires
unwrap-number-requires g c =
    let t = c.in_default-take_frame.ensures in
    some_held c.take_frame.new.frames c.args.last.held
    (kept_none g.D.BlockDevice.tells (g.D.BlockDevice.seen c.args.device.now) c.args.frames.now
    c.take_frame.new.frames t.none c.take_frame.ensures.seat c.take_frame.ensures.seated
    c.requires.kept).framed
    (subst (λ (x : LruCache ℕ Place). AreNone Empty x.entries) (sym t.none.0)
    (no_empty c.args.frames.now c.args.last.empty c.requires.last.1.empty c.in_default.is))
    (subst (λ (x : LruCache ℕ Place). IsLastOf Held x.entries c.args.last.held)
    (sym t.none.0) c.requires.last.1.held)

pub returns-in-Ok-clause-ok : goal.returns-in-Ok-clause-ok
returns-in-Ok-clause-ok g c =
    inr (inr (last_left c.args.frames.now c.take_frame.new.frames c.evict.new.frames
    c.unwrap-number.result (no_empty c.args.frames.now c.args.last.empty
    c.requires.last.1.empty c.in_default.is) c.in_default-take_frame.ensures.none
    c.take_frame.ensures.seat c.in-Ok.ensures.ok))

pub returns-in-Some-take_frame-clause-ok : goal.returns-in-Some-take_frame-clause-ok
returns-in-Some-take_frame-clause-ok g c =
    inr (inl (kept_taken g.D.BlockDevice.tells (g.D.BlockDevice.seen c.args.device.now)
    c.args.frames.now c.take_frame.new.frames (no_empty c.args.frames.now c.args.last.empty
    c.requires.last.1.empty c.in_default.is) c.in-Some-take_frame.ensures.got
    c.take_frame.ensures.seated c.requires.kept).0)
