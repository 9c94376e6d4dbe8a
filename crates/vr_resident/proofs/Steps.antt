-- Calls one after the other.
use Rattle.std.proofs.Common.{◌≡◌, ℕ, Bool, false, IsTrue, List, Result, Ok, Err, OnOk, is_err}
use Rattle.std.specs.Prelude.{IsErrOf}
use Rattle.std.proofs.lemmas.Result.{IfErr-at_err}
use Rattle.std.proofs.Common.{refl, sym, ap, ◌∙◌, subst, true≢false, [], ◌∷◌, length, arith}
use Rattle.std.specs.Borrow.{Bor}
use Rattle.vr_types.specs.Image.{Block, Image, block_at}
use Rattle.vr_types.specs.Seen.{Seen, Left}
use Rattle.vr_types.specs.Blocks.{Keeps, Forced}
use Rattle.vr_types.specs.Faults.{Faults, HasCause}
use Rattle.vr_types.specs.declared.fault.DeviceFault.{DeviceFault}
use Rattle.vr_types.specs.declared.fault.DeviceFault.TheVariants.{Read, Write}
use Rattle.vr_resident.specs.Held.{Held, IsHeld, over, overlay}
use Rattle.vr_resident.specs.Places.{Entry, block_in, held_of}
use Rattle.vr_resident.specs.Cache.{IsKept, KeepsSeat, GetsBlock, StaysEmpty, Got, entries_of}
use Rattle.vr_resident.specs.Cache.{held_by}
use Rattle.vr_resident.specs.Resident.{seen_through}
use Rattle.vr_resident.specs.declared.place.Buffer.{Buffer}
use Rattle.vr_resident.specs.declared.place.Place.TheVariants.{Taken}
use Rattle.vr_resident.specs.declared.frames.Frames.{Frames}
use Rattle.vr_resident.proofs.Held.{overlay-held}
use Rattle.vr_resident.proofs.Over.{no_call, held_after}

pub on_ok : {T E : Type 0} (r : Result T E) (P Q : Type 0) → (P → Q) → OnOk r P → OnOk r Q
on_ok (Ok t) P Q f p = f p
on_ok (Err e) P Q f p = tt

pub got_ok : {T E : Type 0} (r : Result T E) (P : Type 0) → is_err r ≡ false → OnOk r P → P
got_ok (Ok t) P is p = p
got_ok (Err e) P is p = absurd (true≢false is)

pub seat_none : (frames : Frames) → KeepsSeat frames frames
seat_none frames =
    record {
      pool_same = refl;
      size_same = refl;
      same =
          record { same_table = refl; same_id = refl };
      parts = refl;
      others_same = refl;
    }

pub seat_then : (a b c : Frames) → KeepsSeat a b → KeepsSeat b c → KeepsSeat a c
seat_then a b c first second = record {
  pool_same = second.pool_same ∙ first.pool_same;
  size_same = second.size_same ∙ first.size_same;
  same = record {
    same_table = second.same.same_table ∙ first.same.same_table;
    same_id =
        second.same.same_id ∙ first.same.same_id;
  };
  parts = second.parts ∙ first.parts;
  others_same = second.others_same ∙ first.others_same;
}

pub still : (tells : Bool) (device : Seen) (held : List Held)
    → (IsTrue tells → (image : Image) → device.images device.moment image → Left device image)
    → Keeps tells (over device held) (over device held)
still tells device held within = no_call tells device held held within (λ told. refl) (λ n b is. is)

pub kept_after : (tells : Bool) (device after : Seen) (frames : Frames) → Keeps tells device after
    → IsKept tells device frames → IsKept tells after frames
kept_after tells device after frames call kept = record {
  framed = kept.framed;
  size_is = kept.size_is ∙ sym call.size_same;
  held_is = held_after tells device after _ call kept.held_is;
}

-- the blocks held are the same, whichever the size is called
pub same_held : (device : Seen) (frames : Frames) → frames.size ≡ device.size
    → held_of device.size (entries_of frames) ≡ held_by frames
same_held device frames is = ap (λ (n : ℕ). held_of n (entries_of frames)) (sym is)

pub keeps_through : (tells : Bool) (d e : Seen) (f h : Frames) → f.size ≡ d.size → h.size ≡ e.size
    → Keeps tells (over d (held_by f)) (over e (held_by h))
    → Keeps tells (seen_through d f) (seen_through e h)
keeps_through tells d e f h one two call =
    subst (λ (hs : List Held). Keeps tells (over d hs) (seen_through e h)) (sym (same_held d f one))
    (subst (λ (hs : List Held). Keeps tells (over d (held_by f)) (over e hs))
    (sym (same_held e h two)) call)

pub forced_through : {T E : Type 0} (r : Result T E) (listed : List ℕ) (d e : Seen) (f h : Frames)
    → f.size ≡ d.size → h.size ≡ e.size
    → OnOk r (Forced listed (over d (held_by f)).cur (over e (held_by h)).may)
    → OnOk r (Forced listed (seen_through d f).cur (seen_through e h).may)
forced_through r listed d e f h one two call =
    subst (λ (hs : List Held). OnOk r (Forced listed (over d hs).cur (seen_through e h).may))
    (sym (same_held d f one))
    (subst (λ (hs : List Held). OnOk r (Forced listed (over d (held_by f)).cur (over e hs).may))
    (sym (same_held e h two)) call)

-- what is read of the first block
pub first_content : (tells : Bool) (device : Seen) (frames : Frames) (n number : ℕ) (changed : Bool)
    (buffer : Buffer) (rest : List Entry) → IsKept tells device frames
    → entries_of frames ≡ (number, Taken n changed buffer) ∷ rest → IsTrue tells
    → length device.cur ≡ device.count
    → block_at (overlay device.cur (held_by frames)) n ≡ block_in frames.size buffer
first_content tells device frames n number changed buffer rest kept split told long =
    let h : Held = record { block = n; bytes = block_in frames.size buffer; changed = changed } in
    let held : held_by frames ≡ h ∷ held_of frames.size rest = ap (held_of frames.size) split in
    let there : IsHeld tells device (h ∷ held_of frames.size rest) =
    subst (IsHeld tells device) held kept.held_is in
    ap (λ (hs : List Held). block_at (overlay device.cur hs) n) held
    ∙ overlay-held device.cur h [] (held_of frames.size rest) (omega (arith, there.below.0, long))
    there.once.0 (there.are_clean told).0

-- the fault is the same, whatever the call would have answered without one
same_fault : {T U : Type 0} (fault e : DeviceFault) → IsErrOf {T = T} (Err fault) e
    → IsErrOf {T = U} (Err fault) e
same_fault {T} {U} fault e is = ap Err (IfErr-at_err (λ x. fault ≡ x) is refl)

pub cause_err : {T U : Type 0} (before now : Faults) (fault : DeviceFault)
    → HasCause {T = T} before now (Err fault) → HasCause {T = U} before now (Err fault)
cause_err {T} {U} before now fault call = record {
  reads = call.reads;
  writes = call.writes;
  ok = tt;
  read = λ is. call.read (same_fault {T = U} {U = T} fault Read is);
  write = λ is. call.write (same_fault {T = U} {U = T} fault Write is);
  unwritten = λ is. call.unwritten (same_fault {T = U} {U = T} fault Read is);
}

-- what a `get` leaves, with its block and without one
pub gets_ok : (n number : ℕ) (changed : Bool) (buffer : Buffer) (rest : List Entry) (x : Bor Block)
    (old new : Frames) → GetsBlock n old new
    → entries_of new ≡ (number, Taken n changed buffer) ∷ rest → x.now ≡ block_in new.size buffer
    → KeepsSeat old new → Got n (Ok x) old new
gets_ok n number changed buffer rest x old new first split bytes seat = record {
  first = first;
  lent = record {
    changed = changed;
    rest = held_of new.size rest;
    held = ap (held_of new.size) split
        ∙ ap (λ (b : Block). record { block = n; bytes = b; changed = changed }
        ∷ held_of new.size rest) (sym bytes);
  };
  unread = λ is. IfErr-at_err (λ _. StaysEmpty old new) is tt;
  unwritten = λ is. IfErr-at_err (λ _. new.table ≡ old.table) is tt;
  seat = seat;
}

pub gets_err : {T : Type 0} (n : ℕ) (fault : DeviceFault) (old new : Frames)
    → (IsErrOf {T = T} (Err fault) Read → StaysEmpty old new)
    → (IsErrOf {T = T} (Err fault) Write → new.table ≡ old.table) → KeepsSeat old new
    → Got n (Err fault) old new
gets_err {T} n fault old new unread unwritten seat = record {
  first = tt;
  lent = tt;
  unread = λ is. unread (same_fault {U = T} fault Read is);
  unwritten = λ is. unwritten (same_fault {U = T} fault Write is);
  seat = seat;
}
