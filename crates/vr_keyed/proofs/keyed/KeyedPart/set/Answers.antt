use Rattle.std.proofs.Common.{◌≡◌, IsTrue, List, ℕ, All, rules, sym, ap, subst}
use Rattle.std.specs.Prelude.{IfErr}
use Rattle.std.proofs.lemmas.Result.{IfErr-weaker}
use Rattle.vr_types.specs.Blocks.{Keeps}
use Rattle.vr_types.specs.Seen.{Left}
use Rattle.vr_types.specs.declared.fault.DeviceFault.TheVariants.{Read, Write}
use Rattle.vr_space.specs.Areas.{IsChainOn, KeyedChain}
use Rattle.vr_space.specs.Known.{Known}
use Rattle.vr_space.specs.Part.{DueMoreAt, InHeld, KeyedShape, Knows, SameStages, Stands, given}
use Rattle.vr_space.specs.Part.{part_no}
use Rattle.vr_space.specs.Room.{Lengths}
use Rattle.vr_space.proofs.CallerLemmas.{resting-stands}
use Rattle.vr_attach.specs.Areas.{AreasNow}
use Rattle.vr_keyed.specs.Changed.{IsReadyIn, IsSetIn, MaySetIn}
use Rattle.vr_keyed.specs.Owned.{InAreas, Owned, Splitting, known_in, known_of}
use Rattle.vr_keyed.specs.Ready.{put_of}
use Rattle.vr_keyed.specs.Slots.{HasMetPlace, mets, most_kept}
use Rattle.vr_keyed.proofs.Known.{blocks-held, ways-still}
use Rattle.vr_keyed.proofs.Most.{known_less, knows-less, knows-most, ready-less}
use Rattle.vr_keyed.proofs.keyed.KeyedPart.set.Goals as goal

pub returns-in_err-put-clause-adds : goal.returns-in_err-put-clause-adds
returns-in_err-put-clause-adds g c told owners still =
    let now = c.args.self.now in
    let chain : AreasNow = c.self.inside.areas in
    let a = g.B.Blocks.seen c.args.blocks.now in
    let b = g.B.Blocks.seen c.set_over.new.blocks in
    let place = c.args.place.now in
    let at : List ℕ = c.as_slice.result.now in
    let item = given c.args.bytes in
    let same : chain.part ≡ now.part = ap (λ (keyed : Owned). keyed.part) c.self.view_is in
    let kept : Lengths = g.K.Kept.kept c.args._kept.now (part_no (KeyedShape now.part)) in
    let splits : Splitting = c.self.inside.splits in
    let old = mets c.self.inside.slots in
    let ready : IsReadyIn chain.part (known_in chain splits old) kept at item a =
    subst (λ (key : List ℕ). IsReadyIn chain.part (known_in chain splits old) kept key item a)
    (sym c.as_slice.ensures)
    (subst (λ (keyed : Owned). IsReadyIn keyed.part (known_less keyed) kept place item a)
    (sym c.self.view_is)
    (ready-less now kept place item a (record {
      rests = c.requires.rests told;
      room = c.requires.room told;
      knows = c.requires.knows told;
      can = c.requires.can told;
      valid = c.requires.record;
    }))) in
    let may : MaySetIn now.part kept place item a b =
    subst (λ (part : KeyedChain). MaySetIn part kept place item a b) same
    (subst (λ (key : List ℕ). MaySetIn chain.part kept key item a b) c.as_slice.ensures
    (c.set_over.ensures.may told kept splits ready)) in
    may.adds owners still

pub returns-in_err-put-clause-room : goal.returns-in_err-put-clause-room
returns-in_err-put-clause-room g c told =
    let now = c.args.self.now in
    let chain : AreasNow = c.self.inside.areas in
    let a = g.B.Blocks.seen c.args.blocks.now in
    let b = g.B.Blocks.seen c.set_over.new.blocks in
    let place = c.args.place.now in
    let at : List ℕ = c.as_slice.result.now in
    let item = given c.args.bytes in
    let same : chain.part ≡ now.part = ap (λ (keyed : Owned). keyed.part) c.self.view_is in
    let kept : Lengths = g.K.Kept.kept c.args._kept.now (part_no (KeyedShape now.part)) in
    let splits : Splitting = c.self.inside.splits in
    let old = mets c.self.inside.slots in
    let ready : IsReadyIn chain.part (known_in chain splits old) kept at item a =
    subst (λ (key : List ℕ). IsReadyIn chain.part (known_in chain splits old) kept key item a)
    (sym c.as_slice.ensures)
    (subst (λ (keyed : Owned). IsReadyIn keyed.part (known_less keyed) kept place item a)
    (sym c.self.view_is)
    (ready-less now kept place item a (record {
      rests = c.requires.rests told;
      room = c.requires.room told;
      knows = c.requires.knows told;
      can = c.requires.can told;
      valid = c.requires.record;
    }))) in
    let may : MaySetIn now.part kept place item a b =
    subst (λ (part : KeyedChain). MaySetIn part kept place item a b) same
    (subst (λ (key : List ℕ). MaySetIn chain.part kept key item a b) c.as_slice.ensures
    (c.set_over.ensures.may told kept splits ready)) in
    may.room

pub returns-in_err-put-clause-rooms : goal.returns-in_err-put-clause-rooms
returns-in_err-put-clause-rooms g c told owners still =
    let now = c.args.self.now in
    let chain : AreasNow = c.self.inside.areas in
    let a = g.B.Blocks.seen c.args.blocks.now in
    let b = g.B.Blocks.seen c.set_over.new.blocks in
    let place = c.args.place.now in
    let at : List ℕ = c.as_slice.result.now in
    let item = given c.args.bytes in
    let same : chain.part ≡ now.part = ap (λ (keyed : Owned). keyed.part) c.self.view_is in
    let kept : Lengths = g.K.Kept.kept c.args._kept.now (part_no (KeyedShape now.part)) in
    let splits : Splitting = c.self.inside.splits in
    let old = mets c.self.inside.slots in
    let ready : IsReadyIn chain.part (known_in chain splits old) kept at item a =
    subst (λ (key : List ℕ). IsReadyIn chain.part (known_in chain splits old) kept key item a)
    (sym c.as_slice.ensures)
    (subst (λ (keyed : Owned). IsReadyIn keyed.part (known_less keyed) kept place item a)
    (sym c.self.view_is)
    (ready-less now kept place item a (record {
      rests = c.requires.rests told;
      room = c.requires.room told;
      knows = c.requires.knows told;
      can = c.requires.can told;
      valid = c.requires.record;
    }))) in
    let may : MaySetIn now.part kept place item a b =
    subst (λ (part : KeyedChain). MaySetIn part kept place item a b) same
    (subst (λ (key : List ℕ). MaySetIn chain.part kept key item a b) c.as_slice.ensures
    (c.set_over.ensures.may told kept splits ready)) in
    may.rooms owners still

pub returns-clause-adds : goal.returns-clause-adds
returns-clause-adds g c told owners still =
    let now = c.args.self.now in
    let chain : AreasNow = c.self.inside.areas in
    let a = g.B.Blocks.seen c.args.blocks.now in
    let b = g.B.Blocks.seen c.set_over.new.blocks in
    let place = c.args.place.now in
    let at : List ℕ = c.as_slice.result.now in
    let item = given c.args.bytes in
    let same : chain.part ≡ now.part = ap (λ (keyed : Owned). keyed.part) c.self.view_is in
    let kept : Lengths = g.K.Kept.kept c.args._kept.now (part_no (KeyedShape now.part)) in
    let splits : Splitting = c.self.inside.splits in
    let old = mets c.self.inside.slots in
    let ready : IsReadyIn chain.part (known_in chain splits old) kept at item a =
    subst (λ (key : List ℕ). IsReadyIn chain.part (known_in chain splits old) kept key item a)
    (sym c.as_slice.ensures)
    (subst (λ (keyed : Owned). IsReadyIn keyed.part (known_less keyed) kept place item a)
    (sym c.self.view_is)
    (ready-less now kept place item a (record {
      rests = c.requires.rests told;
      room = c.requires.room told;
      knows = c.requires.knows told;
      can = c.requires.can told;
      valid = c.requires.record;
    }))) in
    let may : MaySetIn now.part kept place item a b =
    subst (λ (part : KeyedChain). MaySetIn part kept place item a b) same
    (subst (λ (key : List ℕ). MaySetIn chain.part kept key item a b) c.as_slice.ensures
    (c.set_over.ensures.may told kept splits ready)) in
    may.adds owners still

pub returns-clause-room : goal.returns-clause-room
returns-clause-room g c told =
    let now = c.args.self.now in
    let chain : AreasNow = c.self.inside.areas in
    let a = g.B.Blocks.seen c.args.blocks.now in
    let b = g.B.Blocks.seen c.set_over.new.blocks in
    let place = c.args.place.now in
    let at : List ℕ = c.as_slice.result.now in
    let item = given c.args.bytes in
    let same : chain.part ≡ now.part = ap (λ (keyed : Owned). keyed.part) c.self.view_is in
    let kept : Lengths = g.K.Kept.kept c.args._kept.now (part_no (KeyedShape now.part)) in
    let splits : Splitting = c.self.inside.splits in
    let old = mets c.self.inside.slots in
    let ready : IsReadyIn chain.part (known_in chain splits old) kept at item a =
    subst (λ (key : List ℕ). IsReadyIn chain.part (known_in chain splits old) kept key item a)
    (sym c.as_slice.ensures)
    (subst (λ (keyed : Owned). IsReadyIn keyed.part (known_less keyed) kept place item a)
    (sym c.self.view_is)
    (ready-less now kept place item a (record {
      rests = c.requires.rests told;
      room = c.requires.room told;
      knows = c.requires.knows told;
      can = c.requires.can told;
      valid = c.requires.record;
    }))) in
    let may : MaySetIn now.part kept place item a b =
    subst (λ (part : KeyedChain). MaySetIn part kept place item a b) same
    (subst (λ (key : List ℕ). MaySetIn chain.part kept key item a b) c.as_slice.ensures
    (c.set_over.ensures.may told kept splits ready)) in
    may.room

pub returns-clause-rooms : goal.returns-clause-rooms
returns-clause-rooms g c told owners still =
    let now = c.args.self.now in
    let chain : AreasNow = c.self.inside.areas in
    let a = g.B.Blocks.seen c.args.blocks.now in
    let b = g.B.Blocks.seen c.set_over.new.blocks in
    let place = c.args.place.now in
    let at : List ℕ = c.as_slice.result.now in
    let item = given c.args.bytes in
    let same : chain.part ≡ now.part = ap (λ (keyed : Owned). keyed.part) c.self.view_is in
    let kept : Lengths = g.K.Kept.kept c.args._kept.now (part_no (KeyedShape now.part)) in
    let splits : Splitting = c.self.inside.splits in
    let old = mets c.self.inside.slots in
    let ready : IsReadyIn chain.part (known_in chain splits old) kept at item a =
    subst (λ (key : List ℕ). IsReadyIn chain.part (known_in chain splits old) kept key item a)
    (sym c.as_slice.ensures)
    (subst (λ (keyed : Owned). IsReadyIn keyed.part (known_less keyed) kept place item a)
    (sym c.self.view_is)
    (ready-less now kept place item a (record {
      rests = c.requires.rests told;
      room = c.requires.room told;
      knows = c.requires.knows told;
      can = c.requires.can told;
      valid = c.requires.record;
    }))) in
    let may : MaySetIn now.part kept place item a b =
    subst (λ (part : KeyedChain). MaySetIn part kept place item a b) same
    (subst (λ (key : List ℕ). MaySetIn chain.part kept key item a b) c.as_slice.ensures
    (c.set_over.ensures.may told kept splits ready)) in
    may.rooms owners still

pub returns-clause-set : goal.returns-clause-set
returns-clause-set g c told =
    let now = c.args.self.now in
    let chain : AreasNow = c.self.inside.areas in
    let a = g.B.Blocks.seen c.args.blocks.now in
    let b = g.B.Blocks.seen c.set_over.new.blocks in
    let place = c.args.place.now in
    let at : List ℕ = c.as_slice.result.now in
    let item = given c.args.bytes in
    let same : chain.part ≡ now.part = ap (λ (keyed : Owned). keyed.part) c.self.view_is in
    let kept : Lengths = g.K.Kept.kept c.args._kept.now (part_no (KeyedShape now.part)) in
    let splits : Splitting = c.self.inside.splits in
    let old = mets c.self.inside.slots in
    let new = mets c.set_over.new.slots in
    let ready : IsReadyIn chain.part (known_in chain splits old) kept at item a =
    subst (λ (key : List ℕ). IsReadyIn chain.part (known_in chain splits old) kept key item a)
    (sym c.as_slice.ensures)
    (subst (λ (keyed : Owned). IsReadyIn keyed.part (known_less keyed) kept place item a)
    (sym c.self.view_is)
    (ready-less now kept place item a (record {
      rests = c.requires.rests told;
      room = c.requires.room told;
      knows = c.requires.knows told;
      can = c.requires.can told;
      valid = c.requires.record;
    }))) in
    let put : List ℕ = put_of c.in_ok-put.put in
    let done : IsSetIn now.part (known_in chain splits new) put place item a b =
    subst (λ (part : KeyedChain). IsSetIn part (known_in chain splits new) put place item a b) same
    (subst (λ (key : List ℕ). IsSetIn chain.part (known_in chain splits new) put key item a b)
    c.as_slice.ensures (c.in_ok-put.ensures.done told kept splits ready)) in
    done.set

pub returns-clause-due : goal.returns-clause-due
returns-clause-due g c told =
    let now = c.args.self.now in
    let chain : AreasNow = c.self.inside.areas in
    let a = g.B.Blocks.seen c.args.blocks.now in
    let b = g.B.Blocks.seen c.set_over.new.blocks in
    let place = c.args.place.now in
    let at : List ℕ = c.as_slice.result.now in
    let item = given c.args.bytes in
    let same : chain.part ≡ now.part = ap (λ (keyed : Owned). keyed.part) c.self.view_is in
    let kept : Lengths = g.K.Kept.kept c.args._kept.now (part_no (KeyedShape now.part)) in
    let splits : Splitting = c.self.inside.splits in
    let old = mets c.self.inside.slots in
    let new = mets c.set_over.new.slots in
    let ready : IsReadyIn chain.part (known_in chain splits old) kept at item a =
    subst (λ (key : List ℕ). IsReadyIn chain.part (known_in chain splits old) kept key item a)
    (sym c.as_slice.ensures)
    (subst (λ (keyed : Owned). IsReadyIn keyed.part (known_less keyed) kept place item a)
    (sym c.self.view_is)
    (ready-less now kept place item a (record {
      rests = c.requires.rests told;
      room = c.requires.room told;
      knows = c.requires.knows told;
      can = c.requires.can told;
      valid = c.requires.record;
    }))) in
    let put : List ℕ = put_of c.in_ok-put.put in
    let done : IsSetIn now.part (known_in chain splits new) put place item a b =
    subst (λ (part : KeyedChain). IsSetIn part (known_in chain splits new) put place item a b) same
    (subst (λ (key : List ℕ). IsSetIn chain.part (known_in chain splits new) put key item a b)
    c.as_slice.ensures (c.in_ok-put.ensures.done told kept splits ready)) in
    let noted : c.note_put.new.noted.items ≡ put = c.note_put.ensures.put in
    subst (λ (blocks : List ℕ). DueMoreAt (KeyedShape now.part) place blocks a b) (sym noted)
    done.due

pub returns-clause-rests : goal.returns-clause-rests
returns-clause-rests g c told owners still =
    let now = c.args.self.now in
    let chain : AreasNow = c.self.inside.areas in
    let a = g.B.Blocks.seen c.args.blocks.now in
    let b = g.B.Blocks.seen c.set_over.new.blocks in
    let place = c.args.place.now in
    let at : List ℕ = c.as_slice.result.now in
    let item = given c.args.bytes in
    let same : chain.part ≡ now.part = ap (λ (keyed : Owned). keyed.part) c.self.view_is in
    let kept : Lengths = g.K.Kept.kept c.args._kept.now (part_no (KeyedShape now.part)) in
    let splits : Splitting = c.self.inside.splits in
    let old = mets c.self.inside.slots in
    let new = mets c.set_over.new.slots in
    let ready : IsReadyIn chain.part (known_in chain splits old) kept at item a =
    subst (λ (key : List ℕ). IsReadyIn chain.part (known_in chain splits old) kept key item a)
    (sym c.as_slice.ensures)
    (subst (λ (keyed : Owned). IsReadyIn keyed.part (known_less keyed) kept place item a)
    (sym c.self.view_is)
    (ready-less now kept place item a (record {
      rests = c.requires.rests told;
      room = c.requires.room told;
      knows = c.requires.knows told;
      can = c.requires.can told;
      valid = c.requires.record;
    }))) in
    let put : List ℕ = put_of c.in_ok-put.put in
    let done : IsSetIn now.part (known_in chain splits new) put place item a b =
    subst (λ (part : KeyedChain). IsSetIn part (known_in chain splits new) put place item a b) same
    (subst (λ (key : List ℕ). IsSetIn chain.part (known_in chain splits new) put key item a b)
    c.as_slice.ensures (c.in_ok-put.ensures.done told kept splits ready)) in
    done.rests owners still

pub returns-clause-stages : goal.returns-clause-stages
returns-clause-stages g c told =
    let now = c.args.self.now in
    let chain : AreasNow = c.self.inside.areas in
    let a = g.B.Blocks.seen c.args.blocks.now in
    let b = g.B.Blocks.seen c.set_over.new.blocks in
    let place = c.args.place.now in
    let at : List ℕ = c.as_slice.result.now in
    let item = given c.args.bytes in
    let same : chain.part ≡ now.part = ap (λ (keyed : Owned). keyed.part) c.self.view_is in
    let kept : Lengths = g.K.Kept.kept c.args._kept.now (part_no (KeyedShape now.part)) in
    let splits : Splitting = c.self.inside.splits in
    let old = mets c.self.inside.slots in
    let new = mets c.set_over.new.slots in
    let ready : IsReadyIn chain.part (known_in chain splits old) kept at item a =
    subst (λ (key : List ℕ). IsReadyIn chain.part (known_in chain splits old) kept key item a)
    (sym c.as_slice.ensures)
    (subst (λ (keyed : Owned). IsReadyIn keyed.part (known_less keyed) kept place item a)
    (sym c.self.view_is)
    (ready-less now kept place item a (record {
      rests = c.requires.rests told;
      room = c.requires.room told;
      knows = c.requires.knows told;
      can = c.requires.can told;
      valid = c.requires.record;
    }))) in
    let put : List ℕ = put_of c.in_ok-put.put in
    let done : IsSetIn now.part (known_in chain splits new) put place item a b =
    subst (λ (part : KeyedChain). IsSetIn part (known_in chain splits new) put place item a b) same
    (subst (λ (key : List ℕ). IsSetIn chain.part (known_in chain splits new) put key item a b)
    c.as_slice.ensures (c.in_ok-put.ensures.done told kept splits ready)) in
    subst (λ (keyed : Owned). SameStages (KeyedShape now.part) (known_of keyed)
    (known_in chain splits new) a.cur b.cur) c.self.view_is done.stages

pub returns-clause-knows : goal.returns-clause-knows
returns-clause-knows g c told =
    let now = c.args.self.now in
    let chain : AreasNow = c.self.inside.areas in
    let a = g.B.Blocks.seen c.args.blocks.now in
    let b = g.B.Blocks.seen c.set_over.new.blocks in
    let place = c.args.place.now in
    let at : List ℕ = c.as_slice.result.now in
    let item = given c.args.bytes in
    let same : chain.part ≡ now.part = ap (λ (keyed : Owned). keyed.part) c.self.view_is in
    let kept : Lengths = g.K.Kept.kept c.args._kept.now (part_no (KeyedShape now.part)) in
    let splits : Splitting = c.self.inside.splits in
    let old = mets c.self.inside.slots in
    let new = mets c.set_over.new.slots in
    let ready : IsReadyIn chain.part (known_in chain splits old) kept at item a =
    subst (λ (key : List ℕ). IsReadyIn chain.part (known_in chain splits old) kept key item a)
    (sym c.as_slice.ensures)
    (subst (λ (keyed : Owned). IsReadyIn keyed.part (known_less keyed) kept place item a)
    (sym c.self.view_is)
    (ready-less now kept place item a (record {
      rests = c.requires.rests told;
      room = c.requires.room told;
      knows = c.requires.knows told;
      can = c.requires.can told;
      valid = c.requires.record;
    }))) in
    let put : List ℕ = put_of c.in_ok-put.put in
    let done : IsSetIn now.part (known_in chain splits new) put place item a b =
    subst (λ (part : KeyedChain). IsSetIn part (known_in chain splits new) put place item a b) same
    (subst (λ (key : List ℕ). IsSetIn chain.part (known_in chain splits new) put key item a b)
    c.as_slice.ensures (c.in_ok-put.ensures.done told kept splits ready)) in
    knows-most now.part (known_in chain splits new) (most_kept c.set_over.new.slots) b done.knows

pub returns-clause-put : goal.returns-clause-put
returns-clause-put g c =
    let now = c.args.self.now in
    let chain : AreasNow = c.self.inside.areas in
    let splits : Splitting = c.self.inside.splits in
    let new = mets c.set_over.new.slots in
    let same : chain.part ≡ now.part = ap (λ (keyed : Owned). keyed.part) c.self.view_is in
    let noted : c.note_put.new.noted.items ≡ put_of c.in_ok-put.put = c.note_put.ensures.put in
    subst (λ (part : KeyedChain). All (InHeld (KeyedShape part) (known_in chain splits new))
    c.note_put.new.noted.items) same
    (blocks-held chain splits.split splits.move new c.note_put.new.noted.items
    (subst (All (InAreas chain)) (sym noted) c.in_ok-put.ensures.put))

pub returns-in_err-put-clause-unread : goal.returns-in_err-put-clause-unread
returns-in_err-put-clause-unread g c =
    let now = c.args.self.now in
    let chain : AreasNow = c.self.inside.areas in
    let tells = g.B.Blocks.tells in
    let a = g.B.Blocks.seen c.args.blocks.now in
    let b = g.B.Blocks.seen c.set_over.new.blocks in
    let same : chain.part ≡ now.part = ap (λ (keyed : Owned). keyed.part) c.self.view_is in
    let splits : Splitting = c.self.inside.splits in
    let old = mets c.self.inside.slots in
    let new = mets c.set_over.new.slots in
    let known : Known = record (known_in chain splits new) {
      most = most_kept c.set_over.new.slots;
    } in
    let unread : IfErr c.set_over.result (λ fault. fault ≡ Read → Keeps tells a b
    × (IsTrue tells → Knows (KeyedShape now.part) known b)) =
    IfErr-weaker c.set_over.result _ _
    (λ fault still is. (
      (still is).0,
      λ told.
          let quiet = c.requires.rests told in
          let left : Left a a.cur = g.met.B.Blocks.cur_may c.args.blocks.now told in
          let knows : Knows (KeyedShape chain.part) (known_in chain splits old) a =
          subst (λ (keyed : Owned). Knows (KeyedShape keyed.part) (known_less keyed) a)
          (sym c.self.view_is) (knows-less now a (c.requires.knows told)) in
          subst (λ (part : KeyedChain). Knows (KeyedShape part) known b) same
          (record {
            way = ways-still chain tells told a b (still is).0
                (subst (λ (part : KeyedChain). IsChainOn part a) (sym same) c.requires.on)
                (subst (λ (part : KeyedChain). Stands (KeyedShape part) a.cur) (sym same)
                (resting-stands now.part quiet.0 a quiet.1 left))
                splits.split splits.move knows.way;
            blocks = (still is).1 told;
          }),
    ))
    c.set_over.ensures.unread in
    search rules

-- ---- where the place was met

pub returns-in_err-put-clause-reads : goal.returns-in_err-put-clause-reads
returns-in_err-put-clause-reads g c has =
    let reads : IfErr c.set_over.result (λ fault. fault ≡ Write) =
    c.set_over.ensures.reads
    (subst (HasMetPlace (mets c.self.inside.slots)) (sym c.as_slice.ensures)
    (subst (λ (keyed : Owned). HasMetPlace keyed.met c.args.place.now) (sym c.self.view_is) has)) in
    search rules

pub returns-clause-met : goal.returns-clause-met
returns-clause-met g c has place known =
    c.in_ok-put.ensures.places
    (subst (HasMetPlace (mets c.self.inside.slots)) (sym c.as_slice.ensures)
    (subst (λ (keyed : Owned). HasMetPlace keyed.met c.args.place.now) (sym c.self.view_is) has))
    place (subst (λ (keyed : Owned). HasMetPlace keyed.met place) (sym c.self.view_is) known)
