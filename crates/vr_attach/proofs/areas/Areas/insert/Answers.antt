use Rattle.std.proofs.Common.{◌≡◌, ◌<◌, ◌+◌, ◌-◌, ◌++◌, ◌∷◌, ◌∙◌, ℕ, suc, List, [], Some, ap, arith}
use Rattle.std.proofs.Common.{drop, length, subst, sym, take}
use Rattle.std.specs.Prelude.{IfSome, IsTrue}
use Rattle.std.specs.List.{slice_get}
use Rattle.std.specs.Vec.{with_items}
use Rattle.std.specs.declared.cmp.Ordering.TheVariants.{Less}
use Rattle.std.proofs.lemmas.List.{length-drop, length-take, with_items_is}
use Rattle.std.proofs.lemmas.Option.{slice_get_within}
use borrow.Rule.Slice.PartMut.{mid_of, put_mid, same_len_mid}
use Rattle.vr_types.specs.Content.{place_cmp}
use Rattle.vr_types.specs.Geometry.{area_count}
use Rattle.vr_space.specs.Areas.{KeyedChain}
use Rattle.vr_space.specs.Part.{HoldsSame}
use Rattle.vr_attach.specs.Areas.{AreWhole, AreasNow, IsAreaPosition, areas_seen, ends_seen}
use Rattle.vr_attach.specs.declared.areas.AreaEnd.{AreaEnd}
use Rattle.vr_attach.proofs.AreaLists.{as-many, used-room}
use Rattle.vr_attach.proofs.AreaCuts.{IsInserted, chain_seen, cut-inserted, cut-read, holds-more}
use Rattle.vr_attach.proofs.AreaCuts.{inserted, inserted_at, lent-parts, used-inside}
use Rattle.vr_attach.proofs.AreaCuts.{whole-inserted}
use Rattle.vr_attach.proofs.areas.Areas.insert.Goals as goal

pub returns-then-not-has_room-clause-is : goal.returns-then-not-has_room-clause-is
returns-then-not-has_room-clause-is c is =
    elim c.then-not-has_room.branch [
      | goal.then-not-has_room-via-then-not-has_room w ↦
          subst IsTrue w.if-not-has_room.true (c.has_room.ensures.1 (is.room, is.long))
      | goal.then-not-has_room-via-else-not-has_room+then-not-is_cut w ↦
          subst IsTrue w.if-not-is_cut.true (w.is_cut.ensures.1
          (cut-read c.args.self.now c.args.area c.args.cut.now c.position-i.result is
          c.position-i.ensures))
    ]

pub returns-then-not-has_room-clause-inserted : goal.returns-then-not-has_room-clause-inserted
returns-then-not-has_room-clause-inserted c is =
    absurd (cc (returns-then-not-has_room-clause-is c is))

-- the entries that are lent are that of the cut, those after it, and one that is spare
pub cut_first-requires-clause-some : goal.cut_first-requires-clause-some
cut_first-requires-clause-some c =
    let entries : List AreaEnd = c.self.inside.entries.items in
    let used = c.self.inside.used in
    let i = c.position-i.result in
    let inside : i < used = used-inside entries used i c.args.area
    (subst (λ (now : AreasNow). slice_get now.areas i ≡ Some c.args.area)
    (sym c.self.view_is) (c.is_cut.ensures.0 c.if-not-is_cut.false).0) in
    let spared : used < length entries =
    used-room c.self.inside.layout entries used c.self.invariant
    (subst (λ (now : AreasNow). length now.areas < area_count now.part.geometry)
    (sym c.self.view_is) (c.has_room.ensures.0 c.if-not-has_room.false).0) in
    omega (
      arith,
      inside,
      spared,
      ap (λ (all : List AreaEnd). length all) c.deref_mut.ensures.value,
      length-drop i c.deref_mut.result.now,
      length-take (used + 1 - i) (drop i c.deref_mut.result.now),
    )

-- the entries with the one at the cut's position cut in two
module _ (c : goal.After-self-2-1) where
  abbrev part : KeyedChain
  part = c.self.inside.layout

  abbrev entries : List AreaEnd
  entries = c.self.inside.entries.items

  abbrev used : ℕ
  used = c.self.inside.used

  abbrev i : ℕ
  i = c.position-i.result

  abbrev now : List AreaEnd
  now = (with_items c.self.inside.entries
      (put_mid i (used + 1 - i) c.deref_mut.result.now c.cut_first.new.entries)).items

  -- the area there is this one, and ends past the cut
  read : (slice_get (areas_seen (take used entries)) i ≡ Some c.args.area)
      × IfSome (slice_get (ends_seen (take used entries)) i)
      (λ (end : List ℕ). place_cmp c.args.cut.now end ≡ Less)
  read = subst (λ (now : AreasNow). (slice_get now.areas i ≡ Some c.args.area)
      × IfSome (slice_get now.ends i) (λ (end : List ℕ). place_cmp c.args.cut.now end ≡ Less))
      (sym c.self.view_is) (c.is_cut.ensures.0 c.if-not-is_cut.false)

  -- an entry is spare, and the cut is as long as a place of the part
  room : (length (areas_seen (take used entries)) < area_count part.geometry)
      × (length c.args.cut.now ≡ part.key)
  room = subst (λ (now : AreasNow). (length now.areas < area_count now.part.geometry)
      × (length c.args.cut.now ≡ now.part.key))
      (sym c.self.view_is) (c.has_room.ensures.0 c.if-not-has_room.false)

  inside : i < used
  inside = used-inside entries used i c.args.area read.0

  spared : used < length entries
  spared = used-room part entries used c.self.invariant room.0

  now-is : now ≡ put_mid i (used + 1 - i) entries c.cut_first.new.entries
  now-is =
      with_items_is c.self.inside.entries
      (put_mid i (used + 1 - i) c.deref_mut.result.now c.cut_first.new.entries)
      (same_len_mid i (used + 1 - i) c.deref_mut.result.now c.cut_first.new.entries
      c.cut_first.auto.entries ∙ c.deref_mut.ensures.len)
      ∙ ap (λ (all : List AreaEnd). put_mid i (used + 1 - i) all c.cut_first.new.entries)
      c.deref_mut.ensures.value

  done : IsInserted part entries now used i c.args.into c.args.cut.now
  done = inserted entries used i inside spared part c.args.area c.args.into c.args.cut.now
      c.cut_first.new.entries now c.self.invariant
      (c.cut_first.ensures _ _ _ (ap (mid_of i (used + 1 - i)) c.deref_mut.ensures.value
      ∙ lent-parts entries used i inside spared)) now-is read.0
      (subst (λ (now : AreasNow). IsAreaPosition now.ends c.args.cut.now i) (sym c.self.view_is)
      c.position-i.ensures) read.1 room.1
      (subst (λ (now : AreasNow). c.args.into < area_count now.part.geometry)
      (sym c.self.view_is) c.requires.there)

  -- so the chain has the new area right after this one
  seen : chain_seen part now (used + 1) c.self.inside.intervals
      ≡ inserted_at c.args.self.now i c.args.into c.args.cut.now
  seen = done.seen c.self.inside.intervals
      ∙ ap (λ (now : AreasNow). inserted_at now i c.args.into c.args.cut.now) c.self.view_is

  many : length c.args.self.now.areas ≡ length c.args.self.now.ends
  many = subst (λ (now : AreasNow). length now.areas ≡ length now.ends) c.self.view_is
      (as-many (take used entries))

  among : i < length c.args.self.now.ends
  among = omega (
    arith,
    slice_get_within c.args.self.now.areas i c.args.area
        (c.is_cut.ensures.0 c.if-not-is_cut.false).0,
    many,
  )

pub invariant_of-self : goal.invariant_of-self
invariant_of-self c = (done c).ready

pub returns-clause-inserted : goal.returns-clause-inserted
returns-clause-inserted c is = seen c
    ∙ cut-inserted c.args.self.now c.args.area c.args.into c.args.cut.now c.position-i.result
    (many c) c.position-i.ensures is

pub returns-clause-intervals : goal.returns-clause-intervals
returns-clause-intervals c = ap (λ (now : AreasNow). now.intervals) c.self.view_is

pub returns-clause-more : goal.returns-clause-more
returns-clause-more c held = subst (HoldsSame (c.args.self.now.areas ++ c.args.into ∷ []))
    (sym (ap (λ (now : AreasNow). now.areas) (seen c)))
    (holds-more c.args.self.now.areas (suc c.position-i.result) c.args.into)

pub returns-clause-whole : goal.returns-clause-whole
returns-clause-whole c whole = subst AreWhole (sym (seen c))
    (whole-inserted c.args.self.now c.position-i.result c.args.into c.args.cut.now (among c) whole)
