use Rattle.std.proofs.Common.{◌≡◌, ◌∙◌, ◌+◌, ◌<◌, ℕ, List, Some, ap, arith, get_or, length, map}
use Rattle.std.proofs.Common.{sym}
use Rattle.std.proofs.Common.{subst}
use Rattle.std.specs.Borrow.{Bor}
use Rattle.std.specs.Option.{option_map}
use Rattle.std.specs.Prelude.{All, slice_get}
use Rattle.std.proofs.lemmas.Option.{get_or_from_slice_get, slice_get-get_or, slice_get-map}
use Rattle.std.proofs.lemmas.Option.{slice_get_within}
use Rattle.std.proofs.lemmas.Result.{err_from_is_err_and}
use Rattle.vr_types.specs.Geometry.{area_count, head_block}
use Rattle.vr_types.proofs.CallerLemmas.{keeps-none}
use Rattle.vr_catalog.specs.declared.entry.CatEntry.{CatEntry}
use Rattle.vr_mount.specs.Areas.{BeginsWith, IsBelow}
use Rattle.vr_mount.proofs.CallerLemmas.{two-areas}
use Rattle.vr_mount.proofs.Laying.{areas_by_on}
use Rattle.vr_mount.proofs.Parts.{parts_told}
use Rattle.vr_part.specs.Any.{shape_any}
use Rattle.vr_part.specs.Attached.{IsAnyShown}
use Rattle.vr_part.specs.declared.any.AnyPart.{AnyPart}
use Rattle.vr_attach.specs.Marked.{IsTakenIn}
use Rattle.vr_space.specs.Part.{Shape, part_no}
use Rattle.vr_recover.specs.Found.{AllStand, AreAdded, AreKnown, HasLength, held_entries}
use Rattle.vr_recover.specs.Opening.{IsEntryShown}
use Rattle.vr_recover.specs.Unserved.{IsPlain}
use Rattle.vr_recover.proofs.Adding.{IsNewPart, added-more, added-none, first-alone, first-own}
use Rattle.vr_recover.proofs.Adding.{same-part}
use Rattle.vr_recover.proofs.Attaching.{area-below, entry-shape, known-more, longest-fits}
use Rattle.vr_recover.proofs.Attaching.{longest-some, shows-answer}
use Rattle.vr_recover.proofs.Attaching.{stand-more}
use Rattle.vr_recover.proofs.Shapes.{shape-number}
use Rattle.vr_recover.proofs.Taking.{entry-shown}
use Rattle.vr_recover.proofs.laid.add_entry.Goals as goal

-- the entry at its index
here : (entries : List (Bor CatEntry)) (at : ℕ) (entry : Bor CatEntry) → at < length entries
    → entry ≡ get_or entries at entry → slice_get (held_entries entries) at ≡ Some entry.now
here entries at entry below is = slice_get-map (λ (e : Bor CatEntry). e.now) entries at
    ∙ ap (option_map (λ (e : Bor CatEntry). e.now))
    (slice_get-get_or entries at entry below ∙ ap Some (sym is))

-- what all entries have, that at an index has
at-entry : (P : CatEntry → Type 0) (entries : List CatEntry) → All P entries → (at : ℕ)
    (entry : CatEntry) → slice_get entries at ≡ Some entry → P entry
at-entry P entries all at entry there = subst P
    (get_or_from_slice_get entries at entry entry there)
    (all at entry (slice_get_within entries at entry there))

pub returns-in_default-clause-added : goal.returns-in_default-clause-added
returns-in_default-clause-added g c =
    let held = c.args.entries.now in
    let entries = held_entries held in
    let lent = c.index-entries-at.result in
    let entry = lent.now in
    added-none c.args.geometry.now entries c.args.at c.args.parts.now.items c.args.space.now entry
    (here held c.args.at lent c.requires.at c.index-entries-at.is)
    (c.in_default.ensures c.args.geometry.now) c.requires.added

pub returns-in_default-clause-keeps : goal.returns-in_default-clause-keeps
returns-in_default-clause-keeps g c =
    keeps-none g.B.Blocks.tells (g.B.Blocks.seen c.args.blocks.now)
    (λ told image now. g.met.B.Blocks.images_may c.args.blocks.now image told now)

pub attach_part-requires-clause-area : goal.attach_part-requires-clause-area
attach_part-requires-clause-area g c =
    let held = c.args.entries.now in
    let entries = held_entries held in
    let lent = c.index-entries-at.result in
    let entry = lent.now in
    let below = areas_by_on c.args.geometry.now entries
    (parts_told entries c.requires.may.distinct) c.requires.may.on in
    let there = here held c.args.at lent c.requires.at c.index-entries-at.is in
    area-below c.args.geometry.now entry c.in-Some.area c.in-Some.definition c.in-Some.ensures
    (at-entry (IsBelow (area_count c.args.geometry.now)) entries below c.args.at entry there)

pub attach_part-requires-clause-some : goal.attach_part-requires-clause-some
attach_part-requires-clause-some g c =
    let held = c.args.entries.now in
    let lent = c.index-entries-at.result in
    longest-some c.args.geometry.now lent.now c.in-Some.area c.in-Some.definition
    c.in-Some.ensures (at-entry HasLength (held_entries held) c.requires.may.lengths c.args.at
    lent.now (here held c.args.at lent c.requires.at c.index-entries-at.is))

pub attach_part-requires-clause-room : goal.attach_part-requires-clause-room
attach_part-requires-clause-room g c =
    let held = c.args.entries.now in
    let lent = c.index-entries-at.result in
    longest-fits c.args.geometry.now lent.now c.in-Some.area c.in-Some.definition
    c.in-Some.ensures (at-entry (IsPlain c.args.geometry.now) (held_entries held)
    c.requires.may.plain c.args.at lent.now
    (here held c.args.at lent c.requires.at c.index-entries-at.is))

pub attach_part-requires-clause-first : goal.attach_part-requires-clause-first
attach_part-requires-clause-first g c =
    let geometry = c.args.geometry.now in
    let held = c.args.entries.now in
    let entries = held_entries held in
    let lent = c.index-entries-at.result in
    let entry = lent.now in
    let of = entry-shape geometry entry c.in-Some.area c.in-Some.definition c.in-Some.ensures in
    first-own geometry entries c.args.at c.args.parts.now.items c.args.space.now c.requires.may
    c.requires.added entry (here held c.args.at lent c.requires.at c.index-entries-at.is)
    of.shape of.laid c.in-Some.area of.begins

pub attach_part-requires-clause-alone : goal.attach_part-requires-clause-alone
attach_part-requires-clause-alone g c =
    let geometry = c.args.geometry.now in
    let held = c.args.entries.now in
    let entries = held_entries held in
    let lent = c.index-entries-at.result in
    let entry = lent.now in
    let of = entry-shape geometry entry c.in-Some.area c.in-Some.definition c.in-Some.ensures in
    first-alone geometry entries c.args.at c.args.parts.now.items c.args.space.now c.requires.may
    c.requires.added entry (here held c.args.at lent c.requires.at c.index-entries-at.is)
    of.shape of.laid c.in-Some.area of.begins

pub returns-in_err-part-clause-damaged : goal.returns-in_err-part-clause-damaged
returns-in_err-part-clause-damaged g c told known stand =
    let geometry = c.args.geometry.now in
    let held = c.args.entries.now in
    let entries = held_entries held in
    let lent = c.index-entries-at.result in
    let entry = lent.now in
    let parts = c.args.parts.now.items in
    let owners = c.args.space.now in
    let now = g.B.Blocks.seen c.args.blocks.now in
    let there = here held c.args.at lent c.requires.at c.index-entries-at.is in
    let of = entry-shape geometry entry c.in-Some.area c.in-Some.definition c.in-Some.ensures in
    let p = err_from_is_err_and c.from_residual.result c.from_residual.ensures.1 in
    rw (p.1, p.2) (shows-answer (IsAnyShown of.shape (IsTakenIn owners) now.cur)
    (IsEntryShown geometry entries now)
    (λ block rule shown. entry-shown geometry entries c.args.at parts owners c.requires.may
    c.requires.ascend c.requires.added now known entry there stand of.shape of.laid
    (omega (arith, two-areas geometry c.requires.allowed)) block rule shown)
    c.in_err-part.field-0.0
    (c.in_err-part.ensures.damaged told of.shape
    (sym (c.in-Some.ensures.shape geometry) ∙ of.laid)))

pub returns-clause-added : goal.returns-clause-added
returns-clause-added g c =
    let geometry = c.args.geometry.now in
    let held = c.args.entries.now in
    let entries = held_entries held in
    let lent = c.index-entries-at.result in
    let entry = lent.now in
    let parts = c.args.parts.now.items in
    let it = c.in_ok-part.part in
    let made = c.in_ok-part.ensures in
    let there = here held c.args.at lent c.requires.at c.index-entries-at.is in
    let of = entry-shape geometry entry c.in-Some.area c.in-Some.definition c.in-Some.ensures in
    let laid = c.in-Some.ensures.shape geometry ∙ made.shape in
    let new : IsNewPart geometry entry.part it c.args.space.now c.attach_part.new.space = record {
      area = c.in-Some.area;
      number = same-part (part_no (shape_any it)) entry.part
          (shape-number geometry entry (shape_any it) laid);
      begins = subst (BeginsWith (head_block geometry c.in-Some.area))
          (shape-is of.shape (shape_any it) (sym of.laid ∙ laid)) of.begins;
      split = (made.split, made.moves);
      has = made.first;
      owns = made.owns;
      marked = made.marked;
      others = made.others;
      free = made.free;
      count = made.count;
    } in
    subst (λ (ps : List AnyPart).
    AreAdded geometry entries (c.args.at + 1) ps c.attach_part.new.space)
    (sym {A = List AnyPart} c.in_ok-add.ensures)
    (added-more geometry entries c.args.at parts c.args.space.now c.attach_part.new.space
    c.requires.may c.requires.added entry there it laid new)
  where
    shape-is : (x y : Shape) → Some x ≡ Some y → x ≡ y
    shape-is x y same = cc

pub returns-clause-known : goal.returns-clause-known
returns-clause-known g c told all =
    let cur = (g.B.Blocks.seen c.args.blocks.now).cur in
    subst (λ (ps : List AnyPart). AreKnown ps cur) (sym {A = List AnyPart} c.in_ok-add.ensures)
    (known-more c.args.parts.now.items c.in_ok-part.part cur all
    (c.in_ok-part.ensures.known told))

pub returns-clause-stand : goal.returns-clause-stand
returns-clause-stand g c told all =
    let cur = (g.B.Blocks.seen c.args.blocks.now).cur in
    subst (λ (ps : List AnyPart). AllStand (map shape_any ps) cur)
    (sym {A = List AnyPart} c.in_ok-add.ensures)
    (stand-more c.args.parts.now.items c.in_ok-part.part cur all
    (c.in_ok-part.ensures.stands told))
