-- The parts of a volume, attached one after another.
use Rattle.std.proofs.Common.{◌≡◌, ℕ, ◌+◌, ◌<◌, ◌≤◌, List, [], ◌∷◌, ◌++◌, Option, Some, None}
use Rattle.std.proofs.Common.{length}
use Rattle.std.proofs.Common.{refl, sym, ap, subst, ◌∙◌, map, take, append_assoc}
use Rattle.std.specs.Prelude.{Bool, nat_eq, IfSome, IsTrue, Result, true, false, ◌↔◌}
use Rattle.std.proofs.lemmas.Bool.{true≢false}
use Rattle.std.specs.List.{IsDistinct, cons_option, filter_map}
use Rattle.std.proofs.lemmas.List.{map-append, take_more}
use Rattle.std.proofs.lemmas.List.Elements.{All-push, filter_map-append}
use Rattle.vr_types.specs.Faults.{Faults}
use Rattle.vr_types.specs.Geometry.{area_count, head_block}
use Rattle.vr_types.specs.Image.{Image}
use Rattle.vr_types.specs.Seen.{Seen}
use Rattle.vr_types.specs.declared.fault.DeviceFault.TheVariants as faults
use Rattle.vr_types.specs.declared.geometry.Geometry.{Geometry}
use Rattle.vr_types.specs.declared.unit.Kind.{Kind}
use Rattle.vr_types.specs.declared.unit.Kind.TheVariants as kinds
use Rattle.vr_catalog.specs.Catalog.{parts_in}
use Rattle.vr_catalog.specs.declared.definition.Definition.{Definition}
use Rattle.vr_catalog.specs.declared.entry.CatEntry.{CatEntry}
use Rattle.vr_attach.specs.Laid.{catalog_shape, keyed_shape, numbered_part, shape_by_kind, shape_of}
use Rattle.vr_attach.specs.declared.part_no.PartNo2.{PartNo2}
use Rattle.vr_attach.specs.declared.part_no.PartNo2.TheVariants as whys
use Rattle.vr_history.specs.State.{BeforeImage}
use Rattle.vr_log.specs.LogNow.{IsOf}
use Rattle.vr_mount.specs.Areas.{BeginsWith, IsBelow}
use Rattle.vr_part.specs.Any.{known_any, shape_any}
use Rattle.vr_part.specs.Attached.{IsAnyShown, IsAttachedWith, ShowsDamage}
use Rattle.vr_part.specs.declared.any.AnyPart.{AnyPart}
use Rattle.vr_space.specs.Part.{NumberedShape, Shape, Stands, StandsFor}
use Rattle.vr_recover.specs.Found.{AllStand, AreEntries, AreEntriesOf, AreKnown, AtAreas, AtPart}
use Rattle.vr_recover.specs.Found.{HasLength, IsAreaNo, IsEntryNo, IsMountShown, LaysIn}
use Rattle.vr_recover.specs.Found.{ShowsBoth, ShowsOnly}
use Rattle.vr_recover.specs.OpenNo.{HasOpenCause, part_answer}
use Rattle.vr_recover.specs.Opening.{IsCatalogShown, IsEntryShown, IsTaken}
use Rattle.vr_recover.specs.declared.open_no.OpenNo.{OpenNo}
use Rattle.vr_recover.specs.declared.open_no.OpenNo.TheVariants as nos
use Rattle.vr_recover.specs.declared.open_no.OpenNo.TheVariants.{Damaged, Version, Read, Write}
use Rattle.vr_recover.specs.declared.open_no.OpenNo.TheVariants.{Memory}
use Rattle.vr_recover.specs.declared.open_no.Unserved.{Unserved}
use Rattle.vr_recover.specs.Unserved.{IsCatalogUnserved, IsEntryCause, IsPlain}

-- ---- answers

pub shows-both : (P Q : ℕ → ℕ → Type 0) (R S : ℕ → Unserved → Type 0)
    → ((block rule : ℕ) → P block rule → Q block rule)
    → ((block : ℕ) (cause : Unserved) → R block cause → S block cause) → (answer : OpenNo)
    → ShowsBoth P R answer → ShowsBoth Q S answer
shows-both P Q R S damaged unserved (Damaged block rule) shown = damaged block rule shown
shows-both P Q R S damaged unserved (Version found) shown = shown
shows-both P Q R S damaged unserved (nos.Unserved block cause) shown = unserved block cause shown
shows-both P Q R S damaged unserved Read shown = tt
shows-both P Q R S damaged unserved Write shown = tt
shows-both P Q R S damaged unserved Memory shown = tt

abbrev IsNever : ℕ → Unserved → Type 0
IsNever block cause = ⊥

pub shows-more : (P Q : ℕ → ℕ → Type 0) → ((block rule : ℕ) → P block rule → Q block rule)
    → (answer : OpenNo) → ShowsOnly P answer → ShowsOnly Q answer
shows-more P Q more answer shown =
    shows-both P Q IsNever IsNever more (λ block cause none. none) answer shown

pub shows-also : (P Q : ℕ → ℕ → Type 0) (S : ℕ → Unserved → Type 0)
    → ((block rule : ℕ) → P block rule → Q block rule) → (answer : OpenNo)
    → ShowsOnly P answer → ShowsBoth Q S answer
shows-also P Q S more answer shown =
    shows-both P Q IsNever S more (λ block cause none. absurd none) answer shown

-- why a part could not be attached says as much as its answer
pub shows-answer : (P Q : ℕ → ℕ → Type 0) → ((block rule : ℕ) → P block rule → Q block rule)
    → (why : PartNo2) → ShowsDamage P why → ShowsOnly Q (part_answer why)
shows-answer P Q more (whys.Damaged block rule) shown = more block rule shown
shows-answer P Q more (whys.Fault faults.Read) shown = tt
shows-answer P Q more (whys.Fault faults.Write) shown = tt
shows-answer P Q more whys.Memory shown = tt

-- an answer after calls that counted no fault is the answer of both
pub cause-then : {T : Type 0} (first now later : Faults) (result : Result T OpenNo) → now ≡ first
    → HasOpenCause now later result → HasOpenCause first later result
cause-then first now later result same cause =
    subst (λ (f : Faults). HasOpenCause f later result) same cause

-- ---- one part more

pub stand-more : (parts : List AnyPart) (part : AnyPart) (image : Image)
    → AllStand (map shape_any parts) image → Stands (shape_any part) image
    → AllStand (map shape_any (parts ++ part ∷ [])) image
stand-more parts part image all here =
    subst (λ (shapes : List Shape). AllStand shapes image)
    (sym (map-append shape_any parts (part ∷ [])))
    (All-push (λ (shape : Shape). Stands shape image) (map shape_any parts) (shape_any part) all
    here)

pub known-more : (parts : List AnyPart) (part : AnyPart) (image : Image) → AreKnown parts image
    → IsAttachedWith (shape_any part) (known_any part) image
    → AreKnown (parts ++ part ∷ []) image
known-more parts part image all here = All-push
    (λ (one : AnyPart). IsAttachedWith (shape_any one) (known_any one) image) parts part all here

-- an entry that lays no part adds none
pub none-laid : (shapes : List Shape) (found : Option Shape) → found ≡ None
    → shapes ≡ shapes ++ cons_option found []
none-laid shapes found is =
    sym (append-none shapes) ∙ ap (λ (o : Option Shape). shapes ++ cons_option o []) (sym is)
  where
    append-none : (xs : List Shape) → xs ++ [] ≡ xs
    append-none [] = refl
    append-none (x ∷ xs) = ap (λ (ys : List Shape). x ∷ ys) (append-none xs)

-- ---- an entry that lays one

-- The shape of an entry's part, which begins with this area.
pub record IsLaidShape (geometry : Geometry) (entry : CatEntry) (area : ℕ) : Type 0 where
  pub shape : Shape
  pub laid : shape_of geometry entry ≡ Some shape
  pub begins : BeginsWith (head_block geometry area) shape

module _ (geometry : Geometry) (entry : CatEntry) (area : ℕ) (definition : Definition)
    (lays : LaysIn entry area definition) where
  pub area-below : IsBelow (area_count geometry) entry → area < area_count geometry
  area-below below =
      subst (λ (o : Option ℕ). IfSome o (λ a. a < area_count geometry)) lays.area_is below

  -- its part is laid there
  pub entry-shape : IsLaidShape geometry entry area
  entry-shape = by definition.kind (lays.shape geometry)
    where
      by-numbered : shape_of geometry entry
          ≡ Some (NumberedShape (numbered_part geometry entry.part.0 area definition))
          → IsLaidShape geometry entry area
      by-numbered is = record {
        shape = NumberedShape (numbered_part geometry entry.part.0 area definition);
        laid = is;
        begins = refl;
      }

      by : (kind : Kind)
          → shape_of geometry entry ≡ shape_by_kind geometry entry.part.0 area definition kind
          → IsLaidShape geometry entry area
      by kinds.Keyed is = record {
        shape = keyed_shape geometry entry.part.0 area definition;
        laid = is;
        begins = refl;
      }
      by kinds.Entry is = by-numbered is
      by kinds.Relative is = by-numbered is

  -- a record of the longest length has room in an interval of its own, and has a byte
  pub longest-fits : IsPlain geometry entry → definition.maximum + 7 ≤ geometry.size
  longest-fits plain = subst
      (λ (o : Option Definition). IfSome o (λ (d : Definition). d.maximum + 7 ≤ geometry.size))
      lays.definition_is plain

  pub longest-some : HasLength entry → 0 < definition.maximum
  longest-some length = subst
      (λ (o : Option Definition). IfSome o (λ (d : Definition). 0 < d.maximum))
      lays.definition_is length

-- ---- one entry more

pub entries-more : (geometry : Geometry) (entries : List CatEntry) (i : ℕ) (entry : CatEntry)
    (shapes before after : List Shape) → i < length entries
    → Rattle.std.proofs.Common.get_or entries i entry ≡ entry
    → before ≡ shapes ++ filter_map (shape_of geometry) (take i entries)
    → after ≡ before ++ filter_map (shape_of geometry) (entry ∷ [])
    → after ≡ shapes ++ filter_map (shape_of geometry) (take (i + 1) entries)
entries-more geometry entries i entry shapes before after below here so_far added =
    added
    ∙ ap (λ (s : List Shape). s ++ filter_map (shape_of geometry) (entry ∷ [])) so_far
    ∙ append_assoc shapes (filter_map (shape_of geometry) (take i entries))
    (filter_map (shape_of geometry) (entry ∷ []))
    ∙ ap (λ (s : List Shape). shapes ++ s)
    (sym (filter_map-append (shape_of geometry) (take i entries) (entry ∷ [])))
    ∙ ap (λ (es : List CatEntry). shapes ++ filter_map (shape_of geometry) es)
    (ap (λ (e : CatEntry). take i entries ++ e ∷ []) (sym here)
    ∙ sym (take_more entries i entry below))

-- what is shown of an entry's part is shown of it before a call that puts nothing
pub entry-then : (geometry : Geometry) (entries : List CatEntry) (now old : Seen)
    (block rule : ℕ) → now.cur ≡ old.cur → IsEntryShown geometry entries now block rule
    → IsEntryShown geometry entries old block rule
entry-then geometry entries now old block rule same shown = record {
  part = shown.part;
  shape = shown.shape;
  laid = shown.laid;
  before = λ other one less laid. subst (Stands one) same (shown.before other one less laid);
  shown = subst (λ (image : Image). IsAnyShown shown.shape
      (IsTaken geometry entries image shown.part) image block rule) same shown.shown;
}

pub shown-then : (geometry : Geometry) (entries : List CatEntry) (now old : Seen) (answer : OpenNo)
    → now.cur ≡ old.cur → ShowsOnly (IsEntryShown geometry entries now) answer
    → ShowsOnly (IsEntryShown geometry entries old) answer
shown-then geometry entries now old answer same =
    shows-more (IsEntryShown geometry entries now) (IsEntryShown geometry entries old)
    (λ block rule shown. entry-then geometry entries now old block rule same shown) answer

-- so is what is shown of its records
pub catalog-then : (geometry : Geometry) (images : List BeforeImage) (now old : Seen)
    (block rule : ℕ) → now.cur ≡ old.cur → IsCatalogShown geometry images now block rule
    → IsCatalogShown geometry images old block rule
catalog-then geometry images now old block rule same shown = record {
  block_is = shown.block_is;
  rule_is = shown.rule_is;
  stands = subst (Stands (catalog_shape geometry)) same shown.stands;
  damaged = λ content stands. shown.damaged content
      (subst (λ (image : Image). StandsFor (catalog_shape geometry) image content) (sym same)
      stands);
}

pub of-still : (tells : Bool) (geometry : Geometry) (a b : Seen)
    → Rattle.vr_types.specs.Blocks.Keeps tells a b → IsOf geometry a → IsOf geometry b
of-still tells geometry a b call of = record {
  count = call.count_same ∙ of.count;
  size = call.size_same ∙ of.size;
}

-- ---- tests

pub holds-if : (b : Bool) (P : Type 0) → IsTrue b ↔ P → b ≡ true → P
holds-if b P both is = both.0 (subst IsTrue (sym is) refl)

pub not-if : (b : Bool) (P : Type 0) → IsTrue b ↔ P → b ≡ false → P → ⊥
not-if b P both is holds = true≢false (sym (both.1 holds) ∙ is)

-- ---- the whole

module _ (geometry : Geometry) (images : List BeforeImage) (old : Seen)
    (entries : List CatEntry) (are : AreEntriesOf geometry images old.cur entries)
    (distinct : IsDistinct nat_eq (0 ∷ parts_in entries))
    (stands : Stands (catalog_shape geometry) old.cur) where
  entries-then : AreEntries geometry images old entries
  entries-then = record { entries_are = are; distinct = distinct }

  unserved-then : (block : ℕ) (cause : Unserved) → IsEntryNo geometry entries block cause
      → IsCatalogUnserved geometry images old block cause
  unserved-then block cause shown =
      let of = are stands.0 stands.1 in
      record {
        content = stands.0;
        stands = stands.1;
        rules = of.1;
        block_is = shown.0;
        is = subst (λ (es : List CatEntry). IsEntryCause geometry es cause) of.0 shown.1;
      }

  areas-then : (answer : OpenNo)
      → ShowsBoth (IsAreaNo geometry entries) (IsEntryNo geometry entries) answer
      → ShowsBoth (IsMountShown geometry images old) (IsCatalogUnserved geometry images old) answer
  areas-then answer = shows-both (IsAreaNo geometry entries) (IsMountShown geometry images old)
      (IsEntryNo geometry entries) (IsCatalogUnserved geometry images old)
      (λ block rule shown. AtAreas (record {
        entries = entries;
        are = entries-then;
        stands = stands;
        shown = shown;
      })) unserved-then answer

  parts-then : (later : Seen) (answer : OpenNo) → later.cur ≡ old.cur
      → ShowsOnly (IsEntryShown geometry entries later) answer
      → ShowsBoth (IsMountShown geometry images old) (IsCatalogUnserved geometry images old) answer
  parts-then later answer same shown = shows-also (IsEntryShown geometry entries old)
      (IsMountShown geometry images old) (IsCatalogUnserved geometry images old)
      (λ block rule of. AtPart (record {
        entries = entries;
        are = entries-then;
        stands = stands;
        shown = of;
      })) answer (shown-then geometry entries later old answer same shown)

pub areas-shown : (geometry : Geometry) (images : List BeforeImage) (old : Seen)
    (entries asked : List CatEntry) (answer : OpenNo) → asked ≡ entries
    → AreEntriesOf geometry images old.cur entries
    → IsDistinct nat_eq (0 ∷ parts_in entries) → Stands (catalog_shape geometry) old.cur
    → ShowsBoth (IsAreaNo geometry asked) (IsEntryNo geometry asked) answer
    → ShowsBoth (IsMountShown geometry images old) (IsCatalogUnserved geometry images old) answer
areas-shown geometry images old entries asked answer is are distinct stands shown =
    areas-then geometry images old entries are distinct stands answer
    (subst (λ (es : List CatEntry). ShowsBoth (IsAreaNo geometry es) (IsEntryNo geometry es) answer)
    is shown)

pub parts-shown : (geometry : Geometry) (images : List BeforeImage) (old later : Seen)
    (entries asked : List CatEntry) (answer : OpenNo) → asked ≡ entries → later.cur ≡ old.cur
    → AreEntriesOf geometry images old.cur entries → IsDistinct nat_eq (0 ∷ parts_in entries)
    → Stands (catalog_shape geometry) old.cur
    → ShowsOnly (IsEntryShown geometry asked later) answer
    → ShowsBoth (IsMountShown geometry images old) (IsCatalogUnserved geometry images old) answer
parts-shown geometry images old later entries asked answer is same are distinct stands shown =
    parts-then geometry images old entries are distinct stands later answer same
    (subst (λ (es : List CatEntry). ShowsOnly (IsEntryShown geometry es later) answer) is shown)
