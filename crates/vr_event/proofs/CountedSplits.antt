-- How the splits that an event of a request enters follow the intervals that its parts use, and what
-- its unit still waits for.
use Rattle.std.proofs.Common.{◌≡◌, ◌+◌, ◌++◌, ◌∙◌, ℕ, Bool, false, cond, List, []}
use Rattle.std.proofs.Common.{◌∷◌, Option, Some, None, refl, sym, ap, subst, arith, filter, length, map}
use Rattle.std.proofs.Common.{⊎_elim}
use Rattle.std.specs.Prelude.{◌≢◌, IfSome, is_some}
use Rattle.std.specs.Option.{option_map}
use Rattle.std.proofs.lemmas.List.{length-append}
use Rattle.std.proofs.lemmas.List.Elements.{filter-append}
use Rattle.std.proofs.lemmas.Option.{none-some, same_Some}
use Rattle.vr_types.specs.Faults.{Faults}
use Rattle.vr_types.specs.Image.{Image}
use Rattle.vr_types.specs.Seen.{Seen}
use Rattle.vr_types.specs.declared.request.Request.{Request}
use Rattle.vr_types.specs.declared.unit.AreaNo.{AreaNo}
use Rattle.vr_types.specs.declared.unit.PartNo.{PartNo}
use Rattle.vr_types.specs.declared.unit.StageKind.{StageKind}
use Rattle.vr_types.specs.declared.unit.Unit.{Unit as UnitOfRecovery}
use Rattle.vr_space.specs.Areas.{KeyedChain, intervals_in}
use Rattle.vr_space.specs.Known.{Known}
use Rattle.vr_space.specs.Left.{added_by}
use Rattle.vr_space.specs.Part.{AreMet, KeyedShape, NumberedShape, Shape}
use Rattle.vr_history.specs.State.{BeforeImage, State}
use Rattle.vr_history.specs.declared.entry.Entry.{Entry}
use Rattle.vr_history.specs.declared.entry.What.{What}
use Rattle.vr_record_file.specs.Now.{FileNow, entry_next, failed, with_event}
use Rattle.vr_store.specs.LastImage.{OnLast, last_of_unit, stage_told}
use Rattle.vr_store.specs.Left.{left_for}
use Rattle.vr_store.specs.Parts.{HasMoreAt, OnlyMet, OnlySplit, but_met, but_split}
use Rattle.vr_store.specs.Store.{IsRestedPart, IsStored, PartNow, StoreNow, part_among}
use Rattle.vr_store.proofs.CallerLemmas.{among-all, shapes-same, used-met, waits-met}
use Rattle.vr_event.specs.Acting.{IsActed}
use Rattle.vr_event.specs.Made.{HasAsked}
use Rattle.vr_event.specs.Nearer.{CountsSplits, EntersSplits, HasKeyed, IsNearer}
use Rattle.vr_event.specs.Nearer.{MeetsOnly, intervals_by, splits_it, splits_of}
use Rattle.vr_event.specs.Staging.{IsTakenBy, stage_entered}
use Rattle.vr_event.specs.Volume.{VolumeNow}
use Rattle.vr_event.specs.declared.act.Act.{Act}
use Rattle.vr_event.specs.declared.act.Act.TheVariants.{Again, Done}
use Rattle.vr_event.proofs.Acted.{acted_made}
use Rattle.vr_event.proofs.SplitCounts.{counts-after, counts-at, intervals-is, none-taken}
use Rattle.vr_event.proofs.SplitCounts.{not-split, split_entered, splits-same}

-- ---- the entries

-- no split is among what is new of them
abbrev pub EntersNone : List Entry → List Entry → Type 0
EntersNone entries later = (number : ℕ) → splits_of number later ≡ splits_of number entries

splits-append : (number : ℕ) (entries made : List Entry)
    → splits_of number (entries ++ made) ≡ splits_of number entries + splits_of number made
splits-append number entries made =
    ap length (filter-append (λ (entry : Entry). splits_it number entry.what) entries made)
    ∙ length-append (filter (λ (entry : Entry). splits_it number entry.what) entries)
    (filter (λ (entry : Entry). splits_it number entry.what) made)

splits-one : (number : ℕ) (entry : Entry) (rest : List Entry) → splits_it number entry.what ≡ false
    → splits_of number (entry ∷ rest) ≡ splits_of number rest
splits-one number entry rest is = ap (λ (b : Bool). length (cond b
    (entry ∷ filter (λ (one : Entry). splits_it number one.what) rest)
    (filter (λ (one : Entry). splits_it number one.what) rest))) is

none-asked : (number : ℕ) (unit : UnitOfRecovery) (line : ℕ) (request : Request)
    (made : List Entry) → HasAsked unit line request made → splits_of number made ≡ 0
none-asked number unit line request made asked =
    ap (splits_of number) asked.is
    ∙ splits-one number asked.entry asked.rest (ap (splits_it number) asked.what_is)
    ∙ ⊎_elim (λ none. ap (splits_of number) none)
    (λ faulted. ap (splits_of number) faulted.is
    ∙ splits-one number faulted.fault [] (ap (splits_it number) faulted.what_is))
    asked.follows

-- A request that is answered enters none;
pub none-acted : (before now : Faults) (after : ℕ) (unit : UnitOfRecovery) (line : ℕ)
    (request : Request) (old new : FileNow)
    → IsActed before now Done after unit line request old new → EntersNone old.entries new.entries
none-acted before now after unit line request old new acted number =
    let made = acted_made before now Done after unit line request old new acted in
    let more : splits_of number new.entries
    ≡ splits_of number old.entries + splits_of number made.made =
    ap (splits_of number) made.entries ∙ splits-append number old.entries made.made in
    omega (arith, more, none-asked number unit line request made.made made.by)

-- nor does an entry of another kind.
pub none-event : (after : ℕ) (unit : UnitOfRecovery) (line : ℕ) (what : What) (old new : FileNow)
    → new ≡ with_event after unit line what old
    → ((number : ℕ) → splits_it number what ≡ false) → EntersNone old.entries new.entries
none-event after unit line what old new leaves other number =
    ap (λ (f : FileNow). splits_of number f.entries) leaves
    ∙ splits-same number old.entries (entry_next old.entries after unit line what) (other number)

-- ---- the parts

-- each keyed part uses as many intervals as before
abbrev pub KeepsUsed : StoreNow → StoreNow → Type 0
KeepsUsed old new = (number : ℕ) (before after : PartNow)
    → part_among old.parts number ≡ Some before → part_among new.parts number ≡ Some after
    → (used : ℕ) → intervals_by before.shape before.known.used ≡ Some used
    → after.known.used ≡ used

pub keeps-met : (number : ℕ) (old new : StoreNow) → OnlyMet number old.parts new.parts
    → KeepsUsed old new
keeps-met number old new only n before after found there used is =
    (used-met number old.parts new.parts only n before after found there).1
    ∙ intervals-is before.shape before.known.used used is

pub met-same : (number : ℕ) (old new : List PartNow) → new ≡ old → OnlyMet number old new
met-same number old new same = record {
  parts = ap (map but_met) same;
  others = λ other differs. ap (λ (parts : List PartNow). part_among parts other) same;
}

pub keeps-same : (old new : StoreNow) → new.parts ≡ old.parts → KeepsUsed old new
keeps-same old new same = keeps-met 0 old new (met-same 0 old.parts new.parts same)

-- A part that is at rest knows how many intervals its heads lead to, and so it does as long as the
-- blocks are what they were.
used-known : (part : KeyedChain) (shape : Shape) (known : Known) (image : Image)
    → shape ≡ KeyedShape part → AreMet shape known image → known.used ≡ intervals_in part image
used-known part shape known image is met =
    let both : AreMet (KeyedShape part) known image =
    subst (λ (s : Shape). AreMet s known image) is met in
    both.2

keyed-used : (shape : Shape) (count used : ℕ) → intervals_by shape count ≡ Some used
    → (part : KeyedChain) × (shape ≡ KeyedShape part)
keyed-used (KeyedShape part) count used is = (part, refl)
keyed-used (NumberedShape part) count used is = absurd (none-some used is)

pub keeps-stored : (volume : ℕ) (old new : StoreNow) (state : State) (a b : Seen)
    → map but_split new.parts ≡ map but_split old.parts → b.cur ≡ a.cur
    → IsStored volume old state a → IsStored volume new state b → KeepsUsed old new
keeps-stored volume old new state a b same still was is number before after found there used by =
    let keyed = keyed-used before.shape before.known.used used by in
    let shapes : Some after.shape ≡ Some before.shape =
    sym (ap (option_map (λ (part : PartNow). part.shape)) there)
    ∙ shapes-same new.parts old.parts same number
    ∙ ap (option_map (λ (part : PartNow). part.shape)) found in
    let here = among-all (IsRestedPart old state a) old.parts number before was.parts found in
    let then = among-all (IsRestedPart new state b) new.parts number after is.parts there in
    used-known keyed.0 after.shape after.known b.cur
    (same_Some after.shape before.shape shapes ∙ keyed.1) then.knows.blocks
    ∙ ap (intervals_in keyed.0) still
    ∙ sym (used-known keyed.0 before.shape before.known a.cur keyed.1 here.knows.blocks)
    ∙ intervals-is before.shape before.known.used used by

pub meets-last : (old new : StoreNow) (unit : UnitOfRecovery) → last_of_unit old unit ≢ None
    → OnLast old unit (λ last. OnlyMet last.part old.parts new.parts)
    → new ≡ record old { parts = new.parts } → MeetsOnly old new
meets-last old new unit some all rest = of (last_of_unit old unit) some all
  where
    of : (last : Option BeforeImage) → last ≢ None
        → IfSome last (λ one. OnlyMet one.part old.parts new.parts) → MeetsOnly old new
    of None there met = absurd (there refl)
    of (Some one) there met = record { number = one.part; parts = met; rest = rest }

pub keeps-last : (old new : StoreNow) (unit : UnitOfRecovery) → last_of_unit old unit ≢ None
    → OnLast old unit (λ last. OnlyMet last.part old.parts new.parts) → KeepsUsed old new
keeps-last old new unit some all = of (last_of_unit old unit) some all
  where
    of : (last : Option BeforeImage) → last ≢ None
        → IfSome last (λ one. OnlyMet one.part old.parts new.parts) → KeepsUsed old new
    of None there met = absurd (there refl)
    of (Some one) there met = keeps-met one.part old new met

-- ---- what is entered follows the parts

-- the counts of faults, by which a read failed
abbrev pub no-reads : Faults
no-reads = record { reads = 0; writes = 0 }

abbrev pub one-read : Faults
one-read = record { reads = 1; writes = 0 }

-- a write that failed stops the volume
pub failed-stops : (after : ℕ) (unit : UnitOfRecovery) (line : ℕ) (request : Request)
    (old new : FileNow) → new ≡ failed after unit line request old → new.stopped ≡ None → ⊥
failed-stops after unit line request old new leaves going =
    none-some _ (sym going ∙ ap (λ (f : FileNow). f.stopped) leaves)

-- of an event that enters no split,
pub splits-none : {B : Type 0} (old new : VolumeNow B)
    → (new.file.stopped ≡ None → KeepsUsed old.store new.store)
    → EntersNone old.file.entries new.file.entries → EntersSplits old new
splits-none old new keeps none going = record {
  counts = λ number before after found there used is.
      omega (arith, keeps going number before after found there used is, none number);
  keyed = λ number more. absurd (omega (arith, more, none number));
}

-- of one that is answered,
pub splits-answered : {B : Type 0} (old new : VolumeNow B) (before now : Faults) (after : ℕ)
    (unit : UnitOfRecovery) (line : ℕ) (request : Request)
    → (new.file.stopped ≡ None → KeepsUsed old.store new.store)
    → IsActed before now Done after unit line request old.file new.file → EntersSplits old new
splits-answered old new before now after unit line request keeps acted =
    splits-none old new keeps
    (none-acted before now after unit line request old.file new.file acted)

-- and of one before which a part met blocks.
pub splits-after : {B : Type 0} (old mid new : VolumeNow B) → MeetsOnly old.store mid.store
    → mid.file ≡ old.file → EntersSplits mid new → EntersSplits old new
splits-after old mid new meets same splits going =
    counts-after meets.number old.store mid.store new.store old.file.entries new.file.entries
    meets.parts
    (subst (λ (f : FileNow). CountsSplits mid.store new.store f.entries new.file.entries) same
    (splits going))

pub splits-met : {B : Type 0} (old mid new : VolumeNow B) (before now : Faults) (after : ℕ)
    (unit : UnitOfRecovery) (line : ℕ) (request : Request) → MeetsOnly old.store mid.store
    → mid.file ≡ old.file
    → (new.file.stopped ≡ None → KeepsUsed mid.store new.store)
    → IsActed before now Done after unit line request mid.file new.file → EntersSplits old new
splits-met old mid new before now after unit line request meets same keeps acted =
    splits-after old mid new meets same
    (splits-answered mid new before now after unit line request keeps acted)

-- ---- what is waited for

pub nearer-after : {B : Type 0} (act : Act) (unit : UnitOfRecovery) (old mid new : VolumeNow B)
    → MeetsOnly old.store mid.store → IsNearer act unit mid new → IsNearer act unit old new
nearer-after Done unit old mid new meets nearer = tt
nearer-after (Again given) unit old mid new meets nearer =
    let same : left_for unit mid.store ≡ left_for unit old.store =
    ap (left_for unit) meets.rest
    ∙ waits-met unit old.store meets.number mid.store.parts meets.parts in
    omega (arith, nearer, same)

-- ---- a stage

-- the one before the last before-image of a unit enters what it adds
pub adds-told : (part : PartNo) (old new : List (Option PartNo)) (split : Option PartNo)
    (taken : Option AreaNo) → new ≡ old → IsTakenBy part old new taken
    → added_by (stage_told split) ≡ split_entered (is_some split) taken
adds-told part old new None taken same is = sym (not-split part old new taken)
adds-told part old new (Some one) taken same is = sym (none-taken part old new taken same is)

-- of the part that its before-image names
pub at-last : (P : ℕ → Type 0) (store : StoreNow) (unit : UnitOfRecovery) (part : PartNo)
    → option_map (λ (last : BeforeImage). last.part) (last_of_unit store unit) ≡ Some part.0
    → OnLast store unit (λ last. P last.part) → P part.0
at-last P store unit part = of (last_of_unit store unit)
  where
    of : (last : Option BeforeImage)
        → option_map (λ (one : BeforeImage). one.part) last ≡ Some part.0
        → IfSome last (λ one. P one.part) → P part.0
    of None is all = absurd (none-some part.0 is)
    of (Some one) is all = subst P (same_Some one.part part.0 is) all

pub counts-stage : (part : PartNo) (kind : StageKind) (old new : StoreNow) (file to : FileNow)
    (after : ℕ) (unit : UnitOfRecovery) (line : ℕ) (split : Bool) (taken : Option AreaNo)
    (free now : ℕ) → to ≡ stage_entered after unit line part split taken file
    → OnlySplit part.0 old.parts new.parts
    → HasMoreAt part.0 kind old.parts new.parts free now
    → added_by kind ≡ split_entered split taken → HasKeyed old.parts part.0
    → CountsSplits old new file.entries to.entries
counts-stage part kind old new file to after unit line split taken free now leaves only more adds
    keyed =
    counts-at part kind old new file to.entries after unit line split taken free now
    (ap (λ (f : FileNow). f.entries) leaves) only more (λ before found used counted. adds)
    (λ some. keyed)
