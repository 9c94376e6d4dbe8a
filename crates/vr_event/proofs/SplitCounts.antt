-- How many splits of a part are entered, and how many intervals it uses more, by an event.
use Rattle.std.proofs.Common.{◌≡◌, ◌≢◌, ◌∙◌, ◌+◌, ◌==◌, ℕ, Bool, true, false, cond, List, []}
use Rattle.std.proofs.Common.{◌∷◌, ◌++◌, Option, Some, None, IsTrue, refl, sym, ap, subst, arith}
use Rattle.std.proofs.Common.{filter, length, map, inl, inr}
use Rattle.std.specs.Prelude.{IfSome, IsSomeAnd, ◌<◌}
use Rattle.std.specs.Option.{option_map}
use Rattle.std.proofs.lemmas.Bool.{true≢false}
use Rattle.std.proofs.lemmas.Bool.Decides.{Decides-eqb}
use Rattle.std.proofs.lemmas.List.{length-append}
use Rattle.std.proofs.lemmas.List.Elements.{filter-append}
use Rattle.std.proofs.lemmas.Option.{none-some, same_Some}
use Rattle.vr_types.specs.Space.{free_count}
use Rattle.vr_types.specs.declared.unit.AreaNo.{AreaNo}
use Rattle.vr_types.specs.declared.unit.PartNo.{PartNo}
use Rattle.vr_types.specs.declared.unit.StageKind.{StageKind}
use Rattle.vr_types.specs.declared.unit.StageKind.TheVariants as stages
use Rattle.vr_types.specs.declared.unit.Unit.{Unit as UnitOfRecovery}
use Rattle.vr_space.specs.Areas.{KeyedChain}
use Rattle.vr_space.specs.Left.{added_by}
use Rattle.vr_space.specs.Part.{IsStageOf, KeyedShape, NumberedShape, OwnersAfter, Shape}
use Rattle.vr_history.specs.declared.entry.Entry.{Entry}
use Rattle.vr_history.specs.declared.entry.What.TheVariants.{Claimed, Split}
use Rattle.vr_record_file.specs.Now.{FileNow, entry_next}
use Rattle.vr_store.specs.Parts.{HasMoreAt, OnlyMet, OnlySplit, OthersStay, but_met}
use Rattle.vr_store.specs.Store.{PartNow, StoreNow, part_among, shape_among}
use Rattle.vr_store.proofs.CallerLemmas.{has-claimed, shapes-same, used-met, used-more}
use Rattle.vr_event.specs.Nearer.{CountsSplits, HasKeyed, IsKeyed, intervals_by, splits_it}
use Rattle.vr_event.specs.Nearer.{splits_of}
use Rattle.vr_event.specs.Staging.{IsTakenBy, stage_entered}
use Rattle.vr_event.proofs.MetParts.{met-shapes, none-shape}

-- ---- entries

-- one entry more
pub splits-with : (number : ℕ) (entries : List Entry) (entry : Entry)
    → splits_of number (entries ++ entry ∷ [])
    ≡ splits_of number entries + cond (splits_it number entry.what) 1 0
splits-with number entries entry =
    ap length (filter-append (λ (it : Entry). splits_it number it.what) entries (entry ∷ []))
    ∙ length-append (filter (λ (it : Entry). splits_it number it.what) entries)
    (filter (λ (it : Entry). splits_it number it.what) (entry ∷ []))
    ∙ ap (λ (n : ℕ). splits_of number entries + n) (one (splits_it number entry.what))
  where
    one : (b : Bool) → length (cond b (entry ∷ []) []) ≡ cond b 1 0
    one true = refl
    one false = refl

-- one that enters no split of the part
pub splits-same : (number : ℕ) (entries : List Entry) (entry : Entry)
    → splits_it number entry.what ≡ false
    → splits_of number (entries ++ entry ∷ []) ≡ splits_of number entries
splits-same number entries entry none =
    let more : splits_of number (entries ++ entry ∷ [])
    ≡ splits_of number entries + cond (splits_it number entry.what) 1 0 =
    splits-with number entries entry in
    let count : Bool → ℕ = λ (b : Bool). cond b 1 0 in
    let zero : count (splits_it number entry.what) ≡ count false = ap count none in
    omega (arith, more, zero)

-- what a stage enters: one, where it splits an interval and takes no area
abbrev pub split_entered : Bool → Option AreaNo → ℕ
split_entered split (Some area) = 0
split_entered true None = 1
split_entered false None = 0

pub staged-splits : (number after : ℕ) (unit : UnitOfRecovery) (line : ℕ) (part : PartNo)
    (split : Bool) (taken : Option AreaNo) (file : FileNow)
    → splits_of number (stage_entered after unit line part split taken file).entries
    ≡ splits_of number file.entries + cond (part.0 == number) (split_entered split taken) 0
staged-splits number after unit line part split (Some area) file =
    let same : splits_of number (stage_entered after unit line part split (Some area) file).entries
    ≡ splits_of number file.entries =
    splits-same number file.entries
    (entry_next file.entries after unit line (Claimed part area)) refl in
    omega (arith, same, none-either (part.0 == number))
  where
    none-either : (b : Bool) → cond b (split_entered split (Some area)) 0 ≡ 0
    none-either true = refl
    none-either false = refl
staged-splits number after unit line part true None file =
    splits-with number file.entries (entry_next file.entries after unit line (Split part))
staged-splits number after unit line part false None file =
    omega (arith, none-either (part.0 == number))
  where
    none-either : (b : Bool) → cond b (split_entered false None) 0 ≡ 0
    none-either true = refl
    none-either false = refl

-- ---- a part only met blocks

pub intervals-is : (shape : Shape) (n used : ℕ) → intervals_by shape n ≡ Some used → n ≡ used
intervals-is (KeyedShape part) n used is = same_Some n used is
intervals-is (NumberedShape part) n used is = absurd (none-some used is)

pub counts-met : (number : ℕ) (old new : StoreNow) (entries later : List Entry)
    → OnlyMet number old.parts new.parts
    → ((part : ℕ) → splits_of part later ≡ splits_of part entries)
    → CountsSplits old new entries later
counts-met number old new entries later only same = record {
  counts = λ n before after found there used is.
      let kept : after.known.used ≡ before.known.used =
      (used-met number old.parts new.parts only n before after found there).1 in
      let was : before.known.used ≡ used = intervals-is before.shape before.known.used used is in
      omega (arith, kept, was, same n);
  keyed = λ n more. absurd (omega (arith, more, same n));
}

-- nothing is new
pub counts-same : (old new : StoreNow) (entries : List Entry) → new.parts ≡ old.parts
    → CountsSplits old new entries entries
counts-same old new entries parts = counts-met 0 old new entries entries
    (record {
      parts = ap (map but_met) parts;
      others = λ other apart. ap (λ (them : List PartNow). part_among them other) parts;
    }) (λ part. refl)

-- a part that is there is there still
pub part-still : (number : ℕ) (old new : List PartNow) → OnlyMet number old new → (n : ℕ)
    (before : PartNow) → part_among old n ≡ Some before → part_among new n ≡ None → ⊥
part-still number old new only n before found none =
    none-some before.shape (sym (ap (option_map (λ (part : PartNow). part.shape)) none)
    ∙ met-shapes number old new only n
    ∙ ap (option_map (λ (part : PartNow). part.shape)) found)

-- what comes after that
pub counts-after : (number : ℕ) (old mid new : StoreNow) (entries later : List Entry)
    → OnlyMet number old.parts mid.parts → CountsSplits mid new entries later
    → CountsSplits old new entries later
counts-after number old mid new entries later only next = record {
  counts = λ n before after found there used is.
      of n before after found there used is (part_among mid.parts n) refl;
  keyed = λ n more. let both = next.keyed n more in (
    subst (λ (one : Option Shape). IsSomeAnd one IsKeyed)
        (met-shapes number old.parts mid.parts only n) both.0,
    both.1,
  );
}
  where
    of : (n : ℕ) (before after : PartNow) → part_among old.parts n ≡ Some before
        → part_among new.parts n ≡ Some after → (used : ℕ)
        → intervals_by before.shape before.known.used ≡ Some used
        → (middle : Option PartNow) → part_among mid.parts n ≡ middle
        → after.known.used + splits_of n entries ≡ used + splits_of n later
    of n before after found there used is None none =
        absurd (part-still number old.parts mid.parts only n before found none)
    of n before after found there used is (Some middle) at =
        let same = used-met number old.parts mid.parts only n before middle found at in
        next.counts n middle after at there used
        (ap (λ (shape : Shape). intervals_by shape middle.known.used) same.0
        ∙ ap (intervals_by before.shape) same.1 ∙ is)

-- ---- a stage of a part

-- a stage that splits an interval takes no area
module _ (part : PartNo) (old new : List (Option PartNo)) where
  pub none-taken : (taken : Option AreaNo) → new ≡ old → IsTakenBy part old new taken
      → split_entered true taken ≡ 1
  none-taken None same is = refl
  none-taken (Some area) same is =
      let fewer : free_count new + 1 ≡ free_count old =
      (has-claimed part old new (area.0, is.0, is.1)).free in
      absurd (omega (arith, fewer, ap free_count same))

  pub not-split : (taken : Option AreaNo) → split_entered false taken ≡ 0
  not-split None = refl
  not-split (Some area) = refl

  -- what a stage of a keyed part enters is what it adds
  added-entered : (kind : StageKind) (keyed : KeyedChain)
      (split : Bool) (taken : Option AreaNo) → IsStageOf (KeyedShape keyed) kind
      → OwnersAfter part kind old new → IsTakenBy part old new taken
      → (IsTrue split → kind ≡ stages.CiSwitch) → (split ≡ false → kind ≢ stages.CiSwitch)
      → added_by kind ≡ split_entered split taken
  added-entered kind keyed split taken stage owners is splits other-kind = by_split split refl
    where
      switched : kind ≡ stages.CiSwitch → added_by kind ≡ 1
      switched same = ap added_by same

      other : (kind : StageKind) → IsStageOf (KeyedShape keyed) kind
          → kind ≢ stages.CiSwitch → added_by kind ≡ 0
      other stages.CiCopy stage apart = refl
      other stages.CiSwitch stage apart = absurd (apart refl)
      other stages.CiClean stage apart = refl
      other stages.CaClaim stage apart = refl
      other stages.CaCopy stage apart = refl
      other stages.CaLink stage apart = refl
      other stages.CaSwitch stage apart = refl
      other stages.Post stage apart = refl
      other stages.Extend (inl never) apart = absurd never
      other stages.Extend (inr never) apart = absurd never
      other stages.Undo stage apart = refl
      other stages.Force stage apart = refl

      by_split : (b : Bool) → split ≡ b → added_by kind ≡ split_entered split taken
      by_split true same =
          let switch : kind ≡ stages.CiSwitch = splits same in
          switched switch
          ∙ sym (ap (λ (b : Bool). split_entered b taken) same
          ∙ none-taken taken
          (subst (λ (k : StageKind). OwnersAfter part k old new) switch owners) is)
      by_split false same = other kind stage (other-kind same)
          ∙ sym (ap (λ (b : Bool). split_entered b taken) same ∙ not-split taken)

-- A stage enters the splits that it does: as many as it adds, where its part is keyed,
counted-at : (part : PartNo) (kind : StageKind) (old new : StoreNow) (file : FileNow)
    (entries : List Entry) (after : ℕ) (unit : UnitOfRecovery) (line : ℕ) (split : Bool)
    (taken : Option AreaNo) (free now : ℕ)
    → entries ≡ (stage_entered after unit line part split taken file).entries
    → OthersStay part.0 old.parts new.parts
    → HasMoreAt part.0 kind old.parts new.parts free now
    → ((before : PartNow) → part_among old.parts part.0 ≡ Some before → (used : ℕ)
    → intervals_by before.shape before.known.used ≡ Some used
    → added_by kind ≡ split_entered split taken)
    → (n : ℕ) (before then : PartNow) → part_among old.parts n ≡ Some before
    → part_among new.parts n ≡ Some then → (used : ℕ)
    → intervals_by before.shape before.known.used ≡ Some used
    → then.known.used + splits_of n file.entries ≡ used + splits_of n entries
counted-at part kind old new file entries after unit line split taken free now leaves others more
    adds n before then found there used counted =
    by_part (part.0 == n) refl
  where
    was : before.known.used ≡ used
    was = intervals-is before.shape before.known.used used counted

    entered : splits_of n entries
        ≡ splits_of n file.entries + cond (part.0 == n) (split_entered split taken) 0
    entered = ap (splits_of n) leaves
        ∙ staged-splits n after unit line part split taken file

    by_part : (b : Bool) → (part.0 == n) ≡ b
        → then.known.used + splits_of n file.entries ≡ used + splits_of n entries
    by_part true same =
        let number : part.0 ≡ n = (Decides-eqb part.0 n).0 same in
        let here : part_among old.parts part.0 ≡ Some before =
        ap (part_among old.parts) number ∙ found in
        let grown : then.known.used ≡ before.known.used + added_by kind =
        used-more part.0 kind old.parts new.parts free now more before then here
        (ap (part_among new.parts) number ∙ there) in
        let one : splits_of n entries ≡ splits_of n file.entries + split_entered split taken =
        entered ∙ ap (λ (b : Bool).
        splits_of n file.entries + cond b (split_entered split taken) 0) same in
        omega (arith, grown, adds before here used counted, one, was)
    by_part false apart =
        let stays : part_among new.parts n ≡ part_among old.parts n =
        others n (λ same. true≢false
        (sym ((Decides-eqb part.0 n).1 (sym same)) ∙ apart)) in
        let kept : then ≡ before = same_Some then before (sym there ∙ stays ∙ found) in
        let none : splits_of n entries ≡ splits_of n file.entries + 0 =
        entered ∙ ap (λ (b : Bool).
        splits_of n file.entries + cond b (split_entered split taken) 0) apart in
        omega (arith, ap (λ (one : PartNow). one.known.used) kept, none, was)

-- and of that part alone.
entered-at : (part : PartNo) (file : FileNow) (entries : List Entry) (after : ℕ)
    (unit : UnitOfRecovery) (line : ℕ) (split : Bool) (taken : Option AreaNo) (P : ℕ → Type 0)
    → entries ≡ (stage_entered after unit line part split taken file).entries
    → (0 < split_entered split taken → P part.0)
    → (n : ℕ) → splits_of n file.entries < splits_of n entries → P n
entered-at part file entries after unit line split taken P leaves is n more =
    by_part (part.0 == n) refl
  where
    entered : splits_of n entries
        ≡ splits_of n file.entries + cond (part.0 == n) (split_entered split taken) 0
    entered = ap (splits_of n) leaves
        ∙ staged-splits n after unit line part split taken file

    by_part : (b : Bool) → (part.0 == n) ≡ b → P n
    by_part true same =
        let one : splits_of n entries ≡ splits_of n file.entries + split_entered split taken =
        entered ∙ ap (λ (b : Bool).
        splits_of n file.entries + cond b (split_entered split taken) 0) same in
        subst P ((Decides-eqb part.0 n).0 same) (is (omega (arith, one, more)))
    by_part false apart =
        let none : splits_of n entries ≡ splits_of n file.entries + 0 =
        entered ∙ ap (λ (b : Bool).
        splits_of n file.entries + cond b (split_entered split taken) 0) apart in
        absurd (omega (arith, none, more))

pub counts-at : (part : PartNo) (kind : StageKind) (old new : StoreNow) (file : FileNow)
    (entries : List Entry) (after : ℕ) (unit : UnitOfRecovery) (line : ℕ) (split : Bool)
    (taken : Option AreaNo) (free now : ℕ)
    → entries ≡ (stage_entered after unit line part split taken file).entries
    → OnlySplit part.0 old.parts new.parts
    → HasMoreAt part.0 kind old.parts new.parts free now
    → ((before : PartNow) → part_among old.parts part.0 ≡ Some before → (used : ℕ)
    → intervals_by before.shape before.known.used ≡ Some used
    → added_by kind ≡ split_entered split taken)
    → (0 < split_entered split taken → HasKeyed old.parts part.0)
    → CountsSplits old new file.entries entries
counts-at part kind old new file entries after unit line split taken free now leaves only more
    adds keys = record {
      counts = counted-at part kind old new file entries after unit line split taken free now leaves
          only.others more adds;
      keyed = λ n split-there.
          let was : HasKeyed old.parts n = entered-at part file entries after unit line split taken
          (HasKeyed old.parts) leaves keys n split-there in (
            was,
            subst (λ (one : Option Shape). IsSomeAnd one IsKeyed)
                (sym (shapes-same new.parts old.parts only.parts n)) was,
          );
    }

-- the stage that splits an interval is none of a numbered part
switch-keyed : (found : Option Shape) (kind : StageKind) → found ≢ None
    → IfSome found (λ (shape : Shape). IsStageOf shape kind) → kind ≡ stages.CiSwitch
    → IsSomeAnd found IsKeyed
switch-keyed None kind there stage is = absurd (there refl)
switch-keyed (Some (KeyedShape part)) kind there stage is = tt
switch-keyed (Some (NumberedShape part)) kind there stage is =
    let both : stages.Extend ≡ stages.CiSwitch = sym stage ∙ is in absurd cc

-- It is one of the stages of a keyed part.
pub counts-staged : (part : PartNo) (kind : StageKind) (old new : StoreNow) (file : FileNow)
    (entries : List Entry) (after : ℕ) (unit : UnitOfRecovery) (line : ℕ) (split : Bool)
    (taken : Option AreaNo)
    → HasMoreAt part.0 kind old.parts new.parts (free_count old.space) (free_count new.space)
    → OnlySplit part.0 old.parts new.parts
    → part_among old.parts part.0 ≢ None
    → IfSome (shape_among old.parts part.0) (λ (shape : Shape). IsStageOf shape kind)
    → OwnersAfter part kind old.space new.space → IsTakenBy part old.space new.space taken
    → (IsTrue split → kind ≡ stages.CiSwitch) → (split ≡ false → kind ≢ stages.CiSwitch)
    → entries ≡ (stage_entered after unit line part split taken file).entries
    → CountsSplits old new file.entries entries
counts-staged part kind old new file entries after unit line split taken more only laid stage
    owners is splits other-kind leaves =
    counts-at part kind old new file entries after unit line split taken (free_count old.space)
    (free_count new.space) leaves only more
    (λ before found used counted. by-shape before.shape before.known.used used counted
    (subst (λ (one : Option PartNow). IfSome (option_map (λ (it : PartNow). it.shape) one)
    (λ (shape : Shape). IsStageOf shape kind)) found stage))
    (keys split taken splits)
  where
    keys : (split : Bool) (taken : Option AreaNo) → (IsTrue split → kind ≡ stages.CiSwitch)
        → 0 < split_entered split taken → HasKeyed old.parts part.0
    keys split (Some area) switch more = absurd (omega (arith, more))
    keys false None switch more = absurd (omega (arith, more))
    keys true None switch more = switch-keyed (shape_among old.parts part.0) kind
        (λ none. laid (none-shape (part_among old.parts part.0) none)) stage (switch refl)

    by-shape : (shape : Shape) (count used : ℕ) → intervals_by shape count ≡ Some used
        → IsStageOf shape kind → added_by kind ≡ split_entered split taken
    by-shape (KeyedShape keyed) count used is-keyed of = added-entered part old.space new.space
        kind keyed split taken of owners is splits other-kind
    by-shape (NumberedShape part) count used is-keyed of = absurd (none-some used is-keyed)
