-- One step of a walk: by what was read of the last area, and who owns the next one.
use Rattle.std.proofs.Common.{Bool, ◌≡◌, ◌<◌, ◌≤◌, ◌+◌, ◌++◌, ℕ, List, [], ◌∷◌, length, Option}
use Rattle.std.proofs.Common.{Some, None}
use Rattle.std.proofs.Common.{get_or, sym, ap, subst, ◌∙◌, arith}
use Rattle.std.specs.Prelude.{Err, IfErr, IfOk, IfSome, Ok, OnOk, Result}
use Rattle.vr_types.specs.Geometry.{area_count}
use Rattle.vr_types.specs.Image.{Block, Image, block_at}
use Rattle.vr_types.specs.declared.unit.PartNo.{PartNo}
use Rattle.vr_space.specs.Part.{NumberedShape, part_no}
use Rattle.vr_space.specs.Rosters.{Numbered, roster_block}
use Rattle.vr_attach.specs.Chain.{IsAreaSound, IsChainDamagedAt}
use Rattle.vr_attach.specs.Marked.{IsTakenIn}
use Rattle.vr_attach.specs.declared.damage.Damage.{Damage}
use Rattle.vr_attach.specs.declared.rule.Rule.{Rule}
use Rattle.vr_attach.specs.declared.rule.Rule.TheVariants as rules
use Rattle.vr_attach.proofs.CallerLemmas.{free-new, taken-before}
use Rattle.vr_chained.specs.Chain.{ChainNow}
use Rattle.vr_chained.specs.declared.rules.AreaRoster.{AreaRoster}
use Rattle.vr_chained.specs.Walked.{AreChainMarked, IsAreaBad, IsReadOf}
use Rattle.vr_chained.specs.Walked.{IsWalkedAt, IsWalkedBy, IsWalkedOver}
use Rattle.vr_chained.proofs.WalkedOn.{area-bad, area-twice, walked-on, walked-over}

-- ---- what is read

-- by the names of the call that read it
module _ (part lay : Numbered) (same : lay ≡ part) (found : Result AreaRoster Damage) where
  pub found-read : (top : Block) (roster : AreaRoster) → found ≡ Ok roster
      → IfOk found (λ (r : AreaRoster). IsReadOf lay top r.used r.next)
      → IsReadOf part top roster.used roster.next
  found-read top roster is read = subst (λ (p : Numbered). IsReadOf p top roster.used roster.next)
      same (subst (λ (f : Result AreaRoster Damage).
      IfOk f (λ (r : AreaRoster). IsReadOf lay top r.used r.next)) is read)

  pub found-sound : (image : Image) (area : ℕ) (roster : AreaRoster) → found ≡ Ok roster
      → OnOk found (IsAreaSound lay image area) → IsAreaSound part image area
  found-sound image area roster is sound = subst (λ (p : Numbered). IsAreaSound p image area) same
      (subst (λ (f : Result AreaRoster Damage). OnOk f (IsAreaSound lay image area)) is sound)

  pub found-bad : (image : Image) (area : ℕ) (damage : Damage) → found ≡ Err damage
      → IfErr found (λ (d : Damage). IsAreaBad lay image area d.block d.rule)
      → IsAreaBad part image area damage.block damage.rule
  found-bad image area damage is bad =
      subst (λ (p : Numbered). IsAreaBad p image area damage.block damage.rule) same
      (subst (λ (f : Result AreaRoster Damage).
      IfErr f (λ (d : Damage). IsAreaBad lay image area d.block d.rule)) is bad)

-- no more intervals are used than there are
pub read-most : (part : Numbered) (top : Block) (used : ℕ) (next : Option ℕ)
    → IsReadOf part top used next → used ≤ part.geometry.area
read-most part top used next read =
    omega (arith, read.used_is, read.good.leads.spells.spelled.rules.used)

-- the next area is one of the volume,
pub read-there : (part : Numbered) (top : Block) (used area : ℕ)
    → IsReadOf part top used (Some area) → area < area_count part.geometry
read-there part top used area read =
    subst (λ (next : Option ℕ). IfSome next (λ (n : ℕ). n < area_count part.geometry))
    (sym read.next_is) read.good.there

-- ---- where it goes on

-- the chain with the intervals of its last area counted, and the next one
abbrev pub further : ChainNow → ℕ → ℕ → ChainNow
further chain used area = record {
  part = chain.part;
  areas = chain.areas ++ area ∷ [];
  used = chain.used + used;
}

-- ---- by the image

module _ (before taken : List (Option PartNo)) (image : Image) (chain : ChainNow) (area : ℕ)
    (marks : AreChainMarked chain.part chain.areas before taken)
    (walk : IsWalkedAt (IsTakenIn before) image chain) (same : area ≡ walk.area) where
  abbrev part : Numbered
  part = chain.part

  pub step-bad : (n : ℕ) (rule : Rule) → IsAreaBad part image area n rule
      → IsChainDamagedAt part (IsTakenIn before) image n rule
  step-bad n rule bad = area-bad (IsTakenIn before) image chain walk n rule
      (subst (λ (at : ℕ). IsAreaBad part image at n rule) same bad)

  module _ (top : Block) (used : ℕ) (next : Option ℕ) (read : IsReadOf part top used next)
      (here : top ≡ block_at image (roster_block part area))
      (sound : IsAreaSound part image area) where
    is-sound : IsAreaSound part image walk.area
    is-sound = subst (IsAreaSound part image) same sound

    is-read : IsReadOf part (block_at image (roster_block part walk.area)) used next
    is-read = subst (λ (block : Block). IsReadOf part block used next)
        (here ∙ ap (λ (at : ℕ). block_at image (roster_block part at)) same) read

    pub step-over : next ≡ None → IsWalkedOver image (record {
      part = chain.part;
      areas = chain.areas;
      used = chain.used + used;
    })
    step-over none = walked-over (IsTakenIn before) image chain walk is-sound is-read.good
        (sym is-read.next_is ∙ none) used is-read.used_is

    pub step-on : (after : ℕ) → next ≡ Some after → get_or taken after None ≡ None
        → length chain.areas < area_count part.geometry
        → IsWalkedAt (IsTakenIn before) image (further chain used after)
    step-on after is free room = walked-on (IsTakenIn before) image chain walk is-sound is-read.good
        after (sym is-read.next_is ∙ is)
        (free-new (part_no (NumberedShape part)) part.first chain.areas before taken after marks
        free) room used is-read.used_is

    pub step-twice : (after : ℕ) → next ≡ Some after → IsTakenIn taken after → (n : ℕ)
        → n ≡ roster_block part after → (rule : Rule) → rule ≡ rules.AreaTwice
        → IsChainDamagedAt part (IsTakenIn before) image n rule
    step-twice after is had n block rule twice =
        area-twice (IsTakenIn before) image chain walk is-sound after (sym is-read.next_is ∙ is)
        (taken-before (part_no (NumberedShape part)) part.first chain.areas before taken after marks
        had) n block rule twice

-- ---- from step to step

-- by the names of the loop
module _ (part lay : Numbered) (same : lay ≡ part) (chain : ChainNow)
    (before taken : List (Option PartNo)) (found : Result Bool Damage) where
  pub marked-on : (new : ChainNow) (after : List (Option PartNo)) (more : Bool) → found ≡ Ok more
      → (AreChainMarked lay chain.areas before taken
      → OnOk found (AreChainMarked lay new.areas before after))
      → AreChainMarked part chain.areas before taken → AreChainMarked part new.areas before after
  marked-on new after more is step marks =
      subst (λ (p : Numbered). AreChainMarked p new.areas before after) same
      (subst (λ (f : Result Bool Damage). OnOk f (AreChainMarked lay new.areas before after)) is
      (step (subst (λ (p : Numbered). AreChainMarked p chain.areas before taken) (sym same) marks)))

  module _ (now image : Image) (cur : now ≡ image)
      (marks : AreChainMarked part chain.areas before taken)
      (walk : IsWalkedAt (IsTakenIn before) image chain) where
    abbrev Step : Type 0 → Type 0
    Step X = AreChainMarked lay chain.areas before taken → IsWalkedAt (IsTakenIn before) now chain
        → X

    stepped : {X : Type 0} → Step X → X
    stepped step = step
        (subst (λ (p : Numbered). AreChainMarked p chain.areas before taken) (sym same) marks)
        (subst (λ (i : Image). IsWalkedAt (IsTakenIn before) i chain) (sym cur) walk)

    pub walked-by : (new : ChainNow) (more : Bool) → found ≡ Ok more
        → Step (IfOk found (λ (m : Bool). IsWalkedBy m (IsTakenIn before) now new))
        → IsWalkedBy more (IsTakenIn before) image new
    walked-by new more is step =
        subst (λ (i : Image). IsWalkedBy more (IsTakenIn before) i new) cur
        (subst (λ (f : Result Bool Damage).
        IfOk f (λ (m : Bool). IsWalkedBy m (IsTakenIn before) now new)) is (stepped step))

    pub bad-by : (damage : Damage) → found ≡ Err damage
        → Step (IfErr found (λ (d : Damage).
        IsChainDamagedAt lay (IsTakenIn before) now d.block d.rule))
        → IsChainDamagedAt part (IsTakenIn before) image damage.block damage.rule
    bad-by damage is step =
        subst (λ (p : Numbered).
        IsChainDamagedAt p (IsTakenIn before) image damage.block damage.rule) same
        (subst (λ (i : Image). IsChainDamagedAt lay (IsTakenIn before) i damage.block damage.rule)
        cur
        (subst (λ (f : Result Bool Damage). IfErr f (λ (d : Damage).
        IsChainDamagedAt lay (IsTakenIn before) now d.block d.rule)) is (stepped step)))
