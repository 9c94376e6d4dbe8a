-- A part of any kind as it is attached. The rules are this project's own.
use Rattle.std.specs.Prelude.{◌≡◌, ℕ, [], None}
use Rattle.vr_types.specs.Image.{Image}
use Rattle.vr_space.specs.Areas.{KnowsAreas, intervals_in}
use Rattle.vr_space.specs.Known.{Known}
use Rattle.vr_space.specs.Part.{KeyedShape, NumberedShape, Shape}
use Rattle.vr_space.specs.Numbered.{KnowsChain}
use Rattle.vr_attach.specs.Chain.{IsChainShown}
use Rattle.vr_attach.specs.Linked.{IsLinkedShown}
use Rattle.vr_attach.specs.declared.part_no.PartNo2.{PartNo2}
use Rattle.vr_attach.specs.declared.part_no.PartNo2.TheVariants.{Damaged, Fault, Memory}

-- What a part keeps in memory as it is attached: of a keyed one its areas, where each ends, and how
-- many intervals their heads lead to; of another its chain, and where its last item ends.
abbrev pub IsAttachedWith : Shape → Known → Image → Type 0
IsAttachedWith (KeyedShape part) known image =
    (known.split ≡ None) × (known.met ≡ []) × KnowsAreas part known.areas known.ends image
    × (known.move ≡ None) × (known.used ≡ intervals_in part image)
IsAttachedWith (NumberedShape part) known image =
    (known.split ≡ None) × (known.met ≡ []) × KnowsChain part known image × (known.move ≡ None)

-- The part is damaged: this block is the first of the walk that breaks a rule, and this is the
-- number of the least rule that it breaks. Its chain may not lead to an area of which Taken is
-- true.
abbrev pub IsAnyShown : Shape → (ℕ → Type 0) → Image → ℕ → ℕ → Type 0
IsAnyShown (KeyedShape part) Taken image block rule = IsLinkedShown part Taken image block rule
IsAnyShown (NumberedShape part) Taken image block rule = IsChainShown part Taken image block rule

-- where a part is refused as damaged, this is true of the block and the rule that are shown
abbrev pub ShowsDamage : (ℕ → ℕ → Type 0) → PartNo2 → Type 0
ShowsDamage P (Damaged block rule) = P block rule
ShowsDamage P (Fault fault) = Unit {0}
ShowsDamage P Memory = Unit {0}
