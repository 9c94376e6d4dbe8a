-- A part as it is attached. The rules are this project's own.
use Rattle.std.specs.Prelude.{◌≡◌, ℕ, [], None}
use Rattle.vr_types.specs.Image.{Image}
use Rattle.vr_space.specs.Areas.{KeyedChain}
use Rattle.vr_attach.specs.Linked.{IsLinkedShown}
use Rattle.vr_attach.specs.declared.part_no.PartNo2.{PartNo2}
use Rattle.vr_attach.specs.declared.part_no.PartNo2.TheVariants.{Damaged, Fault, Memory}
use Rattle.vr_keyed.specs.Owned.{Owned}

-- It is the part of this layout, no split is under way, nothing was met, and it keeps what it meets
-- of two places.
pub record IsAttachedTo (part : KeyedChain) (keyed : Owned) : Type 0 where
  pub part_is : keyed.part ≡ part
  pub split : keyed.split ≡ None
  pub move : keyed.move ≡ None
  pub met : keyed.met ≡ []
  pub most : keyed.most ≡ 2
  pub put : keyed.put ≡ []

-- A part that is shown as damaged is: this block is the first that breaks a rule, and this is the
-- number of the least rule that it breaks. It may not lead to an area of which Taken is true.
abbrev pub IsDamageIn : KeyedChain → (ℕ → Type 0) → Image → PartNo2 → Type 0
IsDamageIn part Taken image (Damaged block number) = IsLinkedShown part Taken image block number
IsDamageIn part Taken image (Fault fault) = Unit {0}
IsDamageIn part Taken image Memory = Unit {0}
