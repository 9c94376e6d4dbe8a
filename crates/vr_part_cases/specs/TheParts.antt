-- The volume of the cases, of two areas, and what is known of its blocks and of the part 7 on it.
use Rattle.std.specs.Prelude.{◌≡◌, ℕ, false, List, [], Option, Some, None, IsTrue}
use Rattle.std.specs.Prelude.{length, slice_index_or}
use Rattle.std.proofs.Common.{true≢false, sym}
use Rattle.vr_types.specs.Seen.{Seen}
use Rattle.vr_types.specs.declared.geometry.Geometry.{Geometry}
use Rattle.vr_types.specs.declared.unit.PartNo.{PartNo}
use Rattle.vr_space.specs.Part.{IsOn, Shape, owned_count}

abbrev pub the_geometry : Geometry
the_geometry = record { size = 512; blocks = 8; log = 1; area = 2 }

-- what stands for the content of the blocks of a list, which report none
abbrev pub unseen : Seen
unseen = record {
  count = 8;
  size = 512;
  cur = [];
  may = λ n block. ⊥;
  moment = 0;
  images = λ t image. ⊥;
}

pub not_told : IsTrue false → ⊥
not_told told = true≢false (sym told)

-- the part is on such blocks
abbrev pub IsListed : Shape → Type 0
IsListed shape = IsOn shape unseen

-- the number of the part, and that of another one
abbrev pub the_number : PartNo
the_number = record { 0 = 7 }

abbrev pub other_number : PartNo
other_number = record { 0 = 9 }

-- Of the two areas one is the part's alone.
pub record AreOwners (first : ℕ) (owners : List (Option PartNo)) : Type 0 where
  pub count : length owners ≡ 2
  pub first_is : slice_index_or owners first None ≡ Some the_number
  pub alone : owned_count the_number owners ≡ 1
