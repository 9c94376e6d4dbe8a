-- Blocks of different parts of a volume.
use Rattle.std.proofs.Common.{◌≡◌, ◌≢◌, ℕ, Some, sym, ◌∙◌}
use Rattle.vr_types.specs.Content.{Content}
use Rattle.vr_types.specs.declared.geometry.Geometry.{Geometry}
use Rattle.vr_catalog.specs.Catalog.{entries_in}
use Rattle.vr_space.specs.Owners.{Owners}
use Rattle.vr_space.specs.Part.{InPart, Shape, part_no}
use Rattle.vr_space.proofs.CallerLemmas.{one-owner}
use Rattle.vr_attach.proofs.CallerLemmas.{laid-as}
use Rattle.vr_volume.specs.Laid.{shape_by}

-- a part that is laid has its number
pub laid-number : (geometry : Geometry) (content : Content) (part : ℕ) (shape : Shape)
    → shape_by geometry content part ≡ Some shape → (part_no shape).0 ≡ part
laid-number geometry content part shape is =
    (laid-as geometry (entries_in content) part shape is).number

-- no block is of two parts
pub part-apart : (geometry : Geometry) (owners : Owners) (content : Content) (one other : ℕ)
    (here there : Shape) → shape_by geometry content one ≡ Some here
    → shape_by geometry content other ≡ Some there → one ≢ other → (n : ℕ)
    → InPart here owners n → InPart there owners n → ⊥
part-apart geometry owners content one other here there here-is there-is apart n in-here in-there =
    apart (sym (laid-number geometry content one here here-is)
    ∙ one-owner here there owners n in-here in-there
    ∙ laid-number geometry content other there there-is)
