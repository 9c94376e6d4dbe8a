use Rattle.std.proofs.Common.{◌∙◌, List, Option, Some, ap, arith}
use Rattle.std.specs.Prelude.{set}
use Rattle.vr_types.specs.Geometry.{area_count}
use Rattle.vr_types.specs.Space.{all_free}
use Rattle.vr_types.specs.declared.unit.PartNo.{PartNo}
use Rattle.vr_mount.specs.Areas.{catalog_part}
use Rattle.vr_mount.proofs.CallerLemmas.{two-areas}
use Rattle.vr_recover.proofs.OwnArea.{own-alone}
use Rattle.vr_recover.proofs.mounted.own_area.Goals as goal

pub returns-clause-alone : goal.returns-clause-alone
returns-clause-alone c =
    let geometry = c.args.geometry.now in
    own-alone catalog_part (area_count geometry) c.mark.new.self
    (omega (arith, two-areas geometry c.requires))
    (c.mark.ensures
    ∙ ap (λ (free : List (Option PartNo)). set free 0 (Some catalog_part))
    (c.in_ok-space.ensures ∙ ap all_free c.areas.ensures))
