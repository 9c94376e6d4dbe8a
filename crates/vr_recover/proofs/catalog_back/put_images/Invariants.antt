use Rattle.std.proofs.Common.{◌≡◌, ◌≤◌, drop, length}
use Rattle.std.specs.List.{filter_map}
use Rattle.vr_log.specs.Live.{live_in}
use Rattle.vr_volume.specs.PutBack.{image_in, put_back}
use Rattle.vr_recover.specs.Images.{named}
use Rattle.vr_recover.proofs.catalog_back.put_images.Given as goal

-- those from here on are put back
abbrev pub invariant-loop-at : goal.invariant-loop-at
invariant-loop-at l = record {
  within : l.at ≤ length l.all;
  back : named l.records.items
      ≡ put_back 0 (filter_map (image_in (live_in l.log.records)) (drop l.at l.all))
      (named l.fn.records.items);
}
