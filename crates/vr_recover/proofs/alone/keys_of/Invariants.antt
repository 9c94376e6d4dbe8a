use Rattle.std.proofs.Common.{◌≡◌, map, take}
use Rattle.std.specs.List.{filter_map}
use Rattle.vr_log.specs.Live.{live_in}
use Rattle.vr_volume.specs.PutBack.{image_in}
use Rattle.vr_recover.specs.Keys.{key_of, listed}
use Rattle.vr_recover.proofs.alone.keys_of.Given as goal

-- the keys of the records so far
abbrev pub invariant-loop-rec : goal.invariant-loop-rec
invariant-loop-rec l = map listed l.keys.items
    ≡ map key_of (filter_map (image_in (live_in l.log.records)) (take l.rec-index l.records))
