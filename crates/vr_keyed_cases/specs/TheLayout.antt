-- The one part of the cases: part 1 from area 1 on of a volume of blocks of 512 bytes, with keys of
-- 8 bytes at the start of a record.
use Rattle.vr_types.specs.declared.geometry.Geometry.{Geometry}
use Rattle.vr_types.specs.declared.unit.PartNo.{PartNo}
use Rattle.vr_device.specs.Untold.{unseen}
use Rattle.vr_space.specs.Areas.{IsChainOn, KeyedChain}
use Rattle.vr_space.specs.Part.{Shape, KeyedShape}

-- its number, and the catalog's
abbrev pub the_number : PartNo
the_number = record { 0 = 1 }

abbrev pub the_catalog : PartNo
the_catalog = record { 0 = 0 }

abbrev pub the_layout : Geometry → KeyedChain
the_layout geometry = record {
  part = 1;
  first = 1;
  geometry = geometry;
  key = 8;
  offset = 0;
  most = 505;
}

abbrev pub the_shape : Geometry → Shape
the_shape geometry = KeyedShape (the_layout geometry)

-- a volume of at most as many blocks as the device says there are, with the part's first area
abbrev pub IsVolume : Geometry → Type 0
IsVolume geometry = IsChainOn (the_layout geometry) (unseen 26 512)
