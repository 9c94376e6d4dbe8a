-- Where the parts of a volume are on its blocks, by its catalog: the words of vr_attach.
pub use Rattle.vr_attach.specs.Laid.{keyed_shape, catalog_shape, shape_by_kind, shape_from}
pub use Rattle.vr_attach.specs.Laid.{shape_of, shape_in, shape_by}
