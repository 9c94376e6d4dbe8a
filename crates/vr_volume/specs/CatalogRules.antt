-- The rules that the catalog of a volume keeps: those of vr_attach.
pub use Rattle.vr_attach.specs.CatalogRules.{related_in, is_cluster, is_over_by, has_intervals}
pub use Rattle.vr_attach.specs.CatalogRules.{has_intervals_by, has_sizes_over, has_sizes_by}
pub use Rattle.vr_attach.specs.CatalogRules.{IsEntryOf, IsCatalog}
