-- The catalog of what was formatted has clusters alone, whose longest records have room in an
-- interval.
use Rattle.std.proofs.Common.{◌≡◌, ◌==◌, ℕ, Bool, true, false, List, [], ◌∷◌, Option}
use Rattle.std.proofs.Common.{Some, None, All, arith, get_or, refl, subst, sym, if◌then◌else◌}
use Rattle.std.specs.Prelude.{IfSome, option_and_then}
use Rattle.std.specs.List.{AllByRecursion, cons_option}
use Rattle.std.specs.declared.cmp.Ordering.{Ordering}
use Rattle.std.specs.declared.cmp.Ordering.TheVariants.{Less, Equal, Greater}
use Rattle.std.proofs.lemmas.List.Elements.{All-cons, All-head, All-nil}
use Rattle.std.proofs.lemmas.List.Elements.{All-tail}
use Rattle.vr_types.specs.Content.{Content, Item, Placed, Standing, place_cmp, put_by, record_of}
use Rattle.vr_types.specs.Content.{with_item}
use Rattle.vr_types.specs.Geometry.{IsAllowed}
use Rattle.vr_types.specs.declared.geometry.Geometry.{Geometry}
use Rattle.vr_types.proofs.CallerLemmas.{block_size_least}
use Rattle.vr_catalog.specs.Catalog.{entries_in}
use Rattle.vr_catalog.specs.Record.{entry_of, spelling}
use Rattle.vr_catalog.specs.declared.entry.CatEntry.{CatEntry}
use Rattle.vr_format.specs.Fit.{AreTaken}
use Rattle.vr_format.specs.Formatted.{IsPlainCluster, catalog_of, first_entries, first_entry}
use Rattle.vr_format.specs.Formatted.{place_of}
use Rattle.vr_format.proofs.Members.{IsMember, member-all}
use Rattle.vr_format.proofs.NewVolume.{first-spelled}

module _ (geometry : Geometry) where
  -- what an item spells is such a cluster, if it spells an entry
  abbrev IsPlainItem : Placed → Type 0
  IsPlainItem placed =
      IfSome (option_and_then entry_of (record_of placed.1)) (IsPlainCluster geometry)

  plain-with : (content : Content) (place : List ℕ) (item : Item)
      → AllByRecursion IsPlainItem content → IsPlainItem (place, item)
      → AllByRecursion IsPlainItem (with_item content place item)
  plain-with [] place item are is = (is, tt)
  plain-with (placed ∷ content) place item are is =
      by_order (place_cmp place placed.0) (plain-with content place item are.1 is)
    where
      by_order : (order : Ordering) → AllByRecursion IsPlainItem (with_item content place item)
          → AllByRecursion IsPlainItem (put_by order (place, item) placed content
          (with_item content place item))
      by_order Less rest = (is, are)
      by_order Equal rest = (is, are.1)
      by_order Greater rest = (are.0, rest)

  plain-entries : (content : Content) → AllByRecursion IsPlainItem content
      → All (IsPlainCluster geometry) (entries_in content)
  plain-entries [] are = All-nil (IsPlainCluster geometry)
  plain-entries (placed ∷ content) are =
      by_entry (option_and_then entry_of (record_of placed.1)) are.0 (plain-entries content are.1)
    where
      by_entry : (entry : Option CatEntry) → IfSome entry (IsPlainCluster geometry)
          → All (IsPlainCluster geometry) (entries_in content)
          → All (IsPlainCluster geometry) (cons_option entry (entries_in content))
      by_entry None is rest = rest
      by_entry (Some entry) is rest =
          All-cons (IsPlainCluster geometry) entry (entries_in content) is rest

  -- a cluster whose record spells it
  abbrev IsPlainMember : CatEntry → Type 0
  IsPlainMember cluster =
      (entry_of (spelling cluster) ≡ Some cluster) × IsPlainCluster geometry cluster

  plain-items : (clusters : List CatEntry) → All IsPlainMember clusters
      → AllByRecursion IsPlainItem (catalog_of clusters)
  plain-items [] all = tt
  plain-items (cluster ∷ clusters) all =
      let one : IsPlainMember cluster = All-head IsPlainMember cluster clusters all in
      plain-with (catalog_of clusters) (place_of cluster) (Standing (spelling cluster))
      (plain-items clusters (All-tail IsPlainMember cluster clusters all))
      (subst (λ (entry : Option CatEntry). IfSome entry (IsPlainCluster geometry)) (sym one.0)
      one.1)

  pub taken-plain : (entries clusters : List CatEntry) → AreTaken geometry entries clusters
      → All (IsPlainCluster geometry) (entries_in (catalog_of clusters))
  taken-plain entries clusters taken = plain-entries (catalog_of clusters) (plain-items clusters
      (λ k d within. plain (get_or clusters k d)
      (member-all geometry entries clusters taken k d within)))
    where
      plain : (cluster : CatEntry) → IsMember geometry clusters cluster → IsPlainMember cluster
      plain cluster member = (member.spelled, (member.next.kind, member.next.short))

  -- VRM.FIRST, where there is one
  pub first-plain : (number : ℕ) → IsAllowed geometry
      → All (IsPlainCluster geometry) (entries_in (catalog_of (first_entries number)))
  first-plain number allowed = plain-entries (catalog_of (first_entries number))
      (plain-items (first_entries number) (by_number (number == 0)))
    where
      by_number : (b : Bool) → All IsPlainMember (if b then first_entry ∷ [] else [])
      by_number true = All-cons IsPlainMember first_entry [] (
        first-spelled,
        (refl, omega (arith, block_size_least geometry.size allowed.size)),
      ) (All-nil IsPlainMember)
      by_number false = All-nil IsPlainMember
