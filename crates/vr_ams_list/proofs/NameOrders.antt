-- Entries by their names are what a stable sort by name leaves.
use Rattle.std.proofs.Common.{◌≡◌, ℕ, Bool, true, false, List, not, refl}
use Rattle.std.specs.Cmp.{IsStrictWeakOrder}
use Rattle.std.specs.List.Sorted.{IsSortedBy, IsStableBy}
use Rattle.std.specs.Ordering.{is_lt}
use Rattle.std.proofs.lemmas.Cmp.{nat_list_cmp_total}
use Rattle.std.proofs.lemmas.List.Sorted.{ranks_by}
use Rattle.vr_types.specs.Content.{place_cmp}
use Rattle.vr_trace.proofs.CallerLemmas.{IsInsertion, sorted_views}
use Rattle.vr_ams_list.specs.Held.{held_entries, held_one}
use Rattle.vr_ams_list.specs.Listing.{by_name, comes_before, entered}
use Rattle.vr_ams_list.specs.declared.listed.Held.{Held}

abbrev name_of : Held → List ℕ
name_of held = held.entry.now.name

abbrev pub less : Held → Held → Bool
less x y = is_lt (place_cmp (name_of x) (name_of y))

pub less_order : IsStrictWeakOrder less
less_order = ranks_by nat_list_cmp_total name_of

insertion : IsInsertion comes_before entered by_name
insertion = record {
  one = λ y. refl;
  more = λ y z zs. refl;
  none = refl;
  next = λ y ys. refl;
}

twice : (b : Bool) → b ≡ not (not b)
twice true = refl
twice false = refl

-- one is less than another where the other doesn't come before it
less_is : (x y : Held) → less y x ≡ not (comes_before (held_one x) (held_one y))
less_is x y = twice (less y x)

-- what the sort leaves
pub sorted_entries : (xs ys : List Held) → IsSortedBy less ys → IsStableBy less xs ys
    → held_entries ys ≡ by_name (held_entries xs)
sorted_entries xs ys sorted stable =
    sorted_views less held_one comes_before entered by_name insertion less_is
    less_order xs ys sorted stable
