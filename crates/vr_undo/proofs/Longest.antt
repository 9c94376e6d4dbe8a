-- The longest record that is kept for a place, with one before-image more.
use Rattle.std.proofs.Common.{◌≡◌, ◌≢◌, ℕ, Bool, true, false, cond, List, [], ◌∷◌, ◌++◌, Option}
use Rattle.std.proofs.Common.{Some, None, refl, sym, ap, ◌∙◌, ◌==◌}
use Rattle.std.specs.Prelude.{max, option_map}
use Rattle.std.specs.List.{cons_option, filter_map}
use Rattle.std.specs.Option.{option_and_then}
use Rattle.std.specs.Ordering.{is_eq, ordering_reverse}
use Rattle.std.specs.declared.cmp.Ordering.{Ordering}
use Rattle.std.specs.declared.cmp.Ordering.TheVariants.{Less, Equal, Greater}
use Rattle.std.proofs.Math.Nat.{max_comm}
use Rattle.std.proofs.lemmas.Cmp.{nat_list_cmp_total}
use Rattle.std.proofs.lemmas.List.{append-nil}
use Rattle.std.proofs.lemmas.List.Elements.{filter_map-append}
use Rattle.vr_types.specs.Content.{Standing, place_cmp, record_of}
use Rattle.vr_types.proofs.CallerLemmas.{same_place}
use Rattle.vr_history.specs.State.{BeforeImage}
use Rattle.vr_space.specs.Room.{Lengths, length_at, length_by, lengthen_by, with_length}
use Rattle.vr_space.proofs.CallerLemmas.{Rise}
use Rattle.vr_space.proofs.Fewer.{AllPast}
use Rattle.vr_undo.specs.Lengths.{length_there, length_when, longer}
use Rattle.vr_undo.specs.PutBack.{length_of, lengths_kept}
use Rattle.vr_undo.specs.Records.{image_of, images_in, logged_image}
use Rattle.vr_undo.specs.declared.before.Before.{Before}
use Rattle.vr_undo.specs.declared.record.KeptRecord.{KeptRecord}
use Rattle.vr_undo.specs.Ascending.{kept-rise}
use Rattle.vr_undo.proofs.Images.{kept-append, kept_more}

pub longer-none : (one : Option ℕ) → longer one None ≡ one
longer-none None = refl
longer-none (Some n) = refl

by-none : (o : Ordering) (n : ℕ) (further : Option ℕ) → o ≡ Less → length_by o n further ≡ further
by-none Less n further less = refl
by-none Equal n further less = absurd cc
by-none Greater n further less = absurd cc

-- none is kept for a place that is before all
below-none : (place : List ℕ) (lengths : Lengths) → AllPast place lengths
    → length_at lengths place ≡ None
below-none place [] past = refl
below-none place (entry ∷ lengths) past =
    by-none (place_cmp place entry.0) entry.1 (length_at lengths place) past.0
    ∙ below-none place lengths past.1

past-first : (place first : List ℕ) (lengths : Lengths) → place_cmp place first ≡ Less
    → AllPast first lengths → AllPast place lengths
past-first place first [] less past = tt
past-first place first (entry ∷ lengths) less past = (
  nat_list_cmp_total.trans place first entry.0 less past.0,
  past-first place first lengths less past.1,
)

-- the length that is added counts at its place alone
abbrev added : Ordering → ℕ → Option ℕ
added o n = cond (is_eq o) (Some n) None

module _ (place : List ℕ) (n : ℕ) (other : List ℕ) where
  alone : (o : Ordering) → length_by o n None ≡ longer None (added o n)
  alone Less = refl
  alone Equal = refl
  alone Greater = refl

  -- before the first
  first : (entry : List ℕ × ℕ) (lengths : Lengths) → AllPast entry.0 lengths
      → place_cmp place entry.0 ≡ Less → (o : Ordering) → place_cmp other place ≡ o
      → length_by o n (length_at (entry ∷ lengths) other)
      ≡ longer (length_at (entry ∷ lengths) other) (added o n)
  first entry lengths past less Less is = sym (longer-none (length_at (entry ∷ lengths) other))
  first entry lengths past less Greater is = sym (longer-none (length_at (entry ∷ lengths) other))
  first entry lengths past less Equal is =
      sym (ap (λ (found : Option ℕ). longer found (Some n))
      (ap (length_at (entry ∷ lengths)) (same_place other place is)
      ∙ below-none place (entry ∷ lengths)
      (less, past-first place entry.0 lengths less past)))

  -- at a place that has a length
  here : (m : ℕ) (further : Option ℕ) (o : Ordering)
      → length_by o (max n m) further ≡ longer (length_by o m further) (added o n)
  here m further Less = sym (longer-none further)
  here m further Greater = sym (longer-none further)
  here m further Equal = ap Some (max_comm n m)

  -- past the first
  later : (m : ℕ) (with further : Option ℕ) (o order : Ordering)
      → with ≡ longer further (added order n) → (o ≡ Equal → order ≡ Less)
      → length_by o m with ≡ longer (length_by o m further) (added order n)
  later m with further Less order more less = more
  later m with further Greater order more less = more
  later m with further Equal order more less =
      sym (ap (λ (r : Ordering). longer (Some m) (added r n)) (less refl))

-- The longest at a place, with one length more.
pub length-with : (lengths : Lengths) (place : List ℕ) (n : ℕ) (other : List ℕ) → Rise lengths
    → length_at (with_length lengths place n) other
    ≡ longer (length_at lengths other) (added (place_cmp other place) n)
length-with [] place n other rise = alone place n other (place_cmp other place)
length-with (entry ∷ lengths) place n other rise =
    by_order (place_cmp place entry.0) refl (length-with lengths place n other rise.1)
  where
    by_order : (order : Ordering) → place_cmp place entry.0 ≡ order
        → length_at (with_length lengths place n) other
        ≡ longer (length_at lengths other) (added (place_cmp other place) n)
        → length_at (lengthen_by order place n entry lengths (with_length lengths place n)) other
        ≡ longer (length_at (entry ∷ lengths) other) (added (place_cmp other place) n)
    by_order Less is further =
        first place n other entry lengths rise.0 is (place_cmp other place) refl
    by_order Equal is further =
        here place n other entry.1 (length_at lengths other) (place_cmp other entry.0)
        ∙ ap (λ (p : List ℕ). longer (length_at (entry ∷ lengths) other)
        (added (place_cmp other p) n)) (sym (same_place place entry.0 is))
    by_order Greater is further =
        later place n other entry.1 (length_at (with_length lengths place n) other)
        (length_at lengths other) (place_cmp other entry.0) (place_cmp other place) further
        (λ same. ap (λ (p : List ℕ). place_cmp p place) (same_place other entry.0 same)
        ∙ nat_list_cmp_total.antisymm entry.0 place ∙ ap ordering_reverse is)

-- ---- one before-image more

module _ (images : List BeforeImage) (part : ℕ) (place : List ℕ) where
  abbrev found : Option ℕ
  found = length_at (lengths_kept images part) place

  more-of : (at : List ℕ) (mine : Bool) (old : Option (List ℕ))
      → length_at (kept_more (lengths_kept images part)
      (cond mine (length_of at (option_and_then record_of (option_map Standing old))) None)) place
      ≡ longer found (length_when (Rattle.std.specs.Prelude.◌&&◌ mine (is_eq (place_cmp place at)))
      old)
  more-of at false old = sym (longer-none found)
  more-of at true None = by_test (is_eq (place_cmp place at))
    where
      by_test : (test : Bool) → found ≡ longer found (length_when test None)
      by_test true = sym (longer-none found)
      by_test false = sym (longer-none found)
  more-of at true (Some bytes) =
      length-with (lengths_kept images part) at (Rattle.std.proofs.Common.length bytes) place
      (kept-rise images part)
      ∙ by_test (is_eq (place_cmp place at))
    where
      by_test : (test : Bool)
          → longer found (cond test (Some (Rattle.std.proofs.Common.length bytes)) None)
          ≡ longer found (length_when test (Some bytes))
      by_test true = refl
      by_test false = refl

pub longest-more : (records : List KeptRecord) (kept : KeptRecord) (part : ℕ) (place : List ℕ)
    → length_at (lengths_kept (images_in (records ++ kept ∷ [])) part) place
    ≡ longer (length_at (lengths_kept (images_in records) part) place)
    (length_there part place kept.logged)
longest-more records kept part place =
    ap (λ (images : List BeforeImage). length_at (lengths_kept images part) place)
    (filter_map-append logged_image records (kept ∷ [])) ∙ by_logged kept.logged
  where
    by_logged : (logged : Option Before)
        → length_at (lengths_kept (images_in records
        ++ cons_option (option_map (image_of kept.unit) logged) []) part) place
        ≡ longer (length_at (lengths_kept (images_in records) part) place)
        (length_there part place logged)
    by_logged None =
        ap (λ (images : List BeforeImage). length_at (lengths_kept images part) place)
        (append-nil (images_in records))
        ∙ sym (longer-none (length_at (lengths_kept (images_in records) part) place))
    by_logged (Some before) =
        ap (λ (lengths : Lengths). length_at lengths place)
        (kept-append (images_in records) (image_of kept.unit before) part)
        ∙ more-of (images_in records) part place before.place (before.part.0 == part) before.old
