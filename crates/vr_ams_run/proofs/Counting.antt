-- The entries of LISTCAT ALL, counted one after another.
use Rattle.std.proofs.Common.{◌≡◌, ◌∙◌, ◌<◌, ℕ, false, List, [], ◌∷◌, ◌++◌}
use Rattle.std.proofs.Common.{ap, append_assoc, arith, get_or, inl, inr, length}
use Rattle.std.proofs.Common.{map, refl, subst, sym, Some, Option, Result, Ok, Err, IfOk}
use Rattle.std.proofs.Common.{slice_get}
use Rattle.std.specs.Prelude.{Contains, slice_set}
use Rattle.std.specs.Option.{option_map, option_map_or}
use Rattle.std.proofs.Math.Seq.{map-set_same}
use Rattle.std.proofs.lemmas.List.{append-nil, length-map}
use Rattle.std.proofs.lemmas.List.Elements.{All-weaker, Contains-append_cases}
use Rattle.std.proofs.lemmas.Option.{same_Some, slice_get-get_or, slice_get-map, slice_get_within}
use Rattle.vr_catalog.specs.declared.entry.CatEntry.{CatEntry}
use Rattle.vr_catalog.specs.declared.entry.EntryKind.{EntryKind}
use Rattle.vr_catalog.specs.declared.entry.EntryKind.TheVariants.{Cluster}
use Rattle.vr_history.specs.declared.entry.Entry.{Entry}
use Rattle.vr_trace.specs.Shown.{Shown}
use Rattle.vr_trace.specs.declared.no.RunNo.{RunNo}
use Rattle.vr_trace.specs.declared.statistics.Statistics.{Statistics}
use Rattle.vr_ams_list.specs.Details.{details_of}
use Rattle.vr_ams_list.specs.Listing.{all_full_lines, catalog_at, entry_line, full_lines}
use Rattle.vr_ams_list.specs.Places.{IsGoing, IsThere}
use Rattle.vr_ams_list.specs.declared.listed.Listed.{Listed}
use Rattle.vr_ams_define.specs.Answers.{Answering, IsShownCounted}
use Rattle.vr_ams_define.specs.Answers.Exchange.{Counting}
use Rattle.vr_ams_define.specs.Grown.{AreRunOn, IsOfUtilities}
use Rattle.vr_ams_define.specs.declared.answer.Counted.{Counted}
use Rattle.vr_ams_define.specs.declared.answer.Counted.TheVariants.{Done, Fault}
use Rattle.vr_ams_define.proofs.GrownLemmas.{run-on}
use Rattle.vr_ams_run.specs.Counting.{HasCounted, HasListed, IsCounted}
use Rattle.vr_ams_run.specs.ListedAll.{CountRun, CountRunWhere, CountsRun, IsAsked, is_counted}

-- ---- the volume of an entry

module _ {V : Type 0} (shown : V → Shown) (volumes : List V) (listed : Listed) where
  pub within : IsThere (map shown volumes) listed → listed.volume < length volumes
  within there = omega (
    arith,
    slice_get_within (map shown volumes) listed.volume there.volume there.volume_is,
    length-map volumes shown,
  )

  module _ (spare : V) where
    abbrev pub Volume : V
    Volume = get_or volumes listed.volume spare

    -- what it shows
    pub shown-at : listed.volume < length volumes
        → slice_get (map shown volumes) listed.volume ≡ Some (shown Volume)
    shown-at near = slice_get-map shown volumes listed.volume
        ∙ ap (option_map shown) (slice_get-get_or volumes listed.volume spare near)

    pub going-at : IsThere (map shown volumes) listed → IsGoing (map shown volumes) listed
        → (shown Volume).stopped ≡ false
    going-at there going = going (shown Volume) (shown-at (within there))

    pub has-at : IsThere (map shown volumes) listed
        → Contains (shown Volume).catalog listed.entry
    has-at there = subst (λ (one : Shown). Contains one.catalog listed.entry)
        (same_Some there.volume (shown Volume)
        (sym there.volume_is ∙ shown-at (within there))) there.has

    pub catalog-at : listed.volume < length volumes
        → catalog_at (map shown volumes) listed.volume ≡ (shown Volume).catalog
    catalog-at near = ap (λ (one : Option Shown).
        option_map_or (λ (volume : Shown). volume.catalog) one []) (shown-at near)

-- ---- one entry

module _ {V : Type 0} (shown : V → Shown) (answers : Answering V) (line : ℕ) (listed : Listed)
    (volumes : List V) (spare new : V) (near : listed.volume < length volumes) where
  abbrev was : V
  was = get_or volumes listed.volume spare

  abbrev are : List V
  are = slice_set volumes listed.volume new

  asked : (counted : Counted) → answers was line (Counting listed.entry counted) new
      → IsAsked answers line listed volumes are counted
  asked counted answered = record {
    before = was;
    before_is = slice_get-get_or volumes listed.volume spare near;
    after = new;
    answered = answered;
    others = refl;
  }

  -- what counting a cluster came to
  pub counted-as : listed.entry.entry_kind ≡ Cluster → (result : Result Counted RunNo)
      → IfOk result (λ (counted : Counted). answers was line (Counting listed.entry counted) new)
      → IfOk result (λ (counted : Counted). IsShownCounted counted (shown was) (shown new))
      → IfOk result (IsCounted shown answers line listed volumes are)
  counted-as cluster (Err error) answered showed = tt
  counted-as cluster (Ok (Done numbers)) answered showed = record {
    ran = subst (λ (kind : EntryKind).
        CountRunWhere (is_counted kind) answers line listed volumes are numbers) (sym cluster)
        (asked (Done numbers) answered);
    same = map-set_same shown volumes listed.volume new spare showed;
  }
  counted-as cluster (Ok (Fault fault)) answered showed = record {
    counted_is = ap is_counted cluster;
    asked = asked (Fault fault) answered;
  }

-- ---- entries one after another

-- one more
module _ {V : Type 0} (answers : Answering V) (line : ℕ) (one : Listed) (between new : List V)
    (number : Statistics) (run : CountRun answers line one between new number) where
  pub counts-then : (first : List Listed) (old : List V) (numbers : List Statistics)
      → CountsRun answers line first old between numbers
      → CountsRun answers line (first ++ one ∷ []) old new (numbers ++ number ∷ [])
  counts-then [] old numbers ran = subst (λ (them : List Statistics).
      CountsRun answers line (one ∷ []) old new (them ++ number ∷ [])) (sym ran.1) (
        new,
        subst (λ (them : List V). CountRun answers line one them new number) ran.0 run,
        (refl, refl),
      )
  counts-then (listed ∷ others) old [] ran = absurd ran
  counts-then (listed ∷ others) old (numbers ∷ more) ran =
      (ran.0, ran.1, counts-then others ran.0 more ran.2)

-- and its lines
pub lines-then : {V : Type 0} (answers : Answering V) (line : ℕ) (volumes : List Shown)
    (one : Listed) (number : Statistics) (first : List Listed) (old between : List V)
    (numbers : List Statistics) → CountsRun answers line first old between numbers
    → all_full_lines volumes (first ++ one ∷ []) (numbers ++ number ∷ [])
    ≡ all_full_lines volumes first numbers ++ full_lines volumes one number
lines-then answers line volumes one number [] old between numbers ran =
    subst (λ (them : List Statistics).
    all_full_lines volumes (one ∷ []) (them ++ number ∷ [])
    ≡ all_full_lines volumes [] them ++ full_lines volumes one number) (sym ran.1)
    (append-nil (full_lines volumes one number))
lines-then answers line volumes one number (listed ∷ others) old between [] ran = absurd ran
lines-then answers line volumes one number (listed ∷ others) old between (numbers ∷ more) ran =
    ap (λ (them : List ℕ). full_lines volumes listed numbers ++ them)
    (lines-then answers line volumes one number others ran.0 between more ran.2)
    ∙ sym (append_assoc (full_lines volumes listed numbers) (all_full_lines volumes others more)
    (full_lines volumes one number))

-- ---- what it enters

-- an entry on one of these lines, of which each is there twice
once : (lines : List ℕ) (entry : Entry) → IsOfUtilities (lines ++ lines) entry
    → IsOfUtilities lines entry
once lines entry own = (
  own.0,
  elim (Contains-append_cases lines lines entry.line own.1) [
    | inl first ↦ first
    | inr second ↦ second
  ],
)

-- what events of a command enter, and others of it then, is by its lines
pub run-again : {V : Type 0} (history : V → List Entry) (goes : V → V → Type 0)
    → ((a b c : V) → goes a b → goes b c → goes a c) → (lines : List ℕ) (a b c : List V)
    → AreRunOn history goes lines a b → AreRunOn history goes lines b c
    → AreRunOn history goes lines a c
run-again history goes further lines a b c first second =
    let both = run-on history goes further lines lines a b c first second in
    record {
      count = both.count;
      each = λ place volume near.
          let run = both.each place volume near in
          record {
            is_later = run.is_later;
            made = run.made;
            grew = run.grew;
            own = All-weaker (IsOfUtilities (lines ++ lines)) (IsOfUtilities lines) (once lines)
                run.made run.own;
          };
      above = both.above;
      next = both.next;
      rising = both.rising;
    }

-- ---- the lines of an entry

-- An entry was counted, and these are its lines by the catalog of its volume as it is then.
pub listed-as : {V : Type 0} (shown : V → Shown) (answers : Answering V) (line : ℕ)
    (listed : Listed) (old new : List V) (spare : V) (before after : List ℕ)
    (numbers : Statistics) (catalog : List CatEntry) → listed.volume < length new
    → HasCounted shown answers line listed old new numbers
    → catalog ≡ (shown (get_or new listed.volume spare)).catalog
    → after ≡ (before ++ entry_line listed.entry) ++ details_of catalog listed.entry numbers
    → HasListed shown answers line listed old new before after
listed-as shown answers line listed old new spare before after numbers catalog near counted at is =
    record {
      numbers = numbers;
      counted = counted;
      lines = is
          ∙ append_assoc before (entry_line listed.entry) (details_of catalog listed.entry numbers)
          ∙ ap (λ (them : List CatEntry).
          before ++ (entry_line listed.entry ++ details_of them listed.entry numbers))
          (at ∙ sym (ap (λ (them : List Shown). catalog_at them listed.volume) (sym counted.same)
          ∙ catalog-at shown new listed spare near));
    }
