-- What opening a volume hands out is that of a set volume, held from its opening.
use Rattle.std.proofs.Common.{◌≡◌, ◌∙◌, ◌==◌, ◌||◌, inl, ⊎_elim, ℕ, zero, suc, ◌+◌, ◌<◌, Bool, true}
use Rattle.std.proofs.Common.{false, List, [], ◌∷◌, Option, Some, None, refl, sym, ap, subst, map, cond}
use Rattle.std.specs.Prelude.{All, nat_eq, slice_get, slice_index_or}
use Rattle.std.specs.List.{AllByRecursion, IsDistinct, cons_option, filter_map, list_any}
use Rattle.std.specs.Option.{option_and_then}
use Rattle.std.proofs.lemmas.Bool.Decides.{Decides-eqb}
use Rattle.std.proofs.lemmas.List.Elements.{All-cons, All-head, All-map, All-nil, All-tail}
use Rattle.std.proofs.lemmas.List.Elements.{recursion_from_All}
use Rattle.std.proofs.lemmas.Option.{get_or_from_slice_get, slice_get_within}
use Rattle.vr_types.specs.Content.{Content}
use Rattle.vr_types.specs.Geometry.{IsAllowed, area_count}
use Rattle.vr_types.specs.Faults.{Faults}
use Rattle.vr_types.specs.Seen.{Seen}
use Rattle.vr_types.specs.declared.geometry.Geometry.{Geometry}
use Rattle.vr_types.specs.declared.unit.PartNo.{PartNo}
use Rattle.vr_space.specs.Owners.{Owners}
use Rattle.vr_space.specs.Part.{IsAtRest, IsOn, OwnsChain, Shape, owned_count, part_no}
use Rattle.vr_mount.specs.Areas.{AreOwners}
use Rattle.vr_catalog.specs.Catalog.{cluster_definition, entries_in, entry_with_part, parts_in}
use Rattle.vr_catalog.specs.declared.entry.CatEntry.{CatEntry}
use Rattle.vr_edits.specs.Edits.{IsServedEntry}
use Rattle.vr_catalog.specs.declared.entry.EntryKind.{EntryKind}
use Rattle.vr_catalog.specs.declared.entry.EntryKind.TheVariants.{Cluster, Alternate, Path}
use Rattle.vr_history.specs.Effects.{has_areas, has_part, parts_laid}
use Rattle.vr_history.specs.State.{Owned as OwnedArea}
use Rattle.vr_part.specs.Any.{known_any, shape_any}
use Rattle.vr_part.specs.declared.any.AnyPart.{AnyPart}
use Rattle.vr_log.specs.LogNow.{IsOf, LogNow}
use Rattle.vr_attach.specs.CatalogRules.{IsCatalog}
use Rattle.vr_attach.specs.Laid.{shape_by, shape_from, shape_in, shape_of}
use Rattle.vr_attach.specs.Owning.{owner_of}
use Rattle.vr_event.specs.Opening.{IsOpened as IsOpenedBy, IsPartOpened, opened_store, owned_from}
use Rattle.vr_event.specs.Opening.{owned_in}
use Rattle.vr_store.specs.Store.{ChangedBy, IsFitImage, IsPartSet, IsSet, PartNow, shape_among}
use Rattle.vr_recover.specs.Opening.{IsHandedOut, IsOpenedBy as IsOpenedWith, shapes_laid}
use Rattle.vr_recover.specs.Undone.{IsReady as IsReadyPart, alike}
use Rattle.vr_recover.proofs.CallerLemmas.{laid-cases, ordered-distinct, shape-number}
use Rattle.vr_space.proofs.CallerLemmas.{owns-none}
use Rattle.vr_recover.specs.Opening.{IsRefused}
use Rattle.vr_recover.specs.OpenNo.{IsToldNo}
use Rattle.vr_recover.specs.declared.open_no.OpenNo.{OpenNo}
use Rattle.vr_recover.specs.declared.open_no.OpenNo.TheVariants as nos
use Rattle.vr_trace.specs.declared.ending.EndLine.{EndLine}
use Rattle.vr_trace.specs.declared.ending.EndLine.TheVariants.{Damaged, DeviceFault, NoMemory, Version}
use Rattle.vr_job.specs.OpenEnds.{IsDamage, IsFault, IsMemory, IsNotServed, IsOpenEnd}
use Rattle.vr_job.specs.OpenEnds.{IsVersion, open_line}
use Rattle.vr_job.specs.OpenEnds.{SaysOfBlocks}
use Rattle.std.proofs.lemmas.List.{append-nil}
use Rattle.vr_types.specs.Image.{Image}
use Rattle.vr_types.specs.Seen.{Left}
use Rattle.vr_types.proofs.CallerLemmas.{guards-weaken}
use Rattle.vr_history.specs.State.{State}
use Rattle.vr_record_file.specs.Now.{state_now}
use Rattle.vr_volume.specs.Crashes.{RecoversTo}
use Rattle.vr_volume.specs.Safe.{IsSafe}
use Rattle.vr_event.specs.Volume.{IsHeld, IsWhole, OwnLaid, VolumeNow}
use Rattle.vr_store.proofs.CallerLemmas.{idle-guards}
use Rattle.vr_job.specs.Committed.{KeepTheCatalog}
use Rattle.vr_job.specs.Going.{HasRun}
use Rattle.vr_job.specs.Crash.{IsLeftBy}
use Rattle.vr_job.specs.Crash.IsLeftAt.{Counted}
use Rattle.vr_job.specs.Opened.{IsReady, IsReadyFrom, opened_now}

-- ---- lists

each-owned : (P : Shape → Type 0) (owned : List AnyPart) → All P (map shape_any owned)
    → All (λ (one : AnyPart). P (shape_any one)) owned
each-owned P [] all = All-nil (λ (one : AnyPart). P (shape_any one))
each-owned P (one ∷ owned) all = All-cons (λ (k : AnyPart). P (shape_any k)) one owned
    (All-head P (shape_any one) (map shape_any owned) all)
    (each-owned P owned (All-tail P (shape_any one) (map shape_any owned) all))

at-place : {X : Type 0} (P : X → Type 0) (xs : List X) (at : ℕ) (x : X) → All P xs
    → slice_get xs at ≡ Some x → P x
at-place P xs at x all there =
    subst P (get_or_from_slice_get xs at x x there) (all at x (slice_get_within xs at x there))

-- ---- numbers

abbrev IsNewIn : ℕ → List ℕ → Type 0
IsNewIn n numbers = AllByRecursion (λ (other : ℕ). nat_eq n other ≡ false) numbers

abbrev numbers-of : List Shape → List ℕ
numbers-of shapes = map (λ (shape : Shape). (part_no shape).0) shapes

new-laid : (geometry : Geometry) (n : ℕ) (rest : List CatEntry) → IsNewIn n (parts_in rest)
    → IsNewIn n (numbers-of (filter_map (shape_of geometry) rest))
new-laid geometry n [] new = tt
new-laid geometry n (entry ∷ rest) new =
    by (shape_of geometry entry) refl (new-laid geometry n rest new.1)
  where
    by : (o : Option Shape) → shape_of geometry entry ≡ o
        → IsNewIn n (numbers-of (filter_map (shape_of geometry) rest))
        → IsNewIn n (numbers-of (cons_option o (filter_map (shape_of geometry) rest)))
    by None laid more = more
    by (Some shape) laid more = (
      subst (λ (other : ℕ). nat_eq n other ≡ false) (sym (shape-number geometry entry shape laid))
          new.0,
      more,
    )

distinct-laid : (geometry : Geometry) (rest : List CatEntry) → IsDistinct nat_eq (parts_in rest)
    → IsDistinct nat_eq (numbers-of (filter_map (shape_of geometry) rest))
unfolding IsDistinct
distinct-laid geometry [] distinct = tt
distinct-laid geometry (entry ∷ rest) distinct =
    by (shape_of geometry entry) refl (distinct-laid geometry rest distinct.1)
  where
    by : (o : Option Shape) → shape_of geometry entry ≡ o
        → IsDistinct nat_eq (numbers-of (filter_map (shape_of geometry) rest))
        → IsDistinct nat_eq (numbers-of (cons_option o (filter_map (shape_of geometry) rest)))
    by None laid more = more
    by (Some shape) laid more = (
      subst (λ (n : ℕ). IsNewIn n (numbers-of (filter_map (shape_of geometry) rest)))
          (sym (shape-number geometry entry shape laid))
          (new-laid geometry entry.part.0 rest distinct.0),
      more,
    )

distinct-shapes : (geometry : Geometry) (entries : List CatEntry)
    → IsDistinct nat_eq (0 ∷ parts_in entries)
    → IsDistinct nat_eq (numbers-of (shapes_laid geometry entries))
unfolding IsDistinct
distinct-shapes geometry entries distinct =
    (new-laid geometry 0 entries distinct.0, distinct-laid geometry entries distinct.1)

numbers-opened : (owned : List AnyPart)
    → map (λ (part : PartNow). part.number.0) (map opened_now owned)
    ≡ numbers-of (map shape_any owned)
numbers-opened [] = refl
numbers-opened (one ∷ owned) =
    ap (λ (rest : List ℕ). (part_no (shape_any one)).0 ∷ rest) (numbers-opened owned)

-- ---- the part of a number

pub data Among (owned : List AnyPart) (part : ℕ) : Type 0 where
  None-there : shape_among (map opened_now owned) part ≡ None
      → ((at : ℕ) (shape : Shape) → slice_get (map shape_any owned) at ≡ Some shape
      → (part_no shape).0 ≡ part → ⊥) → Among owned part
  One-there : (at : ℕ) (shape : Shape) → slice_get (map shape_any owned) at ≡ Some shape
      → (part_no shape).0 ≡ part → shape_among (map opened_now owned) part ≡ Some shape
      → Among owned part

some-is : (x y : Shape) → Some x ≡ Some y → x ≡ y
some-is x y same = cc

among : (owned : List AnyPart) (part : ℕ) → Among owned part
among [] part = None-there refl (λ at shape there number. absurd cc)
among (one ∷ owned) part = by ((part_no (shape_any one)).0 == part) refl (among owned part)
  where
    here : ℕ
    here = (part_no (shape_any one)).0

    step : (b : Bool) → (here == part) ≡ b → (o : Option Shape)
        → shape_among (map opened_now owned) part ≡ o
        → shape_among (map opened_now (one ∷ owned)) part
        ≡ cond b (Some (shape_any one)) o
    step true is o rest = rw is refl
    step false is o rest = rw is rest

    by : (b : Bool) → (here == part) ≡ b → Among owned part → Among (one ∷ owned) part
    by true is rest = One-there 0 (shape_any one) refl ((Decides-eqb here part).0 is)
        (step true is (shape_among (map opened_now owned) part) refl)
    by false is (None-there none has) = None-there (step false is None none) off
      where
        off : (at : ℕ) (shape : Shape)
            → slice_get (shape_any one ∷ map shape_any owned) at ≡ Some shape
            → (part_no shape).0 ≡ part → ⊥
        off zero shape there number =
            let same : (here == part) ≡ true =
            (Decides-eqb here part).1
            (ap (λ (s : Shape). (part_no s).0) (some-is (shape_any one) shape there)
            ∙ number) in
            cc
        off (suc at) shape there number = has at shape there number
    by false is (One-there at shape there number some) =
        One-there (suc at) shape there number (step false is (Some shape) some)

-- ---- which parts have areas

has-areas : (geometry : Geometry) (entry : CatEntry) (shape : Shape)
    → shape_of geometry entry ≡ Some shape → has_areas entry.entry_kind entry ≡ true
has-areas geometry entry shape laid = by entry.entry_kind laid
  where
    by : (kind : EntryKind)
        → option_and_then
        (shape_from geometry entry.part.0 entry.first_area) (cluster_definition kind entry)
        ≡ Some shape → has_areas kind entry ≡ true
    by Cluster is = refl
    by Alternate is = absurd cc
    by Path is = absurd cc

abbrev is-laid : CatEntry → Bool
is-laid entry = has_areas entry.entry_kind entry

in-laid : (rest : List CatEntry) (part : ℕ) (entry : CatEntry)
    → entry_with_part rest part ≡ Some entry → is-laid entry ≡ true
    → list_any (nat_eq part) (parts_laid rest) ≡ true
in-laid [] part entry found laid = absurd cc
in-laid (first ∷ rest) part entry found laid =
    by (first.part.0 == part) refl found (is-laid first) refl
    (λ later. in-laid rest part entry later laid)
  where
    some-entry : (x y : CatEntry) → Some x ≡ Some y → x ≡ y
    some-entry x y same = cc

    head : (b : Bool) → is-laid first ≡ b → nat_eq part first.part.0 ≡ true → b ≡ true
        → list_any (nat_eq part) (parts_laid (first ∷ rest)) ≡ true
    head b is same has = rw (is ∙ has) (rw same refl)

    tail : (b : Bool) → is-laid first ≡ b → list_any (nat_eq part) (parts_laid rest) ≡ true
        → list_any (nat_eq part) (parts_laid (first ∷ rest)) ≡ true
    tail true is later = rw is (more (nat_eq part first.part.0) later)
      where
        more : (b : Bool) → list_any (nat_eq part) (parts_laid rest) ≡ true
            → (b || list_any (nat_eq part) (parts_laid rest)) ≡ true
        more true later = refl
        more false later = later
    tail false is later = rw is later

    by : (b : Bool) → (first.part.0 == part) ≡ b
        → cond b (Some first) (entry_with_part rest part) ≡ Some entry
        → (k : Bool) → is-laid first ≡ k
        → (entry_with_part rest part ≡ Some entry
        → list_any (nat_eq part) (parts_laid rest) ≡ true)
        → list_any (nat_eq part) (parts_laid (first ∷ rest)) ≡ true
    by true is found k kind further =
        head k kind ((Decides-eqb part first.part.0).1 (sym ((Decides-eqb first.part.0 part).0 is)))
        (sym kind ∙ ap is-laid (some-entry first entry found) ∙ laid)
    by false is found k kind further = tail k kind (further found)

or-more : (b c : Bool) → c ≡ true → (b || c) ≡ true
or-more true c is = refl
or-more false c is = is

has-laid : (geometry : Geometry) (entries : List CatEntry)
    → IsDistinct nat_eq (0 ∷ parts_in entries) → (part : ℕ) (shape : Shape)
    → shape_in geometry entries part ≡ Some shape → has_part (parts_laid entries) part ≡ true
has-laid geometry entries distinct part shape is = ⊎_elim
    (λ zero-part. subst (λ (n : ℕ). has_part (parts_laid entries) n ≡ true) (sym zero-part.0) refl)
    (λ found. or-more (nat_eq part 0) (list_any (nat_eq part) (parts_laid entries))
    (in-laid entries part found.0 found.1 (has-areas geometry found.0 shape found.2)))
    (laid-cases geometry entries distinct part shape is)

owned-each : (P : ℕ → Type 0) (from : ℕ) (owners : List (Option PartNo))
    → ((part : PartNo) (at : ℕ) → slice_index_or owners at None ≡ Some part → P part.0)
    → AllByRecursion (λ (area : OwnedArea). P area.part) (owned_from from owners)
owned-each P from [] each = tt
owned-each P from (None ∷ owners) each =
    owned-each P (from + 1) owners (λ part at there. each part (suc at) there)
owned-each P from (Some part ∷ owners) each =
    (each part 0 refl, owned-each P (from + 1) owners (λ other at there. each other (suc at) there))

-- a part without an area owns none
none-owned : (part : PartNo) (owners : List (Option PartNo))
    → ((at : ℕ) → slice_index_or owners at None ≡ Some part → ⊥) → owned_count part owners ≡ 0
none-owned part [] none = refl
none-owned part (None ∷ owners) none = none-owned part owners (λ at. none (suc at))
none-owned part (Some owner ∷ owners) none =
    by (owner.0 == part.0) refl (none-owned part owners (λ at. none (suc at)))
  where
    same-owner : (one other : PartNo) → one.0 ≡ other.0 → Some one ≡ Some other
    same-owner one other same = ap (λ (n : ℕ). Some (record { 0 = n })) same

    by : (b : Bool) → (owner.0 == part.0) ≡ b → owned_count part owners ≡ 0
        → owned_count part (Some owner ∷ owners) ≡ 0
    by true is rest = absurd (none 0 (same-owner owner part ((Decides-eqb owner.0 part.0).0 is)))
    by false is rest = rw is rest

-- a part that the catalog doesn't lay owns no area, as parts own those that they reach
pub own-laid : (geometry : Geometry) (entries : List CatEntry) (image : Image)
    (owners : List (Option PartNo)) → AreOwners geometry entries image owners
    → OwnLaid geometry entries owners
own-laid geometry entries image owners are part unlaid = none-owned part owners
    (λ at there. let reached = are.only part at there in
    let laid : Some reached.shape ≡ None = sym reached.laid ∙ unlaid in
    absurd cc)

-- ---- what is handed out

module _ (geometry : Geometry) (entries : List CatEntry) (owned : List AnyPart) (log : LogNow)
    (space : List (Option PartNo)) (now : Seen)
    (handed : IsHandedOut geometry entries owned log space now) where
  abbrev parts : List PartNow
  parts = map opened_now owned

  on-each : All (λ (one : AnyPart). IsOn (shape_any one) now) owned
  on-each = each-owned (λ (shape : Shape). IsOn shape now) owned handed.on

  part-set : All (IsPartSet now) parts
  part-set = All-map (IsPartSet now) opened_now owned
      (λ at default within. record { number = refl; on = on-each at default within })

  apart-set : IsDistinct nat_eq (map (λ (part : PartNow). part.number.0) parts)
  apart-set = subst (IsDistinct nat_eq)
      (sym (numbers-opened owned ∙ ap numbers-of handed.shapes.are))
      (distinct-shapes geometry handed.shapes.ordered (ordered-distinct entries
      handed.shapes.ordered handed.shapes.by_number handed.distinct))

  pub handed-set : IsSet (opened_store log parts space) now
  handed-set = record {
    allowed = subst IsAllowed (sym handed.log_is) handed.allowed;
    blocks = subst (λ (g : Geometry). IsOf g now) (sym handed.log_is) handed.shape;
    sound = handed.sound;
    parts = part-set;
    apart = apart-set;
    changed = All-nil (λ (by : ChangedBy). All (λ (n : ℕ). n < now.count) by.blocks);
    idle = λ none. handed.records;
    kept = All-nil (IsFitImage parts);
    areas = handed.owners_are.count ∙ ap area_count (sym handed.log_is);
    owns = All-map (λ (part : PartNow). OwnsChain part.shape part.known space) opened_now owned
        handed.owners_are.owns;
  }

  pub handed-laid : (part : ℕ) → shape_among parts part ≡ shape_in geometry entries part
  handed-laid part = by (among owned part) (shape_in geometry entries part) refl
    where
      by : Among owned part → (o : Option Shape) → shape_in geometry entries part ≡ o
          → shape_among parts part ≡ o
      by (None-there none has) None is = none
      by (None-there none has) (Some shape) is =
          let there = handed.laid.there part shape is in
          absurd (has there.0 shape there.1 (handed.laid.all part shape is))
      by (One-there at shape there number some) o is = some
          ∙ sym (subst (λ (n : ℕ). shape_in geometry entries n ≡ Some shape) number
          (at-place (λ (s : Shape). shape_in geometry entries (part_no s).0 ≡ Some s)
          (map shape_any owned) at shape handed.laid.each there)) ∙ is

  laid-each : All (λ (one : AnyPart).
      shape_in geometry entries (part_no (shape_any one)).0 ≡ Some (shape_any one)) owned
  laid-each = each-owned
      (λ (shape : Shape). shape_in geometry entries (part_no shape).0 ≡ Some shape) owned
      handed.laid.each

  handed-owned : AllByRecursion
      (λ (area : OwnedArea). has_part (parts_laid entries) area.part ≡ true) (owned_in space)
  handed-owned = owned-each (λ (n : ℕ). has_part (parts_laid entries) n ≡ true) 0 space
      (λ part at there. let held = handed.owners_are.only part at there in
      subst (λ (who : PartNo). has_part (parts_laid entries) who.0 ≡ true) held.number
      (has-laid geometry entries handed.distinct (part_no (shape_any held.one)).0
      (shape_any held.one)
      (at-place (λ (one : AnyPart). shape_in geometry entries (part_no (shape_any one)).0
      ≡ Some (shape_any one)) owned held.at held.one laid-each held.there)))

  pub handed-ready : IsReady geometry entries parts log space now
  handed-ready = record {
    set = handed-set;
    geometry_is = handed.log_is;
    laid = handed-laid;
    records = handed.records;
    sound = handed.sound;
    served = recursion_from_All (IsServedEntry geometry) entries handed.served;
    owned = handed-owned;
  }

  -- ---- where the device reports its contents

  module _ (number : ℕ) (contents : ℕ → Content) (old : Seen)
      (is : IsOpenedWith number geometry entries owned log space contents old now) where
    abbrev owners : Owners
    owners = owner_of log.geometry space

    by-owners : (P : Owners → Type 0) → P (owner_of geometry space) → P owners
    by-owners P = subst (λ (g : Geometry). P (owner_of g space)) (sym handed.log_is)

    by-contents : (part : ℕ)
        → shape_in log.geometry (entries_in (contents 0)) part ≡ shape_in geometry entries part
    by-contents part = ap (λ (g : Geometry). shape_in g (entries_in (contents 0)) part) handed.log_is
        ∙ ap (λ (them : List CatEntry). shape_in geometry them part) (sym is.catalog)

    part-opened : (one : AnyPart) → IsOn (shape_any one) now
        → IsReadyPart (shape_any one) (owner_of geometry space) (known_any one) [] now
        → shape_in geometry entries (part_no (shape_any one)).0 ≡ Some (shape_any one)
        → IsPartOpened log.geometry owners contents now (opened_now one)
    part-opened one on ready laid =
        let there : shape_by log.geometry (contents 0) (part_no (shape_any one)).0
        ≡ Some (shape_any one) = by-contents (part_no (shape_any one)).0 ∙ laid in
        record {
          laid = there;
          on = on;
          rests = by-owners (λ (o : Owners). IsAtRest (shape_any one) o now) ready.rests;
          claimed = owns-none (shape_any one) owners (known_any one) ready.no_move;
          room = ready.room;
          knows = ready.knows;
          holds = is.undone.all (part_no (shape_any one)).0 (shape_any one) there;
        }

    opened-each : All (IsPartOpened log.geometry owners contents now) parts
    opened-each = All-map (IsPartOpened log.geometry owners contents now) opened_now owned
        (λ at default within. part-opened (slice_index_or owned at default)
        (on-each at default within) (is.ready at default within) (laid-each at default within))

    pub handed-opened : IsOpenedBy number owners log parts contents now
    handed-opened = record {
      safe = by-owners
          (λ (o : Owners). IsSafe log.geometry number o log (alike contents) now)
          is.undone.safe;
      stands = is.stands;
      forced = handed.forced;
      each = is.ascends;
      catalog = subst (λ (g : Geometry). IsCatalog g (contents 0)) (sym handed.log_is) is.rules;
      others = λ part none. is.others part
          (ap (λ (g : Geometry). shape_by g (contents 0) part) (sym handed.log_is) ∙ none);
      opened = opened-each;
      whole = λ part shape laid. handed-laid part ∙ sym (by-contents part) ∙ laid;
    }

    pub handed-from : IsReadyFrom number geometry entries parts log space contents old now
    handed-from = record {
      volume = is.volume;
      whole = is.whole;
      others = is.others;
      catalog_is = is.catalog;
      opened = handed-opened;
      owners_are = is.owners_are;
    }

-- ---- what is equal to it

module _ (g h : Geometry) (c d : List CatEntry) (p q : List PartNow) (l m : LogNow)
    (geometry : g ≡ h) (catalog : c ≡ d) (parts : p ≡ q) (log : l ≡ m) where
  pub ready-same : (s t : List (Option PartNo)) (now : Seen) → s ≡ t → IsReady h d q m t now
      → IsReady g c p l s now
  ready-same s t now space is =
      subst (λ (x : Geometry). IsReady x c p l s now) (sym geometry)
      (subst (λ (x : List CatEntry). IsReady h x p l s now) (sym catalog)
      (subst (λ (x : List PartNow). IsReady h d x l s now) (sym parts)
      (subst (λ (x : LogNow). IsReady h d q x s now) (sym log)
      (subst (λ (x : List (Option PartNo)). IsReady h d q m x now) (sym space) is))))

  pub from-same : (s t : List (Option PartNo)) (number : ℕ) (contents : ℕ → Content)
      (old now : Seen) → s ≡ t → IsReadyFrom number h d q m t contents old now
      → IsReadyFrom number g c p l s contents old now
  from-same s t number contents old now space is =
      subst (λ (x : Geometry). IsReadyFrom number x c p l s contents old now) (sym geometry)
      (subst (λ (x : List CatEntry). IsReadyFrom number h x p l s contents old now) (sym catalog)
      (subst (λ (x : List PartNow). IsReadyFrom number h d x l s contents old now) (sym parts)
      (subst (λ (x : LogNow). IsReadyFrom number h d q x s contents old now) (sym log)
      (subst (λ (x : List (Option PartNo)). IsReadyFrom number h d q m x contents old now)
      (sym space) is))))

-- ---- why it isn't opened

end-by : (number : ℕ) (old : Seen) (why : OpenNo) → IsRefused number old why
    → IsOpenEnd number old (open_line number why)
end-by number old (nos.Damaged block rule) is = IsDamage block rule refl is
end-by number old (nos.Version found) is = IsVersion found refl is
end-by number old (nos.Unserved block cause) is = IsNotServed block cause refl is
end-by number old nos.Read is = IsFault refl
end-by number old nos.Write is = IsFault refl
end-by number old nos.Memory is = IsMemory refl

pub end-shown : (number : ℕ) (old : Seen) (why : OpenNo) (end : EndLine)
    → end ≡ open_line number why → IsRefused number old why → IsOpenEnd number old end
end-shown number old why end same is =
    subst (IsOpenEnd number old) (sym same) (end-by number old why is)

-- out of memory, and a fault of the device, say nothing of the blocks
pub memory-silent : (number : ℕ) (end : EndLine) → end ≡ NoMemory → SaysOfBlocks number end → ⊥
memory-silent number end none says = ⊎_elim
    (λ (damaged : (block : ℕ) × (rule : ℕ) × (end ≡ Damaged number block rule)).
    let same = damaged.2 in absurd cc)
    (λ (version : (found : ℕ) × (end ≡ Version number found)). let same = version.1 in absurd cc)
    says

fault-silent : (number : ℕ) (end : EndLine) → end ≡ DeviceFault number → SaysOfBlocks number end → ⊥
fault-silent number end fault says = ⊎_elim
    (λ (damaged : (block : ℕ) × (rule : ℕ) × (end ≡ Damaged number block rule)).
    let same = damaged.2 in absurd cc)
    (λ (version : (found : ℕ) × (end ≡ Version number found)). let same = version.1 in absurd cc)
    says

told-by : (number : ℕ) (why : OpenNo) → SaysOfBlocks number (open_line number why) → IsToldNo why
told-by number (nos.Damaged block rule) says = tt
told-by number (nos.Version found) says = tt
told-by number (nos.Unserved block cause) says = tt
told-by number nos.Read says = fault-silent number (DeviceFault number) refl says
told-by number nos.Write says = fault-silent number (DeviceFault number) refl says
told-by number nos.Memory says = memory-silent number NoMemory refl says

-- a line that says something of the blocks is that of an answer which does
pub says-told : (number : ℕ) (why : OpenNo) (end : EndLine) → end ≡ open_line number why
    → SaysOfBlocks number end → IsToldNo why
says-told number why end same says = told-by number why (subst (SaysOfBlocks number) same says)

-- ---- the beginning of a run

-- a volume that is held from its opening, and has no entry yet
pub opening-run : {B : Type 0} (seen : B → Seen) (faults : B → Faults) (opening : State)
    (volume : VolumeNow B)
    → volume.file.entries ≡ [] → volume.file.stopped ≡ None → IsWhole seen volume
    → IsHeld seen opening volume
    → ((image : Image) → (seen volume.blocks).images (seen volume.blocks).moment image
    → Left (seen volume.blocks) image) → HasRun seen faults opening volume.blocks volume
opening-run seen faults opening volume none going whole held may = record {
  held = held;
  keeps_catalog = subst (KeepTheCatalog volume.file.geometry opening) (sym none) tt;
  left = guards-weaken now now (RecoversTo volume.store.log.geometry volume.number state [])
      (IsLeftBy volume.file.geometry volume.number opening volume.file.entries)
      (idle-guards volume.number volume.store state now (held.stored going) may)
      (λ image is. record {
        before = volume.file.entries;
        after = [];
        is = sym (append-nil volume.file.entries);
        left = Counted [] (inl refl)
            (subst (λ (g : Geometry). RecoversTo g volume.number state [] image)
            (whole.geometry going) is);
      });
  events = record { events = []; are = (refl, none) };
  stopped = λ stops. absurd (stops going);
}
  where
    now : Seen
    now = seen volume.blocks

    state : State
    state = state_now opening volume.file
