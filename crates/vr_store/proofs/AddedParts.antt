-- A part that is laid last, under a number of its own.
use Rattle.std.proofs.Common.{◌≡◌, ◌≢◌, ℕ, Bool, true, false, cond, List, [], ◌∷◌}
use Rattle.std.proofs.Common.{◌++◌, Option, Some, None, refl, sym, ap, subst, ◌∙◌}
use Rattle.std.proofs.Common.{map, nat_eq, set}
use Rattle.std.specs.Prelude.{All, IfSome, find}
use Rattle.std.specs.List.{AllByRecursion, IsDistinct}
use Rattle.std.specs.Option.{option_map, option_or}
use Rattle.std.proofs.lemmas.Bool.{true≢false}
use Rattle.std.proofs.lemmas.Bool.Decides.{Decides-eqb}
use Rattle.std.proofs.lemmas.List.Elements.{All-cons, All-nil, All-push, All-weaker}
use Rattle.std.proofs.lemmas.List.Folds.{find-append}
use Rattle.vr_types.specs.Seen.{Seen}
use Rattle.vr_types.specs.declared.geometry.Geometry.{Geometry}
use Rattle.vr_types.specs.declared.unit.Kind.{Kind}
use Rattle.vr_types.specs.declared.unit.Kind.TheVariants as kinds
use Rattle.vr_types.specs.declared.unit.PartNo.{PartNo}
use Rattle.vr_types.specs.Space.{least_free}
use Rattle.vr_catalog.specs.declared.definition.Definition.{Definition}
use Rattle.vr_space.specs.Known.{Known, held_with}
use Rattle.vr_space.specs.Part.{IsOn, KeyedShape, NumberedShape, OwnsChain, Shape, held_by}
use Rattle.vr_space.specs.Part.{owned_count, part_no}
use Rattle.vr_space.specs.Split.{MoveNow}
use Rattle.vr_attach.specs.Laid.{shape_by_kind}
use Rattle.vr_history.specs.State.{BeforeImage}
use Rattle.vr_undo.specs.Records.{befores_of}
use Rattle.vr_store.specs.Store.{HasLength, IsFitImage, IsOldOf, IsPartSet, IsSet, OwnsItsChain}
use Rattle.vr_store.specs.Store.{PartNow}
use Rattle.vr_store.specs.Store.{StoreNow, has_number, part_among, shape_among}
use Rattle.vr_store.proofs.NewAreas.{claimed, given}
use Rattle.vr_store.proofs.PlacedParts.{number_of}
use Rattle.vr_store.proofs.PutNothing.{set-still}
use Rattle.vr_store.proofs.Worked.{all-both}

some-none : {X : Type 0} {x : X} → Some x ≡ None → ⊥
some-none same = cc

some-same : {X : Type 0} {x y : X} → Some x ≡ Some y → x ≡ y
some-same same = cc

-- ---- a part by its definition

-- it has its number,
pub kind-number : (geometry : Geometry) (part : PartNo) (area : ℕ) (definition : Definition)
    (kind : Kind) (shape : Shape)
    → shape_by_kind geometry part.0 area definition kind ≡ Some shape → part_no shape ≡ part
kind-number geometry part area definition kinds.Keyed shape is = ap part_no (sym (some-same is))
kind-number geometry part area definition kinds.Entry shape is = ap part_no (sym (some-same is))
kind-number geometry part area definition kinds.Relative shape is =
    ap part_no (sym (some-same is))

-- and where no split is under way it holds the areas of its chain alone.
pub chain-held : (shape : Shape) (known : Known) → known.move ≡ None
    → known.areas ≡ held_by shape known
chain-held (KeyedShape part) known none =
    ap (λ (move : Option MoveNow). held_with known.areas move) (sym none)
chain-held (NumberedShape part) known none = refl

-- ---- parts by their numbers

module _ (number : ℕ) where
  none-here : (one : PartNow) (parts : List PartNow) → part_among (one ∷ parts) number ≡ None
      → (one.number.0 ≢ number) × (part_among parts number ≡ None)
  none-here one parts none = by_test (has_number number one) refl none
    where
      by_test : (test : Bool) → has_number number one ≡ test
          → cond test (Some one) (part_among parts number) ≡ None
          → (one.number.0 ≢ number) × (part_among parts number ≡ None)
      by_test true is same = absurd (some-none same)
      by_test false is same = (
        λ here. true≢false (sym ((Decides-eqb one.number.0 number).1 here) ∙ is),
        same,
      )

  -- where none has the number, each has another
  pub all-apart : (parts : List PartNow) → part_among parts number ≡ None
      → All (λ (part : PartNow). part.number.0 ≢ number) parts
  all-apart [] none = All-nil (λ (part : PartNow). part.number.0 ≢ number)
  all-apart (one ∷ parts) none =
      let both = none-here one parts none in
      All-cons (λ (part : PartNow). part.number.0 ≢ number) one parts both.0
      (all-apart parts both.1)

not-equal : (one other : ℕ) → one ≢ other → nat_eq one other ≡ false
not-equal one other apart = by_test (nat_eq one other) refl
  where
    by_test : (test : Bool) → nat_eq one other ≡ test → test ≡ false
    by_test true is = absurd (apart ((Decides-eqb one other).0 is))
    by_test false is = refl

module _ (added : PartNow) where
  -- one part more than these
  abbrev pub with-added : List PartNow → List PartNow
  with-added parts = parts ++ added ∷ []

  -- a part that is found stays so,
  pub among-more : (parts : List PartNow) (number : ℕ) (part : PartNow)
      → part_among parts number ≡ Some part → part_among (with-added parts) number ≡ Some part
  among-more parts number part found = find-append (has_number number) parts (added ∷ [])
      ∙ ap (λ (one : Option PartNow). option_or one (find (has_number number) (added ∷ []))) found

  -- and the other one is found where none was.
  pub among-added : (parts : List PartNow) (number : ℕ) → part_among parts number ≡ None
      → part_among (with-added parts) number ≡ cond (has_number number added) (Some added) None
  among-added parts number none = find-append (has_number number) parts (added ∷ [])
      ∙ ap (λ (one : Option PartNow). option_or one (find (has_number number) (added ∷ []))) none

  all-more : (number : ℕ) (parts : List PartNow)
      → AllByRecursion (λ n. nat_eq number n ≡ false) (map number_of parts)
      → nat_eq number added.number.0 ≡ false
      → AllByRecursion (λ n. nat_eq number n ≡ false) (map number_of (with-added parts))
  all-more number [] all last = (last, tt)
  all-more number (one ∷ parts) all last = (all.0, all-more number parts all.1 last)

  -- The numbers differ,
  pub distinct-more : (parts : List PartNow) → part_among parts added.number.0 ≡ None
      → IsDistinct nat_eq (map number_of parts) → IsDistinct nat_eq (map number_of (with-added parts))
  unfolding IsDistinct
  distinct-more [] none distinct = (tt, tt)
  distinct-more (one ∷ parts) none distinct =
      let both = none-here added.number.0 one parts none in (
        all-more one.number.0 parts distinct.0
            (not-equal one.number.0 added.number.0 both.0),
        distinct-more parts both.1 distinct.1,
      )

  -- and what may be put back is fit for the parts.
  fit-more : (parts : List PartNow) (image : BeforeImage) → IsFitImage parts image
      → IsFitImage (with-added parts) image
  fit-more parts image is = by_found (part_among parts image.part) refl
    where
      by_found : (found : Option PartNow) → part_among parts image.part ≡ found
          → IsFitImage (with-added parts) image
      by_found None none = absurd (is.part none)
      by_found (Some part) some =
          let more = among-more parts image.part part some in
          let same : shape_among parts image.part ≡ shape_among (with-added parts) image.part =
          ap (option_map (λ (p : PartNow). p.shape)) (some ∙ sym more) in
          record {
            part = λ none. some-none (sym more ∙ none);
            place = subst (λ (found : Option Shape).
                IfSome found (λ shape. Rattle.vr_space.specs.Part.IsPlaceOf shape image.place)) same
                is.place;
            old = subst (λ (found : Option Shape).
                IfSome found (λ shape. IsOldOf shape image.place image.old)) same is.old;
            long = subst (λ (found : Option Shape). IfSome found HasLength) same is.long;
          }

  pub fits-more : (parts : List PartNow) (images : List BeforeImage)
      → All (IsFitImage parts) images → All (IsFitImage (with-added parts)) images
  fits-more parts images =
      All-weaker (IsFitImage parts) (IsFitImage (with-added parts)) (fit-more parts) images

-- ---- the store

-- the store with one part more, on areas that it owns then
pub grown-is : (store : StoreNow) (added : PartNow) (parts : List PartNow)
    (space owned : List (Option PartNo)) → parts ≡ with-added added store.parts → space ≡ owned
    → record store { parts = parts; space = space }
    ≡ record store { parts = with-added added store.parts; space = owned }
grown-is store added parts space owned more areas =
    ap (λ (ps : List PartNow). let s : StoreNow = record store { parts = ps; space = space } in s)
    more
    ∙ ap (λ (owners : List (Option PartNo)). let s : StoreNow = record store {
      parts = with-added added store.parts;
      space = owners;
    } in s) areas

-- the parts of a store, beside one that it doesn't have
pub all-others : (store : StoreNow) (part : ℕ) (now : Seen) → part_among store.parts part ≡ None
    → IsSet store now → All (λ (other : PartNow). IsPartSet now other × (other.number.0 ≢ part)
    × OwnsItsChain store.space other) store.parts
all-others store part now fresh set = All-weaker (λ (other : PartNow). (IsPartSet now other
    × OwnsItsChain store.space other) × (other.number.0 ≢ part))
    (λ (other : PartNow). IsPartSet now other × (other.number.0 ≢ part)
    × OwnsItsChain store.space other)
    (λ other is. (is.0.0, is.1, is.0.1)) store.parts
    (all-both (λ (other : PartNow). IsPartSet now other × OwnsItsChain store.space other)
    (λ (other : PartNow). other.number.0 ≢ part) store.parts
    (all-both (IsPartSet now) (OwnsItsChain store.space) store.parts set.parts set.owns)
    (all-apart part store.parts fresh))

module _ (store : StoreNow) (part : PartNo) (area : ℕ) (added : PartNow)
    (least : least_free store.space ≡ Some area) (none : owned_count part store.space ≡ 0)
    (fresh : part_among store.parts part.0 ≡ None) (number : added.number ≡ part) where
  -- the store with the part, which got the area
  abbrev pub grown : StoreNow
  grown = record store {
    parts = with-added added store.parts;
    space = given part store.space area least none;
  }

  -- each other part owns the areas that it owned
  owns-still : (a : Seen) (other : PartNow) → IsPartSet a other × (other.number.0 ≢ part.0)
      × OwnsItsChain store.space other → OwnsItsChain grown.space other
  owns-still a other is =
      (claimed part store.space area least none).others (part_no other.shape)
      (λ same. is.1 (ap (λ (n : PartNo). n.0) (sym is.0.number) ∙ same))
      ∙ is.2

  -- It is set, where the part is on blocks of the device and holds the area that it owns.
  pub set-grown : (a b : Seen) → b.count ≡ a.count → b.size ≡ a.size → part_no added.shape ≡ part
      → IsOn added.shape b → OwnsChain added.shape added.known grown.space → IsSet store a
      → IsSet grown b
  set-grown a b count size numbered on owns before-set =
      let set = set-still store a b count size before-set in
      record {
        allowed = set.allowed;
        blocks = set.blocks;
        sound = set.sound;
        parts = All-push (IsPartSet b) store.parts added set.parts
            (record { number = numbered ∙ sym number; on = on });
        apart = distinct-more added store.parts
            (ap (λ (n : PartNo). part_among store.parts n.0) number ∙ fresh) set.apart;
        changed = set.changed;
        idle = set.idle;
        kept = fits-more added store.parts (befores_of store.undo) set.kept;
        areas = (claimed part store.space area least none).count ∙ set.areas;
        owns = All-push (OwnsItsChain grown.space) store.parts added
            (All-weaker (λ (other : PartNow). IsPartSet b other × (other.number.0 ≢ part.0)
            × OwnsItsChain store.space other) (OwnsItsChain grown.space) (owns-still b) store.parts
            (all-others store part.0 b fresh set)) owns;
      }
