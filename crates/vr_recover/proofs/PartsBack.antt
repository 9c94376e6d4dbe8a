-- What putting before-images back into one part leaves of all parts.
use Rattle.std.proofs.Common.{◌≡◌, ◌≢◌, ◌⊎◌, ⊎_elim, inl, inr, ◌<◌, ℕ, zero, suc, Bool, true, false}
use Rattle.std.proofs.Common.{List, [], ◌∷◌, Option}
use Rattle.std.proofs.Common.{Some, None, refl, sym, ap, subst, ◌∙◌, arith, length, set, take, get_or}
use Rattle.std.proofs.Common.{get_or-set_other, get_or-set_same, length-set}
use Rattle.std.specs.Prelude.{All, map, nat_eq, slice_get}
use Rattle.std.specs.Option.{option_map}
use Rattle.std.proofs.lemmas.Bool.{true≢false}
use Rattle.std.proofs.lemmas.Bool.Decides.{Decides-eqb, eqb_tells}
use Rattle.std.proofs.lemmas.List.{get_or-take, length-take}
use Rattle.std.proofs.lemmas.Option.{get_or_from_slice_get, slice_get-get_or, slice_get-map}
use Rattle.std.proofs.lemmas.Option.{slice_get_within}
use Rattle.vr_types.specs.Blocks.{AllForced}
use Rattle.vr_types.specs.Content.{Content, item_at}
use Rattle.vr_types.specs.Image.{Block}
use Rattle.vr_types.specs.Seen.{Left, Seen}
use Rattle.vr_types.specs.declared.geometry.Geometry.{Geometry}
use Rattle.vr_types.specs.declared.unit.PartNo.{PartNo}
use Rattle.vr_space.specs.Known.{Known}
use Rattle.vr_space.specs.Owners.{Owners}
use Rattle.vr_space.specs.Part.{IsSound, Shape, held_by, item_of, part_no}
use Rattle.vr_space.specs.Room.{Lengths}
use Rattle.vr_space.proofs.CallerLemmas.{IsPartBlock, StaysPart, held-same, holds-less}
use Rattle.vr_space.proofs.CallerLemmas.{knows-stays, owns-none, rest-sound, rest-stays}
use Rattle.vr_space.proofs.CallerLemmas.{room-stays, same-stays}
use Rattle.vr_history.specs.State.{BeforeImage}
use Rattle.vr_log.specs.LogNow.{HasLog, LogNow}
use Rattle.vr_log.specs.declared.record.LogRecord.{LogRecord}
use Rattle.vr_volume.specs.Laid.{shape_by}
use Rattle.vr_volume.specs.Laying.{IsLaidSo}
use Rattle.vr_volume.specs.PutBack.{images_of, is_image_of, lengths_kept, oldest}
use Rattle.vr_recover.specs.Recovered.{item_back}
use Rattle.vr_volume.specs.Safe.{IsSafe, IsSafeBy}
use Rattle.vr_volume.proofs.Alone.{is-there}
use Rattle.vr_recover.specs.Undone.{AreOpened, AreSettled, HasAll, HasAllRecords, HasPart}
use Rattle.vr_recover.specs.Undone.{IsAllFirm, IsCovered, IsKeptOf, IsReady, IsSettledPart}
use Rattle.vr_recover.specs.Undone.{ReadsAll, ReadsContent, alike}
use Rattle.vr_recover.proofs.PuttingBack.{found-passes}
use Rattle.vr_recover.proofs.Settled.{item-here}

-- ---- another part

module _ (shape : Shape) (owners : Owners) (a b : Seen) (stays : StaysPart shape owners a b) where
  pub ready-stays : (known : Known) (kept : Lengths) → Left a a.cur
      → IsReady shape owners known kept a → IsReady shape owners known kept b
  ready-stays known kept left ready = record {
    rests = rest-stays a b shape owners stays ready.rests;
    room = room-stays a b shape owners kept stays (rest-sound shape owners a ready.rests)
        ready.room;
    knows = knows-stays a b shape owners known stays (rest-sound shape owners a ready.rests) left
        (owns-none shape owners known ready.no_move) ready.knows;
    no_split = ready.no_split;
    no_move = ready.no_move;
  }

  module _ (sound : IsSound shape owners a) where
    fewer : (n : ℕ) (block : Block) → IsPartBlock shape owners a n → b.may n block
        → a.may n block
    fewer n block is may = stays.fewer n block is.0 is.1 may

    pub firm-stays : Left a a.cur → IsAllFirm shape a → IsAllFirm shape b
    firm-stays left firm place found held =
        firm place found (holds-less shape owners a b.may sound fewer place found held)
        ∙ sym (same-stays a b shape owners stays sound left place)

    -- a part that a crash left is as it left it
    pub settled-stays : (part : ℕ) (images : List BeforeImage) (content : Content) → Left a a.cur
        → IsSettledPart shape owners part images content a
        → IsSettledPart shape owners part images content b
    settled-stays part images content left settled = record {
      rests = rest-stays a b shape owners stays settled.rests;
      firm = firm-stays left settled.firm;
      back = λ place. settled.back place
          ∙ ap (item_back shape (oldest images part place))
          (sym (same-stays a b shape owners stays sound left place));
    }

    -- and one that reads as a content does so still
    pub reads-stay : Left a a.cur → (content : Content) → ReadsContent shape content a.cur
        → ReadsContent shape content b.cur
    reads-stay left content reads place =
        same-stays a b shape owners stays sound left place ∙ reads place

-- ---- what a part holds

-- A part that keeps its shape, its areas and the split of an area under way holds what it held.
pub holds-still : (shape other : Shape) (known later : Known) → other ≡ shape
    → later.areas ≡ known.areas → later.move ≡ known.move
    → held_by other later ≡ held_by shape known
holds-still shape other known later same areas moves =
    ap (λ (s : Shape). held_by s later) same ∙ held-same shape known later areas moves

-- ---- all parts

apart-from : (one other : ℕ) → nat_eq one other ≡ false → one ≢ other
apart-from one other is same = true≢false (sym ((Decides-eqb one other).1 same) ∙ is)

-- what each has, each has still, where one got it and the others keep it
module _ {X : Type 0} (P Q : X → Type 0) (xs : List X) (at : ℕ) where
  pub all-others : (x : X) → slice_get xs at ≡ Some x → Q x
      → ((other : ℕ) (y : X) → slice_get xs other ≡ Some y → other ≢ at → P y → Q y)
      → All P xs → All Q xs
  all-others x is here others all k d below = by_at (nat_eq k at) refl
    where
      by_at : (b : Bool) → nat_eq k at ≡ b → Q (get_or xs k d)
      by_at true same = subst Q (sym (ap (λ (j : ℕ). get_or xs j d) ((Decides-eqb k at).0 same)
          ∙ get_or_from_slice_get xs at x d is)) here
      by_at false apart = others k (get_or xs k d) (slice_get-get_or xs k d below)
          (apart-from k at apart) (all k d below)

  -- or one is replaced
  pub all-set : (x : X) → Q x
      → ((other : ℕ) (y : X) → slice_get xs other ≡ Some y → other ≢ at → P y → Q y)
      → All P xs → All Q (set xs at x)
  all-set x here others all k d below = by_at (nat_eq k at) refl
    where
      within : k < length xs
      within = omega (arith, below, length-set xs at x)

      by_at : (b : Bool) → nat_eq k at ≡ b → Q (get_or (set xs at x) k d)
      by_at true same =
          let one : k ≡ at = (Decides-eqb k at).0 same in
          let there : at < length xs = omega (arith, within, one) in
          subst Q (sym (ap (λ (j : ℕ). get_or (set xs at x) j d) one
          ∙ get_or-set_same xs at x d there)) here
      by_at false apart =
          let off : k ≢ at = apart-from k at apart in
          subst Q (sym (get_or-set_other xs at k x d off))
          (others k (get_or xs k d) (slice_get-get_or xs k d within) off (all k d within))

-- the elements before one
pub all-before : {X : Type 0} (P Q : X → Type 0) (xs : List X) (at : ℕ)
    → ((other : ℕ) (y : X) → slice_get xs other ≡ Some y → other ≢ at → P y → Q y)
    → All P (take at xs) → All Q (take at xs)
all-before P Q xs at others all k d below =
    let less : k < at = omega (arith, below, length-take at xs) in
    let within : k < length xs = omega (arith, below, length-take at xs) in
    let off : k ≢ at = λ same. omega (arith, less, same) in
    let same : get_or (take at xs) k d ≡ get_or xs k d = get_or-take at xs k d less in
    subst Q (sym same) (others k (get_or xs k d) (slice_get-get_or xs k d within) off
    (subst P same (all k d below)))

-- what all have, one has
pub all-at : {X : Type 0} (P : X → Type 0) (xs : List X) (at : ℕ) (x : X)
    → slice_get xs at ≡ Some x → All P xs → P x
all-at P xs at x is all = subst P (get_or_from_slice_get xs at x x is)
    (all at x (slice_get_within xs at x is))

-- where one is among what is read off others
pub read-off : {X Y : Type 0} (f : X → Y) (xs : List X) (ys : List Y) (i : ℕ) (x d : X)
    → map f xs ≡ ys → i < length xs → x ≡ get_or xs i d → slice_get ys i ≡ Some (f x)
read-off f xs ys i x d same below is = ap (λ (l : List _). slice_get l i) (sym same)
    ∙ slice_get-map f xs i ∙ ap (option_map f) (slice_get-get_or xs i d below)
    ∙ ap (λ y. Some (f y)) (sym is)

-- ---- the volume

-- it is safe by all records of the log
module _ (geometry : Geometry) (member : ℕ) (owners : Owners) (log : LogNow)
    (contents : ℕ → Content) (a : Seen)
    (safe : IsSafe geometry member owners log (alike contents) a) (left : Left a a.cur) where
  pub all-safe : HasAllRecords log → IsSafeBy geometry owners log.records contents a
  all-safe records =
      let has : HasLog log a.cur =
      safe.logs a.cur (record { each = λ n below inside. left.each n below }) in
      subst (λ (rs : List LogRecord). IsSafeBy geometry owners rs contents a) (records has.0 has.2)
      (safe.by_log has.0 has.2)

-- a part is laid by each log that an image may have
pub laid-opened : (geometry : Geometry) (log : LogNow) (contents : ℕ → Content)
    (kept : PartNo → Lengths) (shapes : List Shape) (at : ℕ) (shape : Shape) (number : PartNo)
    → AreOpened geometry log contents shapes → slice_get shapes at ≡ Some shape
    → IsKeptOf kept log → number ≡ part_no shape
    → IsLaidSo geometry log (alike contents) number.0 shape (kept number)
laid-opened geometry log contents kept shapes at shape number opened is kept-is same content has =
    record {
      laid = ap (λ (no : PartNo). shape_by geometry (contents 0) no.0) same
          ∙ all-at (λ (s : Shape). shape_by geometry (contents 0) (part_no s).0 ≡ Some s) shapes at
          shape is opened.laid;
      kept_is = kept-is number
          ∙ ap (λ (records : List LogRecord). lengths_kept (images_of records) number.0)
          (sym (opened.records content has));
    }

pub shape-is : (one other : Shape) → Some one ≡ Some other → one ≡ other
shape-is one other same = cc

-- ---- which of the parts there are

pub part-or-not : (shapes : List Shape) (part : ℕ)
    → HasPart shapes part ⊎ (HasPart shapes part → ⊥)
part-or-not [] part = inr (λ has. none-there has.1 has.2)
  where
    none-there : (x : Shape) → None ≡ Some x → ⊥
    none-there x same = cc
part-or-not (first ∷ shapes) part = elim (eqb_tells part (part_no first).0) [
  | inl same ↦ inl (0, first, refl, same.1)
  | inr differ ↦ ⊎_elim
      (λ has. inl (suc has.0, has.1, has.2, has.3))
      (λ none. inr (λ has. at has.0 has.1 has.2 has.3 differ.1 none))
      (part-or-not shapes part)
]
  where
    some-is : (x y : Shape) → Some x ≡ Some y → x ≡ y
    some-is x y same = cc

    at : (k : ℕ) (shape : Shape) → slice_get (first ∷ shapes) k ≡ Some shape
        → part ≡ (part_no shape).0 → part ≢ (part_no first).0 → (HasPart shapes part → ⊥) → ⊥
    at zero shape is same apart none =
        apart (same ∙ ap (λ (s : Shape). (part_no s).0) (sym (some-is first shape is)))
    at (suc k) shape is same apart none = none (k, shape, is, same)

-- one of the first is one of them
pub taken-at : (n : ℕ) (shapes : List Shape) (at : ℕ) (shape : Shape)
    → slice_get (take n shapes) at ≡ Some shape → (at < n) × (slice_get shapes at ≡ Some shape)
taken-at n shapes at shape is =
    let within : at < length (take n shapes) = slice_get_within (take n shapes) at shape is in
    let less : at < n = omega (arith, within, length-take n shapes) in
    let below : at < length shapes = omega (arith, within, length-take n shapes) in (
      less,
      slice_get-get_or shapes at shape below
          ∙ ap Some (sym (get_or-take n shapes at shape less)
          ∙ get_or_from_slice_get (take n shapes) at shape shape is),
    )

-- and the other way round
pub at-taken : (n : ℕ) (shapes : List Shape) (at : ℕ) (shape : Shape) → at < n
    → slice_get shapes at ≡ Some shape → slice_get (take n shapes) at ≡ Some shape
at-taken n shapes at shape less is =
    let below : at < length shapes = slice_get_within shapes at shape is in
    let within : at < length (take n shapes) = omega (arith, less, below, length-take n shapes) in
    slice_get-get_or (take n shapes) at shape within
    ∙ ap Some (get_or-take n shapes at shape less ∙ get_or_from_slice_get shapes at shape shape is)

-- ---- once all are put back

-- no before-image is of a part that isn't one of these
no-image : (shapes : List Shape) (images : List BeforeImage) (part : ℕ)
    → All (IsCovered shapes) images → (HasPart shapes part → ⊥) → (place : List ℕ)
    → oldest images part place ≡ None
no-image shapes images part covered none place = by_image (oldest images part place) refl
  where
    by_image : (image : Option BeforeImage) → oldest images part place ≡ image → image ≡ None
    by_image None is = refl
    by_image (Some image) is =
        let has : (is_image_of part place image ≡ true) × IsCovered shapes image =
        found-passes (IsCovered shapes) (is_image_of part place) images image covered is in
        absurd (none (subst (HasPart shapes) (is-there part place image has.0).0 has.1))

-- Once each of these parts reads as its content, and each other is as a crash left it, all that are
-- laid read as theirs: one that isn't among them has no before-image.
pub all-parts : (geometry : Geometry) (owners : Owners) (log : LogNow) (contents : ℕ → Content)
    (shapes : List Shape) (a : Seen) → AreOpened geometry log contents shapes
    → All (IsCovered shapes) (images_of log.records)
    → All (λ (shape : Shape). ReadsContent shape (contents (part_no shape).0) a.cur) shapes
    → ((part : ℕ) (shape : Shape) → shape_by geometry (contents 0) part ≡ Some shape
    → (HasPart shapes part → ⊥)
    → IsSettledPart shape owners part (images_of log.records) (contents part) a)
    → ReadsAll geometry contents a.cur
all-parts geometry owners log contents shapes a opened covered all others part shape laid place =
    ⊎_elim
    (λ has. let other : Shape = has.1 in
    let there : shape_by geometry (contents 0) (part_no other).0 ≡ Some other =
    all-at (λ (s : Shape). shape_by geometry (contents 0) (part_no s).0 ≡ Some s) shapes
    has.0 other has.2 opened.laid in
    let one : shape ≡ other = shape-is shape other
    (sym laid ∙ ap (shape_by geometry (contents 0)) has.3 ∙ there) in
    let reads : ReadsContent other (contents (part_no other).0) a.cur =
    all-at (λ (s : Shape). ReadsContent s (contents (part_no s).0) a.cur) shapes has.0 other has.2
    all in
    ap (λ (s : Shape). item_of s a.cur place) one ∙ reads place
    ∙ sym (ap (λ (p : ℕ). item_at (contents p) place) has.3))
    (λ none. let images = images_of log.records in
    let settled = others part shape laid none in
    sym (settled.back place
    ∙ ap (λ (o : Option BeforeImage). item_back shape o (item_of shape a.cur place))
    (no-image shapes images part covered none place)))
    (part-or-not shapes part)

-- ---- once that is forced

-- where a crash leaves what is read alone, whatever it leaves of a safe volume has the items that
-- its parts read
pub forced-all : (geometry : Geometry) (member : ℕ) (owners : Owners) (log : LogNow)
    (contents : ℕ → Content) (a : Seen) → IsSafe geometry member owners log (alike contents) a
    → Left a a.cur → HasAllRecords log → AllForced a.count a.cur a.may
    → ReadsAll geometry contents a.cur → HasAll geometry contents a
forced-all geometry member owners log contents a safe left records forced reads part shape laid
    place found held =
    let by = all-safe geometry member owners log contents a safe left records in
    item-here shape owners a forced (by.parts part shape laid).sound place found held
    ∙ reads part shape laid place

-- where no before-image is to be put back, whatever a crash leaves has the items of the contents
pub settled-all : (geometry : Geometry) (owners : Owners) (images : List BeforeImage)
    (contents : ℕ → Content) (a : Seen) → images ≡ []
    → AreSettled geometry owners images contents a → HasAll geometry contents a
settled-all geometry owners images contents a none settled part shape laid place found held =
    let here = settled part shape laid in
    here.firm place found held
    ∙ sym (here.back place
    ∙ ap (λ (is : List BeforeImage). item_back shape (oldest is part place)
    (item_of shape a.cur place)) none)
