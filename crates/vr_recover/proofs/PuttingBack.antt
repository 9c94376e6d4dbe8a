-- What putting before-images back into a part leaves.
use Rattle.std.proofs.Common.{◌≡◌, ◌≢◌, ℕ, Bool, true, false, cond, List, [], ◌∷◌, ◌++◌}
use Rattle.std.proofs.Common.{Option, Some, None, refl, sym, ap, subst, ◌∙◌, ◌<◌, ◌+◌, get_or, length}
use Rattle.std.proofs.Common.{take}
use Rattle.std.specs.Prelude.{All, IfSome, bytes_eq, find}
use Rattle.std.specs.List.{cons_option, filter_map}
use Rattle.std.specs.Option.{option_and_then, option_map}
use Rattle.std.proofs.lemmas.Bool.{true≢false}
use Rattle.std.proofs.lemmas.List.Elements.{All-append, All-cons, All-head, All-nil, All-tail}
use Rattle.std.proofs.lemmas.List.{take_more}
use Rattle.std.proofs.lemmas.List.Elements.{All-weaker, filter_map-append}
use Rattle.std.proofs.lemmas.Slice.Eq.{bytes_eq-Decides}
use Rattle.vr_types.specs.Content.{Content, Item, Standing, item_at, record_of}
use Rattle.vr_types.specs.Image.{Image}
use Rattle.vr_types.specs.Seen.{Seen}
use Rattle.vr_types.specs.declared.unit.PartNo.{PartNo}
use Rattle.vr_types.specs.declared.unit.Unit.{Unit as UnitOfRecovery}
use Rattle.vr_space.specs.Owners.{Owners}
use Rattle.vr_seqset.specs.Entry.{Entry}
use Rattle.vr_space.specs.Areas.{KeyedChain, area_for, head_in}
use Rattle.vr_space.specs.Keyed.{entry_in}
use Rattle.vr_space.specs.Known.{Known}
use Rattle.vr_space.specs.Numbered.{left_in}
use Rattle.vr_space.specs.Room.{Lengths, Range}
use Rattle.vr_space.specs.Split.{AreaSplit, MoveNow, keyed_stage, stage_by, stage_in}
use Rattle.vr_space.specs.Part.{CanSet, KeyedShape, NumberedShape, SetsOne, Shape, item_of, left_by}
use Rattle.vr_space.specs.Part.{part_no, stage_of}
use Rattle.vr_space.proofs.CallerLemmas.{can-set-kept, left-none}
use Rattle.vr_history.specs.State.{BeforeImage}
use Rattle.vr_log.specs.Live.{is_in, live_in}
use Rattle.vr_log.specs.LogNow.{LogNow}
use Rattle.vr_log.specs.declared.record.LogRecord.{LogRecord}
use Rattle.vr_log.specs.declared.record.LogRecord.TheVariants.{Before}
use Rattle.vr_volume.specs.Laying.{IsFreeIn}
use Rattle.vr_volume.specs.PutBack.{AreAlone, image_in, images_of, is_image_of, oldest}
use Rattle.vr_volume.proofs.Alone.{is-own, is-there}
use Rattle.vr_volume.proofs.CallerLemmas.{goes-back}
use Rattle.vr_volume.proofs.Images.{image_of}
use Rattle.vr_recover.specs.Recovered.{item_back}
use Rattle.vr_recover.specs.Undone.{ArePutBack, HasAllRecords, IsBackIn, IsKeptAt, IsLeftIn}
use Rattle.vr_recover.specs.Undone.{IsSettledPart, ReadsAs, ReadsContent}

-- ---- room for one

no-stage-in : (found : Option (Range × Entry)) → stage_in None found ≡ None
no-stage-in None = refl
no-stage-in (Some at) = refl

no-stage-by : (part : KeyedChain) (image : Image) (place : List ℕ) (area : Option ℕ)
    → stage_by part None None image place area ≡ None
no-stage-by part image place None = refl
no-stage-by part image place (Some area) = no-stage-in (entry_in (head_in part image area) place)

-- with no split of an interval or of an area under way no stage comes before a change
no-stage : (shape : Shape) (known : Known) (image : Image) (place : List ℕ)
    → known.split ≡ None → known.move ≡ None → stage_of shape known image place ≡ None
no-stage (KeyedShape part) known image place none still =
    ap (λ (split : Option AreaSplit). keyed_stage part split known.move image place) none
    ∙ ap (λ (move : Option MoveNow). keyed_stage part None move image place) still
    ∙ no-stage-by part image place (area_for part image place)
no-stage (NumberedShape part) known image place none still = refl

-- a record may be put back for which room of its length is kept, and any may be taken away
pub can-go-back : (shape : Shape) (known : Known) (image : Image) (kept : Lengths)
    (place : List ℕ) (old : Option (List ℕ)) → known.split ≡ None → known.move ≡ None
    → IsKeptAt kept place old → CanSet shape known image kept place old
can-go-back shape known image kept place None none still room =
    record { no_stage = no-stage shape known image place none still; room = tt }
can-go-back shape known image kept place (Some bytes) none still room =
    can-set-kept shape known image kept place bytes (length bytes) room
    (goes-back shape (length bytes)) (no-stage shape known image place none still)

-- ---- one before-image

-- the record of a before-image of the log
pub record-is : (bytes : Option (List ℕ)) → option_and_then record_of (option_map Standing bytes)
    ≡ bytes
record-is None = refl
record-is (Some bytes) = refl

-- what is left once is left if the same is put back again
twice-in : (relative : Bool) (now : Option Item) (bytes : Option (List ℕ))
    → left_in relative (left_in relative now bytes) bytes ≡ left_in relative now bytes
twice-in true now bytes = refl
twice-in false None None = refl
twice-in false (Some item) None = refl
twice-in false now (Some bytes) = refl

left-twice : (shape : Shape) (now : Option Item) (bytes : Option (List ℕ))
    → left_by shape (left_by shape now bytes) bytes ≡ left_by shape now bytes
left-twice (KeyedShape part) now bytes = refl
left-twice (NumberedShape part) now bytes = twice-in part.relative now bytes

-- where two leave the same of an item, the second leaves that of what the first left
left-again : (shape : Shape) (now : Option Item) (one other : Option (List ℕ))
    → left_by shape now other ≡ left_by shape now one
    → left_by shape (left_by shape now one) other ≡ left_by shape now one
left-again shape now one other same =
    let bytes : other ≡ one = sym (left-none shape now other)
    ∙ ap (option_and_then record_of) same ∙ left-none shape now one in
    ap (left_by shape (left_by shape now one)) bytes ∙ left-twice shape now one

module _ (shape : Shape) (content : Content) (image : BeforeImage) (old : Option (List ℕ))
    (a c : Seen) (set : SetsOne shape image.place old a.cur c.cur)
    (was : option_and_then record_of image.old ≡ old) (mine : image.part ≡ (part_no shape).0)
    (left : IsLeftIn shape content a.cur image) where
  at-place : item_of shape c.cur image.place ≡ item_at content image.place
  at-place = set.here ∙ ap (left_by shape (item_of shape a.cur image.place)) (sym was)
      ∙ sym (left mine)

  -- a place is that of the image, or another one
  by-place : (P : List ℕ → Type 0) (place : List ℕ) → P image.place
      → (place ≢ image.place → P place) → P place
  by-place P place here other = by_test (bytes_eq place image.place) refl
    where
      by_test : (same : Bool) → bytes_eq place image.place ≡ same → P place
      by_test true is = subst P (sym ((bytes_eq-Decides place image.place).0 is)) here
      by_test false is =
          other (λ same. true≢false (sym ((bytes_eq-Decides place image.place).1 same) ∙ is))

  stays-read : (place : List ℕ) → ReadsAs shape content a.cur place
      → ReadsAs shape content c.cur place
  stays-read place reads = by-place (ReadsAs shape content c.cur) place at-place
      (λ apart. set.others place apart ∙ reads)

  -- what putting others back leaves
  abbrev LeavesAt : Image → Option (List ℕ) → List ℕ → Type 0
  LeavesAt now bytes place = item_at content place ≡ left_by shape (item_of shape now place) bytes

  stays-left : (place : List ℕ) (bytes : Option (List ℕ)) → LeavesAt a.cur bytes place
      → LeavesAt c.cur bytes place
  stays-left place bytes leaves = by-place
      (λ (at : List ℕ). LeavesAt a.cur bytes at → LeavesAt c.cur bytes at) place
      (λ here. let now = item_of shape a.cur image.place in
      let one = option_and_then record_of image.old in
      left mine ∙ sym (ap (λ (item : Option Item). left_by shape item bytes)
      (set.here ∙ ap (left_by shape now) (sym was))
      ∙ left-again shape now one bytes (sym here ∙ left mine)))
      (λ apart there. there
      ∙ ap (λ (item : Option Item). left_by shape item bytes) (sym (set.others place apart)))
      leaves

  pub one-back : ArePutBack shape content (image ∷ []) a c
  one-back = record {
    back = All-cons (IsBackIn shape content c.cur) image [] (λ here. at-place)
        (All-nil (IsBackIn shape content c.cur));
    stays = stays-read;
    left = λ other leaves here.
        stays-left other.place (option_and_then record_of other.old) (leaves here);
  }

-- ---- several

module _ (shape : Shape) (content : Content) where
  -- none, or none of this part
  pub none-back : (images : List BeforeImage) (a : Seen)
      → All (λ (image : BeforeImage). image.part ≢ (part_no shape).0) images
      → ArePutBack shape content images a a
  none-back images a others = record {
    back = All-weaker (λ (image : BeforeImage). image.part ≢ (part_no shape).0)
        (IsBackIn shape content a.cur) (λ image apart here. absurd (apart here)) images others;
    stays = λ place reads. reads;
    left = λ image leaves. leaves;
  }

  -- some, and then others
  pub back-then : (these those : List BeforeImage) (a b c : Seen)
      → ArePutBack shape content these a b → ArePutBack shape content those b c
      → ArePutBack shape content (these ++ those) a c
  back-then these those a b c first second = record {
    back = All-append (IsBackIn shape content c.cur) these those
        (All-weaker (IsBackIn shape content b.cur) (IsBackIn shape content c.cur)
        (λ image back here. second.stays image.place (back here)) these first.back)
        second.back;
    stays = λ place reads. second.stays place (first.stays place reads);
    left = λ image leaves. second.left image (first.left image leaves);
  }

-- ---- record by record

-- what the image of a record has, that of a before-image of a live unit has
module _ (live : List UnitOfRecovery) (unit : UnitOfRecovery) (part : PartNo) (place : List ℕ)
    (old : Option (List ℕ)) (there : is_in unit live ≡ true) (rec : LogRecord)
    (is : rec ≡ Before unit part place old) where
  pub live-has : (P : BeforeImage → Type 0) → IfSome (image_in live rec) P
      → P (image_of unit part place old)
  live-has P has = subst
      (λ (b : Bool). IfSome (cond b (Some (image_of unit part place old)) None) P) there
      (subst (λ (r : LogRecord). IfSome (image_in live r) P) is has)

  pub live-list : cons_option (image_in live rec) [] ≡ image_of unit part place old ∷ []
  live-list = ap (λ (r : LogRecord). cons_option (image_in live r) []) is
      ∙ ap (λ (b : Bool). cons_option (cond b (Some (image_of unit part place old)) None) []) there

-- what all images have, the image of each record has
pub each-image : {X Y : Type 0} (P : Y → Type 0) (f : X → Option Y) (xs : List X)
    → All P (filter_map f xs) → All (λ (x : X). IfSome (f x) P) xs
each-image P f [] all = All-nil (λ x. IfSome (f x) P)
each-image P f (x ∷ xs) all =
    let both = by (f x) all in
    All-cons (λ y. IfSome (f y) P) x xs both.0 (each-image P f xs both.1)
  where
    by : (found : Option _) → All P (cons_option found (filter_map f xs))
        → IfSome found P × All P (filter_map f xs)
    by None these = (tt, these)
    by (Some y) these =
        (All-head P y (filter_map f xs) these, All-tail P y (filter_map f xs) these)

-- and the other way round
pub from-each : {X Y : Type 0} (P : Y → Type 0) (f : X → Option Y) (xs : List X)
    → All (λ (x : X). IfSome (f x) P) xs → All P (filter_map f xs)
from-each P f [] all = All-nil P
from-each P f (x ∷ xs) all = by (f x) (All-head (λ y. IfSome (f y) P) x xs all)
    (from-each P f xs (All-tail (λ y. IfSome (f y) P) x xs all))
  where
    by : (found : Option _) → IfSome found P → All P (filter_map f xs)
        → All P (cons_option found (filter_map f xs))
    by None has rest = rest
    by (Some y) has rest = All-cons P y (filter_map f xs) has rest

-- so has that of one of them
pub at-record : (P : BeforeImage → Type 0) (records all : List LogRecord) → records ≡ all
    → All P (images_of all) → (i : ℕ) → i < length records → (rec : LogRecord)
    → rec ≡ get_or records i rec → IfSome (image_in (live_in all) rec) P
at-record P records all same have i below rec is =
    subst (λ (r : LogRecord). IfSome (image_in (live_in all) r) P) (sym is)
    (each-image P (image_in (live_in all)) records
    (subst (λ (rs : List LogRecord). All P (filter_map (image_in (live_in all)) rs)) (sym same) have)
    i rec below)

-- one record more
pub back-more : (shape : Shape) (content : Content) (f : LogRecord → Option BeforeImage)
    (records : List LogRecord) (i : ℕ) (rec : LogRecord) (a b c : Seen) → i < length records
    → rec ≡ get_or records i rec
    → ArePutBack shape content (filter_map f (take i records)) a b
    → ArePutBack shape content (filter_map f (rec ∷ [])) b c
    → ArePutBack shape content (filter_map f (take (i + 1) records)) a c
back-more shape content f records i rec a b c below is first second =
    subst (λ (images : List BeforeImage). ArePutBack shape content images a c)
    (sym (ap (filter_map f) (take_more records i rec below)
    ∙ filter_map-append f (take i records) (get_or records i rec ∷ [])
    ∙ ap (λ (r : LogRecord). filter_map f (take i records) ++ filter_map f (r ∷ [])) (sym is)))
    (back-then shape content (filter_map f (take i records)) (filter_map f (rec ∷ [])) a b c first
    second)

-- ---- places of before-images

-- each place has one
each-found : (images : List BeforeImage)
    → All (λ (image : BeforeImage). oldest images image.part image.place ≢ None) images
each-found [] = All-nil (λ (image : BeforeImage). oldest [] image.part image.place ≢ None)
each-found (first ∷ images) = All-cons
    (λ (image : BeforeImage). oldest (first ∷ images) image.part image.place ≢ None) first images
    (own (is_image_of first.part first.place first) (is-own first))
    (All-weaker (λ (image : BeforeImage). oldest images image.part image.place ≢ None)
    (λ (image : BeforeImage). oldest (first ∷ images) image.part image.place ≢ None)
    (λ image some. further image (is_image_of image.part image.place first) some) images
    (each-found images))
  where
    some-none : (image : BeforeImage) → Some image ≡ None → ⊥
    some-none image same = cc

    own : (b : Bool) → b ≡ true
        → cond b (Some first) (oldest images first.part first.place) ≢ None
    own true is none = some-none first none
    own false is none = true≢false (sym is)

    further : (image : BeforeImage) (b : Bool) → oldest images image.part image.place ≢ None
        → cond b (Some first) (oldest images image.part image.place) ≢ None
    further image true some none = some-none first none
    further image false some none = some none

-- an image is the one that is found at its place
each-oldest : (images : List BeforeImage) → AreAlone images
    → All (λ (image : BeforeImage). oldest images image.part image.place ≡ Some image) images
each-oldest [] alone =
    All-nil (λ (image : BeforeImage). oldest [] image.part image.place ≡ Some image)
each-oldest (first ∷ images) alone = All-cons
    (λ (image : BeforeImage). oldest (first ∷ images) image.part image.place ≡ Some image) first
    images
    (ap (λ (b : Bool). cond b (Some first) (oldest images first.part first.place)) (is-own first))
    (All-weaker (λ (image : BeforeImage). oldest images image.part image.place ≡ Some image)
    (λ (image : BeforeImage). oldest (first ∷ images) image.part image.place ≡ Some image)
    (λ image is. further image (is_image_of image.part image.place first) refl is) images
    (each-oldest images alone.1))
  where
    none-some : (image : BeforeImage) → None ≡ Some image → ⊥
    none-some image same = cc

    further : (image : BeforeImage) (b : Bool) → is_image_of image.part image.place first ≡ b
        → oldest images image.part image.place ≡ Some image
        → cond b (Some first) (oldest images image.part image.place) ≡ Some image
    further image false same is = is
    further image true same is =
        let there : (first.part ≡ image.part) × (image.place ≡ first.place) =
        is-there image.part image.place first same in
        absurd (none-some image (sym alone.0
        ∙ ap (λ (p : ℕ). oldest images p first.place) there.0
        ∙ ap (oldest images image.part) (sym there.1) ∙ is))

-- so each is free, where each image has all records
pub all-free : (log : LogNow) → HasAllRecords log
    → All (λ (image : BeforeImage). IsFreeIn log image.part image.place) (images_of log.records)
all-free log has = All-weaker
    (λ (image : BeforeImage). oldest (images_of log.records) image.part image.place ≢ None)
    (λ (image : BeforeImage). IsFreeIn log image.part image.place)
    (λ image some content is none. some
    (ap (λ (records : List LogRecord). oldest (images_of records) image.part image.place)
    (sym (has content is)) ∙ none))
    (images_of log.records) (each-found (images_of log.records))

-- ---- a part whose before-images are all put back

none-some : {X : Type 0} {x : X} → None ≡ Some x → ⊥
none-some same = cc

-- what is found passes, and has what all have
pub found-passes : (P : BeforeImage → Type 0) (test : BeforeImage → Bool) (images : List BeforeImage)
    (image : BeforeImage) → All P images → find test images ≡ Some image
    → (test image ≡ true) × P image
found-passes P test [] image all is = absurd (none-some is)
found-passes P test (first ∷ images) image all is =
    by_test (test first) refl is (found-passes P test images image (All-tail P first images all))
  where
    by_test : (here : Bool) → test first ≡ here
        → cond here (Some first) (find test images) ≡ Some image
        → (find test images ≡ Some image → (test image ≡ true) × P image)
        → (test image ≡ true) × P image
    by_test true passes same further =
        let it : first ≡ image = cc in
        (ap test (sym it) ∙ passes, subst P it (All-head P first images all))
    by_test false passes same further = further same

-- it reads as the content, of which the images are left
pub part-back : (shape : Shape) (owners : Owners) (part : ℕ) (content : Content)
    (images : List BeforeImage) (a b : Seen) → part ≡ (part_no shape).0
    → ArePutBack shape content images a b → IsSettledPart shape owners part images content a
    → ReadsContent shape content b.cur
part-back shape owners part content images a b mine put settled place =
    by_image (oldest images part place) refl
  where
    by_image : (image : Option BeforeImage) → oldest images part place ≡ image
        → item_of shape b.cur place ≡ item_at content place
    by_image None none = put.stays place (sym (settled.back place
        ∙ ap (λ (o : Option BeforeImage). item_back shape o (item_of shape a.cur place)) none))
    by_image (Some image) is =
        let has : (is_image_of part place image ≡ true) × IsBackIn shape content b.cur image =
        found-passes (IsBackIn shape content b.cur) (is_image_of part place) images image put.back
        is in
        let there : (image.part ≡ part) × (place ≡ image.place) =
        is-there part place image has.0 in
        ap (λ (q : List ℕ). item_of shape b.cur q) there.1
        ∙ has.1 (there.0 ∙ mine) ∙ sym (ap (item_at content) there.1)

-- The images of a part are left in the content that they leave, put back.
pub are-left : (shape : Shape) (owners : Owners) (part : ℕ) (content : Content)
    (images : List BeforeImage) (a : Seen) → part ≡ (part_no shape).0 → AreAlone images
    → IsSettledPart shape owners part images content a
    → All (IsLeftIn shape content a.cur) images
are-left shape owners part content images a mine alone settled = All-weaker
    (λ (image : BeforeImage). oldest images image.part image.place ≡ Some image)
    (IsLeftIn shape content a.cur)
    (λ image is here. settled.back image.place
    ∙ ap (λ (o : Option BeforeImage). item_back shape o (item_of shape a.cur image.place))
    (ap (λ (p : ℕ). oldest images p image.place) (mine ∙ sym here) ∙ is))
    images (each-oldest images alone)
