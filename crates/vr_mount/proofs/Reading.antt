-- The records of a content, read one after the other.
use Rattle.std.proofs.Common.{◌≡◌, ℕ, Bool, true, false, List, [], ◌∷◌, ◌++◌, Option, Some, None}
use Rattle.std.proofs.Common.{refl, sym, ap, subst, inl, ◌∙◌, arith}
use Rattle.std.proofs.lemmas.List.{append_assoc, append-nil}
use Rattle.std.proofs.lemmas.Cmp.{nat_list_cmp_total}
use Rattle.std.specs.Ordering.{is_lt, is_le, ordering_reverse}
use Rattle.std.specs.declared.cmp.Ordering.{Ordering}
use Rattle.std.specs.declared.cmp.Ordering.TheVariants.{Less, Equal, Greater}
use Rattle.vr_types.specs.Content.{Content, Item, Placed, place_cmp, item_at, record_at, record_of}
use Rattle.vr_types.specs.Content.{found_by}
use Rattle.vr_types.specs.Content.Item.{Standing, Withdrawn}
use Rattle.vr_types.specs.Image.{Image}
use Rattle.vr_types.proofs.CallerLemmas.{same_place}
use Rattle.vr_space.specs.Room.{is_above}
use Rattle.vr_space.specs.Known.{Known}
use Rattle.vr_space.specs.Part.{IsOn, IsUnderWay, KeyedShape, Knows, NumberedShape, Shape, Stands}
use Rattle.vr_space.specs.Part.{StandsFor, record_read}
use Rattle.vr_space.specs.Moves.{IsPastClaim, MoveUnderWay}
use Rattle.vr_space.specs.Split.{AreaSplit, MoveNow}
use Rattle.vr_space.specs.UnderWay.{KeyedUnderWay}
use Rattle.vr_space.proofs.CallerLemmas.{AllAbove, Rising, rising-sorted, stands_content}
use Rattle.vr_space.proofs.CallerLemmas.{content_item, on-still, none-record, none-above, above-weaken}
use Rattle.vr_space.proofs.CallerLemmas.{above-more, by_other, lt_from_test, same_is_equal}
use Rattle.vr_mount.specs.Records.{bytes_of}
use Rattle.std.specs.Prelude.{IsTrue, Ok, Err, option_and_then}
use Rattle.vr_types.specs.Blocks.{Keeps}
use Rattle.vr_types.specs.Faults.{Faults}
use Rattle.vr_types.specs.Seen.{Seen}
use Rattle.vr_mount.specs.Listing.{AddsNext, AreRecords, HasListCause, HasNoneAfter, IsAddedNext}
use Rattle.vr_mount.specs.Listing.{IsReadNext, KnowsImage}
use Rattle.vr_mount.specs.declared.no.ListNo.TheVariants.{Memory}

-- ---- what is at a place

record-by : (order : Ordering) (item : Item) (further : Option Item)
    (record_further : Option (List ℕ)) → record_further ≡ option_and_then record_of further
    → found_by order (record_of item) record_further
    ≡ option_and_then record_of (found_by order (Some item) further)
record-by Less item further record_further same = same
record-by Equal item further record_further same = refl
record-by Greater item further record_further same = same

-- the record at a place is that of the item there
item-record : (content : Content) (place : List ℕ)
    → record_at content place ≡ option_and_then record_of (item_at content place)
item-record [] place = refl
item-record (entry ∷ content) place =
    record-by (place_cmp place entry.0) entry.1 (item_at content place) (record_at content place)
    (item-record content place)

-- and the one that is read there
record-read : (shape : Shape) (image : Image) (content : Content) → StandsFor shape image content
    → (place : List ℕ) → record_at content place ≡ record_read shape image place
record-read shape image content stands place =
    item-record content place
    ∙ ap (option_and_then record_of) (content_item shape image content stands place)

-- ---- the first record of a content

past_other : (low place : List ℕ) → is_above (Some low) place ≡ true
    → place_cmp place low ≡ Equal → ⊥
past_other low place above equal =
    let less : place_cmp low place ≡ Less = lt_from_test (place_cmp low place) above in
    let same : place_cmp low place ≡ Equal =
    ap (place_cmp low) (same_place place low equal) ∙ same_is_equal low in
    cc

-- past the first place, what stands at a place stands among the others
further : (entry : Placed) (more : Content) (place : List ℕ) → is_above (Some entry.0) place ≡ true
    → record_at (entry ∷ more) place ≡ record_at more place
further entry more place above =
    by_other (place_cmp place entry.0) (record_of entry.1) (record_at more place)
    (past_other entry.0 place above)

here : (entry : Placed) (more : Content) → record_at (entry ∷ more) entry.0 ≡ record_of entry.1
here entry more =
    ap (λ (o : Ordering). found_by o (record_of entry.1) (record_at more entry.0))
    (same_is_equal entry.0)

without_record : (entry : Placed) (more : Content) → record_of entry.1 ≡ None
    → bytes_of (entry ∷ more) ≡ bytes_of more
without_record (place, Standing bytes) more none = absurd cc
without_record (place, Withdrawn n) more none = refl

with_record : (entry : Placed) (more : Content) (bytes : List ℕ) → record_of entry.1 ≡ Some bytes
    → bytes_of (entry ∷ more) ≡ bytes ∷ bytes_of more
with_record (place, Standing found) more bytes some =
    let same : found ≡ bytes = cc in
    ap (λ (first : List ℕ). first ∷ bytes_of more) same
with_record (place, Withdrawn n) more bytes some = absurd cc

-- where no place has a record there are none
ends : (last : Option (List ℕ)) (rest : Content) → Rising rest → AllAbove last rest
    → ((place : List ℕ) → is_above last place ≡ true → record_at rest place ≡ None)
    → bytes_of rest ≡ []
ends last [] rises above none = refl
ends last (entry ∷ more) rises above none =
    without_record entry more (sym (here entry more) ∙ none entry.0 above.0)
    ∙ ends (Some entry.0) more rises.1 rises.0 (λ place past.
    sym (further entry more place past)
    ∙ none place (above-more last entry.0 place above.0 past))

-- The bytes are those of the first record, which stands at the place, and the rest comes after it.
record IsFirst (place bytes : List ℕ) (old : Content) : Type 0 where
  pub rest : Content
  pub rises : Rising rest
  pub above : AllAbove (Some place) rest
  pub reads : (other : List ℕ) → is_above (Some place) other ≡ true
      → record_at rest other ≡ record_at old other
  pub bytes_are : bytes_of old ≡ bytes ∷ bytes_of rest

-- the record at the least place that has one is the first
first_is : (last : Option (List ℕ)) (place bytes : List ℕ) (old : Content) → Rising old
    → AllAbove last old → is_above last place ≡ true
    → ((other : List ℕ) → is_above last other ≡ true → place_cmp other place ≡ Less
    → record_at old other ≡ None)
    → record_at old place ≡ Some bytes → IsFirst place bytes old
first_is last place bytes [] rises above allowed least item = absurd cc
first_is last place bytes (entry ∷ more) rises above allowed least item =
    by_order (place_cmp entry.0 place) refl
    (λ past. first_is (Some entry.0) place bytes more rises.1 rises.0 past
    (λ other above-other less. sym (further entry more other above-other)
    ∙ least other (above-more last entry.0 other above.0 above-other) less)
    (sym (further entry more place past) ∙ item))
  where
    by_order : (o : Ordering) → place_cmp entry.0 place ≡ o
        → (is_above (Some entry.0) place ≡ true → IsFirst place bytes more)
        → IsFirst place bytes (entry ∷ more)
    by_order Less is others =
        let past : is_above (Some entry.0) place ≡ true = ap is_lt is in
        let found : IsFirst place bytes more = others past in
        record {
          rest = found.rest;
          rises = found.rises;
          above = found.above;
          reads = λ other after. found.reads other after
              ∙ sym (further entry more other (above-more (Some entry.0) place other past after));
          bytes_are = without_record entry more
              (sym (here entry more) ∙ least entry.0 above.0 is) ∙ found.bytes_are;
        }
    by_order Equal is others =
        let same : entry.0 ≡ place = same_place entry.0 place is in
        record {
          rest = more;
          rises = rises.1;
          above = subst (λ (p : List ℕ). AllAbove (Some p) more) same rises.0;
          reads = λ other after. sym (further entry more other
              (subst (λ (p : List ℕ). is_above (Some p) other ≡ true) (sym same) after));
          bytes_are = with_record entry more bytes (sym (here entry more)
              ∙ ap (record_at (entry ∷ more)) same ∙ item);
        }
    by_order Greater is others =
        let less : place_cmp place entry.0 ≡ Less =
        nat_list_cmp_total.antisymm place entry.0 ∙ ap ordering_reverse is in
        let past : is_above (Some place) entry.0 ≡ true = ap is_lt less in
        let none : record_at (entry ∷ more) place ≡ None =
        item-record (entry ∷ more) place
        ∙ ap (option_and_then record_of) (none-record place (entry ∷ more)
        (none-above place place (entry ∷ more) (ap is_le (same_is_equal place))
        (past, above-weaken (Some place) entry.0 more past rises.0))) in
        absurd cc

-- ---- those that were read

-- These are the bytes of the records of a content up to the last place, and the rest has those past
-- it.
pub record AreRead (shape : Shape) (image : Image) (last : Option (List ℕ))
    (read : List (List ℕ)) (content : Content) : Type 0 where
  pub rest : Content
  pub rises : Rising rest
  pub above : AllAbove last rest
  pub reads : (place : List ℕ) → is_above last place ≡ true
      → record_at rest place ≡ record_read shape image place
  pub bytes_are : bytes_of content ≡ read ++ bytes_of rest

all_above : (content : Content) → AllAbove None content
all_above [] = tt
all_above (entry ∷ content) = (refl, all_above content)

-- none of them yet
pub none_read : (shape : Shape) (image : Image) (content : Content) → StandsFor shape image content
    → AreRead shape image None [] content
none_read shape image content stands = record {
  rest = content;
  rises = rising-sorted content (stands_content shape image content stands).ascends;
  above = all_above content;
  reads = λ place above. record-read shape image content stands place;
  bytes_are = refl;
}

-- the next one too
pub next_read : (shape : Shape) (image : Image) (old new : Option (List ℕ))
    (read : List (List ℕ)) (bytes : List ℕ) (content : Content)
    → AreRead shape image old read content → IsReadNext shape image old new bytes
    → AreRead shape image new (read ++ bytes ∷ []) content
next_read shape image old new read bytes content are next =
    let found : IsFirst next.place bytes are.rest =
    first_is old next.place bytes are.rest are.rises are.above next.next.above
    (λ other above less. are.reads other above ∙ next.next.least other above less)
    (are.reads next.place next.next.above ∙ next.item) in
    subst (λ (last : Option (List ℕ)). AreRead shape image last (read ++ bytes ∷ []) content)
    (sym next.last) (record {
      rest = found.rest;
      rises = found.rises;
      above = found.above;
      reads = λ place after. found.reads place after
          ∙ are.reads place (above-more old next.place place next.next.above after);
      bytes_are = are.bytes_are ∙ ap (λ (more : List (List ℕ)). read ++ more) found.bytes_are
          ∙ sym (append_assoc read (bytes ∷ []) (bytes_of found.rest));
    })

-- each of them, where there is none past the last place
pub all_read : (shape : Shape) (image : Image) (last : Option (List ℕ)) (read : List (List ℕ))
    (content : Content) → AreRead shape image last read content → HasNoneAfter shape image last
    → bytes_of content ≡ read
all_read shape image last read content are none =
    are.bytes_are
    ∙ ap (λ (more : List (List ℕ)). read ++ more) (ends last are.rest are.rises are.above
    (λ place above. are.reads place above ∙ none place above))
    ∙ append-nil read

-- ---- as a call leaves them

-- the next one was added
pub added_read : (shape other : Shape) (image now : Image) (old new : Option (List ℕ))
    (before after : List (List ℕ)) (b : Bool) → other ≡ shape → now ≡ image → b ≡ true
    → AddsNext other now old new before after b
    → ((content : Content) → StandsFor shape image content
    → AreRead shape image old before content)
    → (content : Content) → StandsFor shape image content
    → AreRead shape image new after content
added_read shape other image now old new before after true same still is added read content
    stands =
    let here : IsAddedNext shape image old new before after =
    subst (λ (s : Shape). IsAddedNext s image old new before after) same
    (subst (λ (i : Image). IsAddedNext other i old new before after) still added) in
    subst (λ (all : List (List ℕ)). AreRead shape image new all content) (sym here.added)
    (next_read shape image old new before here.bytes content (read content stands) here.next)
added_read shape other image now old new before after false same still is added read content
    stands = absurd cc

-- there was none
pub ended_read : (shape other : Shape) (image now : Image) (old new : Option (List ℕ))
    (before after : List (List ℕ)) (b : Bool) → other ≡ shape → now ≡ image → b ≡ false
    → AddsNext other now old new before after b
    → ((content : Content) → StandsFor shape image content
    → AreRead shape image old before content)
    → AreRecords shape image after
ended_read shape other image now old new before after true same still is added read content
    stands = absurd cc
ended_read shape other image now old new before after false same still is added read content
    stands =
    let none : HasNoneAfter shape image old =
    subst (λ (s : Shape). HasNoneAfter s image old) same
    (subst (λ (i : Image). HasNoneAfter other i old) still added.0) in
    all_read shape image old before content (read content stands) none ∙ sym added.1

-- they stand for a content still
pub still_stands : (tells : Bool) (shape other : Shape) (a b : Seen) → Keeps tells a b
    → other ≡ shape → (IsTrue tells → Stands shape a.cur) → IsTrue tells → Stands other b.cur
still_stands tells shape other a b keeps same stands told =
    subst (λ (s : Shape). Stands s b.cur) (sym same)
    (subst (λ (i : Image). Stands shape i) (sym (keeps.content told)) (stands told))

-- the part knows the blocks then
pub knows_now : (shape : Shape) (known : Known) (now : Seen) → KnowsImage shape known now.cur
    → Knows shape known now
knows_now shape known now knows = record { way = way_now shape; blocks = knows.met }
  where
    way_now : (shape : Shape) → IsUnderWay shape known now
    way_now (KeyedShape part) = (
      subst (λ (split : Option AreaSplit). KeyedUnderWay part split now) (sym knows.no_split) tt,
      subst (λ (move : Option MoveNow). MoveUnderWay part move now) (sym knows.no_move) tt,
      inl knows.no_split,
      subst IsPastClaim (sym knows.no_move) tt,
    )
    way_now (NumberedShape part) = tt

pub still_knows : (tells : Bool) (shape other : Shape) (known now : Known) (a b : Seen)
    → Keeps tells a b → other ≡ shape → now ≡ known
    → (IsTrue tells → KnowsImage shape known a.cur) → IsTrue tells → KnowsImage other now b.cur
still_knows tells shape other known now a b keeps same still knows told =
    subst (λ (s : Shape). KnowsImage s now b.cur) (sym same)
    (subst (λ (k : Known). KnowsImage shape k b.cur) (sym still)
    (subst (λ (i : Image). KnowsImage shape known i) (sym (keeps.content told)) (knows told)))

pub still_on : (tells : Bool) (shape other : Shape) (a b : Seen) → Keeps tells a b
    → other ≡ shape → IsOn shape a → IsOn other b
still_on tells shape other a b keeps same on =
    subst (λ (s : Shape). IsOn s b) (sym same)
    (on-still shape a b on keeps.count_same keeps.size_same)

-- an answer without a fault, after calls that were each Ok
pub cause_ok : {T : Type 0} (a b : Faults) (x : T) → b ≡ a → HasListCause a b (Ok x)
cause_ok a b x same = record {
  reads = omega (arith, ap (λ (f : Faults). f.reads) same);
  writes = omega (arith, ap (λ (f : Faults). f.writes) same);
  ok = same;
  memory = λ is. same;
  read = λ is. absurd cc;
  write = λ is. absurd cc;
}

-- out of memory after such calls
pub cause_memory : {T : Type 0} (a b : Faults) → b ≡ a → HasListCause {T = T} a b (Err Memory)
cause_memory a b same = record {
  reads = omega (arith, ap (λ (f : Faults). f.reads) same);
  writes = omega (arith, ap (λ (f : Faults). f.writes) same);
  ok = tt;
  memory = λ is. same;
  read = λ is. absurd cc;
  write = λ is. absurd cc;
}
