-- A put into the interval that was met, with a record set in it.
use Rattle.std.proofs.Common.{◌≡◌, ◌≢◌, ◌⊎◌, inl, inr, ⊎_elim, ◌<◌, ◌≤◌, ◌+◌, ◌-◌, ℕ, Bool, IsTrue}
use Rattle.std.proofs.Common.{true, false, List, [], ◌∷◌, Option, Some, None, All, refl, sym, ap}
use Rattle.std.proofs.Common.{subst, ◌∙◌, arith, true≢false, length, map, ◌||◌, eq-eqb}
use Rattle.std.proofs.lemmas.List.Elements.{Contains-push}
use Rattle.std.proofs.lemmas.Map.Views.{Contains-from_any, list_any-from_Contains}
use Rattle.std.proofs.lemmas.Cmp.{nat_eq_equiv}
use Rattle.std.specs.List.{list_any}
use Rattle.std.specs.Option.{option_map}
use Rattle.std.specs.Prelude.{cond, IfSome, slice_index, nat_eq, nat_le, is_some, Contains}
use Rattle.std.specs.List.Sorted.{IsStrictlySortedBy}
use Rattle.std.specs.Ordering.{is_eq}
use Rattle.std.specs.declared.cmp.Ordering.{Ordering}
use Rattle.std.specs.declared.cmp.Ordering.TheVariants.{Less, Equal, Greater}
use Rattle.vr_types.specs.Content.{Content, place_cmp, item_at}
use Rattle.vr_types.specs.Content.Item.{Standing}
use Rattle.vr_types.specs.Image.{Block, block_at}
use Rattle.vr_types.specs.Seen.{Seen, Left}
use Rattle.vr_types.specs.Blocks.{Puts}
use Rattle.vr_types.specs.declared.unit.StageKind.{StageKind}
use Rattle.vr_types.proofs.CallerLemmas.{same_place, cur-elsewhere}
use Rattle.vr_ci_match.specs.declared.form.Form.TheVariants.{Plain}
use Rattle.vr_ci_match.specs.declared.form.Shape.TheVariants as shapes
use Rattle.vr_ci_match.specs.Fault.{is_busy}
use Rattle.vr_ci.specs.Interval as ci
use Rattle.vr_ci.proofs.CallerLemmas.{interval_says}
use Rattle.vr_seqset.specs.Entry.{Entry}
use Rattle.vr_space.specs.Way.{found_on, MayFind, MayOnceForced}
use Rattle.vr_space.specs.Room.{Lengths, Range, HaveRoom, is_in, weight, with_length}
use Rattle.vr_space.specs.Keyed.{Keyed, IsHead, IsKept, HoldsRange, items_of, key_of}
use Rattle.vr_space.specs.Keyed.{records_of, lengths_of, entries_of, entry_block, entry_in}
use Rattle.vr_space.specs.Keyed.{InArea, IsKeyedSound, low_of, way_in}
use Rattle.vr_space.specs.Split.{SplitNow, stage_at, stage_in}
use Rattle.vr_space.specs.Met.{Met, IsMet}
use Rattle.vr_space.specs.AreaCalls.{IsDueHere, SetsHere, item_here}
use Rattle.vr_space.proofs.CallerLemmas.{found-in, IsSplitBlock, way-puts, same_is_equal}
use Rattle.vr_space.proofs.CallerLemmas.{IsFoundAbove, found-above}
use Rattle.vr_split.specs.Switching.{OfBlock}
use Rattle.vr_split.proofs.CallerLemmas.{KeepsOthers, current-after, head-still, interval-sound}
use Rattle.vr_split.proofs.CallerLemmas.{of-found, set-adds, sound-put}
use Rattle.vr_split.proofs.CallerLemmas.{led-is, rest-after, room-after, rooms-after}
use Rattle.vr_split.proofs.CallerLemmas.{sets-one, due-put, head-apart, of-same, found-range}
use Rattle.vr_keyed.specs.Setting.{IsRecordHere, items_set}
use Rattle.vr_keyed.specs.Ready.{HasRoomToSet, IsReady, MaySet, IsSetNow, refreshed}
use Rattle.vr_keyed.proofs.Looking.{each-in}
use Rattle.vr_keyed.proofs.Contents.{content_set, records-set, set-here, set-other, set-kept}
use Rattle.vr_keyed.proofs.Contents.{set-within, set-ascends}
use Rattle.vr_keyed.proofs.Roomy.{HasPlace, length_in, set-room-of, set-have-room}

-- ---- an interval with a record set

module _ (part : Keyed) (range : Range) (place : List ℕ) (item : Option (List ℕ))
    (old bytes : Block)
  where
    -- what is written
    abbrev pub IsWritten : Type 0
    IsWritten = ci.IsInterval Plain bytes (record {
      shape = shapes.Records;
      items = items_set part range place item (items_of old);
      busy = false;
    })

    pub written-items : IsWritten
        → items_of bytes ≡ items_set part range place item (items_of old)
    written-items written = sym (interval_says Plain bytes _ written refl).0

    pub written-holds : IsWritten → length bytes ≡ part.size → HoldsRange part range old
        → IfSome item (IsRecordHere part place) → is_in range place ≡ true
        → HoldsRange part range bytes
    written-holds written long holds valid here =
        let items = written-items written in
        let idle : is_busy bytes ≡ false = sym (interval_says Plain bytes _ written refl).1 in
        record {
          spelled = subst (λ (xs : List ci.Item). ci.IsInterval Plain bytes (record {
            shape = shapes.Records;
            items = xs;
            busy = is_busy bytes;
          })) (sym items)
              (subst (λ (b : Bool). ci.IsInterval Plain bytes (record {
                shape = shapes.Records;
                items = items_set part range place item (items_of old);
                busy = b;
              })) (sym idle) written);
          size = long;
          kept = subst (All (IsKept part)) (sym items)
              (set-kept part range place item (items_of old) valid holds.kept);
          ascends = subst (λ (xs : List ci.Item). IsStrictlySortedBy place_cmp
              (map (λ (x : ci.Item). key_of part x.bytes) xs)) (sym items)
              (set-ascends part range place item (items_of old) valid holds.ascends);
          within = λ not_busy. subst
              (All (λ (x : ci.Item). IsTrue (is_in range (key_of part x.bytes)))) (sym items)
              (set-within part range place item (items_of old) valid here);
        }

    pub written-records : IsWritten → IfSome item (IsRecordHere part place)
        → records_of part bytes ≡ content_set range place item (records_of part old)
    written-records written valid =
        ap (map (Rattle.vr_space.specs.Keyed.placed part)) (written-items written)
        ∙ records-set part range place item (items_of old) valid

-- ---- the put

-- a block is listed, or it isn't
listed-or : (listed : List ℕ) (n : ℕ) → Contains listed n ⊎ (Contains listed n → ⊥)
listed-or listed n = by (list_any (nat_eq n) listed) refl
  where
    by : (b : Bool) → list_any (nat_eq n) listed ≡ b
        → Contains listed n ⊎ (Contains listed n → ⊥)
    by true it = inl (Contains-from_any Rattle.std.proofs.Common.eqb-true n listed it)
    by false it = inr (λ there.
        true≢false (sym (list_any-from_Contains nat_eq_equiv n listed there) ∙ it))

none_some : (o : Option StageKind) (stage : StageKind) → o ≡ None → o ≡ Some stage → ⊥
none_some o stage none some = true≢false (ap is_some (sym some ∙ none))

either-false : (a b : Bool) (stage : StageKind) → cond (a || b) (Some stage) None ≡ None
    → (a ≡ false) × (b ≡ false)
either-false true b stage is = absurd (none_some _ stage is refl)
either-false false true stage is = absurd (none_some _ stage is refl)
either-false false false stage is = (refl, refl)

test-apart : (n m : ℕ) → nat_eq n m ≡ false → n ≢ m
test-apart n m is same = true≢false (sym (eq-eqb n m same) ∙ is)

le-from : (n m : ℕ) → nat_le n m ≡ true → n ≤ m
le-from n m is = Rattle.std.proofs.Common.leb-true n m is

module _ (part : Keyed) (kept : Lengths) (split : Option SplitNow) (place : List ℕ)
    (item : Option (List ℕ)) (met : Met) (a : Seen) (ready : IsReady part kept split place item a)
    (is : IsMet part a.cur met) (at_place : met.place ≡ place) (left : Left a a.cur) where
  abbrev top : Block
  top = block_at a.cur part.head

  abbrev at : Range × Entry
  at = (met.range, is.entry)

  may-top : a.may part.head top
  may-top = left.each part.head (omega (arith, ready.rests.sound.area))

  pub now-head : IsHead part (block_at a.cur part.head)
  now-head = ready.rests.sound.heads top may-top

  leads : entry_in top place ≡ Some at
  leads = subst (λ (p : List ℕ). entry_in top p ≡ Some at) at_place is.leads

  led : IsFoundAbove (low_of top) (entries_of top) place at
  led = found-above (low_of top) (entries_of top) place at leads

  in-area : slice_index is.entry.intervals 0 < part.area
  in-area = found-in part top place at now-head leads

  other : met.number ≢ part.head
  other same = omega (arith, is.number, same)

  pub inside-part : InArea part met.number
  inside-part = (omega (arith, is.number), omega (arith, is.number, in-area))

  within : met.number < a.count
  within = omega (arith, inside-part.1, ready.rests.sound.area)

  pub in-range : is_in met.range place ≡ true
  in-range = found-range (low_of top) (entries_of top) place at led.above led.leads

  may-block : a.may (entry_block part is.entry) met.block
  may-block = subst (λ (n : ℕ). a.may n met.block) (sym is.number)
      (subst (a.may met.number) is.still (left.each met.number within))

  pub old-holds : HoldsRange part met.range met.block
  old-holds = each-in part a (HoldsRange part) top place at
      (ready.rests.sound.intervals top may-top) leads met.block may-block

  old-room : weight (lengths_of part kept met.range met.block) ≤ part.size - 4
  old-room = each-in part a
      (λ range block. HaveRoom part.size (lengths_of part kept range block)) top place at
      (ready.room.each top may-top) leads met.block may-block

  has-place : HasPlace part met.range place item met.block old-holds in-range kept
  has-place = by item refl ready.can.room
    where
      by : (o : Option (List ℕ)) → item ≡ o
          → HasRoomToSet part a.cur kept place o
          → HasPlace part met.range place item met.block old-holds in-range kept
      by None same room = inl same
      by (Some record_given) same room = inr (
        length record_given,
        subst (λ (o : Option (List ℕ)). Rattle.vr_keyed.proofs.Lengths.NoMore
            (length_in (option_map Standing o)) (Some (length record_given)))
            (sym same) (omega arith),
        ⊎_elim
            (λ fits. inl (subst (λ (block : Block).
            weight (with_length (lengths_of part kept met.range block) place (length record_given))
            ≤ part.size - 4) (ap (block_at a.cur) is.number ∙ is.still)
            (le-from _ _ (sym (ap (Rattle.vr_space.specs.Split.fits_in part a.cur kept place
            (length record_given)) leads) ∙ fits))))
            (λ covered. inr covered)
            room,
      )

  -- the records to be written have room
  pub room-to-write : ci.room (items_set part met.range place item (items_of met.block))
      ≤ part.size - 4
  room-to-write = set-room-of part met.range place item met.block old-holds in-range kept
      ready.valid has-place old-room

  module _ (bytes : Block) (long : length bytes ≡ part.size)
      (written : IsWritten part met.range place item met.block bytes) where
    new-holds : HoldsRange part met.range bytes
    new-holds = written-holds part met.range place item met.block bytes written long old-holds
        ready.valid in-range

    of-holds : OfBlock part met.number (low_of top) (entries_of top)
        (λ range. HoldsRange part range bytes)
    of-holds = of-same part met.number (low_of top) (entries_of top)
        (λ range. HoldsRange part range bytes) place at (head-apart part top now-head) led.leads
        is.number new-holds

    of-room : OfBlock part met.number (low_of top) (entries_of top)
        (λ range. HaveRoom part.size (lengths_of part kept range bytes))
    of-room = of-same part met.number (low_of top) (entries_of top)
        (λ range. HaveRoom part.size (lengths_of part kept range bytes)) place at
        (head-apart part top now-head) led.leads is.number
        (set-have-room part met.range place item met.block old-holds in-range kept bytes ready.valid
        (written-items part met.range place item met.block bytes written) new-holds has-place
        old-room)

    same-range : OfBlock part met.number (low_of top) (entries_of top) (λ range. range ≡ met.range)
    same-range = of-same part met.number (low_of top) (entries_of top)
        (λ range. range ≡ met.range) place at (head-apart part top now-head) led.leads is.number
        refl

    has : item_at (records_of part bytes) place ≡ option_map Standing item
    has = ap (λ (content : Content). item_at content place)
        (written-records part met.range place item met.block bytes written ready.valid)
        ∙ set-here met.range place item (records_of part met.block)

    keeps : KeepsOthers part a met.number bytes place (option_map Standing item)
    keeps q found leads_q there = by (is_eq (place_cmp q place)) refl
      where
        Kept : Type 0
        Kept = (item_at (records_of part bytes) q ≡ item_here part a.cur q)
            ⊎ ((q ≡ place) × (item_at (records_of part bytes) q ≡ option_map Standing item))

        equal-is : (o : Ordering) → is_eq o ≡ true → o ≡ Equal
        equal-is Less it = absurd (true≢false (sym it))
        equal-is Equal it = refl
        equal-is Greater it = absurd (true≢false (sym it))

        led_q : IsFoundAbove (low_of top) (entries_of top) q found
        led_q = found-above (low_of top) (entries_of top) q found leads_q

        range-is : found.0 ≡ met.range
        range-is = of-found part met.number (low_of top) (entries_of top)
            (λ range. range ≡ met.range) q found same-range led_q.leads there

        in-it : is_in met.range q ≡ true
        in-it = subst (λ (range : Range). is_in range q ≡ true) range-is
            (found-range (low_of top) (entries_of top) q found led_q.above led_q.leads)

        block-is : block_at a.cur (entry_block part found.1) ≡ met.block
        block-is = ap (block_at a.cur) there ∙ is.still

        by : (b : Bool) → is_eq (place_cmp q place) ≡ b
            → (item_at (records_of part bytes) q ≡ item_here part a.cur q)
            ⊎ ((q ≡ place) × (item_at (records_of part bytes) q ≡ option_map Standing item))
        by true it =
            let same : q ≡ place = same_place q place (equal-is (place_cmp q place) it) in
            inr (same, ap (item_at (records_of part bytes)) same ∙ has)
        by false it = inl
            (ap (λ (content : Content). item_at content q)
            (written-records part met.range place item met.block bytes written ready.valid)
            ∙ set-other met.range place item (records_of part met.block) q in-it
            (λ same. true≢false (sym (ap is_eq (ap (place_cmp q) (sym same) ∙ same_is_equal q))
            ∙ it))
            ∙ sym (ap (λ (block : Block). item_at (records_of part block) q) block-is)
            ∙ sym (ap (λ (o : Option (Range × Entry)). found_on a.cur (way_in part q o)) leads_q))

    module _ (tells : Bool) (told : IsTrue tells) (b : Seen)
        (call : Puts tells met.number bytes a b) where
      pub may-set : MaySet part kept place item a b
      may-set = record {
        adds = set-adds part tells told a b met.number bytes place (option_map Standing item)
            ready.rests left call other inside-part of-holds keeps;
        current = current-after part tells told a b met.number bytes call other;
        counts = ap (λ (top : Block). length (entries_of top))
            (head-still part tells told a b met.number bytes call other);
        room = room-after part tells told a b met.number bytes kept ready.rests call other
            ready.room of-room;
        rooms = rooms-after part tells told a b met.number bytes kept ready.rests call other
            inside-part ready.room of-holds of-room;
      }

      off-split : (now : SplitNow) → split ≡ Some now → (m : ℕ) → InArea part m
          → IsSplitBlock part now m → m ≢ met.number
      off-split now some m within_part named same =
          let stage : stage_at split is.entry ≡ None =
          sym (ap (stage_in split) leads) ∙ ready.can.no_stage in
          let tests = either-false (nat_eq (slice_index is.entry.intervals 0) now.old)
          (nat_eq (slice_index is.entry.intervals 0) now.into) now.stage
          (subst (λ (o : Option SplitNow). stage_at o is.entry ≡ None) some stage) in
          ⊎_elim
          (λ head. other (sym same ∙ head))
          (λ named_interval. ⊎_elim
          (λ old. test-apart (slice_index is.entry.intervals 0) now.old tests.0
          (omega (arith, is.number, same, old)))
          (λ into. test-apart (slice_index is.entry.intervals 0) now.into tests.1
          (omega (arith, is.number, same, into)))
          named_interval)
          named

      -- what is read by way of an entry that leads to the block
      read-now : (q : List ℕ) (found : Range × Entry)
          → entry_in top q ≡ Some found → entry_block part found.1 ≡ met.number
          → item_here part b.cur q
          ≡ item_at (records_of part (block_at b.cur met.number)) q
      read-now q found leads_q there =
          led-is part tells told b b met.number bytes q found
          (ap (λ (block : Block). entry_in block q)
          (head-still part tells told a b met.number bytes call other) ∙ leads_q)
          ∙ ap (λ (n : ℕ). item_at (records_of part (block_at b.cur n)) q) there

      set-now : block_at b.cur met.number ≡ bytes
          → SetsHere part place item a.cur b.cur
      set-now now = sets-one part tells told a b met.number bytes place item at call other now leads
          is.number has keeps

      -- what is left of the block has the record of each other place
      left-other : block_at b.cur met.number ≡ bytes → (listed q : List ℕ) (found : Range × Entry)
          → q ≢ place → IsDueHere part listed a q
          → entry_in top q ≡ Some found
          → entry_block part found.1 ≡ met.number → (block : Block)
          → MayOnceForced listed b met.number block
          → item_at (records_of part block) q ≡ item_here part b.cur q
      left-other now listed q found apart due leads_q there block once = ⊎_elim
          (λ old. ⊎_elim
          (λ forced. ap (λ (x : Block). item_at (records_of part x) q) (once.1 forced)
          ∙ sym (read-now q found leads_q there))
          (λ unforced. due (item_at (records_of part block) q) (
            top,
            (may-top, λ here. refl),
            subst (λ (o : Option (Range × Entry)). MayFind (MayOnceForced listed a)
                (item_at (records_of part block) q) (way_in part q o)) (sym leads_q) (
                  block,
                  subst (λ (n : ℕ). MayOnceForced listed a n block) (sym there)
                      (old, λ here. absurd (unforced here)),
                  refl,
                ),
          )
          ∙ sym ((set-now now).others q apart))
          (listed-or listed met.number))
          (λ new. ap (λ (x : Block). item_at (records_of part x) q) (new.1 ∙ sym now)
          ∙ sym (read-now q found leads_q there))
          (call.adds told met.number block within once.0)

      new-sound : IsKeyedSound part b
      new-sound = sound-put part tells met.number bytes a b told call
          (interval-sound part a met.number bytes ready.rests other of-holds)

      pub done-set : block_at b.cur met.number ≡ bytes
          → IsSetNow part split (met.number ∷ []) place item a b
      done-set now = record {
        set = set-now now;
        due = λ listed q due either. due-put part tells told a b met.number bytes listed q
            ready.rests left call other
            (λ found leads_q there block once. ⊎_elim
            (λ apart. left-other now listed q found apart due leads_q there block once)
            (λ within_list. ap (λ (x : Block). item_at (records_of part x) q)
            (once.1 (within_list met.number (Contains-push [] met.number)))
            ∙ sym (read-now q found leads_q there)) either) due;
        rests = rest-after part tells told a b met.number bytes ready.rests call other new-sound;
        way = way-puts tells told part split met.number bytes a b call ready.rests.sound left
            off-split ready.way;
        head = head-still part tells told a b met.number bytes call other;
      }

      -- what was met is as it is now
      pub refresh-met : block_at b.cur met.number ≡ bytes → (one : Met) → IsMet part a.cur one
          → IsMet part b.cur (refreshed met.number bytes one)
      refresh-met now one is_one = by (nat_eq one.number met.number) refl
        where
          still-head : block_at b.cur part.head ≡ block_at a.cur part.head
          still-head = head-still part tells told a b met.number bytes call other

          leads-still : entry_in (block_at b.cur part.head) one.place
              ≡ Some (one.range, is_one.entry)
          leads-still = ap (λ (block : Block). entry_in block one.place) still-head ∙ is_one.leads

          by : (t : Bool) → nat_eq one.number met.number ≡ t
              → IsMet part b.cur (refreshed met.number bytes one)
          by true it =
              let same : one.number ≡ met.number =
              Rattle.std.proofs.Common.eqb-true one.number met.number it in
              record {
                entry = is_one.entry;
                leads = leads-still;
                number = is_one.number;
                still = ap (block_at b.cur) same ∙ now
                    ∙ sym (ap (λ (t : Bool). cond t bytes one.block) it);
              }
          by false it = record {
            entry = is_one.entry;
            leads = leads-still;
            number = is_one.number;
            still = cur-elsewhere tells a b one.number met.number bytes told
                (test-apart one.number met.number it) call ∙ is_one.still
                ∙ sym (ap (λ (t : Bool). cond t bytes one.block) it);
          }
