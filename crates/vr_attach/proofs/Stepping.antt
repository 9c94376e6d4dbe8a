-- One step of a walk over the areas of a keyed part: by what was read of the area that it came to,
-- and who owns the next one.
use Rattle.std.proofs.Common.{◌^◌}
use Rattle.std.proofs.Common.{◌≡◌, ◌<◌, ◌≤◌, ◌+◌, ◌-◌, ◌++◌, ℕ, zero, suc, List, [], ◌∷◌, length}
use Rattle.std.proofs.Common.{Option, Some, None, get_or, refl, sym, ap, subst, ◌∙◌, arith, true}
use Rattle.std.specs.Prelude.{All, Err, IfErr, IfOk, IfSome, MatchOption, MatchResult, Ok, OnOk}
use Rattle.std.specs.Prelude.{Result, replicate, slice_set, unwrap_or}
use Rattle.std.specs.Borrow.{Bor}
use Rattle.std.specs.List.Sorted.{IsStrictlySortedBy}
use Rattle.std.specs.declared.cmp.Ordering.TheVariants.{Less}
use Rattle.std.proofs.lemmas.Cmp.{nat_list_cmp_total}
use Rattle.std.proofs.lemmas.List.{length_push}
use Rattle.std.proofs.lemmas.List.Elements.{All-cons, All-head, All-nil}
use Rattle.vr_types.specs.Content.{place_cmp}
use Rattle.vr_types.specs.Geometry.{area_count}
use Rattle.vr_types.specs.Image.{Block, Image}
use Rattle.vr_types.specs.Space.{free_count}
use Rattle.vr_types.specs.declared.unit.PartNo.{PartNo}
use Rattle.vr_seqset.specs.Entry.{Entry}
use Rattle.vr_seqset.specs.Reading.{entry_of, record_in}
use Rattle.vr_seqset.specs.SequenceSet.{SequenceSet}
use Rattle.vr_space.specs.Areas.{IsKeyedChain, KeyedChain, KnowsAreas, LinksIn, area_of}
use Rattle.vr_space.specs.Areas.{content_after, end_of, head_in, head_of, intervals_in}
use Rattle.vr_space.specs.Keyed.{IsHead, Keyed, entries_of, last_high, low_of}
use Rattle.vr_space.specs.Part.{KeyedShape, Stands, owned_count, part_no}
use Rattle.vr_space.specs.Room.{is_above}
use Rattle.vr_space.proofs.CallerLemmas.{end-above, head-ascends, head-entries, lt_from_test}
use Rattle.vr_attach.specs.Areas.{AreWhole, AreasNow}
use Rattle.vr_attach.specs.Linked.{IsAreaWhole, IsGoodTop, IsKeyedAreaBad, IsKeyedAreaSound}
use Rattle.vr_attach.specs.Linked.{IsLinkedDamagedAt, low_lent}
use Rattle.vr_attach.specs.Marked.{AreMarked, IsTakenIn}
use Rattle.vr_attach.specs.Walked.{AreMarkedTo, EndsGreatest, IsAdded, IsOpen}
use Rattle.vr_attach.specs.Walked.{IsWalkedAt}
use Rattle.vr_attach.specs.Walked.{IsWalkedBy, IsWalkedOver, low_after}
use Rattle.vr_attach.specs.declared.damage.Damage.{Damage}
use Rattle.vr_attach.specs.declared.rule.Rule.{Rule}
use Rattle.vr_attach.specs.declared.rule.Rule.TheVariants as rules
use Rattle.vr_attach.proofs.AreaLists.{sorted-push}
use Rattle.vr_attach.proofs.Taking.{free-below, free-new, marks-first, marks-more}
use Rattle.vr_attach.proofs.Taking.{taken-before}
use Rattle.vr_attach.proofs.WalkedOn.{area-bad, area-twice, low-push, walk-first, walked-on}
use Rattle.vr_attach.proofs.WalkedOn.{walked-over}

-- ---- where the ranges of a head end

-- at the high place of its last entry
last-at : (entries : List Entry) (n : ℕ) (d : Entry) → length entries ≡ n + 1
    → last_high entries ≡ Some (get_or entries n d).high
last-at [] n d long = absurd (omega (arith, long))
last-at (entry ∷ []) zero d long = refl
last-at (entry ∷ []) (suc n) d long = absurd (omega (arith, long))
last-at (entry ∷ other ∷ entries) zero d long = absurd (omega (arith, long))
last-at (entry ∷ other ∷ entries) (suc n) d long =
    last-at (other ∷ entries) n d (omega (arith, long))

-- which the view of the head has
pub end-high : (part : Keyed) (top : Block) (view : SequenceSet) (count : ℕ) (high : List ℕ)
    → IsHead part top → view ≡ record_in top → count ≡ length view.entries
    → high ≡ (entry_of view (count - 1)).high → end_of top ≡ Some high
end-high part top view count high head is many high-is =
    let some : 0 < length view.entries =
    subst (λ (s : SequenceSet). 0 < length s.entries) (sym is) head.spelled.some in
    ap (λ (s : SequenceSet). last_high s.entries) (sym is)
    ∙ last-at view.entries (count - 1) (record { intervals = []; high = [] })
    (omega (arith, some, many))
    ∙ ap (λ (place : List ℕ). Some place) (sym high-is)

-- and as many entries as it counts
pub count-viewed : (top : Block) (view : SequenceSet) (count : ℕ) → view ≡ record_in top
    → count ≡ length view.entries → count ≡ length (entries_of top)
count-viewed top view count is many =
    many ∙ ap (λ (s : SequenceSet). length s.entries) is

-- places that ascend are below what is above the last
all-below : (ends : List (List ℕ)) (end : List ℕ) → IsStrictlySortedBy place_cmp ends
    → is_above (low_after ends) end ≡ true
    → All (λ (before : List ℕ). place_cmp before end ≡ Less) ends
unfolding IsStrictlySortedBy
all-below [] end sorted above = All-nil (λ (before : List ℕ). place_cmp before end ≡ Less)
all-below (one ∷ []) end sorted above =
    All-cons (λ (before : List ℕ). place_cmp before end ≡ Less) one []
    (lt_from_test (place_cmp one end) above)
    (All-nil (λ (before : List ℕ). place_cmp before end ≡ Less))
all-below (one ∷ other ∷ ends) end sorted above =
    let later : All (λ (before : List ℕ). place_cmp before end ≡ Less) (other ∷ ends) =
    all-below (other ∷ ends) end sorted.1 above in
    All-cons (λ (before : List ℕ). place_cmp before end ≡ Less) one (other ∷ ends)
    (nat_list_cmp_total.trans one other end sorted.0.0
    (All-head (λ (before : List ℕ). place_cmp before end ≡ Less) other ends later))
    later

-- So are the ends of the areas before below that of a head whose ranges begin where they end.
pub ends-below : (part : Keyed) (top : Block) (ends : List (List ℕ)) (end : List ℕ)
    → IsHead part top → low_of top ≡ low_after ends → end_of top ≡ Some end
    → IsStrictlySortedBy place_cmp ends
    → All (λ (before : List ℕ). place_cmp before end ≡ Less) ends
ends-below part top ends end head low is sorted = all-below ends end sorted
    (subst (λ (bound : Option (List ℕ)). is_above bound end ≡ true) low
    (end-above (low_of top) (entries_of top) end (head-ascends part top head) is))

-- ---- what is read

-- The call that reads an area is given the area, the number of areas and where the last one ends.
pub record IsCalled (now : AreasNow) (area : ℕ) (lay : Keyed) (count : ℕ)
    (low : Option (Bor (List ℕ))) : Type 0 where
  pub lay_is : lay ≡ area_of now.part area
  pub count_is : count ≡ area_count now.part.geometry
  pub low_is : low_lent low ≡ low_after now.ends

pub as-called : (now : AreasNow) (area : ℕ) (one other : KeyedChain) (lay : Keyed) (count : ℕ)
    (low : Option (Bor (List ℕ))) → one ≡ now.part → lay ≡ area_of one area → other ≡ now.part
    → count ≡ area_count other.geometry
    → MatchOption low (now.ends ≡ []) (λ (end : Bor (List ℕ)). (before : List (List ℕ))
    × (now.ends ≡ before ++ end.now ∷ []))
    → IsCalled now area lay count low
as-called now area one other lay count low one-is lay-is other-is count-is last = record {
  lay_is = lay-is ∙ ap (λ (part : KeyedChain). area_of part area) one-is;
  count_is = count-is ∙ ap (λ (part : KeyedChain). area_count part.geometry) other-is;
  low_is = by_last low last;
}
  where
    by_last : (low : Option (Bor (List ℕ))) → MatchOption low (now.ends ≡ [])
        (λ (end : Bor (List ℕ)). (before : List (List ℕ)) × (now.ends ≡ before ++ end.now ∷ []))
        → low_lent low ≡ low_after now.ends
    by_last None none = sym (ap low_after none)
    by_last (Some end) (before, is) = sym (ap low_after is ∙ low-push before end.now)

-- What the walk over the area says of its head: it is a good one, and the area that comes next.
pub record IsRead (now : AreasNow) (area : ℕ) (top : Block) (next : Option ℕ) : Type 0 where
  pub good : IsGoodTop (area_of now.part area) area (area_count now.part.geometry)
      (low_after now.ends) top
  pub next_is : next ≡ (record_in top).next

module _ (now : AreasNow) (area : ℕ) (lay : Keyed) (count : ℕ) (low : Option (Bor (List ℕ)))
    (called : IsCalled now area lay count low) where
  moved : (P : Keyed → ℕ → Option (List ℕ) → Type 0) → P lay count (low_lent low)
      → P (area_of now.part area) (area_count now.part.geometry) (low_after now.ends)
  moved P is = subst (λ (bound : Option (List ℕ)).
      P (area_of now.part area) (area_count now.part.geometry) bound) called.low_is
      (subst (λ (n : ℕ). P (area_of now.part area) n (low_lent low)) called.count_is
      (subst (λ (part : Keyed). P part count (low_lent low)) called.lay_is is))

  module _ (found : Result (Option ℕ) Damage) where
    pub as-read : (top : Block) (next : Option ℕ) → found ≡ Ok next
        → OnOk found (IsGoodTop lay area count (low_lent low) top)
        → IfOk found (λ (one : Option ℕ). one ≡ (record_in top).next) → IsRead now area top next
    as-read top next is good leads = record {
      good = moved (λ part n bound. IsGoodTop part area n bound top)
          (subst (λ (f : Result (Option ℕ) Damage).
          OnOk f (IsGoodTop lay area count (low_lent low) top)) is good);
      next_is = subst (λ (f : Result (Option ℕ) Damage).
          IfOk f (λ (one : Option ℕ). one ≡ (record_in top).next)) is leads;
    }

    pub as-whole : (image : Image) (next : Option ℕ) → found ≡ Ok next
        → OnOk found (IsKeyedAreaSound lay area count (low_lent low) image)
        → IsAreaWhole now.part image (area, low_after now.ends)
    as-whole image next is sound =
        moved (λ part n bound. IsKeyedAreaSound part area n bound image)
        (subst (λ (f : Result (Option ℕ) Damage).
        OnOk f (IsKeyedAreaSound lay area count (low_lent low) image)) is sound)

    pub as-bad : (image : Image) (damage : Damage) → found ≡ Err damage
        → IfErr found (λ (one : Damage).
        IsKeyedAreaBad lay area count (low_lent low) image one.block one.rule)
        → IsKeyedAreaBad (area_of now.part area) area (area_count now.part.geometry)
        (low_after now.ends) image damage.block damage.rule
    as-bad image damage is bad =
        moved (λ part n bound. IsKeyedAreaBad part area n bound image damage.block damage.rule)
        (subst (λ (f : Result (Option ℕ) Damage). IfErr f (λ (one : Damage).
        IsKeyedAreaBad lay area count (low_lent low) image one.block one.rule)) is bad)

-- ---- in memory

-- As many intervals as a head leads to don't wrap the count of those of the areas so far.
pub few-added : (now : AreasNow) (area : ℕ) (top : Block) (next : Option ℕ)
    → IsRead now area top next → (taken : List (Option PartNo)) → IsOpen now area taken
    → now.part.geometry.area ≤ 255 → area_count now.part.geometry < 2 ^ 32
    → now.intervals + length (entries_of top) < 2 ^ 64
few-added now area top next read taken ready most count = omega (
  arith,
  ready.few,
  ready.ready.room,
  head-entries (area_of now.part area) top read.good.head,
  most,
  count,
)

module _ (now new : AreasNow) (area : ℕ) (top : Block) (added : IsAdded top area now new) where
  -- the last area goes up to the greatest place
  pub ends-greatest : IsRead now area top None → EndsGreatest new
  ends-greatest read =
      let end : Some added.end ≡ Some (replicate now.part.key 255) =
      sym added.end_is ∙ read.good.goes.ends (sym read.next_is) in
      subst EndsGreatest (sym added.new_is) (record {
        before = now.ends;
        last = ap (λ (o : Option (List ℕ)). now.ends ++ unwrap_or o added.end ∷ []) end;
      })

  module _ (next : ℕ) (read : IsRead now area top (Some next)) where
    pub next-there : next < area_count now.part.geometry
    next-there = subst (λ (one : Option ℕ).
        IfSome one (λ (n : ℕ). n < area_count now.part.geometry)) (sym read.next_is) read.good.there

    module _ (taken after : List (Option PartNo)) (ready : IsOpen now area taken)
        (fewer : free_count after + 1 ≡ free_count taken) where
      -- with room for the next one
      pub still-open : length after ≡ length taken → now.part.geometry.area ≤ 255
          → IsOpen new next after
      still-open count most = subst (λ (one : AreasNow). IsOpen one next after) (sym added.new_is)
          (record {
            ready = record {
              there = next-there;
              room = omega (arith, length_push now.areas area, ready.room, fewer);
              ascend = sorted-push now.ends added.end ready.ready.ascend
                  (ends-below (area_of now.part area) top now.ends added.end read.good.head
                  read.good.goes.begins added.end_is ready.ready.ascend);
            };
            few = omega (
              arith,
              length_push now.areas area,
              ready.few,
              most,
              head-entries (area_of now.part area) top read.good.head,
            );
            count = count ∙ ready.count;
            room = omega (arith, length_push now.areas area, ready.room, fewer);
          })

    -- it is marked
    pub still-marked : (before taken after : List (Option PartNo)) → next < length taken
        → get_or taken next None ≡ None
        → after ≡ slice_set taken next (Some (part_no (KeyedShape new.part)))
        → AreMarkedTo before taken now (Some area) → AreMarkedTo before after new (Some next)
    still-marked before taken after inside free after-is marks =
        subst (λ (one : AreasNow). AreMarkedTo before after one (Some next)) (sym added.new_is)
        (subst (λ (all : List (Option PartNo)). AreMarkedTo before all (record {
          part = now.part;
          areas = now.areas ++ area ∷ [];
          ends = now.ends ++ added.end ∷ [];
          intervals = now.intervals + length (entries_of top);
        }) (Some next))
        (sym (after-is ∙ ap (λ (one : AreasNow).
        slice_set taken next (Some (part_no (KeyedShape one.part)))) added.new_is))
        (marks-more (part_no (KeyedShape now.part)) now.part.first (now.areas ++ area ∷ []) before
        taken next marks inside free))

-- ---- by the image

module _ (before taken : List (Option PartNo)) (image : Image) (now : AreasNow) (area : ℕ)
    (marks : AreMarkedTo before taken now (Some area))
    (walk : IsWalkedAt (IsTakenIn before) image now area) where
  pub step-bad : (n : ℕ) (rule : Rule)
      → IsKeyedAreaBad (area_of now.part area) area (area_count now.part.geometry)
      (low_after now.ends) image n rule
      → IsLinkedDamagedAt now.part (IsTakenIn before) image n rule
  step-bad = area-bad (IsTakenIn before) image now area walk

  module _ (top : Block) (next : Option ℕ) (read : IsRead now area top next)
      (here : top ≡ head_in now.part image area)
      (whole : IsAreaWhole now.part image (area, low_after now.ends)) where
    good-here : IsGoodTop (area_of now.part area) area (area_count now.part.geometry)
        (low_after now.ends) (head_in now.part image area)
    good-here = subst (IsGoodTop (area_of now.part area) area (area_count now.part.geometry)
        (low_after now.ends)) here read.good

    leads-here : (record_in (head_in now.part image area)).next ≡ next
    leads-here = ap (λ (block : Block). (record_in block).next) (sym here) ∙ sym read.next_is

    pub step-twice : (after : ℕ) → next ≡ Some after → IsTakenIn taken after → (n : ℕ)
        → n ≡ head_of now.part after → (rule : Rule) → rule ≡ rules.AreaTwice
        → IsLinkedDamagedAt now.part (IsTakenIn before) image n rule
    step-twice after is had n block rule twice =
        area-twice (IsTakenIn before) image now area walk whole after (leads-here ∙ is)
        (taken-before (part_no (KeyedShape now.part)) now.part.first (now.areas ++ area ∷ []) before
        taken after marks had) n block rule twice

    module _ (new : AreasNow) (added : IsAdded top area now new) (ready : IsOpen now area taken)
      where
        added-here : IsAdded (head_in now.part image area) area now new
        added-here = subst (λ (block : Block). IsAdded block area now new) here added

        pub step-over : next ≡ None → IsWalkedOver image new
        step-over none = walked-over (IsTakenIn before) image now area walk ready.ready.there whole
            good-here new added-here (leads-here ∙ none)

        pub step-on : (after : ℕ) → next ≡ Some after → get_or taken after None ≡ None
            → length now.areas + 1 < area_count now.part.geometry
            → IsWalkedAt (IsTakenIn before) image new after
        step-on after is free room = walked-on (IsTakenIn before) image now area walk
            ready.ready.there whole good-here new added-here after (leads-here ∙ is)
            (free-new (part_no (KeyedShape now.part)) now.part.first (now.areas ++ area ∷ []) before
            taken after marks free) room

-- ---- from step to step

-- by the image in which the walk began
pub walked-by : (before taken : List (Option PartNo)) (one image : Image) (now new : AreasNow)
    (area : ℕ) (found : Result (Option ℕ) Damage) → one ≡ image
    → AreMarkedTo before taken now (Some area)
    → (AreMarkedTo before taken now (Some area) → IsWalkedAt (IsTakenIn before) one now area
    → MatchResult found (IsWalkedBy (IsTakenIn before) one new)
    (λ (damage : Damage).
    IsLinkedDamagedAt now.part (IsTakenIn before) one damage.block damage.rule))
    → IsWalkedAt (IsTakenIn before) image now area
    → MatchResult found (IsWalkedBy (IsTakenIn before) image new)
    (λ (damage : Damage).
    IsLinkedDamagedAt now.part (IsTakenIn before) image damage.block damage.rule)
walked-by before taken one image now new area found same marks walked walk =
    subst (λ (at : Image). IsWalkedAt (IsTakenIn before) at now area
    → MatchResult found (IsWalkedBy (IsTakenIn before) at new)
    (λ (damage : Damage).
    IsLinkedDamagedAt now.part (IsTakenIn before) at damage.block damage.rule))
    same (walked marks) walk

-- ---- where the walk begins

-- no area yet
abbrev pub none_of : KeyedChain → AreasNow
none_of part = record { part = part; areas = []; ends = []; intervals = 0 }

module _ (part : KeyedChain) (now : AreasNow) (area : ℕ) (taken : List (Option PartNo))
    (is : now ≡ none_of part) (area-is : area ≡ part.first)
    (first : get_or taken part.first None ≡ Some (part_no (KeyedShape part))) where
  at-first : (P : AreasNow → ℕ → Type 0) → P (none_of part) part.first → P now area
  at-first P begun = subst (P now) (sym area-is)
      (subst (λ (one : AreasNow). P one part.first) (sym is) begun)

  pub start-open : part.first < area_count part.geometry → length taken ≡ area_count part.geometry
      → IsOpen now area taken
  unfolding IsStrictlySortedBy
  start-open there count = at-first (λ one at. IsOpen one at taken) (record {
    ready = record { there = there; room = omega (arith, there); ascend = tt };
    few = omega arith;
    count = count;
    room = omega (
      arith,
      free-below taken part.first (part_no (KeyedShape part)) first,
      count,
    );
  })

  pub start-marked : owned_count (part_no (KeyedShape part)) taken ≡ 1
      → AreMarkedTo taken taken now (Some area)
  start-marked alone = at-first (λ one at. AreMarkedTo taken taken one (Some at))
      (marks-first (part_no (KeyedShape part)) part.first taken first alone)

  pub start-walk : (image : Image) → part.first < area_count part.geometry
      → IsWalkedAt (IsTakenIn taken) image now area
  start-walk image there = at-first (IsWalkedAt (IsTakenIn taken) image)
      (walk-first part (IsTakenIn taken) image there)

-- ---- where it ends

module _ (part : KeyedChain) (new : AreasNow) (same : new.part ≡ part) where
  pub over-marked : (before taken : List (Option PartNo)) → AreMarkedTo before taken new None
      → AreMarked (part_no (KeyedShape part)) part.first new.areas before taken
  over-marked before taken marks = subst (λ (one : KeyedChain).
      AreMarked (part_no (KeyedShape one)) one.first new.areas before taken) same marks

  pub over-knows : (image : Image) → IsWalkedOver image new
      → KnowsAreas part new.areas new.ends image
  over-knows image over =
      subst (λ (one : KeyedChain). KnowsAreas one new.areas new.ends image) same over.knows

  pub over-counted : (image : Image) → IsWalkedOver image new
      → new.intervals ≡ intervals_in part image
  over-counted image over =
      subst (λ (one : KeyedChain). new.intervals ≡ intervals_in one image) same over.counted

  -- the blocks stand for a content
  pub over-stands : (image : Image) → IsKeyedChain part → IsWalkedOver image new
      → Stands (KeyedShape part) image
  over-stands image is over = (
    content_after part image (area_count part.geometry) part.first,
    record {
      part_is = is;
      chain = subst (λ (one : KeyedChain).
          LinksIn one image (area_count one.geometry) one.first None) same over.chain;
      records = refl;
    },
  )

-- and the areas in memory are those of a whole chain
pub over-whole : (before taken : List (Option PartNo)) (new : AreasNow)
    → AreMarkedTo before taken new None → EndsGreatest new → AreWhole new
over-whole before taken new marks greatest =
    record { first = marks.there; before = greatest.before; last = greatest.last }
