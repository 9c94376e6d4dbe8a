-- What a stage of a split of an area leaves of a keyed part: its records, its chain, and what it
-- keeps in memory of it. After the last one the chain has one area more, and the place where the
-- area that was split ends lies between where the one before it ends and where it ended.
use Rattle.std.proofs.Common.{◌≡◌, ◌≢◌, ◌≤◌, ◌+◌, ⊎_elim, inl, ℕ, zero, suc, Bool, true}
use Rattle.std.proofs.Common.{false, IsTrue, List, [], ◌∷◌, Option, Some, None, All, map}
use Rattle.std.proofs.Common.{refl, sym, ap, subst, ◌∙◌, arith, length, take, eq-eqb, true≢false}
use Rattle.std.specs.Prelude.{Contains, IfSome, IsSome, cond, nat_eq, slice_get}
use Rattle.std.specs.Ordering.{is_le}
use Rattle.std.specs.declared.cmp.Ordering.TheVariants.{Less}
use Rattle.std.proofs.lemmas.List.{length-map}
use Rattle.std.proofs.lemmas.List.Elements.{All-cons, All-head, All-nil, All-tail}
use Rattle.std.proofs.lemmas.Map.Views.{exact_unsigned_eq}
use Rattle.vr_types.specs.Content.{place_cmp}
use Rattle.vr_types.specs.Geometry.{area_count}
use Rattle.vr_types.specs.Image.{Block, Image}
use Rattle.vr_types.specs.Seen.{Left, Seen}
use Rattle.vr_types.specs.declared.unit.StageKind.{StageKind}
use Rattle.vr_types.specs.declared.unit.StageKind.TheVariants.{CaSwitch}
use Rattle.vr_seqset.specs.Entry.{Entry, IsWhole}
use Rattle.vr_seqset.specs.Reading.{record_in}
use Rattle.vr_space.specs.Areas.{ChainKeepsRoom, IsChainAtRest, IsFollowed}
use Rattle.vr_space.specs.Areas.{IsQuietArea, KeyedChain, KnowsAreas, LinksIn, area_of}
use Rattle.vr_space.specs.Areas.{areas_after, end_of, head_in, intervals_in}
use Rattle.vr_space.specs.Keyed.{IsHead, Keyed, entries_of, last_high, low_of}
use Rattle.vr_space.specs.Known.{Known}
use Rattle.vr_space.specs.Met.{IsChainMet}
use Rattle.vr_space.specs.Moves.{IsMoving, MoveUnderWay, with_area}
use Rattle.vr_space.specs.Moves.{IsPastClaim, with_end}
use Rattle.vr_space.specs.Owners.{Owners}
use Rattle.vr_space.specs.Part.{IsQuiet, KeyedShape, Knows}
use Rattle.vr_space.specs.Room.{Lengths, is_above}
use Rattle.vr_space.specs.Rosters.{after_next}
use Rattle.vr_space.specs.Split.{MoveNow}
use Rattle.vr_space.proofs.CallerLemmas.{above-more, aside-of, contains-cases, end-above}
use Rattle.vr_space.proofs.CallerLemmas.{head-ascends, links-less, lt_from_test}
use Rattle.vr_space.proofs.CallerLemmas.{resting-stands}
use Rattle.vr_casplit.specs.Growing.{LeavesRecords, LeavesRest}
use Rattle.vr_casplit.specs.Splits.{IsAtWork, areas_by}
use Rattle.vr_casplit.specs.Splits.{ends_by}
use Rattle.vr_attach.specs.Areas.{AreasNow, IsAreaPosition, IsCut}
use Rattle.vr_keyed.specs.Changed.{IsDoneIn, KeepsIn}
use Rattle.vr_keyed.specs.Owned.{known_by}

-- ---- at work, whoever owns the other blocks

-- every block is the part's own
abbrev pub all_of : KeyedChain → Owners
all_of part n = Some part.part

-- A part at rest is so where every block is its own.
all-rest : (part : KeyedChain) (now : Seen) → IsQuiet (KeyedShape part) now
    → IsChainAtRest part (all_of part) now
all-rest part now quiet = record {
  on = quiet.1.on;
  chain = links-less part (IsQuietArea part quiet.0 now) (IsQuietArea part (all_of part) now) now
      now refl refl
      (λ area is. record {
        own = record { there = is.own.there; owned = λ n inside. refl };
        one_head = is.one_head;
      })
      (λ area is n inside block may. may) (area_count part.geometry) part.first None quiet.1.chain;
}

all-work : (part : KeyedChain) (move : MoveNow) (now : Seen) (kept : Lengths)
    → IsQuiet (KeyedShape part) now → ChainKeepsRoom part kept now → IsMoving part move now
    → IsAtWork part move (all_of part) kept now
all-work part move now kept quiet room way = record {
  rests = all-rest part now quiet;
  room = room;
  own = λ later. record {
    there = (aside-of part move now move.stage later way.ready).there;
    owned = λ n inside. refl;
  };
}

-- ---- what a stage leaves, whether it failed or not

abbrev pub Leaves : KeyedChain → MoveNow → Seen → Seen → Type 0
Leaves part move old new = (owners : Owners) (kept : Lengths) → IsAtWork part move owners kept old
    → LeavesRecords part owners kept old new

pub moves-keep : (part at : KeyedChain) → at ≡ part → (move : Option MoveNow) → IsSome move
    → (old new : Seen) → IsQuiet (KeyedShape part) old → MoveUnderWay part move old
    → IfSome move (λ now. Leaves at now old new) → (kept : Lengths)
    → ChainKeepsRoom part kept old → KeepsIn part move kept old new
moves-keep part at same None some old new quiet way leaves kept room = absurd cc
moves-keep part at same (Some move) some old new quiet way leaves kept room =
    let here : Leaves part move old new =
    subst (λ (one : KeyedChain). Leaves one move old new) same leaves in
    let all = here (all_of part) kept (all-work part move old kept quiet room way) in
    record {
      adds = λ owners rests owns.
          (here owners kept (record { rests = rests; room = room; own = owns })).adds;
      same = all.same;
      room = all.room;
      rooms = λ owners rests owns.
          (here owners kept (record { rests = rests; room = room; own = owns })).rooms;
    }

-- ---- what it leaves once it is done

-- the part at rest, ready for what is next, and known as it is then
pub record HasStepped (part : KeyedChain) (move : MoveNow) (next : Option MoveNow) (cut : List ℕ)
    (old new : Seen) : Type 0 where
  pub rests : (owners : Owners) (kept : Lengths) → IsAtWork part move owners kept old
      → LeavesRest part owners old new
  pub way : (owners : Owners) (kept : Lengths) → IsAtWork part move owners kept old
      → move.stage ≢ CaSwitch → IfSome next (λ after. IsMoving part after new)
  pub knows : (owners : Owners) (kept : Lengths) (areas : List ℕ) (ends : List (List ℕ))
      → IsAtWork part move owners kept old → KnowsAreas part areas ends old.cur
      → KnowsAreas part (areas_by move.stage move areas) (ends_by move.stage move cut areas ends)
      new.cur
  pub counts : (owners : Owners) (kept : Lengths) → IsAtWork part move owners kept old
      → intervals_in part new.cur ≡ intervals_in part old.cur

pub stepped : (part at : KeyedChain) → at ≡ part → (move next : Option MoveNow) (cut : List ℕ)
    (old new : Seen)
    → IfSome move (λ now. (owners : Owners) (kept : Lengths) → IsAtWork at now owners kept old
    → LeavesRest at owners old new)
    → IfSome move (λ now. (owners : Owners) (kept : Lengths) → IsAtWork at now owners kept old
    → now.stage ≢ CaSwitch → IfSome next (λ after. IsMoving at after new))
    → IfSome move (λ now. (owners : Owners) (kept : Lengths) (areas : List ℕ)
    (ends : List (List ℕ)) → IsAtWork at now owners kept old → KnowsAreas at areas ends old.cur
    → KnowsAreas at (areas_by now.stage now areas) (ends_by now.stage now cut areas ends) new.cur)
    → IfSome move (λ now. (owners : Owners) (kept : Lengths) → IsAtWork at now owners kept old
    → intervals_in at new.cur ≡ intervals_in at old.cur)
    → IfSome move (λ now. HasStepped part now next cut old new)
stepped part at same None next cut old new rests way knows counts = tt
stepped part at same (Some move) next cut old new rests way knows counts =
    subst (λ (one : KeyedChain). HasStepped one move next cut old new) same
    (record { rests = rests; way = way; knows = knows; counts = counts })

pub step-done : (part : KeyedChain) (move next : Option MoveNow) (cut : List ℕ) (old new : Seen)
    → IsSome move → IsQuiet (KeyedShape part) old → MoveUnderWay part move old → (kept : Lengths)
    → ChainKeepsRoom part kept old → IfSome move (λ now. HasStepped part now next cut old new)
    → (known : Known) → Knows (KeyedShape part) known new → IsDoneIn part move known old new
step-done part None next cut old new some quiet way kept room step known knows = absurd cc
step-done part (Some move) next cut old new some quiet way kept room step known knows = record {
  due = (step.rests (all_of part) kept (all-work part move old kept quiet room way)).due;
  rests = λ owners rests owns.
      (step.rests owners kept (record { rests = rests; room = room; own = owns })).rests;
  knows = knows;
}

-- ---- what is known of the part then

next-way : (part : KeyedChain) (next : Option MoveNow) (new : Seen)
    → IfSome next (λ after. IsMoving part after new) → MoveUnderWay part next new
next-way part None new way = tt
next-way part (Some move) new way = way

areas-stay : (stage : StageKind) (move : MoveNow) (areas : List ℕ) → stage ≢ CaSwitch
    → areas_by stage move areas ≡ areas
areas-stay CaSwitch move areas other = absurd (other refl)
areas-stay stage move areas other = refl

ends-stay : (stage : StageKind) (move : MoveNow) (cut : List ℕ) (areas : List ℕ)
    (ends : List (List ℕ)) → stage ≢ CaSwitch → ends_by stage move cut areas ends ≡ ends
ends-stay CaSwitch move cut areas ends other = absurd (other refl)
ends-stay stage move cut areas ends other = refl

-- the same of the areas, where the split goes on or none is under way
knows-areas : (chain : AreasNow) (next : Option MoveNow) (new : Seen)
    → MoveUnderWay chain.part next new → IsPastClaim next
    → KnowsAreas chain.part chain.areas chain.ends new.cur
    → chain.intervals ≡ intervals_in chain.part new.cur
    → Knows (KeyedShape chain.part) (known_by chain None next []) new
knows-areas chain next new way past knows counted = record {
  way = (tt, way, inl refl, past);
  blocks = (knows, All-nil (IsChainMet chain.part new.cur), counted);
}

-- before the last stage it has the areas that it had
pub knows-on : (chain : AreasNow) (move next : Option MoveNow) (cut : List ℕ) (old new : Seen)
    → IsSome move → IsQuiet (KeyedShape chain.part) old → MoveUnderWay chain.part move old
    → (kept : Lengths) → ChainKeepsRoom chain.part kept old
    → IfSome move (λ now. HasStepped chain.part now next cut old new)
    → KnowsAreas chain.part chain.areas chain.ends old.cur
    → chain.intervals ≡ intervals_in chain.part old.cur → (kind : StageKind)
    → IfSome move (λ now. kind ≡ now.stage) → kind ≢ CaSwitch → IsPastClaim next
    → Knows (KeyedShape chain.part) (known_by chain None next []) new
knows-on chain None next cut old new some quiet way kept room step knows counted kind is other
    past = absurd cc
knows-on chain (Some move) next cut old new some quiet way kept room step knows counted kind is
    other past =
    let part : KeyedChain = chain.part in
    let work : IsAtWork part move (all_of part) kept old =
    all-work part move old kept quiet room way in
    let differs : move.stage ≢ CaSwitch = λ same. other (is ∙ same) in
    knows-areas chain next new
    (next-way part next new (step.way (all_of part) kept work differs)) past
    (subst (λ (areas : List ℕ). KnowsAreas part areas chain.ends new.cur)
    (areas-stay move.stage move chain.areas differs)
    (subst (λ (ends : List (List ℕ)).
    KnowsAreas part (areas_by move.stage move chain.areas) ends new.cur)
    (ends-stay move.stage move cut chain.areas chain.ends differs)
    (step.knows (all_of part) kept chain.areas chain.ends work knows)))
    (counted ∙ sym (step.counts (all_of part) kept work))

-- ---- where the areas end

-- Each ends past the one before it, at a place of this length.
abbrev pub Rise : ℕ → Option (List ℕ) → List (List ℕ) → Type 0
Rise key low [] = Unit {0}
Rise key low (end ∷ ends) =
    (is_above low end ≡ true) × (length end ≡ key) × Rise key (Some end) ends

high-length : (key : ℕ) (entries : List Entry) (end : List ℕ) → All (IsWhole key) entries
    → last_high entries ≡ Some end → length end ≡ key
high-length key [] end whole is = absurd cc
high-length key (entry ∷ []) end whole is =
    let same : entry.high ≡ end = cc in
    ap (λ (place : List ℕ). length place) (sym same)
    ∙ (All-head (IsWhole key) entry [] whole).high
high-length key (entry ∷ other ∷ entries) end whole is =
    high-length key (other ∷ entries) end (All-tail (IsWhole key) entry (other ∷ entries) whole) is

head-end : (part : Keyed) (top : Block) (end : List ℕ) → IsHead part top → end_of top ≡ Some end
    → length end ≡ part.key
head-end part top end head is = high-length part.key (entries_of top) end
    (subst (λ (n : ℕ). All (IsWhole n) (entries_of top)) head.key head.spelled.rules.lengths.whole)
    is

-- Those of a chain do.
pub ends-rise : (part : KeyedChain) (image : Image) (k area : ℕ) (low : Option (List ℕ))
    (ends : List (List ℕ)) → LinksIn part image k area low
    → map Some ends
    ≡ map (λ (at : ℕ). end_of (head_in part image at)) (areas_after part image k area)
    → Rise part.key low ends
ends-rise part image zero area low ends chain are = absurd chain
ends-rise part image (suc k) area low [] chain are = tt
ends-rise part image (suc k) area low (end ∷ ends) chain are =
    let first : Some end ≡ end_of top = cc in
    let rest : map Some ends
    ≡ map end_at (after_next [] (areas_after part image k) (record_in top).next) = cc in (
      subst (λ (bound : Option (List ℕ)). is_above bound end ≡ true) chain.begins
          (end-above (low_of top) (entries_of top) end
          (head-ascends (area_of part area) top chain.head) (sym first)),
      head-end (area_of part area) top end chain.head (sym first),
      by_next (record_in top).next ends first rest chain.next
          (λ further bound more. ends-rise part image k further bound more),
    )
  where
    top : Block
    top = head_in part image area

    end_at : ℕ → Option (List ℕ)
    end_at at = end_of (head_in part image at)

    by_next : (next : Option ℕ) (more : List (List ℕ)) → Some end ≡ end_of top
        → map Some more ≡ map end_at (after_next [] (areas_after part image k) next)
        → IsFollowed part (LinksIn part image k) top next
        → ((further : ℕ) (bound : Option (List ℕ)) (others : List (List ℕ))
        → LinksIn part image k further bound
        → map Some others ≡ map end_at (areas_after part image k further)
        → Rise part.key bound others)
        → Rise part.key (Some end) more
    by_next None [] first rest goes all = tt
    by_next None (one ∷ more) first rest goes all = absurd cc
    by_next (Some further) more first rest goes all =
        subst (λ (bound : Option (List ℕ)). Rise part.key bound more) (sym first)
        (all further (end_of top) more goes rest)

-- Ends that rise from a place rise from a lower one, too;
pub rise-lower : (key : ℕ) (low high : List ℕ) (ends : List (List ℕ))
    → is_above (Some low) high ≡ true → Rise key (Some high) ends → Rise key (Some low) ends
rise-lower key low high [] above rises = tt
rise-lower key low high (end ∷ ends) above rises =
    (above-more (Some low) high end above rises.0, rises.1, rises.2)

-- so all of them are past what they rise from
rise-past : (key : ℕ) (low : List ℕ) (ends : List (List ℕ)) → Rise key (Some low) ends
    → All (λ (end : List ℕ). IsTrue (is_le (place_cmp low end))) ends
rise-past key low [] rises = All-nil (λ (end : List ℕ). IsTrue (is_le (place_cmp low end)))
rise-past key low (end ∷ ends) rises =
    All-cons (λ (one : List ℕ). IsTrue (is_le (place_cmp low one))) end ends
    (ap is_le (lt_from_test (place_cmp low end) rises.0))
    (rise-past key low ends (rise-lower key low end ends rises.0 rises.2))

-- ---- the cut

-- Where the area ends once it is cut, past the low place.
pub record IsCutFrom (key : ℕ) (low : Option (List ℕ)) (areas : List ℕ) (ends : List (List ℕ))
    (area : ℕ) (cut : List ℕ) : Type 0 where
  pub long : length cut ≡ key
  pub above : is_above low cut ≡ true
  pub at : ℕ
  pub position : IsAreaPosition ends cut at
  pub is : slice_get areas at ≡ Some area
  pub first : Contains (take at areas) area → ⊥
  pub before : IfSome (slice_get ends at) (λ end. place_cmp cut end ≡ Less)

other-area : (one area : ℕ) → nat_eq one area ≡ false → one ≡ area → ⊥
other-area one area differ same = true≢false (sym (eq-eqb one area same) ∙ differ)

cut-from : (key : ℕ) (low : Option (List ℕ)) (areas : List ℕ) (ends : List (List ℕ)) (area : ℕ)
    (cut : List ℕ) → Contains areas area → length areas ≡ length ends
    → Rise key low (with_end area cut areas ends) → IsCutFrom key low areas ends area cut
cut-from key low [] ends area cut has many rises = absurd (omega (arith, has.1))
cut-from key low (one ∷ areas) [] area cut has many rises = absurd (omega (arith, many))
cut-from key low (one ∷ areas) (end ∷ ends) area cut has many rises =
    by_test (nat_eq one area) refl rises
    (λ inside more. cut-from key (Some end) areas ends area cut inside (omega (arith, many)) more)
  where
    by_test : (test : Bool) → nat_eq one area ≡ test
        → Rise key low (cond test (cut ∷ end ∷ ends) (end ∷ with_end area cut areas ends))
        → (Contains areas area → Rise key (Some end) (with_end area cut areas ends)
        → IsCutFrom key (Some end) areas ends area cut)
        → IsCutFrom key low (one ∷ areas) (end ∷ ends) area cut
    by_test true same here more = record {
      long = here.1;
      above = here.0;
      at = 0;
      position = record {
        within = omega arith;
        before = All-nil (λ (other : List ℕ). place_cmp other cut ≡ Less);
        past = rise-past key cut (end ∷ ends) here.2;
      };
      is = ap Some (exact_unsigned_eq one area same);
      first = λ inside. omega (arith, inside.1);
      before = lt_from_test (place_cmp cut end) here.2.0;
    }
    by_test false differ here more =
        let differs : one ≡ area → ⊥ = other-area one area differ in
        let inside : Contains areas area =
        ⊎_elim (λ same. absurd (differs same)) (λ later. later)
        (contains-cases one area areas has) in
        let later : IsCutFrom key (Some end) areas ends area cut = more inside here.2 in
        record {
          long = later.long;
          above = above-more low end cut here.0 later.above;
          at = suc later.at;
          position = record {
            within = omega (arith, later.position.within);
            before = All-cons (λ (other : List ℕ). place_cmp other cut ≡ Less) end
                (take later.at ends) (lt_from_test (place_cmp end cut) later.above)
                later.position.before;
            past = later.position.past;
          };
          is = later.is;
          first = λ among. ⊎_elim differs later.first
              (contains-cases one area (take later.at areas) among);
          before = later.before;
        }

-- ---- how many areas there are

pub areas-most : (part : KeyedChain) (image : Image) (k area : ℕ)
    → length (areas_after part image k area) ≤ k
areas-most part image zero area = omega arith
areas-most part image (suc k) area =
    by_next (record_in (head_in part image area)).next
    (λ further. areas-most part image k further)
  where
    by_next : (next : Option ℕ)
        → ((further : ℕ) → length (areas_after part image k further) ≤ k)
        → suc (length (after_next [] (areas_after part image k) next)) ≤ suc k
    by_next None more = omega arith
    by_next (Some further) more = omega (arith, more further)

area-more : (area into : ℕ) (areas : List ℕ) → Contains areas area
    → length (with_area area into areas) ≡ length areas + 1
area-more area into [] has = absurd (omega (arith, has.1))
area-more area into (one ∷ areas) has =
    by_test (nat_eq one area) refl (area-more area into areas)
  where
    by_test : (test : Bool) → nat_eq one area ≡ test
        → (Contains areas area → length (with_area area into areas) ≡ length areas + 1)
        → length (cond test (one ∷ into ∷ areas) (one ∷ with_area area into areas))
        ≡ length (one ∷ areas) + 1
    by_test true same more = omega arith
    by_test false differ more =
        let inside : Contains areas area =
        ⊎_elim (λ same. absurd (other-area one area differ same)) (λ later. later)
        (contains-cases one area areas has) in
        omega (arith, more inside)

-- ---- the last stage

module _ (chain : AreasNow) (move : MoveNow) (next : Option MoveNow) (cut : List ℕ)
    (old new : Seen) (quiet : IsQuiet (KeyedShape chain.part) old)
    (way : IsMoving chain.part move old) (kept : Lengths)
    (room : ChainKeepsRoom chain.part kept old)
    (step : HasStepped chain.part move next cut old new)
    (knows : KnowsAreas chain.part chain.areas chain.ends old.cur)
    (counted : chain.intervals ≡ intervals_in chain.part old.cur) (last : move.stage ≡ CaSwitch)
    (left : Left new new.cur) where
  work : IsAtWork chain.part move (all_of chain.part) kept old
  work = all-work chain.part move old kept quiet room way

  -- the chain has the other area after this one, which ends at the cut
  knows-more : KnowsAreas chain.part (with_area move.area move.into chain.areas)
      (with_end move.area cut chain.areas chain.ends) new.cur
  knows-more = subst (λ (stage : StageKind). KnowsAreas chain.part (areas_by stage move chain.areas)
      (ends_by stage move cut chain.areas chain.ends) new.cur) last
      (step.knows (all_of chain.part) kept chain.areas chain.ends work knows)

  has : Contains chain.areas move.area
  has = subst (λ (areas : List ℕ). Contains areas move.area) (sym knows.areas_are) way.inside

  many : length chain.areas ≡ length chain.ends
  many =
      sym (length-map chain.areas (λ (at : ℕ). end_of (head_in chain.part old.cur at)))
      ∙ ap (λ (all : List (Option (List ℕ))). length all) (sym knows.ends_are)
      ∙ length-map chain.ends Some

  links : LinksIn chain.part new.cur (area_count chain.part.geometry) chain.part.first None
  links = (resting-stands chain.part (all_of chain.part) new
      (step.rests (all_of chain.part) kept work).rests left).1.chain

  cut-now : IsCutFrom chain.part.key None chain.areas chain.ends move.area cut
  cut-now = cut-from chain.part.key None chain.areas chain.ends move.area cut has many
      (ends-rise chain.part new.cur (area_count chain.part.geometry) chain.part.first None
      (with_end move.area cut chain.areas chain.ends) links
      (knows-more.ends_are
      ∙ ap (map (λ (at : ℕ). end_of (head_in chain.part new.cur at))) knows-more.areas_are))

  -- so it may be cut there
  is-cut : IsCut chain move.area cut
  is-cut = record {
    long = cut-now.long;
    at = cut-now.at;
    position = cut-now.position;
    is = cut-now.is;
    first = cut-now.first;
    before = cut-now.before;
    room = omega (
      arith,
      area-more move.area move.into chain.areas has,
      ap (λ (areas : List ℕ). length areas) knows-more.areas_are,
      areas-most chain.part new.cur (area_count chain.part.geometry) chain.part.first,
    );
  }

-- Where the last stage is done, the area may be cut, and the chain is known with the other after
-- it.
pub record EndsSplit (chain : AreasNow) (area into : ℕ) (cut : List ℕ) (new : Seen) : Type 0 where
  pub is_cut : IsCut chain area cut
  pub knows : KnowsAreas chain.part (with_area area into chain.areas)
      (with_end area cut chain.areas chain.ends) new.cur
  pub counted : chain.intervals ≡ intervals_in chain.part new.cur

pub ends-split : (chain : AreasNow) (move next : Option MoveNow) (cut : List ℕ) (old new : Seen)
    → IsSome move → IsQuiet (KeyedShape chain.part) old → MoveUnderWay chain.part move old
    → (kept : Lengths) → ChainKeepsRoom chain.part kept old
    → IfSome move (λ now. HasStepped chain.part now next cut old new)
    → KnowsAreas chain.part chain.areas chain.ends old.cur
    → chain.intervals ≡ intervals_in chain.part old.cur → (kind : StageKind)
    → IfSome move (λ now. kind ≡ now.stage) → kind ≡ CaSwitch → Left new new.cur
    → (area into : ℕ) → IfSome move (λ now. (area ≡ now.area) × (into ≡ now.into))
    → (place : List ℕ) → place ≡ cut → EndsSplit chain area into place new
ends-split chain None next cut old new some quiet way kept room step knows counted kind is last left
    area into areas place at = absurd cc
ends-split chain (Some move) next cut old new some quiet way kept room step knows counted kind is
    last left area into areas place at =
    let switch : move.stage ≡ CaSwitch = sym is ∙ last in
    subst (λ (one : List ℕ). EndsSplit chain area into one new) (sym at)
    (subst (λ (one : ℕ). EndsSplit chain one into cut new) (sym areas.0)
    (subst (λ (other : ℕ). EndsSplit chain move.area other cut new) (sym areas.1)
    (record {
      is_cut = is-cut chain move next cut old new quiet way kept room step knows counted switch
          left;
      knows = knows-more chain move next cut old new quiet way kept room step knows counted switch
          left;
      counted = counted ∙ sym (step.counts (all_of chain.part) kept
          (all-work chain.part move old kept quiet room way));
    })))

-- no split is under way then
pub knows-ended : (chain after : AreasNow) (area into : ℕ) (cut : List ℕ) (new : Seen)
    (next : Option MoveNow) → EndsSplit chain area into cut new
    → after ≡ record chain {
      areas = with_area area into chain.areas;
      ends = with_end area cut chain.areas chain.ends;
    }
    → next ≡ None → Knows (KeyedShape chain.part) (known_by after None next []) new
knows-ended chain after area into cut new next ended same none =
    let more : AreasNow = record chain {
      areas = with_area area into chain.areas;
      ends = with_end area cut chain.areas chain.ends;
    } in
    subst (λ (one : AreasNow). Knows (KeyedShape chain.part) (known_by one None next []) new)
    (sym same)
    (subst (λ (one : Option MoveNow). Knows (KeyedShape chain.part) (known_by more None one []) new)
    (sym none) (knows-areas more None new tt tt ended.knows ended.counted))
