-- The chain while the old head and the shortened one may be left: it goes over the areas that it
-- went over, by way of the new one where the head is the shortened one.
use Rattle.std.proofs.Common.{◌≡◌, ⊎_elim, ℕ, zero, suc, ◌<◌, ◌≤◌, List, [], ◌∷◌, Option, Some}
use Rattle.std.proofs.Common.{None}
use Rattle.std.proofs.Common.{refl, sym, ap, subst, ◌∙◌, arith}
use Rattle.std.specs.Prelude.{Contains}
use Rattle.std.proofs.lemmas.Bool.{cases_eq}
use Rattle.vr_types.specs.Geometry.{area_count}
use Rattle.vr_types.specs.Image.{Block}
use Rattle.vr_types.specs.Seen.{Seen}
use Rattle.vr_seqset.specs.Reading.{record_in}
use Rattle.vr_space.specs.Areas.{AreLinked, IsFollowed, KeyedChain, Links, LinksIn, area_of}
use Rattle.vr_space.specs.Areas.{areas_after, areas_in, end_of, head_in, head_of}
use Rattle.vr_space.specs.Keyed.{HasEnds, IsKeyedSound, low_of}
use Rattle.vr_space.specs.Owners.{Owners}
use Rattle.vr_space.specs.Rosters.{after_next}
use Rattle.vr_space.proofs.CallerLemmas.{IsResting, KeepsHead, contains-cases, links-kept}
use Rattle.vr_space.proofs.CallerLemmas.{resting-area, resting-links, same-ends}
use Rattle.vr_casplit.proofs.Fuel.{areas-alike, contains-first, contains-later, contains-none}
use Rattle.vr_casplit.proofs.Fuel.{each-listed, links-fewer, links-wider, none-twice}
use Rattle.vr_casplit.proofs.Heads.{AreHeads, lower-end, lower-low, lower-next, upper-followed}
use Rattle.vr_casplit.proofs.Heads.{upper-low}
use Rattle.vr_casplit.proofs.Switching.{CanSwitch, Narrows, are-heads, area-sound, into-sound}
use Rattle.vr_casplit.proofs.Switching.{other-head, other-sound, upper-only}

module _ (part : KeyedChain) (owners : Owners) (area into stay : ℕ) (old : Seen) (lower : Block)
    (can : CanSwitch part owners area into stay old lower) where
  abbrev top_now : Block
  top_now = head_in part old.cur area

  both : AreHeads part area into stay top_now lower can.moved.upper
  both = are-heads part owners area into stay old lower can

  -- ---- the old chain

  -- each area of it is at rest
  pub rests-inside : (at : ℕ) → Contains (areas_in part old.cur) at → IsResting part owners old at
  rests-inside = resting-area part owners old can.rests can.left

  -- The old chain goes on from an area, to the one that is split.
  pub record IsBefore (k at : ℕ) (low : Option (List ℕ)) : Type 0 where
    pub chain : LinksIn part old.cur k at low
    pub each : (one : ℕ) → Contains (areas_after part old.cur k at) one
        → Contains (areas_in part old.cur) one
    pub has : Contains (areas_after part old.cur k at) area

  -- It goes on from an area past that one.
  pub record IsPast (k at : ℕ) : Type 0 where
    pub chain : LinksIn part old.cur k at (end_of top_now)
    pub each : (one : ℕ) → Contains (areas_after part old.cur k at) one
        → Contains (areas_in part old.cur) one × (one ≡ area → ⊥)

  -- Before that one it leads on to another before it,
  pub leads-before : (k at : ℕ) (low : Option (List ℕ)) → IsBefore (suc k) at low
      → (at ≡ area → ⊥)
      → (next : ℕ) × ((record_in (head_in part old.cur at)).next ≡ Some next)
      × IsBefore k next (end_of (head_in part old.cur at))
  leads-before k at low before differ =
      by_next (record_in (head_in part old.cur at)).next refl before.chain.next before.each
      before.has
    where
      by_next : (next : Option ℕ) → (record_in (head_in part old.cur at)).next ≡ next
          → IsFollowed part (LinksIn part old.cur k) (head_in part old.cur at) next
          → ((one : ℕ)
          → Contains (at ∷ after_next [] (areas_after part old.cur k) next) one
          → Contains (areas_in part old.cur) one)
          → Contains (at ∷ after_next [] (areas_after part old.cur k) next) area
          → (further : ℕ) × ((record_in (head_in part old.cur at)).next ≡ Some further)
          × IsBefore k further (end_of (head_in part old.cur at))
      by_next None is follows each has = absurd (⊎_elim (λ same. differ same)
          (λ later. contains-none area later) (contains-cases at area [] has))
      by_next (Some further) is follows each has = (
        further,
        is,
        record {
          chain = follows;
          each = λ one later. each one
              (contains-later at one (areas_after part old.cur k further) later);
          has = ⊎_elim (λ same. absurd (differ same)) (λ later. later)
              (contains-cases at area (areas_after part old.cur k further) has);
        },
      )

  -- and from that one past it, with as many areas or more.
  pub leads-past : (k n : ℕ) (low : Option (List ℕ)) → IsBefore (suc k) area low → k ≤ n
      → (next : ℕ) → (record_in top_now).next ≡ Some next → IsPast n next
  leads-past k n low before most next is =
      let follows : LinksIn part old.cur k next (end_of top_now) =
      subst (IsFollowed part (LinksIn part old.cur k) top_now) is before.chain.next in
      let wider : LinksIn part old.cur n next (end_of top_now) =
      links-wider part old.cur k n next (end_of top_now) most follows in
      let same : areas_after part old.cur n next ≡ areas_after part old.cur k next =
      areas-alike part old.cur n k next (end_of top_now) (end_of top_now) wider follows in
      let all : areas_after part old.cur (suc k) area ≡ area ∷ areas_after part old.cur k next =
      ap (λ (after : Option ℕ). area ∷ after_next [] (areas_after part old.cur k) after) is in
      record {
        chain = wider;
        each = λ one has.
            let later : Contains (areas_after part old.cur k next) one =
            subst (λ (areas : List ℕ). Contains areas one) same has in (
              before.each one (subst (λ (areas : List ℕ). Contains areas one) (sym all)
                  (contains-later area one (areas_after part old.cur k next) later)),
              λ here. none-twice part old.cur k area low before.chain next is
                  (subst (Contains (areas_after part old.cur k next)) here later),
            );
      }

  -- The chain has an area less than the volume, and the one that is split.
  pub before-all : (k : ℕ) → area_count part.geometry ≡ suc k → IsBefore k part.first None
  before-all k is =
      let whole : LinksIn part old.cur (area_count part.geometry) part.first None =
      resting-links part owners old can.rests can.left in
      let chain : LinksIn part old.cur k part.first None =
      links-fewer part old.cur k into is can.own.there can.apart whole in
      let same : areas_in part old.cur ≡ areas_after part old.cur k part.first =
      areas-alike part old.cur (area_count part.geometry) k part.first None None whole chain in
      record {
        chain = chain;
        each = λ one. subst (λ (areas : List ℕ). Contains areas one) (sym same);
        has = subst (λ (areas : List ℕ). Contains areas area) same can.inside;
      }

  -- ---- heads

  -- Of another area that is at rest the current head alone is allowed.
  pub other-only : (may less : ℕ → Block → Type 0) → Narrows part area lower old may less
      → (at : ℕ) → IsResting part owners old at → (at ≡ area → ⊥) → (head : Block)
      → may (head_of part at) head → head ≡ head_in part old.cur at
  other-only may less narrows at resting differ head held =
      let below : head_of part at < old.count = omega (arith, resting.1.area) in
      resting.0.one_head head
      (narrows.allowed (head_of part at) head below
      (narrows.others (head_of part at) head below
      (other-head part owners area into stay old lower can at differ (head_of part at)
      (omega arith, omega arith)) held))

  pub other-ends : (may less : ℕ → Block → Type 0) → Narrows part area lower old may less
      → (at : ℕ) → IsResting part owners old at → (at ≡ area → ⊥) → KeepsHead part old.cur may at
  other-ends may less narrows at resting differ head held =
      subst (HasEnds (head_in part old.cur at))
      (sym (other-only may less narrows at resting differ head held))
      (same-ends (head_in part old.cur at))

  -- ---- the chain now

  module _ (now : Seen) (count : now.count ≡ old.count) (size : now.size ≡ old.size)
      (narrows : Narrows part area lower old now.may old.may) (Own : ℕ → Type 0)
      (own : (at : ℕ) → Contains (areas_in part old.cur) at → Own at) (own_into : Own into) where
    -- past the area it goes on as it did,
    past-links : (k at : ℕ) → IsPast k at → Links part Own now k at (end_of top_now)
    past-links k at past = links-kept part old.cur Own now k at (end_of top_now) past.chain
        (each-listed part old.cur
        (λ one. KeepsHead part old.cur now.may one × Own one × IsKeyedSound (area_of part one) now)
        k at
        (λ one has. let is = past.each one has in
        let resting = rests-inside one is.0 in (
          other-ends now.may old.may narrows one resting is.1,
          own one is.0,
          other-sound part owners area into stay old lower can now count size narrows one is.1
              resting,
        )))

    followed-past : (k n : ℕ) (low : Option (List ℕ)) → IsBefore (suc k) area low → k ≤ n
        → IsFollowed part (Links part Own now n) top_now (record_in top_now).next
    followed-past k n low before most = by_next (record_in top_now).next refl before.chain.next
      where
        by_next : (next : Option ℕ) → (record_in top_now).next ≡ next
            → IsFollowed part (LinksIn part old.cur k) top_now next
            → IsFollowed part (Links part Own now n) top_now next
        by_next None is last = last
        by_next (Some further) is goes =
            past-links n further (leads-past k n low before most further is)

    -- under the new head too,
    into-links : (k : ℕ) (low : Option (List ℕ)) → IsBefore (suc k) area low
        → Links part Own now (suc k) into (end_of lower)
    into-links k low before =
        let upper : Block = can.moved.upper in
        let only : (head : Block) → now.may (head_of part into) head → head ≡ upper =
        upper-only part owners area into stay old lower can now.may old.may narrows in (
          own_into,
          record {
            sound = into-sound part owners area into stay old lower can now count size narrows;
            begins = λ top may. ap low_of (only top may)
                ∙ upper-low part area into stay top_now lower upper both
                ∙ sym (lower-end part area into stay top_now lower upper both);
            next = λ top may. subst
                (λ (one : Block). IsFollowed part (Links part Own now k) one (record_in one).next)
                (sym (only top may))
                (upper-followed part area into stay top_now lower upper both
                (Links part Own now k)
                (followed-past k k low before (omega arith)));
          },
        )

    -- from the area on, under either head,
    area-links : (k : ℕ) (low : Option (List ℕ)) → IsBefore (suc k) area low
        → Links part Own now (suc (suc k)) area low
    area-links k low before =
        let upper : Block = can.moved.upper in (
          own area (before.each area (contains-first area _)),
          record {
            sound = area-sound part owners area into stay old lower can now count size narrows;
            begins = λ top may. ⊎_elim
                (λ same. ap low_of same ∙ before.chain.begins)
                (λ new. ap low_of new
                ∙ lower-low part area into stay top_now lower upper both
                ∙ before.chain.begins)
                (narrows.heads top may);
            next = λ top may. ⊎_elim
                (λ same. subst
                (λ (one : Block).
                IsFollowed part (Links part Own now (suc k)) one (record_in one).next)
                (sym same) (followed-past k (suc k) low before (omega arith)))
                (λ new. subst
                (λ (one : Block).
                IsFollowed part (Links part Own now (suc k)) one (record_in one).next)
                (sym new)
                (subst (IsFollowed part (Links part Own now (suc k)) lower)
                (sym (lower-next part area into stay top_now lower upper both))
                (into-links k low before)))
                (narrows.heads top may);
          },
        )

    -- and from each area before it.
    before-links : (k at : ℕ) (low : Option (List ℕ)) → IsBefore k at low
        → Links part Own now (suc k) at low
    before-links zero at low before = absurd before.chain
    before-links (suc k) at low before = ⊎_elim
        (λ same. subst (λ (one : ℕ). Links part Own now (suc (suc k)) one low) (sym same)
        (area-links k low (subst (λ (one : ℕ). IsBefore (suc k) one low) same before)))
        (λ differ.
        let inside = before.each at (contains-first at _) in
        let resting = rests-inside at inside in
        let only : (head : Block) → now.may (head_of part at) head → head ≡ head_in part old.cur at
        = other-only now.may old.may narrows at resting differ in
        let on = leads-before k at low before differ in (
          own at inside,
          record {
            sound = other-sound part owners area into stay old lower can now count size narrows at
                differ resting;
            begins = λ top may. ap low_of (only top may) ∙ before.chain.begins;
            next = λ top may. subst
                (λ (one : Block).
                IsFollowed part (Links part Own now (suc k)) one (record_in one).next)
                (sym (only top may))
                (subst (IsFollowed part (Links part Own now (suc k)) (head_in part old.cur at))
                (sym on.1)
                (before-links k on.0 (end_of (head_in part old.cur at)) on.2));
          },
        ))
        (cases_eq at area)

    -- So the part has a chain, in areas that are meant.
    pub links-switched : (k : ℕ) → area_count part.geometry ≡ suc k → AreLinked part Own now
    links-switched k is = subst (λ (n : ℕ). Links part Own now n part.first None) (sym is)
        (before-links k part.first None (before-all k is))
