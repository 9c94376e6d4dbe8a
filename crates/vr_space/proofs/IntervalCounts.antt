-- How many intervals the heads of a keyed part lead to: at most those of its areas, as many as
-- before where the heads have as many entries, and what a split of an interval or of an area leaves
-- of the number.
use Rattle.std.proofs.Common.{◌≡◌, ⊎_elim, ℕ, zero, suc, ◌+◌, ◌*◌, ◌≤◌, Bool, true, List, []}
use Rattle.std.proofs.Common.{◌∷◌, length, Option, Some, None, refl, sym, ap, subst, ◌∙◌, arith}
use Rattle.std.specs.Prelude.{Contains, cond}
use Rattle.std.specs.Ordering.{is_le}
use Rattle.std.proofs.lemmas.Bool.{cases_eq, eq-eqb, ne_eqb}
use Rattle.vr_types.specs.Geometry.{area_count}
use Rattle.vr_types.specs.Image.{Block, Image}
use Rattle.vr_seqset.specs.Numbers.{intervals_used}
use Rattle.vr_seqset.specs.Reading.{record_in}
use Rattle.vr_space.specs.Areas.{IsFollowed, KeyedChain, LinksIn, area_of, areas_after, areas_in}
use Rattle.vr_space.specs.Areas.{end_of, head_in, head_of, intervals_in, intervals_over}
use Rattle.vr_space.specs.Keyed.{IsHead, entries_of, low_of}
use Rattle.vr_space.specs.Known.{Known}
use Rattle.vr_space.specs.Left.{area_intervals}
use Rattle.vr_space.specs.Moves.{with_area}
use Rattle.vr_space.specs.Part.{AreMet, KeyedShape, Stands}
use Rattle.vr_space.specs.Room.{is_above}
use Rattle.vr_space.specs.Rosters.{after_next}
use Rattle.vr_space.proofs.AreaEnds.{end-above, has-end, reached-below}
use Rattle.vr_space.proofs.AreaPlaces.{ChangesArea, other-blocks, same-areas}
use Rattle.vr_space.proofs.EntryCounts.{entries-below}
use Rattle.vr_space.proofs.KeyedSound.{head-ascends}
use Rattle.vr_space.proofs.LinkedContent.{contains-cases, linked-above, links-in-area}
use Rattle.vr_space.proofs.Places.{same_is_equal}

-- how many intervals the head of an area leads to
abbrev pub interval_count : KeyedChain → Image → ℕ → ℕ
interval_count part image area = length (entries_of (head_in part image area))

later : (first at : ℕ) (rest : List ℕ) → Contains rest at → Contains (first ∷ rest) at
later first at rest (i, below, is) = (suc i, omega (arith, below), is)

-- ---- at most those of the areas

-- A head leads to at most the intervals of its area.
pub head-intervals : (part : KeyedChain) (area : ℕ) (top : Block) → IsHead (area_of part area) top
    → length (entries_of top) ≤ area_intervals part
head-intervals part area top head =
    subst (λ (n : ℕ). length (entries_of top) ≤ intervals_used part.geometry.area part.geometry.size
    n) head.key
    (subst (λ (n : ℕ). length (entries_of top)
    ≤ intervals_used part.geometry.area n (length (record_in top).low)) head.size
    (entries-below part.geometry.area (length top) (record_in top) head.spelled.rules))

over-most : (part : KeyedChain) (image : Image) (areas : List ℕ)
    → ((area : ℕ) → Contains areas area → interval_count part image area ≤ area_intervals part)
    → intervals_over part image areas ≤ length areas * area_intervals part
over-most part image [] each = omega arith
over-most part image (area ∷ areas) each = omega (
  arith,
  each area (0, omega arith, refl),
  over-most part image areas (λ at inside. each at (later area at areas inside)),
)

-- So the heads of a chain lead to at most those of its areas.
pub intervals-most : (part : KeyedChain) (image : Image) → Stands (KeyedShape part) image
    → intervals_in part image ≤ length (areas_in part image) * area_intervals part
intervals-most part image stands = over-most part image (areas_in part image)
    (λ area inside. head-intervals part area (head_in part image area)
    (links-in-area part image (area_count part.geometry) part.first None stands.1.chain area
    inside).stands.head)

-- What a part that stands knows to be used is at most what the areas of its chain have.
pub used-within : (part : KeyedChain) (known : Known) (image : Image)
    → Stands (KeyedShape part) image → AreMet (KeyedShape part) known image
    → known.used ≤ length known.areas * area_intervals part
used-within part known image stands met =
    subst (λ (used : ℕ). used ≤ length known.areas * area_intervals part) (sym met.2)
    (subst (λ (areas : List ℕ). intervals_in part image ≤ length areas * area_intervals part)
    (sym met.0.areas_are) (intervals-most part image stands))

-- ---- heads with as many entries

over-same : (part : KeyedChain) (old new : Image) (areas : List ℕ)
    → ((area : ℕ) → Contains areas area
    → interval_count part new area ≡ interval_count part old area)
    → intervals_over part new areas ≡ intervals_over part old areas
over-same part old new [] each = refl
over-same part old new (area ∷ areas) each = omega (
  arith,
  each area (0, omega arith, refl),
  over-same part old new areas (λ at inside. each at (later area at areas inside)),
)

-- An image with the same areas, whose heads have as many entries, has as many intervals.
pub intervals-same : (part : KeyedChain) (old new : Image)
    → areas_in part new ≡ areas_in part old
    → ((area : ℕ) → Contains (areas_in part old) area
    → interval_count part new area ≡ interval_count part old area)
    → intervals_in part new ≡ intervals_in part old
intervals-same part old new same each =
    ap (intervals_over part new) same ∙ over-same part old new (areas_in part old) each

-- the same where the heads are as they were
pub intervals-kept : (part : KeyedChain) (old new : Image)
    → areas_in part new ≡ areas_in part old
    → ((area : ℕ) → Contains (areas_in part old) area
    → head_in part new area ≡ head_in part old area)
    → intervals_in part new ≡ intervals_in part old
intervals-kept part old new same heads = intervals-same part old new same
    (λ area inside. ap (λ (top : Block). length (entries_of top)) (heads area inside))

-- ---- each area once

-- none of these areas comes twice
abbrev pub AreOnce : List ℕ → Type 0
AreOnce [] = Unit {0}
AreOnce (area ∷ areas) = (Contains areas area → ⊥) × AreOnce areas

-- The ranges of an area are past those of the areas before it, so a chain has each area once.
pub areas-once : (part : KeyedChain) (image : Image) (k area : ℕ) (low : Option (List ℕ))
    → LinksIn part image k area low → AreOnce (areas_after part image k area)
areas-once part image zero area low chain = absurd chain
areas-once part image (suc k) area low chain =
    by_next (record_in top).next chain.next
    (λ further bound goes. areas-once part image k further bound goes)
  where
    top : Block
    top = head_in part image area

    by_end : (end : Option (List ℕ)) → end_of top ≡ end → (further : ℕ)
        → LinksIn part image k further (end_of top)
        → Contains (areas_after part image k further) area → ⊥
    by_end None none further goes inside =
        has-end (entries_of top) chain.head.spelled.some none
    by_end (Some high) is further goes inside =
        reached-below (Some high) high (ap is_le (same_is_equal high))
        (subst (λ (end : Option (List ℕ)). is_above end high ≡ true) is
        (linked-above part image high k further (end_of top) goes area inside
        (end-above (low_of top) (entries_of top) high
        (head-ascends (area_of part area) top chain.head) is)))

    by_next : (next : Option ℕ) → IsFollowed part (LinksIn part image k) top next
        → ((further : ℕ) (bound : Option (List ℕ)) → LinksIn part image k further bound
        → AreOnce (areas_after part image k further))
        → AreOnce (area ∷ after_next [] (areas_after part image k) next)
    by_next None follows more = (λ inside. omega (arith, inside.1), tt)
    by_next (Some further) follows more =
        (by_end (end_of top) refl further follows, more further (end_of top) follows)

-- so a chain that stands has
pub chain-once : (part : KeyedChain) (image : Image) → Stands (KeyedShape part) image
    → AreOnce (areas_in part image)
chain-once part image stands =
    areas-once part image (area_count part.geometry) part.first None stands.1.chain

-- ---- splits

module _ (part : KeyedChain) (old new : Image) (area : ℕ) where
  -- each other of these areas has a head with as many entries
  abbrev pub OthersCount : List ℕ → Type 0
  OthersCount areas = (at : ℕ) → Contains areas at → (at ≡ area → ⊥)
      → interval_count part new at ≡ interval_count part old at

  rest-same : (areas : List ℕ) → (Contains areas area → ⊥) → OthersCount areas
      → intervals_over part new areas ≡ intervals_over part old areas
  rest-same areas none others = over-same part old new areas
      (λ at inside. others at inside
      (λ same. none (subst (λ (one : ℕ). Contains areas one) same inside)))

  over-grown : (n : ℕ) → interval_count part new area ≡ interval_count part old area + n
      → (areas : List ℕ) → AreOnce areas → Contains areas area → OthersCount areas
      → intervals_over part new areas ≡ intervals_over part old areas + n
  over-grown n grown [] once inside others = absurd (omega (arith, inside.1))
  over-grown n grown (one ∷ areas) once inside others =
      let rest : OthersCount areas = λ at there. others at (later one at areas there) in
      ⊎_elim
      (λ same. omega (
        arith,
        subst (λ (at : ℕ). interval_count part new at ≡ interval_count part old at + n) (sym same)
            grown,
        rest-same areas (subst (λ (at : ℕ). Contains areas at → ⊥) same once.0) rest,
      ))
      (λ there. omega (
        arith,
        others one (0, omega arith, refl)
            (λ same. once.0 (subst (λ (at : ℕ). Contains areas at) (sym same) there)),
        over-grown n grown areas once.1 there rest,
      ))
      (contains-cases one area areas inside)

  -- Where one head has so many entries more, and the others have as many as they had, the chain has
  -- so many intervals more.
  pub intervals-grown : (n : ℕ) → Stands (KeyedShape part) old
      → areas_in part new ≡ areas_in part old → Contains (areas_in part old) area
      → interval_count part new area ≡ interval_count part old area + n
      → OthersCount (areas_in part old)
      → intervals_in part new ≡ intervals_in part old + n
  intervals-grown n stands same inside grown others =
      ap (intervals_over part new) same
      ∙ over-grown n grown (areas_in part old) (chain-once part old stands) inside others

  -- So it has where a call puts into this area alone, whose head keeps its ends.
  pub intervals-changed : (n : ℕ) → Stands (KeyedShape part) old → ChangesArea part area old new
      → Contains (areas_in part old) area
      → interval_count part new area ≡ interval_count part old area + n
      → intervals_in part new ≡ intervals_in part old + n
  intervals-changed n stands changes inside grown =
      intervals-grown n stands (same-areas part area old new changes) inside grown
      (λ at there differ. ap (λ (top : Block). length (entries_of top))
      (other-blocks part area old new changes at differ (head_of part at)
      (omega arith, omega arith)))

  over-parted : (into : ℕ)
      → interval_count part new area + interval_count part new into ≡ interval_count part old area
      → (areas : List ℕ) → AreOnce areas → Contains areas area → OthersCount areas
      → intervals_over part new (with_area area into areas) ≡ intervals_over part old areas
  over-parted into parted [] once inside others = absurd (omega (arith, inside.1))
  over-parted into parted (one ∷ areas) once inside others =
      let rest : OthersCount areas = λ at there. others at (later one at areas there) in
      ⊎_elim
      (λ same.
      ap (λ (test : Bool). intervals_over part new
      (cond test (one ∷ into ∷ areas) (one ∷ with_area area into areas))) (eq-eqb one area same)
      ∙ omega (
        arith,
        subst (λ (at : ℕ). interval_count part new at + interval_count part new into
            ≡ interval_count part old at) (sym same) parted,
        rest-same areas (subst (λ (at : ℕ). Contains areas at → ⊥) same once.0) rest,
      ))
      (λ differ.
      let there : Contains areas area = ⊎_elim (λ same. absurd (differ same)) (λ is. is)
      (contains-cases one area areas inside) in
      ap (λ (test : Bool). intervals_over part new
      (cond test (one ∷ into ∷ areas) (one ∷ with_area area into areas))) (ne_eqb one area differ)
      ∙ omega (
        arith,
        others one (0, omega arith, refl) differ,
        over-parted into parted areas once.1 there rest,
      ))
      (cases_eq one area)

  -- Where the entries of one head are parted between it and that of an area which comes after it
  -- from then on, the chain has as many intervals as it had.
  pub intervals-parted : (into : ℕ) → Stands (KeyedShape part) old
      → areas_in part new ≡ with_area area into (areas_in part old)
      → Contains (areas_in part old) area
      → interval_count part new area + interval_count part new into ≡ interval_count part old area
      → OthersCount (areas_in part old)
      → intervals_in part new ≡ intervals_in part old
  intervals-parted into stands parts inside parted others =
      ap (intervals_over part new) parts
      ∙ over-parted into parted (areas_in part old) (chain-once part old stands) inside others
