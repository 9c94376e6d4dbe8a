-- The chain of areas that an image has: which of them a place comes to, and the content of all.
use Rattle.std.proofs.Common.{◌≡◌, ◌⊎◌, inl, inr, ⊎_elim, ℕ, zero, suc, ◌<◌, Bool, true, false}
use Rattle.std.proofs.Common.{List, [], ◌∷◌, ◌++◌, Option, Some, None, arith, refl, sym, ap}
use Rattle.std.proofs.Common.{subst, ◌∙◌, true≢false}
use Rattle.std.specs.Prelude.{Contains, IfSome, cond}
use Rattle.vr_types.specs.Content.{Content, Item, item_at}
use Rattle.vr_types.specs.Geometry.{area_count}
use Rattle.vr_types.specs.Image.{Block, Image}
use Rattle.vr_seqset.specs.Reading.{record_in}
use Rattle.vr_space.specs.AreaCalls.{item_here}
use Rattle.vr_space.specs.Keyed.{KeyedStandsFor, entries_of, low_of, way_under}
use Rattle.vr_space.specs.Areas.{ChainStandsFor, EachAfter, IsFollowed, KeyedChain}
use Rattle.vr_space.specs.Areas.{LinksIn, area_after, area_of, areas_after, areas_way}
use Rattle.vr_space.specs.Areas.{content_after}
use Rattle.vr_space.specs.Areas.{content_in, end_of, head_in, is_upto, reaches}
use Rattle.vr_space.specs.Room.{is_above}
use Rattle.vr_space.specs.Rosters.{IsOf, after_next}
use Rattle.vr_space.specs.Way.{Found, found_on}
use Rattle.vr_space.proofs.AreaEnds.{all-past, none-past, past-above, past-low}
use Rattle.vr_space.proofs.AreaEnds.{reached-below}
use Rattle.vr_space.proofs.KeyedContent.{area-content, content-above}
use Rattle.vr_space.proofs.KeyedSound.{head-ascends}
use Rattle.vr_space.proofs.Links.{area-each}
use Rattle.vr_space.proofs.Places.{AllAbove, NoneAt, above-append, none-above}
use Rattle.vr_space.proofs.Places.{record-left, record-right}

-- an element of a list is its first, or one of the others
pub contains-cases : (first other : ℕ) (rest : List ℕ) → Contains (first ∷ rest) other
    → (first ≡ other) ⊎ Contains rest other
contains-cases first other rest (zero, below, is) = inl is
contains-cases first other rest (suc i, below, is) = inr (i, omega (arith, below), is)

-- ---- each area of the chain

-- each is there and in order
pub record IsLinkedArea (part : KeyedChain) (image : Image) (area : ℕ) : Type 0 where
  pub there : area < area_count part.geometry
  pub stands : KeyedStandsFor (area_of part area) image (content_in part image area)

pub linked-here : (part : KeyedChain) (image : Image) (k area : ℕ) (low : Option (List ℕ))
    → LinksIn part image (suc k) area low → IsLinkedArea part image area
linked-here part image k area low chain = record {
  there = chain.there;
  stands = record { head = chain.head; intervals = chain.intervals; records = refl };
}

-- the ranges of the one that the chain goes on from begin at the low place
pub linked-low : (part : KeyedChain) (image : Image) (k area : ℕ) (low : Option (List ℕ))
    → LinksIn part image k area low → low_of (head_in part image area) ≡ low
linked-low part image zero area low chain = absurd chain
linked-low part image (suc k) area low chain = chain.begins

pub links-in-each : (part : KeyedChain) (image : Image) (k area : ℕ) (low : Option (List ℕ))
    → LinksIn part image k area low
    → EachAfter part (IsLinkedArea part image) (IsOf image) k area
links-in-each part image zero area low chain = absurd chain
links-in-each part image (suc k) area low chain = (
  linked-here part image k area low chain,
  λ top is. subst (λ (one : Block). IfSome (record_in one).next Each)
      (sym is)
      (by_next (record_in (head_in part image area)).next chain.next
      (λ further bound goes. links-in-each part image k further bound goes)),
)
  where
    Each : ℕ → Type 0
    Each = EachAfter part (IsLinkedArea part image) (IsOf image) k

    by_next : (next : Option ℕ)
        → IsFollowed part (LinksIn part image k) (head_in part image area) next
        → ((further : ℕ) (bound : Option (List ℕ)) → LinksIn part image k further bound
        → Each further)
        → IfSome next Each
    by_next None is more = tt
    by_next (Some further) is more = more further (end_of (head_in part image area)) is

-- so each of its areas stands for its records
pub links-in-area : (part : KeyedChain) (image : Image) (k area : ℕ) (low : Option (List ℕ))
    → LinksIn part image k area low → (at : ℕ) → Contains (areas_after part image k area) at
    → IsLinkedArea part image at
links-in-area part image k area low chain at = area-each part (IsLinkedArea part image) image k
    area at (links-in-each part image k area low chain)

-- ---- which area a place comes to

-- what is above the low place of an area is above that of the chain up to it
pub linked-above : (part : KeyedChain) (image : Image) (place : List ℕ) (k area : ℕ)
    (low : Option (List ℕ)) → LinksIn part image k area low → (at : ℕ)
    → Contains (areas_after part image k area) at
    → is_above (low_of (head_in part image at)) place ≡ true → is_above low place ≡ true
linked-above part image place zero area low chain at there above = absurd chain
linked-above part image place (suc k) area low chain at there above =
    subst (λ (bound : Option (List ℕ)). is_above bound place ≡ true) chain.begins
    (⊎_elim
    (λ same. subst (λ (one : ℕ). is_above (low_of (head_in part image one)) place ≡ true)
    (sym same) above)
    (λ later. past-low (area_of part area) (head_in part image area) chain.head place
    (by_next (record_in (head_in part image area)).next chain.next later
    (λ further bound goes inside. linked-above part image place k further bound goes at inside
    above)))
    (contains-cases area at (after_next [] (areas_after part image k)
    (record_in (head_in part image area)).next) there))
  where
    by_next : (next : Option ℕ)
        → IsFollowed part (LinksIn part image k) (head_in part image area) next
        → Contains (after_next [] (areas_after part image k) next) at
        → ((further : ℕ) (bound : Option (List ℕ)) → LinksIn part image k further bound
        → Contains (areas_after part image k further) at → is_above bound place ≡ true)
        → is_above (end_of (head_in part image area)) place ≡ true
    by_next None is inside more = absurd (omega (arith, inside.1))
    by_next (Some further) is inside more =
        more further (end_of (head_in part image area)) is inside

-- A place above the low place of an area, and up to its end, comes to it.
pub area-reached : (part : KeyedChain) (image : Image) (place : List ℕ) (k area : ℕ)
    (low : Option (List ℕ)) → LinksIn part image k area low → (at : ℕ)
    → Contains (areas_after part image k area) at
    → is_above (low_of (head_in part image at)) place ≡ true
    → reaches (head_in part image at) place ≡ true
    → area_after part image place k area ≡ Some at
area-reached part image place zero area low chain at there above upto = absurd chain
area-reached part image place (suc k) area low chain at there above upto =
    ⊎_elim
    (λ same. subst (λ (one : ℕ). area_after part image place (suc k) area ≡ Some one) same
    (ap (λ (test : Bool). cond test (Some area)
    (after_next None (area_after part image place k) (record_in top).next))
    (subst (λ (one : ℕ). reaches (head_in part image one) place ≡ true) (sym same) upto)))
    (λ later. by_next (record_in top).next chain.next later
    (λ further bound goes inside. linked-above part image place k further bound goes at inside
    above)
    (λ further bound goes inside. area-reached part image place k further bound goes at inside
    above upto)
    (reaches top place) refl)
    (contains-cases area at (after_next [] (areas_after part image k) (record_in top).next) there)
  where
    top : Block
    top = head_in part image area

    by_next : (next : Option ℕ) → IsFollowed part (LinksIn part image k) top next
        → Contains (after_next [] (areas_after part image k) next) at
        → ((further : ℕ) (bound : Option (List ℕ)) → LinksIn part image k further bound
        → Contains (areas_after part image k further) at → is_above bound place ≡ true)
        → ((further : ℕ) (bound : Option (List ℕ)) → LinksIn part image k further bound
        → Contains (areas_after part image k further) at
        → area_after part image place k further ≡ Some at)
        → (test : Bool) → reaches top place ≡ test
        → cond test (Some area) (after_next None (area_after part image place k) next) ≡ Some at
    by_next None is inside past more test tested = absurd (omega (arith, inside.1))
    by_next (Some further) is inside past more true tested =
        absurd (reached-below (end_of top) place tested (past further (end_of top) is inside))
    by_next (Some further) is inside past more false tested = more further (end_of top) is inside

-- The area that a place comes to is one of the chain's, and its ranges reach the place.
pub record IsAreaFor (part : KeyedChain) (image : Image) (place : List ℕ) (areas : List ℕ)
    (at : ℕ) : Type 0 where
  pub inside : Contains areas at
  pub above : is_above (low_of (head_in part image at)) place ≡ true
  pub upto : reaches (head_in part image at) place ≡ true

contains-more : (first other : ℕ) (rest : List ℕ) → Contains rest other
    → Contains (first ∷ rest) other
contains-more first other rest (i, below, is) = (suc i, omega (arith, below), is)

some-area : (one other : ℕ) → Some one ≡ Some other → one ≡ other
some-area one other same = cc

none-area : (one : ℕ) → None ≡ Some one → ⊥
none-area one same = cc

pub area-found : (part : KeyedChain) (image : Image) (place : List ℕ) (k area : ℕ)
    (low : Option (List ℕ)) → LinksIn part image k area low → is_above low place ≡ true
    → (at : ℕ) → area_after part image place k area ≡ Some at
    → IsAreaFor part image place (areas_after part image k area) at
area-found part image place zero area low chain above at is = absurd chain
area-found part image place (suc k) area low chain above at is =
    by_test (reaches top place) refl (record_in top).next is chain.next
    (λ further bound goes past found. area-found part image place k further bound goes past at
    found)
  where
    top : Block
    top = head_in part image area

    by_test : (test : Bool) → reaches top place ≡ test → (next : Option ℕ)
        → cond test (Some area) (after_next None (area_after part image place k) next) ≡ Some at
        → IsFollowed part (LinksIn part image k) top next
        → ((further : ℕ) (bound : Option (List ℕ)) → LinksIn part image k further bound
        → is_above bound place ≡ true → area_after part image place k further ≡ Some at
        → IsAreaFor part image place (areas_after part image k further) at)
        → IsAreaFor part image place (area ∷ after_next [] (areas_after part image k) next) at
    by_test true upto next found follows more =
        let rest : List ℕ = after_next [] (areas_after part image k) next in
        subst (IsAreaFor part image place (area ∷ rest)) (some-area area at found) (record {
          inside = (0, omega arith, refl);
          above = subst (λ (bound : Option (List ℕ)). is_above bound place ≡ true)
              (sym chain.begins) above;
          upto = upto;
        })
    by_test false past None found follows more = absurd (none-area at found)
    by_test false past (Some further) found follows more =
        let later = more further (end_of top) follows (past-above (end_of top) place past) found in
        record {
          inside = contains-more area at (areas_after part image k further) later.inside;
          above = later.above;
          upto = later.upto;
        }

-- ---- what is at a place

-- the item at the place of the area that it comes to
abbrev pub item_by : KeyedChain → Image → List ℕ → Option ℕ → Option Item
item_by part image place None = None
item_by part image place (Some area) = item_here (area_of part area) image place

-- the way over the chain leads to that
pub found-area : (part : KeyedChain) (image : Image) (place : List ℕ) (k area : ℕ)
    → found_on image (areas_way part place k area)
    ≡ item_by part image place (area_after part image place k area)
found-area part image place zero area = refl
found-area part image place (suc k) area =
    by_test (reaches (head_in part image area) place) (record_in (head_in part image area)).next
    (λ further. found-area part image place k further)
  where
    by_test : (test : Bool) (next : Option ℕ)
        → ((further : ℕ) → found_on image (areas_way part place k further)
        ≡ item_by part image place (area_after part image place k further))
        → found_on image (cond test (way_under (area_of part area) place (head_in part image area))
        (after_next (Found None) (areas_way part place k) next))
        ≡ item_by part image place
        (cond test (Some area) (after_next None (area_after part image place k) next))
    by_test true next more = refl
    by_test false None more = refl
    by_test false (Some further) more = more further

-- ---- the content of the chain

-- its places are above the low place
pub linked-content-above : (part : KeyedChain) (image : Image) (k area : ℕ)
    (low : Option (List ℕ)) → LinksIn part image k area low
    → AllAbove low (content_after part image k area)
linked-content-above part image zero area low chain = absurd chain
linked-content-above part image (suc k) area low chain =
    subst (λ (bound : Option (List ℕ)). AllAbove bound (content_after part image (suc k) area))
    chain.begins
    (above-append (low_of top) (content_in part image area)
    (after_next [] (content_after part image k) (record_in top).next)
    (content-above (area_of part area) image (low_of top) (entries_of top)
    (head-ascends (area_of part area) top chain.head))
    (all-past (area_of part area) top chain.head
    (after_next [] (content_after part image k) (record_in top).next)
    (by_next (record_in top).next chain.next
    (λ further bound goes. linked-content-above part image k further bound goes))))
  where
    top : Block
    top = head_in part image area

    by_next : (next : Option ℕ) → IsFollowed part (LinksIn part image k) top next
        → ((further : ℕ) (bound : Option (List ℕ)) → LinksIn part image k further bound
        → AllAbove bound (content_after part image k further))
        → AllAbove (end_of top) (after_next [] (content_after part image k) next)
    by_next None follows more = tt
    by_next (Some further) follows more = more further (end_of top) follows

none-upto : (end : Option (List ℕ)) (place : List ℕ) (xs : Content)
    → is_upto end place ≡ true → AllAbove end xs → NoneAt place xs
none-upto None place xs upto above = absurd (true≢false (sym upto))
none-upto (Some high) place xs upto above = none-above high place xs upto above

-- At a place above the low one it has the item that the way over the chain leads to.
pub linked-content : (part : KeyedChain) (image : Image) (place : List ℕ) (k area : ℕ)
    (low : Option (List ℕ)) → LinksIn part image k area low → is_above low place ≡ true
    → item_at (content_after part image k area) place
    ≡ found_on image (areas_way part place k area)
linked-content part image place zero area low chain above = absurd chain
linked-content part image place (suc k) area low chain above =
    by_test (reaches top place) refl (record_in top).next chain.next
    (λ further bound goes. linked-content-above part image k further bound goes)
    (λ further bound goes past. linked-content part image place k further bound goes past)
  where
    top : Block
    top = head_in part image area

    first : Content
    first = content_in part image area

    by_test : (test : Bool) → reaches top place ≡ test → (next : Option ℕ)
        → IsFollowed part (LinksIn part image k) top next
        → ((further : ℕ) (bound : Option (List ℕ)) → LinksIn part image k further bound
        → AllAbove bound (content_after part image k further))
        → ((further : ℕ) (bound : Option (List ℕ)) → LinksIn part image k further bound
        → is_above bound place ≡ true
        → item_at (content_after part image k further) place
        ≡ found_on image (areas_way part place k further))
        → item_at (first ++ after_next [] (content_after part image k) next) place
        ≡ found_on image (cond test (way_under (area_of part area) place top)
        (after_next (Found None) (areas_way part place k) next))
    by_test true upto None follows rise more =
        record-left first [] place tt
        ∙ area-content (area_of part area) image (low_of top) (entries_of top) place
        (head-ascends (area_of part area) top chain.head)
    by_test true upto (Some further) follows rise more =
        record-left first (content_after part image k further) place
        (none-upto (end_of top) place (content_after part image k further) upto
        (rise further (end_of top) follows))
        ∙ area-content (area_of part area) image (low_of top) (entries_of top) place
        (head-ascends (area_of part area) top chain.head)
    by_test false past next follows rise more =
        record-right first (after_next [] (content_after part image k) next) place
        (none-past (area_of part area) image (low_of top) (entries_of top) place
        (head-ascends (area_of part area) top chain.head) (past-above (end_of top) place past))
        ∙ by_next next follows more
      where
        by_next : (other : Option ℕ) → IsFollowed part (LinksIn part image k) top other
            → ((further : ℕ) (bound : Option (List ℕ)) → LinksIn part image k further bound
            → is_above bound place ≡ true
            → item_at (content_after part image k further) place
            ≡ found_on image (areas_way part place k further))
            → item_at (after_next [] (content_after part image k) other) place
            ≡ found_on image (after_next (Found None) (areas_way part place k) other)
        by_next None goes later = refl
        by_next (Some further) goes later =
            later further (end_of top) goes (past-above (end_of top) place past)

-- So has what the blocks stand for at each place.
pub chain-item : (part : KeyedChain) (image : Image) (content : Content)
    → ChainStandsFor part image content → (place : List ℕ)
    → item_at content place
    ≡ found_on image (areas_way part place (area_count part.geometry) part.first)
chain-item part image content stands place =
    ap (λ (c : Content). item_at c place) stands.records
    ∙ linked-content part image place (area_count part.geometry) part.first None stands.chain refl

-- What is true of no item, and of two contents one after the other where it is of both, is true of
-- the content of a chain where it is of that of each area.
pub content-each : (Q : Content → Type 0) → Q []
    → ((xs ys : Content) → Q xs → Q ys → Q (xs ++ ys)) → (part : KeyedChain) (image : Image)
    → ((at : ℕ) → IsLinkedArea part image at → Q (content_in part image at)) → (k area : ℕ)
    (low : Option (List ℕ)) → LinksIn part image k area low → Q (content_after part image k area)
content-each Q none both part image each zero area low chain = none
content-each Q none both part image each (suc k) area low chain =
    both (content_in part image area)
    (after_next [] (content_after part image k) (record_in (head_in part image area)).next)
    (each area (linked-here part image k area low chain))
    (by_next (record_in (head_in part image area)).next chain.next
    (λ further bound goes. content-each Q none both part image each k further bound goes))
  where
    by_next : (next : Option ℕ)
        → IsFollowed part (LinksIn part image k) (head_in part image area) next
        → ((further : ℕ) (bound : Option (List ℕ)) → LinksIn part image k further bound
        → Q (content_after part image k further))
        → Q (after_next [] (content_after part image k) next)
    by_next None follows more = none
    by_next (Some further) follows more =
        more further (end_of (head_in part image area)) follows
