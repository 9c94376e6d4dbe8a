-- What a change leaves of the addresses of an entry-sequenced data set.
use Rattle.std.proofs.Common.{◌≡◌, inl, ℕ, ◌*◌, ◌<◌, Bool, true, false, ◌==◌, List, [], ◌∷◌, ◌++◌}
use Rattle.std.proofs.Common.{Some, None, refl, sym, ap, ◌∙◌, subst, eq-eqb}
use Rattle.std.specs.Prelude.{option_map, if◌then◌else◌}
use Rattle.std.specs.Int.{w32, to_be_bytes}
use Rattle.std.specs.List.{AllByRecursion}
use Rattle.std.specs.declared.cmp.Ordering.{Ordering}
use Rattle.std.specs.declared.cmp.Ordering.TheVariants.{Less, Equal, Greater}
use Rattle.std.proofs.lemmas.Bool.{false≢true}
use Rattle.std.proofs.lemmas.List.{append-nil, map-append}
use Rattle.vr_types.specs.Content.{Ascends, Content, Item, Placed, found_by, item_at, place_cmp, places_of}
use Rattle.vr_types.specs.Content.{with_item, without_item}
use Rattle.vr_types.specs.Geometry.{IsAllowed, area_count}
use Rattle.vr_types.specs.declared.geometry.Geometry.{Geometry}
use Rattle.vr_history.specs.Address.{last_interval, length_of, next_address}
use Rattle.vr_history.specs.Addresses.{AreAddressed, AllFollow, AreOwned, Follows}
use Rattle.vr_history.specs.Change.{Change}
use Rattle.vr_history.specs.Effects.{placed_in, with_change}
use Rattle.vr_history.specs.State.{BeforeImage, State}
use Rattle.vr_history.proofs.AddressNumbers.{number_back}
use Rattle.vr_history.proofs.Laying.{AreLaid, LiesPast, laid_all, lies_past, follow_append, none_laid}
use Rattle.vr_history.proofs.Outlines.{addressed_outline, length_at, outline, outline_addressed}
use Rattle.vr_history.proofs.Outlines.{one_outline, outline_lengths, outline_places, outline_put}
use Rattle.vr_history.proofs.Outlines.{out_none}
use Rattle.vr_history.proofs.Outlines.{put_last}
use Rattle.vr_history.proofs.Same.{nat_same}

-- from one content to another, with some addresses more: no place goes, and no item changes length
pub record Moves (geometry : Geometry) (content new : Content) (addresses : List (List ℕ)) :
    Type 0 where
  pub places : places_of new ≡ places_of content ++ addresses
  pub addressed : AreAddressed geometry new
  pub lengths : (place : List ℕ) (n : ℕ) → length_at content place ≡ Some n
      → length_at new place ≡ Some n

-- a content whose items are in order is laid
pub addressed_laid : (geometry : Geometry) (content : Content) → IsAllowed geometry
    → AreAddressed geometry content → AreLaid geometry content
addressed_laid geometry content allowed addressed =
    laid_all geometry [] content allowed (none_laid geometry) addressed

pub stays_moves : (geometry : Geometry) (content new : Content) → AreAddressed geometry content
    → outline new ≡ outline content → Moves geometry content new []
stays_moves geometry content new addressed same = record {
  places = sym (outline_places new) ∙ (ap places_of same ∙ (outline_places content
      ∙ sym (append-nil (places_of content))));
  addressed = outline_addressed geometry [] new
      (subst (AllFollow geometry []) (sym same) (addressed_outline geometry [] content addressed));
  lengths = λ place n is. sym (outline_lengths new place)
      ∙ (ap (λ (c : Content). length_at c place) same ∙ (outline_lengths content place ∙ is));
}

-- items of the same lengths at the same places are in order too
pub lengths_addressed : (geometry : Geometry) (content new : Content)
    → Ascends content → Ascends new
    → ((place : List ℕ) → length_at new place ≡ length_at content place)
    → AreAddressed geometry content → AreAddressed geometry new
lengths_addressed geometry content new ascends ascends' same addressed =
    (stays_moves geometry content new addressed
    (one_outline new content ascends' ascends same)).addressed

pub same_moves : (geometry : Geometry) (content : Content) → AreAddressed geometry content
    → Moves geometry content content []
same_moves geometry content addressed = stays_moves geometry content content addressed refl

-- an item of its old length
pub put_moves : (geometry : Geometry) (content : Content) (place : List ℕ) (item : Item)
    → IsAllowed geometry → AreAddressed geometry content
    → length_at content place ≡ Some (length_of item)
    → Moves geometry content (with_item content place item) []
put_moves geometry content place item allowed addressed same =
    stays_moves geometry content (with_item content place item) addressed
    (outline_put place item content (addressed_laid geometry content allowed addressed).ascends
    same)

-- nothing, where nothing stands
pub out_moves : (geometry : Geometry) (content : Content) (place : List ℕ)
    → AreAddressed geometry content → item_at content place ≡ None
    → Moves geometry content (without_item content place) []
out_moves geometry content place addressed none =
    stays_moves geometry content (without_item content place) addressed
    (ap outline (out_none place content none))

-- a new item at the next address
length_append : (content : Content) (last : Placed) (place : List ℕ) (n : ℕ)
    → length_at content place ≡ Some n → length_at (content ++ last ∷ []) place ≡ Some n
length_append [] last place n is = absurd cc
length_append (placed ∷ content) last place n is =
    by_order (place_cmp place placed.0) is (length_append content last place n)
  where
    by_order : (order : Ordering)
        → option_map length_of (found_by order (Some placed.1) (item_at content place)) ≡ Some n
        → (length_at content place ≡ Some n → length_at (content ++ last ∷ []) place ≡ Some n)
        → option_map length_of
        (found_by order (Some placed.1) (item_at (content ++ last ∷ []) place)) ≡ Some n
    by_order Less is further = further is
    by_order Equal is further = is
    by_order Greater is further = further is

pub add_moves : (geometry : Geometry) (content : Content) (item : Item) → IsAllowed geometry
    → AreAddressed geometry content → 0 < length_of item
    → let n : ℕ = next_address geometry.size content (length_of item) in
    last_interval geometry.size n (length_of item) < area_count geometry * geometry.area
    → Moves geometry content (with_item content (to_be_bytes w32 n) item) (to_be_bytes w32 n ∷ [])
add_moves geometry content item allowed addressed some within =
    let new : Placed = (place, item) in
    let last : with_item content place item ≡ content ++ new ∷ [] =
    put_last place item content past.past in
    let follows : Follows geometry content new =
    record {
      at = inl refl;
      ends =
          subst (λ m. last_interval geometry.size m (length_of item) < area_count geometry
          * geometry.area) (sym (number_back n past.fits)) within;
      some = some;
    } in
    record {
      places = ap places_of last ∙ map-append (λ (placed : Placed). placed.0) content (new ∷ []);
      addressed = subst (AreAddressed geometry) (sym last)
          (follow_append geometry [] content new addressed follows);
      lengths = λ at m is. ap (λ (c : Content). length_at c at) last
          ∙ length_append content new at m is;
    }
  where
    n : ℕ
    n = next_address geometry.size content (length_of item)

    place : List ℕ
    place = to_be_bytes w32 n

    past : LiesPast geometry content (length_of item) n
    past = lies_past geometry content (length_of item) allowed
        (addressed_laid geometry content allowed addressed) some

-- a change of this part or of another
pub change_moves : (geometry : Geometry) (part : ℕ) (contents : ℕ → Content) (change : Change)
    (addresses : List (List ℕ)) → AreAddressed geometry (contents part)
    → (part ≡ change.part
    → Moves geometry (contents part) (placed_in change.place change.new (contents part)) addresses)
    → ((part ≡ change.part → ⊥) → addresses ≡ [])
    → Moves geometry (contents part) (with_change change contents part) addresses
change_moves geometry part contents change addresses addressed here elsewhere =
    by_test (part == change.part) refl
  where
    apart : (part == change.part) ≡ false → part ≡ change.part → ⊥
    apart other same = false≢true (sym other ∙ eq-eqb part change.part same)

    by_test : (test : Bool) → (part == change.part) ≡ test
        → Moves geometry (contents part)
        (if test then placed_in change.place change.new (contents part) else contents part)
        addresses
    by_test true is = here (nat_same part change.part is)
    by_test false is =
        subst (Moves geometry (contents part) (contents part)) (sym (elsewhere (apart is)))
        (same_moves geometry (contents part) addressed)

-- what a before-image of the part keeps has the length of what stands in its place
abbrev pub KeepsLength : ℕ → Content → BeforeImage → Type 0
KeepsLength part content kept = kept.part ≡ part → (old : Item) → kept.old ≡ Some old
    → length_at content kept.place ≡ Some (length_of old)

pub images_stay : (geometry : Geometry) (part : ℕ) (content new : Content)
    (addresses : List (List ℕ)) → Moves geometry content new addresses
    → (befores : List BeforeImage) → AllByRecursion (KeepsLength part content) befores
    → AllByRecursion (KeepsLength part new) befores
images_stay geometry part content new addresses moves [] keep = tt
images_stay geometry part content new addresses moves (kept ∷ befores) keep = (
  λ same old is. moves.lengths kept.place (length_of old) (keep.0 same old is),
  images_stay geometry part content new addresses moves befores keep.1,
)

-- what is kept of a state
pub record Holds (geometry : Geometry) (part : ℕ) (state : State) : Type 0 where
  pub addressed : AreAddressed geometry (state.contents part)
  pub images : AllByRecursion (KeepsLength part (state.contents part)) state.befores
  pub areas : AreOwned geometry state.owned

-- from the content of a state to the next state, with the addresses that the entry gave
pub record Enters (geometry : Geometry) (part : ℕ) (content : Content) (new : State)
    (addresses : List (List ℕ)) : Type 0 where
  pub places : places_of (new.contents part) ≡ places_of content ++ addresses
  pub holds : Holds geometry part new

pub moves_enters : (geometry : Geometry) (part : ℕ) (content : Content) (new : State)
    (addresses : List (List ℕ))
    → Moves geometry content (new.contents part) addresses
    → AllByRecursion (KeepsLength part (new.contents part)) new.befores
    → AreOwned geometry new.owned → Enters geometry part content new addresses
moves_enters geometry part content new addresses moves images areas = record {
  places = moves.places;
  holds = record { addressed = moves.addressed; images = images; areas = areas };
}
