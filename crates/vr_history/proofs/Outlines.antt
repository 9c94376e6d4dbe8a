-- What the addresses of a content rest on: the places and the lengths of its items.
use Rattle.std.proofs.Common.{◌≡◌, ◌⊎◌, inl, inr, ℕ, ◌+◌, ◌-◌, ◌*◌, ◌&&◌, Bool, true, false, cond, not, List, []}
use Rattle.std.proofs.Common.{◌∷◌, ◌++◌}
use Rattle.std.proofs.Common.{map, filter, sum, bytes_eq, Some, None, refl, sym, ap, ◌∙◌, subst}
use Rattle.std.specs.Prelude.{Option, nat_le, option_map}
use Rattle.std.specs.Int.{w32, to_be_bytes}
use Rattle.std.specs.List.{AllByRecursion}
use Rattle.std.specs.List.Sorted.{IsStrictlySortedBy}
use Rattle.std.specs.Ordering.{ordering_reverse}
use Rattle.std.specs.declared.cmp.Ordering.{Ordering}
use Rattle.std.specs.declared.cmp.Ordering.TheVariants.{Less, Equal, Greater}
use Rattle.std.proofs.lemmas.Cmp.{nat_list_cmp_total}
use Rattle.std.proofs.lemmas.List.{map-append}
use Rattle.std.proofs.lemmas.List.Sums.{sum_by-cons}
use Rattle.std.proofs.lemmas.Map.Keys.{sorted_head, sorted_tail}
use Rattle.vr_types.specs.Content.{Ascends, Content, Item, Placed, Withdrawn, found_by, item_at}
use Rattle.vr_types.specs.Content.{place_cmp, places_of, put_by, with_item, without_item}
use Rattle.vr_types.specs.declared.geometry.Geometry.{Geometry}
use Rattle.vr_history.specs.Address.{begins_in, is_spanned, last_interval, last_item, length_of}
use Rattle.vr_history.specs.Address.{lengths_taken, next_address, next_after, number_of, room_taken}
use Rattle.vr_history.specs.Addresses.{AllFollow, BeginsLater, IsLater}
use Rattle.vr_altkey.proofs.CallerLemmas.{all_below, equal_places, item_first, none_below}
use Rattle.vr_altkey.proofs.CallerLemmas.{same_items}

-- each item with its length alone
abbrev pub outlined : Placed → Placed
outlined placed = (placed.0, Withdrawn (length_of placed.1))

abbrev pub outline : Content → Content
outline content = map outlined content

abbrev pub length_at : Content → List ℕ → Option ℕ
length_at content place = option_map length_of (item_at content place)

pub outline_places : (content : Content) → places_of (outline content) ≡ places_of content
outline_places [] = refl
outline_places (placed ∷ content) =
    ap (λ (places : List (List ℕ)). placed.0 ∷ places) (outline_places content)

pub outline_lengths : (content : Content) (place : List ℕ)
    → length_at (outline content) place ≡ length_at content place
outline_lengths [] place = refl
outline_lengths (placed ∷ content) place =
    by_order (place_cmp place placed.0) (outline_lengths content place)
  where
    by_order : (order : Ordering) → length_at (outline content) place ≡ length_at content place
        → option_map length_of
        (found_by order (Some (Withdrawn (length_of placed.1))) (item_at (outline content) place)) ≡
        option_map length_of (found_by order (Some placed.1) (item_at content place))
    by_order Less further = further
    by_order Equal further = refl
    by_order Greater further = further

pub outline_ascends : (content : Content) → Ascends content → Ascends (outline content)
outline_ascends content ascends =
    subst (IsStrictlySortedBy place_cmp) (sym (outline_places content)) ascends

outline_item : (content : Content) (place : List ℕ)
    → item_at (outline content) place ≡ option_map Withdrawn (length_at content place)
outline_item [] place = refl
outline_item (placed ∷ content) place =
    by_order (place_cmp place placed.0) (outline_item content place)
  where
    by_order : (order : Ordering)
        → item_at (outline content) place ≡ option_map Withdrawn (length_at content place)
        → found_by order (Some (Withdrawn (length_of placed.1))) (item_at (outline content) place) ≡
        option_map Withdrawn
        (option_map length_of (found_by order (Some placed.1) (item_at content place)))
    by_order Less further = further
    by_order Equal further = refl
    by_order Greater further = further

-- contents that ascend with items of the same lengths at each place have one outline
pub one_outline : (content other : Content) → Ascends content → Ascends other
    → ((place : List ℕ) → length_at content place ≡ length_at other place)
    → outline content ≡ outline other
one_outline content other ascends ascends' same =
    same_items (outline content) (outline other) (outline_ascends content ascends)
    (outline_ascends other ascends')
    (λ place. outline_item content place
    ∙ (ap (option_map Withdrawn) (same place) ∙ sym (outline_item other place)))

-- the next address is that of the outline
last_outlined : (content : Content) → last_item (outline content) ≡ option_map outlined
    (last_item content)
last_outlined [] = refl
last_outlined (placed ∷ []) = refl
last_outlined (placed ∷ next ∷ rest) = last_outlined (next ∷ rest)

rooms_outlined : (size interval more : ℕ) (content : Content)
    → sum (map (λ (placed : Placed). length_of placed.1 + more)
    (filter (begins_in size interval) (outline content))) ≡ sum
    (map (λ (placed : Placed). length_of placed.1 + more)
    (filter (begins_in size interval) content))
rooms_outlined size interval more [] = refl
rooms_outlined size interval more (placed ∷ content) =
    by_test (begins_in size interval placed) (rooms_outlined size interval more content)
  where
    by_test : (test : Bool)
        → sum (map (λ (item : Placed). length_of item.1 + more)
        (filter (begins_in size interval) (outline content))) ≡ sum
        (map (λ (item : Placed). length_of item.1 + more)
        (filter (begins_in size interval) content))
        → sum (map (λ (item : Placed). length_of item.1 + more)
        (cond test (outlined placed ∷ filter (begins_in size interval) (outline content))
        (filter (begins_in size interval) (outline content)))) ≡ sum
        (map (λ (item : Placed). length_of item.1 + more)
        (cond test (placed ∷ filter (begins_in size interval) content)
        (filter (begins_in size interval) content)))
    by_test true further =
        sum_by-cons (λ (n : ℕ). n) (length_of placed.1 + more)
        (map (λ (item : Placed). length_of item.1 + more)
        (filter (begins_in size interval) (outline content)))
        ∙ (ap (λ n. (length_of placed.1 + more) + n) further
        ∙ sym (sum_by-cons (λ (n : ℕ). n) (length_of placed.1 + more)
        (map (λ (item : Placed). length_of item.1 + more)
        (filter (begins_in size interval) content))))
    by_test false further = further

lengths_outlined : (size interval : ℕ) (content : Content)
    → lengths_taken size interval (outline content) ≡ lengths_taken size interval content
lengths_outlined size interval [] = refl
lengths_outlined size interval (placed ∷ content) =
    by_test (begins_in size interval placed) (lengths_outlined size interval content)
  where
    by_test : (test : Bool)
        → lengths_taken size interval (outline content) ≡ lengths_taken size interval content
        → sum (map (λ (item : Placed). length_of item.1)
        (cond test (outlined placed ∷ filter (begins_in size interval) (outline content))
        (filter (begins_in size interval) (outline content)))) ≡ sum
        (map (λ (item : Placed). length_of item.1)
        (cond test (placed ∷ filter (begins_in size interval) content)
        (filter (begins_in size interval) content)))
    by_test true further =
        sum_by-cons (λ (n : ℕ). n) (length_of placed.1)
        (map (λ (item : Placed). length_of item.1)
        (filter (begins_in size interval) (outline content)))
        ∙ (ap (λ n. length_of placed.1 + n) further
        ∙ sym (sum_by-cons (λ (n : ℕ). n) (length_of placed.1)
        (map (λ (item : Placed). length_of item.1)
        (filter (begins_in size interval) content))))
    by_test false further = further

after_outlined : (size : ℕ) (content : Content) (new : ℕ) (last : Option Placed)
    → next_after size (outline content) new (option_map outlined last) ≡ next_after size content new
    last
after_outlined size content new None = refl
after_outlined size content new (Some last) =
    let interval : ℕ = last_interval size (number_of last.0) (length_of last.1) in
    ap (λ n. after last interval n (lengths_taken size interval (outline content)))
    (rooms_outlined size interval 3 content)
    ∙ ap (after last interval (room_taken size interval content))
    (lengths_outlined size interval content)
  where
    after : Placed → ℕ → ℕ → ℕ → ℕ
    after placed interval room lengths =
        cond (cond (is_spanned size (length_of placed.1)) false true
        && (cond (is_spanned size new) false true && nat_le (room + new + 3) (size - 4)))
        (interval * size + lengths) ((interval + 1) * size)

next_outlined : (size : ℕ) (content : Content) (new : ℕ)
    → next_address size (outline content) new ≡ next_address size content new
next_outlined size content new =
    ap (next_after size (outline content) new) (last_outlined content)
    ∙ after_outlined size content new (last_item content)

-- an item follows those before it where it follows their outlines
later_outline : (size interval : ℕ) (last : Option Placed) → IsLater size last interval
    → IsLater size (option_map outlined last) interval
later_outline size interval None later = later
later_outline size interval (Some last) later = later

outline_later : (size interval : ℕ) (last : Option Placed)
    → IsLater size (option_map outlined last) interval → IsLater size last interval
outline_later size interval None later = later
outline_later size interval (Some last) later = later

-- the place of an item of this length after those before it
abbrev FollowsAt : Geometry → Content → ℕ → List ℕ → Type 0
FollowsAt geometry before new place = (place ≡ to_be_bytes w32
    (next_address geometry.size before new)) ⊎ BeginsLater geometry before place

at_outline : (geometry : Geometry) (before : Content) (new : ℕ) (place : List ℕ)
    → FollowsAt geometry before new place → FollowsAt geometry (outline before) new place
at_outline geometry before new place (inl next) =
    inl (next ∙ ap (to_be_bytes w32) (sym (next_outlined geometry.size before new)))
at_outline geometry before new place (inr begins) = inr (record {
  interval = begins.interval;
  within = begins.within;
  later = subst (λ (last : Option Placed). IsLater geometry.size last begins.interval)
      (sym (last_outlined before))
      (later_outline geometry.size begins.interval (last_item before) begins.later);
  at = begins.at;
})

outline_at : (geometry : Geometry) (before : Content) (new : ℕ) (place : List ℕ)
    → FollowsAt geometry (outline before) new place → FollowsAt geometry before new place
outline_at geometry before new place (inl next) =
    inl (next ∙ ap (to_be_bytes w32) (next_outlined geometry.size before new))
outline_at geometry before new place (inr begins) = inr (record {
  interval = begins.interval;
  within = begins.within;
  later = outline_later geometry.size begins.interval (last_item before)
      (subst (λ (last : Option Placed). IsLater geometry.size last begins.interval)
      (last_outlined before) begins.later);
  at = begins.at;
})

pub addressed_outline : (geometry : Geometry) (before content : Content)
    → AllFollow geometry before content → AllFollow geometry (outline before) (outline content)
addressed_outline geometry before [] follow = tt
addressed_outline geometry before (placed ∷ content) follow = (
  record {
    at = at_outline geometry before (length_of placed.1) placed.0 follow.0.at;
    ends = follow.0.ends;
    some = follow.0.some;
  },
  subst (λ (c : Content). AllFollow geometry c (outline content))
      (map-append outlined before (placed ∷ []))
      (addressed_outline geometry (before ++ placed ∷ []) content follow.1),
)

pub outline_addressed : (geometry : Geometry) (before content : Content)
    → AllFollow geometry (outline before) (outline content) → AllFollow geometry before content
outline_addressed geometry before [] follow = tt
outline_addressed geometry before (placed ∷ content) follow = (
  record {
    at = outline_at geometry before (length_of placed.1) placed.0 follow.0.at;
    ends = follow.0.ends;
    some = follow.0.some;
  },
  outline_addressed geometry (before ++ placed ∷ []) content
      (subst (λ (c : Content). AllFollow geometry c (outline content))
      (sym (map-append outlined before (placed ∷ []))) follow.1),
)

-- an item put in over one of its length changes no outline
pub outline_put : (place : List ℕ) (item : Item) (content : Content) → Ascends content
    → length_at content place ≡ Some (length_of item)
    → outline (with_item content place item) ≡ outline content
outline_put place item [] ascends same = absurd cc
outline_put place item (placed ∷ content) ascends same =
    by_order (place_cmp place placed.0) refl same
    (outline_put place item content (sorted_tail place_cmp placed.0 (places_of content) ascends))
  where
    by_order : (order : Ordering) → place_cmp place placed.0 ≡ order
        → option_map length_of (found_by order (Some placed.1) (item_at content place)) ≡ Some
        (length_of item)
        → (length_at content place ≡ Some (length_of item)
        → outline (with_item content place item) ≡ outline content)
        → outline (put_by order (place, item) placed content (with_item content place item)) ≡
        outline (placed ∷ content)
    by_order Less is there further =
        let none : item_at content place ≡ None = none_below place content
        (all_below place placed.0 (places_of content) is
        (sorted_head place_cmp placed.0 (places_of content) ascends)) in
        absurd (some_none (sym (ap (option_map length_of) none) ∙ there))
      where
        some_none : {n : ℕ} → None ≡ Some n → ⊥
        some_none is = cc
    by_order Equal is there further = same_outline (equal_places place placed.0 is)
        (some_same there)
      where
        some_same : Some (length_of placed.1) ≡ Some (length_of item)
            → length_of placed.1 ≡ length_of item
        some_same is = cc

        same_outline : place ≡ placed.0 → length_of placed.1 ≡ length_of item
            → outline ((place, item) ∷ content) ≡ outline (placed ∷ content)
        same_outline at long = ap (λ (p : List ℕ). let one : Placed =
            (p, Withdrawn (length_of item)) in
            one ∷ outline content) at
            ∙ ap (λ n. let one : Placed = (placed.0, Withdrawn n) in one ∷ outline content)
            (sym long)
    by_order Greater is there further =
        ap (λ (rest : Content). outlined placed ∷ rest) (further there)

-- nothing is taken out where nothing stands
pub out_none : (place : List ℕ) (content : Content) → item_at content place ≡ None
    → without_item content place ≡ content
out_none place [] none = refl
out_none place (placed ∷ content) none =
    by_test (bytes_eq place placed.0) refl (sym (item_first placed content place) ∙ none)
    (out_none place content)
  where
    by_test : (test : Bool) → bytes_eq place placed.0 ≡ test
        → cond test (Some placed.1) (item_at content place) ≡ None
        → (item_at content place ≡ None → without_item content place ≡ content)
        → cond (not test) (placed ∷ without_item content place) (without_item content place) ≡
        placed ∷ content
    by_test true is none further = absurd cc
    by_test false is none further = ap (λ (rest : Content). placed ∷ rest) (further none)

-- an item that is put in above all others comes last
pub put_last : (place : List ℕ) (item : Item) (content : Content)
    → AllByRecursion (λ other. place_cmp other place ≡ Less) (places_of content)
    → with_item content place item ≡ content ++ (place, item) ∷ []
put_last place item [] below = refl
put_last place item (placed ∷ content) below =
    let above : place_cmp place placed.0 ≡ Greater =
    nat_list_cmp_total.antisymm place placed.0 ∙ ap ordering_reverse below.0 in
    ap (λ (order : Ordering). put_by order (place, item) placed content
    (with_item content place item)) above
    ∙ ap (λ (rest : Content). placed ∷ rest) (put_last place item content below.1)
