-- What stands in a content once before-images were put back into it, or into its records.
use Rattle.std.proofs.Common.{◌≡◌, ℕ, Bool, true, false, cond, List, [], ◌∷◌, Option, Some, None}
use Rattle.std.proofs.Common.{refl, sym, ap, ◌∙◌, bytes_eq, ◌==◌, ◌&&◌}
use Rattle.std.proofs.lemmas.Bool.{true≢false}
use Rattle.std.proofs.lemmas.Slice.Eq.{bytes_eq-Decides}
use Rattle.std.specs.Option.{option_map}
use Rattle.vr_types.specs.Content.{Content, Item, Ascends, Standing, item_at}
use Rattle.vr_space.specs.Part.{Shape, left_by}
use Rattle.vr_space.proofs.CallerLemmas.{left-none}
use Rattle.vr_history.specs.Committed.{kept_or}
use Rattle.vr_history.specs.State.{BeforeImage}
use Rattle.vr_altkey.specs.Placing.{placed_in}
use Rattle.vr_altkey.proofs.CallerLemmas.{placed_here, placed_elsewhere, placed_ascends, same_items}
use Rattle.vr_undo.proofs.CallerLemmas.{stands-ascends, stands-item}
use Rattle.vr_volume.specs.PutBack.{oldest, put_back, standing, standing_of}

pub back-ascends : (part : ℕ) (images : List BeforeImage) (content : Content) → Ascends content
    → Ascends (put_back part images content)
back-ascends part [] content ascends = ascends
back-ascends part (image ∷ images) content ascends =
    by_part (image.part == part) (back-ascends part images content ascends)
  where
    by_part : (mine : Bool) → Ascends (put_back part images content)
        → Ascends (cond mine (placed_in image.place image.old (put_back part images content))
        (put_back part images content))
    by_part true further = placed_ascends image.place image.old (put_back part images content)
        further
    by_part false further = further

-- at each place the oldest image of it stands, and else what stood there
pub back-item : (part : ℕ) (images : List BeforeImage) (content : Content) (place : List ℕ)
    → item_at (put_back part images content) place ≡ kept_or (oldest images part place)
    (item_at content place)
back-item part [] content place = refl
back-item part (image ∷ images) content place =
    by_part (image.part == part) (back-item part images content place)
  where
    further : Option Item
    further = kept_or (oldest images part place) (item_at content place)

    by_place : (here : Bool) → bytes_eq place image.place ≡ here
        → item_at (put_back part images content) place ≡ further
        → item_at (placed_in image.place image.old (put_back part images content)) place ≡ kept_or
        (cond here (Some image) (oldest images part place)) (item_at content place)
    by_place true is rest =
        let at : place ≡ image.place = (bytes_eq-Decides place image.place).0 is in
        ap (item_at (placed_in image.place image.old (put_back part images content))) at
        ∙ placed_here image.place image.old (put_back part images content)
    by_place false is rest =
        placed_elsewhere image.place image.old (put_back part images content) place
        (λ at. true≢false (sym ((bytes_eq-Decides place image.place).1 at) ∙ is))
        ∙ rest

    by_part : (mine : Bool) → item_at (put_back part images content) place ≡ further
        → item_at (cond mine (placed_in image.place image.old (put_back part images content))
        (put_back part images content)) place ≡ kept_or
        (cond (mine && bytes_eq place image.place) (Some image)
        (oldest images part place)) (item_at content place)
    by_part true rest = by_place (bytes_eq place image.place) refl rest
    by_part false rest = rest

-- ---- the records of a content

pub records-ascend : (part : ℕ) (images : List BeforeImage) (content : Content) → Ascends content
    → Ascends (put_back part images (standing content))
records-ascend part images content ascends =
    back-ascends part images (standing content) (stands-ascends content ascends)

-- at each place the oldest image of it stands, and else the record that stood there
pub back-record : (part : ℕ) (images : List BeforeImage) (content : Content) (place : List ℕ)
    → Ascends content
    → item_at (put_back part images (standing content)) place
    ≡ kept_or (oldest images part place) (standing_of (item_at content place))
back-record part images content place ascends =
    back-item part images (standing content) place
    ∙ ap (kept_or (oldest images part place)) (stands-item content place ascends)

-- where what is put back is a record, or none, the records of what stands then are those of the
-- content with the same put back
pub stands-back : (part : ℕ) (images : List BeforeImage) (content : Content) → Ascends content
    → ((place : List ℕ) (image : BeforeImage) → oldest images part place ≡ Some image
    → standing_of image.old ≡ image.old)
    → standing (put_back part images content) ≡ put_back part images (standing content)
stands-back part images content ascends recorded =
    same_items (standing (put_back part images content)) (put_back part images (standing content))
    (stands-ascends (put_back part images content) (back-ascends part images content ascends))
    (records-ascend part images content ascends)
    (λ place. stands-item (put_back part images content) place
    (back-ascends part images content ascends)
    ∙ ap standing_of (back-item part images content place)
    ∙ by_found place (oldest images part place) refl
    ∙ sym (back-record part images content place ascends))
  where
    by_found : (place : List ℕ) (found : Option BeforeImage) → oldest images part place ≡ found
        → standing_of (kept_or found (item_at content place))
        ≡ kept_or found (standing_of (item_at content place))
    by_found place None is = refl
    by_found place (Some image) is = recorded place image is

-- the record that a call leaves at a place is the one that it gives
pub left-stands : (shape : Shape) (now : Option Item) (bytes : Option (List ℕ))
    → standing_of (left_by shape now bytes) ≡ option_map Standing bytes
left-stands shape now bytes = ap (option_map Standing) (left-none shape now bytes)
