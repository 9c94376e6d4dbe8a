-- What was met, once a block has other bytes.
use Rattle.std.proofs.Common.{◌≡◌, ◌<◌, ◌+◌, ℕ, List, [], ◌∷◌, ◌++◌, take, drop, length, refl, ap, sym}
use Rattle.std.proofs.Common.{◌∙◌, map, get_or, arith}
use Rattle.std.proofs.Math.ListN.{set}
use Rattle.std.proofs.lemmas.List.{get_or-map, length-map, map-set, take-map}
use Rattle.std.proofs.lemmas.List.Edits.{map_over_more}
use Rattle.vr_types.specs.Image.{Block}
use Rattle.vr_space.specs.Met.{Met}
use Rattle.vr_chained.specs.declared.met.MetBlock.{MetBlock}
use Rattle.vr_chained.specs.Met.{met_in, met_places}
use Rattle.vr_chained.specs.Setting.{refreshed}

-- one slot more
pub refresh-more : (n : ℕ) (bytes : Block) (slots now : List MetBlock) (i : ℕ) (one : MetBlock)
    → i < length slots → i < length now
    → map met_in now
    ≡ map (refreshed n bytes) (take i (map met_in slots)) ++ drop i (map met_in slots)
    → (d : MetBlock) → met_in one ≡ refreshed n bytes (met_in (get_or now i d))
    → map met_in (set now i one)
    ≡ map (refreshed n bytes) (take (i + 1) (map met_in slots)) ++ drop (i + 1) (map met_in slots)
refresh-more n bytes slots now i one below within before d is =
    map-set met_in now i one
    ∙ ap (set (map met_in now) i) is
    ∙ map_over_more (refreshed n bytes) (map met_in slots) (map met_in now) i
    (met_in (get_or now i d)) (omega (arith, length-map slots met_in)) before
    (sym (get_or-map met_in now i d (met_in (get_or now i d)) within))

-- it was met at the same places
pub places-refreshed : (n : ℕ) (bytes : Block) (met : List Met)
    → met_places (map (refreshed n bytes) met) ≡ met_places met
places-refreshed n bytes [] = refl
places-refreshed n bytes (one ∷ met) =
    ap (λ (places : List (List ℕ)). one.place ∷ places) (places-refreshed n bytes met)

-- those that were met are refreshed, as each slot is
pub met-refreshed : (n : ℕ) (bytes : Block) (filled : ℕ) (slots after : List MetBlock)
    → map met_in after ≡ map (refreshed n bytes) (map met_in slots)
    → map met_in (take filled after) ≡ map (refreshed n bytes) (map met_in (take filled slots))
met-refreshed n bytes filled slots after all =
    sym (take-map met_in filled after)
    ∙ ap (take filled) all
    ∙ take-map (refreshed n bytes) filled (map met_in slots)
    ∙ ap (map (refreshed n bytes)) (take-map met_in filled slots)
