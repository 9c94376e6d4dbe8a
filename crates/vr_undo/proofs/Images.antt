-- Before-images with one more.
use Rattle.std.proofs.Common.{◌≡◌, ℕ, cond, List, [], ◌∷◌, ◌++◌, Option, Some, None, refl, ap, ◌∙◌}
use Rattle.std.specs.List.{cons_option, filter_map}
use Rattle.std.specs.Option.{option_or}
use Rattle.std.proofs.lemmas.List.{append-nil}
use Rattle.std.proofs.lemmas.List.Elements.{filter_map-append}
use Rattle.std.proofs.lemmas.List.Folds.{find-append}
use Rattle.vr_history.specs.State.{BeforeImage}
use Rattle.vr_space.specs.Room.{Lengths, with_length, with_lengths}
use Rattle.vr_undo.specs.PutBack.{is_image_of, length_in, lengths_kept, oldest}

pub oldest-append : (images : List BeforeImage) (image : BeforeImage) (part : ℕ) (place : List ℕ)
    → oldest (images ++ image ∷ []) part place ≡ option_or (oldest images part place)
    (cond (is_image_of part place image) (Some image) None)
oldest-append images image part place =
    find-append (is_image_of part place) images (image ∷ [])

lengths-more : (lengths more : Lengths) (entry : List ℕ × ℕ)
    → with_lengths lengths (more ++ entry ∷ []) ≡ with_length (with_lengths lengths more) entry.0
    entry.1
lengths-more lengths [] entry = refl
lengths-more lengths (first ∷ more) entry =
    lengths-more (with_length lengths first.0 first.1) more entry

abbrev pub kept_more : Lengths → Option (List ℕ × ℕ) → Lengths
kept_more kept None = kept
kept_more kept (Some entry) = with_length kept entry.0 entry.1

pub kept-append : (images : List BeforeImage) (image : BeforeImage) (part : ℕ)
    → lengths_kept (images ++ image ∷ []) part ≡ kept_more (lengths_kept images part)
    (length_in part image)
kept-append images image part =
    ap (with_lengths []) (filter_map-append (length_in part) images (image ∷ []))
    ∙ by_length (length_in part image)
  where
    by_length : (found : Option (List ℕ × ℕ))
        → with_lengths [] (filter_map (length_in part) images ++ cons_option found [])
        ≡ kept_more (lengths_kept images part) found
    by_length None = ap (with_lengths []) (append-nil (filter_map (length_in part) images))
    by_length (Some entry) = lengths-more [] (filter_map (length_in part) images) entry
