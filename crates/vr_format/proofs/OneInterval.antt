-- What the blocks of an area stand for that has one interval in use, by its head and that interval.
use Rattle.std.proofs.Common.{◌≡◌, ◌+◌, ℕ, List, [], ◌∷◌, ◌++◌, length, refl, sym, ap}
use Rattle.std.proofs.Common.{subst, ◌∙◌, arith, Option, None}
use Rattle.vr_types.specs.Content.{Content}
use Rattle.vr_types.specs.Image.{Block, Image, block_at}
use Rattle.vr_ci_match.specs.declared.form.Form.TheVariants.{Plain}
use Rattle.vr_ci.specs.Interval as ci
use Rattle.vr_space.specs.Keyed.{HoldRanges, HoldsRange, IsHead, Keyed, content_from}
use Rattle.vr_space.specs.Keyed.{entries_of, entry_block, low_of, records_in}
use Rattle.vr_catalog.specs.declared.entry.CatEntry.{CatEntry}
use Rattle.vr_format.specs.Planned.{IsOnlyHead, MayStand, StandsAlone, all_places, content_of}
use Rattle.vr_format.proofs.Records.{holds-all, records-are, value_of, whole_range}

append-none : (content : Content) → content ++ [] ≡ content
append-none [] = refl
append-none (placed ∷ content) = ap (λ c. placed ∷ c) (append-none content)

-- by a head of one entry and its interval
pub one-stands : (part : Keyed) (entries : List CatEntry) (image : Image) (top block : Block)
    → IsHead part top → IsOnlyHead part.key top → entries_of top ≡ all_places part.key ∷ []
    → MayStand part entries → length block ≡ part.size
    → ci.IsInterval Plain block (value_of entries)
    → block_at image part.head ≡ top → block_at image (part.head + 1) ≡ block
    → StandsAlone part image (content_of part entries)
one-stands part entries image top block head only one stand size interval at-head at-block =
    record {
      stands = record {
        head = subst (IsHead part) (sym at-head) head;
        intervals = subst (λ (low : Option (List ℕ)). HoldRanges part image low
            (entries_of (block_at image part.head))) (sym no-low)
            (subst (HoldRanges part image None) (sym both) (
              subst (HoldsRange part (whole_range part)) (sym here)
                  (holds-all part entries block stand size interval),
              tt,
            ));
        records = sym (ap (λ (low : Option (List ℕ)). content_from part image low
            (entries_of (block_at image part.head))) no-low
            ∙ ap (content_from part image None) both
            ∙ append-none (records_in part (whole_range part)
            (block_at image (entry_block part (all_places part.key))))
            ∙ ap (records_in part (whole_range part)) here
            ∙ records-are part entries block stand size interval);
      };
      only = subst (IsOnlyHead part.key) (sym at-head) only;
    }
  where
    no-low : low_of (block_at image part.head) ≡ None
    no-low = ap low_of at-head ∙ only.begins

    both : entries_of (block_at image part.head) ≡ all_places part.key ∷ []
    both = ap entries_of at-head ∙ one

    here : block_at image (entry_block part (all_places part.key)) ≡ block
    here = ap (λ (n : ℕ). block_at image n) (omega arith) ∙ at-block
