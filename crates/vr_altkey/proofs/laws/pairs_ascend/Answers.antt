use Rattle.std.proofs.Common.{ℕ, List, []}
use Rattle.std.specs.List.{filter_map}
use Rattle.vr_types.specs.Content.{records_of}
use Rattle.vr_altkey.specs.Pairs.{pair_of}
use Rattle.vr_altkey.proofs.Sorting.{folded_sorted, none_sorted}
use Rattle.vr_altkey.proofs.laws.pairs_ascend.Goals as goal

pub returns : goal.returns
returns c key_length key_offset base =
    folded_sorted (filter_map (λ (placed : List ℕ × List ℕ).
    pair_of key_length key_offset placed.0 placed.1) (records_of base)) [] none_sorted
