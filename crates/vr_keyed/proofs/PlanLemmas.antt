-- Where a record lacks room, its interval can be cut.
use Rattle.std.proofs.Common.{◌≡◌, ℕ, ◌+◌, ◌-◌, ◌<◌, true, List, length, sym, ap}
use Rattle.std.proofs.Common.{subst, ◌∙◌, Option, Some, unwrap_or, true≢false}
use Rattle.std.specs.Prelude.{slice_get, slice_index}
use Rattle.std.proofs.lemmas.Bool.{le-leb}
use Rattle.vr_types.specs.Image.{Block, Image, block_at}
use Rattle.vr_types.specs.declared.unit.StageKind.TheVariants.{CiCopy}
use Rattle.vr_seqset.specs.Entry.{Entry}
use Rattle.vr_space.specs.Whence.{places_kept}
use Rattle.vr_space.specs.Room.{Lengths, Range, HaveRoom, is_in, weight, with_length}
use Rattle.vr_space.specs.Keyed.{Keyed, entries_of, entry_in, lengths_of, low_of}
use Rattle.vr_space.specs.Split.{SplitNow}
use Rattle.vr_space.specs.UnderWay.{IsBegun}
use Rattle.vr_space.specs.Met.{Met}
use Rattle.vr_space.proofs.CallerLemmas.{found-above}
use Rattle.vr_split.proofs.CallerLemmas.{found-range}
use Rattle.vr_keyed.specs.declared.plan.Plan.{Plan}
use Rattle.vr_keyed.specs.Planned.{IsCutAt, HasNoCut, IsTargetAt, LacksRoom, IsPlan, HasKeyAt}
use Rattle.vr_keyed.proofs.Planning.{AreWeighed, IsCutIn, are-weighed, begun-at, cut-in, is-there}
use Rattle.vr_keyed.proofs.Planning.{two-places}

abbrev split_of : ℕ → ℕ → List ℕ → SplitNow
split_of old into bytes = record { old = old; into = into; cut = bytes; stage = CiCopy }

module _ (part : Keyed) (image : Image) (kept : Lengths) (met : Met) (place : List ℕ) (n : ℕ)
    (lacks : LacksRoom part image kept met place n) where
  -- what stands and what is kept, with the place
  abbrev weighed : Lengths
  weighed = with_length (lengths_of part kept met.range met.block) place n

  full : HaveRoom part.size weighed → ⊥
  full fits = true≢false (sym (le-leb (weight weighed) (part.size - 4) fits) ∙ lacks.lacks)

  -- the place is in the range that was met
  leads : entry_in (block_at image part.head) place ≡ Some (met.range, lacks.known.entry)
  leads = ap (entry_in (block_at image part.head)) (sym lacks.same) ∙ lacks.known.leads

  inside : is_in met.range place ≡ true
  inside =
      let top : Block = block_at image part.head in
      let at : Range × Entry = (met.range, lacks.known.entry) in
      let found = found-above (low_of top) (entries_of top) place at leads in
      found-range (low_of top) (entries_of top) place at found.above found.leads

  are : AreWeighed part met.range weighed
  are = are-weighed part met.range kept met.block place n lacks.holds lacks.places lacks.key inside

  -- there is a cut
  pub some-cut : (lengths : Lengths) → lengths ≡ weighed → HasNoCut lengths place → ⊥
  some-cut lengths same none =
      let now : HasNoCut weighed place =
      subst (λ (l : Lengths). HasNoCut l place) same none in
      let there = is-there (lengths_of part kept met.range met.block) place n in
      now.none (two-places part.size (lengths_of part kept met.range met.block) place n
      lacks.fits lacks.alone full) there.0 there.1

  -- in the range, below its end
  pub in-range : (lengths : Lengths) (number : ℕ) (cut : List ℕ) → lengths ≡ weighed
      → number + 1 < length lengths → slice_get (places_kept lengths) number ≡ Some cut
      → IsCutIn part met.range cut
  in-range lengths number cut same further is =
      cut-in part met.range weighed number cut are
      (subst (λ (l : Lengths). number + 1 < length l) same further)
      (ap (λ (l : Lengths). slice_get (places_kept l) number) (sym same) ∙ is)

  pub has-key : (lengths : Lengths) (number : ℕ) → lengths ≡ weighed
      → number + 1 < length lengths → HasKeyAt part lengths number
  has-key lengths number same further cut is =
      (in-range lengths number cut same further is).place.key

  -- the split can begin
  pub is-plan : (lengths : Lengths) (plan : Plan) → lengths ≡ weighed
      → IsTargetAt part (block_at image part.head) place plan.target
      → IsCutAt lengths place plan.target.last plan.number
      → IsPlan part image kept met place n lengths plan
  is-plan lengths plan same target cut = record {
    weighed = same;
    target = target;
    cut = cut;
    begun = λ bytes is.
        let at : Range × Entry = (met.range, lacks.known.entry) in
        let one : target.at ≡ at = ap (λ (o : Option (Range × Entry)). unwrap_or o at)
        (sym target.leads ∙ leads) in
        let old : slice_index at.1.intervals 0 ≡ plan.target.old =
        sym (target.old ∙ ap (λ (f : Range × Entry). slice_index f.1.intervals 0) one) in
        subst (λ (o : ℕ). IsBegun part (split_of o plan.target.into bytes) image) old
        (begun-at part image place bytes at plan.target.into lacks.head leads target.into
        (in-range lengths plan.number bytes same cut.further is));
  }
