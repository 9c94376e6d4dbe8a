use Rattle.std.proofs.Common.{◌≡◌, ℕ, length, sym, ap, subst}
use Rattle.vr_types.specs.Image.{Block}
use Rattle.vr_seqset.specs.SequenceSet.{IsSequenceSet, SequenceSet}
use Rattle.vr_seqset.specs.Reading.{record_in}
use Rattle.vr_seqset.proofs.CallerLemmas.{record_is}
use Rattle.vr_space.specs.Keyed.{IsHead, Keyed, entries_of}
use Rattle.vr_casplit.specs.Moving.{HasShape}
use Rattle.vr_casplit.proofs.head.is_head.Goals as goal

-- A head's record has the shape, and a block is a head whose record has it.
shape-of : (part : Keyed) (top : Block) (entries : ℕ)
    → IsHead part top × (length (entries_of top) ≡ entries)
    → HasShape part (length top) entries (record_in top)
shape-of part top entries is = record {
  block = is.0.size;
  number = is.0.number;
  key = is.0.key;
  index = is.0.index;
  index_area = is.0.index_area;
  count = is.1;
  single = is.0.single;
}

head-of : (part : Keyed) (top : Block) (entries : ℕ) → IsSequenceSet part.area top (record_in top)
    → HasShape part (length top) entries (record_in top)
    → IsHead part top × (length (entries_of top) ≡ entries)
head-of part top entries spelled has = (
  record {
    spelled = spelled;
    size = has.block;
    number = has.number;
    key = has.key;
    index = has.index;
    index_area = has.index_area;
    single = has.single;
  },
  has.count,
)

pub returns : goal.returns
returns c =
    let part : Keyed = c.args.layout.now in
    let top : Block = c.args.top.now in
    let view : SequenceSet = c.in-Ok.view in
    let spelled : IsSequenceSet part.area top view =
    subst (λ (area : ℕ). IsSequenceSet area top view)
    (ap (λ (one : Keyed). one.area) c.layout.view_is) c.in-Ok.ensures.found in
    let same : record_in top ≡ view = record_is part.area top view spelled in (
      λ is. head-of part top c.args.entries
          (subst (IsSequenceSet part.area top) (sym same) spelled)
          (subst (HasShape part (length top) c.args.entries) (sym same) (c.has_shape.ensures.0 is)),
      λ is. c.has_shape.ensures.1 (subst (HasShape part (length top) c.args.entries) same
          (shape-of part top c.args.entries is)),
    )
