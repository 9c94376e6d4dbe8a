-- Which rule an interval breaks.
use Rattle.std.proofs.Common.{◌≡◌, ℕ, List, All, IsTrue, refl, sym, ap, subst}
use Rattle.std.proofs.Common.{◌∙◌, arith, map}
use Rattle.std.specs.List.Sorted.{IsStrictlySortedBy}
use Rattle.vr_types.specs.Content.{place_cmp}
use Rattle.vr_types.specs.Image.{Block}
use Rattle.vr_ci_match.specs.declared.form.Form.TheVariants.{Plain}
use Rattle.vr_ci_match.specs.declared.form.Piece.{Piece}
use Rattle.vr_ci_match.specs.declared.form.Shape.{Shape}
use Rattle.vr_ci_match.specs.declared.form.Shape.TheVariants as shapes
use Rattle.vr_ci_match.specs.Fault.{is_busy}
use Rattle.vr_ci.specs.Interval as ci
use Rattle.vr_ci.proofs.CallerLemmas.{one_value, interval_says}
use Rattle.vr_space.specs.Room.{Range, is_in}
use Rattle.vr_space.specs.Keyed.{Keyed, IsKept, HoldsRange, items_of, key_of}
use Rattle.vr_attach.specs.Damage.{IntervalBreaks, IsLeastBroken, Spells, HasRecords, AreInOrder}
use Rattle.vr_attach.specs.declared.rule.Rule.{Rule}
use Rattle.vr_attach.specs.declared.rule.Rule.TheVariants as rules
use Rattle.vr_attach.proofs.Rules.{NoneBelow, none_more, least}

pub ended : shapes.Records ≡ shapes.EndOfFile → ⊥
ended same = cc

-- a segment is neither
pub segment_other : (shape : Shape) (piece : Piece) (number : ℕ)
    → shape ≡ shapes.Segment piece number
    → (shape ≡ shapes.EndOfFile → ⊥) × (shape ≡ shapes.Records → ⊥)
segment_other shape piece number is =
    (λ same. not-end (sym is ∙ same), λ same. not-records (sym is ∙ same))
  where
    not-end : shapes.Segment piece number ≡ shapes.EndOfFile → ⊥
    not-end same = cc

    not-records : shapes.Segment piece number ≡ shapes.Records → ⊥
    not-records same = cc

module _ (part : Keyed) (range : Range) (block : Block) where
  abbrev pub Breaks : Rule → Type 0
  Breaks = IntervalBreaks part range block

  -- a block spells one value
  pub one_spelled : (one other : ci.Interval) → Spells part block one → Spells part block other
      → one ≡ other
  one_spelled one other first second =
      one_value Plain block one other first.spelled second.spelled

  -- the rules of a head are none of an interval
  none_8 : NoneBelow Breaks 8
  none_8 rules.AreaNumber less broken = broken
  none_8 rules.AreaTwice less broken = broken
  none_8 rules.SequenceSet less broken = broken
  none_8 rules.PartNumber less broken = broken
  none_8 rules.Places less broken = broken
  none_8 rules.ControlInterval less broken = omega (arith, less)
  none_8 rules.EndOfFile less broken = omega (arith, less)
  none_8 rules.Record less broken = omega (arith, less)
  none_8 rules.Order less broken = omega (arith, less)
  none_8 rules.Roster less broken = broken
  none_8 rules.Slots less broken = broken

  pub least_8 : ((value : ci.Interval) → Spells part block value → ⊥)
      → IsLeastBroken Breaks rules.ControlInterval
  least_8 none = least Breaks rules.ControlInterval none_8 none

  module _ (value : ci.Interval) (spells : Spells part block value) where
    none_9 : NoneBelow Breaks 9
    none_9 = none_more Breaks rules.ControlInterval none_8 (λ broken. broken value spells)

    pub least_9 : value.shape ≡ shapes.EndOfFile → IsLeastBroken Breaks rules.EndOfFile
    least_9 is = least Breaks rules.EndOfFile none_9 (value, spells, is)

    none_10 : (value.shape ≡ shapes.EndOfFile → ⊥) → NoneBelow Breaks 10
    none_10 other = none_more Breaks rules.EndOfFile none_9
        (λ broken. other (subst (λ (v : ci.Interval). v.shape ≡ shapes.EndOfFile)
        (one_spelled broken.0 value broken.1 spells) broken.2))

    pub least_10 : (value.shape ≡ shapes.EndOfFile → ⊥) → (HasRecords part value → ⊥)
        → IsLeastBroken Breaks rules.Record
    least_10 other bad = least Breaks rules.Record (none_10 other) (value, spells, bad)

    none_11 : HasRecords part value → NoneBelow Breaks 11
    none_11 has = none_more Breaks rules.Record
        (none_10 (λ is. ended (sym has.shape ∙ is)))
        (λ broken. broken.2 (subst (HasRecords part)
        (one_spelled value broken.0 spells broken.1) has))

    pub least_11 : HasRecords part value → (AreInOrder part range value → ⊥)
        → IsLeastBroken Breaks rules.Order
    least_11 has bad = least Breaks rules.Order (none_11 has) (value, spells, bad)

    -- an interval that breaks none is one of the range
    pub holds : HasRecords part value → AreInOrder part range value → HoldsRange part range block
    holds has order =
        let says = interval_says Plain block value spells.spelled has.shape in
        let shown : ci.Interval = record {
          shape = shapes.Records;
          items = items_of block;
          busy = is_busy block;
        } in
        let same : value ≡ shown =
        λ i. record { shape = has.shape i; items = says.0 i; busy = says.1 i } in
        record {
          spelled = subst (ci.IsInterval Plain block) same spells.spelled;
          size = spells.size;
          kept = subst (All (IsKept part)) says.0 has.kept;
          ascends = subst (λ (items : List ci.Item). IsStrictlySortedBy place_cmp
              (map (λ (item : ci.Item). key_of part item.bytes) items)) says.0 order.ascends;
          within = λ idle. subst (All (λ (item : ci.Item). IsTrue (is_in range
              (key_of part item.bytes)))) says.0 (order.within (says.1 ∙ idle));
        }

  -- what an interval of the range spells
  abbrev shown : ci.Interval
  shown = record { shape = shapes.Records; items = items_of block; busy = is_busy block }

  holds-spells : HoldsRange part range block → Spells part block shown
  holds-spells is = record { spelled = is.spelled; size = is.size }

  -- an interval of the range breaks none
  pub range_keeps : HoldsRange part range block → (rule : Rule) → Breaks rule → ⊥
  range_keeps is rules.AreaNumber broken = broken
  range_keeps is rules.AreaTwice broken = broken
  range_keeps is rules.SequenceSet broken = broken
  range_keeps is rules.PartNumber broken = broken
  range_keeps is rules.Places broken = broken
  range_keeps is rules.ControlInterval broken = broken shown (holds-spells is)
  range_keeps is rules.EndOfFile broken =
      ended (ap (λ (v : ci.Interval). v.shape)
      (one_spelled shown broken.0 (holds-spells is) broken.1) ∙ broken.2)
  range_keeps is rules.Record broken = broken.2 (subst (HasRecords part)
      (one_spelled shown broken.0 (holds-spells is) broken.1)
      (record { shape = refl; kept = is.kept }))
  range_keeps is rules.Order broken = broken.2 (subst (AreInOrder part range)
      (one_spelled shown broken.0 (holds-spells is) broken.1)
      (record { ascends = is.ascends; within = is.within }))
  range_keeps is rules.Roster broken = broken
  range_keeps is rules.Slots broken = broken

  -- what is none breaks some rule
  pub range_or_broken : (HoldsRange part range block → ⊥)
      → ((rule : Rule) → IsLeastBroken Breaks rule → ⊥) → ⊥
  range_or_broken no_range none =
      none rules.ControlInterval (least_8 (λ value spells.
      let other : value.shape ≡ shapes.EndOfFile → ⊥ =
      λ is. none rules.EndOfFile (least_9 value spells is) in
      none rules.Record (least_10 value spells other (λ has.
      none rules.Order (least_11 value spells has (λ order.
      no_range (holds value spells has order)))))))
