-- Which rule a used interval of an entry-sequenced part breaks.
use Rattle.std.proofs.Common.{◌≡◌, ◌<◌, ℕ, false, refl, sym, ap, subst, ◌∙◌, arith}
use Rattle.std.specs.List.{AllByRecursion}
use Rattle.vr_types.specs.Image.{Block}
use Rattle.vr_ci_match.specs.declared.form.Form.TheVariants.{Plain}
use Rattle.vr_ci_match.specs.declared.form.Piece.{Piece}
use Rattle.vr_ci_match.specs.declared.form.Shape.{Shape}
use Rattle.vr_ci_match.specs.declared.form.Shape.TheVariants as shapes
use Rattle.vr_ci.specs.Interval as ci
use Rattle.vr_ci.proofs.CallerLemmas.{interval_says, one_value}
use Rattle.vr_space.specs.Entries.{IsEntries, IsEntry}
use Rattle.vr_space.specs.Keyed.{items_of}
use Rattle.vr_space.specs.Rosters.{Numbered}
use Rattle.vr_attach.specs.Chain.{EntriesBreak, HasEntries, SpellsRecords}
use Rattle.vr_attach.specs.Damage.{IsLeastBroken, rule_number}
use Rattle.vr_attach.specs.declared.rule.Rule.{Rule}
use Rattle.vr_attach.specs.declared.rule.Rule.TheVariants as rules

pub not-ended : shapes.Records ≡ shapes.EndOfFile → ⊥
not-ended same = cc

-- a segment is neither
pub segment-unended : (shape : Shape) (piece : Piece) (number : ℕ)
    → shape ≡ shapes.Segment piece number → shape ≡ shapes.EndOfFile → ⊥
segment-unended shape piece number is end = not-end (sym is ∙ end)
  where
    not-end : shapes.Segment piece number ≡ shapes.EndOfFile → ⊥
    not-end same = cc

pub segment-other : (shape : Shape) (piece : Piece) (number : ℕ)
    → shape ≡ shapes.Segment piece number → shape ≡ shapes.Records → ⊥
segment-other shape piece number is records = not-records (sym is ∙ records)
  where
    not-records : shapes.Segment piece number ≡ shapes.Records → ⊥
    not-records same = cc

module _ (part : Numbered) (block : Block) where
  abbrev Breaks : Rule → Type 0
  Breaks = EntriesBreak part block

  none-below : (n : ℕ) → (8 < n → Breaks rules.ControlInterval → ⊥)
      → (9 < n → Breaks rules.EndOfFile → ⊥) → (10 < n → Breaks rules.Record → ⊥)
      → (other : Rule) → rule_number other < n → Breaks other → ⊥
  none-below n eight nine ten rules.AreaNumber less broken = broken
  none-below n eight nine ten rules.AreaTwice less broken = broken
  none-below n eight nine ten rules.SequenceSet less broken = broken
  none-below n eight nine ten rules.PartNumber less broken = broken
  none-below n eight nine ten rules.Places less broken = broken
  none-below n eight nine ten rules.ControlInterval less broken = eight less broken
  none-below n eight nine ten rules.EndOfFile less broken = nine less broken
  none-below n eight nine ten rules.Record less broken = ten less broken
  none-below n eight nine ten rules.Order less broken = broken
  none-below n eight nine ten rules.Roster less broken = broken
  none-below n eight nine ten rules.Slots less broken = broken

  -- it is no control interval of records
  pub no-records : ((value : ci.Interval) → SpellsRecords part block value → ⊥)
      → IsLeastBroken Breaks rules.ControlInterval
  no-records none = record {
    broken = none;
    least = none-below 8 (λ less. absurd (omega (arith, less))) (λ less. absurd (omega (arith, less)))
        (λ less. absurd (omega (arith, less)));
  }

  -- a block spells one value
  same-value : (one other : ci.Interval) → SpellsRecords part block one
      → SpellsRecords part block other → one ≡ other
  same-value one other first second =
      one_value Plain block one other first.spelled second.spelled

  module _ (value : ci.Interval) (spells : SpellsRecords part block value) where
    -- it is the end of a file
    pub ends-records : value.shape ≡ shapes.EndOfFile → IsLeastBroken Breaks rules.EndOfFile
    ends-records end = record {
      broken = (value, spells, end);
      least = none-below 9 (λ less none. none value spells) (λ less. absurd (omega (arith, less)))
          (λ less. absurd (omega (arith, less)));
    }

    -- it has something else than the part's records
    pub bad-records : (value.shape ≡ shapes.EndOfFile → ⊥) → (HasEntries part value → ⊥)
        → IsLeastBroken Breaks rules.Record
    bad-records other bad = record {
      broken = (value, spells, bad);
      least = none-below 10 (λ less none. none value spells)
          (λ less end. other (ap (λ (v : ci.Interval). v.shape)
          (same-value value end.0 spells end.1) ∙ end.2))
          (λ less. absurd (omega (arith, less)));
    }

    -- one with the part's records is one of the part,
    pub has-entries : HasEntries part value → IsEntries part block
    has-entries has =
        let says = interval_says Plain block value spells.spelled has.shape in
        let shown : ci.Interval = record {
          shape = shapes.Records;
          items = items_of block;
          busy = false;
        } in
        let same : value ≡ shown =
        λ i. record { shape = has.shape i; items = says.0 i; busy = has.idle i } in
        record {
          spelled = subst (ci.IsInterval Plain block) same spells.spelled;
          size = spells.size;
          each = subst (AllByRecursion (IsEntry part)) says.0 has.each;
        }

  -- and the other way round
  abbrev shown-value : ci.Interval
  shown-value = record { shape = shapes.Records; items = items_of block; busy = false }

  entries-spell : IsEntries part block → SpellsRecords part block shown-value
  entries-spell entries = record { spelled = entries.spelled; size = entries.size }

  -- one of the part breaks none
  pub entries-sound : IsEntries part block → (rule : Rule) → Breaks rule → ⊥
  entries-sound entries rules.AreaNumber broken = broken
  entries-sound entries rules.AreaTwice broken = broken
  entries-sound entries rules.SequenceSet broken = broken
  entries-sound entries rules.PartNumber broken = broken
  entries-sound entries rules.Places broken = broken
  entries-sound entries rules.ControlInterval broken = broken shown-value (entries-spell entries)
  entries-sound entries rules.EndOfFile broken =
      not-ended (ap (λ (v : ci.Interval). v.shape)
      (same-value shown-value broken.0 (entries-spell entries) broken.1) ∙ broken.2)
  entries-sound entries rules.Record broken = broken.2 (subst (HasEntries part)
      (same-value shown-value broken.0 (entries-spell entries) broken.1)
      (record { shape = refl; idle = refl; each = entries.each }))
  entries-sound entries rules.Order broken = broken
  entries-sound entries rules.Roster broken = broken
  entries-sound entries rules.Slots broken = broken
