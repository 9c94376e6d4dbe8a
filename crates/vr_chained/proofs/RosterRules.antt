-- Which rule a roster breaks.
use Rattle.std.proofs.Common.{◌≡◌, ◌<◌, ℕ, length, sym, subst, arith}
use Rattle.std.specs.Prelude.{IfSome}
use Rattle.vr_types.specs.Geometry.{area_count}
use Rattle.vr_types.specs.Image.{Block}
use Rattle.vr_seqset.specs.Reading.{roster_in}
use Rattle.vr_seqset.specs.Roster.{IsRoster, Roster}
use Rattle.vr_seqset.proofs.CallerLemmas.{roster_is}
use Rattle.vr_space.specs.Rosters.{Numbered}
use Rattle.vr_attach.specs.Chain.{IsRosterSound, RosterBreaks, SpellsRoster}
use Rattle.vr_attach.specs.Damage.{IsLeastBroken, rule_number}
use Rattle.vr_attach.specs.declared.rule.Rule.{Rule}
use Rattle.vr_attach.specs.declared.rule.Rule.TheVariants as rules
use Rattle.vr_chained.specs.Walked.{IsGoodRoster}

module _ (part : Numbered) (top : Block) where
  abbrev Breaks : Rule → Type 0
  Breaks = RosterBreaks part top

  -- none with a lower number is broken, where these aren't
  none-below : (n : ℕ) → (3 < n → Breaks rules.AreaNumber → ⊥)
      → (6 < n → Breaks rules.PartNumber → ⊥) → (13 < n → Breaks rules.Roster → ⊥)
      → (other : Rule) → rule_number other < n → Breaks other → ⊥
  none-below n three six thirteen rules.AreaNumber less broken = three less broken
  none-below n three six thirteen rules.AreaTwice less broken = broken
  none-below n three six thirteen rules.SequenceSet less broken = broken
  none-below n three six thirteen rules.PartNumber less broken = six less broken
  none-below n three six thirteen rules.Places less broken = broken
  none-below n three six thirteen rules.ControlInterval less broken = broken
  none-below n three six thirteen rules.EndOfFile less broken = broken
  none-below n three six thirteen rules.Record less broken = broken
  none-below n three six thirteen rules.Order less broken = broken
  none-below n three six thirteen rules.Roster less broken = thirteen less broken
  none-below n three six thirteen rules.Slots less broken = broken

  -- what isn't spelled breaks rule 13 alone
  pub misspelled : (SpellsRoster part top → ⊥) → IsLeastBroken Breaks rules.Roster
  misspelled not = record {
    broken = λ leads. not leads.spells;
    least = none-below 13 (λ _ broken. not broken.0) (λ _ broken. not broken.0)
        (λ less. absurd (omega (arith, less)));
  }

  pub no-area : SpellsRoster part top
      → (IfSome (roster_in top).next (λ (next : ℕ). next < area_count part.geometry) → ⊥)
      → IsLeastBroken Breaks rules.AreaNumber
  no-area spells not = record {
    broken = (spells, not);
    least = none-below 3 (λ less. absurd (omega (arith, less))) (λ less. absurd (omega (arith, less)))
        (λ less. absurd (omega (arith, less)));
  }

  pub other-part : SpellsRoster part top
      → IfSome (roster_in top).next (λ (next : ℕ). next < area_count part.geometry)
      → ((roster_in top).part ≡ part.part → ⊥) → IsLeastBroken Breaks rules.PartNumber
  other-part spells there not = record {
    broken = (spells, not);
    least = none-below 6 (λ _ broken. broken.1 there) (λ less. absurd (omega (arith, less)))
        (λ less. absurd (omega (arith, less)));
  }

  pub not-whole : IfSome (roster_in top).next (λ (next : ℕ). next < area_count part.geometry)
      → (roster_in top).part ≡ part.part
      → (IfSome (roster_in top).next
      (λ (next : ℕ). (roster_in top).used ≡ part.geometry.area) → ⊥)
      → IsLeastBroken Breaks rules.Roster
  not-whole there same not = record {
    broken = λ leads. not leads.whole;
    least = none-below 13 (λ _ broken. broken.1 there) (λ _ broken. broken.1 same)
        (λ less. absurd (omega (arith, less)));
  }

  -- a good one breaks none
  pub good-sound : IsGoodRoster part top → IsRosterSound part top
  good-sound good rules.AreaNumber broken = broken.1 good.there
  good-sound good rules.AreaTwice broken = broken
  good-sound good rules.SequenceSet broken = broken
  good-sound good rules.PartNumber broken = broken.1 good.number
  good-sound good rules.Places broken = broken
  good-sound good rules.ControlInterval broken = broken
  good-sound good rules.EndOfFile broken = broken
  good-sound good rules.Record broken = broken
  good-sound good rules.Order broken = broken
  good-sound good rules.Roster broken = broken good.leads
  good-sound good rules.Slots broken = broken

-- what is read of it is what it spells
pub record IsView (part : Numbered) (top : Block) (view : Roster) : Type 0 where
  pub spells : SpellsRoster part top
  pub same : roster_in top ≡ view

pub view-is : (part : Numbered) (top : Block) (view : Roster) (intervals : ℕ)
    → intervals ≡ part.geometry.area → IsRoster intervals top view
    → length top ≡ part.geometry.size → IsView part top view
view-is part top view intervals whole is size =
    let found : IsRoster part.geometry.area top view =
    subst (λ (n : ℕ). IsRoster n top view) whole is in
    let same : roster_in top ≡ view = roster_is part.geometry.area top view found in
    record {
      spells = record {
        spelled = subst (IsRoster part.geometry.area top) (sym same) found;
        size = size;
      };
      same = same;
    }
