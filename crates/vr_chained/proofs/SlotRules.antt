-- Which rule a used interval breaks.
use Rattle.std.proofs.Common.{◌≡◌, inl, inr, ⊎_elim, ◌<◌, ◌≤◌, ◌-◌, ℕ, List, []}
use Rattle.std.proofs.Common.{◌∷◌, length, refl, sym, ap, subst, ◌∙◌, arith}
use Rattle.std.specs.Prelude.{map}
use Rattle.std.specs.List.{AllByRecursion, flat_map}
use Rattle.std.proofs.Math.Nat.{div-eq_of_lt}
use Rattle.std.proofs.lemmas.Bool.{cases_lt}
use Rattle.vr_types.specs.Image.{Block}
use Rattle.vr_ci_match.specs.Laid.{slots_in}
use Rattle.vr_ci_match.specs.Rdf.{IsChain, marks, shape_of}
use Rattle.vr_ci_match.specs.declared.form.Form.{Form}
use Rattle.vr_ci_match.specs.declared.form.Form.TheVariants.{Plain, Slots}
use Rattle.vr_ci_match.specs.declared.form.Piece.{Piece}
use Rattle.vr_ci_match.specs.declared.form.Shape.{Shape}
use Rattle.vr_ci_match.specs.declared.form.Shape.TheVariants as shapes
use Rattle.vr_ci_match.specs.declared.rdf.Rdf.{Rdf}
use Rattle.vr_ci_match.specs.declared.rdf.Rdf.TheVariants.{Single, Run, Segment}
use Rattle.vr_ci.specs.Interval as ci
use Rattle.vr_ci.proofs.CallerLemmas.{one_value}
use Rattle.vr_space.specs.Rosters.{Numbered}
use Rattle.vr_space.specs.Slots.{IsSlots}
use Rattle.vr_attach.specs.Chain.{SlotsBreak, SpellsInterval}
use Rattle.vr_attach.specs.Damage.{IsLeastBroken, rule_number}
use Rattle.vr_attach.specs.declared.rule.Rule.{Rule}
use Rattle.vr_attach.specs.declared.rule.Rule.TheVariants as rules

-- ---- what is the same in every form

no-end : (rdfs : List Rdf) → shape_of rdfs ≡ shapes.EndOfFile → ⊥
no-end [] same = cc
no-end (Single live n ∷ rdfs) same = cc
no-end (Run n count ∷ rdfs) same = cc
no-end (Segment piece live number n ∷ rdfs) same = cc

-- an end of file
pub end-any : (form other : Form) (block : Block) (value : ci.Interval)
    → ci.IsInterval form block value → value.shape ≡ shapes.EndOfFile
    → ci.IsInterval other block value
end-any form other block value interval end = record {
  size = interval.size;
  fits = record {
    items = interval.fits.items;
    block = subst (λ (s : Shape). ci.FitsBlock other (length block) s value.items) (sym end)
        (as-none other (none form (subst (λ (s : Shape).
        ci.FitsBlock form (length block) s value.items) end interval.fits.block)));
    idle = interval.fits.idle;
  };
  laid = ⊎_elim (λ laid. absurd (no-end laid.rdfs (laid.shape ∙ end))) (λ zeros. inr zeros)
      interval.laid;
}
  where
    none : (form : Form) → ci.FitsBlock form (length block) shapes.EndOfFile value.items
        → value.items ≡ []
    none Plain fits = fits
    none (Slots most) fits = fits

    as-none : (form : Form) → value.items ≡ []
        → ci.FitsBlock form (length block) shapes.EndOfFile value.items
    as-none Plain fits = fits
    as-none (Slots most) fits = fits

-- a segment
segment-chain : (most : ℕ) (rdfs : List Rdf) (piece : Piece) (number : ℕ)
    → shape_of rdfs ≡ shapes.Segment piece number → IsChain (Slots most) rdfs → IsChain Plain rdfs
segment-chain most [] piece number is chain = tt
segment-chain most (Single live n ∷ rdfs) piece number is chain = absurd cc
segment-chain most (Run n count ∷ rdfs) piece number is chain = absurd cc
segment-chain most (Segment kind live other n ∷ []) piece number is chain = (chain.0, tt, tt)
segment-chain most (Segment kind live other n ∷ next ∷ rdfs) piece number is chain =
    absurd chain.2.1.1

-- no record
none-chain : (most : ℕ) (rdfs : List Rdf) → flat_map marks rdfs ≡ [] → IsChain (Slots most) rdfs
    → IsChain Plain rdfs
none-chain most [] said chain = tt
none-chain most (Single live n ∷ rdfs) said chain = absurd cc
none-chain most (Run n count ∷ rdfs) said chain = absurd chain.1
none-chain most (Segment piece live number n ∷ rdfs) said chain = absurd cc

no-items : (items : List ci.Item) → length items ≡ 0 → items ≡ []
no-items [] none = refl
no-items (item ∷ items) none = absurd (omega (arith, none))

-- So is all that a block has in slots which are as long as the block.
pub long-plain : (most : ℕ) (block : Block) (value : ci.Interval) → length block ≤ most
    → ci.IsInterval (Slots most) block value → ci.IsInterval Plain block value
long-plain most block value long interval = by_shape value.shape refl
  where
    Plainly : Type 0
    Plainly = ci.IsInterval Plain block value

    made : ci.FitsBlock Plain (length block) value.shape value.items
        → ((laid : ci.IsLaidOut (Slots most) block value) → IsChain Plain laid.rdfs) → Plainly
    made fits chain = record {
      size = interval.size;
      fits = record {
        items = interval.fits.items;
        block = fits;
        idle = interval.fits.idle;
      };
      laid = ⊎_elim (λ laid. inl (record {
        rdfs = laid.rdfs;
        chain = chain laid;
        shape = laid.shape;
        said = laid.said;
        layout = laid.layout;
      })) (λ zeros. inr zeros) interval.laid;
    }

    by_shape : (shape : Shape) → value.shape ≡ shape → Plainly
    by_shape shapes.Records is =
        let fits : AllByRecursion (λ (item : ci.Item). length item.bytes ≡ most) value.items
        × (length value.items ≡ slots_in (length block) most) =
        subst (λ (s : Shape). ci.FitsBlock (Slots most) (length block) s value.items) is
        interval.fits.block in
        let short : slots_in (length block) most ≡ 0 = div-eq_of_lt (omega (arith, long)) in
        let none : value.items ≡ [] = no-items value.items (fits.1 ∙ short) in
        made
        (subst (λ (s : Shape). ci.FitsBlock Plain (length block) s value.items) (sym is)
        (subst (λ (items : List ci.Item). ci.room items ≤ length block - 4) (sym none)
        (omega arith)))
        (λ laid. none-chain most laid.rdfs
        (laid.said ∙ ap (λ (items : List ci.Item). map ci.mark_of items) none) laid.chain)
    by_shape (shapes.Segment piece number) is =
        made
        (subst (λ (s : Shape). ci.FitsBlock Plain (length block) s value.items) (sym is)
        (subst (λ (s : Shape). ci.FitsBlock (Slots most) (length block) s value.items) is
        interval.fits.block))
        (λ laid. segment-chain most laid.rdfs piece number (laid.shape ∙ is) laid.chain)
    by_shape shapes.EndOfFile is = end-any (Slots most) Plain block value interval is

-- ---- the rules

module _ (part : Numbered) (block : Block) where
  abbrev Breaks : Rule → Type 0
  Breaks = SlotsBreak part block

  none-below : (n : ℕ) → (8 < n → Breaks rules.ControlInterval → ⊥)
      → (9 < n → Breaks rules.EndOfFile → ⊥) → (14 < n → Breaks rules.Slots → ⊥)
      → (other : Rule) → rule_number other < n → Breaks other → ⊥
  none-below n eight nine fourteen rules.AreaNumber less broken = broken
  none-below n eight nine fourteen rules.AreaTwice less broken = broken
  none-below n eight nine fourteen rules.SequenceSet less broken = broken
  none-below n eight nine fourteen rules.PartNumber less broken = broken
  none-below n eight nine fourteen rules.Places less broken = broken
  none-below n eight nine fourteen rules.ControlInterval less broken = eight less broken
  none-below n eight nine fourteen rules.EndOfFile less broken = nine less broken
  none-below n eight nine fourteen rules.Record less broken = broken
  none-below n eight nine fourteen rules.Order less broken = broken
  none-below n eight nine fourteen rules.Roster less broken = broken
  none-below n eight nine fourteen rules.Slots less broken = fourteen less broken

  -- it is no control interval of any form
  pub no-interval : length block ≡ part.geometry.size
      → ((value : ci.Interval) → ci.IsInterval Plain block value → ⊥)
      → ((most : ℕ) (value : ci.Interval) → most < length block
      → ci.IsInterval (Slots most) block value → ⊥)
      → IsLeastBroken Breaks rules.ControlInterval
  no-interval size plain slots = record {
    broken = λ value spells. by_form spells.form value spells.spelled;
    least = none-below 8 (λ less. absurd (omega (arith, less))) (λ less. absurd (omega (arith, less)))
        (λ less. absurd (omega (arith, less)));
  }
    where
      by_form : (form : Form) (value : ci.Interval) → ci.IsInterval form block value → ⊥
      by_form Plain value interval = plain value interval
      by_form (Slots most) value interval = ⊎_elim
          (λ less. slots most value less interval)
          (λ long. plain value (long-plain most block value long interval))
          (cases_lt most (length block))

  -- it is the end of a file
  pub is-end : (value : ci.Interval) → SpellsInterval part block value
      → value.shape ≡ shapes.EndOfFile → IsLeastBroken Breaks rules.EndOfFile
  is-end value spells end = record {
    broken = (value, spells, end);
    least = none-below 9 (λ less none. none value spells) (λ less. absurd (omega (arith, less)))
        (λ less. absurd (omega (arith, less)));
  }

  -- it is one of something else
  pub no-slots : (value : ci.Interval) → SpellsInterval part block value
      → ((other : ci.Interval) → ci.IsInterval Plain block other
      → other.shape ≡ shapes.EndOfFile → ⊥)
      → (IsSlots part block → ⊥) → IsLeastBroken Breaks rules.Slots
  no-slots value spells no_end not = record {
    broken = not;
    least = none-below 14 (λ less none. none value spells)
        (λ less end. no_end end.0 (end-any end.1.form Plain block end.0 end.1.spelled end.2) end.2)
        (λ less. absurd (omega (arith, less)));
  }

  -- one of slots breaks none
  pub slots-sound : IsSlots part block → (rule : Rule) → Breaks rule → ⊥
  slots-sound slots rules.AreaNumber broken = broken
  slots-sound slots rules.AreaTwice broken = broken
  slots-sound slots rules.SequenceSet broken = broken
  slots-sound slots rules.PartNumber broken = broken
  slots-sound slots rules.Places broken = broken
  slots-sound slots rules.ControlInterval broken = broken _ (record {
    form = Slots part.most;
    spelled = slots.spelled;
    size = slots.size;
  })
  slots-sound slots rules.EndOfFile broken =
      let ends = end-any broken.1.form (Slots part.most) block broken.0 broken.1.spelled broken.2 in
      let same = one_value (Slots part.most) block _ broken.0 slots.spelled ends in
      other (ap (λ (v : ci.Interval). v.shape) same ∙ broken.2)
    where
      other : shapes.Records ≡ shapes.EndOfFile → ⊥
      other same = cc
  slots-sound slots rules.Record broken = broken
  slots-sound slots rules.Order broken = broken
  slots-sound slots rules.Roster broken = broken
  slots-sound slots rules.Slots broken = broken slots

-- where a plain interval is another thing, it is no end of a file
pub plain-other : (block : Block) (value : ci.Interval) → ci.IsInterval Plain block value
    → (value.shape ≡ shapes.EndOfFile → ⊥) → (other : ci.Interval)
    → ci.IsInterval Plain block other → other.shape ≡ shapes.EndOfFile → ⊥
plain-other block value interval not other its end =
    not (ap (λ (v : ci.Interval). v.shape) (one_value Plain block value other interval its) ∙ end)
