-- Which rule the head of an area of a chain breaks.
use Rattle.std.proofs.Common.{◌≡◌, ℕ, suc, ◌-◌, ◌<◌, Bool, true, false, List, [], ◌∷◌, Option}
use Rattle.std.proofs.Common.{Some, None, length, get_or, refl, sym, ap, subst, ◌∙◌, arith}
use Rattle.std.specs.Prelude.{IfSome, cond, is_none}
use Rattle.vr_types.specs.Image.{Block}
use Rattle.vr_seqset.specs.Entry.{Entry}
use Rattle.vr_seqset.specs.Reading.{record_in}
use Rattle.vr_space.specs.Keyed.{Keyed, last_high}
use Rattle.vr_attach.specs.Damage.{IsLeastBroken, IsOfPart, NamesAreas, SpellsRecord}
use Rattle.vr_attach.specs.Linked.{GoesOnFrom, IsGoodTop, IsRecordAt, IsTopSound, LinkBreaks}
use Rattle.vr_attach.specs.declared.rule.Rule.{Rule}
use Rattle.vr_attach.specs.declared.rule.Rule.TheVariants as rules
use Rattle.vr_attach.proofs.Rules.{NoneBelow, none_first, none_more, least}

-- the ranges of entries end at the high place of the last
pub last-entry : (entries : List Entry) (other : Entry) → 0 < length entries
    → last_high entries ≡ Some (get_or entries (length entries - 1) other).high
last-entry [] other some = absurd (omega (arith, some))
last-entry (entry ∷ []) other some = refl
last-entry (entry ∷ next ∷ entries) other some =
    last-entry (next ∷ entries) other (omega arith)
    ∙ ap (λ (i : ℕ). Some (get_or (entry ∷ next ∷ entries) i other).high)
    one-more
  where
    one-more : suc (length (next ∷ entries) - 1) ≡ length (entry ∷ next ∷ entries) - 1
    one-more = omega arith

-- a record has the flag of the first exactly where its ranges begin nowhere
flag-low : (first : Bool) (place : List ℕ) (low : Option (List ℕ))
    → cond first None (Some place) ≡ low → first ≡ is_none low
flag-low true place low begins = ap is_none begins
flag-low false place low begins = ap is_none begins

module _ (part : Keyed) (area areas : ℕ) (low : Option (List ℕ)) (top : Block) where
  abbrev pub Breaks : Rule → Type 0
  Breaks = LinkBreaks part area areas low top

  -- what isn't broken, rule by rule
  none_4 : (SpellsRecord part top → NamesAreas areas (record_in top)) → NoneBelow Breaks 4
  none_4 named = none_more Breaks rules.AreaNumber (none_first Breaks)
      (λ broken. broken.1 (named broken.0))

  none_5 : NoneBelow Breaks 4 → ((record_in top).next ≡ Some area → ⊥) → NoneBelow Breaks 5
  none_5 none other = none_more Breaks rules.AreaTwice none (λ broken. other broken.1)

  none_6 : NoneBelow Breaks 5 → IsRecordAt part low top → NoneBelow Breaks 6
  none_6 none is = none_more Breaks rules.SequenceSet none (λ broken. broken is)

  none_7 : NoneBelow Breaks 6 → IsOfPart part (record_in top) → NoneBelow Breaks 7
  none_7 none is = none_more Breaks rules.PartNumber none (λ broken. broken is)

  -- the least that is broken
  least_3 : SpellsRecord part top → (NamesAreas areas (record_in top) → ⊥)
      → IsLeastBroken Breaks rules.AreaNumber
  least_3 spells named = least Breaks rules.AreaNumber (none_first Breaks) (spells, named)

  least_4 : SpellsRecord part top → NamesAreas areas (record_in top)
      → (record_in top).next ≡ Some area → IsLeastBroken Breaks rules.AreaTwice
  least_4 spells named same =
      least Breaks rules.AreaTwice (none_4 (λ _. named)) (spells, same)

  least_5 : NoneBelow Breaks 5 → (IsRecordAt part low top → ⊥)
      → IsLeastBroken Breaks rules.SequenceSet
  least_5 none broken = least Breaks rules.SequenceSet none broken

  least_6 : NoneBelow Breaks 6 → (IsOfPart part (record_in top) → ⊥)
      → IsLeastBroken Breaks rules.PartNumber
  least_6 none broken = least Breaks rules.PartNumber none broken

  least_7 : NoneBelow Breaks 7 → (GoesOnFrom part low top → ⊥)
      → IsLeastBroken Breaks rules.Places
  least_7 none broken = least Breaks rules.Places none broken

  -- what isn't spelled breaks rule 5
  misspelled : (SpellsRecord part top → ⊥) → IsLeastBroken Breaks rules.SequenceSet
  misspelled none = least_5
      (none_more Breaks rules.AreaTwice
      (none_4 (λ spells. absurd (none spells))) (λ broken. none broken.0))
      (λ is. none is.spells)

  -- a head that breaks none
  is_good : NamesAreas areas (record_in top) → ((record_in top).next ≡ Some area → ⊥)
      → IsRecordAt part low top → IsOfPart part (record_in top) → GoesOnFrom part low top
      → IsGoodTop part area areas low top
  is_good named other is of_part goes = record {
    head = record {
      spelled = is.spells.spelled;
      size = is.spells.size;
      number = of_part.number;
      key = of_part.key;
      index = is.index;
      index_area = is.index_area;
      single = is.single;
    };
    goes = goes;
    there = named.next;
    other = other;
  }

  -- such a head breaks none
  pub good_sound : IsGoodTop part area areas low top → IsTopSound part area areas low top
  good_sound good rules.AreaNumber broken = broken.1 (record {
    next = good.there;
    index = subst (λ (named : Option ℕ). IfSome named (λ (n : ℕ). n < areas))
        (sym good.head.index_area) tt;
  })
  good_sound good rules.AreaTwice broken = good.other broken.1
  good_sound good rules.SequenceSet broken = broken (record {
    spells = record { spelled = good.head.spelled; size = good.head.size };
    first = flag-low (record_in top).first (record_in top).low low good.goes.begins;
    index = good.head.index;
    index_area = good.head.index_area;
    single = good.head.single;
  })
  good_sound good rules.PartNumber broken =
      broken (record { number = good.head.number; key = good.head.key })
  good_sound good rules.Places broken = broken good.goes
  good_sound good rules.ControlInterval broken = broken
  good_sound good rules.EndOfFile broken = broken
  good_sound good rules.Record broken = broken
  good_sound good rules.Order broken = broken
  good_sound good rules.Roster broken = broken
  good_sound good rules.Slots broken = broken

  -- what is no such head breaks some rule
  pub good_or_broken : (IsGoodTop part area areas low top → ⊥)
      → ((rule : Rule) → IsLeastBroken Breaks rule → ⊥) → ⊥
  good_or_broken bad none =
      let spelled_not_not : (SpellsRecord part top → ⊥) → ⊥ =
      λ no. none rules.SequenceSet (misspelled no) in
      spelled_not_not (λ spells.
      let named_not : (NamesAreas areas (record_in top) → ⊥) → ⊥ =
      λ no. none rules.AreaNumber (least_3 spells no) in
      named_not (λ named.
      let other : (record_in top).next ≡ Some area → ⊥ =
      λ same. none rules.AreaTwice (least_4 spells named same) in
      let four : NoneBelow Breaks 5 = none_5 (none_4 (λ _. named)) other in
      let record_not : (IsRecordAt part low top → ⊥) → ⊥ =
      λ no. none rules.SequenceSet (least_5 four no) in
      record_not (λ is.
      let five : NoneBelow Breaks 6 = none_6 four is in
      let part_not : (IsOfPart part (record_in top) → ⊥) → ⊥ =
      λ no. none rules.PartNumber (least_6 five no) in
      part_not (λ of_part.
      none rules.Places (least_7 (none_7 five of_part)
      (λ goes. bad (is_good named other is of_part goes)))))))
