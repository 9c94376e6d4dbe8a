use Rattle.std.proofs.Common.{◌≡◌, ◌+◌, ◌-◌, ◌*◌, ℕ, List, Option, Some, None, ap, sym, subst}
use Rattle.std.proofs.Common.{◌∙◌, arith}
use Rattle.std.specs.Prelude.{MatchOption, filter}
use Rattle.std.specs.Ordering.{is_lt}
use Rattle.std.specs.Borrow.{Bor}
use Rattle.vr_types.specs.Content.{place_cmp}
use Rattle.vr_types.specs.Fields.{four}
use Rattle.vr_types.specs.declared.unit.PartNo.{PartNo}
use Rattle.vr_space.specs.Part.{NumberedShape, part_no}
use Rattle.vr_space.specs.Room.{Lengths}
use Rattle.vr_space.specs.Rosters.{used_of}
use Rattle.vr_space.specs.Numbered.{span_of, start_by, start_of}
use Rattle.vr_space.specs.Whence.{first_of, places_kept}
use Rattle.vr_chained.proofs.KeptSlots.{rooms-by}
use Rattle.vr_chained.proofs.Numbers.{four-bytes}
use Rattle.vr_chained.proofs.rooms.have_slots.Goals as goal

-- the first place that is kept past these bytes
abbrev Finds : List ℕ → Lengths → Option (Bor (List ℕ)) → Type 0
Finds from kept found = MatchOption found
    (first_of (filter (λ (place : List ℕ). is_lt (place_cmp from place)) (places_kept kept)) ≡ None)
    (λ (b : Bor (List ℕ)).
    first_of (filter (λ (place : List ℕ). is_lt (place_cmp from place)) (places_kept kept))
    ≡ Some b.now)

pub returns : goal.returns
returns g c = λ image stands knows places.
    let part = c.args.chain.now.part in
    let kept : Lengths = g.K.Kept.kept c.args.kept.now (part_no (NumberedShape part)) in
    let last : ℕ = c.end_number-end.result - 1 in
    let first : start_of part ≡ 1 = ap start_by c.requires.slots in
    let end : last + 1 ≡ start_of part + used_of part image * span_of part =
    omega (
      arith,
      c.end_number-end.ensures,
      first,
      ap (λ (used : ℕ). used * span_of part) knows.used,
    ) in
    let bytes : c.to_be_bytes.result ≡ four last =
    c.to_be_bytes.ensures ∙ sym (four-bytes last) in
    rooms-by part image stands.1.part_is stands.1.chain last end
    (omega (arith, c.end_number-end.type_inv)) c.requires.slots (λ (b : Bor (List ℕ)). b.now)
    kept places c.next_kept.result
    (subst (λ (from : List ℕ). Finds from kept c.next_kept.result) bytes
    (subst (λ (n : PartNo). Finds c.to_be_bytes.result (g.K.Kept.kept c.args.kept.now n)
    c.next_kept.result) c.part.ensures c.next_kept.ensures))
    c.is_none.result c.is_none.ensures
