use Rattle.std.proofs.Common.{◌≡◌, ◌≤◌, [], map, refl, set}
use Rattle.std.specs.Prelude.{Err, IfSome, Ok, OnOk, Result}
use Rattle.vr_store.specs.Parts.{Forgets, with_part}
use Rattle.vr_store.specs.Store.{PartNow, part_among, part_now}
use Rattle.vr_store.proofs.PartsAt.{found-new, laid-at, none-laid}
use Rattle.vr_store.proofs.Recorded.{at-part}
use Rattle.vr_store.proofs.stage.keep_at.Goals as goal

-- where a call says two things of its success, both hold there
both-ok : {T E : Type 0} (result : Result T E) (P Q R : Type 0) → (P → Q → R) → OnOk result P
    → OnOk result Q → OnOk result R
both-ok (Ok value) P Q R both one other = both one other
both-ok (Err why) P Q R both one other = tt

pub unreachable-requires : goal.unreachable-requires
unreachable-requires g c = c.requires.part
    (none-laid g.P.Part.shape g.P.Part.known c.args.parts.now.items c.args.number.0
    c.deref.result.now c.index_of.result (map (part_now g.P.Part.shape g.P.Part.known)
    c.args.parts.now.items) c.deref.ensures.value
    refl c.index_of.ensures c.in-None.is)

pub returns : goal.returns
returns g c =
    let shape = g.P.Part.shape in
    let known = g.P.Part.known in
    let laid = c.index_mut.result.now in
    let number = c.args.number.0 in
    let before = part_now shape known laid in
    let after = part_now shape known
    (record { number = laid.number; part = c.keep_places.new.self }) in
    let old = map (part_now shape known) c.args.parts.now.items in
    let parts = map (part_now shape known) (set c.args.parts.now.items c.in-Some.at
    (record { number = laid.number; part = c.keep_places.new.self })) in
    let at = laid-at shape known c.args.parts.now.items number c.deref.result.now c.index_of.result
    old c.deref.ensures.value refl c.index_of.ensures c.in-Some.at c.in-Some.is laid
    (record { number = laid.number; part = c.keep_places.new.self }) c.index_mut.ensures.value in
    let there = found-new number before after old parts at refl in
    record {
      forgets = at-part (λ (one : PartNow). (now : PartNow) × Forgets one now
          × (parts ≡ with_part number now old)) old number before at.found (
            after,
            record {
              number = refl;
              shape = c.keep_places.ensures.shape;
              known = c.keep_places.ensures.known;
              met = c.keep_places.ensures.forgets;
            },
            at.is,
          );
      room = both-ok c.keep_places.result (after.known.met ≡ [])
          (c.args.count ≤ after.known.most)
          (IfSome (part_among parts number) (λ (part : PartNow).
          (part.known.met ≡ []) × (c.args.count ≤ part.known.most)))
          (λ none most. at-part (λ (part : PartNow).
          (part.known.met ≡ []) × (c.args.count ≤ part.known.most)) parts number after there
          (none, most))
          c.keep_places.ensures.none c.keep_places.ensures.most;
    }
