use Rattle.std.proofs.Common.{◌≡◌, ◌+◌, ◌∙◌, List, ap, arith, length, rules, subst, sym, ℕ}
use Rattle.std.specs.Prelude.{All}
use Rattle.std.proofs.lemmas.List.{length_push}
use Rattle.std.proofs.lemmas.List.Elements.{All-push}
use Rattle.vr_types.specs.Geometry.{area_count}
use Rattle.vr_types.specs.PlaceBuffer.{PlaceRoom}
use Rattle.vr_space.specs.Areas.{KeyedChain}
use Rattle.vr_attach.specs.declared.areas.AreaEnd.{AreaEnd}
use Rattle.vr_attach.proofs.AreaLists.{no-ends}
use Rattle.vr_attach.proofs.areas.no_areas.Goals as goal

pub invariant_of-result : goal.invariant_of-result
invariant_of-result c =
    no-ends c.args.layout c.loop.entries.items
    (omega (
      arith,
      c.loop.invariant.count,
      c.loop.auto.counter-end,
      c.loop-test.false,
      c.areas-count.ensures,
      ap (λ (part : KeyedChain). area_count part.geometry) c.layout.view_is,
    )) (search rules) c.loop.invariant.room

pub loop-preserved : goal.loop-preserved
loop-preserved c =
    let entries : List AreaEnd = c.loop.entries.items in
    let entry : AreaEnd = record { area = 0; end = c.in_ok-end.end } in
    let is = sym c.in_ok-push.ensures.items in
    record {
      count = subst (λ (all : List AreaEnd). length all ≡ c.loop.counter + 1) is
          (length_push entries entry ∙ ap (λ (n : ℕ). n + 1) c.loop.invariant.count);
      room = subst (All (λ (one : AreaEnd). one.end.room ≡ c.args.layout.key)) is
          (All-push (λ (one : AreaEnd). one.end.room ≡ c.args.layout.key) entries entry
          c.loop.invariant.room
          (ap (λ (end : PlaceRoom). end.room) c.in_ok-end.ensures ∙ c.from.ensures
          ∙ ap (λ (part : KeyedChain). part.key) c.layout.view_is));
    }
