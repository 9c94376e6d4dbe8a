use Rattle.std.proofs.Common.{◌≡◌, ◌∷◌, ◌++◌, ◌+◌, [], All, ap, refl, subst, sym, ◌∙◌}
use Rattle.std.proofs.Common.{None, arith, rules, take}
use Rattle.std.proofs.lemmas.List.{take_all, take_more}
use Rattle.std.proofs.lemmas.List.Elements.{All-get_or, All-nil}
use Rattle.vr_types.specs.Regions.{Touches}
use Rattle.vr_types.proofs.CallerLemmas.{guards-start, guards-then, keeps-none, keeps-touches}
use Rattle.vr_types.proofs.CallerLemmas.{touches-then}
use Rattle.vr_space.specs.Known.{HasMet}
use Rattle.vr_space.specs.Part.{CanSet, HasKeptRoom, InPart, IsAtRest, IsFirm, IsQuiet, Knows}
use Rattle.vr_space.specs.Part.{SameStages, SetsOne, Shape, part_no, stage_of}
use Rattle.vr_volume.specs.EntryChanges.{MissAll}
use Rattle.vr_volume.specs.Laying.{IsFreeIn, IsLaidSo}
use Rattle.vr_volume.specs.Rests.{HoldsNoMore}
use Rattle.vr_volume.specs.Safe.{IsSafeImage}
use Rattle.vr_volume.specs.declared.setting.EntryChange.{EntryChange}
use Rattle.vr_volume.proofs.AllSet.{firm-here, firm-more, holds-more, room-at, set-more}
use Rattle.vr_volume.proofs.Calls.{Anything}
use Rattle.vr_volume.proofs.Recovering.{each_image_is_safe}
use Rattle.vr_volume.proofs.setting.set_all.Goals as goal

pub loop-change-init : goal.loop-change-init
loop-change-init g c =
    let B = g.B.Blocks in
    let shape = g.P.Part.shape c.args.part.now in
    let a = B.seen c.args.blocks.now in
    record {
      shape = refl;
      count = refl;
      size = refl;
      faults = refl;
      split = refl;
      moves = refl;
      areas = refl;
      used = refl;
      start = λ zero. (refl, refl);
      rests = λ told owners still. still;
      room = c.requires.room;
      knows = c.requires.knows;
      stages = λ told place. refl;
      safe = λ told geometry number owners log committed safe laid free. (
        guards-start a (IsSafeImage geometry number owners log committed)
            (λ image there. g.met.B.Blocks.images_may c.args.blocks.now image told there)
            (each_image_is_safe geometry number owners log committed a safe),
        safe,
      );
      set = λ told. record {
        here = All-nil (λ (change : EntryChange).
            Rattle.vr_space.specs.Part.item_of shape a.cur change.place
            ≡ Rattle.vr_space.specs.Part.left_by shape
            (Rattle.vr_space.specs.Part.item_of shape a.cur change.place) change.bytes);
        others = λ place misses. refl;
      };
      elsewhere = λ told place found misses held. held;
      firm = λ told firm. All-nil (λ (change : EntryChange). IsFirm shape a change.place);
      touches = λ told owners still. keeps-touches B.tells (InPart shape owners) Anything a a told
          (keeps-none B.tells a
          (λ told image left. g.met.B.Blocks.images_may c.args.blocks.now image told left))
          (λ image on. tt);
      met = λ all place met. met;
    }

pub set_forced-requires-clause-can : goal.set_forced-requires-clause-can
set_forced-requires-clause-can g c told =
    let B = g.B.Blocks in
    let changes = c.args.changes.now in
    let i = c.loop-change.change-index in
    let change = c.change-item.result in
    let inv = c.loop-change.invariant in
    let first = g.P.Part.shape c.args.part.now in
    let known = g.P.Part.known c.args.part.now in
    let later = g.P.Part.known c.loop-change.part in
    let a = B.seen c.args.blocks.now in
    let b = B.seen c.loop-change.blocks in
    let can = c.requires.can told in
    let kept = g.K.Kept.kept c.args.kept.now (part_no first) in
    let none : stage_of first known a.cur change.place ≡ None =
    subst (λ (one : EntryChange). stage_of first known a.cur one.place ≡ None)
    (sym c.change-item.is)
    (All-get_or (λ (one : EntryChange). stage_of first known a.cur one.place ≡ None) changes i
    change c.loop-change-test.true can.no_stage) in
    subst (λ (s : Shape). CanSet s later b.cur (g.K.Kept.kept c.args.kept.now (part_no s))
    change.place change.bytes) (sym inv.shape)
    (record {
      no_stage = inv.stages told change.place ∙ none;
      room = room-at first known later a.cur b.cur kept changes i change c.loop-change-test.true
          (sym c.change-item.is) can.room inv.start;
    })

pub returns-in_err-set_forced-clause-safe : goal.returns-in_err-set_forced-clause-safe
returns-in_err-set_forced-clause-safe g c told geometry number owners log committed safe laid free =
    let B = g.B.Blocks in
    let changes = c.args.changes.now in
    let i = c.loop-change.change-index in
    let change = c.change-item.result in
    let inv = c.loop-change.invariant in
    let first = g.P.Part.shape c.args.part.now in
    let mid = inv.safe told geometry number owners log committed safe laid free in
    let one = c.set_forced.ensures.safe told geometry number owners log committed mid.1
    (subst (λ (s : Shape). IsLaidSo geometry log committed (part_no s).0 s
    (g.K.Kept.kept c.args.kept.now (part_no s))) (sym inv.shape) laid)
    (subst (λ (s : Shape). IsFreeIn log (part_no s).0 change.place) (sym inv.shape)
    (subst (λ (one : EntryChange). IsFreeIn log (part_no first).0 one.place) (sym c.change-item.is)
    (All-get_or (λ (one : EntryChange). IsFreeIn log (part_no first).0 one.place) changes i change
    c.loop-change-test.true free))) in (
      guards-then (B.seen c.args.blocks.now) (B.seen c.loop-change.blocks)
          (B.seen c.set_forced.new.blocks) (IsSafeImage geometry number owners log committed) mid.0
          one.0,
      one.1,
    )

pub returns-in_err-set_forced-clause-reads : goal.returns-in_err-set_forced-clause-reads
returns-in_err-set_forced-clause-reads g c all =
    let changes = c.args.changes.now in
    let i = c.loop-change.change-index in
    let change = c.change-item.result in
    let known = g.P.Part.known c.args.part.now in
    let has : HasMet known change.place =
    subst (λ (one : EntryChange). HasMet known one.place) (sym c.change-item.is)
    (All-get_or (λ (one : EntryChange). HasMet known one.place) changes i change
    c.loop-change-test.true all) in
    let write = c.in_err-set_forced.ensures.reads
    (c.loop-change.invariant.met all change.place has) in
    search rules

pub loop-change-preserved : goal.loop-change-preserved
loop-change-preserved g c =
    let B = g.B.Blocks in
    let changes = c.args.changes.now in
    let i = c.loop-change.change-index in
    let change = c.change-item.result in
    let inv = c.loop-change.invariant in
    let first = g.P.Part.shape c.args.part.now in
    let is : g.P.Part.shape c.loop-change.part ≡ first = inv.shape in
    let later = g.P.Part.known c.loop-change.part in
    let last = g.P.Part.known c.set_forced.new.part in
    let a = B.seen c.args.blocks.now in
    let b = B.seen c.loop-change.blocks in
    let d = B.seen c.set_forced.new.blocks in
    let apart = c.requires.apart in
    let at : (P : EntryChange → Type 0) → All P changes → P change =
    λ P all. subst P (sym c.change-item.is)
    (All-get_or P changes i change c.loop-change-test.true all) in
    let more : take (i + 1) changes ≡ take i changes ++ change ∷ [] =
    take_more changes i change c.loop-change-test.true
    ∙ ap (λ (one : EntryChange). take i changes ++ one ∷ []) (sym c.change-item.is) in
    record {
      shape = c.set_forced.ensures.shape ∙ inv.shape;
      count = c.set_forced.ensures.count ∙ inv.count;
      size = c.set_forced.ensures.size ∙ inv.size;
      faults = c.in_ok-set_forced.ensures.cause.ok ∙ inv.faults;
      split = c.set_forced.ensures.split ∙ inv.split;
      moves = c.set_forced.ensures.moves ∙ inv.moves;
      areas = c.set_forced.ensures.areas ∙ inv.areas;
      used = c.set_forced.ensures.used ∙ inv.used;
      start = λ zero. absurd (omega (arith, zero));
      rests = λ told owners still. subst (λ (s : Shape). IsAtRest s owners d) is
          (c.in_ok-set_forced.ensures.rests told owners
          (subst (λ (s : Shape). IsAtRest s owners b) (sym is) (inv.rests told owners still)));
      room = λ told. subst (λ (s : Shape).
          HasKeptRoom s (g.K.Kept.kept c.args.kept.now (part_no s)) d) is
          (c.in_ok-set_forced.ensures.room told);
      knows = λ told. subst (λ (s : Shape). Knows s last d) is
          (c.in_ok-set_forced.ensures.knows told);
      stages = λ told place.
          subst (λ (s : Shape). stage_of s last d.cur place ≡ stage_of s later b.cur place) is
          (c.in_ok-set_forced.ensures.stages told place) ∙ inv.stages told place;
      safe = λ told geometry number owners log committed safe laid free.
          let mid = inv.safe told geometry number owners log committed safe laid free in
          let one = c.set_forced.ensures.safe told geometry number owners log committed mid.1
          (subst (λ (s : Shape). IsLaidSo geometry log committed (part_no s).0 s
          (g.K.Kept.kept c.args.kept.now (part_no s))) (sym is) laid)
          (subst (λ (s : Shape). IsFreeIn log (part_no s).0 change.place) (sym is)
          (at (λ (one : EntryChange). IsFreeIn log (part_no first).0 one.place) free)) in (
            guards-then a b d (IsSafeImage geometry number owners log committed) mid.0 one.0,
            one.1,
          );
      set = λ told. set-more first changes i change apart more a.cur b.cur d.cur (inv.set told)
          (subst (λ (s : Shape). SetsOne s change.place change.bytes b.cur d.cur) is
          (c.in_ok-set_forced.ensures.set told));
      elsewhere = λ told. holds-more first changes i change apart more a b d (inv.elsewhere told)
          (subst (λ (s : Shape). HoldsNoMore s change.place b d) is
          (c.in_ok-set_forced.ensures.elsewhere told));
      firm = λ told all.
          let was = firm-here first changes i change apart more a b (inv.set told)
          (inv.elsewhere told)
          (at (λ (one : EntryChange). IsFirm first a one.place) all) in
          firm-more first changes i change apart more b d
          (subst (λ (s : Shape). SetsOne s change.place change.bytes b.cur d.cur) is
          (c.in_ok-set_forced.ensures.set told))
          (subst (λ (s : Shape). HoldsNoMore s change.place b d) is
          (c.in_ok-set_forced.ensures.elsewhere told))
          (inv.firm told all)
          (subst (λ (s : Shape). IsFirm s d change.place) is
          (c.in_ok-set_forced.ensures.firm told
          (subst (λ (s : Shape). IsFirm s b change.place) (sym is) was)));
      touches = λ told owners still. touches-then (InPart first owners) Anything a b d
          (inv.touches told owners still)
          (subst (λ (s : Shape). Touches (InPart s owners) Anything b d) is
          (c.set_forced.ensures.touches told owners
          (subst (λ (s : Shape). IsAtRest s owners b) (sym is) (inv.rests told owners still))));
      met = λ all place met. c.in_ok-set_forced.ensures.met
          (inv.met all change.place
          (at (λ (one : EntryChange). HasMet (g.P.Part.known c.args.part.now) one.place) all))
          place (inv.met all place met);
    }

pub returns-clause-elsewhere : goal.returns-clause-elsewhere
returns-clause-elsewhere g c told place found misses held =
    c.loop-change.invariant.elsewhere told place found
    (subst (MissAll place)
    (sym (take_all c.loop-change.change-index c.args.changes.now c.loop-change-test.false)) misses)
    held

pub returns-clause-firm : goal.returns-clause-firm
returns-clause-firm g c told firm =
    subst (All (λ (change : EntryChange). IsFirm (g.P.Part.shape c.args.part.now)
    (g.B.Blocks.seen c.loop-change.blocks) change.place))
    (take_all c.loop-change.change-index c.args.changes.now c.loop-change-test.false)
    (c.loop-change.invariant.firm told firm)
