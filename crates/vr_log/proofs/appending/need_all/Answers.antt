use Rattle.std.proofs.Common.{◌≡◌, ◌∷◌, ◌++◌, ◌+◌, ℕ, Bool, [], List, refl, sym, ap, subst, ◌∙◌, take, arith}
use Rattle.std.proofs.lemmas.List.{take_all, take_more}
use Rattle.std.proofs.lemmas.List.Elements.{All-get_or}
use Rattle.std.specs.Prelude.{if◌then◌else◌}
use Rattle.vr_types.specs.LogSpace.{end_length}
use Rattle.vr_log.specs.Live.{IsBeforeOf, live_in, need_of_all}
use Rattle.vr_log.specs.declared.record.LogRecord.{LogRecord}
use Rattle.vr_log.proofs.AllNeeds.{need-more, there-more}
use Rattle.vr_log.proofs.appending.need_all.Goals as goal

pub loop-rec-preserved : goal.loop-rec-preserved
loop-rec-preserved c =
    let live = live_in c.args.log.now.records in
    let records = c.args.records.now in
    let i = c.loop-rec.rec-index in
    let rec = c.rec-item.result in
    let more : take (i + 1) records ≡ take i records ++ rec ∷ [] =
    take_more records i rec c.loop-rec-test.true
    ∙ ap (λ (r : LogRecord). take i records ++ r ∷ []) (sym c.rec-item.is) in
    let mine : IsBeforeOf c.args.unit rec =
    subst (IsBeforeOf c.args.unit) (sym c.rec-item.is)
    (All-get_or (IsBeforeOf c.args.unit) records i rec c.loop-rec-test.true c.requires.unit) in
    record {
      need = ap (λ (n : ℕ). n + (c.record_length.result + c.end_room.result))
          c.loop-rec.invariant.need
          ∙ need-more live c.args.unit records c.requires.unit i rec c.loop-rec-test.true more mine
          c.record_length.result c.end_room.result c.record_length.ensures.value
          (c.end_room.ensures.value
          ∙ ap (λ (b : Bool). if b then 0 else end_length) c.loop-rec.invariant.there);
      there = sym (there-more live c.args.unit records c.requires.unit i rec c.loop-rec-test.true
          more mine);
      most = omega (
        arith,
        c.loop-rec.invariant.most,
        c.record_length.ensures.most,
        c.end_room.ensures.most,
      );
    }

pub returns-clause-value : goal.returns-clause-value
returns-clause-value c =
    c.loop-rec.invariant.need
    ∙ ap (need_of_all (live_in c.args.log.now.records))
    (take_all c.loop-rec.rec-index c.args.records.now c.loop-rec-test.false)

pub returns-clause-most : goal.returns-clause-most
returns-clause-most c = omega (
  arith,
  c.loop-rec.invariant.most,
  c.requires.few,
  c.loop-rec.auto.rec-index-end,
)
