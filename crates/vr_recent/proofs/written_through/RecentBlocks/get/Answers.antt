use Rattle.std.proofs.Common.{◌≡◌, ◌∙◌, arith, length, refl}
use Rattle.std.proofs.lemmas.List.{with_items_is}
use Rattle.vr_types.proofs.CallerLemmas.{cause-ok}
use Rattle.vr_recent.proofs.Buffers.{lent_content, lent_length}
use Rattle.vr_recent.proofs.written_through.RecentBlocks.get.Goals as goal

pub returns-in-Ok : goal.returns-in-Ok
returns-in-Ok g c =
    let tells = g.D.BlockDevice.tells in
    let faults = g.D.BlockDevice.faults in
    let old = c.self.inside in
    let before = g.D.BlockDevice.seen old.device in
    let after = g.D.BlockDevice.seen c.bring.new.device in
    let e = c.bring.ensures in
    let first = c.in-Ok.ensures.first in
    let sized : length c.bring.new.buffers ≡ old.buffers.len = grind arith in
    let same : c.deref.result.now ≡ c.bring.new.buffers = c.deref.ensures.value
    ∙ with_items_is old.buffers c.bring.new.buffers sized in
    rw (← c.self.view_is) (
      (
        refl,
        (λ _. tt),
        (
          e.after,
          cause-ok (faults old.device) (faults c.bring.new.device) c.first.result
              c.in-Ok.ensures.fault.0,
        ),
      ),
      record {
        content = lent_content tells before after c.args.n _ _
            c.bring.new.buffers c.first.result.now e.after e.of first
            (λ b rest is. c.first.ensures b rest (same ∙ is));
        length = lent_length tells before after c.args.n _ _
            c.bring.new.buffers c.first.result.now e.after e.of first
            (λ b rest is. c.first.ensures b rest (same ∙ is));
        after = tt;
      },
    )
