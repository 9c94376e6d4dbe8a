use Rattle.std.proofs.Common.{List, length, sym, ap, ◌∙◌, refl}
use Rattle.vr_types.specs.Image.{Image, block_at}
use Rattle.vr_types.proofs.CallerLemmas.{cause-ok}
use Rattle.vr_resident.specs.Seeing.{length-block_in}
use Rattle.vr_resident.specs.Held.{Held, overlay}
use Rattle.vr_resident.proofs.Steps.{keeps_through, first_content, same_held}
use Rattle.vr_resident.proofs.Steps.{cause_err, gets_ok, gets_err}
use Rattle.vr_resident.proofs.write_back.ResidentBlocks.get.Goals as goal

pub returns-in-Ok : goal.returns-in-Ok
returns-in-Ok g c =
    let tells = g.D.BlockDevice.tells in
    let seen = g.D.BlockDevice.seen in
    let old = c.self.inside in
    let new = c.bring.new.frames in
    let device = c.bring.new.device in
    let e = c.bring.ensures in
    let f = c.in-Ok.ensures.first in
    let bytes = c.first.ensures f.number f.changed f.buffer f.rest f.split in
    rw (← c.self.view_is) (
      (
        refl,
        (λ _. tt),
        (
          keeps_through tells (seen old.device) (seen device) old.frames new
              c.self.invariant.size_is e.kept.size_is e.after,
          cause-ok (g.D.BlockDevice.faults old.device) (g.D.BlockDevice.faults device)
              c.first.result c.in-Ok.ensures.cause.ok,
          gets_ok c.args.n f.number f.changed f.buffer f.rest c.first.result old.frames new
              c.in-Ok.ensures.ok f.split bytes e.seat,
        ),
      ),
      record {
        content = λ told. bytes
            ∙ (sym (first_content tells (seen device) new c.args.n f.number f.changed f.buffer
            f.rest e.kept f.split told (g.met.D.BlockDevice.cur_may device told).length_is)
            ∙ (ap (λ (i : Image). block_at i c.args.n) (e.after.content told)
            ∙ ap (λ (hs : List Held). block_at (overlay (seen old.device).cur hs) c.args.n)
            (sym (same_held (seen old.device) old.frames c.self.invariant.size_is))));
        after = tt;
        length = ap length bytes
            ∙ (length-block_in new.size f.buffer ∙ (e.kept.size_is ∙ e.after.size_same));
      },
    )

pub returns-in-Err : goal.returns-in-Err
returns-in-Err g c =
    let tells = g.D.BlockDevice.tells in
    let seen = g.D.BlockDevice.seen in
    let faults = g.D.BlockDevice.faults in
    let old = c.self.inside in
    let new = c.bring.new in
    let e = c.bring.ensures in
    let f = c.in-Err.ensures in
    rw (← c.self.view_is) (
      (
        refl,
        (λ _. tt),
        (
          keeps_through tells (seen old.device) (seen new.device) old.frames new.frames
              c.self.invariant.size_is e.kept.size_is e.after,
          cause_err (faults old.device) (faults new.device) c.in-Err.fault f.cause,
          gets_err c.args.n c.in-Err.fault old.frames new.frames f.unread f.unwritten e.seat,
        ),
      ),
      record { content = λ told. tt; length = tt; after = tt },
    )
