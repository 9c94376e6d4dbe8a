use Rattle.std.proofs.Common.{sym, subst}
use Rattle.vr_types.specs.Blocks.{Puts}
use Rattle.vr_types.proofs.CallerLemmas.{keeps-none, keeps-puts}
use Rattle.vr_device.proofs.file_device.FileDeviceBlockDevice.write.Goals as goal

pub returns-then-self-clause-after : goal.returns-then-self-clause-after
returns-then-self-clause-after g c =
    let F = g.F.BlockFile in
    let file = c.args.self.now.file in
    subst (λ now. Puts F.tells c.args.n c.args.from.now (F.seen file) (F.seen now))
    (sym c.fail.ensures.file)
    (keeps-puts F.tells c.args.n c.args.from.now (F.seen file) (F.seen file)
    (keeps-none F.tells (F.seen file) (λ told image left. g.met.F.BlockFile.images_may file image
    told left)))
