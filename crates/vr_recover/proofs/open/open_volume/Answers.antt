use Rattle.vr_volume.specs.PutBack.{images_of}
use Rattle.vr_recover.proofs.OpenLemmas.{all-guards, kept-guards}
use Rattle.vr_recover.proofs.Wholes.{recovers-whole, whole}
use Rattle.vr_recover.proofs.open.open_volume.Goals as goal

pub returns-clause-any_moment : goal.returns-clause-any_moment
returns-clause-any_moment g c told geometry contents is =
    let a = g.B.Blocks.seen c.args.blocks.now in
    let had = recovers-whole geometry c.args.number a.cur contents is.recovers in
    kept-guards geometry c.args.number (images_of had.whole.log.records) a
    (g.B.Blocks.seen c.open_numbered.new.blocks) contents is.recovers
    (c.open_numbered.ensures.any_moment told geometry
    (whole geometry c.args.number a.cur contents is.recovers) is.allowed is.shape had)

pub returns-clause-items : goal.returns-clause-items
returns-clause-items g c told geometry contents has =
    c.open_numbered.ensures.any_moment told geometry contents has.volume.allowed has.volume.shape
    (record {
      recovers = has.volume.recovers;
      whole = has.whole;
      ascends = has.ascends;
      others = has.others;
    })

pub returns-clause-recovers : goal.returns-clause-recovers
returns-clause-recovers g c told geometry contents allowed of all =
    let a = g.B.Blocks.seen c.args.blocks.now in
    let is = all a.cur (g.met.B.Blocks.cur_may c.args.blocks.now told) in
    let had = recovers-whole geometry c.args.number a.cur contents is in
    all-guards geometry c.args.number contents a (g.B.Blocks.seen c.open_numbered.new.blocks) all
    (kept-guards geometry c.args.number (images_of had.whole.log.records) a
    (g.B.Blocks.seen c.open_numbered.new.blocks) contents is
    (c.open_numbered.ensures.any_moment told geometry
    (whole geometry c.args.number a.cur contents is) allowed of had))
