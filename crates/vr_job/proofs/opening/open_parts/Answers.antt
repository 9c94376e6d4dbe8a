use Rattle.vr_recover.specs.Recovered.{standing_all}
use Rattle.vr_job.proofs.Readying.{handed-from, handed-ready, from-same, ready-same}
use Rattle.vr_job.specs.Opened.{opened_now}
use Rattle.std.proofs.Common.{map}
use Rattle.vr_job.proofs.opening.open_parts.Goals as goal

pub returns-clause-ready : goal.returns-clause-ready
returns-clause-ready g c =
    let o = c.in_ok-opened.opened in
    let f = c.in_ok-found.found.value in
    let now = g.B.Blocks.seen c.open_whole.new.blocks in
    ready-same f.geometry o.geometry f.catalog.value o.catalog.value _ (map opened_now o.parts.items)
    f.log o.log c.in_ok-found.ensures.geometry c.in_ok-found.ensures.catalog
    c.in_ok-found.ensures.parts c.in_ok-found.ensures.log f.space o.space now
    c.in_ok-found.ensures.space
    (handed-ready o.geometry o.catalog.value o.parts.items o.log o.space now
    c.in_ok-opened.ensures.handed)

pub returns-clause-from : goal.returns-clause-from
returns-clause-from g c told =
    let o = c.in_ok-opened.opened in
    let f = c.in_ok-found.found.value in
    let old = g.B.Blocks.seen c.args.blocks.now in
    let now = g.B.Blocks.seen c.open_whole.new.blocks in
    let is = c.in_ok-opened.ensures.opened told in (
      is.0,
      from-same f.geometry o.geometry f.catalog.value o.catalog.value _ (map opened_now o.parts.items)
          f.log o.log c.in_ok-found.ensures.geometry c.in_ok-found.ensures.catalog
          c.in_ok-found.ensures.parts c.in_ok-found.ensures.log f.space o.space c.args.number is.0
          old now c.in_ok-found.ensures.space
          (handed-from o.geometry o.catalog.value o.parts.items o.log o.space now
          c.in_ok-opened.ensures.handed c.args.number is.0 old is.1),
    )

-- what was opened is a volume
pub returns-in_err-found-clause-unwritten : goal.returns-in_err-found-clause-unwritten
returns-in_err-found-clause-unwritten g c told none =
    let is = c.in_ok-opened.ensures.opened told in
    absurd (none c.in_ok-opened.opened.geometry (standing_all is.0) is.1.volume)
