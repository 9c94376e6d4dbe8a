use Rattle.vr_recover.proofs.CallerLemmas.{outlives-crash, outlives-opening}
use Rattle.vr_job.proofs.Addresses.{never-given, run-contents, settled-then}
use Rattle.vr_job.proofs.laws.no_address_is_given_again.Goals as goal

pub returns-clause-settles : goal.returns-clause-settles
returns-clause-settles g c number shape catalog end entries old ended new run before after both part
    is stays place held unlogged counted =
    let D = g.D.BlockDevice in
    settled-then D.tells D.seen D.faults number shape catalog end entries old ended new run before
    after both part is stays place held unlogged counted

pub returns-clause-crash : goal.returns-clause-crash
returns-clause-crash g c number shape catalog end entries old ended new run state counted is part
    place settled =
    let D = g.D.BlockDevice in
    outlives-crash run.geometry number run.contents (D.seen old)
    (run-contents D.tells D.seen D.faults number shape catalog end entries old ended new run)
    state counted is part place settled

pub returns-clause-opening : goal.returns-clause-opening
returns-clause-opening g c number shape catalog end entries old ended new run images contents is
    part place settled =
    let D = g.D.BlockDevice in
    outlives-opening run.geometry number run.contents (D.seen old)
    (run-contents D.tells D.seen D.faults number shape catalog end entries old ended new run)
    images contents is part place settled

pub returns-clause-given : goal.returns-clause-given
returns-clause-given g c number shape catalog end entries old ended new run =
    let D = g.D.BlockDevice in
    never-given D.tells D.seen D.faults number shape catalog end entries old ended new run
