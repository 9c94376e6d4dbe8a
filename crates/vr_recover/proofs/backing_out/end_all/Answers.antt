use Rattle.std.proofs.Common.{◌≡◌, ◌∙◌, ap, subst}
use Rattle.vr_types.specs.Moments.{Guards}
use Rattle.vr_types.specs.Regions.{Touches}
use Rattle.vr_types.specs.declared.geometry.Geometry.{Geometry}
use Rattle.vr_types.proofs.CallerLemmas.{guards-keeps, guards-then, keeps-touches, touches-then}
use Rattle.vr_log.specs.LogNow.{LogNow}
use Rattle.vr_log.specs.Standing.{InLog}
use Rattle.vr_volume.proofs.LogCalls.{forced-geometry}
use Rattle.vr_mount.specs.Touched.{Anything}
use Rattle.vr_recover.specs.Recovered.{KeepsAll}
use Rattle.vr_recover.specs.Undone.{IsUndone, alike}
use Rattle.vr_recover.proofs.BeginningAgain.{forced-undone}
use Rattle.vr_recover.proofs.backing_out.end_all.Goals as goal

pub returns-in_err-force_log-clause-any_moment : goal.returns-in_err-force_log-clause-any_moment
returns-in_err-force_log-clause-any_moment g c told number owners images contents undone
    fewer =
    guards-keeps g.B.Blocks.tells (g.B.Blocks.seen c.args.blocks.now)
    (g.B.Blocks.seen c.back_out_all.new.blocks) (g.B.Blocks.seen c.force_log.new.blocks)
    (KeepsAll c.args.log.now.geometry number images contents)
    (c.back_out_all.ensures.any_moment told number owners images contents undone fewer)
    c.force_log.ensures.keeps told

pub returns-in_err-begin_again-clause-any_moment : goal.returns-in_err-begin_again-clause-any_moment
returns-in_err-begin_again-clause-any_moment g c told number owners images contents undone fewer =
    let a = g.B.Blocks.seen c.args.blocks.now in
    let b = g.B.Blocks.seen c.back_out_all.new.blocks in
    let d = g.B.Blocks.seen c.force_log.new.blocks in
    let ended = c.back_out_all.new.log in
    let mid = c.force_log.new.log in
    let same : mid.geometry ≡ ended.geometry =
    ap (λ (l : LogNow). l.geometry) c.in_ok-force_log.ensures.forced ∙ forced-geometry ended in
    let e = g.B.Blocks.seen c.begin_again.new.blocks in
    let middle : IsUndone number owners mid contents d =
    forced-undone number owners ended mid contents b d
    (c.in_ok-back_out_all.ensures.undone told number owners contents undone)
    (c.in_ok-back_out_all.ensures.stands told).forced same
    (c.in_ok-force_log.ensures.after told number owners (alike contents)
    (c.in_ok-back_out_all.ensures.undone told number owners contents undone).safe)
    (λ n block below may. c.force_log.ensures.keeps.adds_none told n block below may) in
    guards-then a d e (KeepsAll c.args.log.now.geometry number images contents)
    (guards-keeps g.B.Blocks.tells a b d (KeepsAll c.args.log.now.geometry number images contents)
    (c.back_out_all.ensures.any_moment told number owners images contents undone fewer)
    c.force_log.ensures.keeps told)
    (subst (λ (geometry : Geometry). Guards d e (KeepsAll geometry number images contents))
    (same ∙ c.in_ok-back_out_all.ensures.geometry)
    (c.begin_again.ensures.any_moment told number owners images contents middle))

pub returns-clause-any_moment : goal.returns-clause-any_moment
returns-clause-any_moment g c told number owners images contents undone fewer =
    let a = g.B.Blocks.seen c.args.blocks.now in
    let b = g.B.Blocks.seen c.back_out_all.new.blocks in
    let d = g.B.Blocks.seen c.force_log.new.blocks in
    let ended = c.back_out_all.new.log in
    let mid = c.force_log.new.log in
    let same : mid.geometry ≡ ended.geometry =
    ap (λ (l : LogNow). l.geometry) c.in_ok-force_log.ensures.forced ∙ forced-geometry ended in
    let e = g.B.Blocks.seen c.begin_again.new.blocks in
    let middle : IsUndone number owners mid contents d =
    forced-undone number owners ended mid contents b d
    (c.in_ok-back_out_all.ensures.undone told number owners contents undone)
    (c.in_ok-back_out_all.ensures.stands told).forced same
    (c.in_ok-force_log.ensures.after told number owners (alike contents)
    (c.in_ok-back_out_all.ensures.undone told number owners contents undone).safe)
    (λ n block below may. c.force_log.ensures.keeps.adds_none told n block below may) in
    guards-then a d e (KeepsAll c.args.log.now.geometry number images contents)
    (guards-keeps g.B.Blocks.tells a b d (KeepsAll c.args.log.now.geometry number images contents)
    (c.back_out_all.ensures.any_moment told number owners images contents undone fewer)
    c.force_log.ensures.keeps told)
    (subst (λ (geometry : Geometry). Guards d e (KeepsAll geometry number images contents))
    (same ∙ c.in_ok-back_out_all.ensures.geometry)
    (c.begin_again.ensures.any_moment told number owners images contents middle))

pub returns-clause-undone : goal.returns-clause-undone
returns-clause-undone g c told number owners contents undone =
    let b = g.B.Blocks.seen c.back_out_all.new.blocks in
    let d = g.B.Blocks.seen c.force_log.new.blocks in
    let ended = c.back_out_all.new.log in
    let mid = c.force_log.new.log in
    let same : mid.geometry ≡ ended.geometry =
    ap (λ (l : LogNow). l.geometry) c.in_ok-force_log.ensures.forced ∙ forced-geometry ended in
    c.in_ok-begin_again.ensures.undone told number owners contents
    (forced-undone number owners ended mid contents b d
    (c.in_ok-back_out_all.ensures.undone told number owners contents undone)
    (c.in_ok-back_out_all.ensures.stands told).forced same
    (c.in_ok-force_log.ensures.after told number owners (alike contents)
    (c.in_ok-back_out_all.ensures.undone told number owners contents undone).safe)
    (λ n block below may. c.force_log.ensures.keeps.adds_none told n block below may))

pub returns-in_err-begin_again-clause-touches : goal.returns-in_err-begin_again-clause-touches
returns-in_err-begin_again-clause-touches g c told =
    let log = c.args.log.now in
    let a = g.B.Blocks.seen c.args.blocks.now in
    let b = g.B.Blocks.seen c.back_out_all.new.blocks in
    let d = g.B.Blocks.seen c.force_log.new.blocks in
    let ended = c.back_out_all.new.log in
    let mid = c.force_log.new.log in
    let same : mid.geometry ≡ ended.geometry =
    ap (λ (l : LogNow). l.geometry) c.in_ok-force_log.ensures.forced ∙ forced-geometry ended in
    let e = g.B.Blocks.seen c.begin_again.new.blocks in
    touches-then (InLog log.geometry) Anything a d e
    (touches-then (InLog log.geometry) Anything a b d (c.back_out_all.ensures.touches told)
    (keeps-touches g.B.Blocks.tells (InLog log.geometry) Anything b d told
    c.force_log.ensures.keeps (λ image left. tt)))
    (subst (λ (geometry : Geometry). Touches (InLog geometry) Anything d e)
    (same ∙ c.in_ok-back_out_all.ensures.geometry) (c.begin_again.ensures.touches told))

pub returns-clause-touches : goal.returns-clause-touches
returns-clause-touches g c told =
    let log = c.args.log.now in
    let a = g.B.Blocks.seen c.args.blocks.now in
    let b = g.B.Blocks.seen c.back_out_all.new.blocks in
    let d = g.B.Blocks.seen c.force_log.new.blocks in
    let ended = c.back_out_all.new.log in
    let mid = c.force_log.new.log in
    let same : mid.geometry ≡ ended.geometry =
    ap (λ (l : LogNow). l.geometry) c.in_ok-force_log.ensures.forced ∙ forced-geometry ended in
    let e = g.B.Blocks.seen c.begin_again.new.blocks in
    touches-then (InLog log.geometry) Anything a d e
    (touches-then (InLog log.geometry) Anything a b d (c.back_out_all.ensures.touches told)
    (keeps-touches g.B.Blocks.tells (InLog log.geometry) Anything b d told
    c.force_log.ensures.keeps (λ image left. tt)))
    (subst (λ (geometry : Geometry). Touches (InLog geometry) Anything d e)
    (same ∙ c.in_ok-back_out_all.ensures.geometry) (c.begin_again.ensures.touches told))

pub returns-in_err-force_log-clause-touches : goal.returns-in_err-force_log-clause-touches
returns-in_err-force_log-clause-touches g c told =
    let log = c.args.log.now in
    let b = g.B.Blocks.seen c.back_out_all.new.blocks in
    let d = g.B.Blocks.seen c.force_log.new.blocks in
    touches-then (InLog log.geometry) Anything (g.B.Blocks.seen c.args.blocks.now) b d
    (c.back_out_all.ensures.touches told)
    (keeps-touches g.B.Blocks.tells (InLog log.geometry) Anything b d told c.force_log.ensures.keeps
    (λ image left. tt))
