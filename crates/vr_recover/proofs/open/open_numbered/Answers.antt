use Rattle.std.proofs.Common.{◌≡◌, ℕ, sym, ap, subst, ◌∙◌}
use Rattle.std.proofs.lemmas.Result.{err_from_is_err_and}
use Rattle.vr_types.specs.Content.{Content}
use Rattle.vr_types.specs.Image.{Image, block_at}
use Rattle.vr_types.specs.Moments.{Guards}
use Rattle.vr_types.specs.declared.geometry.Geometry.{Geometry}
use Rattle.vr_types.proofs.CallerLemmas.{keeps-then}
use Rattle.vr_attach.specs.Header.{header_block}
use Rattle.vr_volume.specs.PutBack.{images_of}
use Rattle.vr_recover.specs.Opening.{IsOpened}
use Rattle.vr_recover.specs.Recovered.{IsWhole, KeepsAll}
use Rattle.vr_recover.specs.declared.begun.Begun.{Begun}
use Rattle.vr_recover.proofs.OpenLemmas.{left-guards, left-then, none-then, opened-before}
use Rattle.vr_recover.proofs.OpenLemmas.{refused-before}
use Rattle.vr_recover.proofs.Refusals.{log-long}
use Rattle.vr_recover.proofs.open.open_numbered.Goals as goal

pub returns-in_err-begun-clause-any_moment : goal.returns-in_err-begun-clause-any_moment
returns-in_err-begun-clause-any_moment g c told geometry contents allowed of is =
    left-guards g.B.Blocks.tells
    (KeepsAll geometry c.args.number (images_of is.whole.log.records) contents)
    (g.B.Blocks.seen c.args.blocks.now) (g.B.Blocks.seen c.start.new.blocks) told
    (λ image there. g.met.B.Blocks.images_may c.args.blocks.now image told there)
    c.start.ensures.keeps

pub returns-in_err-found-clause-any_moment : goal.returns-in_err-found-clause-any_moment
returns-in_err-found-clause-any_moment g c told =
    let a = g.B.Blocks.seen c.args.blocks.now in
    let begun : Begun = c.in_ok-begun.begun.value in
    let b = g.B.Blocks.seen c.start.new.blocks in
    let d = g.B.Blocks.seen c.open_log.new.blocks in
    let further = subst (λ (one : Begun). (contents : ℕ → Content)
    → IsWhole one.geometry c.args.number contents b.cur
    → Guards b d (KeepsAll one.geometry c.args.number (images_of begun.content.records) contents))
    c.deref.ensures
    (subst (λ (one : Begun). (contents : ℕ → Content)
    → IsWhole c.deref.result.now.geometry c.args.number contents b.cur
    → Guards b d (KeepsAll c.deref.result.now.geometry c.args.number
    (images_of one.content.records) contents)) c.deref_mut.ensures.value
    (λ contents is. c.open_log.ensures.any_moment told c.args.number contents is)) in
    left-then g.B.Blocks.tells begun.geometry c.args.number begun.content a b d told
    (λ image there. g.met.B.Blocks.images_may c.args.blocks.now image told there)
    c.start.ensures.keeps c.in_ok-begun.ensures.allowed (c.in_ok-begun.ensures.header told)
    (c.in_ok-begun.ensures.spelled told)
    (log-long begun.geometry a c.in_ok-begun.ensures.allowed c.in_ok-begun.ensures.shape
    (g.met.B.Blocks.cur_may c.args.blocks.now told)
    (λ n block below may. g.met.B.Blocks.sized c.args.blocks.now n block told below may))
    further

pub returns-in_err-found-clause-refused : goal.returns-in_err-found-clause-refused
returns-in_err-found-clause-refused g c told =
    let geometry = c.deref.result.now.geometry in
    let same : geometry ≡ c.in_ok-begun.begun.value.geometry =
    ap (λ (b : Begun). b.geometry) c.deref.ensures in
    let a = g.B.Blocks.seen c.args.blocks.now in
    let b = g.B.Blocks.seen c.start.new.blocks in
    let call = c.start.ensures.keeps in
    let p = err_from_is_err_and c.from_residual-in_err-found.result
    c.from_residual-in_err-found.ensures.1 in
    rw (p.1, p.2) (refused-before a b call.count_same call.size_same (call.content told)
    c.args.number c.in_err-found.field-0.0
    (c.in_err-found.ensures.refused told c.args.number
    (ap (λ (i : Image). block_at i 0) (call.content told)
    ∙ c.in_ok-begun.ensures.header told
    ∙ ap (λ (g : Geometry). header_block g c.args.number) (sym same))))

pub returns-in_err-found-clause-kept : goal.returns-in_err-found-clause-kept
returns-in_err-found-clause-kept g c =
    let p = err_from_is_err_and c.from_residual-in_err-found.result
    c.from_residual-in_err-found.ensures.1 in
    rw (p.1, p.2) (λ said. keeps-then g.B.Blocks.tells (g.B.Blocks.seen c.args.blocks.now)
    (g.B.Blocks.seen c.start.new.blocks) (g.B.Blocks.seen c.open_log.new.blocks)
    c.start.ensures.keeps (c.in_err-found.ensures.kept said))

pub returns-clause-opened : goal.returns-clause-opened
returns-clause-opened g c told =
    let geometry = c.deref.result.now.geometry in
    let same : geometry ≡ c.in_ok-begun.begun.value.geometry =
    ap (λ (b : Begun). b.geometry) c.deref.ensures in
    let a = g.B.Blocks.seen c.args.blocks.now in
    let b = g.B.Blocks.seen c.start.new.blocks in
    let call = c.start.ensures.keeps in
    subst (λ (begun : Begun). IsOpened c.args.number geometry c.in_ok-found.found.catalog.value
    c.open_log.new.parts.items begun.log c.in_ok-found.found.space a
    (g.B.Blocks.seen c.open_log.new.blocks))
    (sym c.into_inner-log.ensures)
    (opened-before a b call.count_same call.size_same (call.content told) c.args.number geometry
    c.in_ok-found.found.catalog.value c.open_log.new.parts.items c.open_log.new.begun.log
    c.in_ok-found.found.space (g.B.Blocks.seen c.open_log.new.blocks)
    (c.in_ok-found.ensures.opened told c.args.number
    (ap (λ (i : Image). block_at i 0) (call.content told)
    ∙ c.in_ok-begun.ensures.header told
    ∙ ap (λ (g : Geometry). header_block g c.args.number) (sym same))))

pub returns-clause-any_moment : goal.returns-clause-any_moment
returns-clause-any_moment g c told =
    let a = g.B.Blocks.seen c.args.blocks.now in
    let begun : Begun = c.in_ok-begun.begun.value in
    let b = g.B.Blocks.seen c.start.new.blocks in
    let d = g.B.Blocks.seen c.open_log.new.blocks in
    let further = subst (λ (one : Begun). (contents : ℕ → Content)
    → IsWhole one.geometry c.args.number contents b.cur
    → Guards b d (KeepsAll one.geometry c.args.number (images_of begun.content.records) contents))
    c.deref.ensures
    (subst (λ (one : Begun). (contents : ℕ → Content)
    → IsWhole c.deref.result.now.geometry c.args.number contents b.cur
    → Guards b d (KeepsAll c.deref.result.now.geometry c.args.number
    (images_of one.content.records) contents)) c.deref_mut.ensures.value
    (λ contents is. c.open_log.ensures.any_moment told c.args.number contents is)) in
    left-then g.B.Blocks.tells begun.geometry c.args.number begun.content a b d told
    (λ image there. g.met.B.Blocks.images_may c.args.blocks.now image told there)
    c.start.ensures.keeps c.in_ok-begun.ensures.allowed (c.in_ok-begun.ensures.header told)
    (c.in_ok-begun.ensures.spelled told)
    (log-long begun.geometry a c.in_ok-begun.ensures.allowed c.in_ok-begun.ensures.shape
    (g.met.B.Blocks.cur_may c.args.blocks.now told)
    (λ n block below may. g.met.B.Blocks.sized c.args.blocks.now n block told below may))
    further

pub returns-in_err-found-clause-unwritten : goal.returns-in_err-found-clause-unwritten
returns-in_err-found-clause-unwritten g c told none =
    let geometry = c.deref.result.now.geometry in
    let same : geometry ≡ c.in_ok-begun.begun.value.geometry =
    ap (λ (b : Begun). b.geometry) c.deref.ensures in
    let a = g.B.Blocks.seen c.args.blocks.now in
    let b = g.B.Blocks.seen c.start.new.blocks in
    let call = c.start.ensures.keeps in
    let p = err_from_is_err_and c.from_residual-in_err-found.result
    c.from_residual-in_err-found.ensures.1 in
    rw p.1 (keeps-then g.B.Blocks.tells a b (g.B.Blocks.seen c.open_log.new.blocks) call
    (c.in_err-found.ensures.unwritten told c.args.number
    (ap (λ (i : Image). block_at i 0) (call.content told)
    ∙ c.in_ok-begun.ensures.header told
    ∙ ap (λ (g : Geometry). header_block g c.args.number) (sym same))
    (none-then a b call.count_same call.size_same (call.content told) c.args.number none)))
