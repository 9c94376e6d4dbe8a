use Rattle.std.proofs.Common.{◌≡◌, ◌<◌, ◌++◌, ◌∷◌, [], ℕ, List, Some, ap, sym, subst, ◌∙◌, arith}
use Rattle.std.specs.Prelude.{slice_set}
use Rattle.vr_types.specs.Geometry.{area_count}
use Rattle.vr_types.specs.Image.{block_at}
use Rattle.vr_space.specs.Part.{NumberedShape, part_no}
use Rattle.vr_space.specs.Rosters.{Numbered, roster_block}
use Rattle.vr_attach.specs.Marked.{IsTakenIn}
use Rattle.vr_attach.proofs.CallerLemmas.{marks-more}
use Rattle.vr_chained.specs.Chain.{ChainNow}
use Rattle.vr_chained.specs.Walked.{AreChainMarked, IsReadOf, IsWalkedAt, IsWalkedOver}
use Rattle.vr_chained.proofs.Stepping.{found-bad, found-read, found-sound, further, read-most}
use Rattle.vr_chained.proofs.Stepping.{read-there}
use Rattle.vr_chained.proofs.Stepping.{step-bad, step-on, step-over, step-twice}
use Rattle.vr_chained.proofs.walk.step.Goals as goal

pub walk_area-requires-clause-area : goal.walk_area-requires-clause-area
walk_area-requires-clause-area g c =
    subst (λ (p : Numbered). c.last.result < area_count p.geometry) (sym c.layout.ensures)
    c.last.ensures.there

pub use_more-requires : goal.use_more-requires
use_more-requires g c =
    let part = c.args.chain.now.part in
    let read = found-read part c.layout.result.now c.layout.ensures c.in_ok-roster.field-0
    c.walk_area.new.top c.in-Ok.roster c.in-Ok.is c.in_ok-roster.ensures.read in
    omega (
      arith,
      c.requires.ready.used,
      read-most part c.walk_area.new.top c.in-Ok.roster.used c.in-Ok.roster.next read,
    )

pub go_on-requires-clause-there : goal.go_on-requires-clause-there
go_on-requires-clause-there g c =
    let part = c.args.chain.now.part in
    let read = found-read part c.layout.result.now c.layout.ensures c.in_ok-roster.field-0
    c.walk_area.new.top c.in-Ok.roster c.in-Ok.is c.in_ok-roster.ensures.read in
    subst (λ (chain : ChainNow). c.in-Some.next < area_count chain.part.geometry)
    (sym c.use_more.ensures)
    (read-there part c.walk_area.new.top c.in-Ok.roster.used c.in-Some.next
    (subst (IsReadOf part c.walk_area.new.top c.in-Ok.roster.used) c.in-Some.is read))

pub returns-in-Err-clause-bad : goal.returns-in-Err-clause-bad
returns-in-Err-clause-bad g c told before marks walk =
    let part = c.args.chain.now.part in
    let cur = (g.B.Blocks.seen c.args.blocks.now).cur in
    step-bad before c.args.taken.now cur c.args.chain.now c.last.result marks walk
    (c.last.ensures.last walk.before walk.area walk.listed) c.in-Err.damage.block
    c.in-Err.damage.rule
    (found-bad part c.layout.result.now c.layout.ensures c.in_ok-roster.field-0 cur c.last.result
    c.in-Err.damage c.in-Err.is (c.in_ok-roster.ensures.bad told))

pub returns-in_default-clause-walked : goal.returns-in_default-clause-walked
returns-in_default-clause-walked g c told before marks walk =
    let part = c.args.chain.now.part in
    let read = found-read part c.layout.result.now c.layout.ensures c.in_ok-roster.field-0
    c.walk_area.new.top c.in-Ok.roster c.in-Ok.is c.in_ok-roster.ensures.read in
    let cur = (g.B.Blocks.seen c.args.blocks.now).cur in
    let here : c.walk_area.new.top ≡ block_at cur (roster_block part c.last.result) =
    c.in_ok-roster.ensures.same told
    ∙ ap (λ (p : Numbered). block_at cur (roster_block p c.last.result)) c.layout.ensures in
    let sound = found-sound part c.layout.result.now c.layout.ensures c.in_ok-roster.field-0 cur
    c.last.result c.in-Ok.roster c.in-Ok.is (c.in_ok-roster.ensures.sound told) in
    subst (IsWalkedOver cur) (sym c.use_more.ensures)
    (step-over before c.args.taken.now cur c.args.chain.now c.last.result marks walk
    (c.last.ensures.last walk.before walk.area walk.listed) c.walk_area.new.top c.in-Ok.roster.used
    c.in-Ok.roster.next read here sound c.in_default.is)

pub returns-in-Ok-go_on-clause-marked : goal.returns-in-Ok-go_on-clause-marked
returns-in-Ok-go_on-clause-marked g c before marks =
    let part = c.args.chain.now.part in
    let read = found-read part c.layout.result.now c.layout.ensures c.in_ok-roster.field-0
    c.walk_area.new.top c.in-Ok.roster c.in-Ok.is c.in_ok-roster.ensures.read in
    let goes : c.go_on.new.chain
    ≡ further c.args.chain.now c.in-Ok.roster.used c.in-Some.next =
    c.in-Ok-go_on.ensures.chain
    ∙ ap (λ (chain : ChainNow). let now : ChainNow = record {
      part = chain.part;
      areas = chain.areas ++ c.in-Some.next ∷ [];
      used = chain.used;
    } in now) c.use_more.ensures in
    let there = read-there part c.walk_area.new.top c.in-Ok.roster.used c.in-Some.next
    (subst (IsReadOf part c.walk_area.new.top c.in-Ok.roster.used) c.in-Some.is read) in
    let taken : c.go_on.new.taken
    ≡ slice_set c.args.taken.now c.in-Some.next (Some (part_no (NumberedShape part))) =
    c.in-Ok-go_on.ensures.taken
    ∙ ap (λ (chain : ChainNow). slice_set c.args.taken.now c.in-Some.next
    (Some (part_no (NumberedShape chain.part)))) c.use_more.ensures in
    subst (λ (areas : List ℕ). AreChainMarked part areas before c.go_on.new.taken)
    (sym (ap (λ (chain : ChainNow). chain.areas) goes))
    (subst (AreChainMarked part (c.args.chain.now.areas ++ c.in-Some.next ∷ []) before) (sym taken)
    (marks-more (part_no (NumberedShape part)) part.first c.args.chain.now.areas before
    c.args.taken.now c.in-Some.next marks
    (omega (arith, there, c.requires.ready.count)) c.in-Ok-go_on.ensures.free))

pub returns-in-Ok-go_on-clause-walked : goal.returns-in-Ok-go_on-clause-walked
returns-in-Ok-go_on-clause-walked g c told before marks walk =
    let part = c.args.chain.now.part in
    let read = found-read part c.layout.result.now c.layout.ensures c.in_ok-roster.field-0
    c.walk_area.new.top c.in-Ok.roster c.in-Ok.is c.in_ok-roster.ensures.read in
    let cur = (g.B.Blocks.seen c.args.blocks.now).cur in
    let here : c.walk_area.new.top ≡ block_at cur (roster_block part c.last.result) =
    c.in_ok-roster.ensures.same told
    ∙ ap (λ (p : Numbered). block_at cur (roster_block p c.last.result)) c.layout.ensures in
    let sound = found-sound part c.layout.result.now c.layout.ensures c.in_ok-roster.field-0 cur
    c.last.result c.in-Ok.roster c.in-Ok.is (c.in_ok-roster.ensures.sound told) in
    let goes : c.go_on.new.chain
    ≡ further c.args.chain.now c.in-Ok.roster.used c.in-Some.next =
    c.in-Ok-go_on.ensures.chain
    ∙ ap (λ (chain : ChainNow). let now : ChainNow = record {
      part = chain.part;
      areas = chain.areas ++ c.in-Some.next ∷ [];
      used = chain.used;
    } in now) c.use_more.ensures in
    subst (IsWalkedAt (IsTakenIn before) cur) (sym goes)
    (step-on before c.args.taken.now cur c.args.chain.now c.last.result marks walk
    (c.last.ensures.last walk.before walk.area walk.listed) c.walk_area.new.top c.in-Ok.roster.used
    c.in-Ok.roster.next read here sound c.in-Some.next c.in-Some.is c.in-Ok-go_on.ensures.free
    (omega (arith, c.requires.ready.room, c.in-Ok-go_on.ensures.fewer)))

pub returns-in-Err-go_on-clause-bad : goal.returns-in-Err-go_on-clause-bad
returns-in-Err-go_on-clause-bad g c told before marks walk =
    let part = c.args.chain.now.part in
    let read = found-read part c.layout.result.now c.layout.ensures c.in_ok-roster.field-0
    c.walk_area.new.top c.in-Ok.roster c.in-Ok.is c.in_ok-roster.ensures.read in
    let cur = (g.B.Blocks.seen c.args.blocks.now).cur in
    let here : c.walk_area.new.top ≡ block_at cur (roster_block part c.last.result) =
    c.in_ok-roster.ensures.same told
    ∙ ap (λ (p : Numbered). block_at cur (roster_block p c.last.result)) c.layout.ensures in
    let sound = found-sound part c.layout.result.now c.layout.ensures c.in_ok-roster.field-0 cur
    c.last.result c.in-Ok.roster c.in-Ok.is (c.in_ok-roster.ensures.sound told) in
    step-twice before c.args.taken.now cur c.args.chain.now c.last.result marks walk
    (c.last.ensures.last walk.before walk.area walk.listed) c.walk_area.new.top c.in-Ok.roster.used
    c.in-Ok.roster.next read here sound c.in-Some.next c.in-Some.is c.in-Err-go_on.ensures.owned
    c.in-Err-go_on.damage.block
    (c.in-Err-go_on.ensures.block
    ∙ ap (λ (chain : ChainNow). roster_block chain.part c.in-Some.next) c.use_more.ensures)
    c.in-Err-go_on.damage.rule c.in-Err-go_on.ensures.rule
