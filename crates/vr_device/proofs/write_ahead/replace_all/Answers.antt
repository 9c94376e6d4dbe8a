use Rattle.std.proofs.Common.{◌≡◌, ◌<◌, length, refl, sym, ◌∙◌, arith}
use Rattle.std.proofs.lemmas.List.{length-map}
use Rattle.vr_device.specs.WriteAhead.{IsContent}
use Rattle.vr_device.specs.PastEvent.{blocks_of}
use Rattle.vr_device.proofs.WriteAhead.{made-none, made-more, made-next, content-at, content-has}
use Rattle.vr_device.proofs.write_ahead.replace_all.Goals as goal

pub loop-content-init : goal.loop-content-init
loop-content-init g c =
    let B = g.B.Blocks in
    let a = c.args in (
      made-none B.tells a.log a.home (blocks_of a.contents.now)
          (B.seen a.blocks.now) c.requires.log_in c.requires.home_in
          (λ told image left. g.met.B.Blocks.images_may a.blocks.now image told left)
          c.requires.settled,
      refl,
    )

pub replace-requires-clause-content : goal.replace-requires-clause-content
replace-requires-clause-content g c =
    content-has IsContent c.args.contents.now c.loop-content.content-index c.content-item.result
    c.deref.result.now c.requires.contents c.loop-content-test.true c.content-item.is
    c.deref.ensures.value

pub replace-requires-clause-whole : goal.replace-requires-clause-whole
replace-requires-clause-whole g c =
    content-has (λ content. length content ≡ (g.B.Blocks.seen c.args.blocks.now).size)
    c.args.contents.now c.loop-content.content-index c.content-item.result c.deref.result.now
    c.requires.whole c.loop-content-test.true c.content-item.is c.deref.ensures.value
    ∙ sym c.loop-content.invariant.0.size_same

pub returns-in_err-replace-clause-any_moment : goal.returns-in_err-replace-clause-any_moment
returns-in_err-replace-clause-any_moment g c told =
    let B = g.B.Blocks in
    let a = c.args in
    let below : c.loop-content.content-index < length (blocks_of a.contents.now) =
    omega (arith, c.loop-content-test.true, length-map a.contents.now (λ v. v.items)) in
    made-more B.tells a.log a.home (blocks_of a.contents.now) (B.seen a.blocks.now)
    (B.seen c.loop-content.blocks) (B.seen c.replace.new.blocks) c.loop-content.content-index
    c.deref.result.now below
    (content-at a.contents.now c.loop-content.content-index c.content-item.result
    c.deref.result.now c.loop-content-test.true c.content-item.is c.deref.ensures.value)
    c.loop-content.invariant.0 told (c.replace.ensures.any_moment told)

pub loop-content-preserved : goal.loop-content-preserved
loop-content-preserved g c =
    let B = g.B.Blocks in
    let a = c.args in
    let below : c.loop-content.content-index < length (blocks_of a.contents.now) =
    omega (arith, c.loop-content-test.true, length-map a.contents.now (λ v. v.items)) in (
      made-next B.tells a.log a.home (blocks_of a.contents.now) (B.seen a.blocks.now)
          (B.seen c.loop-content.blocks) (B.seen c.replace.new.blocks) c.loop-content.content-index
          c.deref.result.now below
          (content-at a.contents.now c.loop-content.content-index c.content-item.result
          c.deref.result.now c.loop-content-test.true c.content-item.is c.deref.ensures.value)
          c.loop-content.invariant.0 c.replace.ensures.count c.replace.ensures.size
          c.replace.ensures.any_moment c.in_ok-replace.ensures.settled
          c.in_ok-replace.ensures.content,
      c.in_ok-replace.ensures.cause.ok ∙ c.loop-content.invariant.1,
    )
