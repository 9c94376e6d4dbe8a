use Rattle.std.proofs.Common.{◌∙◌, ⊎_elim, Bool, ap, refl, sym}
use Rattle.vr_space.specs.Part.{given}
use Rattle.vr_undo.specs.Records.{images_in}
use Rattle.vr_volume.specs.Committed.{committed_by}
use Rattle.vr_store.specs.Change.{log_with}
use Rattle.vr_store.proofs.SetRecords.{first-here, guards-again, guards-first, images-more, laid-here}
use Rattle.vr_store.proofs.SetRecords.{lengths-same, place-logged, rec-here, same-part, set-again}
use Rattle.vr_store.proofs.SetRecords.{step-again, step-first, to-puts}
use Rattle.vr_store.proofs.change.put_at.Goals as goal

pub set_again-requires-clause-rests : goal.set_again-requires-clause-rests
set_again-requires-clause-rests g c told = let quiet = c.requires.rests told in (quiet.0, quiet.2)

pub returns-in_err-set_again-clause-moments : goal.returns-in_err-set_again-clause-moments
returns-in_err-set_again-clause-moments g c told volume owners old new change images to =
    let log = c.args.log.now in
    let after = images_in c.args.undo.now in
    let prepared = c.args.prepared.now in
    let shape = g.P.Part.shape c.args.part.now in
    let known = g.P.Part.known c.args.part.now in
    let place = c.args.place.now in
    let found = given c.args.bytes in
    let a = g.B.Blocks.seen c.args.blocks.now in
    let logged = c.if-prepared.true in
    guards-again log.geometry volume owners log images after old new change prepared shape known
    place found a to logged (g.B.Blocks.seen c.set_again.new.blocks)
    (c.set_again.ensures.any_moment told volume owners old images to.volume to.part
    (place-logged log.geometry volume owners log images after old new change prepared shape known
    place found a to logged)
    (lengths-same log.geometry volume owners log images after old new change prepared shape known
    place found a to logged))

pub returns-in_ok-set_again-clause-moments : goal.returns-in_ok-set_again-clause-moments
returns-in_ok-set_again-clause-moments g c told volume owners old new change images to =
    let log = c.args.log.now in
    let after = images_in c.args.undo.now in
    let prepared = c.args.prepared.now in
    let shape = g.P.Part.shape c.args.part.now in
    let known = g.P.Part.known c.args.part.now in
    let place = c.args.place.now in
    let found = given c.args.bytes in
    let a = g.B.Blocks.seen c.args.blocks.now in
    let logged = c.if-prepared.true in
    guards-again log.geometry volume owners log images after old new change prepared shape known
    place found a to logged (g.B.Blocks.seen c.set_again.new.blocks)
    (c.set_again.ensures.any_moment told volume owners old images to.volume to.part
    (place-logged log.geometry volume owners log images after old new change prepared shape known
    place found a to logged)
    (lengths-same log.geometry volume owners log images after old new change prepared shape known
    place found a to logged))

pub returns-in_ok-set_again-clause-made : goal.returns-in_ok-set_again-clause-made
returns-in_ok-set_again-clause-made g c told volume owners old new change images to =
    let log = c.args.log.now in
    let after = images_in c.args.undo.now in
    let prepared = c.args.prepared.now in
    let shape = g.P.Part.shape c.args.part.now in
    let known = g.P.Part.known c.args.part.now in
    let place = c.args.place.now in
    let found = given c.args.bytes in
    let a = g.B.Blocks.seen c.args.blocks.now in
    let logged = c.if-prepared.true in
    let ensured = c.in_ok-set_again.ensures in
    let same = same-part log.geometry volume owners log images after old new change prepared shape
    known place found a to in
    let lengths = lengths-same log.geometry volume owners log images after old new change prepared
    shape known place found a to logged in
    set-again log.geometry volume owners log images after old new change prepared shape known place
    found a to logged (g.B.Blocks.seen c.set_again.new.blocks)
    (g.P.Part.known c.set_again.new.part)
    (g.P.Part.put c.set_again.new.part)
    (⊎_elim
    (λ next. ensured.next told volume owners old new change images to.volume to.part to.of next
    to.given lengths)
    (λ again. ensured.again told volume owners old new change images to.volume to.part to.of again
    to.given lengths)
    (step-again log.geometry volume owners log images after old new change prepared shape known
    place found a to logged))
    (λ other known' apart rested. ensured.others told volume owners old new change images other
    known' to.volume to.part to.of
    (to-puts log.geometry volume owners log images after old new change prepared shape known place
    found a to) to.given.part (λ is. apart (is ∙ sym same)) rested)
    (λ other known' apart rested. ensured.others_due told volume owners images old other known'
    to.volume to.part apart rested)
    (ensured.due told)

pub returns-in_err-change-clause-moments : goal.returns-in_err-change-clause-moments
returns-in_err-change-clause-moments g c told volume owners old new change images to =
    let log = c.args.log.now in
    let after = images_in c.args.undo.now in
    let prepared = c.args.prepared.now in
    let shape = g.P.Part.shape c.args.part.now in
    let known = g.P.Part.known c.args.part.now in
    let place = c.args.place.now in
    let found = given c.args.bytes in
    let a = g.B.Blocks.seen c.args.blocks.now in
    let logged = c.if-prepared.false in
    guards-first log.geometry volume owners log images after old new change prepared shape known
    place found a to logged (g.B.Blocks.seen c.change.new.blocks)
    (c.change.ensures.any_moment told volume owners (committed_by old) change.unit change.old
    (rec-here log.geometry volume owners log images after old new change prepared shape known place
    found a to logged)
    to.volume.safe
    (first-here log.geometry volume owners log images after old new change prepared shape known
    place found a to logged c.requires.place)
    (laid-here log.geometry volume owners log images after old new change prepared shape known place
    found a to logged))

pub returns-in_ok-change-clause-moments : goal.returns-in_ok-change-clause-moments
returns-in_ok-change-clause-moments g c told volume owners old new change images to =
    let log = c.args.log.now in
    let after = images_in c.args.undo.now in
    let prepared = c.args.prepared.now in
    let shape = g.P.Part.shape c.args.part.now in
    let known = g.P.Part.known c.args.part.now in
    let place = c.args.place.now in
    let found = given c.args.bytes in
    let a = g.B.Blocks.seen c.args.blocks.now in
    let logged = c.if-prepared.false in
    guards-first log.geometry volume owners log images after old new change prepared shape known
    place found a to logged (g.B.Blocks.seen c.change.new.blocks)
    (c.change.ensures.any_moment told volume owners (committed_by old) change.unit change.old
    (rec-here log.geometry volume owners log images after old new change prepared shape known place
    found a to logged)
    to.volume.safe
    (first-here log.geometry volume owners log images after old new change prepared shape known
    place found a to logged c.requires.place)
    (laid-here log.geometry volume owners log images after old new change prepared shape known place
    found a to logged))

pub returns-in_ok-change-clause-made : goal.returns-in_ok-change-clause-made
returns-in_ok-change-clause-made g c told volume owners old new change images to =
    let log = c.args.log.now in
    let after = images_in c.args.undo.now in
    let prepared = c.args.prepared.now in
    let shape = g.P.Part.shape c.args.part.now in
    let known = g.P.Part.known c.args.part.now in
    let place = c.args.place.now in
    let found = given c.args.bytes in
    let a = g.B.Blocks.seen c.args.blocks.now in
    let logged = c.if-prepared.false in
    let ensured = c.in_ok-change.ensures in
    let same = same-part log.geometry volume owners log images after old new change prepared shape
    known place found a to in
    let step = step-first log.geometry volume owners log images after old new change prepared shape
    known place found a to logged in
    let more = images-more log.geometry volume owners log images after old new change prepared shape
    known place found a to logged in
    let rests = ensured.at_rest told volume owners old new change images after to.volume to.part
    to.of step to.rec to.given more refl in
    record {
      volume = rests.0;
      part = rests.1;
      others = λ other known' apart rested. ensured.others told volume owners old new change images
          after other known' to.volume to.part to.of step to.given.part more
          (λ is. apart (is ∙ sym same)) rested;
      others_due = λ other known' apart rested. ensured.others_due told volume owners images old
          other known' to.volume to.part apart rested;
      due = ensured.due told;
    }

pub returns-in_ok-change-clause-records : goal.returns-in_ok-change-clause-records
returns-in_ok-change-clause-records g c = c.in_ok-change.ensures.records
    ∙ ap (λ (b : Bool). (log_with b c.args.log.now c.args.prepared.now.rec).records)
    (sym c.if-prepared.false)
