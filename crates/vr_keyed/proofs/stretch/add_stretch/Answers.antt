use Rattle.std.proofs.Common.{◌≡◌, ◌-◌, ◌∷◌, ◌++◌, refl, sym, ap, subst, ◌∙◌}
use Rattle.std.proofs.Common.{rules, arith, length, true≢false}
use Rattle.std.specs.List.{AllByRecursion}
use Rattle.vr_ci.specs.Interval as ci
use Rattle.vr_ci.specs.Writer.{size_of}
use Rattle.vr_keyed.proofs.Adding.{adding-room, adding-kept, adding-more}
use Rattle.vr_keyed.proofs.stretch.add_stretch.Goals as goal

pub returns-then-not-add_wanted-clause-added : goal.returns-then-not-add_wanted-clause-added
returns-then-not-add_wanted-clause-added c items holds kept fits =
    let part = c.args.layout.now in
    let stretch = c.args.stretch.now in
    let all = c.args.view.now.items in
    let item : ci.Item = record { bytes = c.in-Some.bytes.now; live = c.in-Some.live } in
    let cut : c.loop-i.records ≡ item ∷ c.next.new.self = search rules in
    let adding = c.loop-i.invariant.added items holds kept fits in
    let size : size_of c.loop-i.writer ≡ size_of c.args.writer.now = c.loop-i.invariant.size in
    absurd (true≢false (sym (c.add_wanted.ensures.added (items ++ adding.done) item adding.holds
    refl refl
    (adding-kept part stretch items all c.loop-i.records c.next.new.self item c.loop-i.writer cut
    adding)
    (adding-room part stretch items all c.loop-i.records c.next.new.self item c.loop-i.writer
    (size_of c.loop-i.writer - 4) cut adding (omega (arith, fits, size)))).0
    ∙ c.if-not-add_wanted.true))

pub loop-i-preserved : goal.loop-i-preserved
loop-i-preserved c =
    let part = c.args.layout.now in
    let stretch = c.args.stretch.now in
    let all = c.args.view.now.items in
    let item : ci.Item = record { bytes = c.in-Some.bytes.now; live = c.in-Some.live } in
    let cut : c.loop-i.records ≡ item ∷ c.next.new.self = search rules in
    let size : size_of c.loop-i.writer ≡ size_of c.args.writer.now = c.loop-i.invariant.size in
    record {
      form = c.add_wanted.ensures.form ∙ c.loop-i.invariant.form;
      size = c.add_wanted.ensures.size ∙ size;
      buffer = c.add_wanted.ensures.buffer ∙ c.loop-i.invariant.buffer;
      items = (subst (AllByRecursion ci.IsItem) cut c.loop-i.invariant.items).1;
      count = omega (arith, ap length cut, c.loop-i.invariant.count);
      added = λ items holds kept fits.
          let adding = c.loop-i.invariant.added items holds kept fits in
          adding-more part stretch items all c.loop-i.records c.next.new.self item
          c.loop-i.writer c.add_wanted.new.writer cut adding
          (c.add_wanted.ensures.added (items ++ adding.done) item adding.holds refl refl
          (adding-kept part stretch items all c.loop-i.records c.next.new.self item
          c.loop-i.writer cut adding)
          (adding-room part stretch items all c.loop-i.records c.next.new.self item
          c.loop-i.writer (size_of c.loop-i.writer - 4) cut adding
          (omega (arith, fits, size)))).1;
    }
