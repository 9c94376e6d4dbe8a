use Rattle.std.proofs.Common.{ℕ, Bor, ap, ◌∙◌, eq-eqb, ne_eqb}
use Rattle.vr_resident.specs.Places.{fits}
use Rattle.vr_resident.specs.declared.place.Place.{Place}
use Rattle.vr_resident.specs.declared.place.Sought.TheVariants as sought
use Rattle.vr_resident.proofs.Entries.{kept_more, found_more}
use Rattle.vr_resident.proofs.table.find_lasts.Goals as goal

pub loop-number-preserved-in-Empty : goal.loop-number-preserved-in-Empty
loop-number-preserved-in-Empty c =
    let i = c.loop-number.invariant in
    let ys = c.loop-number.yielded in
    let x : Bor ℕ × Bor Place = (c.in-Some.number, c.in-Some.place) in
    record {
      found = kept_more (sought.Block c.args.n) c.loop-number.found ys x i.found
          (ap (fits (sought.Block c.args.n)) c.in-Empty.is);
      empty = found_more sought.Empty ys x (ap (fits sought.Empty) c.in-Empty.is);
      bare = kept_more sought.Bare c.loop-number.bare ys x i.bare
          (ap (fits sought.Bare) c.in-Empty.is);
      held = kept_more sought.Held c.loop-number.held ys x i.held
          (ap (fits sought.Held) c.in-Empty.is);
    }

pub loop-number-preserved-in-Bare : goal.loop-number-preserved-in-Bare
loop-number-preserved-in-Bare c =
    let i = c.loop-number.invariant in
    let ys = c.loop-number.yielded in
    let x : Bor ℕ × Bor Place = (c.in-Some.number, c.in-Some.place) in
    record {
      found = kept_more (sought.Block c.args.n) c.loop-number.found ys x i.found
          (ap (fits (sought.Block c.args.n)) c.in-Bare.is);
      empty = kept_more sought.Empty c.loop-number.empty ys x i.empty
          (ap (fits sought.Empty) c.in-Bare.is);
      bare = found_more sought.Bare ys x (ap (fits sought.Bare) c.in-Bare.is);
      held = kept_more sought.Held c.loop-number.held ys x i.held
          (ap (fits sought.Held) c.in-Bare.is);
    }

pub loop-number-preserved-then-block-n : goal.loop-number-preserved-then-block-n
loop-number-preserved-then-block-n c =
    let i = c.loop-number.invariant in
    let ys = c.loop-number.yielded in
    let x : Bor ℕ × Bor Place = (c.in-Some.number, c.in-Some.place) in
    record {
      found = found_more (sought.Block c.args.n) ys x
          (ap (fits (sought.Block c.args.n)) c.in-Taken.is
          ∙ eq-eqb c.in-Taken.block c.args.n c.if-block-n.true);
      empty = kept_more sought.Empty c.loop-number.empty ys x i.empty
          (ap (fits sought.Empty) c.in-Taken.is);
      bare = kept_more sought.Bare c.loop-number.bare ys x i.bare
          (ap (fits sought.Bare) c.in-Taken.is);
      held = found_more sought.Held ys x (ap (fits sought.Held) c.in-Taken.is);
    }

pub loop-number-preserved : goal.loop-number-preserved
loop-number-preserved c =
    let i = c.loop-number.invariant in
    let ys = c.loop-number.yielded in
    let x : Bor ℕ × Bor Place = (c.in-Some.number, c.in-Some.place) in
    record {
      found = kept_more (sought.Block c.args.n) c.loop-number.found ys x i.found
          (ap (fits (sought.Block c.args.n)) c.in-Taken.is
          ∙ ne_eqb c.in-Taken.block c.args.n c.if-block-n.false);
      empty = kept_more sought.Empty c.loop-number.empty ys x i.empty
          (ap (fits sought.Empty) c.in-Taken.is);
      bare = kept_more sought.Bare c.loop-number.bare ys x i.bare
          (ap (fits sought.Bare) c.in-Taken.is);
      held = found_more sought.Held ys x (ap (fits sought.Held) c.in-Taken.is);
    }
