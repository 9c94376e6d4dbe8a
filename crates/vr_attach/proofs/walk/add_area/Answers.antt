use Rattle.std.proofs.Common.{◌≡◌, ◌∙◌, ◌+◌, ◌++◌, ◌∷◌, [], ap, arith, sym, subst, ℕ}
use Rattle.vr_seqset.specs.Reading.{record_in}
use Rattle.vr_seqset.specs.SequenceSet.{IsSequenceSet}
use Rattle.vr_space.specs.Keyed.{Keyed}
use Rattle.vr_attach.proofs.Stepping.{count-viewed, end-high, ends-below}
use Rattle.vr_attach.proofs.walk.add_area.Goals as goal

module _ (c : goal.After-high) where
  -- the view has what the head spells
  viewed : c.in-Ok.view ≡ record_in c.args.top.now
  viewed = c.in-Ok.ensures.only (record_in c.args.top.now)
      (subst (λ (part : Keyed).
      IsSequenceSet part.area c.args.top.now (record_in c.args.top.now)) (sym c.layout.view_is)
      c.requires.head.spelled)

pub add-requires-clause-later : goal.add-requires-clause-later
add-requires-clause-later c =
    ends-below c.args.layout.now c.args.top.now c.args.areas.now.ends c.high.result.now
    c.requires.head c.requires.low
    (end-high c.args.layout.now c.args.top.now c.in-Ok.view c.count-intervals.result
    c.high.result.now c.requires.head (viewed c) c.count-intervals.ensures c.high.ensures)
    c.requires.ready.ascend

pub add-requires-clause-few : goal.add-requires-clause-few
add-requires-clause-few c = omega (
  arith,
  c.requires.few,
  count-viewed c.args.top.now c.in-Ok.view c.count-intervals.result (viewed c)
      c.count-intervals.ensures,
)

pub returns : goal.returns
returns c =
    let top = c.args.top.now in
    let view : c.in-Ok.view ≡ record_in top = c.in-Ok.ensures.only (record_in top)
    (subst (λ (part : Keyed). IsSequenceSet part.area top (record_in top)) (sym c.layout.view_is)
    c.requires.head.spelled) in
    record {
      end = c.high.result.now;
      end_is = end-high c.args.layout.now top c.in-Ok.view c.count-intervals.result
          c.high.result.now c.requires.head view c.count-intervals.ensures c.high.ensures;
      new_is = c.add.ensures ∙ ap (λ (n : ℕ). record {
        part = c.args.areas.now.part;
        areas = c.args.areas.now.areas ++ c.args.area ∷ [];
        ends = c.args.areas.now.ends ++ c.high.result.now ∷ [];
        intervals = c.args.areas.now.intervals + n;
      }) (count-viewed top c.in-Ok.view c.count-intervals.result view c.count-intervals.ensures);
    }
