use Rattle.std.proofs.Common.{◌≡◌, rules, tests, length, Some, None}
use Rattle.std.proofs.Common.{ap, sym, ◌∙◌, arith}
use Rattle.std.specs.List.{position, slice_get}
use Rattle.vr_seqset.specs.Search.{reaches}
use Rattle.vr_seqset.specs.SequenceSet.{SequenceSet}
use Rattle.vr_space.specs.Room.{Range}
use Rattle.vr_space.specs.Keyed.{entry_above, entry_in, low_in}
use Rattle.vr_space.proofs.Searching.{got-whole, got-in, found_range}
use Rattle.vr_space.proofs.search.found_in.Goals as goal

pub returns-in_err-number-clause-found : goal.returns-in_err-number-clause-found
returns-in_err-number-clause-found c = λ top size same rules_kept.
    let here : entry_in top c.args.place.now ≡ None =
    ap (λ (s : SequenceSet). entry_above (low_in s) s.entries c.args.place.now) same
    ∙ c.in_err-number.ensures.none in
    search rules

pub interval-interval-requires : goal.interval-interval-requires
interval-interval-requires c = (got-whole (length c.args.view.now.low) c.args.view.now.entries
    c.in_ok-number.number c.in_ok-number.entry c.requires.whole
    c.in_ok-number.ensures.entry).some

pub low_at-requires-clause-whole : goal.low_at-requires-clause-whole
low_at-requires-clause-whole c = c.requires.whole

pub returns-clause-found : goal.returns-clause-found
returns-clause-found c = λ top size same rules_kept.
    let entry = c.in_ok-number.entry in
    record {
      entry = entry;
      reaches = ap (λ (s : SequenceSet). entry_above (low_in s) s.entries c.args.place.now) same
          ∙ c.in_ok-number.ensures.found
          ∙ ap (λ (range : Range). Some (range, entry))
          (sym (found_range _ _ _ entry c.low_at.ensures.low c.high.ensures));
      interval = c.interval-interval.ensures;
      number = ap (λ (s : SequenceSet). slice_get s.entries c.in_ok-number.number) same
          ∙ c.in_ok-number.ensures.entry;
      first = ap (λ (s : SequenceSet). position (reaches c.args.place.now) s.entries) same
          ∙ c.in_ok-number.ensures.first;
      last = search (rules, tests);
    }

pub returns-then-interval-area-clause-found : goal.returns-then-interval-area-clause-found
returns-then-interval-area-clause-found c = λ top size same rules_kept.
    absurd (omega (
      arith,
      c.interval-interval.ensures,
      c.if-interval-area.true,
      got-in c.args.area size c.args.view.now c.in_ok-number.number c.in_ok-number.entry rules_kept
          c.in_ok-number.ensures.entry,
    ))

pub returns-clause-places : goal.returns-clause-places
returns-clause-places c = record {
  low = c.low_at.ensures.length;
  high = ap length c.high.ensures
      ∙ (got-whole (length c.args.view.now.low) c.args.view.now.entries c.in_ok-number.number
      c.in_ok-number.entry c.requires.whole c.in_ok-number.ensures.entry).high;
}
