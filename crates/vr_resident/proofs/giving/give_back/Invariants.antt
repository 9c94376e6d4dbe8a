use Rattle.std.proofs.Common.{◌≡◌, ◌≤◌, ◌+◌, length}
use Rattle.vr_resident.specs.Places.{buffers_of, count_of, gave}
use Rattle.vr_resident.specs.Cache.{IsFramed, KeepsSeat, entries_of}
use Rattle.vr_resident.specs.declared.place.Sought.TheVariants as sought
use Rattle.vr_resident.proofs.giving.give_back.Given as goal

-- so many places are bare
abbrev pub invariant-loop-given : goal.invariant-loop-given
invariant-loop-given l = record {
  so_far : entries_of l.frames ≡ gave l.given (entries_of l.fn.frames);
  some : l.given ≤ count_of sought.Free (entries_of l.fn.frames);
  fewer : length (buffers_of (entries_of l.frames)) + l.given ≡ length
      (buffers_of (entries_of l.fn.frames));
  framed : IsFramed l.frames;
  seat : KeepsSeat l.fn.frames l.frames;
}
