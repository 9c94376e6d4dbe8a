-- Where the last item of an entry-sequenced part ends, as it is kept in memory.
use Rattle.std.specs.Prelude.{◌≡◌, ◌≢◌, List, []}
use Rattle.vr_ci.specs.Interval as ci
use Rattle.vr_space.specs.Entries.{Tail as TailOf, bytes_in}
use Rattle.vr_chained.specs.declared.tail.Tail.{Tail}

abbrev pub tail_of : Tail → TailOf
tail_of tail = record { interval = tail.interval; bytes = tail.bytes; room = tail.room }

-- these items are some, and take that
pub record HasTaken (items : List ci.Item) (tail : TailOf) : Type 0 where
  pub some : items ≢ []
  pub bytes : tail.bytes ≡ bytes_in items
  pub room : tail.room ≡ ci.room items
