-- What is seen of an entry-sequenced or relative part on blocks.
use Rattle.std.specs.Prelude.{ℕ, List, [], Option, None}
use Rattle.vr_space.specs.Entries.{Tail as TailOf}
use Rattle.vr_space.specs.Known.{Known}
use Rattle.vr_space.specs.Met.{Met}
use Rattle.vr_chained.specs.Chain.{ChainNow}

-- the chain of its areas, where its last item ends, what it met and of how many places it may keep
-- that, and which blocks its last `set` put
pub record OwnedChain : Type 0 where
  pub chain : ChainNow
  pub tail : Option TailOf
  pub met : List Met
  pub most : ℕ
  pub put : List ℕ

-- what it keeps in memory of its blocks: no split is ever under way
abbrev pub known_of : OwnedChain → Known
known_of owned = record {
  split = None;
  move = None;
  met = owned.met;
  most = owned.most;
  areas = owned.chain.areas;
  ends = [];
  used = owned.chain.used;
  tail = owned.tail;
}
