use Rattle.std.specs.Prelude.{ℕ, ◌-◌, List, vec_len, vec_capacity}
use Rattle.std.specs.Global.{Vec}
use Rattle.vr_history.specs.declared.entry.Entry.{Entry}

-- What a history is seen as: its entries, and for how many more it has room.
pub record Kept : Type 0 where
  pub entries : List Entry
  pub room : ℕ

abbrev pub kept_of : Vec Entry → Kept
kept_of entries = record { entries = entries.items; room = vec_capacity entries - vec_len entries }
