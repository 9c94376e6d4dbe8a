-- The entry that an event of a plain volume makes. The rules are this project's own.
use Rattle.std.specs.Prelude.{ℕ, Bool, true, false, None}
use Rattle.vr_types.specs.declared.reply.Reply.TheVariants.{Done}
use Rattle.vr_types.specs.declared.request.Request.{Request}
use Rattle.vr_history.specs.declared.entry.Entry.{Entry}
use Rattle.vr_history.specs.declared.entry.What.{What}
use Rattle.vr_history.specs.declared.entry.What.TheVariants.{Asked, Split}

-- a request that is answered, or else the stage before that
abbrev pub what_of : Bool → Request → What
what_of true request = Asked request (Done 0 None None)
what_of false request = Split (record { 0 = 1 })

abbrev pub event_of : (deck line stamp : ℕ) → Bool → Request → Entry
event_of deck line stamp done request = record {
  stamp = stamp;
  unit = record { deck = deck; number = 1 };
  line = line;
  what = what_of done request;
}

-- every later state of a volume is one
abbrev pub Always : {V : Type 0} → V → V → Type 0
Always before after = Unit {0}
