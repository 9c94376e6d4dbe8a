-- Which calls of a device, source or sink in memory fail. Calls are numbered from 0. The rules are
-- this project's own.
use Rattle.std.specs.Prelude.{ℕ, ◌==◌, ◌||◌, Bool, false, nat_le, List, Option, Some, None, min}
use Rattle.std.specs.Prelude.{unwrap_or}
use Rattle.std.specs.List.{list_any}
use Rattle.vr_types.specs.Count.{next_call}

-- the number of the next call; the numbers of the calls that fail, and the number from which on
-- every call fails
pub record Calls : Type 0 where
  pub next : ℕ
  pub fails : List ℕ
  pub stop : Option ℕ

-- no call was made, and those of these numbers fail
abbrev pub uncalled : List ℕ → Calls
uncalled fails = record { next = 0; fails = fails; stop = None }

-- a call of that number is past the stop, where there is one
abbrev pub is_past : Option ℕ → ℕ → Bool
is_past None call = false
is_past (Some first) call = nat_le first call

-- the next call fails
abbrev pub fails_next : Calls → Bool
fails_next calls = list_any (λ number. number == calls.next) calls.fails
    || is_past calls.stop calls.next

-- after one more call
abbrev pub counted : Calls → Calls
counted calls = record calls { next = next_call calls.next }

-- every call from this number on fails too
abbrev pub stopped : ℕ → Calls → Calls
stopped first calls = record calls { stop = Some (min first (unwrap_or calls.stop first)) }
