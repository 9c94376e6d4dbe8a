-- Which calls of a device in memory fail, and what it counts.
use Rattle.std.specs.Prelude.{ℕ, ◌+◌, IsTrue, List}
use Rattle.vr_types.specs.Calls.{Calls, fails_next}
use Rattle.vr_types.specs.Calls.{uncalled as uncalled_script, counted as counted_script}
use Rattle.vr_types.specs.Calls.{stopped as stopped_script}
use Rattle.vr_types.specs.Faults.{Faults}

-- which calls fail, and how many were made; how many writes and syncs failed out of memory, and the
-- two fault counts
pub record DeviceCalls : Type 0 where
  pub script : Calls
  pub refused : ℕ
  pub read_faults : ℕ
  pub write_faults : ℕ

abbrev pub faults_of : DeviceCalls → Faults
faults_of calls = record { reads = calls.read_faults; writes = calls.write_faults }

-- no call was made, and those of these numbers fail
abbrev pub uncalled : List ℕ → DeviceCalls
uncalled fails = record {
  script = uncalled_script fails;
  refused = 0;
  read_faults =
      0;
  write_faults = 0;
}

-- the next call fails
abbrev pub IsToFail : DeviceCalls → Type 0
IsToFail calls = IsTrue (fails_next calls.script)

-- after one more call
abbrev pub counted : DeviceCalls → DeviceCalls
counted calls = record calls { script = counted_script calls.script }

abbrev pub read_failed : DeviceCalls → DeviceCalls
read_failed calls = record calls { read_faults = calls.read_faults + 1 }

abbrev pub write_failed : DeviceCalls → DeviceCalls
write_failed calls = record calls { write_faults = calls.write_faults + 1 }

-- a write or a sync failed out of memory
abbrev pub write_refused : DeviceCalls → DeviceCalls
write_refused calls = record calls {
  write_faults = calls.write_faults + 1;
  refused =
      calls.refused + 1;
}

-- every call from this number on fails too
abbrev pub stopped : ℕ → DeviceCalls → DeviceCalls
stopped first calls = record calls { script = stopped_script first calls.script }
