-- Which sizes of keys and records a volume takes, as DEFINE of Access Method Services Commands has
-- KEYS, RECORDSIZE and
-- SPANNED. The numbers of this volume's shape are this project's own.
use Rattle.std.specs.Prelude.{ℕ, ◌+◌, ◌-◌, ◌*◌, ◌/◌, min, Bool, not, ◌==◌, ◌&&◌, ◌||◌}
use Rattle.std.specs.Prelude.{if◌then◌else◌, nat_lt}
use Rattle.vr_types.specs.declared.geometry.Geometry.{Geometry}
use Rattle.vr_types.specs.declared.unit.Kind.{Kind}
use Rattle.vr_types.specs.declared.unit.Kind.TheVariants.{Keyed, Entry, Relative}
use Rattle.vr_catalog.specs.Definition.{Definition}

-- the intervals of an area that a keyed data set uses: those that its sequence-set record has room
-- for
abbrev pub intervals_used : Geometry → ℕ → ℕ
intervals_used geometry place_length =
    min geometry.area ((geometry.size - 32 - place_length) / (4 + place_length))

-- the longest record of a cluster that isn't spanned, and of a spanned key-sequenced one
abbrev pub plain_limit : Geometry → ℕ
plain_limit geometry = geometry.size - 7

abbrev pub spanned_limit : Geometry → ℕ → ℕ
spanned_limit geometry key_length = intervals_used geometry key_length * (geometry.size - 10)

-- the average is above the maximum or 0, or the maximum above 32,760
abbrev pub are_bad_sizes : ℕ → ℕ → Bool
are_bad_sizes average maximum = nat_lt maximum average || average == 0 || nat_lt 32760 maximum

-- records of the maximum don't fit: a relative record is neither spanned nor of several lengths
abbrev pub is_past_limit : Kind → Geometry → Definition → ℕ → Bool
is_past_limit Keyed geometry definition average =
    if definition.spanned then nat_lt (spanned_limit geometry definition.key_length)
    definition.maximum else nat_lt (plain_limit geometry) definition.maximum
is_past_limit Entry geometry definition average =
    not definition.spanned && nat_lt (plain_limit geometry) definition.maximum
is_past_limit Relative geometry definition average =
    definition.spanned || not (average == definition.maximum)
    || nat_lt (plain_limit geometry) definition.maximum

abbrev pub is_bad_cluster : Geometry → Definition → ℕ → Bool
is_bad_cluster geometry definition average =
    are_bad_sizes average definition.maximum
    || is_past_limit definition.kind geometry definition average

-- a key-sequenced cluster's key ends past its longest record
abbrev pub ends_past : ℕ → ℕ → ℕ → Bool
ends_past key_length key_offset maximum = nat_lt maximum (key_offset + key_length)

-- fewer than two intervals of an area could be used
abbrev pub are_few_intervals : Geometry → ℕ → Bool
are_few_intervals geometry place_length = nat_lt (intervals_used geometry place_length) 2
