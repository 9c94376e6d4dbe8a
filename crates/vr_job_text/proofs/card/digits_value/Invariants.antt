use Rattle.std.proofs.Common.{◌≡◌, ◌<◌, ◌^◌, drop, true}
use Rattle.std.specs.Char.{is_ascii_digit}
use Rattle.std.specs.List.{list_all}
use Rattle.std.specs.Str.Parse.{digits_value_after, digits_value}
use Rattle.vr_job_text.proofs.card.digits_value.Given as goal

-- the digits that are left follow those so far
abbrev pub invariant-loop-byte : goal.invariant-loop-byte
invariant-loop-byte l = record {
  value : digits_value_after 10 l.value (drop l.byte-index l.digits) ≡ digits_value 10 l.fn.digits;
  digits : list_all is_ascii_digit (drop l.byte-index l.digits) ≡ true;
  small : l.value < 10 ^ l.byte-index;
}
