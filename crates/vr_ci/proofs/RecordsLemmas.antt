-- A control interval of records, whose RDFs are walked from the right.
use Rattle.std.proofs.Common.{◌≡◌, ℕ, ◌+◌, ◌-◌, ◌*◌, ◌<◌, ◌≤◌, true, false, List, [], ◌∷◌, ◌++◌}
use Rattle.std.proofs.Common.{length, take, drop, Option, Some, None, refl, sym, ap, ◌∙◌, subst}
use Rattle.std.proofs.Common.{arith, length-append, length-take, length-drop}
use Rattle.std.specs.Prelude.{map, replicate}
use Rattle.std.specs.List.{flat_map, AllByRecursion}
use Rattle.std.proofs.lemmas.List.{take_at, drop-drop, drop_all, length-replicate}
use Rattle.std.proofs.lemmas.List.Concat.{flat_map-append}
use Rattle.vr_ci_match.specs.declared.form.Form.{Form}
use Rattle.vr_ci_match.specs.declared.form.Form.TheVariants.{Plain, Slots}
use Rattle.vr_ci_match.specs.declared.form.Shape.TheVariants.{Records}
use Rattle.vr_ci_match.specs.declared.rdf.Rdf.{Rdf}
use Rattle.vr_ci_match.specs.declared.rdf.Rdf.TheVariants.{Single, Run, Segment}
use Rattle.vr_ci_match.specs.declared.matching.Found.{Found}
use Rattle.vr_ci.specs.declared.walk.Walk.{Walk}
use Rattle.vr_types.specs.BlockSize.{IsBlockSize}
use Rattle.vr_ci_match.specs.Rdf.{marks, span, spans, two_bytes, rdf_bytes, control, IsRdf}
use Rattle.vr_ci_match.specs.Rdf.{IsOfRecords, MayFollow, last_from, shape_of}
use Rattle.vr_ci_match.specs.Laid.{slots_in, padded, cidf, control_at, laid}
use Rattle.vr_ci_match.specs.Fault.{cidf_at, displacement, free_length, free_end, is_busy}
use Rattle.vr_ci_match.specs.Fault.{StandFrom, IsWhole, masked, slotted, slots_of, meant}
use Rattle.vr_ci_match.specs.Fault.{IsRoomKept, HasRightLengths}
use Rattle.vr_ci.specs.Found.{IsFound}
use Rattle.vr_ci.specs.Walk.{MayStand, live_length, IsOfSlots, HasRoom, IsWalked}
use Rattle.vr_ci_match.proofs.CallerLemmas.{some_bytes, control-push, take-add, zeros, byte}
use Rattle.vr_ci_match.proofs.CallerLemmas.{length-padded, padded_fits, chain-push}
use Rattle.vr_ci_match.proofs.CallerLemmas.{last_from-push, room_of_rdfs, half_at, part_is, in_cidf}
use Rattle.vr_ci_match.proofs.CallerLemmas.{cidf_is, mask, masked-push, spans-push, place_is}
use Rattle.vr_ci.proofs.ShownLemmas.{found_is}
use Rattle.vr_ci.proofs.SizeLemmas.{size_bounds}

-- ---- what may stand to the left

abbrev IsRecords : Option Rdf → Type 0
IsRecords None = Unit {0}
IsRecords (Some r) = IsOfRecords r

of_records : (form : Form) (r : Rdf) → IsOfSlots form r → IsOfRecords r
of_records Plain r kept = kept
of_records (Slots len) (Single live n) kept = tt
of_records (Slots len) (Run n count) kept = absurd kept
of_records (Slots len) (Segment piece live number n) kept = absurd kept

-- the RDF that was read last is of records
last_records : (form : Form) (before : Option Rdf) (rdfs : List Rdf) → IsRecords before
    → AllByRecursion (IsOfSlots form) rdfs → IsRecords (last_from before rdfs)
last_records form before [] first kept = first
last_records form before (r ∷ rdfs) first kept =
    last_records form (Some r) rdfs (of_records form r kept.0) kept.1

live_after : (form : Form) (before : Option Rdf) (n : ℕ) → IsRecords before
    → MayStand form (live_length before) n
    → MayFollow form before (Single true n)
live_after Plain None n first stands = tt
live_after Plain (Some (Single true m)) n first stands = (tt, tt, tt, λ same. stands (sym same))
live_after Plain (Some (Single false m)) n first stands = (tt, tt, tt, tt)
live_after Plain (Some (Run m count)) n first stands = (tt, tt, tt, λ same. stands (sym same))
live_after Plain (Some (Segment piece live number m)) n first stands = absurd first
live_after (Slots len) None n first stands = tt
live_after (Slots len) (Some before) n first stands = (tt, first, tt, tt)

withdrawn_after : (form : Form) (before : Option Rdf) (n : ℕ) → IsRecords before
    → MayFollow form before (Single false n)
withdrawn_after Plain None n first = tt
withdrawn_after Plain (Some (Single true m)) n first = (tt, tt, tt, tt)
withdrawn_after Plain (Some (Single false m)) n first = (tt, tt, tt, tt)
withdrawn_after Plain (Some (Run m count)) n first = (tt, tt, tt, tt)
withdrawn_after Plain (Some (Segment piece live number m)) n first = absurd first
withdrawn_after (Slots len) None n first = tt
withdrawn_after (Slots len) (Some before) n first = (tt, first, tt, tt)

run_after : (before : Option Rdf) (n count : ℕ) → IsRecords before
    → MayStand Plain (live_length before) n
    → MayFollow Plain before (Run n count)
run_after None n count first stands = tt
run_after (Some (Single true m)) n count first stands = (tt, tt, tt, λ same. stands (sym same))
run_after (Some (Single false m)) n count first stands = (tt, tt, tt, tt)
run_after (Some (Run m k)) n count first stands = (tt, tt, tt, λ same. stands (sym same))
run_after (Some (Segment piece live number m)) n count first stands = absurd first

kept_push : (form : Form) (rdfs : List Rdf) (r : Rdf) → AllByRecursion (IsOfSlots form) rdfs
    → IsOfSlots form r
    → AllByRecursion (IsOfSlots form) (rdfs ++ r ∷ [])
kept_push form [] r all one = (one, tt)
kept_push form (s ∷ rdfs) r all one = (all.0, kept_push form rdfs r all.1 one)

-- ---- the walk

-- no RDF is read yet
pub walk_starts : (form : Form) (block : List ℕ) → IsBlockSize (length block)
    → free_end block ≤ cidf_at block
    → IsWalked form block (record { end = length block - 4; span = 0; count = 0; run = 0 })
walk_starts form block size fits =
    let bounds = size_bounds (length block) size in
    record {
      rdfs = [];
      right = record {
        chain = tt;
        low = fits;
        high = omega arith;
        bytes = drop_all (cidf_at block) (take (cidf_at block) block)
            (omega (arith, length-take (cidf_at block) block));
      };
      records = tt;
      bytes = refl;
      span = refl;
      count = refl;
      run = refl;
      short = omega (arith, bounds.1);
      few = omega (arith, bounds.1);
    }

-- one RDF or pair more, which is of records that have the bytes that they should have
record Next (form : Form) (block : List ℕ) (old new : Walk) (before : List Rdf)
    (r : Rdf) : Type 0 where
  valid : IsRdf r
  kept : IsOfSlots form r
  follows : MayFollow form (last_from None before) r
  low : free_end block ≤ new.end
  width : new.end + length (rdf_bytes r) ≡ old.end
  rdf : take (length (rdf_bytes r)) (drop new.end block) ≡ rdf_bytes r
  bytes : mask r (drop (spans before) block) ≡ take (span r) (drop (spans before) block)
  longer : new.span ≡ old.span + span r
  short : span r ≤ 4294967296
  more : new.count ≡ old.count + length (marks r)
  few : length (marks r) ≤ 65536
  run : new.run ≡ live_length (Some r)

walk_grows : (form : Form) (block : List ℕ) (old new : Walk) (r : Rdf)
    → (walked : IsWalked form block old)
    → Next form block old new walked.rdfs r → IsWalked form block new
walk_grows form block old new r walked next =
    let before = walked.rdfs in
    let top : ℕ = cidf_at block in
    let width : old.end - new.end ≡ length (rdf_bytes r) = omega (arith, next.width) in
    let here : take (old.end - new.end) (drop new.end block) ≡ rdf_bytes r =
    ap (λ (k : ℕ). take k (drop new.end block)) width ∙ next.rdf in
    let three = some_bytes r in
    record {
      rdfs = before ++ r ∷ [];
      right = record {
        chain = chain-push form None before r walked.right.chain next.valid next.follows;
        low = next.low;
        high = omega (arith, next.width, walked.right.high);
        bytes = part_is block new.end old.end top (omega (arith, next.width)) walked.right.high
            ∙ ap (λ (x : List ℕ). x ++ drop old.end (take top block)) here
            ∙ ap (λ (x : List ℕ). rdf_bytes r ++ x) walked.right.bytes
            ∙ sym (control-push before r);
      };
      records = kept_push form before r walked.records next.kept;
      bytes = masked-push before r block
          ∙ ap (λ (x : List ℕ). x ++ mask r (drop (spans before) block)) walked.bytes
          ∙ ap (λ (x : List ℕ). take (spans before) block ++ x) next.bytes
          ∙ sym (take-add (spans before) (span r) block)
          ∙ ap (λ (k : ℕ). take k block) (sym (spans-push before r));
      span = omega (arith, next.longer, walked.span, spans-push before r);
      count = omega (
        arith,
        next.more,
        walked.count,
        ap length (flat_map-append marks before (r ∷ [])),
        length-append (flat_map marks before) (flat_map marks (r ∷ [])),
        length-append (marks r) [],
      );
      run = next.run ∙ ap live_length (sym (last_from-push None before r));
      short = omega (arith, next.longer, next.short, walked.short, next.width, three);
      few = omega (arith, next.more, next.few, walked.few, next.width, three);
    }

-- the three bytes before an end are these flags and this number
pub half_before : (block : List ℕ) (end flags n : ℕ) → 3 ≤ end → end ≤ length block
    → ((i : ℕ) → byte block i < 256)
    → byte block (end - 3) ≡ flags → n ≡ byte block (end - 2) * 256 + byte block (end - 1)
    → take 3 (drop (end - 3) block) ≡ flags ∷ two_bytes n
half_before block end flags n some within small is number =
    let back : end - 3 + 3 ≡ end = omega (arith, some) in
    let three : end - (end - 3) ≡ 3 = omega (arith, some) in
    ap (λ (k : ℕ). take k (drop (end - 3) block)) (sym three)
    ∙ half_at block (end - 3) end n back within small number
    ∙ ap (λ (k : ℕ). k ∷ two_bytes n) is

-- the six bytes before an end, by those of its two halves
pub pair_before : (block left right : List ℕ) (end : ℕ) → 6 ≤ end
    → take 3 (drop (end - 3 - 3) block) ≡ left
    → take 3 (drop (end - 3) block) ≡ right → take 6 (drop (end - 6) block) ≡ left ++ right
pair_before block left right end some first second =
    let place : end - 3 - 3 ≡ end - 6 = omega arith in
    let back : end - 6 + 3 ≡ end - 3 = omega (arith, some) in
    take-add 3 3 (drop (end - 6) block)
    ∙ ap (λ (x : List ℕ). take 3 (drop (end - 6) block) ++ take 3 x) (drop-drop 3 (end - 6) block
    ∙ ap (λ (k : ℕ). drop k block) back)
    ∙ ap (λ (k : ℕ). take 3 (drop k block) ++ take 3 (drop (end - 3) block)) (sym place)
    ∙ ap (λ (x : List ℕ). x ++ take 3 (drop (end - 3) block)) first
    ∙ ap (λ (x : List ℕ). left ++ x) second

pub walk_live : (form : Form) (block : List ℕ) (old new : Walk) (n : ℕ) → IsWalked form block old
    → 0 < n → n < 65536
    → free_end block + 3 ≤ old.end → take 3 (drop (old.end - 3) block) ≡ rdf_bytes (Single true n)
    → MayStand form old.run n
    → new ≡ record { end = old.end - 3; span = old.span + n; count = old.count + 1; run = n }
    → IsWalked form block new
walk_live form block old new n walked some high place rdf stands is =
    subst (λ (walk : Walk). IsWalked form block walk) (sym is)
    (walk_grows form block old _ (Single true n) walked (record {
      valid = record { low = some; high = high };
      kept = of_form form stands;
      follows = live_after form (last_from None walked.rdfs) n
          (last_records form None walked.rdfs tt walked.records)
          (subst (λ (run : ℕ). MayStand form run n) walked.run stands);
      low = omega (arith, place);
      width = omega (arith, place);
      rdf = rdf;
      bytes = refl;
      longer = refl;
      short = omega (arith, high);
      more = refl;
      few = omega arith;
      run = refl;
    }))
  where
    of_form : (form : Form) → MayStand form old.run n → IsOfSlots form (Single true n)
    of_form Plain stands = tt
    of_form (Slots len) stands = stands

pub walk_withdrawn : (form : Form) (block : List ℕ) (old new : Walk) (n : ℕ)
    → IsWalked form block old → 0 < n → n < 65536
    → free_end block + 3 ≤ old.end → take 3 (drop (old.end - 3) block) ≡ rdf_bytes (Single false n)
    → MayStand form 0 n
    → take (old.span + n - old.span) (drop old.span block) ≡ replicate (old.span + n - old.span) 0
    → new ≡ record { end = old.end - 3; span = old.span + n; count = old.count + 1; run = 0 }
    → IsWalked form block new
walk_withdrawn form block old new n walked some high place rdf stands clear is =
    let long : old.span + n - old.span ≡ n = omega arith in
    let there : take n (drop (spans walked.rdfs) block) ≡ zeros n =
    ap (λ (k : ℕ). take n (drop k block)) (sym walked.span)
    ∙ ap (λ (k : ℕ). take k (drop old.span block)) (sym long) ∙ clear
    ∙ ap zeros long in
    subst (λ (walk : Walk). IsWalked form block walk) (sym is)
    (walk_grows form block old _ (Single false n) walked (record {
      valid = record { low = some; high = high };
      kept = of_form form stands;
      follows = withdrawn_after form (last_from None walked.rdfs) n
          (last_records form None walked.rdfs tt walked.records);
      low = omega (arith, place);
      width = omega (arith, place);
      rdf = rdf;
      bytes = sym there;
      longer = refl;
      short = omega (arith, high);
      more = refl;
      few = omega arith;
      run = refl;
    }))
  where
    of_form : (form : Form) → MayStand form 0 n → IsOfSlots form (Single false n)
    of_form Plain stands = tt
    of_form (Slots len) stands = stands

pub walk_run : (block : List ℕ) (old new : Walk) (n count : ℕ) → IsWalked Plain block old → 0 < n
    → n < 65536
    → 2 ≤ count → count < 65536 → free_end block + 6 ≤ old.end
    → take 6 (drop (old.end - 6) block) ≡ rdf_bytes (Run n count) → MayStand Plain old.run n
    → n * count ≤ 4294967296
    → new ≡ record {
      end = old.end - 6;
      span = old.span + n * count;
      count = old.count + count;
      run = n;
    } → IsWalked Plain block new
walk_run block old new n count walked some high two more place rdf stands short is =
    let marked = length-replicate count
    (let mark : Rattle.vr_ci_match.specs.Rdf.Mark = record { live = true; len = n } in mark) in
    subst (λ (walk : Walk). IsWalked Plain block walk) (sym is)
    (walk_grows Plain block old _ (Run n count) walked (record {
      valid = (
        record { low = some; high = high },
        record { low = omega (arith, two); high = more },
        two,
      );
      kept = tt;
      follows = run_after (last_from None walked.rdfs) n count
          (last_records Plain None walked.rdfs tt walked.records)
          (subst (λ (run : ℕ). MayStand Plain run n) walked.run stands);
      low = omega (arith, place);
      width = omega (arith, place);
      rdf = rdf;
      bytes = refl;
      longer = refl;
      short = short;
      more = omega (arith, marked);
      few = omega (arith, marked, more);
      run = refl;
    }))

-- ---- the whole block

slots_kept : (len : ℕ) (rdfs : List Rdf) → AllByRecursion (IsOfSlots (Slots len)) rdfs
    → (map (slotted len) rdfs ≡ rdfs) × (length (flat_map marks rdfs) ≡ length rdfs)
slots_kept len [] kept = (refl, refl)
slots_kept len (Single live n ∷ rdfs) kept =
    let rest = slots_kept len rdfs kept.1 in (
      ap (λ (x : List Rdf). Single live len ∷ x) rest.0
          ∙ ap (λ (k : ℕ). Single live k ∷ rdfs) (sym kept.0),
      omega (arith, rest.1),
    )
slots_kept len (Run n count ∷ rdfs) kept = absurd kept.0
slots_kept len (Segment piece live number n ∷ rdfs) kept = absurd kept.0

kept_shape : (form : Form) (rdfs : List Rdf) → AllByRecursion (IsOfSlots form) rdfs
    → shape_of rdfs ≡ Records
kept_shape form [] kept = refl
kept_shape form (Single live n ∷ rdfs) kept = refl
kept_shape form (Run n count ∷ rdfs) kept = refl
kept_shape form (Segment piece live number n ∷ rdfs) kept =
    absurd (of_records form (Segment piece live number n) kept.0)

slots_all : (len size : ℕ) (rdfs : List Rdf) (walk : Walk)
    → AllByRecursion (IsOfSlots (Slots len)) rdfs
    → HasRoom (Slots len) size walk → walk.count ≡ length (flat_map marks rdfs)
    → slots_of size len rdfs ≡ rdfs
slots_all len size rdfs walk kept room count =
    let same = slots_kept len rdfs kept in
    ap (λ (x : List Rdf). take (slots_in size len) (x
    ++ replicate (slots_in size len) (Single false len))) same.0
    ∙ take_at rdfs (replicate (slots_in size len) (Single false len)) (slots_in size len)
    (sym same.1 ∙ sym count ∙ room)

-- the RDFs are those that are meant
kept_meant : (form : Form) (size : ℕ) (rdfs : List Rdf) (walk : Walk)
    → AllByRecursion (IsOfSlots form) rdfs → HasRoom form size walk
    → walk.count ≡ length (flat_map marks rdfs) → meant form size rdfs ≡ rdfs
kept_meant form size (Segment piece live number n ∷ rdfs) walk kept room count =
    absurd (of_records form (Segment piece live number n) kept.0)
kept_meant Plain size [] walk kept room count = refl
kept_meant Plain size (Single live n ∷ rdfs) walk kept room count = refl
kept_meant Plain size (Run n k ∷ rdfs) walk kept room count = refl
kept_meant (Slots len) size [] walk kept room count = slots_all len size [] walk kept room count
kept_meant (Slots len) size (Single live n ∷ rdfs) walk kept room count =
    slots_all len size (Single live n ∷ rdfs) walk kept room count
kept_meant (Slots len) size (Run n k ∷ rdfs) walk kept room count = absurd kept.0

-- the room of the records, as the form counts it
kept_room : (form : Form) (size : ℕ) (rdfs : List Rdf) (walk : Walk) → HasRoom form size walk
    → walk.span ≡ spans rdfs
    → walk.count ≡ length (flat_map marks rdfs) → IsRoomKept form size rdfs
kept_room Plain size rdfs walk room span count = omega (arith, room, span, count, room_of_rdfs rdfs)
kept_room (Slots len) size rdfs walk room span count = tt

-- the block is laid out from its RDFs and the bytes of their records
walked_laid : (form : Form) (block : List ℕ) (walk : Walk) → IsBlockSize (length block)
    → (walked : IsWalked form block walk)
    → walk.end ≡ free_end block → walk.span ≡ displacement block
    → take (free_end block - walk.span) (drop walk.span block) ≡ zeros (free_end block - walk.span)
    → ((i : ℕ) → byte block i < 256)
    → block ≡ laid (length block) (masked walked.rdfs block) walked.rdfs (is_busy block)
walked_laid form block walk size walked end first clear small =
    let rdfs = walked.rdfs in
    let at : ℕ = control_at (length block) rdfs in
    let top : ℕ = cidf_at block in
    let least = (size_bounds (length block) size).0 in
    let place : walk.end ≡ at =
    place_is form block rdfs walk.end (omega (arith, least)) walked.right in
    let within : at ≤ top = omega (arith, place, walked.right.high) in
    let room : spans rdfs ≤ at = omega (arith, place, end, first, walked.span) in
    let long : length (masked rdfs block) ≡ spans rdfs =
    ap length walked.bytes ∙ omega (arith, length-take (spans rdfs) block, room, within, least) in
    let left : at - length (masked rdfs block) ≡ at - spans rdfs = omega (arith, long) in
    let free : free_end block - walk.span ≡ at - spans rdfs =
    omega (arith, place, end, walked.span) in
    let rest : take (at - spans rdfs) (drop (spans rdfs) block) ≡ zeros (at - spans rdfs) =
    ap (λ (k : ℕ). take k (drop (spans rdfs) block)) (sym free)
    ∙ ap (λ (k : ℕ). take (free_end block - walk.span) (drop k block)) (sym walked.span) ∙ clear
    ∙ ap zeros free in
    let sum : spans rdfs + (at - spans rdfs) ≡ at = omega (arith, room) in
    let front : take at block ≡ padded at (masked rdfs block) =
    ap (λ (k : ℕ). take k block) (sym sum) ∙ take-add (spans rdfs) (at - spans rdfs) block
    ∙ ap (λ (x : List ℕ). take (spans rdfs) block ++ x) rest
    ∙ ap (λ (x : List ℕ). x ++ zeros (at - spans rdfs)) (sym walked.bytes)
    ∙ ap (λ (k : ℕ). masked rdfs block ++ zeros k) (sym left)
    ∙ sym (padded_fits at (masked rdfs block) (omega (arith, long, room))) in
    let control_bytes : drop at (take top block) ≡ control rdfs =
    ap (λ (k : ℕ). drop k (take top block)) (sym place) ∙ walked.right.bytes in
    let sums : at + length (control rdfs) ≡ top =
    omega (
      arith,
      ap length control_bytes,
      length-drop at (take top block),
      length-take top block,
      within,
      least,
    ) in
    let used : displacement block ≡ spans rdfs = sym first ∙ walked.span in
    let unused : free_length block ≡ at - spans rdfs = omega (arith, place, end, used) in
    let field : drop top block ≡ cidf (spans rdfs) (at - spans rdfs) (is_busy block) =
    cidf_is block (omega (arith, least)) small
    ∙ ap (λ (k : ℕ). cidf k (free_length block) (is_busy block)) used
    ∙ ap (λ (k : ℕ). cidf (spans rdfs) k (is_busy block)) unused in
    in_cidf block (padded at (masked rdfs block)) (control rdfs)
    (cidf (spans rdfs) (at - spans rdfs) (is_busy block)) at top None
    (length-padded at (masked rdfs block)) (omega arith) sums front control_bytes field

-- A block whose walk ends where its free space does, with as many bytes as the CIDF says, is a
-- control interval of records.
pub records_are : (form : Form) (block : List ℕ) (walk : Walk) (found : Found)
    → IsBlockSize (length block) → IsWalked form block walk
    → walk.end ≡ free_end block → walk.span ≡ displacement block → HasRoom form (length block) walk
    → take (free_end block - walk.span) (drop walk.span block) ≡ zeros (free_end block - walk.span)
    → ((i : ℕ) → byte block i < 256)
    → found ≡ record {
      shape = Records;
      count = walk.count;
      low = free_end block;
      busy = is_busy block;
    } → IsFound form block found
records_are form block walk found size walked end first room clear small is =
    let rdfs = walked.rdfs in
    let least = (size_bounds (length block) size).0 in
    let place : walk.end ≡ control_at (length block) rdfs =
    place_is form block rdfs walk.end (omega (arith, least)) walked.right in
    let whole : IsWhole form block rdfs = record {
      right = subst (λ (at : ℕ). StandFrom form block rdfs at) place walked.right;
      whole = omega (arith, place, end);
    } in
    let same : meant form (length block) rdfs ≡ rdfs =
    kept_meant form (length block) rdfs walk walked.records room walked.count in
    let right : HasRightLengths form block rdfs = record {
      same = walked_laid form block walk size walked end first clear small
          ∙ ap (λ (x : List Rdf). laid (length block) (masked x block) x (is_busy block))
          (sym same);
      room = kept_room form (length block) rdfs walk room walked.span walked.count;
    } in
    found_is form block rdfs found size whole right
    (ap (λ (x : Found). x.low) is) (ap (λ (x : Found). x.shape) is
    ∙ sym (kept_shape form rdfs walked.records))
    (ap (λ (x : Found). x.busy) is) (ap (λ (x : Found). x.count) is ∙ walked.count)
