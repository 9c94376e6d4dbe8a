-- A roster that is read is spelled so, and one that is spelled is read.
use Rattle.std.proofs.Common.{◌≡◌, ℕ, ◌-◌, ◌^◌, ◌<◌, ◌≤◌, List, [], ◌∷◌, ◌++◌, length, get_or, take}
use Rattle.std.proofs.Common.{drop, refl, sym, ap, subst, ◌∙◌, arith, append_assoc, replicate}
use Rattle.std.specs.Int.{w16, w32, to_be_bytes}
use Rattle.std.proofs.lemmas.List.{length-drop}
use Rattle.std.proofs.lemmas.List.Elements.{All-replicate}
use Rattle.std.proofs.lemmas.Nat.{from_be_bytes-to_be_bytes_2, from_be_bytes-to_be_bytes_4}
use Rattle.vr_seqset.specs.declared.fault.SeqFault.{SeqFault}
use Rattle.vr_seqset.specs.declared.fault.SeqFault.TheVariants as faults
use Rattle.vr_types.specs.BlockSize.{IsBlockSize}
use Rattle.vr_types.specs.Fields.{two, four, two_at, four_at, area_field, area_of, AreZeros}
use Rattle.vr_seqset.specs.Roster.{Roster, roster_bytes, block_of_roster, KeepsRosterRules}
use Rattle.vr_seqset.specs.Roster.{IsRoster}
use Rattle.vr_seqset.specs.Reading.{roster_in}
use Rattle.vr_seqset.specs.Faults.{KeepsRoster, RosterFits, RosterHasZeros}
use Rattle.vr_types.specs.Fields.{IsBytes}
use Rattle.vr_types.proofs.CallerLemmas.{cut_one, cut_two, cut_four, zeros_are, cut_zeros}
use Rattle.vr_types.proofs.CallerLemmas.{two_below, four_below}
use Rattle.vr_types.proofs.CallerLemmas.{block_size_least, area_of-area_field, area_field-area_of}
use Rattle.vr_types.proofs.CallerLemmas.{IsArea-area_of, area_field-below, length-padded}
use Rattle.vr_types.proofs.CallerLemmas.{zeros_after}

pub length-roster_bytes : (r : Roster) → length (roster_bytes r) ≡ 16
unfolding roster_bytes two four
length-roster_bytes r = refl

same_roster : (r q : Roster) → r.used ≡ q.used → r.part ≡ q.part → r.next ≡ q.next → r ≡ q
same_roster r q used part next = λ i. record { used = used i; part = part i; next = next i }

-- ---- what is read is spelled so

roster_parts : (r : Roster) (rest : List ℕ)
    → roster_bytes r ++ rest ≡ 82 ∷ 0 ∷ (two r.used
    ++ (replicate 4 0 ++ (four r.part ++ (four (area_field r.next) ++ rest))))
unfolding roster_bytes
roster_parts r rest = simp append_assoc

pub roster_again : (block : List ℕ) → IsBytes block → get_or block 0 0 ≡ 82
    → IsBlockSize (length block) → RosterHasZeros block
    → block ≡ block_of_roster (length block) (roster_in block)
unfolding roster_in
roster_again block fits kind size zeros =
    let least = block_size_least (length block) size in
    let rest : drop 16 block ≡ replicate (length block - length (roster_bytes (roster_in block)))
    0 =
    zeros_are (drop 16 block) zeros.rest ∙ ap (λ (n : ℕ). replicate n 0)
    (length-drop 16 block ∙ ap (λ (n : ℕ). length block - n)
    (sym (length-roster_bytes (roster_in block)))) in
    let at12 = cut_four 12 block fits (omega arith)
    ∙ ap (λ (n : ℕ). four n ++ drop 16 block) (sym (area_field-area_of (four_at 12 block)))
    ∙ ap (λ (x : List ℕ). four (area_field (area_of (four_at 12 block))) ++ x) rest in
    let at8 = cut_four 8 block fits (omega arith)
    ∙ ap (λ (x : List ℕ). four (four_at 8 block) ++ x) at12 in
    let at4 = cut_zeros 4 4 block (omega arith) zeros.gap
    ∙ ap (λ (x : List ℕ). replicate 4 0 ++ x) at8 in
    let at2 = cut_two 2 block fits (omega arith)
    ∙ ap (λ (x : List ℕ). two (two_at 2 block) ++ x) at4 in
    let at1 = cut_one 1 block (omega arith) ∙ ap (λ (b : ℕ). b ∷ drop 2 block) zeros.flag
    ∙ ap (λ (x : List ℕ). 0 ∷ x) at2 in
    let at0 = cut_one 0 block (omega arith) ∙ ap (λ (b : ℕ). b ∷ drop 1 block) kind
    ∙ ap (λ (x : List ℕ). 82 ∷ x) at1 in
    at0 ∙ sym (roster_parts (roster_in block)
    (replicate (length block - length (roster_bytes (roster_in block))) 0))

-- ---- what is spelled is read

module _ (r : Roster) (rest : List ℕ) where
  kind_back : get_or (roster_bytes r ++ rest) 0 0 ≡ 82
  unfolding roster_bytes
  kind_back = refl

  flag_back : get_or (roster_bytes r ++ rest) 1 0 ≡ 0
  unfolding roster_bytes
  flag_back = refl

  used_field : r.used < 2 ^ 16 → two_at 2 (roster_bytes r ++ rest) ≡ r.used
  unfolding roster_bytes two two_at
  used_field lt = from_be_bytes-to_be_bytes_2 r.used lt

  gap_back : take 4 (drop 4 (roster_bytes r ++ rest)) ≡ replicate 4 0
  unfolding roster_bytes two
  gap_back = refl

  part_field : r.part < 2 ^ 32 → four_at 8 (roster_bytes r ++ rest) ≡ r.part
  unfolding roster_bytes two four four_at
  part_field lt = from_be_bytes-to_be_bytes_4 r.part lt

  next_field : area_field r.next < 2 ^ 32 → four_at 12 (roster_bytes r ++ rest) ≡ area_field r.next
  unfolding roster_bytes two four four_at
  next_field lt = from_be_bytes-to_be_bytes_4 (area_field r.next) lt

pub roster_back : (cis size : ℕ) (r : Roster) (rest : List ℕ) → KeepsRosterRules cis size r
    → roster_in (roster_bytes r ++ rest) ≡ r
unfolding roster_in
roster_back cis size r rest rules =
    same_roster (roster_in (roster_bytes r ++ rest)) r (used_field r rest rules.field)
    (part_field r rest rules.part) (ap area_of
    (next_field r rest (area_field-below r.next rules.next)) ∙ area_of-area_field r.next)

-- the roster in a roster's block is the one that it spells
pub roster_is : (cis : ℕ) (block : List ℕ) (r : Roster) → IsRoster cis block r → roster_in block ≡ r
roster_is cis block r is = ap roster_in is.spelled
    ∙ roster_back cis (length block) r (replicate (length block - length (roster_bytes r)) 0)
    is.rules

-- the block of a roster has the size that is asked for
pub length-block_of_roster : (cis size : ℕ) (r : Roster) → KeepsRosterRules cis size r
    → length (block_of_roster size r) ≡ size
length-block_of_roster cis size r rules =
    length-padded size (roster_bytes r) (omega
    (arith, length-roster_bytes r, block_size_least size rules.block))

-- the block of a roster that keeps the rules is that roster's
pub block_of_roster_is : (cis size : ℕ) (r : Roster) → KeepsRosterRules cis size r
    → IsRoster cis (block_of_roster size r) r
block_of_roster_is cis size r rules =
    let len = length-block_of_roster cis size r rules in
    record {
      rules = subst (λ (n : ℕ). KeepsRosterRules cis n r) (sym len) rules;
      spelled =
          ap (λ (n : ℕ). block_of_roster n r) (sym len);
    }

-- ---- the rules of a block

roster_zeros : (cis : ℕ) (block : List ℕ) (r : Roster) → IsRoster cis block r → RosterHasZeros block
roster_zeros cis block r is =
    let zeros = replicate (length block - length (roster_bytes r)) 0 in
    record {
      flag = ap (λ (x : List ℕ). get_or x 1 0) is.spelled ∙ flag_back r zeros;
      gap = subst (λ (x : List ℕ). AreZeros (take 4 (drop 4 x))) (sym is.spelled)
          (subst AreZeros (sym (gap_back r zeros)) (All-replicate (λ (b : ℕ). b ≡ 0) 4 0 refl));
      rest = subst (λ (x : List ℕ). AreZeros (drop 16 x)) (sym is.spelled)
          (subst (λ (n : ℕ). AreZeros (drop n (block_of_roster (length block) r)))
          (length-roster_bytes r) (zeros_after (length block) (roster_bytes r)));
    }

-- a roster's block keeps each rule
pub keeps_roster : (cis : ℕ) (block : List ℕ) (r : Roster) → IsRoster cis block r → (f : SeqFault)
    → KeepsRoster cis block f
keeps_roster cis block r is faults.Kind =
    ap (λ (x : List ℕ). get_or x 0 0) is.spelled
    ∙ kind_back r (replicate (length block - length (roster_bytes r)) 0)
keeps_roster cis block r is faults.Lengths =
    record {
      size = is.rules.block;
      used =
          subst (λ (q : Roster). q.used ≤ cis) (sym (roster_is cis block r is)) is.rules.used;
    }
keeps_roster cis block r is faults.Intervals = tt
keeps_roster cis block r is faults.Places = tt
keeps_roster cis block r is faults.Zeros = roster_zeros cis block r is

-- a block that keeps each rule is that of a roster
pub is_roster : (cis : ℕ) (block : List ℕ) → IsBytes block → get_or block 0 0 ≡ 82
    → RosterFits cis block → RosterHasZeros block → IsRoster cis block (roster_in block)
unfolding roster_in
is_roster cis block fits kind lengths zeros = record {
  rules = record {
    block = lengths.size;
    used = lengths.used;
    field = two_below 2 block fits;
    part = four_below 8 block fits;
    next = IsArea-area_of (four_at 12 block) (four_below 12 block fits);
  };
  spelled = roster_again block fits kind lengths.size zeros;
}

-- ---- what is written

pub written_roster : (cis size : ℕ) (r : Roster) (front rest : List ℕ)
    → KeepsRosterRules cis size r → front ≡ roster_bytes r → rest ≡ replicate (size - 16) 0
    → IsRoster cis (front ++ rest) r
written_roster cis size r front rest rules front-is rest-is =
    let whole : block_of_roster size r ≡ front ++ rest =
    ap (λ (n : ℕ). roster_bytes r ++ replicate (size - n) 0) (length-roster_bytes r)
    ∙ ap (λ (x : List ℕ). x ++ replicate (size - 16) 0) (sym front-is)
    ∙ ap (λ (x : List ℕ). front ++ x) (sym rest-is) in
    subst (λ (x : List ℕ). IsRoster cis x r) whole (block_of_roster_is cis size r rules)

-- the fields, byte by byte
pub roster_cells : (r : Roster) (u p n : List ℕ) → u ≡ to_be_bytes w16 r.used
    → p ≡ to_be_bytes w32 r.part → n ≡ to_be_bytes w32 (area_field r.next)
    → 82 ∷ 0 ∷ get_or u 0 0 ∷ get_or u 1 0 ∷ 0 ∷ 0 ∷ 0 ∷ 0 ∷ get_or p 0 0 ∷ get_or p 1 0 ∷ get_or p
    2 0 ∷ get_or p 3 0 ∷ get_or n 0 0 ∷ get_or n 1 0 ∷ get_or n 2 0 ∷ get_or n 3 0 ∷ []
    ≡ roster_bytes r
unfolding roster_bytes two four
roster_cells r u p n u-is p-is n-is = rw (u-is, p-is, n-is) refl
