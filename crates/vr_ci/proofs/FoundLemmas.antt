-- A block that its RDFs describe is a control interval, and a view shows its value.
use Rattle.std.proofs.Common.{◌≡◌, ℕ, zero, suc, ◌+◌, ◌-◌, ◌*◌, ◌%◌, ◌≤◌, ◌⊎◌, inl, inr, false}
use Rattle.std.proofs.Common.{List, [], ◌∷◌, ◌++◌, length, take, drop, None, refl, sym, ap, ◌∙◌}
use Rattle.std.proofs.Common.{subst, arith, append_assoc, length-append, length-take, length-drop}
use Rattle.std.specs.Prelude.{map, replicate, if◌then◌else◌}
use Rattle.std.specs.List.{flat_map}
use Rattle.std.proofs.lemmas.Nat.{div-add-mod'}
use Rattle.std.proofs.lemmas.List.{take_at, drop_at, length-replicate}
use Rattle.vr_ci_match.specs.declared.form.Form.{Form}
use Rattle.vr_ci_match.specs.declared.form.Form.TheVariants.{Plain, Slots}
use Rattle.vr_ci_match.specs.declared.form.Piece.TheVariants.{First, Inner, Last}
use Rattle.vr_ci_match.specs.declared.rdf.Rdf.{Rdf}
use Rattle.vr_ci_match.specs.declared.rdf.Rdf.TheVariants.{Single, Run, Segment}
use Rattle.vr_types.specs.BlockSize.{IsBlockSize}
use Rattle.vr_ci_match.specs.Rdf.{marks, spans, rdf_bytes, control, IsChain}
use Rattle.vr_ci_match.specs.Laid.{slots_in, padded, cidf, control_at, laid}
use Rattle.vr_ci_match.specs.Fault.{cidf_at, displacement, free_length, free_end, is_busy, IsWhole}
use Rattle.vr_ci_match.specs.Fault.{masked, slotted, slots_of, meant, HasRightLengths}
use Rattle.vr_ci_match.proofs.CallerLemmas.{control_thirds, control_same, total-all, zeros}
use Rattle.vr_ci_match.proofs.CallerLemmas.{length-padded, padded_fits, Parts, before_cidf}
use Rattle.vr_ci_match.proofs.CallerLemmas.{cidf_says, field_busy, alone, all_records}
use Rattle.vr_ci_match.proofs.CallerLemmas.{AreSingles, singles, masked_is, length-masked_marks}
use Rattle.vr_ci_match.proofs.CallerLemmas.{whole_end}
use Rattle.vr_ci.proofs.FaultLemmas.{cut}
use Rattle.vr_ci.proofs.SizeLemmas.{size_bounds}
use Rattle.std.proofs.Math.Nat.{mul-le-mul_right}

abbrev pub AreSlots : ℕ → List Rdf → Type 0
AreSlots len [] = Unit {0}
AreSlots len (Single live n ∷ rs) = (n ≡ len) × AreSlots len rs
AreSlots len (Run n k ∷ rs) = ⊥
AreSlots len (Segment piece live number n ∷ rs) = ⊥

-- the RDFs of slots fit the block
slots_fit : (n len : ℕ) (rs : List Rdf) → AreSlots len rs → length rs ≤ slots_in n len
    → spans rs + length (control rs) ≤ n - 4
slots_fit n len rs slots within =
    let sums = sizes rs slots in
    let most : length rs * (len + 3) ≤ slots_in n len * (len + 3) =
    mul-le-mul_right (len + 3) within in
    omega (arith, sums, most, div-add-mod' (n - 4) (len + 3))
  where
    sizes : (rs : List Rdf) → AreSlots len rs
        → spans rs + length (control rs) ≡ length rs * (len + 3)
    sizes [] slots = omega arith
    sizes (Single live k ∷ rs) slots =
        omega (
          arith,
          sizes rs slots.1,
          slots.0,
          length-append (control rs) (rdf_bytes (Single live k)),
        )
    sizes (Run k c ∷ rs) slots = absurd slots
    sizes (Segment piece live number k ∷ rs) slots = absurd slots

slotted_are : (len : ℕ) (rs : List Rdf) → AreSingles rs → AreSlots len (map (slotted len) rs)
slotted_are len [] singles_only = tt
slotted_are len (Single live n ∷ rs) singles_only = (refl, slotted_are len rs singles_only)
slotted_are len (Run n k ∷ rs) singles_only = absurd singles_only
slotted_are len (Segment piece live number n ∷ rs) singles_only = absurd singles_only

empty_are : (len k : ℕ) → AreSlots len (replicate k (Single false len))
empty_are len zero = tt
empty_are len (suc k) = (refl, empty_are len k)

are-append : (len : ℕ) (rs ss : List Rdf) → AreSlots len rs → AreSlots len ss
    → AreSlots len (rs ++ ss)
are-append len [] ss slots all_slots = all_slots
are-append len (Single live n ∷ rs) ss slots all_slots =
    (slots.0, are-append len rs ss slots.1 all_slots)
are-append len (Run n k ∷ rs) ss slots all_slots = absurd slots
are-append len (Segment piece live number n ∷ rs) ss slots all_slots = absurd slots

are-take : (len k : ℕ) (rs : List Rdf) → AreSlots len rs → AreSlots len (take k rs)
are-take len zero rs slots = tt
are-take len (suc k) [] slots = tt
are-take len (suc k) (Single live n ∷ rs) slots = (slots.0, are-take len k rs slots.1)
are-take len (suc k) (Run n j ∷ rs) slots = absurd slots
are-take len (suc k) (Segment piece live number n ∷ rs) slots = absurd slots

pub slots_are : (size len : ℕ) (rs : List Rdf) → AreSingles rs → AreSlots len (slots_of size len rs)
    × (length (slots_of size len rs) ≡ slots_in size len)
slots_are size len rs singles_only =
    let k : ℕ = slots_in size len in
    let all : List Rdf = map (slotted len) rs ++ replicate k (Single false len) in
    let some : Rdf = Single false len in (
      are-take len k all (are-append len (map (slotted len) rs) (replicate k some)
          (slotted_are len rs singles_only) (empty_are len k)),
      omega (
        arith,
        length-take k all,
        length-append (map (slotted len) rs) (replicate k some),
        length-replicate k some,
      ),
    )

-- what the RDFs that are meant leave of a block
record Leaves (form : Form) (n : ℕ) (rs : List Rdf) : Type 0 where
  place : length (control (meant form n rs)) + 4 ≤ n
  records : (meant form n rs ≡ rs) ⊎ (spans (meant form n rs) ≤ control_at n (meant form n rs))

leaves : (form : Form) (n : ℕ) (rs : List Rdf) → 512 ≤ n → IsChain form rs
    → length (control rs) + 4 ≤ n → Leaves form n rs
leaves form n (Segment First live number k ∷ rs) least chain within =
    record { place = omega (arith, least); records = inr (omega (arith, least)) }
leaves form n (Segment Inner live number k ∷ rs) least chain within =
    record { place = omega (arith, least); records = inr (omega (arith, least)) }
leaves form n (Segment Last live number k ∷ rs) least chain within =
    let none : rs ≡ [] = alone form Last live number k rs chain in
    record {
      place = omega (arith, least);
      records = inl (ap (λ (x : List Rdf). Segment Last live number k ∷ x) (sym none));
    }
leaves Plain n [] least chain within = record { place = within; records = inl refl }
leaves Plain n (Single live k ∷ rs) least chain within =
    record { place = within; records = inl refl }
leaves Plain n (Run k j ∷ rs) least chain within = record { place = within; records = inl refl }
leaves (Slots len) n [] least chain within = slots_leave len n [] least tt
  where
    slots_leave : (len n : ℕ) (rs : List Rdf) → 512 ≤ n → AreSingles rs → Leaves (Slots len) n []
    slots_leave len n rs least singles_only =
        let slots_are_here = slots_are n len [] tt in
        let fit = slots_fit n len (slots_of n len []) slots_are_here.0
        (omega (arith, slots_are_here.1)) in
        record { place = omega (arith, fit, least); records = inr (omega (arith, fit)) }
leaves (Slots len) n (Single live k ∷ rs) least chain within =
    let all = Single live k ∷ rs in
    let slots_are_here = slots_are n len all
    (singles len None all chain (all_records (Slots len) None all chain refl)) in
    let fit = slots_fit n len (slots_of n len all) slots_are_here.0
    (omega (arith, slots_are_here.1)) in
    record { place = omega (arith, fit, least); records = inr (omega (arith, fit)) }
leaves (Slots len) n (Run k j ∷ rs) least chain within = absurd chain.1

-- what is known of a block that its RDFs describe
pub record Right (form : Form) (block : List ℕ) (rs : List Rdf) : Type 0 where
  pub place : spans rs + length (control rs) + 4 ≤ length block
  pub meant : meant form (length block) rs ≡ rs
  pub layout : block ≡ laid (length block) (masked rs block) rs (is_busy block)
  pub low : free_end block ≡ control_at (length block) rs
  pub masked : masked rs block ≡ take (spans rs) block

pub right_is : (form : Form) (block : List ℕ) (rs : List Rdf) → IsBlockSize (length block)
    → IsWhole form block rs → HasRightLengths form block rs → Right form block rs
right_is form block rs size is_whole right =
    let n = length block in
    let bounds = size_bounds n size in
    let end = whole_end form block rs bounds.0 is_whole in
    let implied = meant form n rs in
    let leaves_here = leaves form n rs bounds.0 is_whole.right.chain (omega (arith, end, bounds.0))
    in
    let f = control_at n implied in
    let parts : Parts block (masked implied block) implied (spans implied) (f - spans implied)
    (is_busy block) = record { whole = right.same; fits = leaves_here.place } in
    let halves = before_cidf parts in
    let numbers = cidf_says block (spans implied)
    ((f - spans implied) + (if is_busy block then 32768 else 0)) halves.1 in
    let flags = field_busy (f - spans implied) (is_busy block) (omega (arith, bounds.1)) in
    let free : free_length block ≡ f - spans implied = ap (λ (k : ℕ). k % 32768) numbers.1
    ∙ flags.0 in
    let bytes : drop f (take (n - 4) block) ≡ control implied =
    ap (λ (b : List ℕ). drop f b) halves.0
    ∙ drop_at (padded f (masked implied block)) (control implied) f
    (length-padded f (masked implied block)) in
    finish n implied refl (free_is implied numbers.0 free) bytes leaves_here end
  where
    free_is : (implied : List Rdf) → displacement block ≡ spans implied
        → free_length block ≡ control_at (length block) implied - spans implied
        → free_end block ≡ spans implied + (control_at (length block) implied - spans implied)
    free_is implied displacement_is free_length_is = omega (arith, displacement_is, free_length_is)

    done : spans rs ≤ control_at (length block) rs → meant form (length block) rs ≡ rs
        → free_end block ≡ control_at (length block) rs
        → length (control rs) + control_at (length block) rs ≡ cidf_at block → Right form block rs
    done fits meant_is low end =
        let bounds = size_bounds (length block) size in
        let layout : block ≡ laid (length block) (masked rs block) rs (is_busy block) =
        right.same ∙ ap (λ (x : List Rdf). laid (length block) (masked x block) x (is_busy block))
        meant_is in
        let f = control_at (length block) rs in
        let long : length (masked rs block) ≡ spans rs =
        ap length (masked_is rs block)
        ∙ length-masked_marks (flat_map marks rs) block
        (omega (arith, total-all rs, fits, end)) ∙ total-all rs in
        let spread : padded f (masked rs block) ≡ masked rs block
        ++ zeros (f - length (masked rs block)) =
        padded_fits f (masked rs block) (omega (arith, long, fits)) in
        let tail : List ℕ = cidf (spans rs) (f - spans rs) (is_busy block) in
        let front : take (spans rs) block ≡ masked rs block =
        ap (λ (b : List ℕ). take (spans rs) b) layout
        ∙ ap (λ (b : List ℕ). take (spans rs) (b ++ control rs ++ tail)) spread
        ∙ ap (λ (b : List ℕ). take (spans rs) b)
        (regroup (masked rs block) (zeros (f - length (masked rs block))) (control rs) tail)
        ∙ take_at (masked rs block) (zeros (f - length (masked rs block)) ++ (control rs ++ tail))
        (spans rs) long in
        record {
          place = omega (arith, fits, end, bounds.0);
          meant = meant_is;
          layout = layout;
          low = low;
          masked = sym front;
        }
      where
        regroup : (a b c d : List ℕ) → ((a ++ b) ++ c) ++ d ≡ a ++ (b ++ (c ++ d))
        regroup a b c d = ap (λ (x : List ℕ). x ++ d) (append_assoc a b c)
            ∙ append_assoc a (b ++ c) d ∙ ap (λ (x : List ℕ). a ++ x) (append_assoc b c d)

    finish : (n : ℕ) (implied : List Rdf) → implied ≡ meant form (length block) rs
        → free_end block ≡ spans implied + (control_at (length block) implied - spans implied)
        → drop (control_at (length block) implied) (take (length block - 4) block) ≡ control implied
        → Leaves form (length block) rs
        → length (control rs) + control_at (length block) rs ≡ cidf_at block → Right form block rs
    finish n implied implied_is free bytes leaves_here end =
        elim leaves_here.records [
          | inl branch ↦
              let same : implied ≡ rs = implied_is ∙ branch in
              let free_rs : free_end block ≡ spans rs + (control_at (length block) rs - spans rs) =
              subst (λ (x : List Rdf). free_end block ≡ spans x +
              (control_at (length block) x - spans x)) same free in
              done (omega (arith, free_rs, is_whole.right.low)) branch
              (omega (arith, free_rs, is_whole.right.low)) end
          | inr branch ↦
              let fit : spans implied ≤ control_at (length block) implied =
              subst (λ (x : List Rdf). spans x ≤ control_at (length block) x) (sym implied_is)
              branch in
              let upto : List ℕ = take (cidf_at block) block in
              let one = control_thirds rs in
              let two = control_thirds implied in
              let long : length (control implied) + control_at (length block) implied ≡ cidf_at
              block =
              omega (
                arith,
                ap length bytes,
                length-drop (control_at (length block) implied) upto,
                length-take (cidf_at block) block,
                (size_bounds (length block) size).0,
              ) in
              let lengths : length (control rs) ≡ length (control implied) =
              omega (
                arith,
                one.1,
                two.1,
                long,
                end,
                is_whole.right.low,
                is_whole.whole,
                free,
                fit,
              ) in
              let same : rs ≡ implied = control_same rs implied
              (take (control_at (length block) rs) upto)
              (take (control_at (length block) implied) upto) lengths
              (cut block (control_at (length block) rs) rs is_whole.right.bytes
              ∙ sym (cut block (control_at (length block) implied) implied bytes)) in
              let fit_rs : spans rs ≤ control_at (length block) rs =
              subst (λ (x : List Rdf). spans x ≤ control_at (length block) x) (sym same) fit in
              let at_rs : control_at (length block) implied ≡ control_at (length block) rs =
              ap (λ (x : List Rdf). control_at (length block) x) (sym same) in
              done fit_rs (sym implied_is ∙ sym same) (omega (arith, free, fit, at_rs)) end
        ]
