-- The bytes of a log, gathered block by block.
use Rattle.std.proofs.Common.{◌≡◌, inl, inr, ⊎_elim, ℕ, suc, ◌+◌, ◌-◌, ◌<◌, ◌≤◌, Bool}
use Rattle.std.proofs.Common.{true, false, List, [], ◌++◌, Some, None, nat_eq}
use Rattle.std.proofs.Common.{nat_le, refl, sym, ap, subst, ◌∙◌, arith, eq-eqb, true≢false}
use Rattle.std.proofs.lemmas.Bool.{cases_lt, le-leb, lt-leb, ne_eqb}
use Rattle.std.proofs.lemmas.List.{append-nil, append_assoc}
use Rattle.vr_types.specs.Fields.{AreZeros}
use Rattle.vr_types.specs.Image.{Block, Image, block_at}
use Rattle.vr_types.specs.declared.geometry.Geometry.{Geometry}
use Rattle.vr_log.specs.declared.gathering.Next.{Next}
use Rattle.vr_log.specs.Damage.{IsFull}
use Rattle.vr_log.specs.LogBlock.{used_in, payload_in, rest_in, is_next, room_of}
use Rattle.vr_log.specs.Reading.{IsGatheredTo, IsGathered, IsLast, IsWrong, IsNextFound}
use Rattle.vr_log.specs.Spells.{joined, Fits, bytes_from}

-- the blocks from an index on, the first of them apart
left-one : (count index : ℕ) → index < count → count - index ≡ suc (count - (index + 1))
left-one count index below = omega (arith, below)

module _ (room generation index left : ℕ) (image : Image) where
  abbrev Here : Block
  Here = block_at image (1 + index)

  abbrev Rest : List ℕ
  Rest = bytes_from room generation (index + 1) left image

  full-join : (next fits full : Bool) (payload rest : List ℕ) → next ≡ true → fits ≡ true
      → full ≡ true → joined next fits full payload rest ≡ payload ++ rest
  full-join true true true payload rest is fit all = refl
  full-join false fits full payload rest is fit all = absurd (true≢false (sym is))
  full-join true false full payload rest is fit all = absurd (true≢false (sym fit))
  full-join true true false payload rest is fit all = absurd (true≢false (sym all))

  part-join : (next fits full : Bool) (payload rest : List ℕ) → next ≡ true → fits ≡ true
      → full ≡ false → joined next fits full payload rest ≡ payload
  part-join true true false payload rest is fit all = append-nil payload
  part-join false fits full payload rest is fit all = absurd (true≢false (sym is))
  part-join true false full payload rest is fit all = absurd (true≢false (sym fit))
  part-join true true true payload rest is fit all = absurd (true≢false all)

  out-join : (next fits full : Bool) (payload rest : List ℕ) → next ≡ false
      → joined next fits full payload rest ≡ []
  out-join false fits full payload rest is = refl
  out-join true fits full payload rest is = absurd (true≢false is)

  over-join : (next fits full : Bool) (payload rest : List ℕ) → fits ≡ false
      → joined next fits full payload rest ≡ []
  over-join true false full payload rest is = refl
  over-join false false full payload rest is = refl
  over-join next true full payload rest is = absurd (true≢false is)

  pub full-bytes : IsFull room generation index Here
      → bytes_from room generation index (suc left) image ≡ payload_in Here ++ Rest
  full-bytes full =
      full-join (is_next generation index Here) (nat_le (used_in Here) room)
      (nat_eq (used_in Here) room) (payload_in Here) Rest full.next
      (le-leb (used_in Here) room (omega (arith, full.used)))
      (eq-eqb (used_in Here) room full.used)

  pub part-bytes : is_next generation index Here ≡ true → used_in Here < room
      → bytes_from room generation index (suc left) image ≡ payload_in Here
  part-bytes next less =
      part-join (is_next generation index Here) (nat_le (used_in Here) room)
      (nat_eq (used_in Here) room) (payload_in Here) Rest next
      (le-leb (used_in Here) room (omega (arith, less)))
      (ne_eqb (used_in Here) room (λ same. omega (arith, same, less)))

  pub out-bytes : is_next generation index Here ≡ false
      → bytes_from room generation index (suc left) image ≡ []
  out-bytes out =
      out-join (is_next generation index Here) (nat_le (used_in Here) room)
      (nat_eq (used_in Here) room) (payload_in Here) Rest out

  pub over-bytes : room < used_in Here
      → bytes_from room generation index (suc left) image ≡ []
  over-bytes over =
      over-join (is_next generation index Here) (nat_le (used_in Here) room)
      (nat_eq (used_in Here) room) (payload_in Here) Rest (lt-leb (used_in Here) room over)

  pub part-fits : used_in Here < room → AreZeros (rest_in Here)
      → Fits room generation index (suc left) image
  part-fits less zeros next =
      (omega (arith, less), zeros, λ same. absurd (omega (arith, same, less)))

  pub out-fits : is_next generation index Here ≡ false → Fits room generation index (suc left) image
  out-fits out next = absurd (true≢false (sym next ∙ out))

  pub full-fits : IsFull room generation index Here → Fits room generation (index + 1) left image
      → Fits room generation index (suc left) image
  full-fits full further next = (omega (arith, full.used), full.zeros, λ same. further)

module _ (geometry : Geometry) (generation : ℕ) (image : Image) where
  abbrev Room : ℕ
  Room = room_of geometry

  abbrev At : ℕ → Block
  At index = block_at image (1 + index)

  pub gathered-none : (bytes : List ℕ) → bytes ≡ []
      → IsGatheredTo geometry generation image 0 bytes
  gathered-none bytes none =
      let all : geometry.log - 0 ≡ geometry.log = omega arith in
      record {
        full = λ i below. absurd (omega (arith, below));
        rest = ap (λ (n : ℕ). bytes_from Room generation 0 n image) (sym all)
            ∙ ap (λ (l : List ℕ). l ++ bytes_from Room generation 0 (geometry.log - 0) image)
            (sym none);
        fits = λ fits. subst (λ (n : ℕ). Fits Room generation 0 n image) all fits;
      }

  split : (index : ℕ) → index < geometry.log
      → bytes_from Room generation index (geometry.log - index) image
      ≡ bytes_from Room generation index (suc (geometry.log - (index + 1))) image
  split index below =
      ap (λ (n : ℕ). bytes_from Room generation index n image) (left-one geometry.log index below)

  fits-split : (index : ℕ) → index < geometry.log
      → Fits Room generation index (suc (geometry.log - (index + 1))) image
      → Fits Room generation index (geometry.log - index) image
  fits-split index below fits =
      subst (λ (n : ℕ). Fits Room generation index n image)
      (sym (left-one geometry.log index below)) fits

  module _ (index : ℕ) (bytes new : List ℕ) (below : index < geometry.log)
      (so_far : IsGatheredTo geometry generation image index bytes) where
    pub gathered-full : IsFull Room generation index (At index)
        → new ≡ bytes ++ payload_in (At index)
        → IsGatheredTo geometry generation image (index + 1) new
    gathered-full full is = record {
      full = λ i under. ⊎_elim (λ (less : i < index). so_far.full i less)
          (λ (most : index ≤ i). let same : index ≡ i = omega (arith, most, under) in
          subst (λ (n : ℕ). IsFull Room generation n (At n)) same full)
          (cases_lt i index);
      rest = so_far.rest
          ∙ ap (λ (l : List ℕ). bytes ++ l) (split index below
          ∙ full-bytes Room generation index (geometry.log - (index + 1)) image full)
          ∙ sym (append_assoc bytes (payload_in (At index))
          (bytes_from Room generation (index + 1) (geometry.log - (index + 1)) image))
          ∙ ap (λ (l : List ℕ). l
          ++ bytes_from Room generation (index + 1) (geometry.log - (index + 1)) image) (sym is);
      fits = λ further. so_far.fits (fits-split index below
          (full-fits Room generation index (geometry.log - (index + 1)) image full further));
    }

    pub gathered-last : IsLast Room generation index (At index) bytes new
        → IsGathered geometry generation image new None
    gathered-last last = ⊎_elim
        (λ (out : (is_next generation index (At index) ≡ false) × (new ≡ bytes)). record {
          bytes_is = so_far.rest
              ∙ ap (λ (l : List ℕ). bytes ++ l) (split index below
              ∙ out-bytes Room generation index (geometry.log - (index + 1)) image out.0)
              ∙ append-nil bytes ∙ sym out.1;
          end = so_far.fits (fits-split index below
              (out-fits Room generation index (geometry.log - (index + 1)) image out.0));
        })
        (λ (part : (is_next generation index (At index) ≡ true) × (used_in (At index) < Room)
        × AreZeros (rest_in (At index)) × (new ≡ bytes ++ payload_in (At index))). record {
          bytes_is = so_far.rest
              ∙ ap (λ (l : List ℕ). bytes ++ l) (split index below
              ∙ part-bytes Room generation index (geometry.log - (index + 1)) image part.0 part.1)
              ∙ sym part.3;
          end = so_far.fits (fits-split index below
              (part-fits Room generation index (geometry.log - (index + 1)) image part.1 part.2));
        }) last.is

    pub gathered-wrong : IsWrong Room generation index (At index) bytes new
        → IsGathered geometry generation image new (Some index)
    gathered-wrong wrong = ⊎_elim
        (λ (over : (Room < used_in (At index)) × (new ≡ bytes)). record {
          bytes_is = so_far.rest
              ∙ ap (λ (l : List ℕ). bytes ++ l) (split index below
              ∙ over-bytes Room generation index (geometry.log - (index + 1)) image over.0)
              ∙ append-nil bytes ∙ sym over.1;
          end = record {
            within = below;
            full = so_far.full;
            next = wrong.next;
            bad = inl over.0;
          };
        })
        (λ (other : (used_in (At index) < Room) × (AreZeros (rest_in (At index)) → ⊥)
        × (new ≡ bytes ++ payload_in (At index))). record {
          bytes_is = so_far.rest
              ∙ ap (λ (l : List ℕ). bytes ++ l) (split index below
              ∙ part-bytes Room generation index (geometry.log - (index + 1)) image wrong.next
              other.0)
              ∙ sym other.2;
          end = record {
            within = below;
            full = so_far.full;
            next = wrong.next;
            bad = inr other.1;
          };
        }) wrong.is

  -- all blocks are full
  pub gathered-all : (index : ℕ) (bytes : List ℕ) → index ≡ geometry.log
      → IsGatheredTo geometry generation image index bytes
      → IsGathered geometry generation image bytes None
  gathered-all index bytes is so_far =
      let none : geometry.log - index ≡ 0 = omega (arith, is) in
      record {
        bytes_is = so_far.rest
            ∙ ap (λ (n : ℕ). bytes ++ bytes_from Room generation index n image) none
            ∙ append-nil bytes;
        end = so_far.fits (subst (λ (n : ℕ). Fits Room generation index n image) (sym none) tt);
      }

-- what a call says of a block that was read, at the shape and the contents as they were at first
pub taken : (size : ℕ) (geometry : Geometry) (generation : ℕ) (image now : Image) (index : ℕ)
    (old new : List ℕ) (next found : Next) → size ≡ geometry.size → now ≡ image → found ≡ next
    → IsNextFound (size - 16) generation index (block_at now (1 + index)) old new found
    → IsNextFound (room_of geometry) generation index (block_at image (1 + index)) old new next
taken size geometry generation image now index old new next found size_is image_is found_is has =
    subst (λ (n : Next). IsNextFound (room_of geometry) generation index
    (block_at image (1 + index)) old new n) found_is
    (subst (λ (i : Image). IsNextFound (room_of geometry) generation index
    (block_at i (1 + index)) old new found) image_is
    (subst (λ (n : ℕ). IsNextFound (n - 16) generation index (block_at now (1 + index)) old new
    found) size_is has))
