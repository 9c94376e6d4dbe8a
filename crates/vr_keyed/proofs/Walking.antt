-- Rooms of the intervals of a head, one by one and all.
use Rattle.std.proofs.Common.{◌≡◌, ℕ, zero, suc, ◌<◌, List, [], ◌∷◌, Option, Some}
use Rattle.std.proofs.Common.{length, refl, sym, ap, subst, arith}
use Rattle.std.specs.Prelude.{unwrap_or, IfOk, Result, Ok, Err, IsTrue, ◌↔◌, Bool}
use Rattle.std.specs.List.{slice_get}
use Rattle.vr_types.specs.Image.{Block, Image, block_at}
use Rattle.vr_seqset.specs.Entry.{Entry}
use Rattle.vr_types.specs.declared.fault.DeviceFault.{DeviceFault}
use Rattle.vr_space.specs.Room.{Lengths}
use Rattle.vr_space.specs.Keyed.{HaveRooms, Keyed, KeyedStandsFor, entries_of, entry_block}
use Rattle.vr_space.specs.Keyed.{low_of, range_of}
use Rattle.vr_space.proofs.CallerLemmas.{holds-nth}
use Rattle.vr_attach.specs.Damage.{HoldsNth}
use Rattle.vr_types.specs.Content.{Content}
use Rattle.vr_space.specs.Search.{low_before}
use Rattle.vr_keyed.specs.Rooms.{HasRoomIn, HaveRoomsAll}

abbrev EachRoom : Keyed → Lengths → Image → Option (List ℕ) → List Entry → Type 0
EachRoom part kept image low entries = (i : ℕ) (entry : Entry) → slice_get entries i ≡ Some entry
    → HasRoomIn part kept (range_of (low_before low entries i) entry)
    (block_at image (entry_block part entry))

all-of : (part : Keyed) (kept : Lengths) (image : Image) (low : Option (List ℕ))
    (entries : List Entry) → EachRoom part kept image low entries
    → HaveRooms part kept image low entries
all-of part kept image low [] each = tt
all-of part kept image low (entry ∷ entries) each = (
  each 0 entry refl,
  all-of part kept image (Some entry.high) entries (λ i other is. each (suc i) other is),
)

each-of : (part : Keyed) (kept : Lengths) (image : Image) (low : Option (List ℕ))
    (entries : List Entry) → HaveRooms part kept image low entries
    → EachRoom part kept image low entries
each-of part kept image low [] rooms i entry is = absurd cc
each-of part kept image low (first ∷ entries) rooms zero entry is =
    let here : first ≡ entry = ap (λ (o : Option Entry). unwrap_or o first) is in
    subst (λ (e : Entry). HasRoomIn part kept (range_of low e)
    (block_at image (entry_block part e))) here rooms.0
each-of part kept image low (first ∷ entries) rooms (suc i) entry is =
    each-of part kept image (Some first.high) entries rooms.1 i entry is

got-below : (entries : List Entry) (i : ℕ) (entry : Entry) → slice_get entries i ≡ Some entry
    → i < length entries
got-below [] i entry is = absurd cc
got-below (first ∷ entries) zero entry is = omega arith
got-below (first ∷ entries) (suc i) entry is = omega (arith, got-below entries i entry is)

-- of each and of all is the same
pub rooms-each : (part : Keyed) (kept : Lengths) (image : Image) (top : Block)
    → HaveRooms part kept image (low_of top) (entries_of top) ↔ HaveRoomsAll part kept top image
rooms-each part kept image top = (
  λ rooms i below entry is. each-of part kept image (low_of top) (entries_of top) rooms i entry is,
  λ all. all-of part kept image (low_of top) (entries_of top)
      (λ i entry is. all i (got-below (entries_of top) i entry is) entry is),
)

-- what is answered of each is answered of all
pub rooms-told : (part : Keyed) (kept : Lengths) (image : Image) (top : Block)
    (result : Result Bool DeviceFault)
    → IfOk result (λ is. IsTrue is ↔ HaveRoomsAll part kept top image)
    → IfOk result (λ is. IsTrue is ↔ HaveRooms part kept image (low_of top) (entries_of top))
rooms-told part kept image top (Ok is) told =
    let both = rooms-each part kept image top in
    (λ yes. both.1 (told.0 yes), λ rooms. told.1 (both.0 rooms))
rooms-told part kept image top (Err fault) told = tt

module _ (part : Keyed) (image now : Image) (top : Block) (same : now ≡ image)
    (is : top ≡ block_at image part.head) where
  -- each interval under a head that was read holds its range
  pub nth-holds : (content : Content) → KeyedStandsFor part image content → (i : ℕ)
      → i < length (entries_of top) → HoldsNth part top now i
  nth-holds content stands i below =
      subst (λ (b : Image). HoldsNth part top b i) (sym same)
      (subst (λ (t : Block). HoldsNth part t image i) (sym is)
      (λ entry there. holds-nth part image (low_of (block_at image part.head))
      (entries_of (block_at image part.head)) i entry stands.intervals there))

  -- and what is answered is answered of the part
  pub rooms-here : (kept : Lengths) (result : Result Bool DeviceFault)
      → IfOk result (λ is. IsTrue is ↔ HaveRoomsAll part kept top now)
      → IfOk result (λ is. IsTrue is
      ↔ HaveRooms part kept image (low_of (block_at image part.head))
      (entries_of (block_at image part.head)))
  rooms-here kept result told =
      subst (λ (t : Block). IfOk result (λ is. IsTrue is
      ↔ HaveRooms part kept image (low_of t) (entries_of t))) is
      (rooms-told part kept image top result
      (subst (λ (b : Image). IfOk result (λ is. IsTrue is
      ↔ HaveRoomsAll part kept top b)) same told))
