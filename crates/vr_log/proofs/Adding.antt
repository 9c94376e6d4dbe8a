-- A loop that adds bytes to a log.
use Rattle.std.proofs.Common.{◌≡◌, ℕ, ◌+◌, ◌-◌, ◌*◌, Bool, IsTrue, List, [], ◌++◌, take, drop}
use Rattle.std.proofs.Common.{vec_len, Result, Ok, refl, sym, ap, subst, ◌∙◌, arith}
use Rattle.std.proofs.lemmas.List.{append-nil, append_assoc, take-append-drop}
use Rattle.vr_types.specs.Regions.{Touches}
use Rattle.vr_types.specs.Seen.{Seen}
use Rattle.vr_types.proofs.CallerLemmas.{touches-then}
use Rattle.vr_log.specs.declared.tail.Tail.{Tail}
use Rattle.vr_log.specs.LogNow.{LogNow}
use Rattle.vr_log.specs.Standing.{InLog}
use Rattle.vr_log.specs.Writing.{IsPrefix, IsWriting, IsFound, Follows, HasRoom, position}
use Rattle.vr_types.specs.declared.fault.DeviceFault.{DeviceFault}

-- what the bytes added so far make of a log
abbrev pub Adds : Bool → List ℕ → List ℕ → Tail → Tail → Seen → Seen → Type 0
Adds told bytes rest start tail first now = (log : LogNow) (total written : List ℕ)
    → IsWriting log total written start told first → IsPrefix (written ++ bytes) total
    → (done : List ℕ) × (done ++ rest ≡ bytes)
    × IsWriting log total (written ++ done) tail told now
    × (IsTrue told → Touches (InLog log.geometry) (IsFound log total) first now)

pub adds-none : (told : Bool) (bytes : List ℕ) (tail : Tail) (first : Seen)
    → ((log : LogNow) (total written : List ℕ) → IsWriting log total written tail told first
    → IsPrefix written total → IsTrue told
    → Touches (InLog log.geometry) (IsFound log total) first first)
    → Adds told bytes bytes tail tail first first
adds-none told bytes tail first still log total written w prefix = (
  [],
  refl,
  subst (λ (x : List ℕ). IsWriting log total x tail told first)
      (sym (append-nil written)) w,
  λ is. still log total written w (
    bytes
        ++ prefix.0,
    sym (append_assoc written bytes prefix.0) ∙ prefix.1,
  ) is,
)

-- what is left is a prefix too
left-prefix : (written done rest bytes total : List ℕ) → done ++ rest ≡ bytes
    → IsPrefix (written ++ bytes) total → IsPrefix ((written ++ done) ++ rest) total
left-prefix written done rest bytes total is (more, whole) = (
  more,
  ap (λ (x : List ℕ). x ++ more) (append_assoc written done rest
      ∙ ap (λ (x : List ℕ). written ++ x) is) ∙ whole,
)

module _ (told : Bool) (bytes rest : List ℕ) (start tail next : Tail) (first now last : Seen)
    (adds : Adds told bytes rest start tail first now) where
  -- one step more that failed or not
  pub adds-touches : ((log : LogNow) (total written : List ℕ)
      → IsWriting log total written tail told now → IsPrefix (written ++ rest) total → IsTrue told
      → Touches (InLog log.geometry) (IsFound log total) now last)
      → (log : LogNow) (total written : List ℕ) → IsWriting log total written start told first
      → IsPrefix (written ++ bytes) total → IsTrue told
      → Touches (InLog log.geometry) (IsFound log total) first last
  adds-touches step log total written w prefix is_told =
      let so_far = adds log total written w prefix in
      touches-then _ _ first now last (so_far.3 is_told) (step log total (written
      ++ so_far.0) so_far.2 (left-prefix written so_far.0 rest bytes total so_far.1 prefix)
      is_told)

  -- one step more that was Ok
  pub adds-more : (count : ℕ)
      → ((log : LogNow) (total written : List ℕ) → IsWriting log total written tail told now
      → IsPrefix (written ++ rest) total → IsTrue told
      → Touches (InLog log.geometry) (IsFound log total) now last)
      → ((log : LogNow) (total written : List ℕ) → IsWriting log total written tail told now
      → IsPrefix (written ++ rest) total
      → IsWriting log total (written ++ take count rest) next told last)
      → Adds told bytes (drop count rest) start next first last
  adds-more count step goes log total written w prefix =
      let so_far = adds log total written w prefix in
      let further = left-prefix written so_far.0 rest bytes total so_far.1 prefix in (
        so_far.0 ++ take count rest,
        append_assoc so_far.0 (take count rest) (drop count rest)
            ∙ ap (λ (x : List ℕ). so_far.0 ++ x) (take-append-drop count rest) ∙ so_far.1,
        subst (λ (x : List ℕ). IsWriting log total x next told last)
            (append_assoc written so_far.0 (take count rest)) (goes log total (written
            ++ so_far.0) so_far.2 further),
        adds-touches step log total written w prefix,
      )

-- all of them were added
pub adds-all : (told : Bool) (bytes rest : List ℕ) (start tail : Tail) (first now : Seen)
    → Adds told bytes rest start tail first now → rest ≡ []
    → (log : LogNow) (total written : List ℕ) → IsWriting log total written start told first
    → IsPrefix (written ++ bytes) total
    → IsWriting log total (written ++ bytes) tail told now
    × (IsTrue told → Touches (InLog log.geometry) (IsFound log total) first now)
adds-all told bytes rest start tail first now adds none log total written w prefix =
    let so_far = adds log total written w prefix in
    let whole : so_far.0 ≡ bytes = sym (append-nil so_far.0)
    ∙ ap (λ (x : List ℕ). so_far.0 ++ x) (sym none) ∙ so_far.1 in (
      subst (λ (x : List ℕ). IsWriting log total (written
          ++ x) tail told now) whole so_far.2,
      so_far.3,
    )

-- there is room for what is left
pub room_left : (old next : Tail) (count left : ℕ) → next.blocks ≡ old.blocks
    → vec_len next.block ≡ vec_len old.block → position next ≡ position old + count
    → HasRoom old (count + left) → HasRoom next left
room_left old next count left blocks size moved room =
    let most : next.blocks * (vec_len next.block - 16) ≡ old.blocks * (vec_len old.block - 16) =
    ap (λ (n : ℕ). n * (vec_len next.block - 16)) blocks
    ∙ ap (λ (n : ℕ). old.blocks * (n - 16)) size in
    omega (arith, most, moved, room)

-- the first bytes of a prefix are one
pub prefix-left : (one other total : List ℕ) → IsPrefix (one ++ other) total → IsPrefix one total
prefix-left one other total (rest, is) = (other ++ rest, sym (append_assoc one other rest) ∙ is)

-- bytes that are added to a log
abbrev pub Writes : {T : Type 0} → Bool → List ℕ → Tail → Tail → Seen → Seen → Result T DeviceFault
    → Type 0
Writes told bytes start next first last result = (log : LogNow) (total written : List ℕ)
    → IsWriting log total written start told first → IsPrefix (written ++ bytes) total
    → Follows told log total (written ++ bytes) next first last result

-- some, and then others
pub writes_then : {T S : Type 0} (told : Bool) (one other : List ℕ) (start mid next : Tail)
    (first now last : Seen) (x : S) (result : Result T DeviceFault)
    → Writes {T = S} told one start mid first now (Ok x)
    → Writes told other mid next now last result
    → Writes told (one ++ other) start next first last result
writes_then told one other start mid next first now last x result before after log total written w
    prefix =
    let joined : written ++ (one ++ other) ≡ (written ++ one) ++ other =
    sym (append_assoc written one other) in
    let whole : IsPrefix ((written ++ one) ++ other) total =
    subst (λ (bytes : List ℕ). IsPrefix bytes total) joined prefix in
    let a = before log total written w (prefix-left (written ++ one) other total whole) in
    let b = after log total (written ++ one) a.writing whole in
    subst (λ (bytes : List ℕ). Follows told log total bytes next first last result) (sym joined)
    (record {
      writing = b.writing;
      touches =
          λ t. touches-then _ _ first now last (a.touches t) (b.touches t);
    })

-- the first of them, where it failed
pub writes_stop : {T : Type 0} (told : Bool) (one other : List ℕ) (start next : Tail)
    (first last : Seen) (result : Result T DeviceFault)
    → Writes told one start next first last result
    → (log : LogNow) (total written : List ℕ) → IsWriting log total written start told first
    → IsPrefix (written ++ (one ++ other)) total → IsTrue told
    → Touches (InLog log.geometry) (IsFound log total) first last
writes_stop told one other start next first last result before log total written w prefix is_told =
    let whole : IsPrefix ((written ++ one) ++ other) total =
    subst (λ (bytes : List ℕ). IsPrefix bytes total) (sym (append_assoc written one other))
    prefix in
    (before log total written w (prefix-left (written ++ one) other total whole)).touches is_told
