-- Changes that are made one after another at places of a part, each at one of its own: what they
-- leave at these places and elsewhere.
use Rattle.std.proofs.Common.{◌≡◌, ◌≢◌, ℕ, zero, suc, ◌+◌, ◌<◌, List, [], ◌∷◌, ◌++◌, Option, Some, None}
use Rattle.std.proofs.Common.{inr, length, take, refl, sym, ap, subst, ◌∙◌, arith, get_or}
use Rattle.std.specs.Prelude.{All}
use Rattle.std.proofs.lemmas.List.Elements.{All-cons, All-get_or, All-head, All-nil, All-push}
use Rattle.std.proofs.lemmas.List.Elements.{All-tail, All-take, All-weaker}
use Rattle.vr_types.specs.Content.{Item}
use Rattle.vr_types.specs.Image.{Image}
use Rattle.vr_types.specs.Seen.{Seen}
use Rattle.vr_space.specs.Known.{Known}
use Rattle.vr_space.specs.Part.{HasRoomFor, IsFirm, MayHold, SetsOne, Shape, item_of}
use Rattle.vr_space.specs.Part.{left_by}
use Rattle.vr_space.specs.Room.{Lengths}
use Rattle.vr_volume.specs.EntryChanges.{AreApart, AreSet, HaveRoom, MissAll, NeedsKept}
use Rattle.vr_volume.specs.Rests.{HoldsNoMore}
use Rattle.vr_volume.specs.declared.setting.EntryChange.{EntryChange}

-- ---- of each of several

pub all-left : {X : Type 0} (P : X → Type 0) (xs : List X) (x : X) → All P (xs ++ x ∷ [])
    → All P xs
all-left P [] x all = All-nil P
all-left P (y ∷ xs) x all = All-cons P y xs (All-head P y (xs ++ x ∷ []) all)
    (all-left P xs x (All-tail P y (xs ++ x ∷ []) all))

pub all-last : {X : Type 0} (P : X → Type 0) (xs : List X) (x : X) → All P (xs ++ x ∷ []) → P x
all-last P [] x all = All-head P x [] all
all-last P (y ∷ xs) x all = all-last P xs x (All-tail P y (xs ++ x ∷ []) all)

pub all-both : {X : Type 0} (P Q : X → Type 0) (xs : List X) → All P xs → All Q xs
    → All (λ (x : X). P x × Q x) xs
all-both {X} P Q [] one other = All-nil (λ (x : X). P x × Q x)
all-both {X} P Q (y ∷ xs) one other = All-cons (λ (x : X). P x × Q x) y xs
    (All-head P y xs one, All-head Q y xs other)
    (all-both P Q xs (All-tail P y xs one) (All-tail Q y xs other))

-- ---- each at a place of its own

apart-take : (n : ℕ) (changes : List EntryChange) → AreApart changes → AreApart (take n changes)
apart-take zero changes apart = tt
apart-take (suc n) [] apart = tt
apart-take (suc n) (change ∷ changes) apart = (
  All-take (λ (other : EntryChange). other.place ≢ change.place) n changes apart.0,
  apart-take n changes apart.1,
)

apart-last : (changes : List EntryChange) (last : EntryChange) → AreApart (changes ++ last ∷ [])
    → MissAll last.place changes
apart-last [] last apart = All-nil (λ (change : EntryChange). last.place ≢ change.place)
apart-last (change ∷ changes) last apart =
    All-cons (λ (other : EntryChange). last.place ≢ other.place) change changes
    (all-last (λ (other : EntryChange). other.place ≢ change.place) changes last apart.0)
    (apart-last changes last apart.1)

-- none of those before it is of its place
pub misses-before : (changes : List EntryChange) (i : ℕ) (change : EntryChange) → AreApart changes
    → take (i + 1) changes ≡ take i changes ++ change ∷ []
    → MissAll change.place (take i changes)
misses-before changes i change apart more = apart-last (take i changes) change
    (subst AreApart more (apart-take (i + 1) changes apart))

-- ---- one more

module _ (shape : Shape) (changes : List EntryChange) (i : ℕ) (change : EntryChange)
    (apart : AreApart changes) (more : take (i + 1) changes ≡ take i changes ++ change ∷ []) where
  abbrev before : List EntryChange
  before = take i changes

  missed : MissAll change.place before
  missed = misses-before changes i change apart more

  split-miss : (place : List ℕ) → MissAll place (take (i + 1) changes)
      → MissAll place before × (place ≢ change.place)
  split-miss place misses =
      let all : MissAll place (before ++ change ∷ []) =
      subst (MissAll place) more misses in (
        all-left (λ (other : EntryChange). place ≢ other.place) before change all,
        all-last (λ (other : EntryChange). place ≢ other.place) before change all,
      )

  pub set-more : (a b d : Image) → AreSet shape before a b
      → SetsOne shape change.place change.bytes b d → AreSet shape (take (i + 1) changes) a d
  set-more a b d were one = subst (λ (cs : List EntryChange). AreSet shape cs a d) (sym more)
      (record {
        here = All-push Here before change
            (All-weaker
            (λ (other : EntryChange). (item_of shape b other.place
            ≡ left_by shape (item_of shape a other.place) other.bytes)
            × (change.place ≢ other.place)) Here
            (λ other both. one.others other.place (λ same. both.1 (sym same)) ∙ both.0)
            before (all-both
            (λ (other : EntryChange). item_of shape b other.place
            ≡ left_by shape (item_of shape a other.place) other.bytes)
            (λ (other : EntryChange). change.place ≢ other.place) before were.here missed))
            (one.here ∙ ap (λ (now : Option Item). left_by shape now change.bytes)
            (were.others change.place missed));
        others = λ place misses.
            one.others place (all-last (λ (other : EntryChange). place ≢ other.place) before change
            misses)
            ∙ were.others place (all-left (λ (other : EntryChange). place ≢ other.place) before
            change misses);
      })
    where
      Here : EntryChange → Type 0
      Here other = item_of shape d other.place
          ≡ left_by shape (item_of shape a other.place) other.bytes

  pub holds-more : (a b d : Seen)
      → ((place : List ℕ) (found : Option Item) → MissAll place before
      → MayHold shape b.may place found → MayHold shape a.may place found)
      → HoldsNoMore shape change.place b d → (place : List ℕ) (found : Option Item)
      → MissAll place (take (i + 1) changes) → MayHold shape d.may place found
      → MayHold shape a.may place found
  holds-more a b d were one place found misses held =
      let both = split-miss place misses in
      were place found both.0 (one place found both.1 held)

  -- what stands firm before it does so at its place,
  pub firm-here : (a b : Seen) → AreSet shape before a.cur b.cur
      → ((place : List ℕ) (found : Option Item) → MissAll place before
      → MayHold shape b.may place found → MayHold shape a.may place found)
      → IsFirm shape a change.place → IsFirm shape b change.place
  firm-here a b were holds firm item held =
      firm item (holds change.place item missed held) ∙ sym (were.others change.place missed)

  -- and at each place of those before and its own once it is set
  pub firm-more : (b d : Seen) → SetsOne shape change.place change.bytes b.cur d.cur
      → HoldsNoMore shape change.place b d
      → All (λ (other : EntryChange). IsFirm shape b other.place) before
      → IsFirm shape d change.place
      → All (λ (other : EntryChange). IsFirm shape d other.place) (take (i + 1) changes)
  firm-more b d one holds were here =
      subst (All (λ (other : EntryChange). IsFirm shape d other.place)) (sym more)
      (All-push (λ (other : EntryChange). IsFirm shape d other.place) before change
      (All-weaker (λ (other : EntryChange). IsFirm shape b other.place
      × (change.place ≢ other.place)) (λ (other : EntryChange). IsFirm shape d other.place)
      (λ other both item held.
      both.0 item (holds other.place item (λ same. both.1 (sym same)) held)
      ∙ sym (one.others other.place (λ same. both.1 (sym same)))) before
      (all-both (λ (other : EntryChange). IsFirm shape b other.place)
      (λ (other : EntryChange). change.place ≢ other.place) before were missed)) here)

-- ---- room

needs-room : (shape : Shape) (known : Known) (image : Image) (kept : Lengths) (place : List ℕ)
    (bytes : Option (List ℕ)) → NeedsKept shape kept place bytes
    → HasRoomFor shape known image kept place bytes
needs-room shape known image kept place None needs = tt
needs-room shape known image kept place (Some bytes) needs = inr needs

-- there is room for each as it is come to
pub room-at : (shape : Shape) (known later : Known) (image now : Image) (kept : Lengths)
    (changes : List EntryChange) (i : ℕ) (change : EntryChange) → i < length changes
    → get_or changes i change ≡ change → HaveRoom shape known image kept changes
    → (i ≡ 0 → (later ≡ known) × (now ≡ image))
    → HasRoomFor shape later now kept change.place change.bytes
room-at shape known later image now kept [] i change below is room start =
    absurd (omega (arith, below))
room-at shape known later image now kept (first ∷ changes) zero change below is room start =
    let same = start refl in
    subst (λ (k : Known). HasRoomFor shape k now kept change.place change.bytes) (sym same.0)
    (subst (λ (im : Image). HasRoomFor shape known im kept change.place change.bytes) (sym same.1)
    (subst (λ (c : EntryChange). HasRoomFor shape known image kept c.place c.bytes) is room.0))
room-at shape known later image now kept (first ∷ changes) (suc i) change below is room start =
    needs-room shape later now kept change.place change.bytes
    (subst (λ (c : EntryChange). NeedsKept shape kept c.place c.bytes) is
    (All-get_or (λ (c : EntryChange). NeedsKept shape kept c.place c.bytes) changes i change
    (omega (arith, below)) room.1))
