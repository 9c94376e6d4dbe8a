-- To what an image recovers while a cluster is defined: by the state of the store as it recovers to
-- it it does so by the state of the record file, with the unit that defines counted.
use Rattle.std.proofs.Common.{◌≡◌, ◌≢◌, ◌∙◌, ◌++◌, ◌||◌, ℕ, Bool, true, false, not}
use Rattle.std.proofs.Common.{cond}
use Rattle.std.proofs.Common.{List, [], ◌∷◌, refl, sym, ap, All, arith}
use Rattle.std.specs.List.{AllByRecursion}
use Rattle.std.proofs.lemmas.Bool.Decides.{nat_tests}
use Rattle.std.proofs.lemmas.List.Elements.{All-from_recursion, All-head, All-tail}
use Rattle.vr_types.specs.Content.{Content, item_at}
use Rattle.vr_types.specs.Image.{Image}
use Rattle.vr_types.specs.Locks.{same_unit}
use Rattle.vr_types.specs.declared.geometry.Geometry.{Geometry}
use Rattle.vr_types.specs.declared.unit.Unit.{Unit as UnitOfRecovery}
use Rattle.vr_history.specs.State.{BeforeImage, Logged, State}
use Rattle.vr_record_file.specs.Now.{IsKeptByDeck}
use Rattle.vr_volume.specs.Crashes.{IsUnlogged, RecoversTo, kept_but}
use Rattle.vr_volume.specs.PutBack.{put_back, standing}

-- before-images of units of decks are kept whether or not a unit of the utilities counts
apart-deck : (unit : UnitOfRecovery) → unit.deck ≡ 0 → (image : BeforeImage) → IsKeptByDeck image
    → same_unit unit image.unit ≡ false
apart-deck unit deck image of = grind (arith, nat_tests, deck, of)

pub kept-same : (unit : UnitOfRecovery) → unit.deck ≡ 0 → (befores : List BeforeImage)
    → AllByRecursion IsKeptByDeck befores → kept_but (unit ∷ []) befores ≡ kept_but [] befores
kept-same unit deck [] of = refl
kept-same unit deck (image ∷ befores) of =
    ap (λ (b : Bool). cond (not (b || false)) (image ∷ kept_but (unit ∷ []) befores)
    (kept_but (unit ∷ []) befores)) (apart-deck unit deck image of.0)
    ∙ ap (λ (kept : List BeforeImage). image ∷ kept) (kept-same unit deck befores of.1)

-- with one of that unit, too
same-own : (unit : UnitOfRecovery) → same_unit unit unit ≡ true
same-own unit = grind (arith, nat_tests)

pub kept-but-own : (unit : UnitOfRecovery) → unit.deck ≡ 0 → (befores : List BeforeImage)
    → AllByRecursion IsKeptByDeck befores → (own : BeforeImage) → own.unit ≡ unit
    → kept_but (unit ∷ []) (befores ++ own ∷ []) ≡ kept_but [] befores
kept-but-own unit deck [] of own same =
    ap (λ (b : Bool). cond (not (b || false)) (own ∷ []) [])
    (ap (same_unit unit) same ∙ same-own unit)
kept-but-own unit deck (image ∷ befores) of own same =
    ap (λ (b : Bool). cond (not (b || false))
    (image ∷ kept_but (unit ∷ []) (befores ++ own ∷ []))
    (kept_but (unit ∷ []) (befores ++ own ∷ []))) (apart-deck unit deck image of.0)
    ∙ ap (λ (kept : List BeforeImage). image ∷ kept)
    (kept-but-own unit deck befores of.1 own same)

-- ---- what an image recovers to

-- states with the same records, whose before-images count alike, and of which one has logged more
pub counted-recovers : (geometry : Geometry) (number : ℕ) (one other : State)
    (some more : List UnitOfRecovery) (image : Image)
    → ((part : ℕ) → other.contents part ≡ one.contents part)
    → kept_but more other.befores ≡ kept_but some one.befores
    → ((part : ℕ) (place : List ℕ) → IsUnlogged other part place → IsUnlogged one part place)
    → RecoversTo geometry number one some image → RecoversTo geometry number other more image
counted-recovers geometry number one other some more image contents befores logged is = record {
  recovers = record {
    log = is.recovers.log;
    contents = is.recovers.contents;
    stands = is.recovers.stands;
    inside = is.recovers.inside;
    images = is.recovers.images;
    alone = is.recovers.alone;
    room = is.recovers.room;
    back = λ part. ap
        (λ (kept : List BeforeImage). put_back part kept (standing (other.contents part))) befores
        ∙ ap (λ (content : Content). put_back part (kept_but some one.befores) (standing content))
        (contents part)
        ∙ is.recovers.back part;
  };
  withdrawn = λ part place n unlogged there. is.withdrawn part place n (logged part place unlogged)
      (ap (λ (content : Content). item_at content place)
      (sym (contents part)) ∙ there);
}

-- what no unit has logged where one has logged one place more
pub unlogged-fewer : (old : List Logged) (one : Logged) (part : ℕ) (place : List ℕ)
    → All (λ (logged : Logged). logged.part ≡ part → logged.place ≢ place) (old ++ one ∷ [])
    → All (λ (logged : Logged). logged.part ≡ part → logged.place ≢ place) old
unlogged-fewer old one part place all = All-from_recursion
    (λ (logged : Logged). logged.part ≡ part → logged.place ≢ place) old (fewer old all)
  where
    fewer : (old : List Logged)
        → All (λ (logged : Logged). logged.part ≡ part → logged.place ≢ place) (old ++ one ∷ [])
        → AllByRecursion (λ (logged : Logged). logged.part ≡ part → logged.place ≢ place) old
    fewer [] all = tt
    fewer (first ∷ old) all = (
      All-head (λ (logged : Logged). logged.part ≡ part → logged.place ≢ place) first
          (old ++ one ∷ []) all,
      fewer old (All-tail (λ (logged : Logged). logged.part ≡ part → logged.place ≢ place) first
          (old ++ one ∷ []) all),
    )
