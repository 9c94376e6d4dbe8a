-- Over a history each before-image that a unit keeps is of a place that it has logged: so no
-- before-image is of a place that no live unit has logged, and what is there is settled.
use Rattle.std.proofs.Common.{◌≡◌, ◌≢◌, ◌∙◌, ◌==◌, ◌||◌, ℕ, Bool, true, false, cond, List, []}
use Rattle.std.proofs.Common.{◌∷◌, ◌++◌, Option, Some, None, ap, filter, find, inl, inr}
use Rattle.std.proofs.Common.{not, refl, subst, sym}
use Rattle.std.specs.List.{AllByRecursion, list_any}
use Rattle.std.specs.Option.{option_map_or}
use Rattle.std.proofs.lemmas.Bool.{false≢true}
use Rattle.std.proofs.lemmas.List.Elements.{recursion_from_All}
use Rattle.std.proofs.lemmas.Slice.Eq.{bytes_eq-Decides}
use Rattle.vr_types.specs.Content.{Ascends, Item, Standing, Withdrawn, item_at}
use Rattle.vr_types.specs.Locks.{same_unit}
use Rattle.vr_types.specs.declared.geometry.Geometry.{Geometry}
use Rattle.vr_types.specs.declared.reply.Reply.TheVariants.{Done, Refused}
use Rattle.vr_types.specs.declared.request.Request.{Request}
use Rattle.vr_types.specs.declared.unit.Unit.{Unit as UnitOfRecovery}
use Rattle.vr_history.specs.Change.{Change}
use Rattle.vr_history.specs.Committed.{kept_or}
use Rattle.vr_history.specs.Effects.{changes, is_other, last_kept, takes_out}
use Rattle.vr_history.specs.Legal.{state_of}
use Rattle.vr_history.specs.State.{BeforeImage, Logged, State, is_kept}
use Rattle.vr_history.specs.Step.{after_what, change_back, state_after}
use Rattle.vr_history.specs.declared.entry.Entry.{Entry}
use Rattle.vr_history.specs.declared.entry.What.{What}
use Rattle.vr_history.specs.declared.entry.What.TheVariants.{Asked, Undone, Claimed, Split, Faulted}
use Rattle.vr_history.proofs.Same.{first_holds, nat_same, second_holds, unit_same}
use Rattle.vr_volume.specs.Crashes.{IsUnlogged, is_among, kept_but}
use Rattle.vr_volume.specs.PutBack.{is_image_of, oldest, standing_of}
use Rattle.vr_volume.proofs.CallerLemmas.{back-record}
use Rattle.vr_recover.specs.Addresses.{HasItem, IsSettledAt}
use Rattle.vr_job.proofs.Committed.{all-but-last, all-cond, all-left, all-push}
use Rattle.vr_job.proofs.Effects.{IsDone, IsEnded, IsMade, any-left, done-is, is_log_at}
use Rattle.vr_job.proofs.Effects.{or-right, refused-stays}
use Rattle.vr_job.proofs.Effects.IsDone.{DoneChange, DoneEnd, DoneNothing}
use Rattle.vr_job.proofs.Effects.MadeOr.{NoChange, OneChange}

-- a before-image is of a place that its unit has logged
abbrev is_log_of : BeforeImage → Logged → Bool
is_log_of kept = is_log_at kept.unit kept.part kept.place

abbrev IsLoggedIn : List Logged → BeforeImage → Type 0
IsLoggedIn logged kept = list_any (is_log_of kept) logged ≡ true

-- so is each
abbrev pub AreLogged : State → Type 0
AreLogged state = AllByRecursion (IsLoggedIn state.logged) state.befores

all-also : {X : Type 0} (P Q : X → Type 0) (xs : List X) → ((x : X) → P x → Q x)
    → AllByRecursion P xs → AllByRecursion Q xs
all-also P Q [] also are = tt
all-also P Q (x ∷ xs) also are = (also x are.0, all-also P Q xs also are.1)

-- ---- where a unit ends

module _ (unit : UnitOfRecovery) where
  abbrev left : List Logged → List Logged
  left logged = filter (λ (log : Logged). is_other unit log.unit) logged

  -- what others keep is logged still
  still-logged : (kept : BeforeImage) → is_other unit kept.unit ≡ true → (logged : List Logged)
      → IsLoggedIn logged kept → IsLoggedIn (left logged) kept
  still-logged kept other [] is = is
  still-logged kept other (log ∷ logged) is =
      by_test (is_log_of kept log) refl is (still-logged kept other logged)
    where
      by_other : (b : Bool) → IsLoggedIn (left logged) kept
          → IsLoggedIn (cond b (log ∷ left logged) (left logged)) kept
      by_other true is =
          or-right (is_log_of kept log) (list_any (is_log_of kept) (left logged)) is
      by_other false is = is

      by_test : (b : Bool) → is_log_of kept log ≡ b
          → (b || list_any (is_log_of kept) logged) ≡ true
          → (IsLoggedIn logged kept → IsLoggedIn (left logged) kept)
          → IsLoggedIn (cond (is_other unit log.unit) (log ∷ left logged) (left logged)) kept
      by_test true here is further =
          let same : kept.unit ≡ log.unit = unit_same kept.unit log.unit
          (first_holds (same_unit kept.unit log.unit) _ here) in
          subst (λ (b : Bool). IsLoggedIn (cond b (log ∷ left logged) (left logged)) kept)
          (sym (ap (is_other unit) (sym same) ∙ other))
          (ap (λ (b : Bool). b || list_any (is_log_of kept) (left logged)) here)
      by_test false here is further = by_other (is_other unit log.unit) (further is)

  still-all : (befores : List BeforeImage) (logged : List Logged)
      → AllByRecursion (IsLoggedIn logged) befores
      → AllByRecursion (IsLoggedIn (left logged))
      (filter (λ (kept : BeforeImage). is_other unit kept.unit) befores)
  still-all [] logged are = tt
  still-all (kept ∷ befores) logged are =
      by_test (is_other unit kept.unit) refl (still-all befores logged are.1)
    where
      rest : List BeforeImage
      rest = filter (λ (one : BeforeImage). is_other unit one.unit) befores

      by_test : (b : Bool) → is_other unit kept.unit ≡ b
          → AllByRecursion (IsLoggedIn (left logged)) rest
          → AllByRecursion (IsLoggedIn (left logged)) (cond b (kept ∷ rest) rest)
      by_test true other are_rest = (still-logged kept other logged are.0, are_rest)
      by_test false own are_rest = are_rest

-- ---- over an entry

logged-same : (state new : State) → new.befores ≡ state.befores → new.logged ≡ state.logged
    → AreLogged state → AreLogged new
logged-same state new befores logged are =
    subst (λ (them : List BeforeImage). AllByRecursion (IsLoggedIn new.logged) them) (sym befores)
    (subst (λ (all : List Logged). AllByRecursion (IsLoggedIn all) state.befores) (sym logged) are)

logged-ended : (unit : UnitOfRecovery) (state new : State) → IsEnded unit state new
    → AreLogged state → AreLogged new
logged-ended unit state new ended are =
    subst (λ (them : List BeforeImage). AllByRecursion (IsLoggedIn new.logged) them)
    (sym ended.befores)
    (subst (λ (all : List Logged). AllByRecursion (IsLoggedIn all)
    (filter (λ (kept : BeforeImage). is_other unit kept.unit) state.befores)) (sym ended.logged)
    (still-all unit state.befores state.logged are))

logged-made : (unit : UnitOfRecovery) (change : Change) (state new : State)
    → IsMade unit change state new → AreLogged state → AreLogged new
logged-made unit change state new made are =
    subst (λ (them : List BeforeImage). AllByRecursion (IsLoggedIn new.logged) them)
    (sym made.befores)
    (all-cond (IsLoggedIn new.logged) (is_kept state unit change.part change.place) state.befores
    (state.befores ++ made.image ∷ []) before
    (all-push (IsLoggedIn new.logged) state.befores made.image before
    (subst (λ (u : UnitOfRecovery). list_any (is_log_at u made.image.part made.image.place)
    new.logged ≡ true) (sym made.image_unit)
    (subst (λ (p : ℕ). list_any (is_log_at unit p made.image.place) new.logged ≡ true)
    (sym made.image_part)
    (subst (λ (p : List ℕ). list_any (is_log_at unit change.part p) new.logged ≡ true)
    (sym made.image_place) made.logs)))))
  where
    before : AllByRecursion (IsLoggedIn new.logged) state.befores
    before = all-also (IsLoggedIn state.logged) (IsLoggedIn new.logged) state.befores
        (λ kept is. subst (λ (all : List Logged). IsLoggedIn all kept) (sym made.grown)
        (any-left (is_log_of kept) state.logged made.more is)) are

module _ (geometry : Geometry) (state : State) (unit : UnitOfRecovery) (are : AreLogged state) where
  logged-done : (request : Request) (new : State) → IsDone geometry state unit request new
      → AreLogged new
  logged-done request new (DoneNothing stays) =
      logged-same state new stays.befores stays.logged are
  logged-done request new (DoneEnd ended) = logged-ended unit state new ended are
  logged-done request new (DoneChange (NoChange none stays)) =
      logged-same state new stays.befores stays.logged are
  logged-done request new (DoneChange (OneChange change is made)) =
      logged-made unit change state new made are

  logged-back : (kept : Option BeforeImage) → AreLogged
      (option_map_or (λ (it : BeforeImage). takes_out unit
      (changes (change_back state it) state)) kept state)
  logged-back None = are
  logged-back (Some kept) = all-but-last (IsLoggedIn state.logged) unit state.befores are

  logged-entry : (stamp : ℕ) (what : What) → AreLogged (after_what geometry state unit stamp what)
  logged-entry stamp (Asked request (Done feedback place bytes)) =
      logged-done request _ (done-is geometry state unit request feedback place bytes)
  logged-entry stamp (Asked request (Refused refusal)) =
      let stays = refused-stays geometry state unit request (Refused refusal) refusal refl in
      logged-same state (after_what geometry state unit stamp (Asked request (Refused refusal)))
      stays.befores stays.logged are
  logged-entry stamp (Undone part place) = logged-back (last_kept state unit)
  logged-entry stamp (Claimed part area) = are
  logged-entry stamp (Split part) = are
  logged-entry stamp (Faulted fault) = are

-- over all of them
pub history-logged : (geometry : Geometry) (state : State) (entries : List Entry)
    → AreLogged state → AreLogged (state_of geometry state entries)
history-logged geometry state [] are = are
history-logged geometry state (entry ∷ entries) are =
    history-logged geometry (state_after geometry state entry) entries
    (logged-entry geometry state entry.unit are entry.stamp entry.what)

-- ---- what is settled

module _ (part : ℕ) (place : List ℕ) where
  abbrev IsElsewhere : Logged → Type 0
  IsElsewhere log = log.part ≡ part → log.place ≢ place

  -- what is logged elsewhere alone is no before-image of the place
  image-elsewhere : (kept : BeforeImage) (logged : List Logged)
      → AllByRecursion IsElsewhere logged → IsLoggedIn logged kept
      → is_image_of part place kept ≡ false
  image-elsewhere kept [] off is = absurd (false≢true is)
  image-elsewhere kept (log ∷ logged) off is =
      by_test (is_log_of kept log) refl is (image-elsewhere kept logged off.1)
    where
      apart : (b : Bool) → is_image_of part place kept ≡ b → is_log_of kept log ≡ true
          → is_image_of part place kept ≡ false
      apart false is_not here = is_not
      apart true is_so here =
          let both = second_holds (same_unit kept.unit log.unit) _ here in
          absurd (off.0
          (nat_same log.part kept.part (first_holds (log.part == kept.part) _ both)
          ∙ nat_same kept.part part (first_holds (kept.part == part) _ is_so))
          (sym ((bytes_eq-Decides kept.place log.place).0
          (second_holds (log.part == kept.part) _ both))
          ∙ sym ((bytes_eq-Decides place kept.place).0
          (second_holds (kept.part == part) _ is_so))))

      by_test : (b : Bool) → is_log_of kept log ≡ b
          → (b || list_any (is_log_of kept) logged) ≡ true
          → (IsLoggedIn logged kept → is_image_of part place kept ≡ false)
          → is_image_of part place kept ≡ false
      by_test true here is further = apart (is_image_of part place kept) refl here
      by_test false here is further = further is

  none-oldest : (images : List BeforeImage)
      → AllByRecursion (λ (kept : BeforeImage). is_image_of part place kept ≡ false) images
      → oldest images part place ≡ None
  none-oldest [] off = refl
  none-oldest (kept ∷ images) off = ap (λ (b : Bool). cond b (Some kept)
      (find (is_image_of part place) images)) off.0 ∙ none-oldest images off.1

  -- what is at a place is settled, where no live unit has logged it
  pub settled-unlogged : (state : State) (counted : List UnitOfRecovery) → AreLogged state
      → Ascends (state.contents part) → HasItem (state.contents part) place
      → IsUnlogged state part place → IsSettledAt counted state part place
  settled-unlogged state counted are ascends has unlogged =
      by_item (item_at (state.contents part) place) refl
    where
      nothing : oldest (kept_but counted state.befores) part place ≡ None
      nothing = none-oldest (kept_but counted state.befores)
          (all-left (λ (kept : BeforeImage). is_image_of part place kept ≡ false)
          (λ (kept : BeforeImage). not (is_among counted kept.unit)) state.befores
          (all-also (IsLoggedIn state.logged)
          (λ (kept : BeforeImage). is_image_of part place kept ≡ false) state.befores
          (λ kept is. image-elsewhere kept state.logged
          (recursion_from_All IsElsewhere state.logged unlogged) is) are))

      some-item : (item : Item) → Some item ≡ None → ⊥
      some-item item same = cc

      by_item : (item : Option Item) → item_at (state.contents part) place ≡ item
          → IsSettledAt counted state part place
      by_item None is = absurd (has is)
      by_item (Some (Withdrawn n)) is = inr (n, unlogged, is)
      by_item (Some (Standing bytes)) is = inl (λ none. some-item (Standing bytes)
          (sym (back-record part (kept_but counted state.befores) (state.contents part) place
          ascends
          ∙ ap (λ (image : Option BeforeImage).
          kept_or image (standing_of (item_at (state.contents part) place))) nothing
          ∙ ap standing_of is) ∙ none))
