-- A request that may be answered that there is no space comes to a place that it changes.
use Rattle.std.proofs.Common.{◌≡◌, ◌∙◌, ⊎_elim, ℕ, ◌&&◌, Bool, true, false, List, [], ◌∷◌, Option}
use Rattle.std.proofs.Common.{Some, None, refl, sym, ap, subst}
use Rattle.std.specs.Prelude.{IfSome, IsTrue, is_none}
use Rattle.std.specs.List.{list_any}
use Rattle.std.specs.Option.{option_and_then, option_map, option_map_or}
use Rattle.std.proofs.lemmas.Bool.{true≢false}
use Rattle.vr_types.specs.declared.reply.Refusal.{Refusal}
use Rattle.vr_types.specs.declared.reply.Refusal.TheVariants.{KeyChanged, LengthChanged}
use Rattle.vr_types.specs.declared.reply.Refusal.TheVariants.{LogFull, Memory, NoFile, NoGet}
use Rattle.vr_types.specs.declared.reply.Refusal.TheVariants.{NoPosition, NoSpace, NotAllowed}
use Rattle.vr_types.specs.declared.reply.Refusal.TheVariants.{BadSlot, NotFound}
use Rattle.vr_types.specs.declared.reply.Refusal.TheVariants.{ReadFault, Stopped, WriteFault}
use Rattle.vr_types.specs.declared.reply.Reply.TheVariants.{Refused}
use Rattle.vr_types.specs.declared.request.FileRef.{FileRef}
use Rattle.vr_types.specs.declared.request.Find.{Find}
use Rattle.vr_types.specs.declared.request.Find.TheVariants.{Next, Equal, AtLeast}
use Rattle.vr_types.specs.declared.request.Request.{Request}
use Rattle.vr_types.specs.declared.request.Request.TheVariants.{Get, Point, Add, Update, Erase}
use Rattle.vr_types.specs.declared.request.Request.TheVariants.{EndReq, Commit, Backout}
use Rattle.vr_types.specs.declared.unit.Kind.{Kind}
use Rattle.vr_types.specs.declared.unit.Kind.TheVariants.{Keyed, Entry, Relative}
use Rattle.vr_catalog.specs.declared.definition.Definition.{Definition}
use Rattle.vr_history.specs.Case.{Case, acts_on_held, dropped, file_of, new_record}
use Rattle.vr_history.specs.Change.{moves_at, place_added, place_asked, place_changed}
use Rattle.vr_history.specs.Opened.{ByPath, Cluster, Opened, Unknown, definition_in, opened}
use Rattle.vr_history.specs.RefusedFile.{find_length_wrong, is_slot_zero, key_length_wrong}
use Rattle.vr_history.specs.RefusedFile.{length_wrong, record_wrong, refused_if, slot_named}
use Rattle.vr_history.specs.RefusedRecord.{absent_by, absent_for, absent_in, absent_to, conflict_in}
use Rattle.vr_history.specs.RefusedRecord.{held_by, taken_twice}
use Rattle.vr_history.specs.RefusedRoom.{free_areas, lacks, need_at, no_space}
use Rattle.vr_history.specs.Replies.{FillsKeyed, MayReply, all_refusals, before_room, done_by}
use Rattle.vr_history.specs.Replies.{fills_base, first_of, gains_pair, is_keyed, refused_or}
use Rattle.vr_event.specs.Lacking.{IfNoSpace, IsWanting}

-- the place that a request changes, where there is one
abbrev pub HasPlace : Case → Type 0
HasPlace case = (place : List ℕ) × (place_changed case ≡ Some place)

-- ---- which refusals are for want of areas

-- of some, a fact of the numbers of each that is
abbrev Are : (ℕ → ℕ → Type 0) → Option Refusal → Type 0
Are fact refused = IfSome refused (IfNoSpace fact)

module _ (fact : ℕ → ℕ → Type 0) where
  are-if : (test : Bool) (refusal : Refusal) → IfNoSpace fact refusal
      → Are fact (refused_if test refusal)
  are-if false refusal is = tt
  are-if true refusal is = is

  are-map : {T : Type 0} (f : T → Refusal) → ((t : T) → IfNoSpace fact (f t)) → (o : Option T)
      → Are fact (option_map f o)
  are-map f each None = tt
  are-map f each (Some t) = each t

  are-then : {T : Type 0} (f : T → Option Refusal) → ((t : T) → Are fact (f t)) → (o : Option T)
      → Are fact (option_and_then f o)
  are-then f each None = tt
  are-then f each (Some t) = each t

  abbrev EachIs : List (Option Refusal) → Type 0
  EachIs [] = Unit {0}
  EachIs (refused ∷ rest) = Are fact refused × EachIs rest

  first-is : (refusals : List (Option Refusal)) → EachIs refusals → Are fact (first_of refusals)
  first-is [] each = tt
  first-is (None ∷ rest) each = first-is rest each.1
  first-is (Some refusal ∷ rest) each = each.0

  key-is : (opened : Opened) (place : List ℕ) → Are fact (key_length_wrong opened place)
  key-is Unknown place = tt
  key-is (ByPath definition alternate) place = are-if _ _ tt
  key-is (Cluster definition) place = by_kind definition.kind
    where
      by_kind : (kind : Kind)
          → Are fact (key_length_wrong (Cluster (record definition { kind = kind })) place)
      by_kind Keyed = are-if _ _ tt
      by_kind Entry = tt
      by_kind Relative = tt

  find-is : (opened : Opened) (find : Find) → Are fact (find_length_wrong opened find)
  find-is opened Next = tt
  find-is opened (Equal place) = key-is opened place
  find-is opened (AtLeast place) = key-is opened place

  record-is : (opened : Opened) (bytes : List ℕ) → Are fact (record_wrong opened bytes)
  record-is Unknown bytes = tt
  record-is (Cluster definition) bytes = are-if _ _ tt
  record-is (ByPath definition alternate) bytes = are-if _ _ tt

  length-is : (opened : Opened) (request : Request) → Are fact (length_wrong opened request)
  length-is opened (Get on find update integrity) = find-is opened find
  length-is opened (Point on find) = find-is opened find
  length-is opened (Add on place bytes) = record-is opened bytes
  length-is opened (Update on bytes) = record-is opened bytes
  length-is opened (Erase on) = tt
  length-is opened (EndReq on) = tt
  length-is opened Commit = tt
  length-is opened Backout = tt

  kind-is : (kind : Kind) → IfNoSpace fact (absent_by kind)
  kind-is Keyed = tt
  kind-is Entry = tt
  kind-is Relative = tt

  in-is : (opened : Opened) → IfNoSpace fact (absent_in opened)
  in-is Unknown = tt
  in-is (ByPath definition alternate) = tt
  in-is (Cluster definition) = kind-is definition.kind

  found-is : (opened : Opened) (find : Find) → IfNoSpace fact (absent_for opened find)
  found-is opened Next = tt
  found-is opened (Equal place) = in-is opened
  found-is opened (AtLeast place) = in-is opened

  absent-is : (case : Case) (request : Request) → Are fact (absent_to case request)
  absent-is case (Get on find update integrity) =
      are-if _ _ (found-is (opened case) find)
  absent-is case (Point on find) = are-if _ _ (found-is (opened case) find)
  absent-is case (Add on place bytes) = tt
  absent-is case (Update on bytes) = tt
  absent-is case (Erase on) = tt
  absent-is case (EndReq on) = tt
  absent-is case Commit = tt
  absent-is case Backout = tt

-- each is itself
self-wanting : (refused : Option Refusal)
    → Are (λ need free. refused ≡ Some (NoSpace need free)) refused
self-wanting None = tt
self-wanting (Some (NoSpace need free)) = refl
self-wanting (Some _) = tt

-- the first refusal is, where the state says so
first-wanting : (case : Case) → Are (IsWanting case) (first_of (all_refusals case))
first-wanting case = first-is Want (all_refusals case) (
  are-then Want (λ (file : FileRef). refused_if _ NoFile) (λ file. are-if Want _ NoFile tt)
      (file_of case.request),
  (
    are-map Want Stopped (λ stamp. tt) case.state.stopped,
    (
      are-if Want _ NotAllowed tt,
      (
        are-then Want (λ (place : List ℕ). refused_if (is_slot_zero (opened case) place) BadSlot)
            (λ place. are-if Want _ BadSlot tt) (slot_named case.request),
        (
          length-is Want (opened case) case.request,
          (
            are-if Want _ NoPosition tt,
            (
              are-if Want _ NoGet tt,
              (
                are-if Want _ NotFound tt,
                (
                  are-if Want _ KeyChanged tt,
                  (
                    are-if Want _ LengthChanged tt,
                    (
                      are-map Want held_by (λ lock. tt) (conflict_in case),
                      (
                        absent-is Want case case.request,
                        (
                          are-if Want _ _ tt,
                          (
                            are-map Want _ (λ move. tt) (taken_twice case),
                            (self-wanting (no_space case), (are-if Want _ (LogFull _ _ _) tt, tt)),
                          ),
                        ),
                      ),
                    ),
                  ),
                ),
              ),
            ),
          ),
        ),
      ),
    ),
  ),
)
  where
    Want : ℕ → ℕ → Type 0
    Want = IsWanting case

-- ---- the place

some-place : (case : Case) (place : Option (List ℕ)) → place_changed case ≡ place
    → (place ≡ None → ⊥) → HasPlace case
some-place case None is some = absurd (some refl)
some-place case (Some place) is some = (place, is)

-- what needs areas is at a place
wanting-place : (case : Case) (need free : ℕ) → IsWanting case need free → HasPlace case
wanting-place case need free wants = some-place case (place_changed case) refl
    (λ none. differ (sym wants
    ∙ ap (λ (place : Option (List ℕ)). option_and_then (lacks (free_areas case))
    (option_and_then (λ (definition : Definition). option_and_then (λ (at : List ℕ).
    option_and_then (need_at case definition at) (new_record case.request)) place)
    (definition_in (opened case)))) none
    ∙ ap (option_and_then (lacks (free_areas case))) (nowhere (definition_in (opened case)))))
  where
    no-need : Definition → Option ℕ
    no-need one = None

    nowhere : (definition : Option Definition) → option_and_then no-need definition ≡ None
    nowhere None = refl
    nowhere (Some definition) = refl

    differ : Some (NoSpace need free) ≡ None → ⊥
    differ same = cc

-- ---- a key-sequenced data set

first-none : (refused : Option Refusal) (rest : List (Option Refusal))
    → first_of (refused ∷ rest) ≡ None → (refused ≡ None) × (first_of rest ≡ None)
first-none None rest none = (refl, none)
first-none (Some refusal) rest none = absurd cc

-- an update acts on the record that its file holds
held-there : (held : Option (List ℕ)) → refused_if (true && is_none held) NoGet ≡ None
    → (held ≡ None → ⊥)
held-there None none = λ is. differ none
  where
    differ : Some NoGet ≡ None → ⊥
    differ same = cc
held-there (Some place) none = λ is. differ is
  where
    differ : Some place ≡ None → ⊥
    differ same = cc

-- and an add to one that is there comes to the place of its record
added-there : (kind : Kind → Bool) (place : Definition → List ℕ) (definition : Option Definition)
    → IsTrue (option_map_or (λ (one : Definition). kind one.kind) definition false)
    → (option_map place definition ≡ None → ⊥)
added-there kind place None fills = absurd (true≢false (sym fills))
added-there kind place (Some definition) fills = λ is. differ is
  where
    differ : Some (place definition) ≡ None → ⊥
    differ same = cc

filled-there : (case : Case) (request : Request) → (new_record request ≡ None → ⊥)
    → IsTrue (fills_base case)
    → refused_if (acts_on_held request && is_none (dropped case)) NoGet ≡ None
    → (place_asked case request ≡ None → ⊥)
filled-there case (Add on named bytes) given fills none = added-there is_keyed
    (λ (definition : Definition). place_added case definition named bytes)
    (definition_in (opened case)) fills
filled-there case (Update on bytes) given fills none = held-there (dropped case) none
filled-there case (Erase on) given fills none = absurd (given refl)
filled-there case (Get on find update integrity) given fills none = absurd (given refl)
filled-there case (Point on find) given fills none = absurd (given refl)
filled-there case (EndReq on) given fills none = absurd (given refl)
filled-there case Commit given fills none = absurd (given refl)
filled-there case Backout given fills none = absurd (given refl)

-- a pair of an alternate index is taken where a place is changed
gained-there : (case : Case) (place : Option (List ℕ))
    → IsTrue (list_any gains_pair (option_map_or (moves_at case) place [])) → (place ≡ None → ⊥)
gained-there case None gains = absurd (true≢false (sym gains))
gained-there case (Some place) gains = λ is. differ is
  where
    differ : Some place ≡ None → ⊥
    differ same = cc

keyed-place : (case : Case) → first_of (before_room case) ≡ None → FillsKeyed case → HasPlace case
keyed-place case none fills = some-place case (place_changed case) refl (⊎_elim
    (λ base. filled-there case case.request base.0 base.1 no-get)
    (λ pair. gained-there case (place_changed case) pair) fills)
  where
    after : (n : ℕ) → List (Option Refusal)
    after n = Rattle.std.specs.Prelude.drop n (before_room case)

    one : first_of (after 1) ≡ None
    one = (first-none _ (after 1) none).1

    two : first_of (after 2) ≡ None
    two = (first-none _ (after 2) one).1

    three : first_of (after 3) ≡ None
    three = (first-none _ (after 3) two).1

    four : first_of (after 4) ≡ None
    four = (first-none _ (after 4) three).1

    five : first_of (after 5) ≡ None
    five = (first-none _ (after 5) four).1

    six : first_of (after 6) ≡ None
    six = (first-none _ (after 6) five).1

    no-get : refused_if (acts_on_held case.request && is_none (dropped case)) NoGet ≡ None
    no-get = (first-none _ (after 7) six).0

-- ---- a reply

done-unrefused : (case : Case) (request : Request) (refusal : Refusal)
    → Refused refusal ≡ done_by case request → ⊥
done-unrefused case (Get on find update integrity) refusal same = cc
done-unrefused case (Point on find) refusal same = cc
done-unrefused case (Add on place bytes) refusal same = cc
done-unrefused case (Update on bytes) refusal same = cc
done-unrefused case (Erase on) refusal same = cc
done-unrefused case (EndReq on) refusal same = cc
done-unrefused case Commit refusal same = cc
done-unrefused case Backout refusal same = cc

answered-place : (case : Case) (need free : ℕ) (first : Option Refusal)
    → Are (IsWanting case) first
    → Refused (NoSpace need free) ≡ refused_or first (done_by case case.request) → HasPlace case
answered-place case need free None wants same =
    absurd (done-unrefused case case.request (NoSpace need free) same)
answered-place case need free (Some refusal) wants same = wanting-place case need free
    (subst (IfNoSpace (IsWanting case)) (is refusal same) wants)
  where
    is : (one : Refusal) → Refused (NoSpace need free) ≡ Refused one → one ≡ NoSpace need free
    is one same = cc

-- A request that may be answered so comes to a place.
pub space-place : (case : Case) (need free : ℕ) → MayReply case (Refused (NoSpace need free))
    → HasPlace case
space-place case need free is = ⊎_elim
    (λ answered. answered-place case need free (first_of (all_refusals case)) (first-wanting case)
    answered.0)
    (λ lacks. ⊎_elim (λ room. keyed-place case room.0 room.1)
    (λ further. ⊎_elim (λ memory. absurd (no-memory memory.2))
    (λ faults. ⊎_elim (λ write. absurd (no-write write))
    (λ read. absurd (no-read read.1)) faults.1) further) lacks) is
  where
    no-memory : Refused (NoSpace need free) ≡ Refused Memory → ⊥
    no-memory same = cc

    no-write : Refused (NoSpace need free) ≡ Refused WriteFault → ⊥
    no-write same = cc

    no-read : Refused (NoSpace need free) ≡ Refused ReadFault → ⊥
    no-read same = cc
