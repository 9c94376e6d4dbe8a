-- Each step keeps the rule, whatever the number of frames.
use Rattle.std.proofs.Common.{◌≡◌, ◌≢◌, ◌⊎◌, ℕ, ◌+◌, ◌<◌, ◌≤◌, List, [], ◌∷◌, ◌++◌, length, eqb}
use Rattle.std.proofs.Common.{get_or, set, sym, refl, ap, ◌∙◌, subst, inl, inr, ⊎_elim, arith}
use Rattle.std.proofs.Common.{length-set, get_or-set_same, get_or-set_other, Some, None}
use Rattle.std.specs.Prelude.{Option, sum_by}
use mathlib.Core.Logic.{dite}
use mathlib.Core.Option.{some, none, some-injective, some-ne-none}
use mathlib.Core.Option as maybe
use native.Mathlib.Decide.{ℕ_discrete, dec_le}
use lib.ListN.{get_elem?}
use lib.Seq.{set-get_or}
use prog.Atomic.{either}
use Rattle.atomic_table.specs.Table.{State, Act, step, takes, gives, keeps, Valid, stepped}
use Rattle.atomic_table.specs.Table.{carried_after, Allows, Splits, Joins}
use Rattle.atomic_table.proofs.Lists.{at_set, set_here, set_else, at_snoc, exchanged}
use Rattle.vr_frames.specs.declared.view.View.{View}
use Rattle.vr_frames.specs.Views.{times, without, view_with, nobody, one_less, newcomer, joined}
use Rattle.vr_frames.specs.Rule.{holders, movers, misses, IsSound, IsHome, IsHeld, IsOnItsWay}
use Rattle.vr_frames.specs.Rule.{IsKept}
use Rattle.vr_frames.specs.Plays.{SeatState, failing, bringing, claimed, brought, fetched, released}
use Rattle.vr_frames.proofs.Counts.{sum_set, sum_push, term_le, terms_le, one_if-same, one_if-other}
use Rattle.vr_frames.proofs.Counts.{times-cons, times-one, times-append, times-without_same}
use Rattle.vr_frames.proofs.Counts.{times-without_other}

module _ {B : Type 0} (fits : ℕ → B → Type 0) (size : ℕ) where
  abbrev St : Type 0
  St = State (Option B) View

  abbrev Kept : St → Type 0
  Kept = IsKept size (fits size)

  -- what the rule says of one frame
  abbrev Where : St → ℕ → Type 0
  Where state k = (get_or state.words k 0 ≡ 0 → IsHome (fits size) state k)
      × (get_or state.words k 0 ≢ 0 → IsHeld state k ⊎ IsOnItsWay state k)

  -- a frame that nothing changed is where it was
  stays : (state after : St) (k : ℕ) → get_or after.words k 0 ≡ get_or state.words k 0
      → get_elem? after.homes k ≡ get_elem? state.homes k
      → holders after.views k ≡ holders state.views k → movers after.views k ≡ movers state.views k
      → Where state k → Where after k
  stays state after k word slot held moving was = (
    (λ home. let found = was.0 (sym word ∙ home) in
        record {
          in_slot = (found.in_slot.0, slot ∙ found.in_slot.1, found.in_slot.2);
          in_no_view =
              (held ∙ found.in_no_view.0, moving ∙ found.in_no_view.1);
        }),
    (λ out. ⊎_elim (λ (found : IsHeld state k). inl
        (record {
          empty_slot = slot ∙ found.empty_slot;
          in_one_view = (held ∙ found.in_one_view.0, moving ∙ found.in_one_view.1);
        }))
        (λ (found : IsOnItsWay state k). inr (record {
          slot_out = slot ∙ found.slot_out;
          by_one_seat = (held ∙ found.by_one_seat.0, moving ∙ found.by_one_seat.1);
        }))
        (was.1 (λ home. out (word ∙ home)))),
  )

  -- a step of the seat id on the frame i, which leaves each other frame where it is
  steps : (state : St) (kept : Kept state) (ws : List ℕ) (hs : List (maybe.Option (Option B)))
      (id i : ℕ) (old new : View) → get_elem? state.views id ≡ some old → i < length state.homes
      → length ws ≡ length state.words → length hs ≡ length state.homes
      → ((k : ℕ) → k ≢ i → get_or ws k 0 ≡ get_or state.words k 0)
      → ((k : ℕ) → k ≢ i → get_elem? hs k ≡ get_elem? state.homes k)
      → new.size ≡ old.size → new.parts ≡ old.parts → 0 < old.parts
      → ((k : ℕ) → k ≢ i → (times k new.frames ≡ times k old.frames)
      × (times k new.moving ≡ times k old.moving) × (times k new.failed ≡ times k old.failed))
      → Where (record { words = ws; homes = hs; views = set state.views id new }) i
      → Kept (record { words = ws; homes = hs; views = set state.views id new })
  steps state kept ws hs id i old new at inside long wide words_stay homes_stay same_size
      same_parts some_part counts here =
      let after : St = record { words = ws; homes = hs; views = set state.views id new } in
      let held : (k : ℕ) → k ≢ i → holders after.views k ≡ holders state.views k =
      λ k apart. omega (
        arith,
        sum_set (λ view. times k view.frames) state.views id old new at,
        (counts k apart).0,
      ) in
      let moving : (k : ℕ) → k ≢ i → movers after.views k ≡ movers state.views k =
      λ k apart. omega (
        arith,
        sum_set (λ view. times k view.moving) state.views id old new at,
        (counts k apart).1,
      ) in
      let failed : (k : ℕ) → k ≢ i → misses after.views k ≡ misses state.views k =
      λ k apart. omega (
        arith,
        sum_set (λ view. times k view.failed) state.views id old new at,
        (counts k apart).2,
      ) in
      let all : (k : ℕ) → k < length hs → Where after k =
      λ k near. dite (ℕ_discrete k i) (λ same. subst (Where after) (sym same) here)
      (λ apart. let inside_too : k < length state.homes =
      omega arith in stays state after k (words_stay k apart) (homes_stay k apart) (held k apart)
      (moving k apart) (kept.home k inside_too, kept.out k inside_too)) in
      record {
        one_word_more = omega (arith, kept.one_word_more);
        home = λ k near. (all k near).0;
        out = λ k near. (all k near).1;
        no_others = λ k far. let apart : k ≢ i = λ same. omega arith in let was =
            kept.no_others k (omega arith) in (
              held k apart ∙ was.0,
              moving k apart ∙ was.1,
              failed k apart ∙ was.2,
            );
        all_parts =
            omega (arith, sum_set (λ view. view.parts) state.views id old new at, kept.all_parts);
        sound = λ seat view same. ⊎_elim
            (λ (case : (seat ≡ id) × (new ≡ view)). subst (IsSound size) case.1 (
              (λ _. same_size ∙ (kept.sound id old at).0 (λ none. omega arith)),
              λ none. absurd (omega arith),
            ))
            (λ (case : (seat ≢ id) × (get_elem? state.views seat ≡ some view)). kept.sound seat
            view case.1)
            (at_set state.views id seat new view same);
      }

  -- what is owed where word i becomes another
  abbrev Goes : St → ℕ → ℕ → SeatState B → (ℕ → SeatState B → Type 0) → ℕ → Type 0
  Goes state i id moved then word = (new : View) × (a : Act (Option B))
      × Valid state.homes moved.1 a × Kept (stepped state i word id moved.1 new a)
      × then (get_or state.words i 0) (new, carried_after moved.1 a)

  same_size : (state : St) (kept : Kept state) (id : ℕ) (old : View)
      → get_elem? state.views id ≡ some old → 0 < old.parts → old.size ≡ size
  same_size state kept id old at some_part = (kept.sound id old at).0 (λ none. omega arith)

  none_moving : (old : View) → old.moving ≡ [] → (k : ℕ) → times k old.moving ≡ 0
  none_moving old still k = ap (times k) still

  this_moving : (old : View) (i : ℕ) → old.moving ≡ i ∷ []
      → (times i old.moving ≡ 1) × ((k : ℕ) → k ≢ i → times k old.moving ≡ 0)
  this_moving old i is = (
    ap (times i) is ∙ (times-one i i ∙ one_if-same i i refl),
    (λ k apart. ap (times k) is ∙ (times-one k i ∙ one_if-other k i (λ same. apart (sym same)))),
  )

  -- claim
  pub claims : (slots id i : ℕ) (old : View) (carried : List (ℕ × Option B))
      (said : maybe.Option (Option B)) → i < slots → 0 < old.parts → old.moving ≡ []
      → Allows Kept slots id (old, carried) i (λ word. either (eqb word 0) 1 word)
      (claimed (λ view. fits view.size) (step slots i 0 1 said) (old, carried))
  claims slots id i old carried said inside some_part still state kept wide at small =
      let near : i < length state.homes = omega arith in
      let long = kept.one_word_more in
      let then = claimed (λ view. fits view.size) (step slots i 0 1 said) (old, carried) in
      exchanged (get_or state.words i 0) 0 1 (Goes state i id (old, carried) then)
      (λ hit. let found = kept.home i near hit in let new : View =
      bringing old i in let buffer : B = found.in_slot.0 in
      let one : times i new.moving ≡ 1 = times-one i i ∙ one_if-same i i refl in
      let is_one : get_or (set state.words i 1) i 0 ≡ 1 =
      get_or-set_same state.words i 1 0 (omega arith) in (
        new,
        takes i (Some buffer),
        found.in_slot.1,
        steps state kept (set state.words i 1) (set state.homes i none) id i old new at near
            (length-set state.words i 1) (length-set state.homes i none)
            (λ k apart. get_or-set_other state.words i k 1 0 apart)
            (λ k apart. set_else state.homes i k none apart) refl refl some_part
            (λ k apart. (
              refl,
              times-one k i ∙ (one_if-other k i (λ same. apart (sym same))
                  ∙ sym (none_moving old still k)),
              refl,
            )) (
              (λ home. absurd (omega arith)),
              λ _. inr (record {
                slot_out = set_here state.homes i none near;
                by_one_seat = (
                  omega (
                    arith,
                    sum_set (λ view. times i view.frames) state.views id old new at,
                    found.in_no_view.0,
                  ),
                  omega (
                    arith,
                    sum_set
                        (λ view. times i view.moving) state.views id old new at,
                    one,
                    none_moving old still i,
                    found.in_no_view.1,
                  ),
                );
              }),
            ),
        (
          (λ _. (
            buffer,
            subst (λ (bytes : ℕ). fits bytes buffer)
                (sym (same_size state kept id old at some_part)) found.in_slot.2,
            omega (
              arith,
              term_le (λ view. times i view.frames) state.views id old at,
              found.in_no_view.0,
            ),
            refl,
          )),
          (λ apart. absurd (apart hit)),
        ),
      ))
      (λ miss. let word : ℕ = get_or state.words i 0 in let new : View =
      failing old i in let same = set-get_or state.words i 0 in (
        new,
        keeps,
        tt,
        steps state kept (set state.words i word) state.homes id i old new at near
            (length-set state.words i word) refl
            (λ k apart. get_or-set_other state.words i k word 0 apart)
            (λ k apart. refl) refl refl some_part
            (λ k apart. (
              refl,
              refl,
              omega (
                arith,
                times-cons k i old.failed,
                one_if-other k i (λ same. apart (sym same)),
              ),
            ))
            (stays state (record {
              words = set state.words i word;
              homes = state.homes;
              views = set state.views id new;
            }) i (ap (λ (ws : List ℕ). get_or ws i 0) same) refl
            (omega (arith, sum_set (λ view. times i view.frames) state.views id old new at))
            (omega (arith, sum_set (λ view. times i view.moving) state.views id old new at))
            (kept.home i near, kept.out i near)),
        ((λ hit. absurd (miss hit)), λ _. refl),
      ))

  -- a frame that a seat brings is out, with no holder, and one that a seat holds is out, with no
  -- other
  on_its_way : (state : St) (kept : Kept state) (id i : ℕ) (old : View)
      → get_elem? state.views id ≡ some old → i < length state.homes → times i old.moving ≡ 1
      → (get_or state.words i 0 ≢ 0) × IsOnItsWay state i
  on_its_way state kept id i old at near one =
      let mine = term_le (λ view. times i view.moving) state.views id old at in
      let out : get_or state.words i 0 ≢ 0 =
      λ home. absurd (omega (arith, (kept.home i near home).in_no_view.1)) in (
        out,
        ⊎_elim (λ (found : IsHeld state i). absurd (omega (arith, found.in_one_view.1)))
            (λ (found : IsOnItsWay state i). found) (kept.out i near out),
      )

  in_hand : (state : St) (kept : Kept state) (id i : ℕ) (old : View)
      → get_elem? state.views id ≡ some old → i < length state.homes → 0 < times i old.frames
      → (get_or state.words i 0 ≢ 0) × IsHeld state i
  in_hand state kept id i old at near some_hold =
      let mine = term_le (λ view. times i view.frames) state.views id old at in
      let out : get_or state.words i 0 ≢ 0 =
      λ home. absurd (omega (arith, (kept.home i near home).in_no_view.0)) in (
        out,
        ⊎_elim (λ (found : IsHeld state i). found)
            (λ (found : IsOnItsWay state i). absurd (omega (arith, found.by_one_seat.0)))
            (kept.out i near out),
      )

  -- slot in
  pub brings : (slots id i : ℕ) (old : View) → i < slots → 0 < old.parts → old.moving ≡ i ∷ []
      → Allows Kept slots id (old, (i, None) ∷ []) i (λ word. word)
      (brought (step slots i 0 0 none) (old, (i, None) ∷ []))
  brings slots id i old inside some_part is state kept wide at small =
      let near : i < length state.homes = omega arith in
      let moved = this_moving old i is in
      let found = on_its_way state kept id i old at near moved.0 in
      let word : ℕ = get_or state.words i 0 in
      let new : View = view_with old.size old.parts (old.frames ++ i ∷ []) [] old.failed in
      let one : times i new.frames ≡ times i old.frames + 1 =
      omega (arith, times-append i old.frames (i ∷ []), times-one i i, one_if-same i i refl) in (
        new,
        gives,
        tt,
        steps state kept (set state.words i word)
            (set state.homes i (some None)) id i old new at near (length-set state.words i word)
            (length-set state.homes i (some None))
            (λ k apart. get_or-set_other state.words i k word 0 apart)
            (λ k apart. set_else state.homes i k (some None) apart) refl refl some_part
            (λ k apart. (
              omega (
                arith,
                times-append k old.frames (i ∷ []),
                times-one k i,
                one_if-other k i (λ same. apart (sym same)),
              ),
              sym (moved.1 k apart),
              refl,
            )) (
              (λ home. absurd
                  (found.0 (sym (ap (λ (ws : List ℕ). get_or ws i 0) (set-get_or state.words i 0))
                  ∙ home))),
              λ _. inl (record {
                empty_slot = set_here state.homes i (some None) near;
                in_one_view = (
                  omega (
                    arith,
                    sum_set (λ view. times i view.frames) state.views id old new at,
                    one,
                    found.1.by_one_seat.0,
                  ),
                  omega (
                    arith,
                    sum_set (λ view. times i view.moving) state.views id old new at,
                    moved.0,
                    found.1.by_one_seat.1,
                  ),
                );
              }),
            ),
        refl,
      )

  -- slot out
  pub fetches : (slots id i : ℕ) (old : View) → i < slots → 0 < old.parts → old.moving ≡ []
      → 0 < times i old.frames → Allows Kept slots id (old, []) i (λ word. word)
      (fetched (step slots i 0 0 none) (old, []))
  fetches slots id i old inside some_part still some_hold state kept wide at small =
      let near : i < length state.homes = omega arith in
      let found = in_hand state kept id i old at near some_hold in
      let word : ℕ = get_or state.words i 0 in
      let new : View = view_with old.size old.parts (without i old.frames) (i ∷ []) old.failed in
      let mine = term_le (λ view. times i view.frames) state.views id old at in (
        new,
        takes i None,
        found.1.empty_slot,
        steps state kept (set state.words i word) (set state.homes i none) id i old new at near
            (length-set state.words i word) (length-set state.homes i none)
            (λ k apart. get_or-set_other state.words i k word 0 apart)
            (λ k apart. set_else state.homes i k none apart) refl refl some_part
            (λ k apart. (
              times-without_other k i old.frames apart,
              times-one k i
                  ∙ (one_if-other k i (λ same. apart (sym same)) ∙ sym (none_moving old still k)),
              refl,
            )) (
              (λ home. absurd
                  (found.0 (sym (ap (λ (ws : List ℕ). get_or ws i 0) (set-get_or state.words i 0))
                  ∙ home))),
              λ _. inr (record {
                slot_out = set_here state.homes i none near;
                by_one_seat = (
                  omega (
                    arith,
                    sum_set (λ view. times i view.frames) state.views id old new at,
                    times-without_same i old.frames,
                    found.1.in_one_view.0,
                  ),
                  omega (
                    arith,
                    sum_set (λ view. times i view.moving) state.views id old new at,
                    times-one i i,
                    one_if-same i i refl,
                    none_moving old still i,
                    found.1.in_one_view.1,
                  ),
                );
              }),
            ),
        refl,
      )

  -- release
  pub releases : (slots id i : ℕ) (old : View) (buffer : B) → i < slots → 0 < old.parts
      → old.moving ≡ i ∷ [] → fits old.size buffer
      → Allows Kept slots id (old, (i, Some buffer) ∷ []) i (λ _. 0)
      (λ _. released (step slots i 0 0 none) (old, (i, Some buffer) ∷ []) 0)
  releases slots id i old buffer inside some_part is fit state kept wide at small =
      let near : i < length state.homes = omega arith in
      let long = kept.one_word_more in
      let moved = this_moving old i is in
      let found = on_its_way state kept id i old at near moved.0 in
      let new : View = view_with old.size old.parts old.frames [] old.failed in (
        new,
        gives,
        tt,
        steps state kept (set state.words i 0)
            (set state.homes i (some (Some buffer))) id i old new at near
            (length-set state.words i 0) (length-set state.homes i (some (Some buffer)))
            (λ k apart. get_or-set_other state.words i k 0 0 apart)
            (λ k apart. set_else state.homes i k (some (Some buffer)) apart) refl refl some_part
            (λ k apart. (refl, sym (moved.1 k apart), refl)) (
              (λ _. record {
                in_slot = (
                  buffer,
                  set_here state.homes i (some (Some buffer)) near,
                  subst (λ (bytes : ℕ). fits bytes buffer)
                      (same_size state kept id old at some_part) fit,
                );
                in_no_view = (
                  omega (
                    arith,
                    sum_set (λ view. times i view.frames) state.views id old new at,
                    found.1.by_one_seat.0,
                  ),
                  omega (
                    arith,
                    sum_set
                        (λ view. times i view.moving) state.views id old new at,
                    moved.0,
                    found.1.by_one_seat.1,
                  ),
                );
              }),
              λ out. absurd (out (get_or-set_same state.words i 0 0 (omega arith))),
            ),
        refl,
      )

  -- a change of the views that moves no frame
  regroups : (state : St) (kept : Kept state) (views : List View)
      → ((k : ℕ) → (holders views k ≡ holders state.views k)
      × (movers views k ≡ movers state.views k) × (misses views k ≡ misses state.views k))
      → sum_by (λ old. old.parts) views ≡ 1024
      → ((seat : ℕ) (old : View) → get_elem? views seat ≡ some old → IsSound size old)
      → Kept (record { words = state.words; homes = state.homes; views = views })
  regroups state kept views counts parts sound = let after : St =
      record { words = state.words; homes = state.homes; views = views } in record {
        one_word_more = kept.one_word_more;
        home = λ k near. (stays state after k refl refl (counts k).0 (counts k).1
            (kept.home k near, kept.out k near)).0;
        out = λ k near. (stays state after k refl refl (counts k).0 (counts k).1
            (kept.home k near, kept.out k near)).1;
        no_others = λ k far. let was = kept.no_others k far in
            ((counts k).0 ∙ was.0, (counts k).1 ∙ was.1, (counts k).2 ∙ was.2);
        all_parts = parts;
        sound = sound;
      }

  -- the split of a seat
  pub splits : (id : ℕ) (old : View) → 1 < old.parts
      → Splits Kept id old (one_less old) (newcomer old)
  splits id old two state kept at =
      let left : View = one_less old in let right : View = newcomer old in let views : List View =
      set state.views id left in
      let both : (value : View → ℕ) → sum_by value
      (views ++ right ∷ []) + value old ≡ sum_by value state.views + value left + value right =
      λ value. omega (
        arith,
        sum_push value views right,
        sum_set value state.views id old left at,
      ) in
      regroups state kept (views ++ right ∷ [])
      (λ k. (
        omega (arith, both (λ view. times k view.frames)),
        omega (arith, both (λ view. times k view.moving)),
        omega (arith, both (λ view. times k view.failed)),
      ))
      (omega (arith, both (λ view. view.parts), kept.all_parts))
      (λ seat view there. ⊎_elim
      (λ (earlier : get_elem? views seat ≡ some view). ⊎_elim
      (λ (case : (seat ≡ id) × (left ≡ view)). subst (IsSound size) case.1
      ((λ _. (kept.sound id old at).0 (λ none. omega arith)), λ none. absurd (omega arith)))
      (λ (case : (seat ≢ id) × (get_elem? state.views seat ≡ some view)). kept.sound seat view
      case.1)
      (at_set state.views id seat left view earlier))
      (λ (last : right ≡ view). subst (IsSound size) last
      ((λ _. (kept.sound id old at).0 (λ none. omega arith)), λ none. absurd (omega arith)))
      (at_snoc views right view seat there))

  -- the join of two seats
  pub joins : (id : ℕ) (one : View) (other_id : ℕ) (other : View) → 0 < one.parts
      → Joins Kept id one other_id other (joined one other) nobody
  joins id one other_id other some_part state kept at apart there =
      let new : View = joined one other in let views : List View = set state.views id new in
      let both : (value : View → ℕ) → sum_by value
      (set views other_id nobody) + value one + value other
      ≡ sum_by value state.views + value new + value nobody =
      λ value. omega (
        arith,
        sum_set value views other_id other nobody there,
        sum_set value state.views id one new at,
      ) in
      regroups state kept (set views other_id nobody)
      (λ k. (
        omega (arith, both (λ view. times k view.frames), times-append k one.frames other.frames),
        omega (arith, both (λ view. times k view.moving), times-append k one.moving other.moving),
        omega (arith, both (λ view. times k view.failed), times-append k one.failed other.failed),
      ))
      (omega (arith, both (λ view. view.parts), kept.all_parts))
      (λ seat view here. ⊎_elim
      (λ (spent : (seat ≡ other_id) × (nobody ≡ view)). subst (IsSound size) spent.1
      ((λ some_more. absurd (some_more refl)), λ _. refl))
      (λ (stays_in : (seat ≢ other_id) × (get_elem? views seat ≡ some view)). ⊎_elim
      (λ (grown : (seat ≡ id) × (new ≡ view)). subst (IsSound size) grown.1
      ((λ _. (kept.sound id one at).0 (λ none. omega arith)), λ none. absurd (omega arith)))
      (λ (same : (seat ≢ id) × (get_elem? state.views seat ≡ some view)). kept.sound seat view
      same.1)
      (at_set state.views id seat new view stays_in.1))
      (at_set views other_id seat nobody view here))

  -- the three steps with a slot in hand, at a seat whose view and slots are known
  pub brings_at : (slots id i : ℕ) (old : View) (state : SeatState B)
      → state ≡ (old, (i, None) ∷ []) → i < slots → 0 < old.parts → old.moving ≡ i ∷ []
      → Allows Kept slots id state i (λ word. word) (brought (step slots i 0 0 none) state)
  brings_at slots id i old state is inside some_part moving =
      subst (λ (found : SeatState B). Allows Kept slots id found i (λ word. word)
      (brought (step slots i 0 0 none) found)) (sym is)
      (brings slots id i old inside some_part moving)

  pub fetches_at : (slots id i : ℕ) (state : SeatState B) → state.1 ≡ [] → i < slots
      → 0 < state.0.parts → state.0.moving ≡ [] → 0 < times i state.0.frames
      → Allows Kept slots id state i (λ word. word) (fetched (step slots i 0 0 none) state)
  fetches_at slots id i state none_out inside some_part still some_hold =
      subst (λ (found : SeatState B). Allows Kept slots id found i (λ word. word)
      (fetched (step slots i 0 0 none) found)) (λ t. (state.0, sym none_out t))
      (fetches slots id i state.0 inside some_part still some_hold)

  pub releases_at : (slots id i : ℕ) (old : View) (buffer : B) (state : SeatState B)
      → state ≡ (old, (i, Some buffer) ∷ []) → i < slots → 0 < old.parts → old.moving ≡ i ∷ []
      → fits old.size buffer
      → Allows Kept slots id state i (λ _. 0) (λ _. released (step slots i 0 0 none) state 0)
  releases_at slots id i old buffer state is inside some_part moving fit =
      subst (λ (found : SeatState B). Allows Kept slots id found i (λ _. 0)
      (λ _. released (step slots i 0 0 none) found 0)) (sym is)
      (releases slots id i old buffer inside some_part moving fit)

  -- no frame is in two views
  pub held_once : (state : St) → Kept state → (k : ℕ) → holders state.views k ≤ 1
  held_once state kept k = dite (dec_le (length state.homes) k)
      (λ far. omega (arith, (kept.no_others k far).0)) (λ near. inside (omega arith))
    where
      inside : k < length state.homes → holders state.views k ≤ 1
      inside near = dite (ℕ_discrete (get_or state.words k 0) 0)
          (λ home. omega (arith, (kept.home k near home).in_no_view.0))
          (λ out. ⊎_elim (λ (found : IsHeld state k). omega (arith, found.in_one_view.0))
          (λ (found : IsOnItsWay state k). omega (arith, found.by_one_seat.0))
          (kept.out k near out))

  pub one_seat : (state : St) → Kept state → (k one other : ℕ) (mine theirs : View)
      → get_elem? state.views one ≡ some mine → get_elem? state.views other ≡ some theirs
      → 0 < times k mine.frames → 0 < times k theirs.frames → one ≡ other
  one_seat state kept k one other mine theirs at there holds holds_too =
      dite (ℕ_discrete one other) (λ same. same)
      (λ apart. absurd (omega (
        arith,
        terms_le
            (λ view. times k view.frames) state.views one other mine theirs apart at there,
        held_once state kept k,
      )))
