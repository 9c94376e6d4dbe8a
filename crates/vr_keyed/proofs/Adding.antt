-- Adding the records of a stretch to what is written.
use Rattle.std.proofs.Common.{◌≡◌, ◌+◌, ◌≤◌, ℕ, Bool, IsTrue, true, false, List, [], ◌∷◌}
use Rattle.std.proofs.Common.{◌++◌, length, All, refl, sym, ap, subst, ◌∙◌, arith, true≢false}
use Rattle.std.proofs.Common.{append_assoc, ◌↔◌}
use Rattle.std.proofs.lemmas.List.{append-nil}
use Rattle.std.proofs.lemmas.List.Elements.{All-head, All-tail}
use Rattle.std.specs.Prelude.{cond, OnOk, IfOk, OnErr, IfErr}
use Rattle.std.specs.Result.{is_ok, is_err}
use Rattle.std.specs.declared.result.Result.{Result}
use Rattle.std.specs.declared.result.Result.TheVariants.{Ok, Err}
use Rattle.std.specs.Borrow.{Bor}
use Rattle.std.specs.Option.{option_map}
use Rattle.vr_ci.specs.Interval as ci
use Rattle.vr_ci.specs.declared.writer.CiWriter.{CiWriter}
use Rattle.vr_ci.specs.Writer.{Holds, written}
use Rattle.vr_ci.proofs.CallerLemmas.{room-append}
use Rattle.vr_space.specs.Keyed.{Keyed, IsKept, key_of}
use Rattle.vr_keyed.specs.declared.stretch.Stretch.{Stretch}
use Rattle.vr_keyed.specs.Setting.{is_between, items_in}

-- a record of a stretch
abbrev pub one_of : Keyed → Stretch → List ℕ → Bool
one_of part stretch bytes =
    is_between (option_map (λ (low : Bor (List ℕ)). low.now) stretch.low) stretch.high.now
    stretch.most (key_of part bytes)

abbrev pub is_one : Keyed → Stretch → ci.Item → Bool
is_one part stretch item = one_of part stretch item.bytes

-- what a test that is false says of a record that is kept
pub test-false : {A : Type 0} (test other : Bool) → (IsTrue test ↔ (A × IsTrue other))
    → test ≡ false → A → other ≡ false
test-false test true says fails least =
    absurd (true≢false (sym (says.1 (least, refl)) ∙ fails))
test-false test false says fails least = refl

-- a record that is live is written as it is
pub written-is : (item : ci.Item) (bytes : List ℕ) (live : Bool) → item.bytes ≡ bytes
    → item.live ≡ live → item.live ≡ true → written bytes live ≡ item
written-is item bytes live same lives alive =
    ap (λ (b : Bool). written bytes b) (sym lives ∙ alive)
    ∙ (λ i. record { bytes = sym same i; live = sym alive i })

-- the first record is one, or not
in-more : (part : Keyed) (stretch : Stretch) (item : ci.Item) (left : List ci.Item)
    → items_in part stretch (item ∷ left)
    ≡ items_in part stretch (item ∷ []) ++ items_in part stretch left
in-more part stretch item left = by (is_one part stretch item)
  where
    by : (b : Bool) → cond b (item ∷ items_in part stretch left) (items_in part stretch left)
        ≡ cond b (item ∷ []) [] ++ items_in part stretch left
    by true = refl
    by false = refl

pub in-wanted : (part : Keyed) (stretch : Stretch) (item : ci.Item)
    → is_one part stretch item ≡ true → items_in part stretch (item ∷ []) ≡ item ∷ []
in-wanted part stretch item is = ap (λ (b : Bool). cond b (item ∷ []) []) is

-- nothing is added for another
pub holds-other : (part : Keyed) (stretch : Stretch) (w : CiWriter) (items : List ci.Item)
    (item : ci.Item) → is_one part stretch item ≡ false → Holds w items
    → Holds w (items ++ items_in part stretch (item ∷ []))
holds-other part stretch w items item is holds =
    subst (Holds w) (sym (ap (λ (b : Bool). items ++ cond b (item ∷ []) []) is
    ∙ append-nil items)) holds

-- What was added of a stretch, before these records, to a writer that held the items.
pub record IsAdding (part : Keyed) (stretch : Stretch) (items all left : List ci.Item)
    (w : CiWriter) : Type 0 where
  pub kept : All (IsKept part) left
  pub done : List ci.Item
  pub whole : done ++ items_in part stretch left ≡ items_in part stretch all
  pub holds : Holds w (items ++ done)

module _ (part : Keyed) (stretch : Stretch) (items all old left : List ci.Item) (item : ci.Item)
    (w : CiWriter) where
  cut-whole : old ≡ item ∷ left → (done : List ci.Item)
      → done ++ items_in part stretch old ≡ items_in part stretch all
      → (done ++ items_in part stretch (item ∷ [])) ++ items_in part stretch left
      ≡ items_in part stretch all
  cut-whole cut done whole =
      append_assoc done (items_in part stretch (item ∷ [])) (items_in part stretch left)
      ∙ sym (ap (λ (xs : List ci.Item). done ++ xs)
      (ap (items_in part stretch) cut ∙ in-more part stretch item left)) ∙ whole

  -- the next record has room beside what was added
  pub adding-room : (size : ℕ) → old ≡ item ∷ left
      → (adding : IsAdding part stretch items all old w)
      → ci.room items + ci.room (items_in part stretch all) ≤ size
      → ci.room (items ++ adding.done) + ci.room (items_in part stretch (item ∷ [])) ≤ size
  adding-room size cut adding fits =
      let one : List ci.Item = items_in part stretch (item ∷ []) in
      omega (
        arith,
        fits,
        room-append items adding.done,
        room-append adding.done one,
        room-append (adding.done ++ one) (items_in part stretch left),
        ap ci.room (cut-whole cut adding.done adding.whole),
      )

  pub adding-kept : old ≡ item ∷ left → IsAdding part stretch items all old w → IsKept part item
  adding-kept cut adding =
      All-head (IsKept part) item left (subst (All (IsKept part)) cut adding.kept)

  -- and is added
  pub adding-more : (new : CiWriter) → old ≡ item ∷ left
      → (adding : IsAdding part stretch items all old w)
      → Holds new ((items ++ adding.done) ++ items_in part stretch (item ∷ []))
      → IsAdding part stretch items all left new
  adding-more new cut adding holds =
      record {
        kept = All-tail (IsKept part) item left (subst (All (IsKept part)) cut adding.kept);
        done = adding.done ++ items_in part stretch (item ∷ []);
        whole = cut-whole cut adding.done adding.whole;
        holds = subst (Holds new)
            (append_assoc items adding.done (items_in part stretch (item ∷ []))) holds;
      }

no_items : (xs : List ci.Item) → length xs ≡ 0 → xs ≡ []
no_items [] none = refl
no_items (x ∷ xs) none = absurd (omega (arith, none))

-- all are added
pub adding-ends : (part : Keyed) (stretch : Stretch) (items all left : List ci.Item)
    (w : CiWriter) → length left ≡ 0 → IsAdding part stretch items all left w
    → Holds w (items ++ items_in part stretch all)
adding-ends part stretch items all left w none adding =
    let whole : adding.done ≡ items_in part stretch all = sym (append-nil adding.done)
    ∙ ap (λ (xs : List ci.Item). adding.done ++ items_in part stretch xs) (sym (no_items left none))
    ∙ adding.whole in
    subst (λ (xs : List ci.Item). Holds w (items ++ xs)) whole adding.holds

-- ---- answers

pub not-err : {X E : Type 0} (r : Result X E) → (is_err r ≡ true → ⊥) → is_ok r ≡ true
not-err (Ok x) none = refl
not-err (Err e) none = absurd (none refl)

pub on-ok : {X E : Type 0} (r : Result X E) (P : Type 0) → is_ok r ≡ true → OnOk r P → P
on-ok (Ok x) P ok is = is
on-ok (Err e) P ok is = absurd (true≢false (sym ok))

pub on-ok-map : {X E : Type 0} (r : Result X E) (P Q : Type 0) → (P → Q) → OnOk r P → OnOk r Q
on-ok-map (Ok x) P Q more is = more is
on-ok-map (Err e) P Q more is = is

pub on-ok-from : {X E : Type 0} (r : Result X E) (P : Type 0) → P → OnOk r P
on-ok-from (Ok x) P is = is
on-ok-from (Err e) P is = tt

pub on-err-from : {X E : Type 0} (r : Result X E) (P : Type 0) → P → OnErr r P
on-err-from (Ok x) P is = tt
on-err-from (Err e) P is = is

pub on-err-both : {X E : Type 0} (r : Result X E) (P Q : Type 0) → OnErr r P → OnErr r Q
    → OnErr r (P × Q)
on-err-both (Ok x) P Q one other = tt
on-err-both (Err e) P Q one other = (one, other)

pub on-ok-both : {X E : Type 0} (r : Result X E) (P Q : Type 0) → OnOk r P → OnOk r Q
    → OnOk r (P × Q)
on-ok-both (Ok x) P Q one other = (one, other)
on-ok-both (Err e) P Q one other = tt

pub if-ok-map : {X E : Type 0} (r : Result X E) (P Q : X → Type 0) → ((x : X) → P x → Q x)
    → IfOk r P → IfOk r Q
if-ok-map (Ok x) P Q more is = more x is
if-ok-map (Err e) P Q more is = is

pub if-ok-both : {X E : Type 0} (r : Result X E) (O : Type 0) (P Q : X → Type 0)
    → ((x : X) → O → P x → Q x) → OnOk r O → IfOk r P → IfOk r Q
if-ok-both (Ok x) O P Q more on is = more x on is
if-ok-both (Err e) O P Q more on is = is

-- what is so of an error, with what is so where there is one
pub if-err-both : {X E : Type 0} (r : Result X E) (O : Type 0) (P Q : E → Type 0)
    → ((e : E) → O → P e → Q e) → OnErr r O → IfErr r P → IfErr r Q
if-err-both (Ok x) O P Q more on is = is
if-err-both (Err e) O P Q more on is = more e on is
