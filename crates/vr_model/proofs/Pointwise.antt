-- Functions that are written at one number, and lists that stand for functions.
use Rattle.std.proofs.Common.{◌≡◌, ℕ, ◌+◌, Bool, true, false, cond, eqb, ◌&&◌, List, [], ◌∷◌}
use Rattle.std.proofs.Common.{refl, sym, ap, ◌∙◌, arith}
use Rattle.std.proofs.Math.Path.{fun_ext}
use Rattle.std.proofs.lemmas.Bool.{true≢false}
use Rattle.std.proofs.lemmas.Bool.Decides.{nat_tests}
use Rattle.vr_types.specs.Content.{Content}
use Rattle.vr_types.specs.Position.{first_position, unheld}
use Rattle.vr_types.specs.declared.position.Position.{Position}
use Rattle.vr_history.specs.Change.{Change}
use Rattle.vr_history.specs.Effects.{has_part, moves_file, changes, placed_in}
use Rattle.vr_history.specs.State.{State}
use Rattle.vr_model.specs.Endings.{kept_in, unheld_in, unheld_of, with_next}
use Rattle.vr_model_state.specs.Contents.{content_in}
use Rattle.vr_model_state.specs.Seen.{position_in}
use Rattle.vr_model.specs.Writes.{with_content, with_number, with_position}
use Rattle.vr_model_state.specs.declared.state.FilePosition.{FilePosition}

-- a value that was made of the function's own at a number, and one that is made at each number
at_one : {X : Type 0} (at n : ℕ) (to : X → X) (f : ℕ → X)
    → cond (eqb n at) (to (f at)) (f n) ≡ cond (eqb n at) (to (f n)) (f n)
at_one at n to f = by_test (eqb n at) refl
  where
    by_test : (test : Bool) → eqb n at ≡ test
        → cond test (to (f at)) (f n) ≡ cond test (to (f n)) (f n)
    by_test true is = let same : n ≡ at = grind (arith, nat_tests) in ap (λ m. to (f m)) (sym same)
    by_test false is = refl

at_two : {X : Type 0} (at file n m : ℕ) (to : X → X) (f : ℕ → ℕ → X)
    → cond (eqb n at && eqb m file) (to (f at file)) (f n m) ≡ cond (eqb n at
    && eqb m file) (to (f n m)) (f n m)
at_two at file n m to f = by_test (eqb n at) (eqb m file) refl refl
  where
    by_test : (one other : Bool) → eqb n at ≡ one → eqb m file ≡ other
        → cond (one && other) (to (f at file)) (f n m) ≡ cond (one && other) (to (f n m)) (f n m)
    by_test true true is was =
        let same : n ≡ at = grind (arith, nat_tests) in
        let alike : m ≡ file = grind (arith, nat_tests) in
        rw same (rw alike refl)
    by_test true false is was = refl
    by_test false other is was = refl

-- a position that was made of the file's own is the file moved
pub position_moved : (deck slot : ℕ) (to : Position
    → Position) (position : Position) (state : State) → position ≡ to (state.positions deck slot)
    → with_position deck slot position state ≡ moves_file deck slot to state
position_moved deck slot to position state same =
    rw same (ap (λ (positions : ℕ → ℕ → Position). let old = state in
    record old { positions = positions })
    (fun_ext (λ n. fun_ext (λ m. at_two deck slot n m to state.positions))))

-- a content that was made of the part's own is the change made
pub content_changed : (change : Change) (content : Content) (state : State)
    → content ≡ placed_in change.place change.new (state.contents change.part)
    → with_content change.part content state ≡ changes change state
content_changed change content state same =
    rw same (ap (λ (contents : ℕ → Content). let old = state in record old { contents = contents })
    (fun_ext (λ n. at_one change.part n (placed_in change.place change.new) state.contents)))

-- a number that was made of the deck's own is the deck's next
pub number_next : (deck number : ℕ) (state : State) → number ≡ state.numbers deck + 1
    → with_number deck number state ≡ with_next deck state
number_next deck number state same =
    rw same (ap (λ (numbers : ℕ → ℕ). let old = state in record old { numbers = numbers })
    (fun_ext (λ n. at_one deck n (λ m. m + 1) state.numbers)))

-- positions without what a deck's files hold
unheld_one : (at deck slot : ℕ) (files : List FilePosition)
    → position_in (unheld_in at files) deck slot ≡ cond (eqb deck at)
    (unheld (position_in files deck slot)) (position_in files deck slot)
unheld_one at deck slot [] = by_test (eqb deck at)
  where
    by_test : (test : Bool) → first_position ≡ cond test (unheld first_position) first_position
    by_test true = refl
    by_test false = refl
unheld_one at deck slot (file ∷ files) =
    by_test (eqb file.deck at) (eqb deck file.deck
    && eqb slot file.slot) (eqb deck at) refl refl refl (unheld_one at deck slot files)
  where
    by_test : (own this asked : Bool) → eqb file.deck at ≡ own
        → (eqb deck file.deck && eqb slot file.slot) ≡ this → eqb deck at ≡ asked
        → position_in (unheld_in at files) deck slot ≡ cond (eqb deck at)
        (unheld (position_in files deck slot)) (position_in files deck slot)
        → position_in (unheld_of at file ∷ unheld_in at files) deck slot ≡ cond (eqb deck at)
        (unheld (cond (eqb deck file.deck
        && eqb slot file.slot) file.position (position_in files deck slot)))
        (cond (eqb deck file.deck
        && eqb slot file.slot) file.position (position_in files deck slot))
    by_test true true true owns is asks rest = rw owns (rw is (rw asks refl))
    by_test true true false owns is asks rest = absurd (grind (arith, nat_tests))
    by_test true false asked owns is asks rest = rw owns (rw is rest)
    by_test false true true owns is asks rest = absurd (grind (arith, nat_tests))
    by_test false true false owns is asks rest = rw owns (rw is (rw asks refl))
    by_test false false asked owns is asks rest = rw owns (rw is rest)

pub positions_unheld : (deck : ℕ) (files : List FilePosition)
    → position_in (unheld_in deck files) ≡
    (λ at slot. cond (eqb at deck) (unheld (position_in files at slot)) (position_in files at slot))
positions_unheld deck files = fun_ext (λ at. fun_ext (λ slot. unheld_one deck at slot files))

-- the contents of some parts alone
abbrev nothing : Content
nothing = []

either_none : (test : Bool) (one other : Content) → test ≡ false
    → cond test one nothing ≡ cond test other nothing
either_none true one other is = absurd (true≢false is)
either_none false one other is = refl

kept_one : (parts : List ℕ) (contents : List (ℕ × Content)) (part : ℕ)
    → content_in (kept_in parts contents) part
    ≡ cond (has_part parts part) (content_in contents part) nothing
kept_one parts [] part = by_test (has_part parts part)
  where
    by_test : (test : Bool) → nothing ≡ cond test nothing nothing
    by_test true = refl
    by_test false = refl
kept_one parts (held ∷ contents) part =
    by_test (has_part parts held.0) (eqb part held.0) refl refl (kept_one parts contents part)
  where
    by_test : (own this : Bool) → has_part parts held.0 ≡ own → eqb part held.0 ≡ this
        → content_in (kept_in parts contents) part
        ≡ cond (has_part parts part) (content_in contents part) nothing
        → content_in (cond own (held ∷ kept_in parts contents) (kept_in parts contents)) part
        ≡ cond (has_part parts part) (cond this held.1 (content_in contents part)) nothing
    by_test true true owns is rest =
        let same : part ≡ held.0 = grind (arith, nat_tests) in
        let has : has_part parts part ≡ true = ap (has_part parts) same ∙ owns in
        rw is (rw has refl)
    by_test true false owns is rest = rw is rest
    by_test false true owns is rest =
        let same : part ≡ held.0 = grind (arith, nat_tests) in
        let lacks : has_part parts part ≡ false = ap (has_part parts) same ∙ owns in
        rest ∙ either_none (has_part parts part) (content_in contents part) held.1 lacks
    by_test false false owns is rest = rest

pub contents_kept : (parts : List ℕ) (contents : List (ℕ × Content))
    → content_in (kept_in parts contents)
    ≡ (λ part. cond (has_part parts part) (content_in contents part) [])
contents_kept parts contents = fun_ext (λ part. kept_one parts contents part)
