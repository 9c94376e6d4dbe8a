-- A parameter as it is spelled is read as given.
use Rattle.std.proofs.Common.{◌≡◌, ℕ, suc, ◌+◌, ◌<◌, ◌≤◌, List, [], ◌∷◌, ◌++◌, length, Option, Some, None}
use Rattle.std.proofs.Common.{true, false, cond, refl, sym, ap, subst, ◌∙◌, arith, nat_le, add-zero}
use Rattle.std.proofs.lemmas.Bool.{lt-leb, le-ltb, both_ways}
use Rattle.vr_scan.specs.declared.token.TokenKind.{TokenKind}
use Rattle.vr_scan.specs.declared.token.TokenKind.TheVariants as kinds
use Rattle.vr_scan.specs.Token.{Token}
use Rattle.vr_amsparse_grammar.specs.declared.given.Given.{Given}
use Rattle.vr_amsparse_grammar.specs.declared.point.Statement.{Statement}
use Rattle.vr_amsparse_grammar.specs.declared.point.Point.TheVariants.{Listed, Valued, ValueOpening}
use Rattle.vr_amsparse_grammar.specs.declared.point.Move.{Move}
use Rattle.vr_amsparse_grammar.specs.declared.point.Move.TheVariants as moves
use Rattle.vr_amsparse_grammar.specs.declared.cause.AmsCause.{AmsCause}
use Rattle.vr_amsparse_grammar.specs.declared.cause.AmsCause.TheVariants as causes
use Rattle.vr_amsparse_grammar.specs.declared.row.Values.{Values}
use Rattle.vr_amsparse_grammar.specs.declared.section.Section.{Section}
use Rattle.vr_amsparse_grammar.specs.Judging.{value_fault}
use Rattle.vr_amsparse_grammar.specs.Moves.{value_move, closed_move, judged_move, values_before, next_move}
use Rattle.vr_amsparse_grammar.specs.Moves.{listed_move, named_move, taken_move, repeated_as, given_in}
use Rattle.vr_amsparse_grammar.specs.Moves.{value_opening_move}
use Rattle.vr_amsparse_grammar.specs.Sections.{section_parameter, has_parameters}
use Rattle.vr_amsparse_grammar.specs.declared.row.Takes.TheVariants as takes
use Rattle.vr_amsparse_grammar.specs.Reading.{Reach, reach_by, reached, is_value_kind, AreValues}
use Rattle.vr_amsparse_grammar.specs.Reading.{IsParameter}

-- a value leaves the reader where it is
judged : (section : Section) (states : Statement) (wanted : Values) (opened before : ℕ)
    (fault : Option AmsCause) → nat_le wanted.most before ≡ false → fault ≡ None
    → cond (nat_le wanted.most before) (moves.Bad causes.WrongCount)
    (judged_move section states wanted opened fault)
    ≡ moves.Go (Valued section states wanted opened)
judged section states wanted opened before fault room right =
    ap (λ b. cond b (moves.Bad causes.WrongCount)
    (judged_move section states wanted opened fault)) room
    ∙ ap (judged_move section states wanted opened) right

value_stays : (names : List (List ℕ)) (section : Section) (states : Statement) (wanted : Values)
    (opened at : ℕ) (kind : TokenKind) (text : List ℕ)
    → is_value_kind kind ≡ true → nat_le wanted.most (values_before opened at) ≡ false
    → value_fault wanted.value (values_before opened at) kind text names ≡ None
    → value_move section states wanted opened at kind text names
    ≡ moves.Go (Valued section states wanted opened)
value_stays names section states wanted opened at kinds.Word text is room right =
    judged section states wanted opened _ _ room right
value_stays names section states wanted opened at kinds.Characters text is room right =
    judged section states wanted opened _ _ room right
value_stays names section states wanted opened at kinds.Hex text is room right =
    judged section states wanted opened _ _ room right
value_stays names section states wanted opened at kinds.Compare text is room right =
    judged section states wanted opened _ _ room right
value_stays names section states wanted opened at kinds.Open text is room right =
    judged section states wanted opened _ _ room right
value_stays names section states wanted opened at kinds.Close text is room right =
    absurd (both_ways _ refl is)
value_stays names section states wanted opened at kinds.End text is room right =
    absurd (both_ways _ refl is)

-- a token leads on by its move
stepped : (names : List (List ℕ)) (reach : Reach) (at : ℕ) (token : Token) (rest : List Token)
    (move : Move) → next_move reach.point at token.kind token.text reach.given names ≡ move
    → reached names (Some reach) at (token ∷ rest)
    ≡ reached names (reach_by move reach.given) (at + 1) rest
stepped names reach at token rest move e =
    ap (λ one. reached names (reach_by one reach.given) (at + 1) rest) e

-- where the reader is among the values of a parameter
abbrev among : Section → Statement → Values → ℕ → List Given → Reach
among section states wanted opened given =
    record { point = Valued section states wanted opened; given = given }

placed : (opened place : ℕ) → values_before opened (opened + 1 + place) ≡ place
placed opened place = omega arith

values_read : (names : List (List ℕ)) (section : Section) (states : Statement) (wanted : Values)
    (given : List Given) (opened place : ℕ) (values rest : List Token)
    → place + length values ≤ wanted.most → AreValues names wanted.value place values
    → reached names (Some (among section states wanted opened given)) (opened + 1 + place)
    (values ++ rest)
    ≡ reached names (Some (among section states wanted opened given))
    (opened + 1 + (place + length values)) rest
values_read names section states wanted given opened place [] rest most right =
    ap (λ n. reached names (Some (among section states wanted opened given)) (opened + 1 + n) rest)
    (sym (add-zero place))
values_read names section states wanted given opened place (token ∷ values) rest most right =
    let at : ℕ = opened + 1 + place in
    let here : values_before opened at ≡ place = placed opened place in
    let below : values_before opened at < wanted.most = omega arith in
    let stays : value_move section states wanted opened at token.kind token.text names
    ≡ moves.Go (Valued section states wanted opened) =
    value_stays names section states wanted opened at token.kind token.text right.0
    (lt-leb _ _ below)
    (subst (λ (n : ℕ). value_fault wanted.value n token.kind token.text names ≡ None) (sym here)
    right.1) in
    let onward : opened + 1 + place + 1 ≡ opened + 1 + (place + 1) = omega arith in
    let fits : place + 1 + length values ≤ wanted.most = omega arith in
    let same : opened + 1 + (place + 1 + length values) ≡ opened + 1 + (place + suc (length values)) =
    omega arith in
    stepped names (among section states wanted opened given) at token (values ++ rest) _ stays
    ∙ ap (λ n. reached names (Some (among section states wanted opened given)) n (values ++ rest))
    onward
    ∙ values_read names section states wanted given opened (place + 1) values rest fits right.2
    ∙ ap (λ n. reached names (Some (among section states wanted opened given)) n rest) same

word_opens : (section : Section) (at : ℕ) (kind : TokenKind) (text : List ℕ) (given : List Given)
    (states : Statement) (wanted : Values) → kind ≡ kinds.Word → has_parameters section ≡ true
    → section_parameter section text
    ≡ Some (record { slot = states.slot; choice = states.choice; takes = takes.Values wanted })
    → given_in given states.slot ≡ None
    → listed_move section at kind text given ≡ moves.Go (ValueOpening section states wanted)
word_opens section at kind text given states wanted is_word rows named new =
    ap (λ one. listed_move section at one text given) is_word
    ∙ ap (λ b. cond b (named_move section at given (section_parameter section text))
    (moves.Bad causes.TextAfterEnd)) rows
    ∙ ap (named_move section at given) named
    ∙ ap (λ one. taken_move section at states (takes.Values wanted) (repeated_as one states)) new

closes : (names : List (List ℕ)) (section : Section) (states : Statement) (wanted : Values)
    (opened count at : ℕ) (kind : TokenKind) (text : List ℕ) → kind ≡ kinds.Close
    → values_before opened at ≡ count → wanted.least ≤ count
    → value_move section states wanted opened at kind text names
    ≡ moves.Give (record { states = states; opened = opened; count = count }) (Listed section)
closes names section states wanted opened count at kind text is_close counted least =
    ap (λ one. value_move section states wanted opened at one text names) is_close
    ∙ ap (closed_move section states wanted opened) counted
    ∙ ap (λ b. cond b (moves.Bad causes.WrongCount)
    (moves.Give (record { states = states; opened = opened; count = count }) (Listed section)))
    (le-ltb _ _ least)

pub spelled : (names : List (List ℕ)) (section : Section) (given : List Given) (at : ℕ)
    (word before : Token) (values : List Token) (after : Token) (states : Statement)
    → IsParameter names section given word before values after states
    → reached names (Some (record { point = Listed section; given = given })) at
    (word ∷ before ∷ (values ++ after ∷ []))
    ≡ Some (record {
      point = Listed section;
      given = given
          ++ record { states = states; opened = at + 1; count = length values } ∷ [];
    })
spelled names section given at word before values after states h =
    let fits : 0 + length values ≤ h.wanted.most = omega (arith, h.most) in
    let counted : values_before (at + 1) (at + 1 + 1 + (0 + length values)) ≡ length values =
    omega arith in
    stepped names (record { point = Listed section; given = given }) at word
    (before ∷ (values ++ after ∷ [])) _
    (word_opens section at word.kind word.text given states h.wanted h.is_word h.has_rows h.named
    h.new)
    ∙ stepped names (record { point = ValueOpening section states h.wanted; given = given }) (at + 1)
    before (values ++ after ∷ []) _
    (ap (value_opening_move section states h.wanted (at + 1)) h.opens)
    ∙ ap (λ n. reached names (Some (among section states h.wanted (at + 1) given)) n
    (values ++ after ∷ [])) (sym (add-zero (at + 1 + 1)))
    ∙ values_read names section states h.wanted given (at + 1) 0 values (after ∷ []) fits h.right
    ∙ stepped names (among section states h.wanted (at + 1) given) (at + 1 + 1 + (0 + length values))
    after [] _
    (closes names section states h.wanted (at + 1) (length values) _ after.kind after.text h.closes
    counted h.least)
