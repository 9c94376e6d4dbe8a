use Rattle.std.proofs.Common.{List, ap, ◌∙◌, subst, sym}
use Rattle.vr_record_file.specs.Now.{FileNow, IsStateOf, number_of}
use Rattle.vr_record_file.specs.declared.numbers.DeckNumber.{DeckNumber}
use Rattle.vr_record_file.proofs.Resting.{number_of_more, numbered_state}
use Rattle.vr_record_file.proofs.file.RecordFile.enter_deck.Goals as goal

pub returns-clause-numbers : goal.returns-clause-numbers
returns-clause-numbers c = λ other.
    ap (λ (l : List DeckNumber). number_of l other) c.in_ok-push.ensures.items
    ∙ number_of_more _ c.args.deck other
    ∙ ap (λ (file : FileNow). number_of file.numbers other) c.self.view_is

pub returns-clause-state : goal.returns-clause-state
returns-clause-state c = λ opening is. numbered_state opening _ _
    (λ other. ap (λ (l : List DeckNumber). number_of l other) c.in_ok-push.ensures.items
    ∙ number_of_more _ c.args.deck other) (subst (IsStateOf opening) (sym c.self.view_is) is)
