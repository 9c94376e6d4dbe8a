-- What an event of a deck enters: it is the deck's own, answers one request at most, and leaves the
-- catalog as it was.
use Rattle.std.proofs.Common.{◌≡◌, ◌≤◌, ◌==◌, inl, ⊎_elim, ◌∙◌, ℕ, Bool, false, List, [], ◌∷◌, ◌++◌}
use Rattle.std.proofs.Common.{refl, sym, ap, subst, arith, length, if◌then◌else◌}
use Rattle.std.specs.Prelude.{All}
use Rattle.std.proofs.lemmas.List.Elements.{All-cons, All-head, All-nil, All-tail, All-weaker}
use Rattle.vr_types.specs.declared.bound.Bound.{Bound}
use Rattle.vr_types.specs.declared.request.Request.{Request}
use Rattle.vr_types.specs.declared.unit.Unit.{Unit as UnitOfRecovery}
use Rattle.vr_catalog.specs.declared.entry.CatEntry.{CatEntry}
use Rattle.vr_history.specs.Merged.{request_in}
use Rattle.vr_history.specs.declared.entry.Entry.{Entry}
use Rattle.vr_history.specs.declared.entry.What.{What}
use Rattle.vr_event.specs.Made.{MadeBy}
use Rattle.vr_event.specs.declared.act.Act.{Act}
use Rattle.vr_event.specs.declared.act.Act.TheVariants.{Again, Done}
use Rattle.vr_worker.specs.Asked.{bound_to}
use Rattle.vr_job.specs.Catalogs.{catalog_by, catalog_told}
use Rattle.vr_job.specs.Events.{AnswersOnce, requests_in}
use Rattle.vr_job.proofs.Entering.{step-none}

-- ---- its entries are its own

abbrev IsOf : UnitOfRecovery → Entry → Type 0
IsOf unit entry = entry.unit ≡ unit

made-of : (act : Act) (unit : UnitOfRecovery) (line : ℕ) (request : Request) (made : List Entry)
    → MadeBy act unit line request made → All (IsOf unit) made
made-of Done unit line request made is = subst (All (IsOf unit)) (sym is.is)
    (All-cons (IsOf unit) is.entry is.rest is.unit_is (⊎_elim
    (λ none. subst (All (IsOf unit)) (sym none) (All-nil (IsOf unit)))
    (λ fault. subst (All (IsOf unit)) (sym fault.is)
    (All-cons (IsOf unit) fault.fault [] fault.unit_is (All-nil (IsOf unit)))) is.follows))
made-of (Again given) unit line request made is = ⊎_elim
    (λ none. subst (All (IsOf unit)) (sym none) (All-nil (IsOf unit)))
    (λ one. subst (All (IsOf unit)) (sym one.1)
    (All-cons (IsOf unit) one.0 [] one.2.0 (All-nil (IsOf unit)))) is

-- they are of its deck,
pub made-own : (act : Act) (unit : UnitOfRecovery) (line : ℕ) (request : Request)
    (made : List Entry) → MadeBy act unit line request made
    → All (λ (entry : Entry). entry.unit.deck ≡ unit.deck) made
made-own act unit line request made is =
    All-weaker (IsOf unit) (λ (entry : Entry). entry.unit.deck ≡ unit.deck)
    (λ entry own. ap (λ (u : UnitOfRecovery). u.deck) own) made
    (made-of act unit line request made is)

-- which is none of the utilities
abbrev pub IsOfDeck : Entry → Type 0
IsOfDeck entry = (entry.unit.deck == 0) ≡ false

pub made-decks : (act : Act) (unit : UnitOfRecovery) (line : ℕ) (request : Request)
    (made : List Entry) → MadeBy act unit line request made → (unit.deck == 0) ≡ false
    → All IsOfDeck made
made-decks act unit line request made is own =
    All-weaker (IsOf unit) IsOfDeck
    (λ entry of. ap (λ (u : UnitOfRecovery). u.deck == 0) of ∙ own) made
    (made-of act unit line request made is)

-- So the catalog stays.
pub catalog-stays : (catalog : List CatEntry) (entries : List Entry) → All IsOfDeck entries
    → catalog_by catalog entries ≡ catalog
catalog-stays catalog [] decks = refl
catalog-stays catalog (entry ∷ entries) decks =
    ap (λ (b : Bool).
    catalog_by (if b then catalog_told entry.what catalog else catalog) entries)
    (All-head IsOfDeck entry entries decks)
    ∙ catalog-stays catalog entries (All-tail IsOfDeck entry entries decks)

-- ---- it answers one request at most

alone : (entry : Entry) → request_in 0 entry.line entry.what ≡ [] → requests_in (entry ∷ []) ≡ []
alone entry none = ap (λ (them : List Bound). them ++ []) none

made-one : (act : Act) (unit : UnitOfRecovery) (line : ℕ) (request : Request) (made : List Entry)
    → MadeBy act unit line request made → length (requests_in made) ≤ 1
made-one Done unit line request made is =
    omega (arith, ap (λ (them : List Bound). length them) one)
  where
    rest-none : requests_in is.rest ≡ []
    rest-none = ⊎_elim (λ none. ap requests_in none)
        (λ fault. ap requests_in fault.is
        ∙ alone fault.fault (ap (request_in 0 fault.fault.line) fault.what_is)) is.follows

    one : requests_in made ≡ bound_to 0 is.entry.line request ∷ []
    one = ap requests_in is.is
        ∙ ap (λ (them : List Bound). request_in 0 is.entry.line is.entry.what ++ them) rest-none
        ∙ ap (λ (w : What). request_in 0 is.entry.line w ++ []) is.what_is
made-one (Again given) unit line request made is =
    omega (arith, ap (λ (them : List Bound). length them) none)
  where
    none : requests_in made ≡ []
    none = ⊎_elim (λ no. ap requests_in no)
        (λ one. ap requests_in one.1 ∙ alone one.0 (step-none 0 unit line request one.0 one.2)) is

pub made-once : (act : Act) (unit : UnitOfRecovery) (line : ℕ) (request : Request)
    (made : List Entry) → MadeBy act unit line request made → AnswersOnce made
made-once act unit line request made is = record {
  first = [];
  rest = made;
  made_are = refl;
  begun = inl refl;
  once = made-one act unit line request made is;
}
