-- The run of the tokens, step by step.
use Rattle.std.proofs.Common.{◌≡◌, ℕ, ◌+◌, ◌<◌, ◌≤◌, List, [], length, drop, refl, sym, ap, ◌∙◌, add-one}
use Rattle.std.proofs.Common.{◌⊎◌, inl, inr, arith, Some}
use Rattle.std.proofs.lemmas.List.{drop_all}
use Rattle.std.proofs.Math.Seq.{drop-cons}
use Rattle.vr_scan.specs.declared.token.TokenKind.{TokenKind}
use Rattle.vr_scan.specs.declared.token.TokenKind.TheVariants.{End}
use Rattle.vr_scan.specs.Token.{Token, token_at}
use Rattle.vr_amsparse_grammar.specs.declared.cause.AmsCause.{AmsCause}
use Rattle.vr_amsparse.specs.declared.state.State.{State}
use Rattle.vr_amsparse.specs.Run.{Stepped, Went, Failed, run, step, ended, nodes_in}
use Rattle.vr_amsparse.specs.declared.state.Stop.{Stop}
use Rattle.vr_amsparse.specs.declared.state.Stop.TheVariants.{Bad, Memory}
use Rattle.vr_amsparse.specs.declared.command.Node.{Node}
use Rattle.vr_amsparse.specs.declared.fault.CommandFault.{CommandFault}
use Rattle.vr_amsparse.specs.Stops.{Stops}
use Rattle.vr_amsparse.specs.Commands.{fault_in, fault_at}

-- a token that is left is stepped first
pub run_next : (tokens : List Token) (names : List (List ℕ)) (s : State) (i : ℕ)
    → i < length tokens
    → run tokens names (Went s) i (drop i tokens)
    ≡ run tokens names (step tokens names s i (token_at tokens i).kind (token_at tokens i).text)
    (i + 1) (drop (i + 1) tokens)
unfolding run
run_next tokens names s i h =
    ap (run tokens names (Went s) i)
    (drop-cons tokens i (record { kind = End; text = []; line = 0; column = 0 }) h)
    ∙ ap (run tokens names (step tokens names s i (token_at tokens i).kind (token_at tokens i).text)
    (i + 1)) (ap (λ n. drop n tokens) (sym (add-one i)))

-- where none is left the text ends
pub run_none : (tokens : List Token) (names : List (List ℕ)) (s : State) (i : ℕ)
    → run tokens names (Went s) i [] ≡ ended tokens names s i
unfolding run
run_none tokens names s i = refl

-- a fault stays
pub run_failed : (tokens : List Token) (names : List (List ℕ)) (stepped : Stepped) (i : ℕ)
    (rest : List Token) (cause : AmsCause) (at : ℕ) → stepped ≡ Failed cause at
    → run tokens names stepped i rest ≡ Failed cause at
unfolding run
run_failed tokens names stepped i rest cause at e = ap (λ s. run tokens names s i rest) e

-- the step of the token at its place
stepped_there : (tokens : List Token) (names : List (List ℕ)) (s : State) (i : ℕ) (kind : TokenKind)
    (text : List ℕ) → kind ≡ (token_at tokens i).kind → text ≡ (token_at tokens i).text
    → step tokens names s i kind text
    ≡ step tokens names s i (token_at tokens i).kind (token_at tokens i).text
stepped_there tokens names s i kind text k t =
    ap (λ one. step tokens names s i one text) k
    ∙ ap (λ one. step tokens names s i (token_at tokens i).kind one) t

pub run_went : (tokens : List Token) (names : List (List ℕ)) (s s' : State) (i : ℕ) (kind : TokenKind)
    (text : List ℕ) → i < length tokens → kind ≡ (token_at tokens i).kind
    → text ≡ (token_at tokens i).text → step tokens names s i kind text ≡ Went s'
    → run tokens names (Went s) i (drop i tokens)
    ≡ run tokens names (Went s') (i + 1) (drop (i + 1) tokens)
run_went tokens names s s' i kind text h k t e =
    run_next tokens names s i h
    ∙ ap (λ one. run tokens names one (i + 1) (drop (i + 1) tokens))
    (sym (stepped_there tokens names s i kind text k t) ∙ e)

-- a step that stops stops the run
pub run_stops : (tokens : List Token) (names : List (List ℕ)) (s : State) (i : ℕ) (kind : TokenKind)
    (text : List ℕ) (stop : Stop) (whole : Stepped) → i < length tokens
    → kind ≡ (token_at tokens i).kind → text ≡ (token_at tokens i).text
    → run tokens names (Went s) i (drop i tokens) ≡ whole
    → Stops (step tokens names s i kind text) stop → Stops whole stop
run_stops tokens names s i kind text Memory whole h k t same e = tt
run_stops tokens names s i kind text (Bad cause at) whole h k t same e =
    sym same ∙ run_next tokens names s i h
    ∙ run_failed tokens names _ (i + 1) (drop (i + 1) tokens) cause at
    (sym (stepped_there tokens names s i kind text k t) ∙ e)

-- the run of no tokens that are left
pub run_ended : (tokens : List Token) (names : List (List ℕ)) (s : State) (i : ℕ) (whole : Stepped)
    → length tokens ≤ i → i ≤ length tokens
    → run tokens names (Went s) i (drop i tokens) ≡ whole
    → whole ≡ ended tokens names s (length tokens)
run_ended tokens names s i whole low high same =
    let at_end : i ≡ length tokens = omega arith in
    sym same ∙ ap (run tokens names (Went s) i) (drop_all i tokens low) ∙ run_none tokens names s i
    ∙ ap (ended tokens names s) at_end

-- a run has nodes or a fault
pub either_in : (tokens : List Token) (stepped : Stepped)
    → ((nodes : List Node) × (nodes_in stepped ≡ Some nodes))
    ⊎ ((fault : CommandFault) × (fault_in tokens stepped ≡ Some fault))
either_in tokens (Went s) = inl (s.nodes, refl)
either_in tokens (Failed cause at) = inr (fault_at tokens cause at, refl)
