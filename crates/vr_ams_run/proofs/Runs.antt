-- The commands of a step, one after another.
use Rattle.std.proofs.Common.{◌≡◌, ◌∙◌, ◌+◌, ◌<◌, ◌≤◌, ℕ, suc, List, [], ◌∷◌, ◌++◌}
use Rattle.std.proofs.Common.{add-one, ap, drop, drop-cons, get_or, length, refl, subst, sym, take}
use Rattle.std.proofs.Math.ListN.{drop_of_length-le}
use Rattle.std.proofs.lemmas.List.{map-append, take-append-drop, take_more}
use Rattle.vr_types.specs.declared.geometry.Geometry.{Geometry}
use Rattle.vr_amsparse.specs.declared.command.Node.{Node}
use Rattle.vr_history.specs.declared.entry.Entry.{Entry}
use Rattle.vr_trace.specs.Shown.{Shown}
use Rattle.vr_ams_define.specs.Answers.{Answering}
use Rattle.vr_ams_define.specs.Grown.{AreRunOn}
use Rattle.vr_ams_define.proofs.GrownLemmas.{run-nothing, run-on}
use Rattle.vr_ams_run.specs.Running.{NodeRun, NodesRun, Stage, lines_of}

-- ---- the loop over commands

-- How far the loop over commands has come: with the run of those that are left it is the run of
-- all, and what was entered is on the lines of those so far.
pub record HasCome {V : Type 0} (shown : V → Shown) (geometry : V → Geometry)
    (answers : Answering V) (history : V → List Entry) (goes : V → V → Type 0)
    (nodes : List Node) (count : ℕ) (old new : Stage V) : Type 0 where
  pub ran : (last : Stage V) → NodesRun shown geometry answers (drop count nodes) new last
      → NodesRun shown geometry answers nodes old last
  pub grew : AreRunOn history goes (lines_of (take count nodes)) old.volumes new.volumes

-- one of a list, and those after it
pub cut-at : {X : Type 0} (xs : List X) (count : ℕ) (x : X) → count < length xs
    → x ≡ get_or xs count x → drop count xs ≡ x ∷ drop (count + 1) xs
cut-at {X} xs count x near at = drop-cons xs count x near
    ∙ ap (λ (it : X). it ∷ drop (suc count) xs) (sym at)
    ∙ rw add-one refl

-- the lines of those so far, and its line
lines-at : (nodes : List Node) (count : ℕ) (node : Node) → count < length nodes
    → node ≡ get_or nodes count node
    → lines_of (take count nodes) ++ node.line ∷ [] ≡ lines_of (take (count + 1) nodes)
lines-at nodes count node near at =
    ap (λ (it : Node). lines_of (take count nodes) ++ it.line ∷ []) at
    ∙ sym (ap lines_of (take_more nodes count node near)
    ∙ map-append (λ (it : Node). it.line) (take count nodes) (get_or nodes count node ∷ []))

lines-cut : (nodes : List Node) (count : ℕ)
    → lines_of (take count nodes) ++ lines_of (drop count nodes) ≡ lines_of nodes
lines-cut nodes count =
    sym (map-append (λ (it : Node). it.line) (take count nodes) (drop count nodes))
    ∙ ap lines_of (take-append-drop count nodes)

module _ {V : Type 0} (shown : V → Shown) (geometry : V → Geometry) (answers : Answering V)
    (history : V → List Entry) (goes : V → V → Type 0)
    (nowhere : (volume : V) → goes volume volume)
    (further : (a b c : V) → goes a b → goes b c → goes a c) (nodes : List Node)
    (old : Stage V) where
  pub come-none : HasCome shown geometry answers history goes nodes 0 old old
  come-none = record {
    ran = λ last run. run;
    grew = run-nothing history goes nowhere [] old.volumes;
  }

  -- what was entered, by those so far and one more, is on the lines of all
  widened : (count : ℕ) (volumes : List V)
      → AreRunOn history goes (lines_of (take count nodes)) old.volumes volumes
      → AreRunOn history goes (lines_of nodes) old.volumes volumes
  widened count volumes grew =
      subst (λ (lines : List ℕ). AreRunOn history goes lines old.volumes volumes)
      (lines-cut nodes count)
      (run-on history goes further (lines_of (take count nodes)) (lines_of (drop count nodes))
      old.volumes volumes volumes grew
      (run-nothing history goes nowhere (lines_of (drop count nodes)) volumes))

  grew-one : (count : ℕ) (now : Stage V) (node : Node) (volumes : List V)
      → HasCome shown geometry answers history goes nodes count old now → count < length nodes
      → node ≡ get_or nodes count node
      → AreRunOn history goes (node.line ∷ []) now.volumes volumes
      → AreRunOn history goes (lines_of (take (count + 1) nodes)) old.volumes volumes
  grew-one count now node volumes come near at grew =
      subst (λ (lines : List ℕ). AreRunOn history goes lines old.volumes volumes)
      (lines-at nodes count node near at)
      (run-on history goes further (lines_of (take count nodes)) (node.line ∷ []) old.volumes
      now.volumes volumes come.grew grew)

  -- a command ran
  pub come-one : (count : ℕ) (now : Stage V) (node : Node) (new : Stage V)
      → HasCome shown geometry answers history goes nodes count old now → count < length nodes
      → node ≡ get_or nodes count node → NodeRun shown geometry answers node now new
      → AreRunOn history goes (node.line ∷ []) now.volumes new.volumes
      → HasCome shown geometry answers history goes nodes (count + 1) old new
  come-one count now node new come near at run grew = record {
    ran = λ last rest. come.ran last (subst
        (λ (those : List Node). NodesRun shown geometry answers those now last)
        (sym (cut-at nodes count node near at)) (new, run, rest));
    grew = grew-one count now node new.volumes come near at grew;
  }

  -- stamps or memory ran out in a command
  pub come-failed : (count : ℕ) (now : Stage V) (node : Node) (volumes : List V)
      → HasCome shown geometry answers history goes nodes count old now → count < length nodes
      → node ≡ get_or nodes count node
      → AreRunOn history goes (node.line ∷ []) now.volumes volumes
      → AreRunOn history goes (lines_of nodes) old.volumes volumes
  come-failed count now node volumes come near at grew =
      widened (count + 1) volumes (grew-one count now node volumes come near at grew)

  -- all ran
  pub come-all : (count : ℕ) (now : Stage V)
      → HasCome shown geometry answers history goes nodes count old now → length nodes ≤ count
      → NodesRun shown geometry answers nodes old now
  come-all count now come far = come.ran now
      (subst (λ (those : List Node). NodesRun shown geometry answers those now now)
      (sym (drop_of_length-le nodes far)) refl)

  pub grew-all : (count : ℕ) (now : Stage V)
      → HasCome shown geometry answers history goes nodes count old now
      → AreRunOn history goes (lines_of nodes) old.volumes now.volumes
  grew-all count now come = widened count now.volumes come.grew
