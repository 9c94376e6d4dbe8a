-- An area more where one is free: it is claimed then; and where none is, nothing is done.
use Rattle.std.proofs.Common.{◌≡◌, ◌≢◌, ℕ, Bool, IsTrue, List, Option, Some, None, refl, sym, ap}
use Rattle.std.proofs.Common.{◌∙◌, get_or, get_or-set_same, true≢false}
use Rattle.std.specs.Prelude.{slice_set}
use Rattle.std.specs.Option.{is_none}
use Rattle.std.proofs.lemmas.List.Quantifiers.{position-Some}
use Rattle.vr_types.specs.Image.{Image}
use Rattle.vr_types.specs.Seen.{Left, Seen}
use Rattle.vr_types.specs.Space.{least_free}
use Rattle.vr_types.specs.declared.unit.PartNo.{PartNo}
use Rattle.vr_types.proofs.CallerLemmas.{keeps-none}
use Rattle.vr_space.specs.Part.{NumberedShape}
use Rattle.vr_space.specs.Room.{Lengths}
use Rattle.vr_space.specs.Rosters.{Numbered}
use Rattle.vr_space.specs.Numbered.{KeepsNumbered}
use Rattle.vr_space.proofs.CallerLemmas.{keeps-adds, keeps-rooms, rest-grows, rest-sound}
use Rattle.vr_chained.specs.Extended.{IsExtended, MayExtend}

-- ---- where nothing is done

pub nothing-may : (part : Numbered) (areas : List (Option PartNo)) (kept : Lengths) (tells : Bool)
    → IsTrue tells → (a : Seen)
    → (IsTrue tells → (image : Image) → a.images a.moment image → Left a image)
    → KeepsNumbered part kept a.may → MayExtend part areas kept a a
nothing-may part areas kept tells told a within keeps =
    let still = keeps-none tells a within in
    record {
      adds = λ owners grown grows rests. keeps-adds tells told (NumberedShape part) grown a a still
          (rest-sound (NumberedShape part) grown a
          (rest-grows owners grown a grows.kept (NumberedShape part) rests));
      same = λ place. refl;
      room = keeps;
      rooms = λ owners grown grows rests. keeps-rooms tells told (NumberedShape part) grown kept a a
          still
          (rest-sound (NumberedShape part) grown a
          (rest-grows owners grown a grows.kept (NumberedShape part) rests)) keeps;
    }

pub nothing-done : (part : Numbered) (areas : List (Option PartNo)) (a : Seen)
    → IsExtended part areas areas a a
nothing-done part areas a = record {
  due = λ listed place due within. due;
  rests = λ owners grown grows rests.
      rest-grows owners grown a grows.kept (NumberedShape part) rests;
  stays = λ owners same rests. rests;
  tail = λ tail knows. knows;
}

-- ---- where one is claimed

-- a free area that is given a part has it
pub claim-differs : (areas after : List (Option PartNo)) (area : ℕ) (part : PartNo)
    → least_free areas ≡ Some area → after ≡ slice_set areas area (Some part) → after ≢ areas
claim-differs areas after area part least claimed same =
    let at = position-Some is_none areas area None least in
    let has : get_or areas area None ≡ Some part =
    ap (λ (owners : List (Option PartNo)). get_or owners area None) (sym same ∙ claimed)
    ∙ get_or-set_same areas area (Some part) None at.0 in
    true≢false (sym at.1 ∙ ap is_none has)
