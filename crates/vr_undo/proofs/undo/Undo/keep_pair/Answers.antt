use Rattle.std.proofs.Common.{List, Bool, Option, ℕ, ◌≡◌, ◌∷◌, ◌++◌, [], cond, ap, ◌∙◌, true}
use Rattle.std.specs.Option.{option_copied}
use Rattle.vr_history.specs.State.{BeforeImage}
use Rattle.vr_undo.specs.Records.{before_of, befores_of, has_at, image_of, images_in, logged_of}
use Rattle.vr_undo.specs.Records.{with_record}
use Rattle.vr_undo.specs.declared.before.Before.{Before}
use Rattle.vr_undo.proofs.Recording.{befores-made, images-made, logged-made, on-more}
use Rattle.vr_undo.proofs.undo.Undo.keep_pair.Goals as goal

logged-is : (c : goal.After-add)
    → c.has-logged.result
    ≡ has_at c.args.unit c.args.part.0 c.args.place.now (images_in c.args.self.now)
logged-is c = c.has-logged.ensures

pub returns-clause-befores : goal.returns-clause-befores
returns-clause-befores c =
    let new : Before =
    before_of c.args.part c.args.place.now (option_copied c.pair_record-pair.result) in
    on-more c.add.result
    (λ (added : c.add.new.self ≡ with_record c.args.unit new c.has-logged.result true
    c.args.self.now). ap befores_of added
    ∙ befores-made c.args.unit new c.has-logged.result true c.args.self.now)
    c.add.ensures.kept

pub returns-clause-images : goal.returns-clause-images
returns-clause-images c =
    let unit = c.args.unit in
    let images : List BeforeImage = images_in c.args.self.now in
    let new : Before =
    before_of c.args.part c.args.place.now (option_copied c.pair_record-pair.result) in
    on-more c.add.result
    (λ (added : c.add.new.self ≡ with_record unit new c.has-logged.result true
    c.args.self.now). ap images_in added
    ∙ images-made unit new c.has-logged.result true c.args.self.now
    ∙ ap (λ (b : Bool). cond b images (images ++ image_of unit new ∷ [])) (logged-is c)
    ∙ ap (λ (old : Option (List ℕ)). cond (has_at unit c.args.part.0 c.args.place.now images)
    images (images ++ image_of unit (before_of c.args.part c.args.place.now old) ∷ []))
    c.pair_record-pair.ensures)
    c.add.ensures.kept

pub returns-clause-logged : goal.returns-clause-logged
returns-clause-logged c =
    let unit = c.args.unit in
    let new : Before =
    before_of c.args.part c.args.place.now (option_copied c.pair_record-pair.result) in
    on-more c.add.result
    (λ (added : c.add.new.self ≡ with_record unit new c.has-logged.result true
    c.args.self.now). ap logged_of added
    ∙ ap (λ (b : Bool). logged_of (with_record unit new b true c.args.self.now)) (logged-is c)
    ∙ logged-made unit new true c.args.self.now)
    c.add.ensures.kept
