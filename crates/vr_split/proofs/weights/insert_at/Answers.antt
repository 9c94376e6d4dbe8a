use Rattle.std.proofs.Common.{◌≡◌, ◌++◌, ◌∷◌, ap, ◌∙◌, take, drop}
use Rattle.std.proofs.lemmas.List.Elements.{All-get_or}
use Rattle.vr_split.specs.declared.weights.Entry.{Entry}
use Rattle.vr_split.specs.Entries.{lengths_seen}
use Rattle.vr_split.proofs.EntryLemmas.{inserted, inserted_seen, inserted_bytes}
use Rattle.vr_split.proofs.weights.insert_at.Goals as goal

pub returns-clause-inserted : goal.returns-clause-inserted
returns-clause-inserted c =
    let xs = c.args.entries.now in
    let before = lengths_seen (take c.args.used xs) in
    inserted_seen xs _ c.args.used c.args.at c.write.new.entry c.requires.at
    (inserted xs c.rotate_right.new.self c.args.used c.args.at c.write.new.entry c.requires.at
    c.requires.free c.rotate_right.ensures.after)
    ∙ ap (λ (e : Entry). take c.args.at before
    ++ (e.place.place, e.longest) ∷ drop c.args.at before) c.write.ensures

pub returns-clause-room : goal.returns-clause-room
returns-clause-room c bytes have =
    inserted_bytes bytes c.args.entries.now c.rotate_right.new.self c.args.used c.args.at
    c.write.new.entry have
    (ap (λ (e : Entry). e.place.room) c.write.ensures
    ∙ All-get_or (λ (e : Entry). e.place.room ≡ bytes) c.args.entries.now c.args.used
    c.index-entries-used.result c.requires.free have) c.rotate_right.ensures.after
