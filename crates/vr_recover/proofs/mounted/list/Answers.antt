use Rattle.std.proofs.Common.{List, ◌∙◌, subst, sym}
use Rattle.std.specs.Prelude.{All}
use Rattle.std.proofs.lemmas.List.Elements.{All-nil}
use Rattle.vr_space.specs.Met.{IsChainMet, Met}
use Rattle.vr_recover.proofs.mounted.list.Goals as goal

pub records_of_part-requires-clause-places : goal.records_of_part-requires-clause-places
records_of_part-requires-clause-places g c place long = long ∙ sym c.requires.key

pub records_of_part-requires-clause-knows : goal.records_of_part-requires-clause-knows
records_of_part-requires-clause-knows g c told =
    let part = c.args.part.now.part in
    let cur = (g.B.Blocks.seen c.args.blocks.now).cur in
    record {
      no_split = c.requires.split;
      no_move = c.requires.moves;
      met = (
        c.requires.knows told,
        subst (λ (met : List Met). All (IsChainMet part cur) met) (sym c.requires.met)
            (All-nil (IsChainMet part cur)),
        c.requires.counted told,
      );
    }
