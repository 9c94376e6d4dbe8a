-- How REPRO of Access Method Services Commands reads its source: in pieces of at most 16 records,
-- each of which begins at the last place of the one before. That it does is this project's own.
use Rattle.std.specs.Prelude.{◌≡◌, ℕ, ◌-◌, ◌||◌, ◌==◌, Bool, false, nat_lt, List, []}
use Rattle.std.specs.Prelude.{drop, is_some, length, map, min, slice_get, slice_set, take}
use Rattle.std.specs.Prelude.{take_while, Option, Some, None}
use Rattle.std.specs.Option.{option_map}
use Rattle.vr_amsparse.specs.declared.command.From.{From}
use Rattle.vr_amsparse.specs.declared.command.To.{To}
use Rattle.vr_trace.specs.Visitors.{Visited}
use Rattle.vr_ams_define.specs.Answers.{Answering}
use Rattle.vr_ams_define.specs.Answers.Exchange.{Reading}
use Rattle.vr_ams_define.specs.Failures.{fault_failure}
use Rattle.vr_ams_define.specs.declared.answer.ReadBack.{ReadBack}
use Rattle.vr_ams_define.specs.declared.answer.ReadBack.TheVariants as reads
use Rattle.vr_ams_print.specs.Printed.{first_place, skipped}
use Rattle.vr_ams_print.specs.Steps.{IsAskedAt, is_within, last_key, most_of}
use Rattle.vr_ams_print.specs.declared.source.FoundCluster.{FoundCluster}
use Rattle.vr_ams_repro.specs.Fed.{AreFed}
use Rattle.vr_ams_repro.specs.Progress.{ended_with}
use Rattle.vr_ams_repro.specs.Replies.{Replying}
use Rattle.vr_ams_repro.specs.declared.cursor.Cursor.{Cursor}
use Rattle.vr_ams_repro.specs.declared.load.Load.{Load}
use Rattle.vr_ams_repro.specs.declared.progress.Progress.{Progress}

-- how many records a piece may have
abbrev pub piece_size : ℕ
piece_size = 16

-- of records that are read, those that are copied: after so many that are passed over, up to TOKEY,
-- no more than these
abbrev pub chosen : ℕ → ℕ → Option (List ℕ) → List Visited → List Visited
chosen skip most last records = take most (take_while (is_within last) (drop skip records))

-- the next piece of the source, by what is read from its place on
abbrev pub piece_of : Cursor → Option (List ℕ) → List Visited → List Visited
piece_of cursor last records = chosen cursor.skip (min piece_size cursor.left) last records

-- before the first piece
abbrev pub first_cursor : From → To → Cursor
first_cursor from to = record {
  from = first_place from;
  skip = skipped from;
  left = most_of to;
  over = false;
}

-- the place of the last record, where there is one
abbrev pub place_of_last : List Visited → Option (List ℕ)
place_of_last piece =
    option_map (λ (one : Visited). one.0) (slice_get piece (length piece - 1))

-- after a piece: the last where it is short, or has what was left
abbrev pub after_piece : List Visited → Cursor → Cursor
after_piece piece cursor = record {
  from = place_of_last piece;
  skip = 1;
  left = cursor.left - length piece;
  over = nat_lt (length piece) piece_size || cursor.left - length piece == 0;
}

-- data cards have no places
abbrev pub of_card : List ℕ → Visited
of_card card = ([], card)

abbrev pub of_cards : From → To → List (List ℕ) → List Visited
of_cards from to cards = chosen (skipped from) (most_of to) (last_key to) (map of_card cards)

-- whether no other piece is read
abbrev pub is_over : Cursor → Progress → Bool
is_over cursor progress = cursor.over || is_some progress.fault

module _ {V : Type 0} (answers : Answering V) (replies : Replying V) (load : Load) where
  -- The volume of the target was filled with records; the others are as they were.
  pub record AreFedAt (records : List Visited) (progress : Progress) (old : List V)
      (next : Progress) (new : List V) : Type 0 where
    pub before : V
    pub before_is : slice_get old load.target.place ≡ Some before
    pub after : V
    pub fed : AreFed answers replies load progress before records next after
    pub others : new ≡ slice_set old load.target.place after

  -- A piece was read, and put into the target; where the device failed, that ends the command.
  abbrev pub IsPiecePut : ReadBack → List Visited → Cursor → Progress → List V → Cursor → Progress
      → List V → Type 0
  IsPiecePut reads.Done piece cursor progress old after next new =
      (after ≡ after_piece piece cursor) × AreFedAt piece progress old next new
  IsPiecePut (reads.Fault fault) piece cursor progress old after next new =
      (after ≡ cursor) × (next ≡ ended_with (fault_failure fault).fault progress) × (new ≡ old)

  pub record IsPiece (source : FoundCluster) (last : Option (List ℕ)) (cursor : Cursor)
      (progress : Progress) (old : List V) (after : Cursor) (next : Progress) (new : List V)
      : Type 0 where
    pub records : List Visited
    pub answer : ReadBack
    pub between : List V
    pub asked : IsAskedAt answers load.line source
        (Reading source.entry cursor.from records answer) old between
    pub put : IsPiecePut answer (piece_of cursor last records) cursor progress between after next
        new

  -- pieces, one after another
  pub data ArePieces (source : FoundCluster) (last : Option (List ℕ)) (cursor : Cursor)
      (progress : Progress) (old : List V) : Cursor → Progress → List V → Type 0 where
    NoPiece : ArePieces source last cursor progress old cursor progress old
    OnePiece : (at : Cursor) (so_far : Progress) (between : List V) (after : Cursor)
        (next : Progress) (new : List V)
        → ArePieces source last cursor progress old at so_far between
        → is_over at so_far ≡ false
        → IsPiece source last at so_far between after next new
        → ArePieces source last cursor progress old after next new
