-- A record set in an interval of the chain, or withdrawn; or none, where there is nothing to take
-- away.
use Rattle.std.proofs.Common.{◌≡◌, ◌≢◌, ◌<◌, ◌≤◌, ◌-◌, ◌+◌, ◌&&◌, ℕ, Bool, IsTrue, true, false, not}
use Rattle.std.proofs.Common.{List, [], ◌∷◌, length, Option, Some, None, refl, sym, ap, subst, ◌∙◌}
use Rattle.std.proofs.Common.{arith, eqb-true, eq-eqb, lt-ltb, true≢false}
use Rattle.std.specs.Prelude.{IfSome, bytes_eq, cond, nat_eq, nat_lt}
use Rattle.std.proofs.lemmas.Bool.{and_parts, ltb-true}
use Rattle.std.proofs.lemmas.Slice.Eq.{bytes_eq-Decides}
use Rattle.vr_types.specs.Blocks.{Keeps, Puts}
use Rattle.vr_types.specs.Content.{Item}
use Rattle.vr_types.specs.Fields.{four}
use Rattle.vr_types.specs.Image.{Block, Image, block_at}
use Rattle.vr_types.specs.Seen.{Left, Seen}
use Rattle.vr_types.proofs.CallerLemmas.{cur-elsewhere, touches-then}
use Rattle.vr_ci.specs.Interval as ci
use Rattle.vr_entries.specs.Entry.{LengthsAfter, MayTake}
use Rattle.vr_space.specs.Entries.{Tail, address_after, entry_item, item_length}
use Rattle.vr_space.specs.Keyed.{items_of}
use Rattle.vr_space.specs.Known.{Known}
use Rattle.vr_space.specs.Met.{Met}
use Rattle.vr_space.specs.Owners.{Owners}
use Rattle.vr_space.specs.Part.{AddsTo, CanSet, HasRoom, InPart, IsRecordOf, IsSound, Just, Nothing}
use Rattle.vr_space.specs.Part.{NumberedShape, SetsOne, item_of}
use Rattle.vr_space.specs.Room.{Lengths}
use Rattle.vr_space.specs.Rosters.{IsChained, IsNumbered, IsOf, Numbered, chain_of, used_of}
use Rattle.vr_space.specs.Numbered.{IsFilled, IsIntervalMet, IsNumberPlace, IsNumberedLength}
use Rattle.vr_space.specs.Numbered.{IsRestingArea, KnowsTail, at_in, chain_block, has_interval}
use Rattle.vr_space.specs.Numbered.{interval_of, item_by, item_in, item_read, items_at, left_in}
use Rattle.vr_space.specs.Numbered.{numbered_fits, takes}
use Rattle.vr_space.specs.Way.{found_on}
use Rattle.vr_space.proofs.CallerLemmas.{adds-weaken, due-at-then, due-keeps, keeps-adds}
use Rattle.vr_space.proofs.CallerLemmas.{keeps-rooms, nothing-then, rest-keeps, rest-sound}
use Rattle.vr_space.proofs.CallerLemmas.{room-keeps, set-takes}
use Rattle.vr_chained.specs.Chain.{ChainNow, IsChainOf}
use Rattle.vr_chained.specs.Filled.{IsItemSet, KeepsLengths, MayBeGiven, MayBeGivenBy}
use Rattle.vr_chained.specs.Setting.{IsReady, IsSetNow, MaySet, put_of, refreshed, tail_by}
use Rattle.vr_chained.specs.Setting.{tail_set}
use Rattle.vr_chained.proofs.Intervals.{intervals-apart}
use Rattle.vr_chained.proofs.PlaceBlock.{block-past, block-there, block_for, chain-known}
use Rattle.vr_chained.proofs.PlaceBlock.{known-chain, place-from, place-reads}
use Rattle.vr_chained.proofs.Reached.{way_at}
use Rattle.vr_chained.proofs.Resting.{resting-chain}
use Rattle.vr_chained.proofs.SetAdds.{set-adds, set-chain, set-due, set-one}
use Rattle.vr_chained.proofs.SetAdds.{set-rests, set-room, set-rooms}
use Rattle.vr_chained.proofs.SetTail.{past-last, set-tail}

-- where there is nothing, and nothing is given, nothing is left
left-nothing : (relative : Bool) → left_in relative None None ≡ None
left-nothing true = refl
left-nothing false = refl

-- a relative part has no tail
no-tail : (part : Numbered) (tail : Option Tail) (place : List ℕ) (item : Option (List ℕ))
    → part.relative ≡ true → tail ≡ None → tail_set part tail place item ≡ None
no-tail part tail place None relative none = none
no-tail part tail place (Some bytes) relative none =
    ap (λ (slots : Bool). tail_by
    (not slots && bytes_eq place (four (address_after part tail (length bytes)))) part tail place
    (length bytes)) relative
    ∙ none

module _ (chain : ChainNow) (kept : Lengths) (known : Known) (place : List ℕ)
    (item : Option (List ℕ)) (a : Seen) (ready : IsReady chain.part kept known place item a)
    (of : IsChainOf chain a.cur) (numbered : IsNumberPlace chain.part place) (left : Left a a.cur)
  where
    abbrev part : Numbered
    part = chain.part

    abbrev owner : Owners
    owner = ready.rests.0

    abbrev Own : ℕ → Type 0
    Own = IsRestingArea part owner a

    abbrev interval : ℕ
    interval = interval_of part place

    abbrev spot : ℕ
    spot = at_in part place

    sound : IsSound (NumberedShape part) owner a
    sound = rest-sound (NumberedShape part) owner a ready.rests.1

    is-numbered : IsNumbered part
    is-numbered = ready.rests.1.on.part_is

    image-chain : IsChained part (IsRestingArea part ready.rests.0 a) (IsFilled part) (IsOf a.cur)
    image-chain = resting-chain part owner a left ready.rests.1

    -- a record that is given fits
    fits : (bytes : List ℕ) → item ≡ Some bytes
        → IsTrue (numbered_fits part known.tail a.cur place (length bytes))
    fits bytes is = set-takes part owner known kept place bytes a sound left ready.room
        (subst (λ (given : Option (List ℕ)).
        CanSet (NumberedShape part) known a.cur kept place given) is ready.can)

    -- ---- where nothing is there

    -- nothing is to be set, and nothing is
    pub nothing-set : item ≡ None → item_of (NumberedShape part) a.cur place ≡ None
        → IsSetNow chain.part known [] place item a a
    nothing-set none gone = record {
      set = record {
        here = gone ∙ sym (left-nothing part.relative)
            ∙ ap (λ (now : Option Item). left_in part.relative now None) (sym gone)
            ∙ ap (left_in part.relative (item_of (NumberedShape part) a.cur place)) (sym none);
        others = λ q apart. refl;
      };
      due = λ listed q due either. due;
      none = λ empty. none;
      rests = λ owners rests. rests;
      tail = subst (λ (given : Option (List ℕ)). KnowsTail part.relative part a.cur
          (tail_set part known.tail place given)) (sym none) ready.tail;
    }

    past-none : chain.used ≤ interval_of part place → item ≡ None
    past-none past = by_item item refl
      where
        by_item : (given : Option (List ℕ)) → item ≡ given → given ≡ None
        by_item None is = refl
        by_item (Some bytes) is =
            let there = and_parts (has_interval part a.cur place) _ (fits bytes is) in
            absurd (omega (
              arith,
              ltb-true (interval_of part place) (used_of part a.cur) there.0,
              of.used,
              past,
            ))

    -- where the interval isn't there
    pub past-set : chain.used ≤ interval_of part place → IsSetNow chain.part known [] place item a a
    past-set past =
        let none = block-past part Own (IsFilled part) a.cur image-chain (known-chain chain) place
        (chain-known chain a.cur of) past in
        nothing-set (past-none past)
        (place-reads part a.cur place
        ∙ ap (λ (block : Option ℕ). found_on a.cur (way_at (item_read part spot) block)) none)

    -- ---- where it is

    -- Block n is that of the place's interval.
    pub record IsBlockOf (n : ℕ) : Type 0 where
      pub below : interval_of chain.part place < used_of chain.part a.cur
      pub is : n ≡ chain_block chain.part (chain_of chain.part a.cur) (interval_of chain.part place)
      pub at : block_for chain.part a.cur place ≡ Some n

    block-of : (n : ℕ) → interval_of part place < chain.used
        → n ≡ chain_block part chain.areas (interval_of part place) → IsBlockOf n
    block-of n below is = record {
      below = omega (arith, below, of.used);
      is = is ∙ ap (λ (areas : List ℕ). chain_block part areas interval) of.areas;
      at = block-there part Own (IsFilled part) a.cur image-chain (known-chain chain) place
          is-numbered (chain-known chain a.cur of) numbered below
          ∙ ap (λ (m : ℕ). Some m) (sym is);
    }

    module _ (n : ℕ) (block : IsBlockOf n) where
      -- what was met of it is what it has
      met-is : (met : Met) → met.place ≡ place → IsIntervalMet part a.cur met
          → block_at a.cur n ≡ met.block
      met-is met at has =
          let same : interval_of part met.place ≡ interval = ap (interval_of part) at in
          let it = has (lt-ltb (interval_of part met.place) (used_of part a.cur)
          (omega (arith, block.below, same))) in
          ap (block_at a.cur) (block.is
          ∙ sym (ap (chain_block part (chain_of part a.cur)) same) ∙ sym it.0) ∙ it.1

      -- it is one of the part's intervals
      block-filled : IsFilled part (block_at a.cur n)
      block-filled =
          (place-from part Own (IsFilled part) a.cur image-chain place n block.at).has

      block-items : items_at part a.cur interval ≡ items_of (block_at a.cur n)
      block-items = ap (λ (m : ℕ). items_of (block_at a.cur m)) (sym block.is)

      -- what the place has is in it
      read-here : item_of (NumberedShape part) a.cur place ≡ item_in part spot (block_at a.cur n)
      read-here = place-reads part a.cur place
          ∙ ap (λ (m : Option ℕ). found_on a.cur (way_at (item_read part spot) m)) block.at

      -- a record that is given there is taken
      taken-here : (bytes : List ℕ) → item ≡ Some bytes → IsTrue (takes part.relative
          (item_in part spot (block_at a.cur n)) (length bytes)
          (bytes_eq place (four (address_after part known.tail (length bytes)))))
      taken-here bytes is = subst (λ (found : Option Item). IsTrue (takes part.relative found
          (length bytes) (bytes_eq place (four (address_after part known.tail (length bytes))))))
          read-here (and_parts (has_interval part a.cur place) _ (fits bytes is)).1

      valid-length : (bytes : List ℕ) → item ≡ Some bytes
          → IsNumberedLength part.relative part.most (length bytes)
      valid-length bytes is = (subst (λ (given : Option (List ℕ)).
          IfSome given (IsRecordOf (NumberedShape part) place)) is ready.valid).whole

      -- what an entry-sequenced part takes
      takes-entry : part.relative ≡ false → (bytes : List ℕ) → item ≡ Some bytes
          → IsTrue (takes false (entry_item spot (items_of (block_at a.cur n))) (length bytes)
          (bytes_eq place (four (address_after part known.tail (length bytes)))))
      takes-entry entries bytes is = subst (λ (relative : Bool). IsTrue (takes relative
          (item_by relative spot (items_of (block_at a.cur n))) (length bytes)
          (bytes_eq place (four (address_after part known.tail (length bytes))))))
          entries (taken-here bytes is)

      entry-length : part.relative ≡ false → (bytes : List ℕ) → item ≡ Some bytes
          → IsNumberedLength false part.most (length bytes)
      entry-length entries bytes is =
          subst (λ (relative : Bool). IsNumberedLength relative part.most (length bytes)) entries
          (valid-length bytes is)

      may-take : part.relative ≡ false → (bytes : List ℕ) → item ≡ Some bytes
          → MayTake part (items_of (block_at a.cur n)) spot (length bytes)
          (entry_item spot (items_of (block_at a.cur n)))
      may-take entries bytes is = by_found (entry_item spot (items_of (block_at a.cur n)))
          (takes-entry entries bytes is)
        where
          next : Bool
          next = bytes_eq place (four (address_after part known.tail (length bytes)))

          by_found : (found : Option Item) → IsTrue (takes false found (length bytes) next)
              → MayTake part (items_of (block_at a.cur n)) spot (length bytes) found
          by_found (Some one) same = eqb-true (item_length one) (length bytes) same
          by_found None is-next =
              let past = past-last part Own a.cur image-chain is-numbered entries known.tail
              (subst (λ (relative : Bool). KnowsTail relative part a.cur known.tail) entries
              ready.tail) place (length bytes) (entry-length entries bytes is).1
              ((bytes_eq-Decides place (four (address_after part known.tail (length bytes)))).0
              is-next) block.below in (
                subst (λ (items : List ci.Item). spot ≡ Rattle.vr_space.specs.Entries.bytes_in items)
                    block-items past.bytes,
                subst (λ (items : List ci.Item). ci.room items + (length bytes + 3)
                    ≤ part.geometry.size - 4) block-items past.room,
              )

      -- so it may be given
      may-be-given : MayBeGiven part spot item (block_at a.cur n)
      may-be-given = by_kind part.relative refl item refl
        where
          by_kind : (relative : Bool) → part.relative ≡ relative → (given : Option (List ℕ))
              → item ≡ given → MayBeGivenBy relative part spot given (block_at a.cur n)
          by_kind true slots None is = tt
          by_kind true slots (Some bytes) is =
              subst (λ (relative : Bool). IsNumberedLength relative part.most (length bytes)) slots
              (valid-length bytes is)
          by_kind false entries None is = tt
          by_kind false entries (Some bytes) is =
              let long = entry-length entries bytes is in
              (long.0, long.1, may-take entries bytes is)

    -- What is said of the block that was met, at the place where it is answered, where this may be
    -- given there, is so of the block of the place.
    pub said-here : (Says : Numbered → Block → ℕ → Type 0) (n : ℕ) (layout : Numbered)
        (block : Block) (at : ℕ) (met : Met) → interval_of part place < chain.used
        → n ≡ chain_block part chain.areas (interval_of part place) → layout ≡ chain.part
        → met.place ≡ place → IsIntervalMet part a.cur met → block ≡ met.block
        → at ≡ at_in part place
        → (IsFilled layout block → MayBeGiven layout at item block → Says layout block at)
        → Says part (block_at a.cur n) (at_in part place)
    said-here Says n layout block at met below is same there has bytes here says =
        let of-place = block-of n below is in
        let read : block_at a.cur n ≡ block = met-is n of-place met there has ∙ sym bytes in
        subst (Stated part (block_at a.cur n)) here
        (subst (λ (b : Block). Stated part b at) (sym read)
        (subst (λ (p : Numbered). Stated p block at) same says))
        (block-filled n of-place) (may-be-given n of-place)
      where
        Stated : Numbered → Block → ℕ → Type 0
        Stated layout block at = IsFilled layout block → MayBeGiven layout at item block
            → Says layout block at

    -- What is written in it: what is given, at the place.
    pub record IsWritten (n : ℕ) (out : Block) : Type 0 where
      pub block : IsBlockOf n
      pub set : IsItemSet chain.part (at_in chain.part place) item (block_at a.cur n) out

    pub written-set : (n : ℕ) (out : Block) (layout : Numbered) (block : Block) (at : ℕ) (met : Met)
        → interval_of part place < chain.used
        → n ≡ chain_block part chain.areas (interval_of part place) → layout ≡ chain.part
        → met.place ≡ place → IsIntervalMet part a.cur met → block ≡ met.block
        → at ≡ at_in part place
        → (IsFilled layout block → MayBeGiven layout at item block
        → IsItemSet layout at item block out)
        → IsWritten n out
    written-set n out layout block at met below is same there has bytes here says = record {
      block = block-of n below is;
      set = said-here (λ layout block at. IsItemSet layout at item block out) n layout block at met
          below is same there has bytes here says;
    }

    -- Or there is nothing to take away.
    pub unwritten-set : (n : ℕ) (layout : Numbered) (block : Block) (at : ℕ) (met : Met)
        → interval_of part place < chain.used
        → n ≡ chain_block part chain.areas (interval_of part place) → layout ≡ chain.part
        → met.place ≡ place → IsIntervalMet part a.cur met → block ≡ met.block
        → at ≡ at_in part place
        → (IsFilled layout block → MayBeGiven layout at item block
        → (item ≡ None) × (item_in layout at block ≡ None))
        → IsSetNow chain.part known [] place item a a
    unwritten-set n layout block at met below is same there has bytes here says =
        let none = said-here (λ layout block at. (item ≡ None) × (item_in layout at block ≡ None)) n
        layout block at met below is same there has bytes here says in
        nothing-set none.0 (read-here n (block-of n below is) ∙ none.1)

    module _ (n : ℕ) (bytes : Block) (wrote : IsWritten n bytes) (tells : Bool)
        (told : IsTrue tells) (b : Seen) (call : Puts tells n bytes a b) where
      abbrev at : block_for part a.cur place ≡ Some n
      at = wrote.block.at

      abbrev set : IsItemSet part (at_in part place) item (block_at a.cur n) bytes
      set = wrote.set

      -- whether the put failed or not
      pub may-set : MaySet chain.part kept place item a b
      may-set = record {
        adds = λ owners rests.
            set-adds part tells told a b n bytes call left place item at set owners rests;
        room = set-room part tells told a b n bytes call left place item at set owner
            ready.rests.1 kept ready.room;
        rooms = λ owners rests. set-rooms part tells told a b n bytes call left place item at set
            owners rests kept ready.room;
      }

      -- the chain is as it was
      same-chain : (chain_of part b.cur ≡ chain_of part a.cur)
          × (used_of part b.cur ≡ used_of part a.cur)
      same-chain = set-chain part tells told a b n bytes call left place item at set owner
          ready.rests.1

      pub chain-set : IsChainOf chain b.cur
      chain-set = record {
        areas = of.areas ∙ sym same-chain.0;
        used = of.used ∙ sym same-chain.1;
      }

      module _ (now : block_at b.cur n ≡ bytes) where
        -- ---- where the last item ends

        items-now : items_at part b.cur interval ≡ items_of bytes
        items-now =
            ap (λ (areas : List ℕ). items_of (block_at b.cur (chain_block part areas interval)))
            same-chain.0
            ∙ ap (λ (m : ℕ). items_of (block_at b.cur m)) (sym wrote.block.is)
            ∙ ap items_of now

        items-elsewhere : (i : ℕ) → i < used_of part a.cur → i ≢ interval
            → items_at part b.cur i ≡ items_at part a.cur i
        items-elsewhere i below apart =
            ap (λ (areas : List ℕ). items_of (block_at b.cur (chain_block part areas i))) same-chain.0
            ∙ ap items_of (cur-elsewhere tells a b (chain_block part (chain_of part a.cur) i) n bytes
            told (λ same. apart (intervals-apart part Own (IsFilled part) a.cur image-chain
            is-numbered i interval below wrote.block.below (same ∙ wrote.block.is))) call)

        lengths-now : part.relative ≡ false → LengthsAfter (entry_item spot
            (items_at part a.cur interval)) spot item (items_at part a.cur interval)
            (items_at part b.cur interval)
        lengths-now entries =
            subst (λ (old : List ci.Item). LengthsAfter (entry_item spot old) spot item old
            (items_at part b.cur interval)) (sym (block-items n wrote.block))
            (subst (LengthsAfter (entry_item spot (items_of (block_at a.cur n))) spot item
            (items_of (block_at a.cur n))) (sym items-now)
            (subst (λ (relative : Bool). KeepsLengths relative spot item (block_at a.cur n) bytes)
            entries set.lengths))

        follows-now : part.relative ≡ false → (given : Option (List ℕ)) → item ≡ given
            → IfSome given (λ (one : List ℕ). (length one ≤ part.most)
            × IsTrue (takes false (entry_item spot (items_at part a.cur interval)) (length one)
            (bytes_eq place (four (address_after part known.tail (length one))))))
        follows-now entries None is = tt
        follows-now entries (Some one) is = (
          (entry-length n wrote.block entries one is).1,
          subst (λ (items : List ci.Item). IsTrue (takes false (entry_item spot items) (length one)
              (bytes_eq place (four (address_after part known.tail (length one))))))
              (sym (block-items n wrote.block)) (takes-entry n wrote.block entries one is),
        )

        knows-tail : KnowsTail part.relative part b.cur (tail_set part known.tail place item)
        knows-tail = by_kind part.relative refl ready.tail
          where
            by_kind : (relative : Bool) → part.relative ≡ relative
                → KnowsTail relative part a.cur known.tail
                → KnowsTail relative part b.cur (tail_set part known.tail place item)
            by_kind true slots none = no-tail part known.tail place item slots none
            by_kind false entries is =
                set-tail part Own a.cur image-chain is-numbered entries b.cur place item same-chain.1
                wrote.block.below items-elsewhere (lengths-now entries) known.tail is
                (follows-now entries item refl)

        -- once it is put
        pub done-set : IsSetNow chain.part known (n ∷ []) place item a b
        done-set = record {
          set = set-one part tells told a b n bytes call left place item at set owner
              ready.rests.1 now;
          due = set-due part tells told a b n bytes call left place item at set owner
              ready.rests.1 now;
          none = λ empty. absurd cc;
          rests = λ owners rests.
              set-rests part tells told a b n bytes call left place item at set owners rests;
          tail = knows-tail;
        }

        -- what was met is as it is now
        pub refresh-met : (one : Met) → IsIntervalMet chain.part a.cur one
            → IsIntervalMet chain.part b.cur (refreshed n bytes one)
        refresh-met one has fits =
            let before : IsTrue (has_interval part a.cur one.place) =
            subst (λ (used : ℕ). IsTrue (nat_lt (interval_of part one.place) used)) same-chain.1
            fits in
            let it = has before in (
              it.0
                  ∙ ap (λ (areas : List ℕ). chain_block part areas (interval_of part one.place))
                  (sym same-chain.0),
              by_number (nat_eq one.number n) refl it.1,
            )
          where
            by_number : (test : Bool) → nat_eq one.number n ≡ test
                → block_at a.cur one.number ≡ one.block
                → block_at b.cur one.number ≡ cond test bytes one.block
            by_number true is old = ap (block_at b.cur) (eqb-true one.number n is) ∙ now
            by_number false is old = cur-elsewhere tells a b one.number n bytes told
                (λ other. true≢false (sym (eq-eqb one.number n other) ∙ is)) call ∙ old

-- ---- after a call that puts nothing

module _ (part : Numbered) (kept : Lengths) (known : Known) (place : List ℕ)
    (item : Option (List ℕ)) (tells : Bool) (told : IsTrue tells) (a m : Seen)
    (call : Keeps tells a m) (ready : IsReady part kept known place item a) where
  -- what is left at the place, by what an image has there
  abbrev left-at : Image → Option Item
  left-at image = left_in part.relative (item_of (NumberedShape part) image place) item

  at-rest : IsSound (NumberedShape part) ready.rests.0 a
  at-rest = rest-sound (NumberedShape part) ready.rests.0 a ready.rests.1

  -- it may be set as before
  pub ready-keeps : IsReady part kept known place item m
  ready-keeps = record {
    rests = (
      ready.rests.0,
      rest-keeps tells told (NumberedShape part) ready.rests.0 a m call ready.rests.1,
    );
    room = room-keeps tells told (NumberedShape part) ready.rests.0 kept a m call at-rest
        ready.room;
    can = subst (λ (image : Image). CanSet (NumberedShape part) known image kept place item)
        (sym (call.content told)) ready.can;
    valid = ready.valid;
    tail = subst (λ (image : Image). KnowsTail part.relative part image known.tail)
        (sym (call.content told)) ready.tail;
  }

  -- where nothing more is done
  pub may-keeps : MaySet part kept place item a m
  may-keeps = record {
    adds = λ owners rests. adds-weaken (NumberedShape part) owners Nothing
        (Just place (left-at a.cur)) a m
        (keeps-adds tells told (NumberedShape part) owners a m call
        (rest-sound (NumberedShape part) owners a rests)) (λ p i none. absurd none);
    room = room-keeps tells told (NumberedShape part) ready.rests.0 kept a m call at-rest
        ready.room;
    rooms = λ owners rests. keeps-rooms tells told (NumberedShape part) owners kept a m call
        (rest-sound (NumberedShape part) owners a rests) ready.room;
  }

  -- and where it is set then
  pub may-then : (b : Seen) → MaySet part kept place item m b → MaySet part kept place item a b
  may-then b may = record {
    adds = λ owners rests. nothing-then (NumberedShape part) owners
        (Just place (left-at a.cur)) a m b
        (keeps-adds tells told (NumberedShape part) owners a m call
        (rest-sound (NumberedShape part) owners a rests))
        (subst (λ (image : Image). AddsTo (NumberedShape part) owners (Just place (left-at image)) m
        b) (call.content told)
        (may.adds owners (rest-keeps tells told (NumberedShape part) owners a m call rests)));
    room = may.room;
    rooms = λ owners rests. touches-then (InPart (NumberedShape part) owners)
        (HasRoom (NumberedShape part) kept) a m b
        (keeps-rooms tells told (NumberedShape part) owners kept a m call
        (rest-sound (NumberedShape part) owners a rests) ready.room)
        (may.rooms owners (rest-keeps tells told (NumberedShape part) owners a m call rests));
  }

  pub done-then : (b : Seen) (put : List ℕ) → IsSetNow part known put place item m b
      → IsSetNow part known put place item a b
  done-then b put done = record {
    set = subst (λ (image : Image). SetsOne (NumberedShape part) place item image b.cur)
        (call.content told) done.set;
    due = due-at-then (NumberedShape part) place put a m b
        (due-keeps tells told (NumberedShape part) ready.rests.0 a m call at-rest) done.due;
    none = done.none;
    rests = λ owners rests.
        done.rests owners (rest-keeps tells told (NumberedShape part) owners a m call rests);
    tail = done.tail;
  }

-- the same chain
pub chain-keeps : (chain : ChainNow) (tells : Bool) → IsTrue tells → (a m : Seen)
    → Keeps tells a m → IsChainOf chain a.cur → IsChainOf chain m.cur
chain-keeps chain tells told a m call of =
    subst (IsChainOf chain) (sym (call.content told)) of

-- What is kept of the last item's end stays known, where it is changed with a block that is put.
pub tail-kept : (part : Numbered) (image : Image) (tail after : Option Tail) (place : List ℕ)
    (item : Option (List ℕ)) (put : Option ℕ)
    → (put ≢ None → after ≡ tail_set part tail place item) → (put ≡ None → after ≡ tail)
    → (put_of put ≡ [] → item ≡ None)
    → KnowsTail part.relative part image (tail_set part tail place item)
    → KnowsTail part.relative part image after
tail-kept part image tail after place item (Some n) set stays none knows =
    subst (KnowsTail part.relative part image) (sym (set (λ is. absurd cc))) knows
tail-kept part image tail after place item None set stays none knows =
    subst (KnowsTail part.relative part image)
    (ap (tail_set part tail place) (none refl) ∙ sym (stays refl)) knows
