use Rattle.std.proofs.Common.{◌≡◌, ◌≢◌, ◌∙◌, [], All, IsTrue, List, ℕ, None, Option, ap, refl}
use Rattle.std.proofs.Common.{rules, sym, subst}
use Rattle.std.specs.Option.{option_map}
use Rattle.std.specs.Prelude.{Contains, vec_len}
use Rattle.vr_types.specs.Seen.{Seen}
use Rattle.vr_types.specs.declared.fault.DeviceFault.TheVariants.{Write}
use Rattle.vr_space.specs.Entries.{Tail as TailOf}
use Rattle.vr_space.specs.Known.{Known}
use Rattle.vr_space.specs.Part.{InHeld, NumberedShape, given, part_no}
use Rattle.vr_space.specs.Room.{Lengths}
use Rattle.vr_space.specs.Numbered.{IsIntervalMet}
use Rattle.vr_chained.specs.Chain.{ChainNow, IsChainOf}
use Rattle.vr_chained.specs.Met.{HasMetPlace, mets_in}
use Rattle.vr_chained.specs.Owned.{OwnedChain, known_of}
use Rattle.vr_chained.specs.Tail.{tail_of}
use Rattle.vr_chained.specs.Setting.{IsReady, IsSetNow, MaySet, put_of, tail_set}
use Rattle.vr_chained.proofs.Owning.{ready-renamed, renamed}
use Rattle.vr_chained.proofs.Setting.{tail-kept}
use Rattle.vr_chained.proofs.chained.ChainedPart.set.Given as over
use Rattle.vr_chained.proofs.chained.ChainedPart.set.Goals as goal
use Rattle.vr_chained.proofs.chained.ChainedPart.set.Goals.{After-from_residual, After-note_put}

-- ---- where it failed

failed : (g : over.Over) (c : After-from_residual g) → IsTrue g.B.Blocks.tells
    → MaySet c.args.self.now.chain.part
    (g.K.Kept.kept c.args._kept.now (part_no (NumberedShape c.args.self.now.chain.part)))
    c.args.place.now (given c.args.bytes) (g.B.Blocks.seen c.args.blocks.now)
    (g.B.Blocks.seen c.set_in.new.blocks)
failed g c told =
    let now : OwnedChain = c.args.self.now in
    let kept : Lengths =
    g.K.Kept.kept c.args._kept.now (part_no (NumberedShape now.chain.part)) in
    let a : Seen = g.B.Blocks.seen c.args.blocks.now in
    ready-renamed c.self.inside.chain now.chain c.as_slice.result.now c.args.place.now
    (ap (λ (o : OwnedChain). o.chain) c.self.view_is) c.as_slice.ensures
    (λ chain place. MaySet chain.part kept place (given c.args.bytes) a
    (g.B.Blocks.seen c.set_in.new.blocks)) (given c.args.bytes) a kept (known_of now)
    (record {
      rests = c.requires.rests told;
      room = c.requires.room told;
      can = c.requires.can told;
      valid = c.requires.record;
      tail = (c.requires.knows told).blocks.tail;
    })
    (c.set_in.ensures.may told kept (known_of now))

pub returns-in_err-put-clause-adds : goal.returns-in_err-put-clause-adds
returns-in_err-put-clause-adds g c told = (failed g c told).adds

pub returns-in_err-put-clause-room : goal.returns-in_err-put-clause-room
returns-in_err-put-clause-room g c told = (failed g c told).room

pub returns-in_err-put-clause-rooms : goal.returns-in_err-put-clause-rooms
returns-in_err-put-clause-rooms g c told = (failed g c told).rooms

-- ---- where it is set

module _ (g : over.Over) (c : After-note_put g) where
  abbrev now : OwnedChain
  now = c.args.self.now

  abbrev kept : Lengths
  kept = g.K.Kept.kept c.args._kept.now (part_no (NumberedShape now.chain.part))

  abbrev old : Seen
  old = g.B.Blocks.seen c.args.blocks.now

  abbrev new : Seen
  new = g.B.Blocks.seen c.set_in.new.blocks

  same : c.self.inside.chain ≡ now.chain
  same = ap (λ (o : OwnedChain). o.chain) c.self.view_is

  -- what follows by the names of the call
  follows : IsTrue g.B.Blocks.tells → (F : ChainNow → List ℕ → Type 0)
      → (IsReady c.self.inside.chain.part kept (known_of now) c.as_slice.result.now
      (given c.args.bytes) old → F c.self.inside.chain c.as_slice.result.now)
      → F now.chain c.args.place.now
  follows told F is =
      ready-renamed c.self.inside.chain now.chain c.as_slice.result.now c.args.place.now same
      c.as_slice.ensures F (given c.args.bytes) old kept (known_of now)
      (record {
        rests = c.requires.rests told;
        room = c.requires.room told;
        can = c.requires.can told;
        valid = c.requires.record;
        tail = (c.requires.knows told).blocks.tail;
      }) is

  may : IsTrue g.B.Blocks.tells
      → MaySet now.chain.part kept c.args.place.now (given c.args.bytes) old new
  may told =
      follows told (λ chain place. MaySet chain.part kept place (given c.args.bytes) old new)
      (c.set_in.ensures.may told kept (known_of now))

  done : IsTrue g.B.Blocks.tells
      → IsSetNow now.chain.part (known_of now) c.note_put.new.noted.items c.args.place.now
      (given c.args.bytes) old new
  done told =
      subst (λ (put : List ℕ). IsSetNow now.chain.part (known_of now) put c.args.place.now
      (given c.args.bytes) old new) (sym c.note_put.ensures.put)
      (follows told (λ chain place. IsSetNow chain.part (known_of now) (put_of c.in_ok-put.put)
      place (given c.args.bytes) old new) (c.in_ok-put.ensures.done told kept (known_of now)))

  chained : IsTrue g.B.Blocks.tells → IsChainOf now.chain new.cur
  chained told =
      follows told (λ chain place. IsChainOf chain new.cur)
      (c.in_ok-put.ensures.chain told kept (known_of now))

  are-met : IsTrue g.B.Blocks.tells
      → All (IsIntervalMet now.chain.part new.cur) (mets_in c.set_in.new.mets)
  are-met told =
      follows told
      (λ chain place. All (IsIntervalMet chain.part new.cur) (mets_in c.set_in.new.mets))
      (c.in_ok-put.ensures.met told kept (known_of now))

pub returns-clause-adds : goal.returns-clause-adds
returns-clause-adds g c told = (may g c told).adds

pub returns-clause-set : goal.returns-clause-set
returns-clause-set g c told = (done g c told).set

pub returns-clause-due : goal.returns-clause-due
returns-clause-due g c told = (done g c told).due

pub returns-clause-stages : goal.returns-clause-stages
returns-clause-stages g c told place = refl

pub returns-clause-put : goal.returns-clause-put
returns-clause-put g c =
    subst (All (InHeld (NumberedShape c.args.self.now.chain.part) (known g c)))
    (sym c.note_put.ensures.put)
    (subst (λ (chain : ChainNow). All (InHeld (NumberedShape chain.part) (known g c))
    (put_of c.in_ok-put.put)) (same g c) (c.in_ok-put.ensures.put (known g c) refl))
  where
    known : (g : over.Over) → After-note_put g → Known
    known g c = known_of (record {
      chain = c.self.inside.chain;
      tail = option_map tail_of c.tail_after-self-inside.result;
      met = mets_in c.set_in.new.mets;
      most = vec_len c.set_in.new.mets.slots;
      put = c.note_put.new.noted.items;
    })

pub returns-clause-met : goal.returns-clause-met
returns-clause-met g c has place met =
    let inside : (p : List ℕ) → HasMetPlace c.args.self.now.met p
    → HasMetPlace (mets_in c.self.inside.mets) p =
    λ (p : List ℕ) (is : HasMetPlace c.args.self.now.met p).
    subst (λ (o : OwnedChain). HasMetPlace o.met p) (sym c.self.view_is) is in
    subst (λ (places : List (List ℕ)). Contains places place)
    (sym (c.in_ok-put.ensures.places
    (subst (HasMetPlace (mets_in c.self.inside.mets)) (sym c.as_slice.ensures)
    (inside c.args.place.now has))))
    (inside place met)

pub returns-clause-rests : goal.returns-clause-rests
returns-clause-rests g c told = (done g c told).rests

pub returns-clause-room : goal.returns-clause-room
returns-clause-room g c told = (may g c told).room

pub returns-clause-rooms : goal.returns-clause-rooms
returns-clause-rooms g c told = (may g c told).rooms

pub returns-clause-knows : goal.returns-clause-knows
returns-clause-knows g c told =
    let chain : ChainNow = c.args.self.now.chain in
    let item = given c.args.bytes in
    let of : IsChainOf chain (new g c).cur = chained g c told in
    let after = option_map tail_of c.tail_after-self-inside.result in
    let before : option_map tail_of c.self.inside.tail ≡ c.args.self.now.tail =
    ap (λ (o : OwnedChain). o.tail) c.self.view_is in
    let set : c.in_ok-put.put ≢ None
    → after ≡ tail_set chain.part (option_map tail_of c.self.inside.tail) c.args.place.now item =
    renamed c.self.inside.chain chain c.as_slice-2.result.now c.args.place.now (same g c)
    c.as_slice-2.ensures (λ n place. c.in_ok-put.put ≢ None
    → after ≡ tail_set n.part (option_map tail_of c.self.inside.tail) place item)
    c.tail_after-self-inside.ensures.tail in
    record {
      way = tt;
      blocks = record {
        chain = record {
          areas = ap (λ (n : ChainNow). n.areas) (same g c) ∙ of.areas;
          used = ap (λ (n : ChainNow). n.used) (same g c) ∙ of.used;
        };
        tail = tail-kept chain.part (new g c).cur c.args.self.now.tail after c.args.place.now item
            c.in_ok-put.put
            (λ some. set some
            ∙ ap (λ (tail : Option TailOf). tail_set chain.part tail c.args.place.now item) before)
            (λ none. ap (option_map tail_of) (c.tail_after-self-inside.ensures.none none) ∙ before)
            (subst (λ (put : List ℕ). put ≡ [] → item ≡ None) c.note_put.ensures.put
            (done g c told).none)
            (done g c told).tail;
        met = are-met g c told;
      };
    }

pub returns-in_err-put-clause-reads : goal.returns-in_err-put-clause-reads
returns-in_err-put-clause-reads g c has =
    let write : c.in_err-put.field-0.0 ≡ Write =
    c.in_err-put.ensures.reads
    (subst (HasMetPlace (mets_in c.self.inside.mets)) (sym c.as_slice.ensures)
    (subst (λ (o : OwnedChain). HasMetPlace o.met c.args.place.now) (sym c.self.view_is) has)) in
    search rules
