-- What is true of the blocks of each part: where its ways lead, and what stays where a crash may
-- leave less of them, or where other owners leave it the blocks that it has.
use Rattle.std.proofs.Common.{◌≡◌, ◌≢◌, ◌<◌, ℕ, Bool, IsTrue, true, false, List, Option, Some, None}
use Rattle.std.proofs.Common.{refl, sym, ap, subst, ⊎_elim, ◌∙◌, arith, if◌then◌else◌}
use Rattle.vr_types.specs.Blocks.{Keeps, Puts}
use Rattle.vr_types.specs.Content.{Item}
use Rattle.vr_types.specs.Geometry.{area_count}
use Rattle.vr_types.specs.Image.{Block, Image, block_at}
use Rattle.vr_types.specs.Seen.{Seen}
use Rattle.vr_types.proofs.CallerLemmas.{cur-elsewhere}
use Rattle.vr_space.specs.Areas.{IsChainAtRest, IsChainOn, IsChainSound, IsOwnedArea, IsQuietArea}
use Rattle.vr_space.specs.Areas.{KeyedChain, area_of, head_of}
use Rattle.vr_space.specs.Keyed.{IsKeyedAtRest, Keyed}
use Rattle.vr_space.specs.Owners.{Owners}
use Rattle.vr_space.specs.Part.{InFirstArea, InPart, IsAtRest, IsQuiet, IsSound, KeyedShape}
use Rattle.vr_space.specs.Part.{MayHold, NumberedShape, Shape, way_to}
use Rattle.vr_space.specs.Rosters.{IsInArea, IsOwnArea, Numbered, interval_way, roster_block}
use Rattle.vr_space.specs.Numbered.{IsNumberedAtRest, IsNumberedSound, IsNumberedOn, IsRestingArea}
use Rattle.vr_space.specs.Numbered.{IsFilled}
use Rattle.vr_space.specs.Numbered.{interval_of, is_number_place, at_in, item_read, numbered_way}
use Rattle.vr_space.specs.Way.{Found, IsWithin}
use Rattle.vr_space.proofs.Chains.{area-below, chain-both, chain-here, chain-less, chain-within}
use Rattle.vr_space.proofs.Chains.{roster-inside}
use Rattle.vr_space.proofs.KeyedSound.{IsBlock, head-block, keyed-less}
use Rattle.vr_space.proofs.Links.{area-there, links-both, links-here, links-less, links-within}
use Rattle.vr_space.proofs.Ways.{find-less}

-- the blocks of the part that are there
abbrev pub IsPartBlock : Shape → Owners → Seen → ℕ → Type 0
IsPartBlock shape owners now n = (n < now.count) × InPart shape owners n

-- ---- where its ways lead

-- the blocks of an area of the part's own are there
pub area-owned : (part : Numbered) (owners : Owners) (now : Seen) → IsNumberedOn part now
    → (area : ℕ) → IsOwnArea part owners area → (n : ℕ) → IsInArea part area n
    → IsPartBlock (NumberedShape part) owners now n
area-owned part owners now on area own n inside =
    (omega (arith, area-below part area n own.there inside, on.blocks), own.owned n inside)

numbered-within : (part : Numbered) (owners : Owners) (now : Seen) → IsNumberedSound part owners now
    → (place : List ℕ)
    → IsWithin (IsPartBlock (NumberedShape part) owners now) now.may (numbered_way part place)
numbered-within part owners now sound place = by_test (is_number_place part place)
  where
    by_test : (test : Bool) → IsWithin (IsPartBlock (NumberedShape part) owners now) now.may
        (if test then interval_way part (item_read part (at_in part place)) (interval_of part place)
        else Found None)
    by_test true = chain-within part (IsOwnArea part owners) (IsFilled part)
        (IsPartBlock (NumberedShape part) owners now) now.may (item_read part (at_in part place))
        (area-owned part owners now sound.on) (λ n is. (is, λ block may. tt))
        (area_count part.geometry) (interval_of part place) part.first sound.chain
    by_test false = tt

-- the blocks of an area of a keyed part's own are its own, and there
pub keyed-owned : (part : KeyedChain) (owners : Owners) (now : Seen) (area : ℕ)
    → IsOwnedArea part owners area → (n : ℕ) → IsBlock (area_of part area) now n
    → IsPartBlock (KeyedShape part) owners now n
keyed-owned part owners now area own n is = (is.0, own.owned n is.1)

-- A way to a place reads blocks of the part alone.
pub way-within : (shape : Shape) (owners : Owners) (now : Seen) → IsSound shape owners now
    → (place : List ℕ) → IsWithin (IsPartBlock shape owners now) now.may (way_to shape place)
way-within (KeyedShape part) owners now sound place = links-within part (IsOwnedArea part owners)
    (IsPartBlock (KeyedShape part) owners now) now place (keyed-owned part owners now)
    (area_count part.geometry) part.first None sound.chain
way-within (NumberedShape part) owners now sound place = numbered-within part owners now sound place

-- So a place may hold no more where no more is allowed of the part's blocks.
pub holds-less : (shape : Shape) (owners : Owners) (now : Seen) (less : ℕ → Block → Type 0)
    → IsSound shape owners now
    → ((n : ℕ) (block : Block) → IsPartBlock shape owners now n → less n block → now.may n block)
    → (place : List ℕ) (item : Option Item) → MayHold shape less place item
    → MayHold shape now.may place item
holds-less shape owners now less sound each place item = find-less (IsPartBlock shape owners now)
    less now.may item each (way_to shape place) (way-within shape owners now sound place)

-- the blocks of the first area are the part's own
pub first-owned : (shape : Shape) (owners : Owners) (now : Seen) → IsSound shape owners now
    → (n : ℕ) → InFirstArea shape n → InPart shape owners n
first-owned (KeyedShape part) owners now sound n inside =
    (links-here part (IsOwnedArea part owners) now (area_count part.geometry) part.first None
    sound.chain).owned n inside
first-owned (NumberedShape part) owners now sound n inside =
    (chain-here part (IsOwnArea part owners) (IsFilled part) now.may (area_count part.geometry)
    part.first sound.chain).owned n inside

-- what is at rest is sound
pub rest-sound : (shape : Shape) (owners : Owners) (now : Seen) → IsAtRest shape owners now
    → IsSound shape owners now
rest-sound (KeyedShape part) owners now rests = record {
  on = rests.on;
  chain = links-less part (IsQuietArea part owners now) (IsOwnedArea part owners) now now refl refl
      (λ area is. is.own) (λ area is n inside block may. may) (area_count part.geometry) part.first
      None rests.chain;
}
rest-sound (NumberedShape part) owners now rests = record {
  on = rests.on;
  chain = chain-less part (IsRestingArea part owners now) (IsOwnArea part owners) (IsFilled part)
      now.may now.may (λ area is. is.own) (λ area is n inside block may. may)
      (area_count part.geometry) part.first rests.chain;
}

-- ---- where less is left of its blocks

-- the part's blocks have what they had, and a crash may leave no more of them
pub record StaysPart (shape : Shape) (owners : Owners) (a b : Seen) : Type 0 where
  pub count : b.count ≡ a.count
  pub size : b.size ≡ a.size
  pub same : (n : ℕ) → InPart shape owners n → block_at b.cur n ≡ block_at a.cur n
  pub fewer : (n : ℕ) (block : Block) → n < a.count → InPart shape owners n
      → b.may n block → a.may n block

-- a call that puts nothing leaves them so
module _ (tells : Bool) (told : IsTrue tells) (a b : Seen) where
  pub stays-keeps : Keeps tells a b → (shape : Shape) (owners : Owners) → StaysPart shape owners a b
  stays-keeps call shape owners = record {
    count = call.count_same;
    size = call.size_same;
    same = λ n inside. ap (λ (image : Image). block_at image n) (call.content told);
    fewer = λ n block below inside may. call.adds_none told n block below may;
  }

  -- and so does a put outside the part
  pub stays-puts : (shape : Shape) (owners : Owners) (n : ℕ) (bytes : Block)
      → Puts tells n bytes a b → (InPart shape owners n → ⊥) → StaysPart shape owners a b
  stays-puts shape owners n bytes call beyond =
      let other : (m : ℕ) → InPart shape owners m → m ≢ n =
      λ m inside same. beyond (subst (InPart shape owners) same inside) in
      record {
        count = call.count_same;
        size = call.size_same;
        same = λ m inside. cur-elsewhere tells a b m n bytes told (other m inside) call;
        fewer = λ m block below inside may. ⊎_elim (λ old. old)
            (λ new. absurd (other m inside new.0)) (call.adds told m block below may);
      }

-- the blocks of the volume are as many, and as long
pub on-less : (part : Numbered) (a b : Seen) → b.count ≡ a.count → b.size ≡ a.size
    → IsNumberedOn part a → IsNumberedOn part b
on-less part a b count size on = record {
  part_is = on.part_is;
  blocks = omega (arith, on.blocks, count);
  size = size ∙ on.size;
}

-- an area of a keyed part stays at rest where its head stays and a crash may leave no more
pub keyed-rest : (part : Keyed) (a b : Seen) → b.count ≡ a.count → b.size ≡ a.size
    → ((n : ℕ) (block : Block) → IsBlock part a n → b.may n block → a.may n block)
    → block_at b.cur part.head ≡ block_at a.cur part.head → IsKeyedAtRest part a
    → IsKeyedAtRest part b
keyed-rest part a b count size less head rests = record {
  sound = keyed-less part a b count size less rests.sound;
  one_head = λ top may. rests.one_head top
      (less part.head top (head-block part a rests.sound) may)
      ∙ sym head;
}

-- the blocks of a keyed part are there
pub chain-on-less : (part : KeyedChain) (a b : Seen) → b.count ≡ a.count → b.size ≡ a.size
    → IsChainOn part a → IsChainOn part b
chain-on-less part a b count size on = record {
  part_is = on.part_is;
  blocks = omega (arith, on.blocks, count);
  size = size ∙ on.size;
}

module _ (a b : Seen) where
  -- an area of its own stays quiet
  quiet-stays : (part : KeyedChain) (owners : Owners) → StaysPart (KeyedShape part) owners a b
      → IsChainOn part a → (area : ℕ) → IsQuietArea part owners a area
      → IsQuietArea part owners b area
  quiet-stays part owners stays on area is =
      let below : head_of part area < a.count =
      omega (arith, area-there part a on area is.own.there) in
      let mine : InPart (KeyedShape part) owners (head_of part area) =
      is.own.owned (head_of part area) (omega arith, omega arith) in
      record {
        own = is.own;
        one_head = λ top may. is.one_head top (stays.fewer (head_of part area) top below mine may)
            ∙ sym (stays.same (head_of part area) mine);
      }

  -- A part stays sound where a crash may leave no more of its blocks,
  pub sound-less : (shape : Shape) (owners : Owners) → b.count ≡ a.count → b.size ≡ a.size
      → ((n : ℕ) (block : Block) → IsPartBlock shape owners a n → b.may n block → a.may n block)
      → IsSound shape owners a → IsSound shape owners b
  sound-less (KeyedShape part) owners count size less sound = record {
    on = chain-on-less part a b count size sound.on;
    chain = links-less part (IsOwnedArea part owners) (IsOwnedArea part owners) a b count size
        (λ area own. own)
        (λ area own n is block may. less n block (keyed-owned part owners a area own n is) may)
        (area_count part.geometry) part.first None sound.chain;
  }
  sound-less (NumberedShape part) owners count size less sound = record {
    on = on-less part a b count size sound.on;
    chain = chain-less part (IsOwnArea part owners) (IsOwnArea part owners) (IsFilled part) b.may
        a.may (λ area own. own)
        (λ area own n inside block may. less n block
        (area-owned part owners a sound.on area own n inside) may)
        (area_count part.geometry) part.first sound.chain;
  }

  -- and stays at rest where they have what they had.
  pub rest-stays : (shape : Shape) (owners : Owners) → StaysPart shape owners a b
      → IsAtRest shape owners a → IsAtRest shape owners b
  rest-stays (KeyedShape part) owners stays rests = record {
    on = chain-on-less part a b stays.count stays.size rests.on;
    chain = links-less part (IsQuietArea part owners a) (IsQuietArea part owners b) a b stays.count
        stays.size (quiet-stays part owners stays rests.on)
        (λ area is n inside block. stays.fewer n block inside.0 (is.own.owned n inside.1))
        (area_count part.geometry) part.first None rests.chain;
  }
  rest-stays (NumberedShape part) owners stays rests =
      let there : (area : ℕ) → IsOwnArea part owners area → (n : ℕ) → IsInArea part area n
      → IsPartBlock (NumberedShape part) owners a n = area-owned part owners a rests.on in record {
        on = on-less part a b stays.count stays.size rests.on;
        chain = chain-less part (IsRestingArea part owners a) (IsRestingArea part owners b)
            (IsFilled part) b.may a.may
            (λ area is.
            let top = there area is.own (roster_block part area) (roster-inside part area) in
            record {
              own = is.own;
              roster = λ block may. is.roster block
                  (stays.fewer (roster_block part area) block top.0 top.1 may)
                  ∙ sym (stays.same (roster_block part area) top.1);
            })
            (λ area is n inside block may. stays.fewer n block (there area is.own n inside).0
            (is.own.owned n inside) may)
            (area_count part.geometry) part.first rests.chain;
      }

-- ---- other owners

-- an area of the part's own is so by owners who leave it the blocks that it has
area-grows : (part : Numbered) (owners grown : Owners)
    → ((n other : ℕ) → owners n ≡ Some other → grown n ≡ Some other)
    → (area : ℕ) → IsOwnArea part owners area → IsOwnArea part grown area
area-grows part owners grown leaves area own = record {
  there = own.there;
  owned = λ n inside. leaves n part.part (own.owned n inside);
}

pub owned-grows : (part : KeyedChain) (owners grown : Owners)
    → ((n other : ℕ) → owners n ≡ Some other → grown n ≡ Some other)
    → (area : ℕ) → IsOwnedArea part owners area → IsOwnedArea part grown area
owned-grows part owners grown leaves area own = record {
  there = own.there;
  owned = λ n inside. leaves n part.part (own.owned n inside);
}

module _ (owners grown : Owners) (now : Seen)
    (leaves : (n part : ℕ) → owners n ≡ Some part → grown n ≡ Some part) where
  -- By owners who leave each part the blocks that it has, a part stays sound,
  pub sound-grows : (shape : Shape) → IsSound shape owners now → IsSound shape grown now
  sound-grows (KeyedShape part) sound = record {
    on = sound.on;
    chain = links-less part (IsOwnedArea part owners) (IsOwnedArea part grown) now now refl refl
        (owned-grows part owners grown leaves) (λ area own n inside block may. may)
        (area_count part.geometry) part.first None sound.chain;
  }
  sound-grows (NumberedShape part) sound = record {
    on = sound.on;
    chain = chain-less part (IsOwnArea part owners) (IsOwnArea part grown) (IsFilled part) now.may
        now.may (area-grows part owners grown leaves) (λ area own n inside block may. may)
        (area_count part.geometry) part.first sound.chain;
  }

  -- and at rest.
  pub rest-grows : (shape : Shape) → IsAtRest shape owners now → IsAtRest shape grown now
  rest-grows (KeyedShape part) rests = record {
    on = rests.on;
    chain = links-less part (IsQuietArea part owners now) (IsQuietArea part grown now) now now refl
        refl
        (λ area is. record {
          own = owned-grows part owners grown leaves area is.own;
          one_head = is.one_head;
        })
        (λ area is n inside block may. may) (area_count part.geometry) part.first None rests.chain;
  }
  rest-grows (NumberedShape part) rests = record {
    on = rests.on;
    chain = chain-less part (IsRestingArea part owners now) (IsRestingArea part grown now)
        (IsFilled part) now.may now.may
        (λ area is. record {
          own = area-grows part owners grown leaves area is.own;
          roster = is.roster;
        })
        (λ area is n inside block may. may) (area_count part.geometry) part.first rests.chain;
  }

numbered-quiet : (part : Numbered) (owners other : Owners) (now : Seen)
    → IsNumberedAtRest part other now → IsNumberedSound part owners now
    → IsNumberedAtRest part owners now
numbered-quiet part owners other now rests sound = record {
  on = sound.on;
  chain = chain-less part
      (λ area. IsRestingArea part other now area × IsOwnArea part owners area)
      (IsRestingArea part owners now) (IsFilled part) now.may now.may
      (λ area both. record { own = both.1; roster = both.0.roster })
      (λ area both n inside block may. may) (area_count part.geometry) part.first
      (chain-both part (IsRestingArea part other now) (IsOwnArea part owners) (IsFilled part)
      now.may (area_count part.geometry) part.first rests.chain sound.chain);
}

keyed-quiet : (part : KeyedChain) (owners other : Owners) (now : Seen)
    → IsChainAtRest part other now → IsChainSound part owners now → IsChainAtRest part owners now
keyed-quiet part owners other now rests sound = record {
  on = sound.on;
  chain = links-less part
      (λ area. IsQuietArea part other now area × IsOwnedArea part owners area)
      (IsQuietArea part owners now) now now refl refl
      (λ area both. record { own = both.1; one_head = both.0.one_head })
      (λ area both n inside block may. may) (area_count part.geometry) part.first None
      (links-both part (IsQuietArea part other now) (IsOwnedArea part owners) now
      (area_count part.geometry) part.first None rests.chain sound.chain);
}

-- A part that is at rest by some owners is so by those by which it is sound.
pub rest-of-quiet : (shape : Shape) (owners : Owners) (now : Seen) → IsQuiet shape now
    → IsSound shape owners now → IsAtRest shape owners now
rest-of-quiet (KeyedShape part) owners now quiet sound =
    keyed-quiet part owners quiet.0 now quiet.1 sound
rest-of-quiet (NumberedShape part) owners now quiet sound =
    numbered-quiet part owners quiet.0 now quiet.1 sound
