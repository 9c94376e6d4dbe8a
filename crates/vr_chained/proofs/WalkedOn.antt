-- One area more of a walk over a chain: it goes on, it is over, or it comes to what breaks a rule.
use Rattle.std.proofs.Common.{◌≡◌, ◌⊎◌, inl, inr, ⊎_elim, ◌<◌, ◌≤◌, ◌+◌, ◌++◌, ℕ, zero, suc, List, []}
use Rattle.std.proofs.Common.{◌∷◌, length, Option, Some, None, refl, sym, ap, subst, ◌∙◌, arith}
use Rattle.std.proofs.Common.{append_assoc, take}
use Rattle.std.specs.Prelude.{Contains, IfSome, slice_get}
use Rattle.std.proofs.lemmas.Bool.{cases_lt}
use Rattle.std.proofs.lemmas.List.{length-append, take_at}
use Rattle.vr_types.specs.Geometry.{area_count}
use Rattle.vr_types.specs.Image.{Block, Image, block_at}
use Rattle.vr_space.specs.Rosters.{Chains, IsChainedBy, IsNextOf, IsOf, Numbered, after_next}
use Rattle.vr_space.specs.Rosters.{areas_from, chain_of, roster_at, roster_block}
use Rattle.vr_space.specs.Rosters.{used_from}
use Rattle.vr_space.specs.Numbered.{IsFilled}
use Rattle.vr_attach.specs.Chain.{IsAreaSound, IsChainDamagedAt, IsReachedBefore, IsRosterSound}
use Rattle.vr_attach.specs.Chain.{IsWalkedTo}
use Rattle.vr_attach.specs.declared.rule.Rule.{Rule}
use Rattle.vr_attach.specs.declared.rule.Rule.TheVariants as rules
use Rattle.vr_chained.specs.Chain.{ChainNow}
use Rattle.vr_chained.specs.Walked.{IsAreaBad, IsBadUnder, IsGoodRoster, IsThere, IsWalkedAt}
use Rattle.vr_chained.specs.Walked.{IsWalkedOver}

-- ---- where it is in the list

at-length : (before rest : List ℕ) (area : ℕ)
    → slice_get (before ++ area ∷ rest) (length before) ≡ Some area
at-length [] rest area = refl
at-length (first ∷ before) rest area = at-length before rest area

up-to : (before rest : List ℕ) (area : ℕ)
    → take (suc (length before)) (before ++ area ∷ rest) ≡ before ++ area ∷ []
up-to before rest area =
    ap (take (suc (length before))) (sym (append_assoc before (area ∷ []) rest))
    ∙ take_at (before ++ area ∷ []) rest (suc (length before))
    (length-append before (area ∷ []) ∙ omega arith)

-- ---- the area that it came to

-- by its roster, where the image has a chain from the next area on
chained-by : (part : Numbered) (image : Image) (area : ℕ) (After : ℕ → Type 0)
    → IsAreaSound part image area
    → IsGoodRoster part (block_at image (roster_block part area))
    → IsNextOf (roster_at part image area).used part.geometry.area After
    (roster_at part image area).next → (top : Block) → IsOf image (roster_block part area) top
    → IsChainedBy part (IsFilled part) (IsOf image) area After top
chained-by part image area After sound good next top is =
    subst (IsChainedBy part (IsFilled part) (IsOf image) area After) (sym is)
    (record {
      roster = record {
        spelled = good.leads.spells.spelled;
        size = good.leads.spells.size;
        number = good.number;
      };
      intervals = λ interval below block here. subst (IsFilled part) (sym here)
          (sound.intervals interval below);
      next = next;
    })

module _ (Taken : ℕ → Type 0) (image : Image) (chain : ChainNow)
    (walk : IsWalkedAt Taken image chain) where
  abbrev part : Numbered
  part = chain.part

  abbrev area : ℕ
  area = walk.area

  abbrev at : ℕ
  at = length walk.before

  abbrev rest : List ℕ
  rest = after_next [] (areas_from part image walk.left) (roster_at part image area).next

  listed : chain_of part image ≡ walk.before ++ area ∷ rest
  listed = walk.areas

  is-here : slice_get (chain_of part image) at ≡ Some area
  is-here = ap (λ (areas : List ℕ). slice_get areas at) listed ∙ at-length walk.before rest area

  before-here : take (suc at) (chain_of part image) ≡ chain.areas
  before-here = ap (take (suc at)) listed ∙ up-to walk.before rest area ∙ sym walk.listed

  -- what was reached before is what had an owner, or one of the areas of the chain so far
  reached : (other : ℕ) → Taken other ⊎ Contains chain.areas other
      → IsReachedBefore part Taken image at other
  reached other = λ was. subst (λ (areas : List ℕ). Taken other ⊎ Contains areas other)
      (sym before-here) was

  -- and the other way round
  was-reached : (other : ℕ) → IsReachedBefore part Taken image at other
      → Taken other ⊎ Contains chain.areas other
  was-reached other = λ was. subst (λ (areas : List ℕ). Taken other ⊎ Contains areas other)
      before-here was

  -- ---- it breaks a rule

  pub area-bad : (n : ℕ) (rule : Rule) → IsAreaBad part image area n rule
      → IsChainDamagedAt part Taken image n rule
  area-bad n rule bad = record {
    at = at;
    area = area;
    is = is-here;
    walked = walk.walked;
    shown = ⊎_elim (λ roster. inl roster) (λ filled. inr (inl filled)) bad;
  }

  pub area-twice : IsAreaSound part image area → (next : ℕ)
      → (roster_at part image area).next ≡ Some next → Taken next ⊎ Contains chain.areas next
      → (n : ℕ) → n ≡ roster_block part next → (rule : Rule) → rule ≡ rules.AreaTwice
      → IsChainDamagedAt part Taken image n rule
  area-twice sound next leads was n block rule is = record {
    at = at;
    area = area;
    is = is-here;
    walked = walk.walked;
    shown = inr (inr (record {
      sound = sound;
      next = next;
      leads = leads;
      before = reached next was;
      block = block;
      rule_is = is;
    }));
  }

  -- ---- it breaks none

  module _ (sound : IsAreaSound part image area)
      (good : IsGoodRoster part (block_at image (roster_block part area))) where
    -- it is the last one
    pub walked-over : (roster_at part image area).next ≡ None → (used : ℕ)
        → used ≡ (roster_at part image area).used
        → IsWalkedOver image (record {
          part = chain.part;
          areas = chain.areas;
          used = chain.used + used;
        })
    walked-over none used used-is = record {
      of = record {
        areas = walk.listed
            ∙ sym (listed ∙ ap (λ (next : Option ℕ).
            walk.before ++ area ∷ after_next [] (areas_from part image walk.left) next) none);
        used = ap (λ (n : ℕ). chain.used + n)
            (used-is
            ∙ sym (ap (λ (next : Option ℕ). (roster_at part image area).used
            + after_next 0 (used_from part image walk.left) next) none ∙ omega arith))
            ∙ sym walk.used;
      };
      chained = walk.goes (
        walk.there,
        chained-by part image area
            (Chains part (IsThere part) (IsFilled part) (IsOf image) walk.left) sound good
            (subst (IsNextOf (roster_at part image area).used part.geometry.area
            (Chains part (IsThere part) (IsFilled part) (IsOf image) walk.left)) (sym none) tt),
      );
    }

    module _ (next : ℕ) (leads : (roster_at part image area).next ≡ Some next)
        (new : (Taken next ⊎ Contains chain.areas next) → ⊥) where
      -- the areas up to it break no rule, and lead on to new ones
      walked-more : IsWalkedTo part Taken image (suc at)
      walked-more = record {
        sound = λ i other below is. ⊎_elim
            (λ less. walk.walked.sound i other less is)
            (λ most. subst (IsAreaSound part image) (sym (one i other below most is)) sound)
            (cases_lt i at);
        new = λ i other after below is follows was. ⊎_elim
            (λ less. walk.walked.new i other after less is follows was)
            (λ most.
            let here : i ≡ at = omega (arith, most, below) in
            let same : other ≡ area = one i other below most is in
            let after-is : after ≡ next = next-one other after same follows in
            new (was-reached next
            (subst (IsReachedBefore part Taken image at) after-is
            (subst (λ (j : ℕ). IsReachedBefore part Taken image j after) here was))))
            (cases_lt i at);
      }
        where
          one : (i other : ℕ) → i < suc at → at ≤ i → slice_get (chain_of part image) i ≡ Some other
              → other ≡ area
          one i other below most is =
              let here : i ≡ at = omega (arith, most, below) in
              let found : Some other ≡ Some area =
              sym is ∙ ap (slice_get (chain_of part image)) here ∙ is-here in
              cc

          next-one : (other after : ℕ) → other ≡ area
              → (roster_at part image other).next ≡ Some after → after ≡ next
          next-one other after same follows =
              let found : Some after ≡ Some next =
              sym follows ∙ ap (λ (a : ℕ). (roster_at part image a).next) same ∙ leads in
              cc

      -- it goes on
      pub walked-on : length chain.areas < area_count part.geometry → (used : ℕ)
          → used ≡ (roster_at part image area).used
          → IsWalkedAt Taken image (record {
            part = chain.part;
            areas = chain.areas ++ next ∷ [];
            used = chain.used + used;
          })
      walked-on room used used-is = by_left walk.left refl
        where
          many : length chain.areas ≡ at + 1
          many = ap (λ (areas : List ℕ). length areas) walk.listed
              ∙ length-append walk.before (area ∷ [])

          whole : (roster_at part image area).used ≡ part.geometry.area
          whole = subst (λ (after : Option ℕ). IfSome after (λ (n : ℕ).
              (roster_at part image area).used ≡ part.geometry.area)) leads good.leads.whole

          by_left : (left : ℕ) → walk.left ≡ left
              → IsWalkedAt Taken image (record {
                part = chain.part;
                areas = chain.areas ++ next ∷ [];
                used = chain.used + used;
              })
          by_left zero none = absurd (omega (arith, room, many, walk.many, none))
          by_left (suc left) is = record {
            before = walk.before ++ area ∷ [];
            area = next;
            left = left;
            listed = ap (λ (areas : List ℕ). areas ++ next ∷ []) walk.listed;
            many = omega (arith, length-append walk.before (area ∷ []), walk.many, is);
            areas = listed
                ∙ ap (λ (after : Option ℕ).
                walk.before ++ area ∷ after_next [] (areas_from part image walk.left) after) leads
                ∙ ap (λ (k : ℕ). walk.before ++ area ∷ areas_from part image k next) is
                ∙ sym (append_assoc walk.before (area ∷ [])
                (areas_from part image (suc left) next));
            used =
                let further : (roster_at part image area).used
                + after_next 0 (used_from part image walk.left) (roster_at part image area).next
                ≡ (roster_at part image area).used + used_from part image (suc left) next =
                ap (λ (after : Option ℕ). (roster_at part image area).used
                + after_next 0 (used_from part image walk.left) after) leads
                ∙ ap (λ (k : ℕ). (roster_at part image area).used + used_from part image k next) is in
                omega (arith, walk.used, further, used-is);
            walked = subst (IsWalkedTo part Taken image)
                (sym (length-append walk.before (area ∷ []) ∙ omega arith)) walked-more;
            there = subst (λ (after : Option ℕ). IfSome after (IsThere part)) leads good.there;
            goes = λ further. walk.goes (
              walk.there,
              chained-by part image area
                  (Chains part (IsThere part) (IsFilled part) (IsOf image) walk.left) sound good
                  (subst (IsNextOf (roster_at part image area).used part.geometry.area
                  (Chains part (IsThere part) (IsFilled part) (IsOf image) walk.left)) (sym leads) (
                    whole,
                    subst (λ (k : ℕ). Chains part (IsThere part) (IsFilled part) (IsOf image) k next)
                        (sym is) further,
                  )),
            );
          }

-- ---- what is read of an area

-- a used interval that breaks a rule, under a roster that breaks none
pub under-bad : (part : Numbered) (image : Image) (area used n : ℕ) (rule : Rule)
    → IsRosterSound part (block_at image (roster_block part area))
    → used ≡ (roster_at part image area).used → IsBadUnder part image area used n rule
    → IsAreaBad part image area n rule
under-bad part image area used n rule sound used-is bad = inr (record {
  roster = sound;
  interval = bad.interval;
  used = omega (arith, bad.under, used-is);
  before = bad.before;
  block = bad.block;
  rule_is = bad.rule_is;
})

-- ---- where it begins

pub walk-first : (part : Numbered) (Taken : ℕ → Type 0) (image : Image)
    → part.first < area_count part.geometry
    → IsWalkedAt Taken image (record { part = part; areas = part.first ∷ []; used = 0 })
walk-first part Taken image first = by_count (area_count part.geometry) refl
  where
    by_count : (count : ℕ) → area_count part.geometry ≡ count
        → IsWalkedAt Taken image (record { part = part; areas = part.first ∷ []; used = 0 })
    by_count zero none = absurd (omega (arith, none, first))
    by_count (suc left) is = record {
      before = [];
      area = part.first;
      left = left;
      listed = refl;
      many = omega (arith, is);
      areas = ap (λ (k : ℕ). areas_from part image k part.first) is;
      used = ap (λ (k : ℕ). used_from part image k part.first) is ∙ omega arith;
      walked = record {
        sound = λ i area below is. absurd (omega (arith, below));
        new = λ i area next below is follows was. absurd (omega (arith, below));
      };
      there = first;
      goes = λ chain. subst (λ (k : ℕ). Chains part (IsThere part) (IsFilled part) (IsOf image) k
          part.first) (sym is) chain;
    }
