-- A damaged chain: it is none in areas of the part's own; and which of the areas that are taken it
-- depends on.
use Rattle.std.proofs.Common.{◌≡◌, ◌⊎◌, inl, inr, ⊎_elim, ◌<◌, ◌≤◌, ◌+◌, ℕ, zero, suc, List, []}
use Rattle.std.proofs.Common.{length, Option, Some, None, get_or, take, refl, sym, ap, subst, ◌∙◌, arith}
use Rattle.std.specs.Prelude.{Contains, IfSome, slice_get}
use Rattle.std.proofs.lemmas.List.{get_or-take, length-take}
use Rattle.std.proofs.lemmas.Option.{get_or_from_slice_get, slice_get_within}
use Rattle.vr_types.specs.Geometry.{area_count}
use Rattle.vr_types.specs.Image.{Image, block_at}
use Rattle.vr_space.specs.Owners.{Owners}
use Rattle.vr_space.specs.Rosters.{Chains, IsChainedBy, IsNextOf, IsOf, IsOwnArea, Numbered, areas_from}
use Rattle.vr_space.specs.Rosters.{after_next, chain_of, roster_at, roster_block}
use Rattle.vr_space.specs.Numbered.{IsFilled, NumberedStaysIn}
use Rattle.vr_space.proofs.CallerLemmas.{chain-here, chained-here}
use Rattle.vr_attach.specs.Chain.{IsBadRoster, IsBadFilled, IsChainDamagedAt, IsReachedBefore}
use Rattle.vr_attach.specs.Chain.{IsReachedTwice, RosterBreaks}
use Rattle.vr_attach.specs.declared.rule.Rule.{Rule}
use Rattle.vr_chained.specs.Walked.{IsGoodRoster}
use Rattle.vr_chained.proofs.Reached.{GoesOn, areas-agree, goes-on}
use Rattle.vr_chained.proofs.RosterRules.{good-sound}
use Rattle.vr_chained.proofs.FilledRules.{filled-sound}

-- ---- it is none in areas of the part's own

module _ (part : Numbered) (owners : Owners) (image : Image)
    (stays : NumberedStaysIn part owners image) where
  abbrev Own : ℕ → Type 0
  Own = IsOwnArea part owners

  abbrev many : ℕ
  many = length (chain_of part image)

  -- the rules of the area that a chain goes on from
  record GoesHere (at area : ℕ) : Type 0 where
    pub left : ℕ
    pub by : IsChainedBy part (IsFilled part) (IsOf image) area
        (Chains part Own (IsFilled part) (IsOf image) left)
        (block_at image (roster_block part area))
    pub rest : at + length (areas_from part image (suc left) area) ≡ many

  goes-here : (at area : ℕ) → slice_get (chain_of part image) at ≡ Some area → GoesHere at area
  goes-here at area is =
      let below = slice_get_within (chain_of part image) at area is in
      let found : get_or (chain_of part image) at 0 ≡ area =
      get_or_from_slice_get (chain_of part image) at area 0 is in
      let on : GoesOn part Own (IsFilled part) image many at area =
      subst (GoesOn part Own (IsFilled part) image many at) found
      (goes-on part Own (IsFilled part) image (area_count part.geometry) at part.first 0 stays below)
      in
      by_left on.left on.chain on.rest
    where
      by_left : (left : ℕ) → Chains part Own (IsFilled part) (IsOf image) left area
          → at + length (areas_from part image left area) ≡ many → GoesHere at area
      by_left zero chain rest = absurd chain
      by_left (suc left) chain rest = record {
        left = left;
        by = chained-here part Own (IsFilled part) image left area chain;
        rest = rest;
      }

  good-here : (at area : ℕ) → GoesHere at area
      → IsGoodRoster part (block_at image (roster_block part area))
  good-here at area here = record {
    leads = record {
      spells = record { spelled = here.by.roster.spelled; size = here.by.roster.size };
      whole = whole-by (roster_at part image area).next here.by.next;
    };
    number = here.by.roster.number;
    there = there-by (roster_at part image area).next here.by.next;
  }
    where
      After : ℕ → Type 0
      After = Chains part Own (IsFilled part) (IsOf image) here.left

      whole-by : (next : Option ℕ)
          → IsNextOf (roster_at part image area).used part.geometry.area After next
          → IfSome next (λ (n : ℕ). (roster_at part image area).used ≡ part.geometry.area)
      whole-by None rule = tt
      whole-by (Some next) rule = rule.0

      there-by : (next : Option ℕ)
          → IsNextOf (roster_at part image area).used part.geometry.area After next
          → IfSome next (λ (n : ℕ). n < area_count part.geometry)
      there-by None rule = tt
      there-by (Some next) rule =
          (chain-here part Own (IsFilled part) (IsOf image) here.left next rule.1).there

  bad-roster : (at area n : ℕ) (rule : Rule) → GoesHere at area
      → IsBadRoster part image area n rule → ⊥
  bad-roster at area n rule here bad =
      good-sound part (block_at image (roster_block part area)) (good-here at area here) rule
      (subst (λ (m : ℕ). RosterBreaks part (block_at image m) rule) bad.block bad.rule_is.broken)

  bad-filled : (at area n : ℕ) (rule : Rule) → GoesHere at area
      → IsBadFilled part image area n rule → ⊥
  bad-filled at area n rule here bad =
      filled-sound part (block_at image n)
      (subst (λ (m : ℕ). IsFilled part (block_at image m)) (sym bad.block)
      (here.by.intervals bad.interval bad.used _ refl)) rule bad.rule_is.broken

  -- no area comes twice
  twice : (at area next : ℕ) → GoesHere at area → (roster_at part image area).next ≡ Some next
      → Contains (take (suc at) (chain_of part image)) next → ⊥
  twice at area next here leads has =
      let below : has.0 < many =
      omega (arith, has.1, length-take (suc at) (chain_of part image)) in
      let before : has.0 ≤ at =
      omega (arith, has.1, length-take (suc at) (chain_of part image)) in
      let found : get_or (chain_of part image) has.0 next ≡ next =
      sym (get_or-take (suc at) (chain_of part image) has.0 next (omega (arith, before))) ∙ has.2 in
      let on : GoesOn part Own (IsFilled part) image many has.0 next =
      subst (GoesOn part Own (IsFilled part) image many has.0) found
      (goes-on part Own (IsFilled part) image (area_count part.geometry) has.0 part.first next stays
      below) in
      let rule : IsNextOf (roster_at part image area).used part.geometry.area
      (Chains part Own (IsFilled part) (IsOf image) here.left) (Some next) =
      subst (IsNextOf (roster_at part image area).used part.geometry.area
      (Chains part Own (IsFilled part) (IsOf image) here.left)) leads here.by.next in
      let agree = areas-agree part Own (IsFilled part) image on.left here.left next on.chain rule.1 in
      let long : length (areas_from part image on.left next)
      ≡ length (areas_from part image here.left next) =
      ap (λ (areas : List ℕ). length areas) agree in
      let more : at + suc (length (areas_from part image here.left next)) ≡ many =
      subst (λ (after : Option ℕ).
      at + suc (length (after_next [] (areas_from part image here.left) after)) ≡ many) leads
      here.rest in
      omega (arith, before, on.rest, long, more)

  own-next : (at area next : ℕ) → GoesHere at area → (roster_at part image area).next ≡ Some next
      → Own next
  own-next at area next here leads =
      let rule : IsNextOf (roster_at part image area).used part.geometry.area
      (Chains part Own (IsFilled part) (IsOf image) here.left) (Some next) =
      subst (IsNextOf (roster_at part image area).used part.geometry.area
      (Chains part Own (IsFilled part) (IsOf image) here.left)) leads here.by.next in
      chain-here part Own (IsFilled part) (IsOf image) here.left next rule.1

  bad-twice : (Taken : ℕ → Type 0) (at area n : ℕ) (rule : Rule) → GoesHere at area
      → ((other : ℕ) → Taken other → Own other → ⊥)
      → IsReachedTwice part Taken image at area n rule → ⊥
  bad-twice Taken at area n rule here others bad = ⊎_elim
      (λ taken. others bad.next taken (own-next at area bad.next here bad.leads))
      (λ has. twice at area bad.next here bad.leads has) bad.before

pub damaged-nowhere : (part : Numbered) (Taken : ℕ → Type 0) (image : Image) (owners : Owners)
    (n : ℕ) (rule : Rule) → IsChainDamagedAt part Taken image n rule
    → NumberedStaysIn part owners image
    → ((area : ℕ) → Taken area → IsOwnArea part owners area → ⊥) → ⊥
damaged-nowhere part Taken image owners n rule damaged stays others =
    let here = goes-here part owners image stays damaged.at damaged.area damaged.is in
    ⊎_elim
    (λ roster. bad-roster part owners image stays damaged.at damaged.area n rule here roster)
    (λ rest. ⊎_elim
    (λ filled. bad-filled part owners image stays damaged.at damaged.area n rule here filled)
    (λ again. bad-twice part owners image stays Taken damaged.at damaged.area n rule here others
    again) rest) damaged.shown

-- ---- the areas that are taken

first-of-chain : (part : Numbered) (image : Image) (at area : ℕ)
    → slice_get (chain_of part image) at ≡ Some area
    → (i : ℕ) → Contains (take (suc i) (chain_of part image)) part.first
first-of-chain part image at area is i = by_count (area_count part.geometry) is
  where
    by_count : (count : ℕ) → slice_get (areas_from part image count part.first) at ≡ Some area
        → Contains (take (suc i) (areas_from part image count part.first)) part.first
    by_count zero none = absurd cc
    by_count (suc count) some = (0, omega arith, refl)

-- That the part's own first area is taken counts for nothing, since its chain begins there.
pub damaged-taken : (part : Numbered) (Taken Other : ℕ → Type 0) (image : Image) (n : ℕ)
    (rule : Rule) → ((area : ℕ) → Taken area → Other area ⊎ (area ≡ part.first))
    → ((area : ℕ) → Other area → Taken area) → IsChainDamagedAt part Taken image n rule
    → IsChainDamagedAt part Other image n rule
damaged-taken part Taken Other image n rule fewer more damaged = record {
  at = damaged.at;
  area = damaged.area;
  is = damaged.is;
  walked = record {
    sound = damaged.walked.sound;
    new = λ i area next below is leads was.
        damaged.walked.new i area next below is leads (reached i next was);
  };
  shown = ⊎_elim (λ roster. inl roster)
      (λ rest. inr (⊎_elim (λ filled. inl filled) (λ again. inr (record {
        sound = again.sound;
        next = again.next;
        leads = again.leads;
        before = was-reached damaged.at again.next again.before;
        block = again.block;
        rule_is = again.rule_is;
      })) rest)) damaged.shown;
}
  where
    reached : (i next : ℕ) → IsReachedBefore part Other image i next
        → IsReachedBefore part Taken image i next
    reached i next was = ⊎_elim (λ other. inl (more next other)) (λ has. inr has) was

    was-reached : (i next : ℕ) → IsReachedBefore part Taken image i next
        → IsReachedBefore part Other image i next
    was-reached i next was = ⊎_elim
        (λ taken. ⊎_elim (λ other. inl other)
        (λ first. inr (subst (Contains (take (suc i) (chain_of part image))) (sym first)
        (first-of-chain part image damaged.at damaged.area damaged.is i))) (fewer next taken))
        (λ has. inr has) was
