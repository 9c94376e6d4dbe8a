-- Damage of a chain: where it is damaged, it stands for no content in areas of the part's own; and
-- it is damaged at one block at most.
use Rattle.std.proofs.Common.{◌≡◌, inl, inr, ⊎_elim, ℕ, zero, suc, ◌<◌, ◌≤◌, List, Option, Some}
use Rattle.std.proofs.Common.{None, take, sym, ap, subst, ◌∙◌, arith}
use Rattle.std.specs.Prelude.{Contains, IfSome, unwrap_or}
use Rattle.std.specs.List.{slice_get}
use Rattle.std.proofs.lemmas.Bool.{cases_lt}
use Rattle.vr_types.specs.Geometry.{area_count}
use Rattle.vr_types.specs.Image.{Block, Image}
use Rattle.vr_seqset.specs.Reading.{record_in}
use Rattle.vr_space.specs.Keyed.{entries_of, low_of}
use Rattle.vr_space.specs.Areas.{IsFollowed, KeyedChain, LinksIn, area_of, areas_in, end_of}
use Rattle.vr_space.specs.Areas.{head_in, head_of}
use Rattle.vr_space.proofs.CallerLemmas.{holds-nth}
use Rattle.vr_attach.specs.Damage.{rule_number}
use Rattle.vr_attach.specs.Linked.{IsAreaWhole, IsGoodTop, IsKeyedAreaBad, IsLinkedDamagedAt}
use Rattle.vr_attach.specs.Linked.{IsLinkedTwice, StandsAlone, links_in}
use Rattle.vr_attach.specs.declared.rule.Rule.{Rule}
use Rattle.vr_attach.proofs.AreaDamage.{one-bad, sound-bad}
use Rattle.vr_attach.proofs.LinkRules.{good_sound}
use Rattle.vr_attach.proofs.Links.{Link, StandsOn, among-first, first-before, leads-inside}
use Rattle.vr_attach.proofs.Links.{leads-new, link-area, standing}

module _ (part : KeyedChain) (image : Image) where
  -- the area of a link breaks the rule at block n
  abbrev pub IsAreaBad : Link → ℕ → Rule → Type 0
  IsAreaBad link n rule =
      IsKeyedAreaBad (area_of part link.0) link.0 (area_count part.geometry) link.1 image n rule

  -- one that is whole breaks none
  pub whole-bad : (link : Link) → IsAreaWhole part image link → (n : ℕ) (rule : Rule)
      → IsAreaBad link n rule → ⊥
  whole-bad link = sound-bad (area_of part link.0) link.0 (area_count part.geometry) link.1 image

  -- ---- a chain that stands

  module _ (chain : LinksIn part image (area_count part.geometry) part.first None) (at : ℕ)
      (link : Link) (is : slice_get (links_in part image) at ≡ Some link) where
    abbrev top : Block
    top = head_in part image link.0

    here : StandsOn part image (areas_in part image) at link.0 link.1
    here = standing part image chain at link is

    -- its heads break no rule,
    good : IsGoodTop (area_of part link.0) link.0 (area_count part.geometry) link.1 top
    good = record {
      head = here.chain.head;
      goes = record {
        begins = here.chain.begins;
        ends = λ none. subst (IsFollowed part (LinksIn part image here.left) top) none
            here.chain.next;
      };
      there = by_next (record_in top).next here.chain.next;
      other = λ same. leads-new part image chain at link here link.0 same
          (among-first (areas_in part image) at at link.0 (link-area part image at link is)
          (omega arith));
    }
      where
        there-by : (left next : ℕ) (low : Option (List ℕ)) → LinksIn part image left next low
            → next < area_count part.geometry
        there-by zero next low none = absurd none
        there-by (suc left) next low some = some.there

        by_next : (next : Option ℕ) → IsFollowed part (LinksIn part image here.left) top next
            → IfSome next (λ (n : ℕ). n < area_count part.geometry)
        by_next None follows = tt
        by_next (Some next) follows = there-by here.left next (end_of top) follows

    -- nor do their intervals
    stands-whole : IsAreaWhole part image link
    stands-whole = record {
      head = good_sound (area_of part link.0) link.0 (area_count part.geometry) link.1 top good;
      intervals = λ i below entry got. holds-nth (area_of part link.0) image (low_of top)
          (entries_of top) i entry here.chain.intervals got;
    }

  -- damaged blocks stand for none in areas of the part's own
  pub damaged-alone : (Taken : ℕ → Type 0) (n : ℕ) (rule : Rule)
      → IsLinkedDamagedAt part Taken image n rule → StandsAlone part Taken image → ⊥
  damaged-alone Taken n rule damaged stands =
      ⊎_elim
      (λ bad. whole-bad damaged.link whole n rule (inl bad))
      (λ rest. ⊎_elim
      (λ bad. whole-bad damaged.link whole n rule (inr bad))
      (λ again. ⊎_elim
      (λ taken. stands.alone again.next
      (leads-inside part image chain damaged.at damaged.link here again.next again.leads)
      (λ first. new again.next again.leads
      (subst (Contains (take (suc damaged.at) (areas_in part image))) (sym first)
      (first-before part image damaged.at damaged.link damaged.is damaged.at))) taken)
      (λ has. new again.next again.leads has) again.before) rest) damaged.shown
    where
      chain : LinksIn part image (area_count part.geometry) part.first None
      chain = stands.content.1.chain

      here : StandsOn part image (areas_in part image) damaged.at damaged.link.0 damaged.link.1
      here = standing part image chain damaged.at damaged.link damaged.is

      whole : IsAreaWhole part image damaged.link
      whole = stands-whole chain damaged.at damaged.link damaged.is

      new : (next : ℕ) → (record_in (head_in part image damaged.link.0)).next ≡ Some next
          → Contains (take (suc damaged.at) (areas_in part image)) next → ⊥
      new = leads-new part image chain damaged.at damaged.link here

  -- ---- one damage at most

  module _ (Taken : ℕ → Type 0) where
    -- what is shown of a link: the area breaks a rule, or leads to one that was reached before
    by-shown : {P : Type 0} (n : ℕ) (rule : Rule)
        (damaged : IsLinkedDamagedAt part Taken image n rule) → (IsAreaBad damaged.link n rule → P)
        → (IsLinkedTwice part Taken image damaged.at damaged.link n rule → P) → P
    by-shown n rule damaged area twice = ⊎_elim (λ bad. area (inl bad))
        (λ rest. ⊎_elim (λ bad. area (inr bad)) twice rest) damaged.shown

    -- no later link is damaged
    later : (n m : ℕ) (rule other : Rule) (first : IsLinkedDamagedAt part Taken image n rule)
        (second : IsLinkedDamagedAt part Taken image m other) → first.at < second.at → ⊥
    later n m rule other first second less =
        by-shown n rule first
        (λ bad. whole-bad first.link (second.walked.sound first.at first.link less first.is) n rule
        bad)
        (λ again. second.walked.new first.at first.link again.next less first.is again.leads
        again.before)

    one-twice : (at : ℕ) (link : Link) (n m : ℕ) (rule other : Rule)
        → IsLinkedTwice part Taken image at link n rule
        → IsLinkedTwice part Taken image at link m other
        → (n ≡ m) × (rule_number rule ≡ rule_number other)
    one-twice at link n m rule other first second =
        let same : first.next ≡ second.next =
        ap (λ (next : Option ℕ). unwrap_or next first.next)
        (sym first.leads ∙ second.leads) in (
          first.block ∙ ap (head_of part) same ∙ sym second.block,
          ap rule_number (first.rule_is ∙ sym second.rule_is),
        )

    same-link : (n m : ℕ) (rule other : Rule) (first : IsLinkedDamagedAt part Taken image n rule)
        (second : IsLinkedDamagedAt part Taken image m other) → first.at ≡ second.at
        → (n ≡ m) × (rule_number rule ≡ rule_number other)
    same-link n m rule other first second at =
        let link : first.link ≡ second.link =
        ap (λ (o : Option Link). unwrap_or o first.link)
        (sym first.is ∙ ap (slice_get (links_in part image)) at ∙ second.is) in
        by-shown n rule first
        (λ bad.
        let moved : IsAreaBad second.link n rule =
        subst (λ (one : Link). IsAreaBad one n rule) link bad in
        by-shown m other second
        (λ bad_too. one-bad (area_of part second.link.0) second.link.0 (area_count part.geometry)
        second.link.1 image n m rule other moved bad_too)
        (λ again. absurd (whole-bad second.link again.whole n rule moved)))
        (λ again.
        let moved : IsLinkedTwice part Taken image second.at second.link n rule =
        subst (λ (i : ℕ). IsLinkedTwice part Taken image i second.link n rule) at
        (subst (λ (one : Link). IsLinkedTwice part Taken image first.at one n rule) link again) in
        by-shown m other second
        (λ bad. absurd (whole-bad second.link moved.whole m other bad))
        (λ again_too. one-twice second.at second.link n m rule other moved again_too))

    -- two that are shown are one
    pub damaged-once : (n m : ℕ) (rule other : Rule) → IsLinkedDamagedAt part Taken image n rule
        → IsLinkedDamagedAt part Taken image m other
        → (n ≡ m) × (rule_number rule ≡ rule_number other)
    damaged-once n m rule other first second = ⊎_elim
        (λ (less : first.at < second.at). absurd (later n m rule other first second less))
        (λ (most : second.at ≤ first.at). ⊎_elim
        (λ (more : second.at < first.at). absurd (later m n other rule second first more))
        (λ (least : first.at ≤ second.at).
        same-link n m rule other first second (omega (arith, least, most)))
        (cases_lt second.at first.at))
        (cases_lt first.at second.at)
