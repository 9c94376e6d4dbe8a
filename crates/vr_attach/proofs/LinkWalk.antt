-- A walk over the links of a chain: from an area that breaks no rule it goes on to a new one, or is
-- over; and it ends, since the volume has only so many areas.
use Rattle.std.proofs.Common.{◌≡◌, ◌≢◌, ◌⊎◌, inl, inr, ⊎_elim, ℕ, zero, suc, ◌+◌, ◌<◌, ◌≤◌, Bool}
use Rattle.std.proofs.Common.{true, false, IsTrue, List, [], ◌∷◌, ◌++◌, All, Option, Some, None}
use Rattle.std.proofs.Common.{append_assoc, length, map, take, refl, sym, ap, subst, ◌∙◌, arith}
use Rattle.std.proofs.Common.{true≢false}
use Rattle.std.specs.Prelude.{Contains, IfSome, nat_eq, unwrap_or}
use Rattle.std.specs.List.{IsDistinct, list_any, slice_get}
use Rattle.std.proofs.lemmas.Bool.{cases_lt}
use Rattle.std.proofs.lemmas.Cmp.{nat_eq_equiv}
use Rattle.std.proofs.lemmas.List.{length-append, length-map, map-append, take_at}
use Rattle.std.proofs.lemmas.List.Elements.{All-contains, All-nil, All-push, Contains-push}
use Rattle.std.proofs.lemmas.List.Elements.{Contains-push_cases}
use Rattle.std.proofs.lemmas.Map.Keys.{IsDistinct-push}
use Rattle.std.proofs.lemmas.Map.Steps.{length-le_from_distinct_below}
use Rattle.std.proofs.lemmas.Map.Views.{Contains-from_any, exact_unsigned_eq}
use Rattle.std.proofs.lemmas.Map.Views.{list_any-from_Contains}
use Rattle.vr_types.specs.Geometry.{area_count}
use Rattle.vr_types.specs.Image.{Block, Image}
use Rattle.vr_seqset.specs.Reading.{record_in}
use Rattle.vr_space.specs.Keyed.{entries_of, low_of}
use Rattle.vr_space.specs.Areas.{IsFollowed, IsKeyedChain, KeyedChain, LinksIn, area_of}
use Rattle.vr_space.specs.Areas.{areas_after, areas_in, content_after, end_of, head_in, head_of}
use Rattle.vr_space.specs.Rosters.{after_next}
use Rattle.vr_attach.specs.Linked.{IsAreaWhole, IsGoodTop, IsLinkedBefore, IsLinkedDamagedAt}
use Rattle.vr_attach.specs.Linked.{IsLinkedTo, StandsAlone, links_after, links_in}
use Rattle.vr_attach.specs.declared.rule.Rule.{Rule}
use Rattle.vr_attach.specs.declared.rule.Rule.TheVariants as rules
use Rattle.vr_attach.proofs.AreaDamage.{sound-or-bad}
use Rattle.vr_attach.proofs.LinkDamage.{IsAreaBad}
use Rattle.vr_attach.proofs.Links.{Link, areas-of}
use Rattle.vr_attach.proofs.Walks.{got-within, hold-all}

-- the areas of links
abbrev pub areas_along : List Link → List ℕ
areas_along links = map (λ (link : Link). link.0) links

-- and the one that a walk came to after them
abbrev pub areas_upto : List Link → ℕ → List ℕ
areas_upto before area = areas_along before ++ area ∷ []

-- The walk came to this area, whose ranges are to begin at the low place: the links before it break
-- no rule, and lead to areas that weren't reached before. The image has a chain where it goes on
-- from this one. So many areas at most follow it.
pub record IsAtLink (part : KeyedChain) (Taken : ℕ → Type 0) (image : Image) (before : List Link)
    (area : ℕ) (low : Option (List ℕ)) (left : ℕ) : Type 0 where
  pub many : length before + suc left ≡ area_count part.geometry
  pub links : links_in part image ≡ before ++ links_after part image (suc left) area low
  pub walked : IsLinkedTo part Taken image (length before)
  pub goes : LinksIn part image (suc left) area low
      → LinksIn part image (area_count part.geometry) part.first None
  pub apart : IsDistinct nat_eq (areas_upto before area)
  pub there : All (λ (other : ℕ). other < area_count part.geometry) (areas_upto before area)
  pub alone : (other : ℕ) → Contains (areas_upto before area) other → other ≢ part.first
      → Taken other → ⊥

-- ---- where it is in the list

at-length : (before rest : List Link) (link : Link)
    → slice_get (before ++ link ∷ rest) (length before) ≡ Some link
at-length [] rest link = refl
at-length (first ∷ before) rest link = at-length before rest link

up-to : (before rest : List ℕ) (area : ℕ)
    → take (suc (length before)) (before ++ area ∷ rest) ≡ before ++ area ∷ []
up-to before rest area =
    ap (take (suc (length before))) (sym (append_assoc before (area ∷ []) rest))
    ∙ take_at (before ++ area ∷ []) rest (suc (length before))
    (length-append before (area ∷ []) ∙ omega arith)

-- whether a list of numbers has this one
has-or-not : (xs : List ℕ) (x : ℕ) → Contains xs x ⊎ (list_any (nat_eq x) xs ≡ false)
has-or-not xs x = by_test (list_any (nat_eq x) xs) refl
  where
    by_test : (test : Bool) → list_any (nat_eq x) xs ≡ test
        → Contains xs x ⊎ (list_any (nat_eq x) xs ≡ false)
    by_test true is = inl (Contains-from_any exact_unsigned_eq x xs is)
    by_test false is = inr is

module _ (part : KeyedChain) (Taken : ℕ → Type 0) (image : Image) (before : List Link) (area : ℕ)
    (low : Option (List ℕ)) (left : ℕ) (walk : IsAtLink part Taken image before area low left) where
  abbrev at : ℕ
  at = length before

  abbrev top : Block
  top = head_in part image area

  abbrev rest : List Link
  rest = after_next [] (λ next. links_after part image left next (end_of top)) (record_in top).next

  is-here : slice_get (links_in part image) at ≡ Some (area, low)
  is-here = ap (λ (links : List Link). slice_get links at) walk.links
      ∙ at-length before rest (area, low)

  listed : areas_in part image ≡ areas_along before ++ areas_after part image (suc left) area
  listed = sym (areas-of part image (area_count part.geometry) part.first None)
      ∙ ap areas_along walk.links
      ∙ map-append (λ (link : Link). link.0) before (links_after part image (suc left) area low)
      ∙ ap (λ (areas : List ℕ). areas_along before ++ areas)
      (areas-of part image (suc left) area low)

  before-here : take (suc at) (areas_in part image) ≡ areas_upto before area
  before-here = ap (take (suc at)) listed
      ∙ ap (λ (n : ℕ). take (suc n)
      (areas_along before ++ areas_after part image (suc left) area))
      (sym (length-map before (λ (link : Link). link.0)))
      ∙ up-to (areas_along before)
      (after_next [] (areas_after part image left) (record_in top).next) area

  -- what was reached before is what is taken, or one of the areas up to this one
  reached : (other : ℕ) → Taken other ⊎ Contains (areas_upto before area) other
      → IsLinkedBefore part Taken image at other
  reached other = λ was. subst (λ (areas : List ℕ). Taken other ⊎ Contains areas other)
      (sym before-here) was

  was-reached : (other : ℕ) → IsLinkedBefore part Taken image at other
      → Taken other ⊎ Contains (areas_upto before area) other
  was-reached other = λ was. subst (λ (areas : List ℕ). Taken other ⊎ Contains areas other)
      before-here was

  -- ---- it is damaged

  -- the area breaks a rule,
  pub link-bad : (n : ℕ) (rule : Rule) → IsAreaBad part image (area, low) n rule
      → IsLinkedDamagedAt part Taken image n rule
  link-bad n rule bad = record {
    at = at;
    link = (area, low);
    is = is-here;
    walked = walk.walked;
    shown = ⊎_elim (λ head. inl head) (λ interval. inr (inl interval)) bad;
  }

  -- or leads to one that was reached before
  pub link-twice : IsAreaWhole part image (area, low) → (next : ℕ)
      → (record_in top).next ≡ Some next → Taken next ⊎ Contains (areas_upto before area) next
      → (n : ℕ) → n ≡ head_of part next → (rule : Rule) → rule ≡ rules.AreaTwice
      → IsLinkedDamagedAt part Taken image n rule
  link-twice whole next leads was n block rule is = record {
    at = at;
    link = (area, low);
    is = is-here;
    walked = walk.walked;
    shown = inr (inr (record {
      whole = whole;
      next = next;
      leads = leads;
      before = reached next was;
      block = block;
      rule_is = is;
    }));
  }

  -- ---- it breaks no rule

  module _ (whole : IsAreaWhole part image (area, low))
      (good : IsGoodTop (area_of part area) area (area_count part.geometry) low top) where
    -- so the image has a chain from it on, where it has one from what follows
    goes-on : IsFollowed part (LinksIn part image left) top (record_in top).next
        → LinksIn part image (area_count part.geometry) part.first None
    goes-on follows = walk.goes (record {
      there = All-contains (λ (other : ℕ). other < area_count part.geometry)
          (areas_upto before area) area walk.there
          (Contains-push (areas_along before) area);
      head = good.head;
      intervals = hold-all (area_of part area) image (low_of top) (entries_of top)
          (λ i entry is. whole.intervals i (got-within (entries_of top) i entry is) entry is);
      begins = good.goes.begins;
      next = follows;
    })

    -- Where it is the last one, the image has a chain,
    pub walked-over : (record_in top).next ≡ None
        → LinksIn part image (area_count part.geometry) part.first None
    walked-over none = goes-on
        (subst (IsFollowed part (LinksIn part image left) top) (sym none) (good.goes.ends none))

    -- of the areas up to it,
    pub walked-areas : (record_in top).next ≡ None
        → areas_in part image ≡ areas_upto before area
    walked-areas none = listed
        ∙ ap (λ (next : Option ℕ).
        areas_along before ++ area ∷ after_next [] (areas_after part image left) next) none

    -- and the blocks stand for a content in areas of the part's own.
    pub walked-alone : IsKeyedChain part → (record_in top).next ≡ None
        → StandsAlone part Taken image
    walked-alone part_is none = record {
      content = (
        content_after part image (area_count part.geometry) part.first,
        record { part_is = part_is; chain = walked-over none; records = refl },
      );
      alone = λ other has. walk.alone other
          (subst (λ (areas : List ℕ). Contains areas other) (walked-areas none) has);
    }

    module _ (next : ℕ) (leads : (record_in top).next ≡ Some next)
        (new : list_any (nat_eq next) (areas_upto before area) ≡ false)
        (free : Taken next → ⊥) where
      is-new : Contains (areas_upto before area) next → ⊥
      is-new has = true≢false
          (sym (list_any-from_Contains nat_eq_equiv next (areas_upto before area) has) ∙ new)

      -- the links up to it break no rule, and lead on to new areas
      walked-more : IsLinkedTo part Taken image (suc at)
      walked-more = record {
        sound = λ i link below is. ⊎_elim
            (λ less. walk.walked.sound i link less is)
            (λ most. subst (IsAreaWhole part image) (sym (one i link below most is)) whole)
            (cases_lt i at);
        new = λ i link after below is follows was. ⊎_elim
            (λ less. walk.walked.new i link after less is follows was)
            (λ most.
            let here : i ≡ at = omega (arith, most, below) in
            let after-is : after ≡ next =
            next-one link after (ap (λ (l : Link). l.0) (one i link below most is)) follows in
            ⊎_elim free is-new (was-reached next
            (subst (IsLinkedBefore part Taken image at) after-is
            (subst (λ (j : ℕ). IsLinkedBefore part Taken image j after) here was))))
            (cases_lt i at);
      }
        where
          one : (i : ℕ) (link : Link) → i < suc at → at ≤ i
              → slice_get (links_in part image) i ≡ Some link → link ≡ (area, low)
          one i link below most is =
              let here : i ≡ at = omega (arith, most, below) in
              ap (λ (o : Option Link). unwrap_or o link)
              (sym is ∙ ap (slice_get (links_in part image)) here ∙ is-here)

          next-one : (link : Link) (after : ℕ) → link.0 ≡ area
              → (record_in (head_in part image link.0)).next ≡ Some after → after ≡ next
          next-one link after same follows =
              ap (λ (o : Option ℕ). unwrap_or o after)
              (sym follows ∙ ap (λ (a : ℕ). (record_in (head_in part image a)).next) same ∙ leads)

      apart-more : IsDistinct nat_eq (areas_upto before area ++ next ∷ [])
      apart-more = IsDistinct-push nat_eq_equiv (areas_upto before area) next walk.apart new

      there-more : All (λ (other : ℕ). other < area_count part.geometry)
          (areas_upto before area ++ next ∷ [])
      there-more = All-push (λ (other : ℕ). other < area_count part.geometry)
          (areas_upto before area) next walk.there
          (subst (λ (o : Option ℕ). IfSome o (λ (n : ℕ). n < area_count part.geometry)) leads
          good.there)

      -- The volume has an area more for it: no area comes twice, and each is one of the volume's.
      pub room-left : 0 < left
      room-left =
          let most : length (areas_upto before area ++ next ∷ []) ≤ area_count part.geometry =
          length-le_from_distinct_below (areas_upto before area ++ next ∷ [])
          (area_count part.geometry) apart-more
          (λ other is. All-contains (λ (n : ℕ). n < area_count part.geometry)
          (areas_upto before area ++ next ∷ []) other there-more
          (Contains-from_any exact_unsigned_eq other (areas_upto before area ++ next ∷ []) is)) in
          omega (
            arith,
            most,
            walk.many,
            length-append (areas_upto before area) (next ∷ []),
            length-append (areas_along before) (area ∷ []),
            length-map before (λ (link : Link). link.0),
          )

      -- it goes on to the next
      pub walked-on : (less : ℕ) → left ≡ suc less
          → IsAtLink part Taken image (before ++ (area, low) ∷ []) next (end_of top) less
      walked-on less is = record {
        many = omega (arith, length-append before ((area, low) ∷ []), walk.many, is);
        links = walk.links
            ∙ ap (λ (o : Option ℕ). before ++ (area, low) ∷ after_next []
            (λ further. links_after part image left further (end_of top)) o) leads
            ∙ ap (λ (k : ℕ). before ++ (area, low) ∷ links_after part image k next (end_of top)) is
            ∙ sym (append_assoc before ((area, low) ∷ [])
            (links_after part image (suc less) next (end_of top)));
        walked = subst (IsLinkedTo part Taken image)
            (sym (length-append before ((area, low) ∷ []) ∙ omega arith)) walked-more;
        goes = λ further. goes-on (subst (IsFollowed part (LinksIn part image left) top) (sym leads)
            (subst (λ (k : ℕ). LinksIn part image k next (end_of top)) (sym is) further));
        apart = subst (IsDistinct nat_eq) (sym areas-more) apart-more;
        there = subst (All (λ (other : ℕ). other < area_count part.geometry)) (sym areas-more)
            there-more;
        alone = λ other has differs taken. ⊎_elim
            (λ earlier. walk.alone other earlier differs taken)
            (λ same. free (subst Taken (sym same) taken))
            (Contains-push_cases (areas_upto before area) next other
            (subst (λ (areas : List ℕ). Contains areas other) areas-more has));
      }
        where
          areas-more : areas_upto (before ++ (area, low) ∷ []) next
              ≡ areas_upto before area ++ next ∷ []
          areas-more = ap (λ (areas : List ℕ). areas ++ next ∷ [])
              (map-append (λ (link : Link). link.0) before ((area, low) ∷ []))

-- ---- where it begins

none-apart : IsDistinct nat_eq []
unfolding IsDistinct
none-apart = tt

pub walk-begins : (part : KeyedChain) (Taken : ℕ → Type 0) (image : Image) (left : ℕ)
    → part.first < area_count part.geometry → area_count part.geometry ≡ suc left
    → IsAtLink part Taken image [] part.first None left
walk-begins part Taken image left there is = record {
  many = omega (arith, is);
  links = ap (λ (k : ℕ). links_after part image k part.first None) is;
  walked = record {
    sound = λ i link below got. absurd (omega (arith, below));
    new = λ i link next below got leads was. absurd (omega (arith, below));
  };
  goes = λ chain. subst (λ (k : ℕ). LinksIn part image k part.first None) (sym is) chain;
  apart = IsDistinct-push nat_eq_equiv [] part.first none-apart refl;
  there = All-push (λ (other : ℕ). other < area_count part.geometry) [] part.first
      (All-nil (λ (other : ℕ). other < area_count part.geometry)) there;
  alone = λ other has differs taken. ⊎_elim
      (λ none. absurd (omega (arith, none.1)))
      (λ same. differs (sym same))
      (Contains-push_cases [] part.first other has);
}

-- ---- what it comes to

module _ (part : KeyedChain) (taken : ℕ → Bool) (image : Image) (part_is : IsKeyedChain part) where
  abbrev Taken : ℕ → Type 0
  Taken area = IsTrue (taken area)

  module _ (not : StandsAlone part Taken image → ⊥)
      (none : (n : ℕ) (rule : Rule) → IsLinkedDamagedAt part Taken image n rule → ⊥) where
    -- an area more, where the walk comes to nothing from the next one on
    one-more : (left area : ℕ) (low : Option (List ℕ)) (before : List Link)
        → IsAtLink part Taken image before area low left
        → ((less next : ℕ) (bound : Option (List ℕ)) (links : List Link) → left ≡ suc less
        → IsAtLink part Taken image links next bound less → ⊥) → ⊥
    one-more left area low before walk further =
        sound-or-bad (area_of part area) area (area_count part.geometry) low image
        (λ good whole. by_next (record_in top).next refl good whole)
        (λ n rule bad. none n rule (link-bad part Taken image before area low left walk n rule bad))
      where
        top : Block
        top = head_in part image area

        by_left : (next : ℕ) → (record_in top).next ≡ Some next
            → list_any (nat_eq next) (areas_upto before area) ≡ false → (Taken next → ⊥)
            → IsGoodTop (area_of part area) area (area_count part.geometry) low top
            → IsAreaWhole part image (area, low) → (k : ℕ) → left ≡ k → ⊥
        by_left next leads new free good whole zero is =
            let some : 0 < left =
            room-left part Taken image before area low left walk whole good next leads new free in
            omega (arith, some, is)
        by_left next leads new free good whole (suc less) is =
            further less next (end_of top) (before ++ (area, low) ∷ []) is
            (walked-on part Taken image before area low left walk whole good next leads new free
            less is)

        twice : (next : ℕ) → (record_in top).next ≡ Some next → IsAreaWhole part image (area, low)
            → Taken next ⊎ Contains (areas_upto before area) next → ⊥
        twice next leads whole was = none (head_of part next) rules.AreaTwice
            (link-twice part Taken image before area low left walk whole next leads was
            (head_of part next) refl rules.AreaTwice refl)

        by_taken : (next : ℕ) → (record_in top).next ≡ Some next
            → IsGoodTop (area_of part area) area (area_count part.geometry) low top
            → IsAreaWhole part image (area, low) → (test : Bool) → taken next ≡ test → ⊥
        by_taken next leads good whole true is = twice next leads whole (inl is)
        by_taken next leads good whole false is = ⊎_elim
            (λ has. twice next leads whole (inr has))
            (λ new. by_left next leads new (λ held. true≢false (sym held ∙ is)) good whole left
            refl)
            (has-or-not (areas_upto before area) next)

        by_next : (next : Option ℕ) → (record_in top).next ≡ next
            → IsGoodTop (area_of part area) area (area_count part.geometry) low top
            → IsAreaWhole part image (area, low) → ⊥
        by_next None leads good whole =
            not (walked-alone part Taken image before area low left walk whole good part_is leads)
        by_next (Some next) leads good whole =
            by_taken next leads good whole (taken next) refl

    walk-ends : (left area : ℕ) (low : Option (List ℕ)) (before : List Link)
        → IsAtLink part Taken image before area low left → ⊥
    walk-ends zero area low before walk = one-more zero area low before walk
        (λ less next bound links is on. omega (arith, is))
    walk-ends (suc left) area low before walk = one-more (suc left) area low before walk
        (λ less next bound links is on. walk-ends left next bound links
        (subst (IsAtLink part Taken image links next bound) (omega (arith, is)) on))

    -- it comes to damage, or to the end of a chain in areas of the part's own
    pub alone-or-damaged : ⊥
    alone-or-damaged = by_count (area_count part.geometry) refl
      where
        by_count : (count : ℕ) → area_count part.geometry ≡ count → ⊥
        by_count zero is = omega (arith, is, part_is.first)
        by_count (suc left) is = walk-ends left part.first None []
            (walk-begins part Taken image left part_is.first is)
