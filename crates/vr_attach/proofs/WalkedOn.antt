-- One area more of a walk over a chain of keyed areas: it goes on, it is over, or it comes to what
-- breaks a rule.
use Rattle.std.proofs.Common.{◌≡◌, ◌⊎◌, inl, inr, ⊎_elim, ◌<◌, ◌≤◌, ◌+◌, ◌++◌, ℕ, zero, suc, List}
use Rattle.std.proofs.Common.{[]}
use Rattle.std.proofs.Common.{◌∷◌, length, map, Option, Some, None, refl, sym, ap, subst, ◌∙◌}
use Rattle.std.proofs.Common.{arith}
use Rattle.std.proofs.Common.{append_assoc, take}
use Rattle.std.specs.Prelude.{Contains, unwrap_or}
use Rattle.std.specs.List.{last_or, slice_get}
use Rattle.std.proofs.lemmas.Bool.{cases_lt}
use Rattle.std.proofs.lemmas.List.{length-append, map_push, take_at}
use Rattle.std.proofs.lemmas.Option.{slice_get_within}
use Rattle.vr_types.specs.Geometry.{area_count}
use Rattle.vr_types.specs.Image.{Block, Image}
use Rattle.vr_seqset.specs.Reading.{record_in}
use Rattle.vr_space.specs.Keyed.{entries_of, low_of}
use Rattle.vr_space.specs.Rosters.{after_next}
use Rattle.vr_space.specs.Areas.{IsFollowed, IsLinkedIn, KeyedChain, LinksIn, area_of, areas_after}
use Rattle.vr_space.specs.Areas.{areas_in, end_of, head_in, head_of, intervals_over}
use Rattle.vr_attach.specs.Areas.{AreasNow}
use Rattle.vr_attach.specs.Linked.{IsAreaWhole, IsGoodTop, IsKeyedAreaBad}
use Rattle.vr_attach.specs.Linked.{IsLinkedBefore, IsLinkedDamagedAt, IsLinkedTo, links_after}
use Rattle.vr_attach.specs.Linked.{links_in}
use Rattle.vr_attach.specs.Walked.{IsAdded, IsWalkedAt, IsWalkedOver, low_after}
use Rattle.vr_attach.specs.declared.rule.Rule.{Rule}
use Rattle.vr_attach.specs.declared.rule.Rule.TheVariants as rules
use Rattle.vr_attach.proofs.Walks.{hold-all}

-- ---- where it is in the list

some-same : {X : Type 0} (one other : X) → Some one ≡ Some other → one ≡ other
some-same {X} one other same = ap (λ (o : Option X). unwrap_or o one) same

at-length : {X : Type 0} (before rest : List X) (x : X)
    → slice_get (before ++ x ∷ rest) (length before) ≡ Some x
at-length [] rest x = refl
at-length (first ∷ before) rest x = at-length before rest x

up-to : (before rest : List ℕ) (area : ℕ)
    → take (suc (length before)) (before ++ area ∷ rest) ≡ before ++ area ∷ []
up-to before rest area =
    ap (take (suc (length before))) (sym (append_assoc before (area ∷ []) rest))
    ∙ take_at (before ++ area ∷ []) rest (suc (length before))
    (length-append before (area ∷ []) ∙ omega arith)

last-by : (o : Option (List ℕ)) (ends : List (List ℕ)) (end : List ℕ)
    → last_or o (ends ++ end ∷ []) ≡ Some end
last-by o [] end = refl
last-by o (first ∷ ends) end = last-by (Some first) ends end

-- where the last area ends
pub low-push : (ends : List (List ℕ)) (end : List ℕ) → low_after (ends ++ end ∷ []) ≡ Some end
low-push ends end = last-by None ends end

-- how many intervals there are with those of one area more
over-push : (part : KeyedChain) (image : Image) (area : ℕ) (areas : List ℕ)
    → intervals_over part image (areas ++ area ∷ [])
    ≡ intervals_over part image areas + length (entries_of (head_in part image area))
over-push part image area [] = omega arith
over-push part image area (first ∷ areas) = omega (arith, over-push part image area areas)

-- ---- the area that it came to

module _ (Taken : ℕ → Type 0) (image : Image) (now : AreasNow) (area : ℕ)
    (walk : IsWalkedAt Taken image now area) where
  abbrev part : KeyedChain
  part = now.part

  abbrev count : ℕ
  count = area_count part.geometry

  abbrev at : ℕ
  at = length now.areas

  abbrev link : ℕ × Option (List ℕ)
  link = (area, low_after now.ends)

  abbrev top : Block
  top = head_in part image area

  is-here : slice_get (links_in part image) at ≡ Some link
  is-here =
      let rest : List (ℕ × Option (List ℕ)) =
      after_next [] (λ next. links_after part image walk.left next (end_of top))
      (record_in top).next in
      ap (λ (links : List (ℕ × Option (List ℕ))). slice_get links at) walk.links
      ∙ ap (slice_get (walk.before ++ link ∷ rest)) (sym walk.as_many)
      ∙ at-length walk.before rest link

  before-here : take (suc at) (areas_in part image) ≡ now.areas ++ area ∷ []
  before-here = ap (take (suc at)) walk.areas ∙ up-to now.areas
      (after_next [] (areas_after part image walk.left) (record_in top).next) area

  -- what was reached before is what had an owner, or one of the areas so far
  reached : (other : ℕ) → Taken other ⊎ Contains (now.areas ++ area ∷ []) other
      → IsLinkedBefore part Taken image at other
  reached other = λ was. subst (λ (areas : List ℕ). Taken other ⊎ Contains areas other)
      (sym before-here) was

  -- and the other way round
  was-reached : (other : ℕ) → IsLinkedBefore part Taken image at other
      → Taken other ⊎ Contains (now.areas ++ area ∷ []) other
  was-reached other = λ was. subst (λ (areas : List ℕ). Taken other ⊎ Contains areas other)
      before-here was

  -- ---- it breaks a rule

  pub area-bad : (n : ℕ) (rule : Rule)
      → IsKeyedAreaBad (area_of part area) area count (low_after now.ends) image n rule
      → IsLinkedDamagedAt part Taken image n rule
  area-bad n rule bad = record {
    at = at;
    link = link;
    is = is-here;
    walked = walk.walked;
    shown = ⊎_elim (λ head. inl head) (λ under. inr (inl under)) bad;
  }

  pub area-twice : IsAreaWhole part image link → (next : ℕ) → (record_in top).next ≡ Some next
      → Taken next ⊎ Contains (now.areas ++ area ∷ []) next → (n : ℕ) → n ≡ head_of part next
      → (rule : Rule) → rule ≡ rules.AreaTwice → IsLinkedDamagedAt part Taken image n rule
  area-twice whole next leads was n block rule is = record {
    at = at;
    link = link;
    is = is-here;
    walked = walk.walked;
    shown = inr (inr (record {
      whole = whole;
      next = next;
      leads = leads;
      before = reached next was;
      block = block;
      rule_is = is;
    }));
  }

  -- ---- it breaks none

  module _ (there : area < count) (whole : IsAreaWhole part image link)
      (good : IsGoodTop (area_of part area) area count (low_after now.ends) top) where
    linked : (After : ℕ → Option (List ℕ) → Type 0)
        → IsFollowed part After top (record_in top).next
        → IsLinkedIn part image area (low_after now.ends) After
    linked After follows = record {
      there = there;
      head = good.head;
      intervals = hold-all (area_of part area) image (low_of top) (entries_of top)
          (λ i entry is. whole.intervals i (slice_get_within (entries_of top) i entry is) entry is);
      begins = good.goes.begins;
      next = follows;
    }

    module _ (new : AreasNow) (added : IsAdded top area now new) where
      abbrev with_it : AreasNow
      with_it = record {
        part = now.part;
        areas = now.areas ++ area ∷ [];
        ends = now.ends ++ added.end ∷ [];
        intervals = now.intervals + length (entries_of top);
      }

      counted-with : with_it.intervals ≡ intervals_over part image with_it.areas
      counted-with = ap (λ (n : ℕ). n + length (entries_of top)) walk.counted
          ∙ sym (over-push part image area now.areas)

      ends-are : map Some with_it.ends
          ≡ map (λ (one : ℕ). end_of (head_in part image one)) with_it.areas
      ends-are =
          map_push Some now.ends added.end
          ∙ ap (λ (ends : List (Option (List ℕ))). ends ++ Some added.end ∷ []) walk.ends
          ∙ ap (λ (end : Option (List ℕ)).
          map (λ (one : ℕ). end_of (head_in part image one)) now.areas ++ end ∷ [])
          (sym added.end_is)
          ∙ sym (map_push (λ (one : ℕ). end_of (head_in part image one)) now.areas area)

      areas-over : (record_in top).next ≡ None → areas_in part image ≡ now.areas ++ area ∷ []
      areas-over none = walk.areas ∙ ap (λ (next : Option ℕ).
          now.areas ++ area ∷ after_next [] (areas_after part image walk.left) next) none

      -- it is the last one
      pub walked-over : (record_in top).next ≡ None → IsWalkedOver image new
      walked-over none = subst (IsWalkedOver image) (sym added.new_is) (record {
        chain = walk.goes (linked (LinksIn part image walk.left)
            (subst (IsFollowed part (LinksIn part image walk.left) top) (sym none)
            (good.goes.ends none)));
        knows = record {
          areas_are = sym (areas-over none);
          ends_are = ends-are;
        };
        counted = counted-with ∙ sym (ap (intervals_over part image) (areas-over none));
      })

      module _ (next : ℕ) (leads : (record_in top).next ≡ Some next)
          (other : (Taken next ⊎ Contains (now.areas ++ area ∷ []) next) → ⊥) where
        -- the areas up to it break no rule, and lead on to new ones
        walked-more : IsLinkedTo part Taken image (suc at)
        walked-more = record {
          sound = λ i one below is. ⊎_elim
              (λ less. walk.walked.sound i one less is)
              (λ most. subst (IsAreaWhole part image) (sym (same i one below most is)) whole)
              (cases_lt i at);
          new = λ i one after below is follows was. ⊎_elim
              (λ less. walk.walked.new i one after less is follows was)
              (λ most.
              let here : i ≡ at = omega (arith, most, below) in
              let after-is : after ≡ next = next-one one after (same i one below most is) follows in
              other (was-reached next
              (subst (IsLinkedBefore part Taken image at) after-is
              (subst (λ (j : ℕ). IsLinkedBefore part Taken image j after) here was))))
              (cases_lt i at);
        }
          where
            same : (i : ℕ) (one : ℕ × Option (List ℕ)) → i < suc at → at ≤ i
                → slice_get (links_in part image) i ≡ Some one → one ≡ link
            same i one below most is =
                let here : i ≡ at = omega (arith, most, below) in
                some-same one link
                (sym is ∙ ap (slice_get (links_in part image)) here ∙ is-here)

            next-one : (one : ℕ × Option (List ℕ)) (after : ℕ) → one ≡ link
                → (record_in (head_in part image one.0)).next ≡ Some after → after ≡ next
            next-one one after is follows =
                some-same after next
                (sym follows
                ∙ ap (λ (l : ℕ × Option (List ℕ)). (record_in (head_in part image l.0)).next) is
                ∙ leads)

        -- it goes on
        pub walked-on : length now.areas + 1 < count → IsWalkedAt Taken image new next
        walked-on room = subst (λ (areas : AreasNow). IsWalkedAt Taken image areas next)
            (sym added.new_is) (by_left walk.left refl)
          where
            long : length with_it.areas ≡ suc at
            long = length-append now.areas (area ∷ []) ∙ omega arith

            end-is : low_after with_it.ends ≡ end_of top
            end-is = low-push now.ends added.end ∙ sym added.end_is

            by_left : (left : ℕ) → walk.left ≡ left → IsWalkedAt Taken image with_it next
            by_left zero none = absurd (omega (arith, room, walk.many, none))
            by_left (suc left) is = record {
              left = left;
              many = omega (arith, long, walk.many, is);
              areas = walk.areas
                  ∙ ap (λ (after : Option ℕ).
                  now.areas ++ area ∷ after_next [] (areas_after part image walk.left) after) leads
                  ∙ ap (λ (k : ℕ). now.areas ++ area ∷ areas_after part image k next) is
                  ∙ sym (append_assoc now.areas (area ∷ [])
                  (areas_after part image (suc left) next));
              ends = ends-are;
              counted = counted-with;
              before = walk.before ++ link ∷ [];
              links = walk.links
                  ∙ ap (λ (after : Option ℕ). walk.before ++ link ∷ after_next []
                  (λ one. links_after part image walk.left one (end_of top)) after) leads
                  ∙ ap (λ (k : ℕ). walk.before ++ link ∷ links_after part image k next (end_of top))
                  is
                  ∙ ap (λ (low : Option (List ℕ)). walk.before ++ link
                  ∷ links_after part image (suc left) next low) (sym end-is)
                  ∙ sym (append_assoc walk.before (link ∷ [])
                  (links_after part image (suc left) next (low_after with_it.ends)));
              as_many = length-append walk.before (link ∷ []) ∙ ap (λ (n : ℕ). n + 1) walk.as_many
                  ∙ sym (length-append now.areas (area ∷ []));
              walked = subst (IsLinkedTo part Taken image) (sym long) walked-more;
              goes = λ further. walk.goes (linked (LinksIn part image walk.left)
                  (subst (IsFollowed part (LinksIn part image walk.left) top) (sym leads)
                  (subst (λ (k : ℕ). LinksIn part image k next (end_of top)) (sym is)
                  (subst (LinksIn part image (suc left) next) end-is further))));
            }

-- ---- where it begins

abbrev none_yet : KeyedChain → AreasNow
none_yet part = record { part = part; areas = []; ends = []; intervals = 0 }

pub walk-first : (part : KeyedChain) (Taken : ℕ → Type 0) (image : Image)
    → part.first < area_count part.geometry
    → IsWalkedAt Taken image (none_yet part) part.first
walk-first part Taken image first = by_count (area_count part.geometry) refl
  where
    by_count : (count : ℕ) → area_count part.geometry ≡ count
        → IsWalkedAt Taken image (none_yet part) part.first
    by_count zero none = absurd (omega (arith, none, first))
    by_count (suc left) is = record {
      left = left;
      many = omega (arith, is);
      areas = ap (λ (k : ℕ). areas_after part image k part.first) is;
      ends = refl;
      counted = refl;
      before = [];
      links = ap (λ (k : ℕ). links_after part image k part.first None) is;
      as_many = refl;
      walked = record {
        sound = λ i link below is. absurd (omega (arith, below));
        new = λ i link next below is follows was. absurd (omega (arith, below));
      };
      goes = λ chain. subst (λ (k : ℕ). LinksIn part image k part.first None) (sym is) chain;
    }
