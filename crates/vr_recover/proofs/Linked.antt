-- What is shown of a keyed part by which areas are taken: as much by fewer of them, where the
-- others begin its chain.
use Rattle.std.proofs.Common.{◌≡◌, ◌⊎◌, ⊎_elim, inl, inr, ℕ, zero, suc, ◌<◌, List, [], ◌∷◌, arith}
use Rattle.std.proofs.Common.{refl, get_or, take}
use Rattle.std.specs.Prelude.{Contains}
use Rattle.vr_types.specs.Image.{Image}
use Rattle.vr_space.specs.Areas.{KeyedChain, areas_after, areas_in}
use Rattle.vr_attach.specs.Linked.{IsLinkedBefore, IsLinkedShown}

-- ---- the first area of a chain

pub take-more : (k : ℕ) (xs : List ℕ) (x : ℕ) → Contains (take 1 xs) x
    → Contains (take (suc k) xs) x
take-more k [] x has = absurd (omega (arith, has.1))
take-more k (first ∷ xs) x has = (0, omega arith, at-first has.0 has.1 has.2)
  where
    at-first : (i : ℕ) → i < 1 → get_or (first ∷ []) i x ≡ x → first ≡ x
    at-first zero below is = is
    at-first (suc i) below is = absurd (omega (arith, below))

pub begins-areas : (part : KeyedChain) (image : Image) (n : ℕ) → 0 < n
    → Contains (take 1 (areas_after part image n part.first)) part.first
begins-areas part image zero some = absurd (omega (arith, some))
begins-areas part image (suc n) some = (0, omega arith, refl)

-- ---- by which areas are taken

module _ (part : KeyedChain) (image : Image) (Taken Other : ℕ → Type 0)
    (to : (area : ℕ) → Taken area → Other area ⊎ Contains (take 1 (areas_in part image)) area)
    (from : (area : ℕ) → Other area → Taken area) where
  before-to : (at area : ℕ) → IsLinkedBefore part Taken image at area
      → IsLinkedBefore part Other image at area
  before-to at area before = ⊎_elim
      (λ taken. ⊎_elim (λ other. inl other)
      (λ first. inr (take-more at (areas_in part image) area first)) (to area taken))
      (λ linked. inr linked) before

  before-from : (at area : ℕ) → IsLinkedBefore part Other image at area
      → IsLinkedBefore part Taken image at area
  before-from at area before =
      ⊎_elim (λ other. inl (from area other)) (λ linked. inr linked) before

  pub linked-to : (block number : ℕ) → IsLinkedShown part Taken image block number
      → IsLinkedShown part Other image block number
  linked-to block number shown = record {
    rule = shown.rule;
    number_is = shown.number_is;
    damaged = record {
      at = shown.damaged.at;
      link = shown.damaged.link;
      is = shown.damaged.is;
      walked = record {
        sound = shown.damaged.walked.sound;
        new = λ i link next below is leads before.
            shown.damaged.walked.new i link next below is leads (before-from i next before);
      };
      shown = ⊎_elim (λ head. inl head)
          (λ further. inr (⊎_elim (λ interval. inl interval)
          (λ twice. inr (record {
            whole = twice.whole;
            next = twice.next;
            leads = twice.leads;
            before = before-to shown.damaged.at twice.next twice.before;
            block = twice.block;
            rule_is = twice.rule_is;
          })) further)) shown.damaged.shown;
    };
  }
