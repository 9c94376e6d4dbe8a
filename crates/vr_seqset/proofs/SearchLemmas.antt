-- Searching the entries that are left.
use Rattle.std.proofs.Common.{◌≡◌, ℕ, zero, suc, ◌+◌, Bool, true, false, cond, List, [], ◌∷◌, drop}
use Rattle.std.proofs.Common.{Some, refl, sym, ap, ◌∙◌}
use Rattle.std.specs.List.{position, position_from, slice_get}
use Rattle.std.proofs.lemmas.Iterator.Adapters.{position_from-zero}
use Rattle.std.proofs.lemmas.List.{drop-drop}
use Rattle.vr_seqset.specs.Entry.{Entry}

-- the first i of all entries are passed, and none of them is the one
pub record Searches (test : Entry → Bool) (all : List Entry) (i : ℕ)
    (left : List Entry) : Type 0 where
  pub behind : left ≡ drop i all
  pub same : position test all ≡ position_from test i left

pub begins : (test : Entry → Bool) (all : List Entry) → Searches test all 0 all
begins test all = record { behind = refl; same = position_from-zero test all }

get_at : (all rest : List Entry) (i : ℕ) (e : Entry) → drop i all ≡ e ∷ rest
    → slice_get all i ≡ Some e
get_at [] rest zero e same = absurd cc
get_at [] rest (suc i) e same = absurd cc
get_at (x ∷ all) rest zero e same = cc
get_at (x ∷ all) rest (suc i) e same = get_at all rest i e same

rest_at : (all rest : List Entry) (i : ℕ) (e : Entry) → drop i all ≡ e ∷ rest
    → drop (i + 1) all ≡ rest
rest_at all rest i e same = sym (drop-drop 1 i all) ∙ ap (drop 1) same

pub passes : (test : Entry → Bool) (all left rest : List Entry) (i : ℕ) (e : Entry)
    → left ≡ e ∷ rest → test e ≡ false → Searches test all i left → Searches test all (i + 1) rest
passes test all left rest i e cut fails search = record {
  behind = sym (rest_at all rest i e (sym search.behind ∙ cut));
  same = search.same ∙ ap (position_from test i) cut
      ∙ ap (λ (b : Bool). cond b (Some i) (position_from test (i + 1) rest)) fails;
}

pub found : (test : Entry → Bool) (all left rest : List Entry) (i : ℕ) (e : Entry)
    → left ≡ e ∷ rest → test e ≡ true → Searches test all i left → position test all ≡ Some i
found test all left rest i e cut hits search =
    search.same ∙ ap (position_from test i) cut
    ∙ ap (λ (b : Bool). cond b (Some i) (position_from test (i + 1) rest)) hits

pub is_there : (test : Entry → Bool) (all left rest : List Entry) (i : ℕ) (e : Entry)
    → left ≡ e ∷ rest → Searches test all i left → slice_get all i ≡ Some e
is_there test all left rest i e cut search = get_at all rest i e (sym search.behind ∙ cut)
