-- The parts of a volume, attached one after another, and who owns its areas as they are.
use Rattle.std.proofs.Common.{◌≡◌, ◌≢◌, ◌⊎◌, ⊎_elim, inl, inr, ℕ, zero, suc, ◌+◌, ◌<◌, Bool, true}
use Rattle.std.proofs.Common.{false}
use Rattle.std.proofs.Common.{cond, List, [], ◌∷◌, ◌++◌, Option, Some, None, length, refl, sym, ap}
use Rattle.std.proofs.Common.{subst, ◌∙◌, arith, map, get_or, take, drop}
use Rattle.std.specs.Prelude.{Contains, filter, nat_eq, slice_get}
use Rattle.std.specs.List.{cons_option, filter_map}
use Rattle.std.specs.Option.{option_map}
use Rattle.std.specs.Set.{is_member}
use Rattle.std.proofs.lemmas.Bool.{ne_eqb, true≢false}
use Rattle.std.proofs.lemmas.Bool.Decides.{Decides-eqb, eqb_tells}
use Rattle.std.proofs.lemmas.List.{map-append, take-append-drop, take_all}
use Rattle.std.proofs.lemmas.List.Elements.{All-nil, All-push, filter_map-append}
use Rattle.std.proofs.lemmas.Map.Made.{is_member-Decides}
use Rattle.std.proofs.lemmas.Option.{get_or_from_slice_get, slice_get-get_or, slice_get-map}
use Rattle.std.proofs.lemmas.Option.{slice_get_within}
use Rattle.vr_types.specs.Geometry.{head_block}
use Rattle.vr_types.specs.Space.{is_owner}
use Rattle.vr_types.specs.declared.geometry.Geometry.{Geometry}
use Rattle.vr_types.specs.declared.unit.PartNo.{PartNo}
use Rattle.vr_catalog.specs.declared.entry.CatEntry.{CatEntry}
use Rattle.vr_attach.specs.Laid.{HasArea, catalog_shape, shape_in, shape_of}
use Rattle.vr_mount.specs.Areas.{AreFirstOwners, BeginsWith, IsLaidIn, catalog_part}
use Rattle.vr_mount.proofs.Blocks.{one_area}
use Rattle.vr_part.specs.Any.{known_any, shape_any}
use Rattle.vr_part.specs.declared.any.AnyPart.{AnyPart}
use Rattle.vr_space.specs.Known.{Known, held_with}
use Rattle.vr_space.specs.Part.{KeyedShape, NumberedShape, OwnsChain, Shape, held_by, owned_count}
use Rattle.vr_space.specs.Part.{part_no}
use Rattle.vr_recover.specs.Found.{AreAdded, AreAttached, HasFirst, MayAdd}
use Rattle.vr_recover.specs.Opening.{AreOwnersBy, HasNoSplit, IsHeldBy, OwnsAreas, shapes_laid}
use Rattle.vr_recover.specs.Undone.{HasPart}
use Rattle.vr_recover.proofs.Attaching.{entries-more, none-laid}
use Rattle.vr_recover.proofs.Shapes.{entry-laid, laid-number, laid-there, shape-number}
use Rattle.vr_recover.proofs.Shapes.{shapes-differ}

some-is : {X : Type 0} {x y : X} → Some x ≡ Some y → x ≡ y
some-is same = cc

some-none : {X : Type 0} {x : X} → Some x ≡ None → ⊥
some-none same = cc

pub same-part : (one other : PartNo) → one.0 ≡ other.0 → one ≡ other
same-part one other equal =
    ap (λ (n : ℕ). let part : PartNo = record { 0 = n } in part) equal

-- ---- whether a part has an area

in-or-not : (xs : List ℕ) (x : ℕ) → Contains xs x ⊎ (Contains xs x → ⊥)
in-or-not xs x = by (is_member nat_eq xs x) refl
  where
    by : (b : Bool) → is_member nat_eq xs x ≡ b → Contains xs x ⊎ (Contains xs x → ⊥)
    by true is = inl ((is_member-Decides Decides-eqb xs x).0 is)
    by false is = inr (λ has. true≢false (sym ((is_member-Decides Decides-eqb xs x).1 has) ∙ is))

pub has-or-not : (geometry : Geometry) (shape : Shape) (known : Known) (area : ℕ)
    → HasArea geometry shape known area ⊎ (HasArea geometry shape known area → ⊥)
has-or-not geometry shape known area = in-or-not (held_by shape known) area

-- A part with no split of an area under way holds the areas that it keeps of its chain.
pub held-none : (shape : Shape) (known : Known) → known.move ≡ None
    → held_by shape known ≡ known.areas
held-none (KeyedShape part) known none = ap (held_with known.areas) none
held-none (NumberedShape part) known none = refl

-- an area begins with a block of its own
pub head-is : (geometry : Geometry) (one other : ℕ)
    → head_block geometry one ≡ head_block geometry other → one ≡ other
head-is geometry one other same =
    one_area (1 + geometry.log) geometry.area one other (head_block geometry one) (omega arith)
    (omega arith) (omega (arith, same)) (omega (arith, same))

-- ---- how many areas a part owns

count-same : (part : PartNo) (old new : List (Option PartNo)) → length new ≡ length old
    → ((a : ℕ) → is_owner part (get_or new a None) ≡ is_owner part (get_or old a None))
    → owned_count part new ≡ owned_count part old
count-same part [] [] same each = refl
count-same part [] (x ∷ new) same each = absurd (omega (arith, same))
count-same part (x ∷ old) [] same each = absurd (omega (arith, same))
count-same part (x ∷ old) (y ∷ new) same each =
    by (is_owner part y) (is_owner part x) (each 0)
    (count-same part old new (omega (arith, same)) (λ a. each (suc a)))
  where
    by : (b d : Bool) → b ≡ d
        → length (filter (is_owner part) new) ≡ length (filter (is_owner part) old)
        → length (cond b (y ∷ filter (is_owner part) new) (filter (is_owner part) new))
        ≡ length (cond d (x ∷ filter (is_owner part) old) (filter (is_owner part) old))
    by true true both rest = ap suc rest
    by false false both rest = rest
    by true false both rest = absurd (true≢false both)
    by false true both rest = absurd (true≢false (sym both))

-- ---- lists with one more

get-append : {X : Type 0} (xs ys : List X) (k : ℕ) (x : X) → slice_get xs k ≡ Some x
    → slice_get (xs ++ ys) k ≡ Some x
get-append [] ys k x there = absurd (some-none (sym there))
get-append (first ∷ xs) ys zero x there = there
get-append (first ∷ xs) ys (suc k) x there = get-append xs ys k x there

pub get-end : {X : Type 0} (xs : List X) (x : X) → slice_get (xs ++ x ∷ []) (length xs) ≡ Some x
get-end [] x = refl
get-end (first ∷ xs) x = get-end xs x

pub map-push : {X Y : Type 0} (f : X → Y) (xs : List X) (x : X)
    → map f (xs ++ x ∷ []) ≡ map f xs ++ f x ∷ []
map-push f xs x = map-append f xs (x ∷ [])

-- the part at a place of the shapes
pub part-at : (parts : List AnyPart) (k : ℕ) (shape : Shape)
    → slice_get (map shape_any parts) k ≡ Some shape
    → (one : AnyPart) × (slice_get parts k ≡ Some one) × (shape_any one ≡ shape)
part-at parts k shape there =
    by (slice_get parts k) refl (sym (slice_get-map shape_any parts k) ∙ there)
  where
    by : (o : Option AnyPart) → slice_get parts k ≡ o → option_map shape_any o ≡ Some shape
        → (one : AnyPart) × (slice_get parts k ≡ Some one) × (shape_any one ≡ shape)
    by None is same = absurd (some-none (sym same))
    by (Some one) is same = (one, is, some-is same)

-- those that come before an entry and it are some of all
some-entries : {Y : Type 0} (f : CatEntry → Option Y) (entries : List CatEntry) (n k : ℕ) (y : Y)
    → slice_get (filter_map f (take n entries)) k ≡ Some y
    → slice_get (filter_map f entries) k ≡ Some y
some-entries f entries n k y there = subst (λ (es : List CatEntry).
    slice_get (filter_map f es) k ≡ Some y) (take-append-drop n entries)
    (subst (λ (ys : List _). slice_get ys k ≡ Some y)
    (sym (filter_map-append f (take n entries) (drop n entries)))
    (get-append (filter_map f (take n entries)) (filter_map f (drop n entries)) k y there))

some-shapes : (geometry : Geometry) (entries : List CatEntry) (n k : ℕ) (shape : Shape)
    → slice_get (shapes_laid geometry (take n entries)) k ≡ Some shape
    → slice_get (shapes_laid geometry entries) k ≡ Some shape
some-shapes geometry entries n zero shape there = there
some-shapes geometry entries n (suc k) shape there =
    some-entries (shape_of geometry) entries n k shape there

-- ---- a part among those that are attached

-- An entry that lays a part, as the walk comes to it.
module _ (geometry : Geometry) (entries : List CatEntry) (at : ℕ) (parts : List AnyPart)
    (owners : List (Option PartNo)) (may : MayAdd geometry entries)
    (added : AreAdded geometry entries at parts owners) (entry : CatEntry)
    (there : slice_get entries at ≡ Some entry) (shape : Shape)
    (laid : shape_of geometry entry ≡ Some shape) where
  shapes-with : map shape_any parts ++ shape ∷ [] ≡ shapes_laid geometry (take (at + 1) entries)
  shapes-with = entries-more geometry entries at entry
      (catalog_shape geometry ∷ []) (map shape_any parts) (map shape_any parts ++ shape ∷ [])
      (slice_get_within entries at entry there)
      (get_or_from_slice_get entries at entry entry there) added.shapes
      (ap (λ (o : Option Shape). map shape_any parts ++ cons_option o []) (sym laid))

  shape-there : (k : ℕ) (one : Shape) → slice_get (map shape_any parts ++ shape ∷ []) k ≡ Some one
      → slice_get (shapes_laid geometry entries) k ≡ Some one
  shape-there k one has = some-shapes geometry entries (at + 1) k one
      (ap (λ (s : List Shape). slice_get s k) (sym shapes-with) ∙ has)

  -- no part that was attached is of its number
  pub off-entry : (k : ℕ) (one : AnyPart) → slice_get parts k ≡ Some one
      → part_no (shape_any one) ≢ entry.part
  off-entry k one has same =
      let here : slice_get (map shape_any parts) k ≡ Some (shape_any one) =
      slice_get-map shape_any parts k ∙ ap (option_map shape_any) has in
      shapes-differ geometry entries may.distinct k (length (map shape_any parts)) (shape_any one)
      shape (shape-there k (shape_any one) (get-append (map shape_any parts) (shape ∷ []) k
      (shape_any one) here))
      (shape-there (length (map shape_any parts)) shape (get-end (map shape_any parts) shape))
      (λ equal. omega (arith, slice_get_within (map shape_any parts) k (shape_any one) here, equal))
      (ap (λ (n : PartNo). n.0) same ∙ sym (shape-number geometry entry shape laid))

  -- its first area is its own, and it has no other
  module _ (area : ℕ) (begins : BeginsWith (head_block geometry area) shape) where
    pub laid-in : IsLaidIn geometry entries entry.part.0 area
    laid-in = record {
      shape = shape;
      laid = entry-laid geometry entries may.distinct at entry shape there laid;
      begins = begins;
    }

    pub first-own : get_or owners area None ≡ Some entry.part
    first-own = added.attached.laid entry.part area laid-in

    pub first-alone : owned_count entry.part owners ≡ 1
    first-alone = added.attached.alone entry.part area laid-in (λ has.
        let one = part-at parts has.0 has.1 has.2 in
        off-entry has.0 one.0 one.1 (same-part (part_no (shape_any one.0)) entry.part
        (ap (λ (s : Shape). (part_no s).0) one.2 ∙ sym has.3)))

-- ---- one part more

-- The part of this number is attached, in areas that were free or its own.
pub record IsNewPart (geometry : Geometry) (owner : PartNo) (it : AnyPart)
    (old new : List (Option PartNo)) : Type 0 where
  pub area : ℕ
  pub number : part_no (shape_any it) ≡ owner
  pub begins : BeginsWith (head_block geometry area) (shape_any it)
  pub split : HasNoSplit it
  pub has : HasArea geometry (shape_any it) (known_any it) area
  pub owns : OwnsChain (shape_any it) (known_any it) new
  pub marked : (a : ℕ) → HasArea geometry (shape_any it) (known_any it) a
      → get_or new a None ≡ Some owner
  pub others : (a : ℕ) → (HasArea geometry (shape_any it) (known_any it) a → ⊥)
      → get_or new a None ≡ get_or old a None
  pub free : (a : ℕ) → HasArea geometry (shape_any it) (known_any it) a
      → (get_or old a None ≡ None) ⊎ (get_or old a None ≡ Some owner)
  pub count : length new ≡ length old

module _ (geometry : Geometry) (owner : PartNo) (it : AnyPart) (old new : List (Option PartNo))
    (is : IsNewPart geometry owner it old new) where
  first-has : HasFirst geometry it
  first-has a begins = subst (HasArea geometry (shape_any it) (known_any it))
      (head-is geometry is.area a (sym is.begins ∙ begins)) is.has

  -- what is another part's stays so
  others-stay : (part : PartNo) (a : ℕ) → part ≢ owner → get_or old a None ≡ Some part
      → get_or new a None ≡ Some part
  others-stay part a differs owned = is.others a (λ has. ⊎_elim
      (λ none. some-none (sym owned ∙ none))
      (λ own. differs (some-is (sym owned ∙ own))) (is.free a has)) ∙ owned

  -- an area that is owned now was so, or is the part's own
  owned-by : (part : PartNo) (a : ℕ) → get_or new a None ≡ Some part
      → ((part ≡ owner) × HasArea geometry (shape_any it) (known_any it) a)
      ⊎ (get_or old a None ≡ Some part)
  owned-by part a now = ⊎_elim
      (λ has. inl (some-is (sym now ∙ is.marked a has), has))
      (λ none. inr (sym (is.others a none) ∙ now))
      (has-or-not geometry (shape_any it) (known_any it) a)

  no-owner : (part : PartNo) (o : Option PartNo) → part ≢ owner → o ≡ Some owner
      → is_owner part o ≡ false
  no-owner part None differs same = absurd (some-none (sym same))
  no-owner part (Some other) differs same = ne_eqb other.0 part.0
      (λ equal. differs (same-part part other (sym equal) ∙ some-is same))

  -- each other part owns as many
  count-stays : (part : PartNo) → part ≢ owner → owned_count part new ≡ owned_count part old
  count-stays part differs = count-same part old new is.count (λ a. ⊎_elim
      (λ has. no-owner part (get_or new a None) differs (is.marked a has)
      ∙ sym (⊎_elim (λ none. ap (is_owner part) none)
      (λ own. no-owner part (get_or old a None) differs own) (is.free a has)))
      (λ none. ap (is_owner part) (is.others a none))
      (has-or-not geometry (shape_any it) (known_any it) a))

  owns-still : (shape : Shape) (known : Known) → part_no shape ≢ owner
      → OwnsChain shape known old → OwnsChain shape known new
  owns-still shape known differs owns = count-stays (part_no shape) differs ∙ owns

  -- It is laid, and none of those that are attached is of its number.
  module _ (entries : List CatEntry) (parts : List AnyPart)
      (before : AreAttached geometry entries parts old)
      (laid-it : shape_in geometry entries owner.0 ≡ Some (shape_any it))
      (off : (k : ℕ) (one : AnyPart) → slice_get parts k ≡ Some one
      → part_no (shape_any one) ≢ owner) where
    differs : (k : ℕ) (d : AnyPart) → k < length parts
        → part_no (shape_any (get_or parts k d)) ≢ owner
    differs k d below = off k (get_or parts k d) (slice_get-get_or parts k d below)

    laid-then : (part : PartNo) (a : ℕ) → IsLaidIn geometry entries part.0 a
        → get_or new a None ≡ Some part
    laid-then part a laid = elim (eqb_tells part.0 owner.0) [
      | inl same ↦
          let equal : part ≡ owner = same-part part owner same.1 in
          let mine : laid.shape ≡ shape_any it =
          some-is (sym laid.laid ∙ ap (shape_in geometry entries) same.1 ∙ laid-it) in
          is.marked a (first-has a (subst (BeginsWith (head_block geometry a)) mine laid.begins))
          ∙ ap Some (sym equal)
      | inr differ ↦ others-stay part a (λ same. differ.1 (ap (λ (n : PartNo). n.0) same))
          (before.laid part a laid)
    ]

    held-more : (part : PartNo) (a : ℕ) → IsHeldBy geometry parts part a
        → IsHeldBy geometry (parts ++ it ∷ []) part a
    held-more part a held = record {
      at = held.at;
      one = held.one;
      there = get-append parts (it ∷ []) held.at held.one held.there;
      number = held.number;
      has = held.has;
    }

    only-then : (part : PartNo) (a : ℕ) → get_or new a None ≡ Some part
        → IsLaidIn geometry entries part.0 a ⊎ IsHeldBy geometry (parts ++ it ∷ []) part a
    only-then part a now = ⊎_elim
        (λ mine. inr (record {
          at = length parts;
          one = it;
          there = get-end parts it;
          number = is.number ∙ sym mine.0;
          has = mine.1;
        }))
        (λ was. ⊎_elim (λ laid. inl laid) (λ held. inr (held-more part a held))
        (before.only part a was))
        (owned-by part a now)

    has-more : (n : ℕ) → HasPart (map shape_any parts) n
        → HasPart (map shape_any (parts ++ it ∷ [])) n
    has-more n has = (
      has.0,
      has.1,
      subst (λ (s : List Shape). slice_get s has.0 ≡ Some has.1) (sym (map-push shape_any parts it))
          (get-append (map shape_any parts) (shape_any it ∷ []) has.0 has.1 has.2),
      has.3,
    )

    has-it : HasPart (map shape_any (parts ++ it ∷ [])) owner.0
    has-it = (
      length parts,
      shape_any it,
      slice_get-map shape_any (parts ++ it ∷ []) (length parts)
          ∙ ap (option_map shape_any) (get-end parts it),
      ap (λ (n : PartNo). n.0) (sym is.number),
    )

    pub attached-more : AreAttached geometry entries (parts ++ it ∷ []) new
    attached-more = record {
      split = All-push HasNoSplit parts it before.split is.split;
      count = is.count ∙ before.count;
      firsts = All-push (HasFirst geometry) parts it before.firsts first-has;
      owned = All-push (OwnsAreas geometry new) parts it
          (λ k d below a has. others-stay (part_no (shape_any (get_or parts k d))) a
          (differs k d below) (before.owned k d below a has))
          (λ a has. is.marked a has ∙ ap Some (sym is.number));
      laid = laid-then;
      only = only-then;
      owns = All-push (λ (part : AnyPart). OwnsChain (shape_any part) (known_any part) new) parts it
          (λ k d below. owns-still (shape_any (get_or parts k d)) (known_any (get_or parts k d))
          (differs k d below) (before.owns k d below)) is.owns;
      alone = λ part a laid none.
          let apart : part ≢ owner = λ same.
          none (subst (λ (p : PartNo). HasPart (map shape_any (parts ++ it ∷ [])) p.0) (sym same)
          has-it) in
          count-stays part apart ∙ before.alone part a laid (λ has. none (has-more part.0 has));
    }

-- So the part of an entry is, after those of the entries before it.
pub added-more : (geometry : Geometry) (entries : List CatEntry) (at : ℕ) (parts : List AnyPart)
    (old new : List (Option PartNo)) (may : MayAdd geometry entries)
    (added : AreAdded geometry entries at parts old) (entry : CatEntry)
    (there : slice_get entries at ≡ Some entry) (it : AnyPart)
    (laid : shape_of geometry entry ≡ Some (shape_any it))
    → IsNewPart geometry entry.part it old new
    → AreAdded geometry entries (at + 1) (parts ++ it ∷ []) new
added-more geometry entries at parts old new may added entry there it laid is = record {
  shapes = map-push shape_any parts it
      ∙ shapes-with geometry entries at parts old may added entry there (shape_any it) laid;
  attached = attached-more geometry entry.part it old new is entries parts added.attached
      (entry-laid geometry entries may.distinct at entry (shape_any it) there laid)
      (off-entry geometry entries at parts old may added entry there (shape_any it) laid);
}

-- an entry that lays no part adds none
pub added-none : (geometry : Geometry) (entries : List CatEntry) (at : ℕ) (parts : List AnyPart)
    (owners : List (Option PartNo)) (entry : CatEntry) → slice_get entries at ≡ Some entry
    → shape_of geometry entry ≡ None → AreAdded geometry entries at parts owners
    → AreAdded geometry entries (at + 1) parts owners
added-none geometry entries at parts owners entry there none added = record {
  shapes = entries-more geometry entries at entry
      (catalog_shape geometry ∷ []) (map shape_any parts) (map shape_any parts)
      (slice_get_within entries at entry there)
      (get_or_from_slice_get entries at entry entry there) added.shapes
      (none-laid (map shape_any parts) (shape_of geometry entry)
      none);
  attached = added.attached;
}

-- ---- before the first entry, and after the last one

module _ (geometry : Geometry) (entries : List CatEntry) (owners : List (Option PartNo))
    (own : AreFirstOwners geometry entries owners) where
  -- before any part is attached, the first area of each is marked
  pub attached-none : AreAttached geometry entries [] owners
  attached-none = record {
    split = All-nil HasNoSplit;
    count = own.count;
    firsts = All-nil (HasFirst geometry);
    owned = All-nil (OwnsAreas geometry owners);
    laid = own.owned;
    only = λ part a now. inl (own.only part a now);
    owns = All-nil (λ (part : AnyPart). OwnsChain (shape_any part) (known_any part) owners);
    alone = λ part a laid none. own.alone part a laid;
  }

  -- the catalog's own is the first
  pub added-own : (it : AnyPart) (new : List (Option PartNo))
      → shape_any it ≡ catalog_shape geometry → IsNewPart geometry catalog_part it owners new
      → AreAdded geometry entries 0 (it ∷ []) new
  added-own it new shape is = record {
    shapes = ap (λ (s : Shape). s ∷ []) shape;
    attached = attached-more geometry catalog_part it owners new is entries [] attached-none
        (ap Some (sym shape)) (λ k one there same. some-none (sym there));
  }

module _ (geometry : Geometry) (entries : List CatEntry) (parts : List AnyPart)
    (owners : List (Option PartNo)) where
  module _ (may : MayAdd geometry entries)
      (added : AreAdded geometry entries (length entries) parts owners) where
    pub added-shapes : map shape_any parts ≡ shapes_laid geometry entries
    added-shapes = added.shapes ∙ ap (shapes_laid geometry) (take_all (length entries) entries
        (omega arith))

    held-laid : (part : PartNo) (a : ℕ) → IsLaidIn geometry entries part.0 a
        → IsHeldBy geometry parts part a
    held-laid part a laid =
        let at = laid-there geometry entries may.distinct part.0 laid.shape laid.laid in
        let one = part-at parts at.0 laid.shape
        (ap (λ (s : List Shape). slice_get s at.0) added-shapes ∙ at.1) in
        record {
          at = at.0;
          one = one.0;
          there = one.1;
          number = same-part (part_no (shape_any one.0)) part
              (ap (λ (s : Shape). (part_no s).0) one.2
              ∙ laid-number geometry entries may.distinct part.0 laid.shape laid.laid);
          has = subst (HasFirst geometry) (get_or_from_slice_get parts at.0 one.0 one.0 one.1)
              (added.attached.firsts at.0 one.0 (slice_get_within parts at.0 one.0 one.1)) a
              (subst (BeginsWith (head_block geometry a)) (sym one.2) laid.begins);
        }

    pub added-all : AreOwnersBy geometry parts owners
    added-all = record {
      count = added.attached.count;
      owned = added.attached.owned;
      only = λ part a now. ⊎_elim (λ laid. held-laid part a laid) (λ held. held)
          (added.attached.only part a now);
      owns = added.attached.owns;
    }
