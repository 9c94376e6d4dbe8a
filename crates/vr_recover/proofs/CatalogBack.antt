-- The catalog's records as a list, with before-images put back in it: what it has is what the
-- content has that the blocks stand for.
use Rattle.std.proofs.Common.{◌≡◌, ◌∙◌, ℕ, zero, suc, ◌+◌, arith, Bool, true, false, cond, List, []}
use Rattle.std.proofs.Common.{◌∷◌, ◌++◌, map}
use Rattle.std.proofs.Common.{Option, Some, None, refl, sym, ap, subst, set, insert, bytes_eq}
use Rattle.std.proofs.Common.{get_or}
use Rattle.std.specs.Prelude.{All, IfSome, filter, not}
use Rattle.std.specs.List.{cons_option, filter_map, prefix_len}
use Rattle.std.specs.Option.{option_and_then}
use Rattle.std.specs.Ordering.{is_gt}
use Rattle.std.specs.declared.cmp.Ordering.{Ordering}
use Rattle.std.specs.declared.cmp.Ordering.TheVariants.{Less, Equal, Greater}
use Rattle.vr_types.specs.Content.{Content, Placed, Standing, Withdrawn, place_cmp, put_by}
use Rattle.vr_types.specs.Content.{record_of}
use Rattle.vr_types.specs.Content.{with_item, without_item}
use Rattle.vr_types.specs.Geometry.{area_count}
use Rattle.vr_types.specs.Image.{Image, block_at}
use Rattle.vr_types.specs.declared.geometry.Geometry.{Geometry}
use Rattle.vr_catalog.specs.Definition.{catalog_definition}
use Rattle.vr_attach.specs.Laid.{catalog_shape, keyed_part}
use Rattle.vr_ci.specs.Interval as ci
use Rattle.vr_history.specs.State.{BeforeImage}
use Rattle.vr_log.specs.declared.record.LogRecord.{LogRecord}
use Rattle.vr_mount.specs.Records.{bytes_of}
use Rattle.vr_seqset.specs.Entry.{Entry}
use Rattle.vr_seqset.specs.Reading.{record_in}
use Rattle.vr_space.specs.Areas.{KeyedChain, area_of, content_after, content_in, head_in}
use Rattle.vr_space.specs.Keyed.{Keyed, content_from, entries_of, entry_block, items_of, key_of}
use Rattle.vr_space.specs.Keyed.{low_of, placed, range_of, records_of}
use Rattle.vr_space.specs.Part.{StandsFor}
use Rattle.vr_space.specs.Room.{Range, is_in}
use Rattle.vr_space.specs.Rosters.{after_next}
use Rattle.vr_volume.specs.PutBack.{put_back, standing}
use Rattle.vr_recover.specs.Images.{HasName, IsNamed, name_in, named}
use Rattle.vr_recover.specs.Undone.{FitsPart}

-- ---- records at their names

pub named-bytes : (records : List (List ℕ)) → bytes_of (named records) ≡ records
named-bytes [] = refl
named-bytes (first ∷ records) = ap (λ (rest : List (List ℕ)). first ∷ rest) (named-bytes records)

-- each record stands at its name
abbrev AreOwn : Content → Type 0
AreOwn [] = Unit {0}
AreOwn ((place, Standing bytes) ∷ content) = (name_in bytes ≡ place) × AreOwn content
AreOwn ((place, Withdrawn length) ∷ content) = AreOwn content

own-named : (content : Content) → AreOwn content → standing content ≡ named (bytes_of content)
own-named [] own = refl
own-named ((place, Standing bytes) ∷ content) own =
    ap (λ (p : List ℕ). (p, Standing bytes) ∷ standing content) (sym own.0)
    ∙ ap (λ (rest : Content). (name_in bytes, Standing bytes) ∷ rest) (own-named content own.1)
own-named ((place, Withdrawn length) ∷ content) own = own-named content own

own-append : (one other : Content) → AreOwn one → AreOwn other → AreOwn (one ++ other)
own-append [] other left right = right
own-append ((place, Standing bytes) ∷ one) other left right =
    (left.0, own-append one other left.1 right)
own-append ((place, Withdrawn length) ∷ one) other left right = own-append one other left right

own-filter : (range : Range) (content : Content) → AreOwn content
    → AreOwn (filter (λ (entry : Placed). is_in range entry.0) content)
own-filter range [] own = tt
own-filter range ((place, Standing bytes) ∷ content) own =
    by (is_in range place) (own-filter range content own.1)
  where
    rest : Content
    rest = filter (λ (entry : Placed). is_in range entry.0) content

    by : (b : Bool) → AreOwn rest → AreOwn (cond b ((place, Standing bytes) ∷ rest) rest)
    by true further = (own.0, further)
    by false further = further
own-filter range ((place, Withdrawn length) ∷ content) own =
    by (is_in range place) (own-filter range content own)
  where
    rest : Content
    rest = filter (λ (entry : Placed). is_in range entry.0) content

    by : (b : Bool) → AreOwn rest → AreOwn (cond b ((place, Withdrawn length) ∷ rest) rest)
    by true further = further
    by false further = further

-- so has each of an area, whose key is the name
module _ (part : Keyed) (image : Image)
    (names : (bytes : List ℕ) → name_in bytes ≡ key_of part bytes)
  where
    own-placed : (items : List ci.Item) → AreOwn (map (placed part) items)
    own-placed [] = tt
    own-placed (item ∷ items) = (names item.bytes, own-placed items)

    pub own-from : (low : Option (List ℕ)) (entries : List Entry)
        → AreOwn (content_from part image low entries)
    own-from low [] = tt
    own-from low (entry ∷ entries) =
        let block = block_at image (entry_block part entry) in
        own-append (filter (λ (one : Placed). is_in (range_of low entry) one.0)
        (records_of part block)) (content_from part image (Some entry.high) entries)
        (own-filter (range_of low entry) (records_of part block) (own-placed (items_of block)))
        (own-from (Some entry.high) entries)

module _ (geometry : Geometry) (image : Image) where
  abbrev catalog : KeyedChain
  catalog = keyed_part geometry 0 0 catalog_definition

  own-after : (k area : ℕ) → AreOwn (content_after catalog image k area)
  own-after zero area = tt
  own-after (suc k) area = own-append (content_in catalog image area)
      (after_next [] (content_after catalog image k) (record_in (head_in catalog image area)).next)
      (own-from (area_of catalog area) image (λ bytes. refl)
      (low_of (head_in catalog image area)) (entries_of (head_in catalog image area)))
      (by_next (record_in (head_in catalog image area)).next (λ further. own-after k further))
    where
      by_next : (next : Option ℕ) → ((further : ℕ) → AreOwn (content_after catalog image k further))
          → AreOwn (after_next [] (content_after catalog image k) next)
      by_next None more = tt
      by_next (Some further) more = more further

  -- whatever the catalog's blocks stand for has each record at its name
  pub catalog-named : (content : Content) → StandsFor (catalog_shape geometry) image content
      → standing content ≡ named (bytes_of content)
  catalog-named content stands = own-named content (subst AreOwn (sym stands.records)
      (own-after (area_count geometry) catalog.first))

-- ---- one record put back

no-both : (o : Ordering) → o ≡ Less → Some o ≡ Some Equal → ⊥
no-both o is same = cc

module _ (place bytes : List ℕ) (mine : name_in bytes ≡ place) where
  abbrev below : List ℕ → Bool
  below other = is_gt (place_cmp place (name_in other))

  -- over the one that is there
  pub put-over : (records : List (List ℕ)) → HasName records (prefix_len below records) place
      → with_item (named records) place (Standing bytes)
      ≡ named (set records (prefix_len below records) bytes)
  put-over [] has = absurd cc
  put-over (first ∷ records) has =
      by (place_cmp place (name_in first)) refl has (put-over records)
    where
      further : (k : ℕ) → k ≡ suc (prefix_len below records) → HasName (first ∷ records) k place
          → (HasName records (prefix_len below records) place
          → with_item (named records) place (Standing bytes)
          ≡ named (set records (prefix_len below records) bytes))
          → (name_in first, Standing first) ∷ with_item (named records) place (Standing bytes)
          ≡ named (set (first ∷ records) k bytes)
      further k same there rest = subst
          (λ (j : ℕ). (name_in first, Standing first)
          ∷ with_item (named records) place (Standing bytes)
          ≡ named (set (first ∷ records) j bytes))
          (sym same)
          (ap (λ (c : Content). (name_in first, Standing first) ∷ c)
          (rest (subst (λ (j : ℕ). HasName (first ∷ records) j place) same there)))

      by : (o : Ordering) → place_cmp place (name_in first) ≡ o
          → HasName (first ∷ records) (cond (is_gt o) (1 + prefix_len below records) 0) place
          → (HasName records (prefix_len below records) place
          → with_item (named records) place (Standing bytes)
          ≡ named (set records (prefix_len below records) bytes))
          → put_by o (place, Standing bytes) (name_in first, Standing first) (named records)
          (with_item (named records) place (Standing bytes))
          ≡ named (set (first ∷ records) (cond (is_gt o) (1 + prefix_len below records) 0) bytes)
      by Less is there rest = absurd (no-both (place_cmp place (name_in first)) is there)
      by Equal is there rest =
          ap (λ (p : List ℕ). (p, Standing bytes) ∷ named records) (sym mine)
      by Greater is there rest =
          further (1 + prefix_len below records) (omega arith) there rest

  -- or between those that are there
  pub put-between : (records : List (List ℕ))
      → (HasName records (prefix_len below records) place → ⊥)
      → with_item (named records) place (Standing bytes)
      ≡ named (insert records (prefix_len below records) bytes)
  put-between [] none = ap (λ (p : List ℕ). (p, Standing bytes) ∷ []) (sym mine)
  put-between (first ∷ records) none =
      by (place_cmp place (name_in first)) refl none (put-between records)
    where
      further : (k : ℕ) → k ≡ suc (prefix_len below records)
          → (HasName (first ∷ records) k place → ⊥)
          → ((HasName records (prefix_len below records) place → ⊥)
          → with_item (named records) place (Standing bytes)
          ≡ named (insert records (prefix_len below records) bytes))
          → (name_in first, Standing first) ∷ with_item (named records) place (Standing bytes)
          ≡ named (insert (first ∷ records) k bytes)
      further k same off rest = subst
          (λ (j : ℕ). (name_in first, Standing first)
          ∷ with_item (named records) place (Standing bytes)
          ≡ named (insert (first ∷ records) j bytes))
          (sym same)
          (ap (λ (c : Content). (name_in first, Standing first) ∷ c)
          (rest (subst (λ (j : ℕ). HasName (first ∷ records) j place → ⊥) same off)))

      by : (o : Ordering) → place_cmp place (name_in first) ≡ o
          → (HasName (first ∷ records) (cond (is_gt o) (1 + prefix_len below records) 0) place → ⊥)
          → ((HasName records (prefix_len below records) place → ⊥)
          → with_item (named records) place (Standing bytes)
          ≡ named (insert records (prefix_len below records) bytes))
          → put_by o (place, Standing bytes) (name_in first, Standing first) (named records)
          (with_item (named records) place (Standing bytes))
          ≡ named (insert (first ∷ records) (cond (is_gt o) (1 + prefix_len below records) 0) bytes)
      by Less is off rest =
          ap (λ (p : List ℕ). (p, Standing bytes) ∷ (name_in first, Standing first) ∷ named records)
          (sym mine)
      by Equal is off rest = absurd (off (ap Some is))
      by Greater is off rest =
          further (1 + prefix_len below records) (omega arith) off rest

-- or taken out
pub taken-out : (place : List ℕ) (records : List (List ℕ))
    → named (filter (λ (bytes : List ℕ). not (bytes_eq place (name_in bytes))) records)
    ≡ without_item (named records) place
taken-out place [] = refl
taken-out place (first ∷ records) = by (not (bytes_eq place (name_in first)))
    (taken-out place records)
  where
    kept : List (List ℕ)
    kept = filter (λ (bytes : List ℕ). not (bytes_eq place (name_in bytes))) records

    by : (b : Bool) → named kept ≡ without_item (named records) place
        → named (cond b (first ∷ kept) kept)
        ≡ cond b ((name_in first, Standing first) ∷ without_item (named records) place)
        (without_item (named records) place)
    by true rest = ap (λ (c : Content). (name_in first, Standing first) ∷ c) rest
    by false rest = rest

-- ---- those of the log, the oldest last

module _ (f : LogRecord → Option BeforeImage) where
  pub one-last : (rec : LogRecord) (rest : List LogRecord) (content : Content)
      → put_back 0 (filter_map f (rec ∷ rest)) content
      ≡ put_back 0 (filter_map f (rec ∷ [])) (put_back 0 (filter_map f rest) content)
  one-last rec rest content = by (f rec)
    where
      by : (o : Option BeforeImage)
          → put_back 0 (cons_option o (filter_map f rest)) content
          ≡ put_back 0 (cons_option o []) (put_back 0 (filter_map f rest) content)
      by None = refl
      by (Some image) = refl

-- ---- which of them may be

-- a before-image that may go back into the catalog's part puts back a record of its place
pub fit-named : (geometry : Geometry) (image : BeforeImage)
    → FitsPart (catalog_shape geometry) image → IsNamed image
fit-named geometry image fits mine = by (option_and_then record_of image.old) (fits mine).old
  where
    by : (old : Option (List ℕ))
        → IfSome old (Rattle.vr_space.specs.Part.IsRecordOf (catalog_shape geometry) image.place)
        → IfSome old (λ (bytes : List ℕ). name_in bytes ≡ image.place)
    by None is = tt
    by (Some bytes) is = is.1

pub fits-named : (geometry : Geometry) (images : List BeforeImage)
    → All (FitsPart (catalog_shape geometry)) images → All IsNamed images
fits-named geometry images all k d below = fit-named geometry (get_or images k d) (all k d below)
