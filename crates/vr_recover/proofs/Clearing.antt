-- A volume that was found recovers to the same while what an earlier log left is cleared, and may
-- then be undone.
use Rattle.std.proofs.Common.{◌≡◌, ℕ, ◌<◌, ◌≤◌, List, [], Option, None, Some, length}
use Rattle.std.proofs.Common.{refl, sym, ap, subst, ◌∙◌, arith, map, get_or}
use Rattle.std.specs.Prelude.{All}
use Rattle.vr_types.specs.Blocks.{AllForced}
use Rattle.vr_types.specs.Content.{Ascends, Content}
use Rattle.vr_types.specs.Geometry.{IsAllowed}
use Rattle.vr_types.specs.Image.{Image, block_at}
use Rattle.vr_types.specs.Moments.{Guards}
use Rattle.vr_types.specs.Regions.{IsImageOn, Outside, Touches}
use Rattle.vr_types.specs.Seen.{Left, Seen}
use Rattle.vr_types.specs.declared.geometry.Geometry.{Geometry}
use Rattle.vr_types.specs.declared.unit.PartNo.{PartNo}
use Rattle.vr_types.proofs.CallerLemmas.{during-weaken, guards-then}
use Rattle.vr_catalog.specs.declared.entry.CatEntry.{CatEntry}
use Rattle.vr_catalog.specs.Definition.{catalog_definition}
use Rattle.vr_attach.specs.Laid.{keyed_part, shape_in}
use Rattle.vr_attach.specs.Owning.{owner_of}
use Rattle.vr_history.specs.State.{BeforeImage}
use Rattle.vr_log.specs.Content.{Content as LogContent}
use Rattle.vr_log.specs.LogNow.{IsOf, LogNow, made}
use Rattle.vr_log.specs.Spells.{Spells}
use Rattle.vr_log.specs.Standing.{InLog, LogStands}
use Rattle.vr_log.proofs.CallerLemmas.{one_log}
use Rattle.vr_mount.proofs.Laying.{IsAt, shape_at}
use Rattle.vr_part.specs.Any.{known_any, shape_any}
use Rattle.vr_part.specs.Attached.{IsAttachedWith}
use Rattle.vr_part.specs.declared.any.AnyPart.{AnyPart}
use Rattle.vr_space.specs.Known.{Known}
use Rattle.vr_space.specs.Owners.{Owners}
use Rattle.vr_space.specs.Part.{IsOn, IsSound, KeyedShape, NumberedShape, Shape, Stands, StaysIn}
use Rattle.vr_space.specs.Part.{item_of, part_no}
use Rattle.vr_space.proofs.CallerLemmas.{StaysPart, content_item, knows-stays, owns-none}
use Rattle.vr_space.proofs.CallerLemmas.{rest-sound}
use Rattle.vr_volume.specs.Laid.{shape_by}
use Rattle.vr_volume.specs.PutBack.{images_of, lengths_kept, oldest}
use Rattle.vr_recover.specs.Recovered.{AreBackOf, IsWhole, KeepsAll, item_back, standing_all}
use Rattle.vr_volume.specs.Volume.{Recovers, shapes_by}
use Rattle.vr_volume.proofs.CallerLemmas.{shape-stands}
use Rattle.vr_volume.proofs.Calls.{stays-part}
use Rattle.vr_mount.proofs.CallerLemmas.{AreSame, OwnParts, area-on, first_at, keyed-there}
use Rattle.vr_mount.proofs.CallerLemmas.{stands-same, stays-same}
use Rattle.vr_mount.proofs.Telling.{mapped_all}
use Rattle.vr_recover.specs.Found.{AreEntriesOf, AreKnown, IsFound, IsPartReady, IsPlanned}
use Rattle.vr_recover.specs.Found.{IsUndoable, MayAdd}
use Rattle.vr_recover.specs.Opening.{HasNoSplit}
use Rattle.vr_recover.specs.Undone.{IsCovered, IsLaidPastLog, IsReady, IsSettled}
use Rattle.vr_recover.proofs.Agreeing.{log-same, shapes-same}
use Rattle.vr_recover.proofs.Keeping.{all-more}
use Rattle.vr_recover.proofs.Numbering.{inside-of, on-of}
use Rattle.vr_recover.proofs.Settled.{attached-knows, forced-rests, part-opened, settled-undone}
use Rattle.vr_recover.proofs.Recovery.{AreOffLog, found-own, found-recovers, moved-keeps}
use Rattle.vr_recover.proofs.Recovery.{moved-recovers}
use Rattle.vr_recover.proofs.Recovery.{recovered, stand-of}
use Rattle.vr_recover.proofs.NumberOrder.{own-numbers, shapes-lay}
use Rattle.vr_recover.proofs.Wholes.{recovers-items}

-- ---- what a part knows

-- A part whose blocks are as they were knows as it was attached what they have.
attached-stays : (shape : Shape) (owners : Owners) (known : Known) (a b : Seen)
    → StaysPart shape owners a b → IsSound shape owners a → Left a a.cur
    → IsAttachedWith shape known a.cur → IsAttachedWith shape known b.cur
attached-stays (KeyedShape part) owners known a b stays sound left attached = (
  attached.0,
  attached.1,
  (knows-stays a b (KeyedShape part) owners known stays sound left
      (owns-none (KeyedShape part) owners known attached.3)
      (attached-knows (KeyedShape part) known a attached)).blocks.0,
  attached.3,
  (knows-stays a b (KeyedShape part) owners known stays sound left
      (owns-none (KeyedShape part) owners known attached.3)
      (attached-knows (KeyedShape part) known a attached)).blocks.2,
)
attached-stays (NumberedShape part) owners known a b stays sound left attached = (
  attached.0,
  attached.1,
  (knows-stays a b (NumberedShape part) owners known stays sound left tt
      (attached-knows (NumberedShape part) known a attached)).blocks,
  attached.3,
)

-- ---- what was found keeps what it has

module _ (geometry : Geometry) (content : LogContent) (image : Image)
    (long : 8 ≤ length (block_at image 1)) (spelled : Spells geometry image content) (number : ℕ)
    (contents : ℕ → Content) (is : IsWhole geometry number contents image) where
  abbrev pub kept-here : KeepsAll geometry number (images_of content.records) contents image
  kept-here = record {
    log = is.recovers.log;
    items = recovers-items geometry number image contents is.recovers
        (λ part shape laid place. is.whole.items part shape laid place
        ∙ ap (λ (l : LogContent). item_back shape (oldest (images_of l.records) part place)
        (item_of shape image place)) (one_log geometry image is.whole.log is.recovers.log long
        is.whole.spelled is.recovers.stands.log_is))
        is.others;
    fewer = λ part place none.
        ap (λ (l : LogContent). oldest (images_of l.records) part place)
        (one_log geometry image is.recovers.log content long is.recovers.stands.log_is spelled)
        ∙ none;
  }

-- ---- while it is cleared

module _ (geometry : Geometry) (content : LogContent) (a b : Seen) (allowed : IsAllowed geometry)
    (of : IsOf geometry a) (forced : AllForced a.count a.cur a.may)
    (long : 8 ≤ length (block_at a.cur 1)) (spelled : Spells geometry a.cur content)
    (call : Touches (InLog geometry) (λ image. Spells geometry image content) a b) where
  -- an image of it differs in the log alone
  off-log : (image : Image) → IsImageOn (Outside (InLog geometry)) a.count a.may image
      → AreOffLog geometry a.cur image
  off-log image has n out below =
      let within : n < a.count = omega (arith, below, of.count) in
      forced n (block_at image n) within (has.each n within out)

  off-now : AreOffLog geometry a.cur b.cur
  off-now n out below = call.content n out

  -- the catalog's entries are what they were
  pub entries-still : (entries : List CatEntry)
      → AreEntriesOf geometry (images_of content.records) a.cur entries
      → AreEntriesOf geometry (images_of content.records) b.cur entries
  entries-still entries are one stands = are one
      (keyed-there (keyed_part geometry 0 0 catalog_definition) b.cur a.cur
      (λ area below n here. sym (off-now n
      (λ logged. omega (arith, here.0, logged.1))
      (omega (arith, here.1, area-on geometry area below))))
      one stands)

  -- the parts stay in the areas that are theirs, and know as much
  module _ (entries : List CatEntry) (may : MayAdd geometry entries) (owners : Owners)
      (own : OwnParts geometry entries owners a.cur) where
    same-blocks : (shape : Shape) → AreSame geometry shape owners a.cur b.cur
    same-blocks shape n below mine = off-now n
        (λ logged. omega (arith, own.past n (part_no shape).0 mine, logged.1)) below

    pub own-still : OwnParts geometry entries owners b.cur
    own-still = record {
      past = own.past;
      within = λ part shape laid. stays-same geometry shape owners a.cur b.cur
          (inside-of geometry entries allowed may part shape laid) (own.within part shape laid)
          (same-blocks shape);
    }

    pub known-still : Left a a.cur → (shape : Shape) (known : Known)
        → shape_in geometry entries (part_no shape).0 ≡ Some shape → Stands shape a.cur
        → IsAttachedWith shape known a.cur → IsAttachedWith shape known b.cur
    known-still left shape known laid stands = attached-stays shape owners known a b
        (stays-part geometry shape owners (λ image. Spells geometry image content) a b own.past
        call)
        (rest-sound shape owners a (forced-rests shape owners a
        (on-of geometry entries allowed may a of (part_no shape).0 shape laid) forced stands.0
        stands.1 (own.within (part_no shape).0 shape laid)))
        left

    -- and have the items that they had
    pub item-still : (part : ℕ) (shape : Shape) → shape_in geometry entries part ≡ Some shape
        → Stands shape a.cur → (place : List ℕ)
        → item_of shape b.cur place ≡ item_of shape a.cur place
    item-still part shape laid stands place = sym (content_item shape b.cur stands.0
        (stands-same geometry shape owners a.cur b.cur
        (inside-of geometry entries allowed may part shape laid) (own.within part shape laid)
        (same-blocks shape) stands.0 stands.1) place)
        ∙ content_item shape a.cur stands.0 stands.1 place

  module _ (number : ℕ) (recovered : ℕ → Content)
      (is : Recovers geometry number a.cur recovered) where
    log-here : is.log ≡ content
    log-here = one_log geometry a.cur is.log content long is.stands.log_is spelled

    pub cleared-recovers : Spells geometry b.cur content → Recovers geometry number b.cur recovered
    cleared-recovers spells = moved-recovers geometry number a.cur b.cur recovered is allowed
        off-now (subst (λ (l : LogContent). Spells geometry b.cur l) (sym log-here) spells)

  module _ (number : ℕ) (contents : ℕ → Content) (is : IsWhole geometry number contents a.cur) where
    abbrev Keeps : Image → Type 0
    Keeps = KeepsAll geometry number (images_of content.records) contents

    moved : (image : Image) → AreOffLog geometry a.cur image → Spells geometry image content
        → Keeps image
    moved image same spells = moved-keeps geometry number a.cur image (images_of content.records)
        contents (kept-here geometry content a.cur long spelled number contents is) allowed same
        (subst (λ (l : LogContent). Spells geometry image l)
        (sym (log-here number (standing_all contents) is.recovers)) spells)

    left-out : (image : Image) → Left b image
        → IsImageOn (Outside (InLog geometry)) a.count a.may image
    left-out image left = record {
      each = λ n below out. call.adds_none n (block_at image n) below out
          (left.each n (omega (arith, below, call.count_same)));
    }

    -- in every image of every moment
    pub cleared-guards : Guards a b Keeps
    cleared-guards = record {
      during = during-weaken a b _ Keeps call.moments
          (λ image has. moved image (off-log image has.0) has.1);
      rest = λ image left. moved image (off-log image (left-out image left))
          (call.rest image (record { each = λ n below is-log. left.each n below }));
    }

-- ---- and then

past-at : (geometry : Geometry) (a : ℕ) (shape : Shape) → IsAt geometry a shape
    → IsLaidPastLog geometry shape
past-at geometry a shape at n here = omega (arith, (first_at geometry a n shape at here).0)

module _ (geometry : Geometry) (content : LogContent) (entries : List CatEntry)
    (parts : List AnyPart) (planned : IsPlanned geometry content entries (map shape_any parts))
    (allowed : IsAllowed geometry) where
  abbrev images : List BeforeImage
  images = images_of content.records

  pub laid-all : All (λ (shape : Shape). shape_in geometry entries (part_no shape).0 ≡ Some shape)
      (map shape_any parts)
  laid-all = (shapes-lay geometry entries (map shape_any parts) planned.may.distinct
      planned.shapes_are).each

  pub parts-on : (now : Seen) → IsOf geometry now
      → All (λ (shape : Shape). IsOn shape now) (map shape_any parts)
  parts-on now of = all-more
      (λ (shape : Shape). shape_in geometry entries (part_no shape).0 ≡ Some shape)
      (λ (shape : Shape). IsOn shape now)
      (λ shape laid. on-of geometry entries allowed planned.may now of (part_no shape).0 shape laid)
      (map shape_any parts) laid-all

  pub parts-past : All (IsLaidPastLog geometry) (map shape_any parts)
  parts-past = all-more
      (λ (shape : Shape). shape_in geometry entries (part_no shape).0 ≡ Some shape)
      (IsLaidPastLog geometry)
      (λ shape laid. let at = shape_at geometry entries (part_no shape).0 shape laid in
      past-at geometry at.0 shape at.2) (map shape_any parts) laid-all

  -- whatever the blocks have
  pub undoable : (log : LogNow) (kept : List BeforeImage) (now : Seen) → All HasNoSplit parts
      → IsOf geometry now → log ≡ made geometry content → kept ≡ images
      → IsUndoable log content.records parts kept now
  undoable log kept now split of is same =
      subst (λ (l : LogNow). IsUndoable l content.records parts kept now) (sym is)
      (subst (λ (k : List BeforeImage). IsUndoable (made geometry content) content.records parts
      k now) (sym same) (record {
        on = parts-on now of;
        apart = own-numbers geometry entries (map shape_any parts) planned.may.distinct
            planned.shapes_are;
        split = split;
        sound = refl;
        shape = of;
        records_are = refl;
        forced = refl;
        fits = planned.back.fits;
        images_are = refl;
        alone = planned.back.alone;
      }))

  module _ (now : Seen) (of : IsOf geometry now)
      (forced : AllForced now.count now.cur now.may) (long : 8 ≤ length (block_at now.cur 1))
      (spelled : Spells geometry now.cur content)
      (are : AreEntriesOf geometry images now.cur entries)
      (number : ℕ) (recovered : ℕ → Content)
      (is : Recovers geometry number now.cur recovered) (owners : Owners)
      (own : OwnParts geometry entries owners now.cur) where
    logs : is.log ≡ content
    logs = log-same geometry number now.cur recovered is content long spelled

    same-shapes : (part : ℕ) → shapes_by geometry is.log is.contents part
        ≡ shape_in geometry entries part
    same-shapes = shapes-same geometry number now.cur recovered is content long spelled
        entries are

    stays-by : (part : ℕ) (shape : Shape)
        → shapes_by geometry is.log is.contents part ≡ Some shape → StaysIn shape owners now.cur
    stays-by part shape laid = own.within part shape (sym (same-shapes part) ∙ laid)

    laid-by : All (λ (shape : Shape). shapes_by geometry is.log is.contents (part_no shape).0
        ≡ Some shape) (map shape_any parts)
    laid-by = all-more
        (λ (shape : Shape). shape_in geometry entries (part_no shape).0 ≡ Some shape)
        (λ (shape : Shape). shapes_by geometry is.log is.contents (part_no shape).0 ≡ Some shape)
        (λ shape laid. same-shapes (part_no shape).0 ∙ laid) (map shape_any parts) laid-all

    covered-by : All (IsCovered (map shape_any parts)) (images_of is.log.records)
    covered-by = subst (λ (l : LogContent). All (IsCovered (map shape_any parts))
        (images_of l.records)) (sym logs) planned.back.covered

    ready-at : (part : AnyPart)
        → IsAttachedWith (shape_any part) (known_any part) now.cur
        → shapes_by geometry is.log is.contents (part_no (shape_any part)).0
        ≡ Some (shape_any part) → IsPartReady owners images now part
    ready-at part known laid =
        let shape = shape_any part in
        let opened = part-opened geometry number now recovered is of forced owners own.past
        stays-by shape laid in
        subst (λ (l : LogContent). IsReady shape owners (known_any part)
        (lengths_kept (images_of l.records) (part_no shape).0) now) logs
        (opened.ready (known_any part) known)

    pub ready-now : AreKnown parts now.cur → All (IsPartReady owners images now) parts
    ready-now known k d below = ready-at (get_or parts k d) (known k d below)
        (mapped_all shape_any
        (λ (shape : Shape). shapes_by geometry is.log is.contents (part_no shape).0 ≡ Some shape)
        parts laid-by k d below)

  module _ (now : Seen) (of : IsOf geometry now)
      (forced : AllForced now.count now.cur now.may) (long : 8 ≤ length (block_at now.cur 1))
      (spelled : Spells geometry now.cur content)
      (are : AreEntriesOf geometry images now.cur entries) (number : ℕ) (contents : ℕ → Content)
      (is : Recovers geometry number now.cur (standing_all contents)) (owners : Owners)
      (own : OwnParts geometry entries owners now.cur) where
    log-is : is.log ≡ content
    log-is = logs now of forced long spelled are number (standing_all contents) is owners own

    pub settled-now : AreBackOf geometry content.records contents now.cur
        → ((part : ℕ) → Ascends (contents part))
        → ((part : ℕ) → shape_by geometry (contents 0) part ≡ None → contents part ≡ [])
        → LogStands (made geometry content) now
        → IsSettled number owners (made geometry content) contents (map shape_any parts) now
    settled-now back ascends others stands = subst (λ (l : LogContent). IsSettled number owners
        (made geometry l) contents (map shape_any parts) now) log-is
        (settled-undone geometry number now contents is of forced
        (subst (λ (l : LogContent). AreBackOf geometry l.records contents now.cur) (sym log-is)
        back)
        ascends others owners own.past
        (stays-by now of forced long spelled are number (standing_all contents) is owners own)
        allowed
        (subst (λ (l : LogContent). LogStands (made geometry l) now) (sym log-is) stands)
        (map shape_any parts)
        (laid-by now of forced long spelled are number (standing_all contents) is owners own)
        (covered-by now of forced long spelled are number (standing_all contents) is owners own))

-- ---- the whole

-- What was found, with what clearing the log left of it.
pub record IsCleared (geometry : Geometry) (content : LogContent) (entries : List CatEntry)
    (parts : List AnyPart) (owners : List (Option PartNo)) (a b : Seen) : Type 0 where
  pub allowed : IsAllowed geometry
  pub of : IsOf geometry a
  pub of_then : IsOf geometry b
  pub forced : AllForced a.count a.cur a.may
  pub forced_then : AllForced b.count b.cur b.may
  pub left : Left a a.cur
  pub long : 8 ≤ length (block_at a.cur 1)
  pub long_then : 8 ≤ length (block_at b.cur 1)
  pub number : ℕ
  pub found : IsFound geometry number content entries (map shape_any parts) owners a.cur
  pub known : AreKnown parts a.cur
  pub spelled_then : Spells geometry b.cur content
  pub call : Touches (InLog geometry) (λ image. Spells geometry image content) a b
  pub stands : LogStands (made geometry content) b

module _ (geometry : Geometry) (content : LogContent) (entries : List CatEntry)
    (parts : List AnyPart) (planned : IsPlanned geometry content entries (map shape_any parts))
    (areas : List (Option PartNo)) (a b : Seen)
    (cleared : IsCleared geometry content entries parts areas a b) where
  abbrev pub owners : Owners
  owners = owner_of geometry areas

  -- the parts are in the areas that are theirs
  pub then-own : OwnParts geometry entries owners b.cur
  then-own = own-still geometry content a b cleared.allowed cleared.of cleared.forced cleared.long
      cleared.found.spelled cleared.call entries planned.may owners
      (found-own geometry content entries (map shape_any parts) planned cleared.number areas a.cur
      cleared.found)

  stood : (part : ℕ) (shape : Shape) → shape_in geometry entries part ≡ Some shape
      → Stands shape a.cur
  stood = stand-of geometry content entries (map shape_any parts) planned cleared.number areas
      a.cur cleared.found

  then-known : AreKnown parts b.cur
  then-known k d below =
      let part = get_or parts k d in
      let laid : shape_in geometry entries (part_no (shape_any part)).0 ≡ Some (shape_any part) =
      mapped_all shape_any
      (λ (shape : Shape). shape_in geometry entries (part_no shape).0 ≡ Some shape) parts
      (laid-all geometry content entries parts planned cleared.allowed) k d below in
      known-still geometry content a b cleared.allowed cleared.of cleared.forced
      cleared.long cleared.found.spelled cleared.call entries planned.may owners
      (found-own geometry content entries (map shape_any parts) planned cleared.number areas a.cur
      cleared.found) cleared.left (shape_any part) (known_any part) laid
      (stood (part_no (shape_any part)).0 (shape_any part) laid) (cleared.known k d below)

  then-recovers : (number : ℕ) (contents : ℕ → Content)
      → Recovers geometry number a.cur contents → Recovers geometry number b.cur contents
  then-recovers number contents is = cleared-recovers geometry content a b cleared.allowed
      cleared.of cleared.forced cleared.long cleared.found.spelled cleared.call number contents is
      cleared.spelled_then

  then-guards : (number : ℕ) (contents : ℕ → Content)
      → IsWhole geometry number contents a.cur
      → Guards a b (KeepsAll geometry number (images_of content.records) contents)
  then-guards number contents is = cleared-guards geometry content a b cleared.allowed cleared.of
      cleared.forced cleared.long cleared.found.spelled cleared.call number contents is

  then-entries : AreEntriesOf geometry (images_of content.records) b.cur entries
  then-entries = entries-still geometry content a b cleared.allowed cleared.of cleared.forced
      cleared.long cleared.found.spelled cleared.call entries cleared.found.entries_are

  module _ (number : ℕ) (contents : ℕ → Content) (is : IsWhole geometry number contents a.cur) where
    -- a part that the contents lay is one of those
    laid-in : (part : ℕ) (shape : Shape) → shape_by geometry (contents 0) part ≡ Some shape
        → shape_in geometry entries part ≡ Some shape
    laid-in part shape laid =
        sym (shapes-same geometry number a.cur (standing_all contents) is.recovers content
        cleared.long cleared.found.spelled entries cleared.found.entries_are part)
        ∙ sym (ap (λ (c : Content). shape_by geometry c part) (is.recovers.back 0))
        ∙ shape-stands geometry (contents 0) part ∙ laid

    back-then : AreBackOf geometry content.records contents b.cur
    back-then part shape laid place =
        let log : is.whole.log ≡ content =
        one_log geometry a.cur is.whole.log content cleared.long is.whole.spelled
        cleared.found.spelled in
        let there = laid-in part shape laid in
        is.whole.items part shape laid place
        ∙ ap (λ (l : LogContent). item_back shape (oldest (images_of l.records) part place)
        (item_of shape a.cur place)) log
        ∙ ap (item_back shape (oldest (images_of content.records) part place))
        (sym (item-still geometry content a b cleared.allowed cleared.of cleared.forced
        cleared.long cleared.found.spelled cleared.call entries planned.may owners
        (found-own geometry content entries (map shape_any parts) planned cleared.number areas
        a.cur cleared.found) part shape there (stood part shape there) place))

    pub then-settled : (log : LogNow) → log ≡ made geometry content
        → IsSettled number owners log contents (map shape_any parts) b
    then-settled log same = subst
        (λ (l : LogNow). IsSettled number owners l contents (map shape_any parts) b) (sym same)
        (settled-now geometry content entries parts planned cleared.allowed b cleared.of_then
        cleared.forced_then cleared.long_then cleared.spelled_then then-entries number contents
        (then-recovers number (standing_all contents) is.recovers) owners then-own back-then
        is.ascends is.others cleared.stands)

    pub then-moments : (log : LogNow) (d : Seen) → log ≡ made geometry content
        → (IsSettled number owners log contents (map shape_any parts) b
        → Guards b d (KeepsAll log.geometry number (images_of log.records) contents))
        → Guards a d (KeepsAll geometry number (images_of content.records) contents)
    then-moments log d same further = guards-then a b d
        (KeepsAll geometry number (images_of content.records) contents)
        (then-guards number contents is)
        (subst (λ (l : LogNow). Guards b d
        (KeepsAll l.geometry number (images_of l.records) contents)) same
        (further (then-settled log same)))

  pub then-ready : (kept : List BeforeImage) → kept ≡ images_of content.records
      → All (IsPartReady owners kept b) parts
  then-ready kept same =
      let contents = recovered geometry content entries (map shape_any parts) planned
      cleared.number areas a.cur cleared.found in
      subst (λ (k : List BeforeImage). All (IsPartReady owners k b) parts) (sym same)
      (ready-now geometry content entries parts planned cleared.allowed b
      cleared.of_then cleared.forced_then cleared.long_then cleared.spelled_then then-entries
      cleared.number contents (then-recovers cleared.number contents
      (found-recovers geometry content entries (map shape_any parts) planned cleared.number areas
      a.cur cleared.found cleared.allowed)) owners then-own then-known)
