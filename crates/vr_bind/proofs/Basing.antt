-- Where the catalogs have allowed entries alone, a file on a known name is on a part of its own.
use Rattle.std.proofs.Common.{◌≡◌, ℕ, zero, suc, ◌+◌, ◌<◌, Bool, true, false, cond, List, [], ◌∷◌}
use Rattle.std.proofs.Common.{length, flat_map, All, get_or, Option, Some, None, find, refl, subst}
use Rattle.std.specs.List.{AllByRecursion}
use Rattle.std.specs.Option.{option_map_or, option_and_then}
use Rattle.std.proofs.lemmas.Bool.{and_parts, ltb-true, both_ways}
use Rattle.std.proofs.lemmas.List.Elements.{All-from_recursion, recursion_from_All}
use Rattle.vr_types.specs.declared.request.FileRef.{FileRef}
use Rattle.vr_types.specs.declared.request.Request.{Request}
use Rattle.vr_types.specs.declared.request.Request.TheVariants as requests
use Rattle.vr_types.specs.declared.unit.PartNo.{PartNo}
use Rattle.vr_catalog.specs.Catalog.{Opened, opened_through, opened_directly, opened_as, opened}
use Rattle.vr_catalog.specs.Catalog.{entry_named, entry_with_part}
use Rattle.vr_catalog.specs.Entry.{is_allowed, is_related, is_of_kind}
use Rattle.vr_catalog.specs.declared.entry.CatEntry.{CatEntry}
use Rattle.vr_catalog.specs.declared.entry.EntryKind.{EntryKind}
use Rattle.vr_catalog.specs.declared.entry.EntryKind.TheVariants.{Cluster, Alternate, Path}
use Rattle.vr_deck_text.specs.declared.text.Ask.{Ask}
use Rattle.vr_deck_text.specs.declared.text.Ask.TheVariants as asks
use Rattle.vr_deck_text.specs.declared.text.DeckFile.{DeckFile}
use Rattle.vr_deck_text.specs.declared.text.DeckText.{DeckText}
use Rattle.vr_deck_text.specs.declared.text.Order.{Order}
use Rattle.vr_bind.specs.Bound.{volumes_of, volumes_asked, request_of, on_each, bound_order}
use Rattle.vr_bind.specs.Bound.{bound_requests}
use Rattle.vr_bind.specs.Named.{file_on, unknown_file, file_from, files_from, files_of, file_at}
use Rattle.vr_bind.specs.Placed.{file_in, IsAllowed, AreAllowed, IsBased}
use Rattle.vr_bind.proofs.Placing.{both_placed}

-- what is found is one of a list
found_here : {X : Type 0} (P : X → Type 0) (y x : X) (rest : Option X) (b : Bool) → P y
    → (rest ≡ Some x → P x) → cond b (Some y) rest ≡ Some x → P x
found_here P y x rest true here later is = let same : y ≡ x = cc in subst P same here
found_here P y x rest false here later is = later is

find_one : {X : Type 0} (P : X → Type 0) (p : X → Bool) (xs : List X) (x : X)
    → AllByRecursion P xs → find p xs ≡ Some x → P x
find_one P p [] x all is = let no : ⊥ = cc in absurd no
find_one P p (y ∷ ys) x all is =
    found_here P y x (find p ys) (p y) all.0 (find_one P p ys x all.1) is

-- what a value leads to
then_some : {X Y : Type 0} (f : X → Option Y) (o : Option X) (y : Y) → option_and_then f o ≡ Some y
    → (x : X) × (o ≡ Some x) × (f x ≡ Some y)
then_some f None y is = let no : ⊥ = cc in absurd no
then_some f (Some x) y is = (x, refl, is)

-- the base of an allowed entry is a part of its own
part_based : (entry : CatEntry) → is_allowed entry ≡ true → 0 < entry.part.0
part_based entry allowed =
    let whole = and_parts _ _ allowed in
    let first = and_parts _ _ whole.0 in
    let part = and_parts _ _ first.0 in
    ltb-true 0 entry.part.0 part.0

through_based : (path : ℕ) (related : Option PartNo) (found : Opened) → is_related related ≡ true
    → opened_through path related ≡ Some found → 0 < found.base
through_based path None found related is = let no : ⊥ = cc in absurd no
through_based path (Some part) found related is =
    let same : part.0 ≡ found.base = cc in
    let parts = and_parts _ _ related in
    subst (λ (n : ℕ). 0 < n) same (ltb-true 0 part.0 parts.0)

direct_based : (entry : CatEntry) (kind : EntryKind) (found : Opened) → is_allowed entry ≡ true
    → is_of_kind kind entry ≡ true → opened_directly kind entry ≡ Some found → 0 < found.base
direct_based entry Cluster found allowed right is =
    let same : entry.part.0 ≡ found.base = cc in
    subst (λ (n : ℕ). 0 < n) same (part_based entry allowed)
direct_based entry Alternate found allowed right is =
    let whole = and_parts _ _ right in
    let keys = and_parts _ _ whole.0 in
    let area = and_parts _ _ keys.0 in
    let spanned = and_parts _ _ area.0 in
    let related = and_parts _ _ spanned.0 in
    through_based entry.part.0 entry.related found related.1 is
direct_based entry Path found allowed right is = let no : ⊥ = cc in absurd no

own_kind : (entry : CatEntry) → is_allowed entry ≡ true → is_of_kind entry.entry_kind entry ≡ true
own_kind entry allowed = let whole = and_parts _ _ allowed in whole.1

as_based : (entries : List CatEntry) (entry : CatEntry) (kind : EntryKind) (found : Opened)
    → AllByRecursion IsAllowed entries → is_allowed entry ≡ true
    → is_of_kind kind entry ≡ true → opened_as entries kind entry ≡ Some found → 0 < found.base
as_based entries entry Cluster found all allowed right is =
    direct_based entry Cluster found allowed right is
as_based entries entry Alternate found all allowed right is =
    direct_based entry Alternate found allowed right is
as_based entries entry Path found all allowed right is =
    let last = then_some (λ (related : CatEntry). opened_directly related.entry_kind related)
    (option_and_then (λ (part : PartNo). entry_with_part entries part.0) entry.related) found is in
    let mid = then_some (λ (part : PartNo). entry_with_part entries part.0) entry.related last.0
    last.1 in
    let over : is_allowed last.0 ≡ true = find_one IsAllowed _ entries last.0 all mid.2 in
    direct_based last.0 last.0.entry_kind found over (own_kind last.0 over) last.2

opened_based : (entries : List CatEntry) (name : List ℕ) (found : Opened)
    → AllByRecursion IsAllowed entries → opened entries name ≡ Some found → 0 < found.base
opened_based entries name found all is =
    let last = then_some (λ (entry : CatEntry). opened_as entries entry.entry_kind entry)
    (entry_named entries name) found is in
    let allowed : is_allowed last.0 ≡ true = find_one IsAllowed _ entries last.0 all last.1 in
    as_based entries last.0 last.0.entry_kind found all allowed (own_kind last.0 allowed) last.2

-- so is that of a file on a known name
abbrev IsOnBase : FileRef → Type 0
IsOnBase file = file.known ≡ true → 0 < file.base.0

unknown_based : (slot : ℕ) → IsOnBase (unknown_file slot)
unknown_based slot = λ known. absurd (both_ways false refl known)

found_based : (volume slot : ℕ) (entries : List CatEntry) (found : Option Opened)
    (other : FileRef) → ((one : Opened) → found ≡ Some one → 0 < one.base) → IsOnBase other
    → IsOnBase (option_map_or (file_on slot volume entries) found other)
found_based volume slot entries None other base h = h
found_based volume slot entries (Some found) other base h = λ known. base found refl

from_based : (volume : ℕ) (catalogs : List (List CatEntry)) (slot : ℕ) (name : List ℕ)
    → AllByRecursion (AllByRecursion IsAllowed) catalogs
    → IsOnBase (file_from volume catalogs slot name)
from_based volume [] slot name all = unknown_based slot
from_based volume (entries ∷ catalogs) slot name all =
    found_based volume slot entries (opened entries name)
    (file_from (volume + 1) catalogs slot name)
    (λ one is. opened_based entries name one all.0 is)
    (from_based (volume + 1) catalogs slot name all.1)

files_based : (catalogs : List (List CatEntry)) (slot : ℕ) (files : List DeckFile)
    → AllByRecursion (AllByRecursion IsAllowed) catalogs
    → AllByRecursion IsOnBase (files_from catalogs slot files)
files_based catalogs slot [] all = tt
files_based catalogs slot (file ∷ files) all =
    (from_based 0 catalogs slot file.data_set all, files_based catalogs (slot + 1) files all)

at_based : (slot : ℕ) (files : List FileRef) (other : FileRef) → IsOnBase other
    → AllByRecursion IsOnBase files → IsOnBase (get_or files slot other)
at_based zero [] other h all = h
at_based (suc slot) [] other h all = h
at_based zero (file ∷ files) other h all = all.0
at_based (suc slot) (file ∷ files) other h all = at_based slot files other h all.1

one_based : (files : List FileRef) (slot : ℕ) (file : FileRef) → AllByRecursion IsOnBase files
    → file_at files slot ≡ file → IsOnBase file
one_based files slot file all is =
    subst IsOnBase is (at_based slot files (unknown_file slot) (unknown_based slot) all)

ask_based : (files : List FileRef) (ask : Ask) (file : FileRef) → AllByRecursion IsOnBase files
    → file_in (request_of files ask) ≡ Some file → IsOnBase file
ask_based files (asks.Get slot seek update integrity) file all is =
    let same : file_at files slot ≡ file = cc in one_based files slot file all same
ask_based files (asks.Point slot seek) file all is =
    let same : file_at files slot ≡ file = cc in one_based files slot file all same
ask_based files (asks.Add slot at bytes) file all is =
    let same : file_at files slot ≡ file = cc in one_based files slot file all same
ask_based files (asks.Update slot bytes) file all is =
    let same : file_at files slot ≡ file = cc in one_based files slot file all same
ask_based files (asks.Erase slot) file all is =
    let same : file_at files slot ≡ file = cc in one_based files slot file all same
ask_based files (asks.EndReq slot) file all is =
    let same : file_at files slot ≡ file = cc in one_based files slot file all same
ask_based files asks.Commit file all is = let no : ⊥ = cc in absurd no
ask_based files asks.Backout file all is = let no : ⊥ = cc in absurd no

each_based : (volumes : List ℕ) (line : ℕ) (request : Request)
    → ((file : FileRef) → file_in request ≡ Some file → IsOnBase file)
    → AllByRecursion IsBased (on_each volumes line request)
each_based [] line request h = tt
each_based (volume ∷ volumes) line request h = (h, each_based volumes line request h)

orders_based : (files : List FileRef) (volumes : List ℕ) (orders : List Order)
    → AllByRecursion IsOnBase files
    → AllByRecursion IsBased (flat_map (bound_order files volumes) orders)
orders_based files volumes [] all = tt
orders_based files volumes (order ∷ orders) all =
    both_placed IsBased (bound_order files volumes order)
    (flat_map (bound_order files volumes) orders)
    (each_based (volumes_asked files volumes order.ask) order.line (request_of files order.ask)
    (λ file is. ask_based files order.ask file all is))
    (orders_based files volumes orders all)

each_catalog : (catalogs : List (List CatEntry)) → AllByRecursion (All IsAllowed) catalogs
    → AllByRecursion (AllByRecursion IsAllowed) catalogs
each_catalog [] all = tt
each_catalog (entries ∷ catalogs) all =
    (recursion_from_All IsAllowed entries all.0, each_catalog catalogs all.1)

pub are_based : (deck : DeckText) (catalogs : List (List CatEntry)) → AreAllowed catalogs
    → All IsBased (bound_requests deck catalogs)
are_based deck catalogs allowed =
    let all = each_catalog catalogs (recursion_from_All (All IsAllowed) catalogs allowed) in
    let files : List FileRef = files_of catalogs deck.files in
    let volumes : List ℕ = volumes_of (length catalogs) files in
    let based = files_based catalogs 0 deck.files all in
    All-from_recursion IsBased (bound_requests deck catalogs)
    (both_placed IsBased (flat_map (bound_order files volumes) deck.orders)
    (on_each volumes 0 requests.Commit) (orders_based files volumes deck.orders based)
    (each_based volumes 0 requests.Commit (λ file is. let no : ⊥ = cc in absurd no)))
