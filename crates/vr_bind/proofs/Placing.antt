-- Each request goes to a volume that is there, and one on a file to the volume of the file.
use Rattle.std.proofs.Common.{◌≡◌, ℕ, zero, suc, ◌+◌, ◌<◌, ◌≤◌, ◌==◌, ◌||◌, Bool, true, false, cond}
use Rattle.std.proofs.Common.{List, [], ◌∷◌, ◌++◌, length, filter, flat_map, All, get_or, Option, Some, None}
use Rattle.std.proofs.Common.{refl, sym, ap, subst, ◌∙◌, inl, inr, arith, Result, Ok, Err, IfOk}
use Rattle.std.specs.List.{AllByRecursion, range_with_len}
use Rattle.std.specs.Option.{option_map_or}
use Rattle.std.proofs.lemmas.Bool.{cases_Bool, both_ways}
use Rattle.std.proofs.lemmas.Bool.Decides.{Decides-eqb}
use Rattle.std.proofs.lemmas.List.Elements.{All-from_recursion}
use Rattle.vr_types.specs.declared.bound.Bound.{Bound}
use Rattle.vr_types.specs.declared.request.FileRef.{FileRef}
use Rattle.vr_types.specs.declared.request.Request.{Request}
use Rattle.vr_types.specs.declared.request.Request.TheVariants as requests
use Rattle.vr_catalog.specs.Catalog.{Opened, opened}
use Rattle.vr_catalog.specs.declared.entry.CatEntry.{CatEntry}
use Rattle.vr_deck_text.specs.declared.text.Ask.{Ask}
use Rattle.vr_deck_text.specs.declared.text.Ask.TheVariants as asks
use Rattle.vr_deck_text.specs.declared.text.DeckFile.{DeckFile}
use Rattle.vr_deck_text.specs.declared.text.DeckText.{DeckText}
use Rattle.vr_deck_text.specs.declared.text.Order.{Order}
use Rattle.vr_bind.specs.Bound.{is_named, volumes_of, volumes_asked, request_of, on_each, bound_order}
use Rattle.vr_bind.specs.Bound.{bound_on, bound_requests}
use Rattle.vr_bind.specs.Named.{file_on, unknown_file, file_from, files_from, files_of, file_at}
use Rattle.vr_bind.specs.Placed.{file_in, IsThere, IsPlaced}

-- a file is on a volume that is there
abbrev IsOnOne : ℕ → FileRef → Type 0
IsOnOne count file = IsThere count file.volume

found_on_one : (count volume slot : ℕ) (entries : List CatEntry) (found : Option Opened)
    (other : FileRef) → volume < count → IsOnOne count other
    → IsOnOne count (option_map_or (file_on slot volume entries) found other)
found_on_one count volume slot entries None other within h = h
found_on_one count volume slot entries (Some found) other within h = λ some. within

from_on_one : (count volume : ℕ) (catalogs : List (List CatEntry)) (slot : ℕ) (name : List ℕ)
    → volume + length catalogs ≤ count → IsOnOne count (file_from volume catalogs slot name)
from_on_one count volume [] slot name h = λ some. omega arith
from_on_one count volume (entries ∷ catalogs) slot name h =
    found_on_one count volume slot entries (opened entries name)
    (file_from (volume + 1) catalogs slot name) (omega arith)
    (from_on_one count (volume + 1) catalogs slot name (omega arith))

files_on_one : (catalogs : List (List CatEntry)) (slot : ℕ) (files : List DeckFile)
    → AllByRecursion (IsOnOne (length catalogs)) (files_from catalogs slot files)
files_on_one catalogs slot [] = tt
files_on_one catalogs slot (file ∷ files) = (
  from_on_one (length catalogs) 0 catalogs slot file.data_set (omega arith),
  files_on_one catalogs (slot + 1) files,
)

at_on_one : (count slot : ℕ) (files : List FileRef) (other : FileRef) → IsOnOne count other
    → AllByRecursion (IsOnOne count) files → IsOnOne count (get_or files slot other)
at_on_one count zero [] other h all = h
at_on_one count (suc slot) [] other h all = h
at_on_one count zero (file ∷ files) other h all = all.0
at_on_one count (suc slot) (file ∷ files) other h all = at_on_one count slot files other h all.1

-- a volume that a file is on is there
named_there : (count volume : ℕ) (files : List FileRef) → AllByRecursion (IsOnOne count) files
    → is_named files volume ≡ true → IsThere count volume
named_there count volume [] all named = absurd (both_ways false refl named)
named_there count volume (file ∷ files) all named =
    elim (cases_Bool (file.volume == volume)) [
      | inl same ↦
          let is : file.volume ≡ volume = (Decides-eqb file.volume volume).0 same in
          subst (IsThere count) is all.0
      | inr other ↦
          named_there count volume files all.1
          (sym (ap (λ b. b || is_named files volume) other) ∙ named)
    ]

filtered_by : (P : ℕ → Type 0) (x : ℕ) (rest : List ℕ) (b : Bool) → (b ≡ true → P x)
    → AllByRecursion P rest → AllByRecursion P (cond b (x ∷ rest) rest)
filtered_by P x rest true h all = (h refl, all)
filtered_by P x rest false h all = all

filtered : (P : ℕ → Type 0) (p : ℕ → Bool) (xs : List ℕ) → ((x : ℕ) → p x ≡ true → P x)
    → AllByRecursion P (filter p xs)
filtered P p [] h = tt
filtered P p (x ∷ xs) h = filtered_by P x (filter p xs) (p x) (h x) (filtered P p xs h)

volumes_there : (count : ℕ) (files : List FileRef) → AllByRecursion (IsOnOne count) files
    → AllByRecursion (IsThere count) (volumes_of count files)
volumes_there count files all =
    filtered (IsThere count) (is_named files) (range_with_len 0 (suc count))
    (λ volume named. named_there count volume files all named)

-- requests on no file
each_placed : (count line : ℕ) (request : Request) (volumes : List ℕ)
    → ((file : FileRef) → file_in request ≡ Some file → ⊥)
    → AllByRecursion (IsThere count) volumes
    → AllByRecursion (IsPlaced count) (on_each volumes line request)
each_placed count line request [] none there = tt
each_placed count line request (volume ∷ volumes) none there = (
  record { there = there.0; with_file = λ file is. absurd (none file is) },
  each_placed count line request volumes none there.1,
)

-- a request on a file
one_placed : (count line : ℕ) (request : Request) (file : FileRef) → IsOnOne count file
    → file_in request ≡ Some file
    → AllByRecursion (IsPlaced count) (on_each (file.volume ∷ []) line request)
one_placed count line request file there is = (
  record {
    there = there;
    with_file = λ other same.
        let one : other ≡ file = cc in
        ap (λ (f : FileRef). f.volume) one;
  },
  tt,
)

ask_placed : (count line : ℕ) (files : List FileRef) (volumes : List ℕ) (ask : Ask)
    → AllByRecursion (IsOnOne count) files → AllByRecursion (IsThere count) volumes
    → AllByRecursion (IsPlaced count)
    (on_each (volumes_asked files volumes ask) line (request_of files ask))
ask_placed count line files volumes (asks.Get slot seek update integrity) all there =
    one_placed count line (request_of files (asks.Get slot seek update integrity))
    (file_at files slot) (at_on_one count slot files (unknown_file slot) (λ some. omega arith) all)
    refl
ask_placed count line files volumes (asks.Point slot seek) all there =
    one_placed count line (request_of files (asks.Point slot seek)) (file_at files slot)
    (at_on_one count slot files (unknown_file slot) (λ some. omega arith) all) refl
ask_placed count line files volumes (asks.Add slot at bytes) all there =
    one_placed count line (request_of files (asks.Add slot at bytes)) (file_at files slot)
    (at_on_one count slot files (unknown_file slot) (λ some. omega arith) all) refl
ask_placed count line files volumes (asks.Update slot bytes) all there =
    one_placed count line (request_of files (asks.Update slot bytes)) (file_at files slot)
    (at_on_one count slot files (unknown_file slot) (λ some. omega arith) all) refl
ask_placed count line files volumes (asks.Erase slot) all there =
    one_placed count line (request_of files (asks.Erase slot)) (file_at files slot)
    (at_on_one count slot files (unknown_file slot) (λ some. omega arith) all) refl
ask_placed count line files volumes (asks.EndReq slot) all there =
    one_placed count line (request_of files (asks.EndReq slot)) (file_at files slot)
    (at_on_one count slot files (unknown_file slot) (λ some. omega arith) all) refl
ask_placed count line files volumes asks.Commit all there =
    each_placed count line requests.Commit volumes (λ file is. let no : ⊥ = cc in no) there
ask_placed count line files volumes asks.Backout all there =
    each_placed count line requests.Backout volumes (λ file is. let no : ⊥ = cc in no) there

pub both_placed : (P : Bound → Type 0) (one other : List Bound) → AllByRecursion P one
    → AllByRecursion P other → AllByRecursion P (one ++ other)
both_placed P [] other all more = more
both_placed P (bound ∷ one) other all more = (all.0, both_placed P one other all.1 more)

orders_placed : (count : ℕ) (files : List FileRef) (volumes : List ℕ) (orders : List Order)
    → AllByRecursion (IsOnOne count) files → AllByRecursion (IsThere count) volumes
    → AllByRecursion (IsPlaced count) (flat_map (bound_order files volumes) orders)
orders_placed count files volumes [] all there = tt
orders_placed count files volumes (order ∷ orders) all there =
    both_placed (IsPlaced count) (bound_order files volumes order)
    (flat_map (bound_order files volumes) orders)
    (ask_placed count order.line files volumes order.ask all there)
    (orders_placed count files volumes orders all there)

pub are_placed : (deck : DeckText) (catalogs : List (List CatEntry))
    → All (IsPlaced (length catalogs)) (bound_requests deck catalogs)
are_placed deck catalogs =
    let count : ℕ = length catalogs in
    let files : List FileRef = files_of catalogs deck.files in
    let on = files_on_one catalogs 0 deck.files in
    let there = volumes_there count files on in
    All-from_recursion (IsPlaced count) (bound_requests deck catalogs)
    (both_placed (IsPlaced count)
    (flat_map (bound_order files (volumes_of count files)) deck.orders)
    (on_each (volumes_of count files) 0 requests.Commit)
    (orders_placed count files (volumes_of count files) deck.orders on there)
    (each_placed count 0 requests.Commit (volumes_of count files)
    (λ file is. let no : ⊥ = cc in no) there))

-- the requests are those of the deck, where the files and the volumes are those of the catalogs
pub bound_same : (deck : DeckText) (catalogs : List (List CatEntry)) (files : List FileRef)
    (count : ℕ) (orders : List Order) → files ≡ files_of catalogs deck.files
    → count ≡ length catalogs → orders ≡ deck.orders
    → bound_on files count orders ≡ bound_requests deck catalogs
bound_same deck catalogs files count orders found many same =
    ap (λ (them : List FileRef). bound_on them count orders) found
    ∙ ap (λ (n : ℕ). bound_on (files_of catalogs deck.files) n orders) many
    ∙ ap (λ (them : List Order). bound_on (files_of catalogs deck.files) (length catalogs) them) same

pub if_whole : {X E : Type 0} (P : X → Type 0) (whole : X) (outcome : Result X E)
    → IfOk outcome (λ x. x ≡ whole) → P whole → IfOk outcome P
if_whole P whole (Err e) is h = tt
if_whole P whole (Ok x) is h = subst P (sym is) h
