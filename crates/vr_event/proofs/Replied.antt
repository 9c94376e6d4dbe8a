-- With which reply a request was entered.
use Rattle.std.proofs.Common.{◌≡◌, ℕ, List, [], ◌∷◌, ◌++◌, sym, ap, subst, ◌∙◌}
use Rattle.std.proofs.lemmas.List.{append-nil, append_assoc, append_cancel_left}
use Rattle.vr_types.specs.declared.fault.DeviceFault.TheVariants.{Write}
use Rattle.vr_types.specs.declared.reply.Refusal.TheVariants.{WriteFault}
use Rattle.vr_types.specs.declared.reply.Reply.{Reply}
use Rattle.vr_types.specs.declared.reply.Reply.TheVariants.{Refused}
use Rattle.vr_types.specs.declared.request.Request.{Request}
use Rattle.vr_types.specs.declared.unit.AreaNo.{AreaNo}
use Rattle.vr_types.specs.declared.unit.PartNo.{PartNo}
use Rattle.vr_types.specs.declared.unit.Unit.{Unit as UnitOfRecovery}
use Rattle.vr_history.specs.declared.entry.Entry.{Entry}
use Rattle.vr_history.specs.declared.entry.What.TheVariants.{Asked, Claimed, Faulted, Split}
use Rattle.vr_record_file.specs.Now.{FileNow, asked_failing, entry_next, failed, with_event}
use Rattle.vr_event.specs.Getting.{IsEntered}

last-same : (entries : List Entry) (one other : Entry)
    → entries ++ one ∷ [] ≡ entries ++ other ∷ [] → one ≡ other
last-same entries one other same =
    let tails = append_cancel_left entries (one ∷ []) (other ∷ []) same in cc

not-none : (entries : List Entry) (one : Entry) → entries ≡ entries ++ one ∷ [] → ⊥
not-none entries one same =
    let tails = append_cancel_left entries [] (one ∷ []) (append-nil entries ∙ same) in cc

not-two : (entries : List Entry) (one two other : Entry)
    → (entries ++ one ∷ []) ++ two ∷ [] ≡ entries ++ other ∷ [] → ⊥
not-two entries one two other same =
    let tails = append_cancel_left entries (one ∷ two ∷ []) (other ∷ [])
    (sym (append_assoc entries (one ∷ []) (two ∷ [])) ∙ same) in
    two-one one two other tails
  where
    two-one : (one two other : Entry) → one ∷ two ∷ [] ≡ other ∷ [] → ⊥
    two-one one two other same = cc

module _ (after : ℕ) (unit : UnitOfRecovery) (line : ℕ) (request : Request) (old new : FileNow)
    (entered : IsEntered after unit line request old new) where
  entries-are : new.entries ≡ old.entries
      ++ entry_next old.entries after unit line (Asked request entered.reply) ∷ []
  entries-are = ap (λ (f : FileNow). f.entries) entered.leaves

  -- by the entry that was added, whatever else changed
  pub replied-as : (reply : Reply) → new.entries ≡ old.entries
      ++ entry_next old.entries after unit line (Asked request reply) ∷ [] → entered.reply ≡ reply
  replied-as reply is =
      let same = last-same old.entries
      (entry_next old.entries after unit line (Asked request entered.reply))
      (entry_next old.entries after unit line (Asked request reply)) (sym entries-are ∙ is) in
      let asked : Asked request entered.reply ≡ Asked request reply =
      ap (λ (entry : Entry). entry.what) same in
      cc

  -- the same over a file with the same entries
  pub replied-over : (mid : List Entry) → mid ≡ old.entries → (reply : Reply)
      → new.entries ≡ mid ++ entry_next mid after unit line (Asked request reply) ∷ []
      → entered.reply ≡ reply
  replied-over mid same reply is = replied-as reply
      (subst (λ (entries : List Entry). new.entries
      ≡ entries ++ entry_next entries after unit line (Asked request reply) ∷ []) same is)

  -- no write failed,
  pub not-failed : (mid : FileNow) → mid.entries ≡ old.entries
      → new ≡ failed after unit line request mid → ⊥
  not-failed mid same is =
      let all = ap (λ (f : FileNow). f.entries) is in
      not-two old.entries
      (entry_next mid.entries after unit line (Asked request (Refused WriteFault)))
      (entry_next (asked_failing after unit line request mid).entries 0 unit line (Faulted Write))
      (entry_next old.entries after unit line (Asked request entered.reply))
      (ap (λ (entries : List Entry).
      (entries ++ entry_next mid.entries after unit line (Asked request (Refused WriteFault)) ∷ [])
      ++ entry_next (asked_failing after unit line request mid).entries 0 unit line (Faulted Write)
      ∷ []) (sym same) ∙ sym all ∙ entries-are)

  -- something was entered,
  pub not-same : new ≡ old → ⊥
  not-same is = not-none old.entries
      (entry_next old.entries after unit line (Asked request entered.reply))
      (sym (ap (λ (f : FileNow). f.entries) is) ∙ entries-are)

  -- and it wasn't that an interval was split,
  pub not-split : (part : PartNo) → new ≡ with_event after unit line (Split part) old → ⊥
  not-split part is =
      let same = last-same old.entries
      (entry_next old.entries after unit line (Asked request entered.reply))
      (entry_next old.entries after unit line (Split part))
      (sym entries-are ∙ ap (λ (f : FileNow). f.entries) is) in
      let what : Asked request entered.reply ≡ Split part =
      ap (λ (entry : Entry). entry.what) same in
      cc

  -- nor that an area was given to a part
  pub not-claimed : (part : PartNo) (area : AreaNo)
      → new ≡ with_event after unit line (Claimed part area) old → ⊥
  not-claimed part area is =
      let same = last-same old.entries
      (entry_next old.entries after unit line (Asked request entered.reply))
      (entry_next old.entries after unit line (Claimed part area))
      (sym entries-are ∙ ap (λ (f : FileNow). f.entries) is) in
      let what : Asked request entered.reply ≡ Claimed part area =
      ap (λ (entry : Entry). entry.what) same in
      cc
