-- What a reply of Done says of the refusals.
use Rattle.std.proofs.Common.{◌≡◌, ⊎_elim, inl, inr, ℕ, List, [], ◌∷◌, Some, None, refl, ap, ◌∙◌}
use Rattle.std.specs.Prelude.{Option, option_map}
use Rattle.vr_types.specs.Locks.{Lock}
use Rattle.vr_types.specs.declared.reply.Refusal.{Refusal}
use Rattle.vr_types.specs.declared.reply.Reply.{Reply}
use Rattle.vr_types.specs.declared.reply.Reply.TheVariants.{Done}
use Rattle.vr_history.specs.Case.{Case}
use Rattle.vr_history.specs.RefusedFile.{bad_length, bad_slot, no_file, not_allowed, stopped}
use Rattle.vr_history.specs.RefusedRecord.{absent, conflict_in, duplicate, duplicate_key, gone}
use Rattle.vr_history.specs.RefusedRecord.{held, held_by, key_changed, length_changed, no_get}
use Rattle.vr_history.specs.RefusedRecord.{no_position}
use Rattle.vr_history.specs.RefusedRoom.{log_full, no_space}
use Rattle.vr_history.specs.Replies.{MayReply, all_refusals, done_by, first_of, refused_or}

none_refused : (refusal : Option Refusal) (done reply : Reply) (feedback : ℕ)
    (place bytes : Option (List ℕ)) → Done feedback place bytes ≡ refused_or refusal done
    → refusal ≡ None
none_refused None done reply feedback place bytes same = refl
none_refused (Some refusal) done reply feedback place bytes same = absurd cc

-- a request that is done has no refusal
pub done_unrefused : (case : Case) (feedback : ℕ) (place bytes : Option (List ℕ))
    → MayReply case (Done feedback place bytes) → first_of (all_refusals case) ≡ None
done_unrefused case feedback place bytes (inl answered) =
    none_refused (first_of (all_refusals case)) (done_by case case.request)
    (Done feedback place bytes) feedback place bytes answered.0
done_unrefused case feedback place bytes (inr (inl lacks)) = absurd cc
done_unrefused case feedback place bytes (inr (inr (inl wants))) = absurd cc
done_unrefused case feedback place bytes (inr (inr (inr (meets)))) =
    absurd (⊎_elim (λ write. cc) (λ read. cc) meets.1)

-- the first is none, and so are the others
first_none : (refusal : Option Refusal) (refusals : List (Option Refusal))
    → first_of (refusal ∷ refusals) ≡ None → refusal ≡ None
first_none None refusals none = refl
first_none (Some refusal) refusals none = absurd cc

others_none : (refusal : Option Refusal) (refusals : List (Option Refusal))
    → first_of (refusal ∷ refusals) ≡ None → first_of refusals ≡ None
others_none None refusals none = none
others_none (Some refusal) refusals none = absurd cc

-- what an entry-sequenced data set relies on where a request on it is done
pub record IsUnrefused (case : Case) : Type 0 where
  pub file : no_file case ≡ None
  pub allowed : not_allowed case ≡ None
  pub length : bad_length case ≡ None
  pub stands : gone case ≡ None
  pub same_length : length_changed case ≡ None
  pub space : no_space case ≡ None

pub done_refused_not : (case : Case) (feedback : ℕ) (place bytes : Option (List ℕ))
    → MayReply case (Done feedback place bytes) → IsUnrefused case
done_refused_not case feedback place bytes may =
    let zeroth = done_unrefused case feedback place bytes may in
    let second = others_none (stopped case) _ (others_none (no_file case) _ zeroth) in
    let fourth = others_none (bad_slot case) _ (others_none (not_allowed case) _ second) in
    let sixth = others_none (no_position case) _ (others_none (bad_length case) _ fourth) in
    let seventh = others_none (no_get case) _ sixth in
    let ninth = others_none (key_changed case) _ (others_none (gone case) _ seventh) in
    let eleventh = others_none (held case) _ (others_none (length_changed case) _ ninth) in
    let twelfth = others_none (absent case) _ eleventh in
    let last = others_none (duplicate_key case) _ (others_none (duplicate case) _ twelfth) in
    record {
      file = first_none (no_file case) _ zeroth;
      allowed = first_none (not_allowed case) _ second;
      length = first_none (bad_length case) _ fourth;
      stands = first_none (gone case) _ seventh;
      same_length = first_none (length_changed case) _ ninth;
      space = first_none (no_space case) _ last;
    }

-- and it is answered as one that is done
refused_not : (refusal : Option Refusal) (done reply : Reply) → reply ≡ refused_or refusal done
    → refusal ≡ None → reply ≡ done
refused_not refusal done reply is none =
    is ∙ ap (λ (this : Option Refusal). refused_or this done) none

pub done_is : (case : Case) (feedback : ℕ) (place bytes : Option (List ℕ))
    → MayReply case (Done feedback place bytes)
    → Done feedback place bytes ≡ done_by case case.request
done_is case feedback place bytes (inl answered) =
    refused_not (first_of (all_refusals case)) (done_by case case.request)
    (Done feedback place bytes) answered.0
    (done_unrefused case feedback place bytes (inl answered))
done_is case feedback place bytes (inr (inl lacks)) = absurd cc
done_is case feedback place bytes (inr (inr (inl wants))) = absurd cc
done_is case feedback place bytes (inr (inr (inr meets))) =
    absurd (⊎_elim (λ write. cc) (λ read. cc) meets.1)

tenth : (a b c d e f g h i j wanted : Option Refusal) (rest : List (Option Refusal))
    → first_of (a ∷ b ∷ c ∷ d ∷ e ∷ f ∷ g ∷ h ∷ i ∷ j ∷ wanted ∷ rest) ≡ None → wanted ≡ None
tenth a b c d e f g h i j wanted rest none =
    first_none wanted rest
    (others_none j _
    (others_none i _
    (others_none h _
    (others_none g _
    (others_none f _
    (others_none e _
    (others_none d _ (others_none c _ (others_none b _ (others_none a _ none))))))))))

mapped_none : (lock : Option Lock) → option_map held_by lock ≡ None → lock ≡ None
mapped_none None none = refl
mapped_none (Some lock) none = absurd cc

-- and no lock of another unit is in its way
pub done_free : (case : Case) (feedback : ℕ) (place bytes : Option (List ℕ))
    → MayReply case (Done feedback place bytes) → conflict_in case ≡ None
done_free case feedback place bytes may =
    mapped_none (conflict_in case)
    (tenth (no_file case) (stopped case) (not_allowed case) (bad_slot case) (bad_length case)
    (no_position case) (no_get case) (gone case) (key_changed case) (length_changed case)
    (held case)
    (absent case ∷ duplicate case ∷ duplicate_key case ∷ no_space case ∷ log_full case ∷ [])
    (done_unrefused case feedback place bytes may))
