-- What a call leaves once its borrow ends, where more is promised than its trait asks.
use base.Logic.{SProp, ent, sep, wand, all, ex, emp, all_i, ex_i, ex_e, wand_i, via, mono_l, comm∗}
use base.Logic.{emp∗, snd∗, mono_r}
use contract.Fact.{fact}
use seplogic.Ra.Ura.{Ura}
use types.Logic.{Logic, sem}
use denote.RattleType.{RattleType}
use denote.Ref.{MutBor}
use denote.Follow.{follows_if, such_by}
use borrow.Fn.Refines.{Turns}
use mathlib.Core.Option.{none}
use Rattle.std.specs.Prelude.{⊤}
use Rattle.std.specs.Io.BufRead.{Rests}

-- a weaker fact of the value that is left
pub rests_weaker : {M : Type 1} {𝓤 : Ura M} (𝓛 : Logic 𝓤) (R : RattleType) (s : MutBor R.Denot)
    (P Q : R.Denot → Type 0) → ((n : R.Denot) → P n → Q n)
    → ent 𝓤 (sem 𝓛 (Rests R s P)) (sem 𝓛 (Rests R s Q))
unfolding such_by
rests_weaker {𝓤 = 𝓤} 𝓛 R s P Q f =
    ex_e 𝓤 _ (λ x. ex_i 𝓤 (λ (y : (p : (R.Denot → R.Denot) × R.Denot)
    × ((w : R.Denot) → ⊤) × Q p.1). sem 𝓛 (follows_if R R s.ghost_name none y.0.0 y.0.1))
    (x.0, x.1, f x.0.1 x.2))

-- the same beside two facts
pub past_facts : {M : Type 1} (𝓤 : Ura M) (A B : Type 0) {P Q : SProp 𝓤} → ent 𝓤 P Q
    → ent 𝓤 (sep 𝓤 (fact 𝓤 A) (sep 𝓤 (fact 𝓤 B) P)) (sep 𝓤 (fact 𝓤 A) (sep 𝓤 (fact 𝓤 B) Q))
past_facts 𝓤 A B weaker = mono_r 𝓤 (fact 𝓤 A) (mono_r 𝓤 (fact 𝓤 B) weaker)

-- a method that asks what its trait asks, and gives what the trait gives
pub by_each : {M : Type 1} (𝓤 : Ura M) (P : SProp 𝓤) (G : Type 0) (Q : G → SProp 𝓤)
    (R X : Type 0) (D : G → R → X → SProp 𝓤) (D' : R → X → SProp 𝓤) (g : G) → ent 𝓤 P (Q g)
    → ((r : R) (e : X) → ent 𝓤 (D g r e) (D' r e))
    → ent 𝓤 P (ex 𝓤 (λ (x : G). sep 𝓤 (Q x) (Turns 𝓤 R X (D x) D')))
by_each 𝓤 P G Q R X D D' g asks gives =
    let W : SProp 𝓤 = Turns 𝓤 R X (D g) D' in
    let kept : ent 𝓤 (emp 𝓤) W =
    all_i 𝓤 (λ (r : R). all 𝓤 (λ (e : X). wand 𝓤 (D g r e) (D' r e)))
    (λ r. all_i 𝓤 (λ (e : X). wand 𝓤 (D g r e) (D' r e))
    (λ e. wand_i 𝓤 (emp 𝓤) (D g r e) (D' r e)
    (via 𝓤 (D g r e) (snd∗ 𝓤 (emp 𝓤) (D g r e)) (gives r e)))) in
    via 𝓤 (sep 𝓤 (Q g) W)
    (via 𝓤 (sep 𝓤 W (Q g))
    (via 𝓤 (sep 𝓤 (emp 𝓤) (Q g)) (via 𝓤 (Q g) asks (emp∗ 𝓤 (Q g))) (mono_l 𝓤 (Q g) kept))
    (comm∗ 𝓤 W (Q g)))
    (ex_i 𝓤 (λ (x : G). sep 𝓤 (Q x) (Turns 𝓤 R X (D x) D')) g)
