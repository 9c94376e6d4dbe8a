use Rattle.std.proofs.Common.{◌≡◌, ◌<◌, ◌≤◌, ⊎_elim, inl, ℕ, true, length, slice_index, ap, sym}
use Rattle.std.proofs.Common.{◌∙◌, arith, rules}
use Rattle.std.proofs.lemmas.Bool.{cases_lt}
use Rattle.vr_device.specs.Disk.{choices_of}
use Rattle.vr_device.specs.Past.{Past, disk_of}
use Rattle.std.proofs.lemmas.List.{length-map}
use Rattle.vr_device.proofs.Selecting.{choices-long, each-next}
use Rattle.vr_device.proofs.past.Past.misfit.Goals as goal

irrefl : (n : ℕ) → n < n → ⊥
irrefl n less = omega (arith, less)

pub loop-n-preserved : goal.loop-n-preserved
loop-n-preserved c =
    let long = choices-long c.self.inside c.self.invariant c.args.self.now c.self.view_is
    c.deref.result.now c.deref.ensures.value c.loop-n.n in
    let yes : c.is_named.result ≡ true = search rules in
    let named = c.is_named.ensures.0 yes in
    each-next (λ m. (m < length c.args.choice.now)
    × (slice_index c.args.choice.now m < length (choices_of (disk_of c.args.self.now) m)))
    c.loop-n.n c.loop-n.invariant (named.0, omega (arith, named.1, long))

pub returns-then-not-is_named : goal.returns-then-not-is_named
returns-then-not-is_named c =
    let long = choices-long c.self.inside c.self.invariant c.args.self.now c.self.view_is
    c.deref.result.now c.deref.ensures.value c.loop-n.n in
    let count : length c.self.inside.start.items ≡ length c.args.self.now.start =
    sym (length-map c.self.inside.start.items (λ b. b.items))
    ∙ ap (λ (p : Past). length p.start) c.self.view_is in
    let below : c.loop-n.n < length c.args.self.now.start =
    omega (arith, count, c.loop-n-test.true, c.len-n-end.ensures, c.self.inside.start.ok.0) in
    let no : c.is_named.result ≡ true → ⊥ = search rules in
    record {
      within = omega (arith, below);
      before = c.loop-n.invariant;
      here = inl below;
      not_named =
          λ below has. ⊎_elim (λ less. absurd (no
          (c.is_named.ensures.1 (has, omega (arith, less, long))))) (λ more. more)
          (cases_lt (slice_index c.args.choice.now c.loop-n.n)
          (length (choices_of (disk_of c.args.self.now) c.loop-n.n)));
    }

pub returns-else-len-choice : goal.returns-else-len-choice
returns-else-len-choice c =
    let count : length c.self.inside.start.items ≡ length c.args.self.now.start =
    sym (length-map c.self.inside.start.items (λ b. b.items))
    ∙ ap (λ (p : Past). length p.start) c.self.view_is in
    let past : length c.args.self.now.start ≤ c.loop-n.n =
    omega (arith, count, c.loop-n-test.false, c.len-n-end.ensures, c.self.inside.start.ok.0) in
    record {
      length_is =
          ⊎_elim (λ short. absurd (irrefl (length c.args.choice.now)
          (c.loop-n.invariant (length c.args.choice.now) (omega (arith, short, past))).0))
          (λ enough. omega (
            arith,
            enough,
            count,
            c.if-len-choice.false,
            c.len.ensures,
            c.self.inside.start.ok.0,
          ))
          (cases_lt (length c.args.choice.now) (length c.args.self.now.start));
      each = λ n below. (c.loop-n.invariant n (omega (arith, below, past))).1;
    }
