-- A machine that wants its inputs in order: what it shows, by what it would still put out.
use Rattle.std.specs.Prelude.{◌≡◌, ℕ, ◌<◌, ◌≤◌, List, [], Bool, true, false, nat_lt, length, refl}
use Rattle.std.specs.Prelude.{if◌then◌else◌}
use Rattle.std.proofs.Common.{ap, ◌∙◌, sym, arith}
use Rattle.std.proofs.lemmas.Bool.{ltb-true, ltb-false}
use Rattle.std.proofs.lemmas.Bool.Decides.{nat_tests}
use Rattle.machine.specs.Law.{Shown, IsLawful}
use Rattle.machine.specs.declared.protocol.Presence.{Presence}
use Rattle.machine.specs.declared.protocol.Want.{Want}
use Rattle.machine.specs.declared.protocol.Want.TheVariants.{Take, Finished}

-- which of its inputs could be opened, and the number of the one that it wants next
pub record Position : Type 0 where
  pub presence : List Presence
  pub at : ℕ

-- the input that it wants next, if one is left
abbrev pub wanted_of : List Presence → ℕ → Want
wanted_of inputs at = if nat_lt at (length inputs) then Take at else Finished

-- the inputs before number `at` are closed
abbrev pub in_order : List Presence → ℕ → ((ℕ → List ℕ) → List ℕ) → ((ℕ → List ℕ) → ℕ) → Shown
in_order inputs at rest most =
    record {
      inputs = length inputs;
      wanted = wanted_of inputs at;
      closed = λ j. nat_lt j at;
      rest = rest;
      most = most;
    }

-- which input it wants, and when
pub in_order_wants : (b : Bool) (at i : ℕ) → (if b then Take at else Finished) ≡ Take i
    → (i ≡ at) × (b ≡ true)
in_order_wants true at i h = let e : at ≡ i = cc in (sym e, refl)
in_order_wants false at i h = absurd (cc)

pub in_order_finished : (b : Bool) (at : ℕ) → (if b then Take at else Finished) ≡ Finished
    → b ≡ false
in_order_finished true at h = absurd (cc)
in_order_finished false at h = refl

not_before_itself : (n : ℕ) → nat_lt n n ≡ false
not_before_itself n = let h : n ≤ n = omega arith in grind (arith, nat_tests)

-- it obeys the law if it would put out nothing once no input is left
pub in_order_lawful : (inputs : List Presence) (at : ℕ) (rest : (ℕ → List ℕ)
    → List ℕ) (most : (ℕ → List ℕ) → ℕ) → (length inputs ≤ at → (ys : ℕ → List ℕ) → rest ys ≡ [])
    → IsLawful (in_order inputs at rest most)
in_order_lawful inputs at rest most nothing =
    record {
      wants = λ i h.
          let w = in_order_wants (nat_lt at (length inputs)) at i h in
          let within : at < length inputs = ltb-true at (length inputs) (w.1) in
          let same : i ≡ at = w.0 in
          (omega arith, ap (λ (k : ℕ). nat_lt k at) same ∙ not_before_itself at);
      finished =
          λ h ys e. nothing
          (ltb-false at (length inputs) (in_order_finished (nat_lt at (length inputs)) at h)) ys;
    }
