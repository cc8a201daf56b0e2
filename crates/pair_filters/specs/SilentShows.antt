-- A machine that takes its inputs one after another and writes nothing.
use Rattle.std.specs.Prelude.{◌≡◌, ℕ, [], false, nat_lt, refl, if◌then◌else◌}
use Rattle.std.proofs.Common.{ap, ◌∙◌, arith}
use Rattle.std.proofs.lemmas.Bool.{ltb-true}
use Rattle.std.proofs.lemmas.Bool.Decides.{nat_tests}
use Rattle.machine.specs.InOrder.{in_order_wants}
use Rattle.machine.specs.Law.{Shown, IsLawful}
use Rattle.machine.specs.declared.protocol.Want.TheVariants.{Take, Finished}
use Rattle.pair_filters.specs.declared.silent.Silent.{Silent}

-- what it shows after this many of its inputs have ended
abbrev pub in_turn : ℕ → ℕ → Shown
in_turn count at =
    record {
      inputs = count;
      wanted = if nat_lt at count then Take at else Finished;
      closed = λ j. nat_lt j at;
      rest = λ ys. [];
      most = λ ys. 0;
    }

abbrev pub silent_shows : Silent → Shown
silent_shows m = in_turn m.inputs m.at

not_before_itself : (n : ℕ) → nat_lt n n ≡ false
not_before_itself n = grind (arith, nat_tests)

-- it obeys the law
pub silent_lawful : (m : Silent) → IsLawful (silent_shows m)
silent_lawful m =
    record {
      wants = λ i h.
          let w = in_order_wants (nat_lt m.at m.inputs) m.at i h in
          let low = ltb-true m.at m.inputs (w.1) in
          let same = w.0 in
          (omega (arith, low, same), ap (λ (k : ℕ). nat_lt k m.at) same ∙ not_before_itself m.at);
      finished = λ h ys e. refl;
    }
