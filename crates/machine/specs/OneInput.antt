-- A machine of one input: what it shows, by whether its input is closed and what it would still put
-- out.
use Rattle.std.specs.Prelude.{◌≡◌, ℕ, List, [], Bool, true, false, ◌==◌, ◌&&◌, if◌then◌else◌, refl}
use Rattle.std.proofs.Common.{ap, ◌∙◌, sym, arith}
use Rattle.machine.specs.Law.{Shown, IsLawful}
use Rattle.machine.specs.declared.protocol.Want.TheVariants.{Take, Finished}

-- it wants its input until that is closed
abbrev pub one_input : Bool → (List ℕ → List ℕ) → (List ℕ → ℕ) → Shown
one_input closed rest most =
    record {
      inputs = 1;
      wanted = if closed then Finished else Take 0;
      closed = λ j. (j == 0) && closed;
      rest = λ ys. rest (ys 0);
      most = λ ys. most (ys 0);
    }

-- which input it wants, and when
pub wants_first : (closed : Bool) (i : ℕ) → (if closed then Finished else Take 0) ≡ Take i
    → (closed ≡ false) × (i ≡ 0)
wants_first true i h = absurd (cc)
wants_first false i h = let e : 0 ≡ i = cc in (refl, sym e)

finished_closed : (closed : Bool) → (if closed then Finished else Take 0) ≡ Finished → closed ≡ true
finished_closed true h = refl
finished_closed false h = absurd (cc)

never_by : (b closed : Bool) → closed ≡ false → (b && closed) ≡ false
never_by true closed h = h
never_by false closed h = refl

-- it obeys the law if it would put out nothing once it is closed and nothing comes
pub one_input_lawful : (closed : Bool) (rest : List ℕ → List ℕ) (most : List ℕ → ℕ)
    → (closed ≡ true → rest [] ≡ []) → IsLawful (one_input closed rest most)
one_input_lawful closed rest most nothing =
    record {
      wants = λ i h.
          let first = wants_first closed i h in
          (let e : i ≡ 0 = first.1 in omega arith, never_by (i == 0) closed first.0);
      finished = λ h ys e.
          let shut : closed ≡ true = finished_closed closed h in
          ap rest (e 0 shut) ∙ nothing shut;
    }
