-- What paste's machine with -s shows: it wants the operands in order, each until its input has
-- ended.
use Rattle.std.specs.Prelude.{◌≡◌, ℕ, ◌+◌, ◌<◌, List, [], ◌∷◌, ◌++◌, Option, Bool, true, false, not}
use Rattle.std.specs.Prelude.{◌&&◌, nat_lt, length, take, drop, refl}
use Rattle.std.specs.List.{flat_map, enumerate_from}
use Rattle.std.proofs.Common.{ap, ◌∙◌, sym}
use Rattle.std.proofs.lemmas.Bool.{and_parts, ltb-true}
use Rattle.machine.specs.Law.{Shown, IsLawful}
use Rattle.machine.specs.declared.protocol.Presence.{Presence}
use Rattle.machine.specs.declared.protocol.Want.{Want}
use Rattle.machine.specs.declared.protocol.Want.TheVariants.{Take, Finished}
use Rattle.pair_filters.specs.Joins.{line_on}
use Rattle.pair_filters.specs.Operands.{inputs_on, is_first, is_at_first}
use Rattle.commands.specs.Paste.{Inputs, operand, has_column}
use Rattle.pair_filters.specs.declared.serial.Joint.{Joint}
use Rattle.pair_filters.specs.declared.serial.Serial.{Serial}

-- the first of these inputs
abbrev pub first_wanted : List ℕ → Want
first_wanted [] = Finished
first_wanted (i ∷ left) = Take i

-- what is still written, if the operands from this column on are these
abbrev pub still_joined : List (Option ℕ) → List ℕ → ℕ → Joint → List ℕ → Inputs → List ℕ
still_joined delimiters columns column joint [] ins = []
still_joined delimiters columns column joint (i ∷ left) ins =
    line_on delimiters joint (ins i)
    ++ flat_map (operand delimiters columns ins) (enumerate_from (column + 1) left)

-- what a machine shows that is at this operand
abbrev pub joining : List (Option ℕ) → List ℕ → List Presence → ℕ → Joint → Shown
joining delimiters columns inputs column joint =
    record {
      inputs = length inputs;
      wanted = first_wanted (drop column columns);
      closed = λ j. nat_lt j (length inputs) && has_column (take column columns) j;
      rest =
          λ ys. still_joined delimiters columns column joint (drop column columns)
          (inputs_on inputs ys);
      most = λ ys. 0;
    }

abbrev pub serial_shows : Serial → Shown
serial_shows m = joining m.delimiters.items m.columns.items m.inputs.items m.column m.joint

not_from : (b : Bool) → not b ≡ true → b ≡ false
not_from true h = absurd (cc)
not_from false h = refl

and_false : (a b : Bool) → b ≡ false → (a && b) ≡ false
and_false true b h = h
and_false false b h = refl

-- the operand that is wanted is the first one of an input that is there
pub wanted_first : (columns : List ℕ) (count column : ℕ) (left : List ℕ) (i : ℕ)
    → is_at_first columns count column left ≡ true → first_wanted left ≡ Take i
    → (i < count) × (has_column (take column columns) i ≡ false)
wanted_first columns count column [] i h e = absurd (cc)
wanted_first columns count column (x ∷ left) i h e =
    let same : x ≡ i = cc in
    let parts =
    and_parts (nat_lt i count) (not (has_column (take column columns) i))
    (ap (λ (k : ℕ). is_first columns count column k) (sym same) ∙ h) in
    (ltb-true i count (parts.0), not_from (has_column (take column columns) i) (parts.1))

nothing_joined : (delimiters : List (Option ℕ)) (columns : List ℕ) (column : ℕ) (joint : Joint)
    (left : List ℕ) (ins : Inputs) → first_wanted left ≡ Finished
    → still_joined delimiters columns column joint left ins ≡ []
nothing_joined delimiters columns column joint [] ins h = refl
nothing_joined delimiters columns column joint (i ∷ left) ins h = absurd (cc)

-- it obeys the law
pub serial_lawful : (m : Serial) → IsLawful (serial_shows m)
serial_lawful m =
    record {
      wants = λ i h.
          let w =
          wanted_first m.columns.items (length m.inputs.items) m.column
          (drop m.column m.columns.items) i m.settled h in (
            w.0,
            and_false (nat_lt i (length m.inputs.items))
                (has_column (take m.column m.columns.items) i) (w.1),
          );
      finished =
          λ h ys e. nothing_joined m.delimiters.items m.columns.items m.column m.joint
          (drop m.column m.columns.items) (inputs_on m.inputs.items ys) h;
    }
