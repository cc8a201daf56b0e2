-- The line on which the answer to one piece comes back.
use Rattle.std.specs.Prelude.{◌≡◌, ℕ, List, [], ◌∷◌, Option, None}
use Rattle.crossbeam_channel.specs.Claims.{Pass, view}
use Rattle.waiting_outputs.specs.declared.done.Done.{Done}
use Rattle.waiting_outputs.specs.declared.line.Known.{Known}
use Rattle.waiting_outputs.specs.declared.line.Known.TheVariants as known
use Rattle.waiting_outputs.specs.inner.Writes.{Owed, IsAnswer}

-- one answer is on the line, to what is owed
abbrev pub Answers : {F : Type 0} → (F → Option (List ℕ)) → List (Done F) → Owed → Type 0
Answers contents [] owed = ⊥
Answers contents (x ∷ []) owed = IsAnswer contents x owed
Answers contents (x ∷ y ∷ ys) owed = ⊥

-- Two passes: one takes and one sends. Before the answer is sent both know what is owed; then the
-- sender's is spent, and after it was received both are.
abbrev pub Leads : {F : Type 0} → (F → Option (List ℕ)) → List (Done F) → Known → Known → Type 0
Leads contents items known.Fresh w = ⊥
Leads contents items (known.Sends before bytes) w = ⊥
Leads contents items (known.Takes before bytes) known.Fresh = ⊥
Leads contents items (known.Takes before bytes) (known.Takes _ _) = ⊥
Leads contents items (known.Takes before bytes) (known.Sends before' bytes') =
    (items ≡ []) × (before' ≡ before) × (bytes' ≡ bytes)
Leads contents items (known.Takes before bytes) known.Spent =
    Answers contents items (record { before = before; bytes = bytes })
Leads contents items known.Spent known.Fresh = ⊥
Leads contents items known.Spent (known.Takes _ _) = ⊥
Leads contents items known.Spent (known.Sends _ _) = ⊥
Leads contents items known.Spent known.Spent = items ≡ []

-- a pass that is alone on an empty line
abbrev pub IsAlone : {F : Type 0} → List (Done F) → Known → Type 0
IsAlone items known.Fresh = items ≡ []
IsAlone items (known.Takes _ _) = ⊥
IsAlone items (known.Sends _ _) = ⊥
IsAlone items known.Spent = ⊥

-- The rule of a line.
abbrev pub Ruled : {F : Type 0} → (F → Option (List ℕ)) → List (Done F) → List Known → Type 0
Ruled contents items [] = ⊥
Ruled contents items (v ∷ []) = IsAlone items v
Ruled contents items (v ∷ w ∷ []) = Leads contents items v w
Ruled contents items (v ∷ w ∷ u ∷ us) = ⊥

-- what is owed, as this view knows
abbrev pub owed : Known → Owed
owed known.Fresh = record { before = None; bytes = [] }
owed (known.Takes before bytes) = record { before = before; bytes = bytes }
owed (known.Sends before bytes) = record { before = before; bytes = bytes }
owed known.Spent = record { before = None; bytes = [] }

-- what is owed, as this pass knows
abbrev pub pass_owed : {F : Type 0} → Pass (Done F) Known → Owed
pass_owed pass = owed (view pass)

-- the pass takes the answer
abbrev pub IsTaker : {F : Type 0} → Pass (Done F) Known → Type 0
IsTaker pass = view pass ≡ known.Takes (pass_owed pass).before (pass_owed pass).bytes

-- the pass gives the answer
abbrev pub IsSender : {F : Type 0} → Pass (Done F) Known → Type 0
IsSender pass = view pass ≡ known.Sends (pass_owed pass).before (pass_owed pass).bytes
