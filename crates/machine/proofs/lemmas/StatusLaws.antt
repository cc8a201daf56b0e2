-- The exit status depends on which inputs are missing, and not on what comes on the others.
use Rattle.std.proofs.Common.{◌≡◌, ℕ, ◌+◌, List, [], ◌∷◌, Bool, true, false, refl, ap, ◌∙◌}
use Rattle.std.specs.Prelude.{is_none, if◌then◌else◌, ◌||◌}
use Rattle.std.specs.List.{list_any}
use Rattle.std.specs.Int.{from_bool}
use Rattle.machine.specs.Whole.{inputs_from, inputs_of, status_of}
use Rattle.machine.specs.declared.protocol.Presence.{Presence}
use Rattle.machine.specs.declared.protocol.Presence.TheVariants.{Present, Missing}

missing_from : (test : Presence → Bool) → test Present ≡ false → test Missing ≡ true
    → (ps : List Presence) (i : ℕ) (ys : ℕ → List ℕ)
    → list_any test ps ≡ list_any is_none (inputs_from i ps ys)
missing_from test p m [] i ys = refl
missing_from test p m (Present ∷ ps) i ys = ap (λ (b : Bool). b || list_any test ps) p
    ∙ missing_from test p m ps (i + 1) ys
missing_from test p m (Missing ∷ ps) i ys = ap (λ (b : Bool). b || list_any test ps) m

bool_as_status : (b : Bool) → from_bool b ≡ (if b then 1 else 0)
bool_as_status true = refl
bool_as_status false = refl

-- 1 if the test finds a missing input, otherwise 0
pub status_is : (test : Presence → Bool) → test Present ≡ false → test Missing ≡ true
    → (b : Bool) (n : ℕ) (ps : List Presence) (ys : ℕ → List ℕ) → b ≡ list_any test ps
    → n ≡ from_bool b → n ≡ status_of (inputs_of ps ys)
status_is test p m b n ps ys e f =
    f ∙ (bool_as_status b ∙ ap (λ (x : Bool). if x then 1 else 0) (e
    ∙ missing_from test p m ps 0 ys))
