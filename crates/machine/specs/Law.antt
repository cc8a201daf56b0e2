-- The law of a machine: whatever its input is cut into, what it has put out, followed by what it
-- would still put out, is the filter's answer to all of its input.
--
-- What is still to come on the inputs is a function from the input's number to a list of bytes.
use Rattle.std.specs.Prelude.{◌≡◌, ℕ, ◌<◌, ◌≤◌, ◌^◌, List, [], ◌++◌, length, Bool, true, false}
use Rattle.std.specs.Prelude.{◌||◌, ◌==◌, if◌then◌else◌}
use Rattle.machine.specs.Pieces.{Queued, contents}
use Rattle.machine.specs.Whole.{inputs_of, WholeAnswer}
use Rattle.machine.specs.declared.protocol.Presence.{Presence}
use Rattle.machine.specs.declared.protocol.Want.{Want}
use Rattle.machine.specs.declared.protocol.Want.TheVariants.{Take, Finished}

-- what a machine shows of itself
pub record Shown : Type 0 where
  -- how many inputs it has
  pub inputs : ℕ
  -- the input that it wants next, or that it has finished
  pub wanted : Want
  -- whether it was told that an input has ended
  pub closed : ℕ → Bool
  -- what it would still put out, were this all that is still to come
  pub rest : (ℕ → List ℕ) → List ℕ
  -- the greatest count that it would still write
  pub most : (ℕ → List ℕ) → ℕ

-- nothing is still to come on a closed input
abbrev pub IsEmptyOn : (ℕ → Bool) → (ℕ → List ℕ) → Type 0
IsEmptyOn closed ys = (j : ℕ) → closed j ≡ true → ys j ≡ []

-- what is still to come if this piece comes first on input i
abbrev pub before : ℕ → List ℕ → (ℕ → List ℕ) → ℕ → List ℕ
before i piece ys j = if j == i then piece ++ ys j else ys j

-- the inputs that are closed once i is closed too
abbrev pub with_closed : ℕ → (ℕ → Bool) → ℕ → Bool
with_closed i closed j = (j == i) || closed j

-- A machine wants an input that it has and that is not closed. Once it has finished, it puts out
-- nothing more.
pub record IsLawful (m : Shown) : Type 0 where
  pub wants : (i : ℕ) → m.wanted ≡ Take i → (i < m.inputs) × (m.closed i ≡ false)
  pub finished : m.wanted ≡ Finished → (ys : ℕ → List ℕ) → IsEmptyOn m.closed ys → m.rest ys ≡ []

-- A new machine: no input is closed, and whatever comes, it would put out the filter's whole
-- answer.
pub record IsNew (m : Shown) (whole : WholeAnswer) (presence : List Presence) : Type 0 where
  pub inputs : m.inputs ≡ length presence
  pub unclosed : (j : ℕ) → m.closed j ≡ false
  pub rest : (ys : ℕ → List ℕ) → m.rest ys ≡ (whole (inputs_of presence ys)).out
  pub most : (ys : ℕ → List ℕ) → m.most ys ≤ (whole (inputs_of presence ys)).count

-- What a call did that put out `made`, after which these inputs are shut: whatever is still to come
-- (ys), what the machine would have put out of it and of what was handed in before it (came ys) is
-- `made`, followed by what it would still put out; and no count is raised.
pub record GoesOn (old new : Shown) (shut : ℕ → Bool) (came : (ℕ → List ℕ) → ℕ
    → List ℕ) (out out' : Queued) : Type 0 where
  pub made : List ℕ
  pub added : contents out' ≡ contents out ++ made
  pub closed : (j : ℕ) → new.closed j ≡ shut j
  pub splits : (ys : ℕ → List ℕ) → IsEmptyOn shut ys → old.rest (came ys) ≡ made ++ new.rest ys
  pub counts : (ys : ℕ → List ℕ) → IsEmptyOn shut ys → new.most ys ≤ old.most (came ys)

-- after a piece of input i
abbrev pub Feeds : ℕ → List ℕ → Shown → Shown → Queued → Queued → Type 0
Feeds i piece old new out out' = GoesOn old new old.closed (before i piece) out out'

-- after the end of input i
abbrev pub Closes : ℕ → Shown → Shown → Queued → Queued → Type 0
Closes i old new out out' = GoesOn old new (with_closed i old.closed) (λ ys. ys) out out'

-- whatever is still to come, some count that the machine would write of it is above 2^63 - 1
abbrev pub IsTooLarge : Shown → (ℕ → Bool) → ((ℕ → List ℕ) → ℕ → List ℕ) → Type 0
IsTooLarge m shut came = (ys : ℕ → List ℕ) → IsEmptyOn shut ys → 2 ^ 63 ≤ m.most (came ys)
