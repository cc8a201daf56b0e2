-- What was made of what was taken. This is kept by every call that obeys the law, and it is all
-- that a stage of a network has to know of its machine.
use Rattle.std.specs.Prelude.{◌≡◌, ℕ, ◌≤◌, List, [], ◌++◌, Bool, ◌==◌, if◌then◌else◌}
use Rattle.machine.specs.Law.{Shown, IsEmptyOn}
use Rattle.machine.specs.Whole.{StreamAnswer}

-- what was taken on each input, followed by what is still to come
abbrev pub after : (ℕ → List ℕ) → (ℕ → List ℕ) → ℕ → List ℕ
after taken ys j = taken j ++ ys j

-- what was taken, with a piece more on input i
abbrev pub with_taken : ℕ → List ℕ → (ℕ → List ℕ) → ℕ → List ℕ
with_taken i piece taken j = if j == i then taken j ++ piece else taken j

-- these bytes on input 0, and nothing on any other
abbrev pub on_first : List ℕ → ℕ → List ℕ
on_first bytes j = if j == 0 then bytes else []

-- Whatever is still to come, the answer to all of it is what was made, followed by what the machine
-- would still put out, with no greater count. An input is closed just if it has ended.
pub record Makes (answer : StreamAnswer) (m : Shown) (ended : ℕ → Bool) (taken : ℕ
    → List ℕ) (made : List ℕ) : Type 0 where
  pub splits : (ys : ℕ → List ℕ) → IsEmptyOn m.closed ys
      → (answer (after taken ys)).out ≡ made ++ m.rest ys
  pub counts : (ys : ℕ → List ℕ) → IsEmptyOn m.closed ys
      → m.most ys ≤ (answer (after taken ys)).count
  pub closed : (j : ℕ) → m.closed j ≡ ended j
