-- The full pipe that a node waits for, as the words of private functions have it (POSIX.1-2017 XSH
-- write; pipe(7)).
use Rattle.std.specs.Prelude.{◌≡◌, ℕ, ◌⊎◌, Bool, true, List, [], ◌∷◌, Option, Some, None}
use Rattle.std.specs.List.{AllByRecursion}
use Rattle.collector.specs.Sources.{SourcePart, source_owes, held_size}
use Rattle.network_laws.specs.State.{Setup, State}
use Rattle.network_laws.specs.Waits.{WaitsFor, IsRunning, IsFullAt}

-- Of pipes to which an item of this size is owed, this is the first, and each of them is full; None
-- if none is owed an item, or one is not full.
abbrev pub IsFirstOfFull : State → ℕ → List ℕ → Option ℕ → Type 0
IsFirstOfFull st size owed (Some p) = (more : List ℕ) × (owed ≡ p ∷ more)
    × AllByRecursion (IsFullAt st size) owed
IsFirstOfFull st size owed None = (owed ≡ []) ⊎ (AllByRecursion (IsFullAt st size) owed → ⊥)

-- A source whose pipe is the first of these two owes an item to it, and it is full; and that is the
-- pipe p.
abbrev pub IsSourceWait : State → Bool → SourcePart → ℕ → ℕ → Type 0
IsSourceWait st nothing x pipe p = (p ≡ pipe) × (source_owes nothing x (st.writing pipe) ≡ true)
    × IsFullAt st (held_size x.held) pipe

-- the node k runs, and waits for the full pipe p
abbrev pub WaitsFull : Setup → State → ℕ → ℕ → Type 0
WaitsFull s st k p = IsRunning s st k × WaitsFor s st k true p
