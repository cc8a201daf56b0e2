-- The channels of a script by number, and the stages that write to them and read them. A FIFO and a
-- `|` join commands in one way (POSIX.1-2017 XCU 2.9.2).
use Rattle.std.specs.Prelude.{ℕ, ◌+◌, ◌<◌, ◌≤◌, ◌^◌, List, [], ◌∷◌}
use Rattle.std.specs.List.{All}
use Rattle.planner.specs.declared.place.Channel.{Channel}
use Rattle.planner.specs.declared.place.Channel.TheVariants.{Fifo, Bar}
use Rattle.planner.specs.declared.place.Place.{Place}
use Rattle.planner.specs.declared.place.Place.TheVariants as place
use Rattle.planner.specs.declared.place.End.{End}

-- the number of a channel, if there are this many FIFOs
abbrev pub channel_number : ℕ → Channel → ℕ
channel_number fifos (Fifo k) = k
channel_number fifos (Bar b) = fifos + b

-- the channel of an end, with its stage, if it has one
abbrev pub channel_at : ℕ → ℕ → Place → List (ℕ × ℕ)
channel_at fifos stage (place.Through c) = (channel_number fifos c, stage) ∷ []
channel_at fifos stage _ = []

abbrev pub channel_of : ℕ → End → List (ℕ × ℕ)
channel_of fifos e = channel_at fifos e.stage e.place

-- one of the FIFOs, or the `|` before one of the stages or after the last, by their numbers
abbrev pub IsChannelOf : ℕ → ℕ → Channel → Type 0
IsChannelOf fifos count (Fifo k) = k < fifos
IsChannelOf fifos count (Bar b) = b ≤ count

abbrev pub IsPlaceOf : ℕ → ℕ → Place → Type 0
IsPlaceOf fifos count (place.Through c) = IsChannelOf fifos count c
IsPlaceOf fifos count _ = Unit {0}

-- an end of one of this many stages
abbrev pub IsEndOf : ℕ → ℕ → End → Type 0
IsEndOf fifos count e = (e.stage < count) × IsPlaceOf fifos count e.place

-- These are inputs and branches of this many stages, with channels of this many FIFOs, few enough
-- to number them.
pub record AreEndsOf (fifos count : ℕ) (ins outs : List End) : Type 0 where
  pub few_fifos : fifos < 2 ^ 62
  pub few_stages : count < 2 ^ 62
  pub inputs : All (IsEndOf fifos count) ins
  pub branches : All (IsEndOf fifos count) outs
