-- How the two ends keep their numbers of bytes; only private contracts use these words. A number
-- that is above the count never comes. If it did, the count would become 0, and the difference
-- would be added to the excess.
use Rattle.std.specs.Prelude.{◌≡◌, ℕ, ◌+◌, ◌<◌, ◌≤◌}

-- the greatest number that an end can keep
abbrev pub most : ℕ
most = 18446744073709551615

-- this number was taken off the count, not below 0
pub record TakesOff (number count excess count' excess' : ℕ) : Type 0 where
  pub less : count' ≤ count
  pub more : excess ≤ excess'
  pub covers : count + excess' ≤ count' + number + excess
  pub exact : excess' < most → count' + number + excess ≡ count + excess'

-- What a writing end counts after this many bytes were put into its rings and numbers with this sum
-- were received.
pub record Counts (put limit count heard excess : ℕ) : Type 0 where
  pub within : count ≤ limit
  pub small : limit ≤ 268435456
  pub covers : put + excess ≤ count + heard
  pub exact : excess < most → count + heard ≡ put + excess

-- What a reading end keeps after this many bytes were taken from its rings and numbers with this
-- sum were told.
pub record Tells (taken told untold : ℕ) : Type 0 where
  pub least : told + untold ≤ taken
  pub exact : untold < most → told + untold ≡ taken

-- All that was untold was told: the sum of the numbers told grew by it, and nothing is left to
-- tell.
pub record TellsAll (untold told untold' told' : ℕ) : Type 0 where
  pub all : told' ≡ told + untold
  pub none : untold' ≡ 0
