-- Lines or bytes that are skipped, and those that are last.
use Rattle.std.specs.Prelude.{◌≡◌, ℕ, ◌-◌, ◌≤◌, List, ◌++◌, drop, length, max}
use Rattle.std.specs.List.{concat}
use Rattle.machine.specs.Lines.{lines}
use Rattle.machine.specs.Pieces.{Queued, contents}
use Rattle.commands.specs.declared.tail_words.Counted.{Counted}
use Rattle.commands.specs.declared.tail_words.Counted.TheVariants.{Lines, Bytes}
use Rattle.commands.specs.declared.tail_words.Origin.{Origin}
use Rattle.commands.specs.declared.tail_words.Origin.TheVariants.{Beginning, End}

-- the bytes after the first n lines, or after the first n bytes
abbrev pub skipped : Counted → ℕ → List ℕ → List ℕ
skipped Lines n x = concat (drop n (lines x))
skipped Bytes n x = drop n x

-- how many lines, or bytes, there are
abbrev pub members_in : Counted → List ℕ → ℕ
members_in Lines x = length (lines x)
members_in Bytes x = length x

-- the last n lines, or bytes
abbrev pub last_of : Counted → ℕ → List ℕ → List ℕ
last_of counted n x = skipped counted (members_in counted x - n) x

-- how many members a new machine still skips, or keeps
abbrev pub left_of : Origin → ℕ → ℕ
left_of Beginning n = max n 1 - 1
left_of End n = n

-- The first n members go up to `end` in these bytes, and this many of them end or begin in what
-- follows: whatever follows.
pub record SkipsTo (counted : Counted) (bytes : List ℕ) (n end left : ℕ) : Type 0 where
  pub within : end ≤ length bytes
  pub splits : (zs : List ℕ)
      → skipped counted n (bytes ++ zs) ≡ drop end bytes ++ skipped counted left zs

-- What follows the first n members in a piece was put out, and this many of these end or begin in
-- what follows.
pub record PutsBehind (counted : Counted) (piece : List ℕ) (n left : ℕ) (out out' : Queued) : Type
    0 where
  pub made : List ℕ
  pub added : contents out' ≡ contents out ++ made
  pub splits : (zs : List ℕ) → skipped counted n (piece ++ zs) ≡ made ++ skipped counted left zs
