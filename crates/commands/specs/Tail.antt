-- What tail writes of a whole input (POSIX.1-2017 XCU tail, DESCRIPTION and OPTIONS).
use Rattle.std.specs.Prelude.{ℕ, ◌-◌, List, drop, length, max}
use Rattle.std.specs.List.{concat, flat_map}
use Rattle.machine.specs.Lines.{lines}
use Rattle.machine.specs.Whole.{present, unless_missing, WholeAnswer}
use Rattle.commands.specs.declared.tail_words.Counted.{Counted}
use Rattle.commands.specs.declared.tail_words.Counted.TheVariants.{Lines, Bytes}
use Rattle.commands.specs.declared.tail_words.Origin.{Origin}
use Rattle.commands.specs.declared.tail_words.Origin.TheVariants.{Beginning, End}

-- the n-th member and those after it, if the first one's number is 1; 0 is as 1
abbrev pub members_from : {X : Type 0} → ℕ → List X → List X
members_from n xs = drop (max n 1 - 1) xs

-- the last n members
abbrev pub last_members : {X : Type 0} → ℕ → List X → List X
last_members n xs = drop (length xs - n) xs

-- the members from the n-th on, or the last n
abbrev pub members_by : {X : Type 0} → Origin → ℕ → List X → List X
members_by Beginning n xs = members_from n xs
members_by End n xs = last_members n xs

-- the same of the lines, or of the bytes
abbrev pub tail_of : Counted → Origin → ℕ → List ℕ → List ℕ
tail_of Lines origin n x = concat (members_by origin n (lines x))
tail_of Bytes origin n x = members_by origin n x

-- the whole answer of tail
abbrev pub tail_whole : Counted → Origin → ℕ → WholeAnswer
tail_whole counted origin n ins =
    record {
      out = unless_missing ins (flat_map (tail_of counted origin n) (present ins));
      count = 0;
    }
