-- What the words of tail mean, without the utility's name (POSIX.1-2017 XCU tail, SYNOPSIS and
-- OPTIONS).
use Rattle.std.specs.Prelude.{ℕ, ◌==◌, List, [], ◌∷◌, Option, Some, None, codes, length, nat_le}
use Rattle.std.specs.Prelude.{if◌then◌else◌}
use Rattle.command_words.specs.Bytes.{dash}
use Rattle.command_words.specs.Options.{Given, splits}
use Rattle.command_words.specs.Texts.{◌>>=◌}
use Rattle.commands.specs.declared.tail_words.Counted.{Counted}
use Rattle.commands.specs.declared.tail_words.Counted.TheVariants as counted
use Rattle.commands.specs.declared.tail_words.Origin.{Origin}
use Rattle.commands.specs.declared.tail_words.Origin.TheVariants.{Beginning, End}
use Rattle.commands.specs.declared.tail_words.TailSpec.{TailSpec}
use Rattle.command_words.specs.Arguments.{argument, input_names}
use Rattle.command_words.specs.Letters.{letter_c, letter_n}
use Rattle.command_words.specs.Numbers.{number}

-- the sign before a number that counts from the beginning
abbrev pub plus : ℕ
plus = 43

-- the origin that a number with or without a sign counts from, and the number without its sign
abbrev pub signed : List ℕ → Origin × List ℕ
signed [] = (End, [])
signed (x ∷ xs) = if x == plus then (Beginning, xs)
    else (if x == dash then (End, xs) else (End, x ∷ xs))

-- what tail does by a number
abbrev pub tail_by : Counted → List ℕ → List (List ℕ) → Option TailSpec
tail_by counted word names =
    number (signed word).1 >>= λ n. Some (record {
      counted = counted;
      origin = (signed word).0;
      count = n;
      inputs = names;
    })

-- the same by the arguments of -n and -c, of which at most one is given; the last ten lines if none
-- is
abbrev pub tail_of_arguments : Option (List ℕ) → Option (List ℕ) → List (List ℕ) → Option TailSpec
tail_of_arguments None None names = Some (record {
  counted = counted.Lines;
  origin = End;
  count = 10;
  inputs = names;
})
tail_of_arguments (Some lines) None names = tail_by counted.Lines lines names
tail_of_arguments None (Some bytes) names = tail_by counted.Bytes bytes names
tail_of_arguments (Some lines) (Some bytes) names = None

-- the name of the only input
abbrev pub input_name : List (List ℕ) → Option (List (List ℕ))
input_name operands = if nat_le (length operands) 1 then input_names operands else None

-- what tail does by options and operands
abbrev pub tail_of_given : List Given → List (List ℕ) → Option TailSpec
tail_of_given given operands = input_name operands
    >>= λ names. tail_of_arguments (argument letter_n given) (argument letter_c given) names

-- `tail [-c number|-n number] [file]`
abbrev pub tail_means : List (List ℕ) → Option TailSpec
tail_means words = splits (codes "n:c:") words >>= λ o. tail_of_given o.given o.operands
