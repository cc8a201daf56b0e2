-- Worked examples of the definitions.
use Rattle.std.specs.Prelude.{◌≡◌, [], ◌∷◌, true, false, Some, None, codes, refl}
use Rattle.std.proofs.Common.{arith, inr}
use Rattle.command_words.specs.Streams.{is_input_path}
use Rattle.commands.specs.declared.cut_words.Parts.TheVariants.{Bytes, Fields}
use Rattle.commands.specs.declared.tail_words.Counted.TheVariants as counted
use Rattle.commands.specs.declared.tail_words.Origin.TheVariants.{Beginning, End}
use Rattle.commands.specs.Cut.{cut_whole}
use Rattle.commands.specs.Head.{head_whole}
use Rattle.commands.specs.Lists.{ranges_in}
use Rattle.commands.specs.CutWords.{cut_means}
use Rattle.commands.specs.HeadWords.{head_means}
use Rattle.commands.specs.TailWords.{tail_means}
use Rattle.command_words.specs.Numbers.{number}
use Rattle.commands.specs.Tail.{tail_whole}
use Rattle.line_filters.specs.TailNeeds.{IsEnough}
use Rattle.line_filters.proofs.EndLaws.{tails_need_an_end}

-- `cut -d : -f 3,1`
pub fields_row :
    (cut_whole (record { first = 3; last = Some 3 } ∷ record { first = 1; last = Some 1 } ∷ [])
    (Fields 58 false) (Some (codes "a:b:c\nnone\n:x") ∷ [])).out ≡ codes "a:c\nnone\n\n"
fields_row = refl

-- `cut -b 2-` of two inputs and a missing one
pub bytes_row : (cut_whole (record { first = 2; last = None } ∷ []) Bytes
    (Some (codes "ab\ncd") ∷ None ∷ Some (codes "xyz") ∷ [])).out ≡ codes "b\nd\nyz\n"
bytes_row = refl

-- `head -n 1 a nofile b`
pub headers_row : (head_whole 1 (codes "a" ∷ codes "nofile" ∷ codes "b" ∷ [])
    (Some (codes "1\n2\n") ∷ None ∷ Some (codes "3\n") ∷ [])).out
    ≡ codes "==> a <==\n1\n\n==> b <==\n3\n"
headers_row = refl

-- `head -n 1`
pub head_row : (head_whole 1 (codes "-" ∷ []) (Some (codes "x\ny") ∷ [])).out ≡ codes "x\n"
head_row = refl

-- `tail -n +2`, `tail -n 1`, `tail -c 0`
pub from_line_row : (tail_whole counted.Lines Beginning 2 (Some (codes "a\nb\nc") ∷ [])).out
    ≡ codes "b\nc"
from_line_row = refl

pub last_line_row : (tail_whole counted.Lines End 1 (Some (codes "a\nb") ∷ [])).out ≡ codes "b"
last_line_row = refl

pub no_bytes_row : (tail_whole counted.Bytes End 0 (Some (codes "a\nb") ∷ [])).out ≡ []
no_bytes_row = refl

-- `tail -n 2`, of which two whole lines are enough
pub enough_row : IsEnough counted.Lines 2 (codes "a\n") (codes "b\nc\n")
enough_row = inr ((codes "a", refl), omega arith)

pub last_lines_row : tail_whole counted.Lines End 2 (Some (codes "a\nb\nc\n") ∷ [])
    ≡ tail_whole counted.Lines End 2 (Some (codes "b\nc\n") ∷ [])
last_lines_row = tails_need_an_end counted.Lines 2 (codes "a\n") (codes "b\nc\n") enough_row

pub last_lines_out_row : (tail_whole counted.Lines End 2 (Some (codes "a\nb\nc\n") ∷ [])).out
    ≡ codes "b\nc\n"
last_lines_out_row = refl

-- lists, and numbers
pub list_row : ranges_in (codes "3,1-2 -4\t5-")
    ≡ Some (record { first = 3; last = Some 3 } ∷ record {
      first = 1;
      last =
          Some 2;
    } ∷ record { first = 1; last = Some 4 } ∷ record { first = 5; last = None } ∷ [])
list_row = refl

pub reversed_row : ranges_in (codes "3-1") ≡ None
reversed_row = refl

pub greatest_row : number (codes "9223372036854775807") ≡ Some 9223372036854775807
greatest_row = refl

pub too_great_row : number (codes "9223372036854775808") ≡ None
too_great_row = refl

-- words
pub cut_words_row : cut_means (codes "-sd:" ∷ codes "-f2-" ∷ codes "in" ∷ [])
    ≡ Some (record {
      ranges = record { first = 2; last = None } ∷ [];
      parts =
          Fields 58 true;
      inputs = codes "in" ∷ [];
    })
unfolding is_input_path
cut_words_row = refl

pub two_lists_row : cut_means (codes "-b1" ∷ codes "-f1" ∷ []) ≡ None
two_lists_row = refl

pub head_words_row : head_means (codes "-n" ∷ codes "007" ∷ [])
    ≡ Some (record { count = 7; inputs = codes "-" ∷ [] })
head_words_row = refl

pub tail_words_row : tail_means (codes "-c+3" ∷ [])
    ≡ Some (record {
      counted = counted.Bytes;
      origin = Beginning;
      count = 3;
      inputs =
          codes "-" ∷ [];
    })
tail_words_row = refl

pub two_dashes_row : head_means (codes "-" ∷ codes "-" ∷ []) ≡ None
two_dashes_row = refl
