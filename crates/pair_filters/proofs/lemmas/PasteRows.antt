-- Worked examples of the definitions.
use Rattle.std.specs.Prelude.{◌≡◌, ℕ, List, [], ◌∷◌, Option, Some, None, true, false, codes, refl}
use Rattle.command_words.specs.Streams.{is_input_path}
use Rattle.commands.specs.PasteWords.{paste_means}
use Rattle.commands.specs.Paste.{paste_whole}

-- the delimiters of these bytes
abbrev tab : List (Option ℕ)
tab = Some 9 ∷ []

-- `paste - -`
pub two_columns_row : (paste_whole tab false (0 ∷ 0 ∷ []) (Some (codes "1\n2\n3\n") ∷ [])).out
    ≡ codes "1\t2\n3\t\n"
two_columns_row = refl

-- `paste -d ',;' a b c`
pub circle_row : (paste_whole (Some 44 ∷ Some 59 ∷ []) false (0 ∷ 1 ∷ 2 ∷ [])
    (Some (codes "1\n2\n") ∷ Some (codes "a") ∷ Some (codes "x\ny\nz") ∷ [])).out
    ≡ codes "1,a;x\n2,;y\n,;z\n"
circle_row = refl

-- `paste - f -`
pub between_row : (paste_whole tab false (0 ∷ 1 ∷ 0 ∷ [])
    (Some (codes "1\n2\n3\n") ∷ Some (codes "a\nb\nc\n") ∷ [])).out
    ≡ codes "1\ta\t2\n3\tb\t\n\tc\t\n"
between_row = refl

-- `paste -d '\0' - -`
pub empty_delimiter_row : (paste_whole (None ∷ []) false (0 ∷ 0 ∷ [])
    (Some (codes "1\n2\n3\n") ∷ [])).out ≡ codes "12\n3\n"
empty_delimiter_row = refl

-- `paste nofile in`
pub missing_row : (paste_whole tab false (0 ∷ 1 ∷ []) (None ∷ Some (codes "1\n2\n") ∷ [])).out ≡ []
missing_row = refl

-- `paste -s -d ',\n'`
pub serial_row : (paste_whole (Some 44 ∷ Some 10 ∷ []) true (0 ∷ [])
    (Some (codes "1\n2\n3\n4\n") ∷ [])).out ≡ codes "1,2\n3,4\n"
serial_row = refl

-- `paste -s nofile in`
pub serial_missing_row : (paste_whole tab true (0 ∷ 1 ∷ [])
    (None ∷ Some (codes "1\n2\n3\n4") ∷ [])).out ≡ codes "1\t2\t3\t4\n"
serial_missing_row = refl

-- `paste -s - -`
pub serial_twice_row : (paste_whole tab true (0 ∷ 0 ∷ []) (Some (codes "1\n2\n") ∷ [])).out
    ≡ codes "1\t2\n\n"
serial_twice_row = refl

-- an input without lines, and one that is not there
pub no_lines_row : (paste_whole tab true (0 ∷ 1 ∷ []) (Some [] ∷ [])).out ≡ codes "\n"
no_lines_row = refl

pub no_input_row : (paste_whole tab false (1 ∷ 0 ∷ []) (Some (codes "a\n") ∷ [])).out
    ≡ codes "\ta\n"
no_input_row = refl

-- words
pub words_row : paste_means
    (codes "-d" ∷ codes "\\0,\\n\\t\\\\\\x\\" ∷ codes "-" ∷ codes "f" ∷ codes "-" ∷ codes "f" ∷ [])
    ≡ Some
    (record {
      delimiters = None ∷ Some 44 ∷ Some 10 ∷ Some 9 ∷ Some 92 ∷ Some 120 ∷ Some 92
          ∷ [];
      is_serial = false;
      inputs = codes "-" ∷ codes "f" ∷ codes "f" ∷ [];
      columns =
          0 ∷ 1 ∷ 0 ∷ 2 ∷ [];
    })
unfolding is_input_path
words_row = refl

pub later_dash_row : paste_means (codes "-sd," ∷ codes "a" ∷ codes "-" ∷ codes "-" ∷ codes "b" ∷ [])
    ≡ Some (record {
      delimiters = Some 44 ∷ [];
      is_serial = true;
      inputs =
          codes "a" ∷ codes "-" ∷ codes "b" ∷ [];
      columns = 0 ∷ 1 ∷ 1 ∷ 2 ∷ [];
    })
unfolding is_input_path
later_dash_row = refl

pub no_words_row : paste_means []
    ≡ Some (record {
      delimiters = Some 9 ∷ [];
      is_serial = false;
      inputs = codes "-" ∷ [];
      columns =
          0 ∷ [];
    })
no_words_row = refl

pub empty_list_row : paste_means (codes "-d" ∷ [] ∷ []) ≡ None
empty_list_row = refl
