-- Worked examples of the definitions.
use Rattle.std.specs.Prelude.{◌≡◌, [], ◌∷◌, Some, None, codes, refl}
use Rattle.std.specs.Fmt.{digits}
use Rattle.command_words.specs.Streams.{is_output_path}
use Rattle.commands.specs.declared.uniq_words.RunsShown.TheVariants.{Every, Counted, Repeated}
use Rattle.commands.specs.declared.uniq_words.RunsShown.TheVariants.{Single}
use Rattle.commands.specs.Keys.{key}
use Rattle.commands.specs.UniqWords.{uniq_means}
use Rattle.commands.specs.Uniq.{uniq_whole}

-- `uniq`, `uniq -c`, `uniq -d`, `uniq -u`
pub every_row : (uniq_whole 0 0 Every (Some (codes "a\na\nb") ∷ [])).out ≡ codes "a\nb\n"
every_row = refl

pub counted_row : (uniq_whole 0 0 Counted (Some (codes "a\na\nb") ∷ [])).out ≡ codes "2 a\n1 b\n"
unfolding digits
counted_row = refl

pub count_row : (uniq_whole 0 0 Counted (Some (codes "a\na\nb") ∷ [])).count ≡ 2
count_row = refl

pub no_count_row : (uniq_whole 0 0 Every (Some (codes "a\na\nb") ∷ [])).count ≡ 0
no_count_row = refl

pub repeated_row : (uniq_whole 0 0 Repeated (Some (codes "a\na\nb") ∷ [])).out ≡ codes "a\n"
repeated_row = refl

pub single_row : (uniq_whole 0 0 Single (Some (codes "a\na\nb\na") ∷ [])).out ≡ codes "b\na\n"
single_row = refl

pub nothing_row : (uniq_whole 0 0 Counted (Some [] ∷ [])).out ≡ []
nothing_row = refl

pub missing_row : (uniq_whole 0 0 Counted (None ∷ [])).out ≡ []
missing_row = refl

-- `uniq -f 1 -s 2`, and blanks at the beginning of a line
pub skips_row : (uniq_whole 1 2 Every (Some (codes "1 xa\n2 ya\n3 yb") ∷ [])).out
    ≡ codes "1 xa\n3 yb\n"
skips_row = refl

pub blanks_row : (uniq_whole 1 0 Every (Some (codes " \ta x\nb x\nc  x\n") ∷ [])).out
    ≡ codes " \ta x\nc  x\n"
blanks_row = refl

pub short_key_row : key 2 1 (codes "a b") ≡ []
short_key_row = refl

-- words
pub words_row : uniq_means (codes "-cf1" ∷ codes "-s" ∷ codes "2" ∷ codes "in" ∷ codes "out" ∷ [])
    ≡ Some (record {
      skipped_fields = 1;
      skipped_bytes = 2;
      shown = Counted;
      inputs =
          codes "in" ∷ [];
      output = Some (codes "out");
    })
unfolding is_output_path
words_row = refl

pub dashes_row : uniq_means (codes "-" ∷ codes "-" ∷ [])
    ≡ Some (record {
      skipped_fields = 0;
      skipped_bytes = 0;
      shown = Every;
      inputs =
          codes "-" ∷ [];
      output = None;
    })
dashes_row = refl

pub no_words_row : uniq_means []
    ≡ Some (record {
      skipped_fields = 0;
      skipped_bytes = 0;
      shown = Every;
      inputs =
          codes "-" ∷ [];
      output = None;
    })
no_words_row = refl

pub exclusive_row : uniq_means (codes "-d" ∷ codes "-u" ∷ []) ≡ None
exclusive_row = refl

pub three_files_row : uniq_means (codes "a" ∷ codes "b" ∷ codes "c" ∷ []) ≡ None
three_files_row = refl

pub great_number_row : uniq_means (codes "-f" ∷ codes "9223372036854775808" ∷ []) ≡ None
great_number_row = refl
