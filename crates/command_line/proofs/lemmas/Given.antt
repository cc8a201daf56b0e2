-- What the program's words give for its options, by the rules that they are read by.
use Rattle.std.proofs.Common.{◌≡◌, ◌∙◌, true, List, [], Option, Some, None, Result, Ok, Err, ap}
use Rattle.std.proofs.Common.{refl, subst, sym}
use Rattle.std.specs.Prelude.{IfOk, IfErr, bytes_eq, find, option_and_then, option_map}
use Rattle.clap.specs.Words.{App, FailsBy, HasKind, HasMatchesOf, Row, Text, fault_of, found_of}
use Rattle.clap.specs.Words.{is_simple, is_simple_and_free, matched_of, matches_of, rows_of}
use Rattle.clap.specs.Walk.{row_of}
use Rattle.clap.specs.Facts.{Entry}
use Rattle.clap.specs.declared.parser.matches.Found.{Found}
use Rattle.clap.specs.declared.parser.matches.MatchedArg.{MatchedArg}
use Rattle.clap.specs.declared.error.Error.{Error}
use Rattle.clap.specs.declared.parser.matches.ArgMatches.{ArgMatches}
use Rattle.clap.proofs.OnLiterals.{clap_on_literals}
use Rattle.clap.proofs.WalkLemmas.{find_row}
use Rattle.command_line.specs.CommandLine.{faults_in, plrun, rows_in}
use Rattle.command_line.specs.Numbers.{is_given, is_word}

-- the command line has no option by which words are read in another way, and none that has to do
-- with another
plain : is_simple plrun ≡ true
unfolding clap_on_literals
plain = refl

free : is_simple_and_free plrun ≡ true
unfolding clap_on_literals
free = refl

-- what words give that were read
pub rows_given : (app : App) (words : List Text) (result : Result ArgMatches Error) → app ≡ plrun
    → IfOk result (HasMatchesOf app words)
    → (is_simple_and_free app ≡ true → FailsBy (fault_of app words) result)
    → IfOk result (λ matches. (faults_in words ≡ []) × (rows_of (found_of matches) ≡ rows_in words))
rows_given app words (Ok matches) is has fails = (
  subst (λ a. fault_of a words ≡ []) is (fails (ap is_simple_and_free is ∙ free)),
  (has (ap is_simple is ∙ plain)).0 ∙ ap (λ a. matches_of a words) is,
)
rows_given app words (Err why) is has fails = tt

-- what is wrong with words that were not read
pub faults_given : (app : App) (words : List Text) (result : Result ArgMatches Error) → app ≡ plrun
    → (is_simple_and_free app ≡ true → FailsBy (fault_of app words) result)
    → IfErr result (HasKind (faults_in words))
faults_given app words (Ok matches) is fails = tt
faults_given app words (Err why) is fails =
    subst (λ a. HasKind (fault_of a words) why) is (fails (ap is_simple_and_free is ∙ free))

-- a word gives an option its value, by the entry of the option or by its row
pub word_given : (f : Found) (name : Text)
    → is_word (option_and_then (λ a. a.source) (matched_of f name)) ≡ is_given (rows_of f) name
word_given f name = go (find (λ (e : Entry). bytes_eq e.0.now name) f.entries.items)
    ∙ ap (λ (o : Option Row). is_word (option_and_then (λ r. r.source) o))
    (sym (find_row f.entries.items name))
  where
    go : (o : Option Entry)
        → is_word (option_and_then (λ (a : MatchedArg). a.source) (option_map (λ e. e.1) o))
        ≡ is_word (option_and_then (λ (r : Row). r.source) (option_map row_of o))
    go None = refl
    go (Some e) = refl
