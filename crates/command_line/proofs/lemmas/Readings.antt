-- What the getters of the matches read, by the rows that the words give.
use Rattle.std.proofs.Common.{◌≡◌, ◌∙◌, ◌≤◌, ℕ, Bool, true, false, List, Option, Some, None, Result}
use Rattle.std.proofs.Common.{Ok, Err, ap, refl, sym, arith, is_some, codes, cond, option_map, ◌⊎◌}
use Rattle.std.proofs.Common.{◌||◌, inl, inr}
use Rattle.std.specs.Prelude.{bytes_eq, option_and_then}
use Rattle.std.specs.Borrow.{Bor}
use Rattle.std.specs.Str.Parse.{ParsesUnsigned, digits_value, without_leading_plus}
use Rattle.clap.specs.Words.{IsUnsignedIn, ReadsOne, Row, Text, first_of, first_value, one_text}
use Rattle.clap.specs.Words.{rows_of}
use Rattle.clap.specs.declared.parser.matches.Found.{Found}
use Rattle.clap.proofs.WalkLemmas.{first_value-rows, one_text-rows}
use Rattle.run_types.specs.declared.placing.Placing.{Placing}
use Rattle.run_types.specs.declared.placing.Placing.TheVariants.{AsWritten, AtEnd, AtEndStored}
use Rattle.command_line.specs.PlacingNames.{placing_named}
use Rattle.command_line.specs.Requests.{GivesFlag, GivesPlacing, GivesStrict, GivesTextForm}
use Rattle.command_line.specs.Requests.{GivesTwoForms, IsUnrun, KnowsNamedForm, KnowsShards}
use Rattle.command_line.specs.Requests.{KnowsStrict, atomic_in, plan_in}
use Rattle.command_line.specs.Requests.{shards_in}
use Rattle.command_line.specs.Shown.{GivesStats, GivesUnnamedStats, stats_in}
use Rattle.command_line.specs.StatsForms.{stats_named}
use Rattle.command_line.specs.PlanForms.{form_named}
use Rattle.command_line.specs.ShardsForms.{shards_named}
use Rattle.command_line.specs.declared.showing.PlanForm.{PlanForm}
use Rattle.command_line.specs.declared.showing.StatsForm.{StatsForm}

-- whether an option is there
pub flag_given : (f : Found) (id : Text) (set : Bool) → (one_text f id ≡ None → set ≡ false)
    → (one_text f id ≡ Some (codes "true") → set ≡ true)
    → (one_text f id ≡ Some (codes "false") → set ≡ false) → GivesFlag (rows_of f) id set
flag_given f id set none there other = record {
  there = λ e. there (one_text-rows f id ∙ e);
  other = λ e. other (one_text-rows f id ∙ e);
  none = λ e. none (one_text-rows f id ∙ e);
}

-- the first text of an option or operand
pub text_given : (f : Found) (id : Text) (read : Option (Bor Text))
    → option_map (λ s. s.now) read ≡ first_value f id
    → first_of id (rows_of f) ≡ option_map (λ s. s.now) read
text_given f id read shows = sym (first_value-rows f id) ∙ sym shows

-- whether there is one
pub some_given : (f : Found) (id : Text) (read : Option (Bor Text))
    → option_map (λ s. s.now) read ≡ first_value f id
    → is_some (first_of id (rows_of f)) ≡ is_some read
some_given f id None shows = ap is_some (text_given f id None shows)
some_given f id (Some text) shows = ap is_some (text_given f id (Some text) shows)

-- a number that was read and is within its bounds stays as it is
pub number_given : (E : Type 0) (gives : List ℕ → Result ℕ E
    → Type 0) (most : ℕ) (text : Text) (read : Option ℕ) (number : ℕ) → ReadsOne gives text read
    → ((t : Text) (r : Result ℕ E) → gives t r → ParsesUnsigned 64 10 t r)
    → ((value : ℕ) → read ≡ Some value → 1 ≤ value → value ≤ most → number ≡ value)
    → IsUnsignedIn 1 most text → number ≡ digits_value 10 (without_leading_plus text)
number_given E gives most text (Some value) number reads parses stays within =
    let is = (parses text (Ok value) reads).1 in
    stays value refl (omega (arith, is, within)) (omega (arith, is, within)) ∙ is
number_given E gives most text None number reads parses stays within =
    absurd (parses text (Err reads.0) reads.1 (within.0, within.1))

-- the form of the statistics, if none is named
pub unnamed_stats_given : (rows : List Row) (form : Option StatsForm) → stats_in rows ≡ None
    → GivesUnnamedStats rows form → GivesStats rows form
unnamed_stats_given rows (Some form) none given = inr (none, given)
unnamed_stats_given rows None none given = (none, given)

-- the form of the statistics, if one is named
pub named_stats_given : (rows : List Row) (form : StatsForm)
    → option_and_then stats_named (stats_in rows) ≡ Some form → GivesStats rows (Some form)
named_stats_given rows form is = inl is

-- no name means that outputs get what is written as it is written
never_as_written : (name : Option Text) → option_and_then placing_named name ≡ Some AsWritten → ⊥
never_as_written None is = cc
never_as_written (Some name) is = by_case (bytes_eq name (codes "renamed"))
    (bytes_eq name (codes "synced")) is
  where
    by_case : (renamed synced : Bool)
        → cond renamed (Some AtEnd) (cond synced (Some AtEndStored) None) ≡ Some AsWritten → ⊥
    by_case true synced is = cc
    by_case false true is = cc
    by_case false false is = cc

-- the time that a name means
pub placing_given : (rows : List Row) (placing : Placing)
    → option_and_then placing_named (atomic_in rows) ≡ Some placing → GivesPlacing rows placing
placing_given rows AsWritten is = absurd (never_as_written (atomic_in rows) is)
placing_given rows AtEnd is = is
placing_given rows AtEndStored is = is

-- who knows whether a run is strict knows what the name says
pub strict_known : (rows : List Row) (placing : Placing) (strict : Bool)
    → GivesStrict rows placing strict → KnowsStrict rows
strict_known rows placing strict (inl is) = inr (ap is_some is)
strict_known rows placing strict (inr (none, held)) = inl none

-- a script of which a plan or a check is asked for is not to be run
pub unrun_given : (form : Option PlanForm) (check : Bool) → (check ≡ true) ⊎ (is_some form ≡ true)
    → IsUnrun form check
unrun_given (Some form) check either = tt
unrun_given None check (inl given) = given
unrun_given None check (inr bad) = absurd (cc)

-- a name that means something is given
named_given : {A B : Type 0} (means : A → Option B) (name : Option A) (it : B)
    → option_and_then means name ≡ Some it → is_some name ≡ true
named_given means None it is = cc
named_given means (Some name) it is = refl

-- one of two is true
or_first : (one other : Bool) → one ≡ true → (one || other) ≡ true
or_first one other is = ap (λ (b : Bool). b || other) is

or_second : (one other : Bool) → other ≡ true → (one || other) ≡ true
or_second true other is = refl
or_second false other is = is

-- a form is given by its name, or shards are, and a picture too
pub pictured_too : (rows : List Row) (form : PlanForm) → GivesTextForm rows (Some form)
    → GivesFlag rows (codes "dot") true
    → KnowsNamedForm rows × KnowsShards rows × GivesTwoForms rows
pictured_too rows form (inl (named, none)) pictured = (
  (Some form, named),
  (None, none),
  inr (
    or_first (is_some (plan_in rows)) (is_some (shards_in rows))
        (named_given form_named (plan_in rows) form named),
    pictured,
  ),
)
pictured_too rows form (inr (shards, is, none, given)) pictured = (
  (None, none),
  (Some shards, given),
  inr (
    or_second (is_some (plan_in rows)) (is_some (shards_in rows))
        (named_given shards_named (shards_in rows) shards given),
    pictured,
  ),
)
