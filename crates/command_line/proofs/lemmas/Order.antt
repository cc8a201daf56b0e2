-- No check before that of the cause fails.
use Rattle.std.proofs.Common.{◌≡◌, ◌∙◌, ◌≤◌, ℕ, List, Some, None, ap, arith, inl, inr, is_some}
use Rattle.std.proofs.Common.{refl, sym, codes}
use Rattle.std.proofs.lemmas.Bool.{false≢true}
use Rattle.std.specs.Prelude.{option_and_then}
use Rattle.clap.specs.Words.{Row, Text}
use Rattle.run_types.specs.declared.placing.Placing.{Placing}
use Rattle.run_types.specs.declared.placing.Placing.TheVariants.{AsWritten, AtEnd, AtEndStored}
use Rattle.command_line.specs.PlacingNames.{placing_named}
use Rattle.command_line.specs.Numbers.{GivesNumber, HasBelow, KnowsSettings}
use Rattle.command_line.specs.Requests.{ComesFirst, GivesNoSuchAtomic, GivesNoSuchCode}
use Rattle.command_line.specs.Requests.{GivesNoSuchForm, GivesNoSuchShards, GivesNoSuchStrict}
use Rattle.command_line.specs.Requests.{GivesNotOneScript, IsMisusedBy, KnowsNamedForm}
use Rattle.command_line.specs.Requests.{KnowsPlacing, KnowsScript, KnowsShards, KnowsStrict}
use Rattle.command_line.specs.Requests.{atomic_in, code_in, the_causes}
use Rattle.command_line.specs.Shown.{GivesNoSuchHints, GivesNoSuchProgress, GivesNoSuchStats}
use Rattle.command_line.specs.Shown.{KnowsHints, KnowsProgress, KnowsStats}
use Rattle.command_line.specs.declared.misuse.Misuse.{Misuse}
use Rattle.command_line.specs.declared.misuse.Misuse.TheVariants.{Words, MaxCapacityBelowCapacity}
use Rattle.command_line.specs.declared.misuse.Misuse.TheVariants.{BytesBelowBlock, NotOneScript}
use Rattle.command_line.specs.declared.misuse.Misuse.TheVariants.{NoSuchForm, NoSuchShards}
use Rattle.command_line.specs.declared.misuse.Misuse.TheVariants.{TwoForms, NoSuchProgress}
use Rattle.command_line.specs.declared.misuse.Misuse.TheVariants.{NoSuchStats, NoSuchHints}
use Rattle.command_line.specs.declared.misuse.Misuse.TheVariants.{NoSuchAtomic, NoSuchCode, NoSuchStrict}
use Rattle.command_line.specs.declared.request.ScriptFrom.TheVariants as from

-- no code is asked about, so none that no fault has
no_code : (rows : List Row) → code_in rows ≡ None → GivesNoSuchCode rows → ⊥
no_code rows none (code, is, unknown, other) = let bad : None ≡ Some code = sym none ∙ is in cc

-- two numbers are in order, so the first is not below the second
in_order : (rows : List Row) (name : Text) (most : ℕ) (other : Text) (other_most : ℕ)
    (greater least : ℕ) → GivesNumber rows name most greater
    → GivesNumber rows other other_most least
    → least ≤ greater → HasBelow rows name most other other_most → ⊥
in_order rows name most other other_most greater least gives gives_other order
    (a, b, (text, is, within, reads), (text', is', within', reads'), below) =
    let one = gives text is within in
    let two = gives_other text' is' within' in
    absurd (omega (arith, one, two, reads, reads', order, below))

-- the script is given once, so neither twice nor never
one_script : (rows : List Row) → KnowsScript rows → GivesNotOneScript rows → ⊥
one_script rows (from.Text text, (is, none)) alike =
    false≢true (sym (ap is_some none) ∙ sym alike ∙ ap is_some is)
one_script rows (from.File name, (none, is)) alike =
    false≢true (sym (ap is_some none) ∙ alike ∙ ap is_some is)

-- the place of the progress is known, or none is named
some_place : (rows : List Row) → KnowsProgress rows → GivesNoSuchProgress rows → ⊥
some_place rows (Some progress, is) (given, unknown) =
    let bad : None ≡ Some progress = sym unknown ∙ is in
    cc
some_place rows (None, none) (given, unknown) = false≢true (sym (ap is_some none) ∙ given)

-- the form is known, or none is named
some_form : (rows : List Row) → KnowsNamedForm rows → GivesNoSuchForm rows → ⊥
some_form rows (Some form, is) (given, unknown) =
    let bad : None ≡ Some form = sym unknown ∙ is in
    cc
some_form rows (None, none) (given, unknown) = false≢true (sym (ap is_some none) ∙ given)

-- the form of the shards is known, or none is named
some_shards : (rows : List Row) → KnowsShards rows → GivesNoSuchShards rows → ⊥
some_shards rows (Some form, is) (given, unknown) =
    let bad : None ≡ Some form = sym unknown ∙ is in
    cc
some_shards rows (None, none) (given, unknown) = false≢true (sym (ap is_some none) ∙ given)

-- the form of the statistics is known, or none is named
some_stats : (rows : List Row) → KnowsStats rows → GivesNoSuchStats rows → ⊥
some_stats rows (Some form, inl is) (given, unknown) =
    let bad : None ≡ Some form = sym unknown ∙ is in
    cc
some_stats rows (Some form, inr (none, unnamed)) (given, unknown) =
    false≢true (sym (ap is_some none) ∙ given)
some_stats rows (None, (none, unnamed)) (given, unknown) =
    false≢true (sym (ap is_some none) ∙ given)

-- the place of the hints is known, or none is named
some_hints : (rows : List Row) → KnowsHints rows → GivesNoSuchHints rows → ⊥
some_hints rows (inl none) (given, unknown) = false≢true (sym (ap is_some none) ∙ given)
some_hints rows (inr known) (given, unknown) = false≢true (sym (ap is_some unknown) ∙ known)

-- a name of some time is that of one
named_time : (rows : List Row) (placing : Placing)
    → option_and_then placing_named (atomic_in rows) ≡ Some placing → GivesNoSuchAtomic rows → ⊥
named_time rows placing is (given, unknown) = let bad : None ≡ Some placing = sym unknown ∙ is in cc

-- the time at which outputs get what is written is known, or none is named
some_time : (rows : List Row) → KnowsPlacing rows → GivesNoSuchAtomic rows → ⊥
some_time rows (AsWritten, none) (given, unknown) = false≢true (sym (ap is_some none) ∙ given)
some_time rows (AtEnd, is) lacks = named_time rows AtEnd is lacks
some_time rows (AtEndStored, is) lacks = named_time rows AtEndStored is lacks

-- the name says whether a run is strict, or none is given
some_strict : (rows : List Row) → KnowsStrict rows → GivesNoSuchStrict rows → ⊥
some_strict rows (inl none) (given, unknown) = false≢true (sym (ap is_some none) ∙ given)
some_strict rows (inr known) (given, unknown) = false≢true (sym (ap is_some unknown) ∙ known)

-- the settings are in order
capacities_in_order : (rows : List Row) → KnowsSettings rows
    → HasBelow rows (codes "max-capacity") 4096 (codes "capacity") 4096 → ⊥
capacities_in_order rows knows =
    in_order rows (codes "max-capacity") 4096
    (codes "capacity") 4096 knows.settings.max_capacity knows.settings.capacity
    knows.given.max_capacity knows.given.capacity
    knows.settings.ordered_capacities

bytes_in_order : (rows : List Row) → KnowsSettings rows
    → HasBelow rows (codes "bytes") 268435456 (codes "block") 65536 → ⊥
bytes_in_order rows knows =
    let block = knows.settings.roomy_pipes in
    let read = knows.settings.short_first_read in
    in_order rows (codes "bytes") 268435456
    (codes "block") 65536 knows.settings.bytes knows.settings.first_read knows.given.bytes
    knows.given.first_read (omega (arith, block, read))

-- the cause of a misuse comes first
pub comes_first : (rows : List Row) (why : Misuse) → IsMisusedBy rows why
    → ComesFirst rows the_causes why
comes_first rows NoSuchCode by = inl refl
comes_first rows MaxCapacityBelowCapacity by = inr (no_code rows by.0.1, inl refl)
comes_first rows BytesBelowBlock (asks, ((most, least, gives, gives_other, order), lacks)) = inr (
  no_code rows asks.1,
  inr (
    in_order rows (codes "max-capacity") 4096
        (codes "capacity") 4096 most least gives gives_other order,
    inl refl,
  ),
)
comes_first rows NotOneScript (asks, (knows, lacks)) =
    inr (
      no_code rows asks.1,
      inr (
        capacities_in_order rows knows,
        inr (bytes_in_order rows knows, inl refl),
      ),
    )
comes_first rows NoSuchProgress (asks, (knows, script, lacks)) = inr (
  no_code rows asks.1,
  inr (
    capacities_in_order rows knows,
    inr (bytes_in_order rows knows, inr (one_script rows script, inl refl)),
  ),
)
comes_first rows NoSuchStats (asks, (knows, script, place, lacks)) = inr (
  no_code rows asks.1,
  inr (
    capacities_in_order rows knows,
    inr (
      bytes_in_order rows knows,
      inr (one_script rows script, inr (some_place rows place, inl refl)),
    ),
  ),
)
comes_first rows NoSuchHints (asks, (knows, script, place, stats, lacks)) = inr (
  no_code rows asks.1,
  inr (
    capacities_in_order rows knows,
    inr (
      bytes_in_order rows knows,
      inr (
        one_script rows script,
        inr (some_place rows place, inr (some_stats rows stats, inl refl)),
      ),
    ),
  ),
)
comes_first rows NoSuchAtomic (asks, (knows, script, (place, stats, hints), lacks)) = inr (
  no_code rows asks.1,
  inr (
    capacities_in_order rows knows,
    inr (
      bytes_in_order rows knows,
      inr (
        one_script rows script,
        inr (
          some_place rows place,
          inr (
            some_stats rows stats,
            inr (some_hints rows hints, inl refl),
          ),
        ),
      ),
    ),
  ),
)
comes_first rows NoSuchStrict (asks, (knows, script, (place, stats, hints), time, lacks)) = inr (
  no_code rows asks.1,
  inr (
    capacities_in_order rows knows,
    inr (
      bytes_in_order rows knows,
      inr (
        one_script rows script,
        inr (
          some_place rows place,
          inr (
            some_stats rows stats,
            inr (some_hints rows hints, inr (some_time rows time, inl refl)),
          ),
        ),
      ),
    ),
  ),
)
comes_first rows NoSuchForm (asks, (knows, script, (place, stats, hints), (time, strict), lacks)) = inr (
  no_code rows asks.1,
  inr (
    capacities_in_order rows knows,
    inr (
      bytes_in_order rows knows,
      inr (
        one_script rows script,
        inr (
          some_place rows place,
          inr (
            some_stats rows stats,
            inr (
              some_hints rows hints,
              inr (some_time rows time, inr (some_strict rows strict, inl refl)),
            ),
          ),
        ),
      ),
    ),
  ),
)
comes_first rows NoSuchShards (asks, (knows, script, (place, stats, hints), (time, strict), form, lacks)) =
    inr (
      no_code rows asks.1,
      inr (
        capacities_in_order rows knows,
        inr (
          bytes_in_order rows knows,
          inr (
            one_script rows script,
            inr (
              some_place rows place,
              inr (
                some_stats rows stats,
                inr (
                  some_hints rows hints,
                  inr (
                    some_time rows time,
                    inr (some_strict rows strict, inr (some_form rows form, inl refl)),
                  ),
                ),
              ),
            ),
          ),
        ),
      ),
    )
comes_first rows TwoForms
    (asks, (knows, script, (place, stats, hints), (time, strict), form, shards, lacks)) = inr (
      no_code rows asks.1,
      inr (
        capacities_in_order rows knows,
        inr (
          bytes_in_order rows knows,
          inr (
            one_script rows script,
            inr (
              some_place rows place,
              inr (
                some_stats rows stats,
                inr (
                  some_hints rows hints,
                  inr (
                    some_time rows time,
                    inr (
                      some_strict rows strict,
                      inr (some_form rows form, inr (some_shards rows shards, inl refl)),
                    ),
                  ),
                ),
              ),
            ),
          ),
        ),
      ),
    )
comes_first rows (Words error) by = absurd by.1
