-- The place of a word, or of the variable.
use Rattle.std.specs.Prelude.{ℕ, List, Option}
use Rattle.std.specs.Prelude.{option_map}
use Rattle.std.specs.List.{slice_get}
use Rattle.plrun.specs.declared.words.Place.{Place}
use Rattle.plrun.specs.declared.words.Place.TheVariants.{Word, Options}

-- what is at a place, if that is known: its bytes, or none
abbrev pub held_at : Option (List (List ℕ)) → Option (Option (List ℕ)) → Place
    → Option (Option (List ℕ))
held_at words options (Word number) = option_map (λ ws. slice_get ws number) words
held_at words options Options = options
