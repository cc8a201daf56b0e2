-- The stages of a script: its commands over all pipelines, with what their words mean (POSIX.1-2017
-- XCU 2.9.2, 2.9.3).
use Rattle.std.specs.Prelude.{◌≡◌, ℕ, zero, suc, ◌+◌, Bool, true, false, List, [], ◌∷◌, ◌++◌}
use Rattle.std.specs.Prelude.{length, Option, Some, None}
use Rattle.command_words.specs.Texts.{◌>>=◌}
use Rattle.pipeline_text.specs.declared.script.Cmd.{Cmd}
use Rattle.pipeline_text.specs.declared.script.Pipeline.{Pipeline}
use Rattle.pipeline_text.specs.declared.script.Script.{Script}
use Rattle.commands.specs.Filters.{filter_means, is_nothing}
use Rattle.commands.specs.declared.spec.FilterSpec.{FilterSpec}
use Rattle.planner.specs.Places.{Stage}

-- a command at its place, before it is known what its words mean
pub record PlacedCommand : Type 0 where
  pub index : ℕ
  pub background : Bool
  pub is_first : Bool
  pub is_last : Bool
  pub command : Cmd

-- the commands of a pipeline, or the rest of one; the first of them has this index
abbrev pub placed_in : ℕ → Bool → Bool → List Cmd → List PlacedCommand
placed_in index background is_first [] = []
placed_in index background is_first (c ∷ cs) =
    record {
      index = index;
      background = background;
      is_first = is_first;
      is_last = is_nothing cs;
      command = c;
    } ∷ placed_in (suc index) background false cs

-- the commands of pipelines
abbrev pub placed_from : ℕ → List Pipeline → List PlacedCommand
placed_from index [] = []
placed_from index (p ∷ ps) = placed_in index p.background true p.commands
    ++ placed_from (index + length p.commands) ps

-- the commands of a script
abbrev pub placed : Script → List PlacedCommand
placed s = placed_from 0 s.pipelines

-- the stage that a command is, if its words mean this
abbrev pub stage_with : PlacedCommand → FilterSpec → Stage
stage_with c filter = record {
  index = c.index;
  background = c.background;
  is_first = c.is_first;
  is_last = c.is_last;
  command = c.command;
  filter = filter;
}

abbrev pub stage_of : PlacedCommand → Option Stage
stage_of c = filter_means c.command.words >>= λ filter. Some (stage_with c filter)

-- the stages of commands, if the words of each mean something
abbrev pub stages_of : List PlacedCommand → Option (List Stage)
stages_of [] = Some []
stages_of (c ∷ cs) = stage_of c >>= λ (s : Stage). stages_of cs
    >>= λ (ss : List Stage). Some (s ∷ ss)

-- the stages of a script
abbrev pub stages : Script → Option (List Stage)
stages s = stages_of (placed s)

-- the words of the command with this index mean nothing, and those of each before it mean something
abbrev pub IsFirstMeaningless : List PlacedCommand → ℕ → Type 0
IsFirstMeaningless [] i = ⊥
IsFirstMeaningless (c ∷ cs) zero = filter_means c.command.words ≡ None
IsFirstMeaningless (c ∷ cs) (suc i) =
    ((filter : FilterSpec) × (filter_means c.command.words ≡ Some filter)) × IsFirstMeaningless cs i

-- pipelines in the background, and then one in the foreground, each of at least one command
abbrev pub AreBody : List Pipeline → Type 0
AreBody [] = ⊥
AreBody (p ∷ []) = (p.background ≡ false) × (is_nothing p.commands ≡ false)
AreBody (p ∷ q ∷ ps) = (p.background ≡ true) × (is_nothing p.commands ≡ false) × AreBody (q ∷ ps)

-- whether `!` comes before the last pipeline
abbrev pub is_negated : List Pipeline → Bool
is_negated [] = false
is_negated (p ∷ []) = p.negated
is_negated (p ∷ q ∷ ps) = is_negated (q ∷ ps)
