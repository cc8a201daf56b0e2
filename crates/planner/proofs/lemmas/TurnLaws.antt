-- The stages of a script are numbered in turn.
use Rattle.std.proofs.Common.{◌≡◌, ℕ, zero, suc, ◌+◌, ◌<◌, Bool, true, false, List, [], ◌∷◌, ◌++◌}
use Rattle.std.proofs.Common.{length, get_or, Some, refl, sym, ap, ◌∙◌, subst, arith}
use Rattle.std.proofs.lemmas.Option.{same_Some}
use Rattle.std.specs.List.{Contains}
use Rattle.std.proofs.lemmas.List.{get_or_default}
use Rattle.command_words.specs.Texts.{◌>>=◌}
use Rattle.pipeline_text.specs.declared.script.Cmd.{Cmd}
use Rattle.pipeline_text.specs.declared.script.Pipeline.{Pipeline}
use Rattle.pipeline_text.specs.declared.script.Script.{Script}
use Rattle.commands.specs.Filters.{filter_means}
use Rattle.commands.specs.declared.spec.FilterSpec.{FilterSpec}
use Rattle.commands.proofs.Dashes.{bound}
use Rattle.planner.specs.Places.{Stage}
use Rattle.planner.specs.Stages.{PlacedCommand, placed_in, placed_from, placed, stage_with}
use Rattle.planner.specs.Stages.{stage_of, stages_of, stages}
use Rattle.planner.specs.Laws.{AreInTurn}

-- the indices of commands are this number and those that follow it
abbrev pub AreNumbered : ℕ → List PlacedCommand → Type 0
AreNumbered k [] = Unit {0}
AreNumbered k (c ∷ cs) = (c.index ≡ k) × AreNumbered (suc k) cs

placed_append : (k : ℕ) (cs ds : List PlacedCommand) → AreNumbered k cs
    → AreNumbered (k + length cs) ds → AreNumbered k (cs ++ ds)
placed_append k [] ds a b = subst (λ n. AreNumbered n ds) (omega arith) b
placed_append k (c ∷ cs) ds a b =
    (a.0, placed_append (suc k) cs ds a.1 (subst (λ n. AreNumbered n ds) (omega arith) b))

placed_in_turn : (k : ℕ) (background is_first : Bool) (cs : List Cmd)
    → AreNumbered k (placed_in k background is_first cs)
placed_in_turn k background is_first [] = tt
placed_in_turn k background is_first (c ∷ cs) = (refl, placed_in_turn (suc k) background false cs)

length_placed_in : (k : ℕ) (background is_first : Bool) (cs : List Cmd)
    → length (placed_in k background is_first cs) ≡ length cs
length_placed_in k background is_first [] = refl
length_placed_in k background is_first (c ∷ cs) =
    ap suc (length_placed_in (suc k) background false cs)

placed_from_turn : (k : ℕ) (ps : List Pipeline) → AreNumbered k (placed_from k ps)
placed_from_turn k [] = tt
placed_from_turn k (p ∷ ps) =
    let l = length_placed_in k p.background true p.commands in
    placed_append k (placed_in k p.background true p.commands)
    (placed_from (k + length p.commands) ps)
    (placed_in_turn k p.background true p.commands)
    (subst (λ n. AreNumbered (k + n) (placed_from (k + length p.commands) ps)) (sym l)
    (placed_from_turn (k + length p.commands) ps))

-- a stage, and those after it
pub stages_first : {P : Type 0} (c : PlacedCommand) (cs : List PlacedCommand) (ss : List Stage)
    → stages_of (c ∷ cs) ≡ Some ss
    → ((filter : FilterSpec) (rest : List Stage) → filter_means c.command.words ≡ Some filter
    → stages_of cs ≡ Some rest → stage_with c filter ∷ rest ≡ ss → P) → P
stages_first c cs ss e go =
    bound (stage_of c) (λ (s : Stage). stages_of cs >>= λ (ss : List Stage). Some (s ∷ ss)) ss e
    (λ s es e'.
    bound (filter_means c.command.words) (λ filter. Some (stage_with c filter)) s es
    (λ filter ef es'.
    bound (stages_of cs) (λ (ss : List Stage). Some (s ∷ ss)) ss e' (λ rest er e''.
    go filter rest ef er (ap (λ (t : Stage). t ∷ rest) (same_Some (stage_with c filter) s es')
    ∙ same_Some (s ∷ rest) ss e''))))

stages_of_turn : (cs : List PlacedCommand) (k : ℕ) (ss : List Stage) → AreNumbered k cs
    → stages_of cs ≡ Some ss → AreInTurn k ss
stages_of_turn [] k ss a e = subst (AreInTurn k) (same_Some [] ss e) tt
stages_of_turn (c ∷ cs) k ss a e = stages_first c cs ss e
    (λ filter rest ef er es. subst (AreInTurn k) es (a.0, stages_of_turn cs (suc k) rest a.1 er))

-- the stages of a script are numbered from 0 on
pub stages_in_turn : (s : Script) (ss : List Stage) → stages s ≡ Some ss → AreInTurn 0 ss
stages_in_turn s ss e = stages_of_turn (placed s) 0 ss (placed_from_turn 0 s.pipelines) e

-- the stage at a place has it as its index
pub index_at : (k : ℕ) (ss : List Stage) (i : ℕ) (d : Stage) → AreInTurn k ss → i < length ss
    → (get_or ss i d).index ≡ k + i
index_at k [] i d h l = absurd (omega arith)
index_at k (s ∷ ss) zero d h l = h.0 ∙ omega arith
index_at k (s ∷ ss) (suc i) d h l = index_at (suc k) ss i d h.1 (omega arith) ∙ omega arith

-- a stage is at the place of its index
pub at_index : (ss : List Stage) (s d : Stage) → AreInTurn 0 ss → Contains ss s
    → (s.index < length ss) × (get_or ss s.index d ≡ s)
at_index ss s d h (i, l, e) =
    let n : (get_or ss i s).index ≡ i = index_at 0 ss i s h l ∙ omega arith in
    let m : s.index ≡ i = ap (λ (t : Stage). t.index) (sym e) ∙ n in
    (omega (arith, m), ap (λ j. get_or ss j d) m ∙ (get_or_default ss i d s l ∙ e))
