use Rattle.std.proofs.Common.{ℕ, ◌+◌, List, [], ◌∷◌, ◌++◌, get_or, ap, ap₂, sym, ◌∙◌}
use Rattle.run_types.specs.declared.step.Step.TheVariants.{Moved}
use Rattle.networks.specs.Turns.{waits_from}
use Rattle.network_laws.specs.declared.outcome.Waiting.{Waiting}
use Rattle.networks.proofs.lemmas.Waits.{waits_taken}
use Rattle.networks.proofs.turns.waits_of.Goals as goal

pub loop-answer-preserved : goal.loop-answer-preserved
loop-answer-preserved c = (
  ap (λ (n : ℕ). n + 1) c.loop-answer.invariant.0,
  λ g e.
      c.in_ok-note.ensures g e
      ∙ (ap₂ (λ (l : List Waiting) (n : ℕ). l ++ waits_from g n
      (get_or c.args.answers.now c.loop-answer.answer-index Moved ∷ []))
      (c.loop-answer.invariant.1 g e) c.loop-answer.invariant.0
      ∙ sym (waits_taken g c.args.answers.now c.loop-answer.answer-index Moved
      c.loop-answer-test.true)),
)
