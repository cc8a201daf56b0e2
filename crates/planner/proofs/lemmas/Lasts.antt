-- The last pipeline of a script.
use Rattle.std.proofs.Common.{◌≡◌, suc, ◌-◌, ◌≤◌, List, [], ◌∷◌, length, get_or, ap, ◌∙◌, arith}
use Rattle.pipeline_text.specs.declared.script.Pipeline.{Pipeline}
use Rattle.planner.specs.Stages.{is_negated}

pub last_negated : (ps : List Pipeline) (p : Pipeline) → 1 ≤ length ps
    → p ≡ get_or ps (length ps - 1) p → p.negated ≡ is_negated ps
last_negated [] p l e = absurd (omega (arith, l))
last_negated (q ∷ []) p l e = ap (λ (x : Pipeline). x.negated) e
last_negated (q ∷ r ∷ ps) p l e =
    let n : suc (suc (length ps)) - 1 ≡ suc (suc (length ps) - 1) = omega arith in
    last_negated (r ∷ ps) p (omega arith) (e ∙ ap (λ k. get_or (q ∷ r ∷ ps) k p) n)
