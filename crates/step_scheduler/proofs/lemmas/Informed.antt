-- What a stage knows of its inputs, input by input.
use Rattle.std.proofs.Common.{◌≡◌, ℕ, ◌+◌, ◌<◌, List, [], ◌∷◌, ◌++◌, length, map, take, get_or, sym}
use Rattle.std.proofs.Common.{ap, ◌∙◌}
use Rattle.std.specs.Prelude.{is_none}
use Rattle.std.proofs.lemmas.List.{map-append, take_more}
use Rattle.machine.specs.declared.protocol.Presence.{Presence}
use Rattle.graphs.specs.Graph.{writer}
use Rattle.planner.specs.Planned.{Planned, graph_of}
use Rattle.network_laws.specs.Sequential.{is_missing}
use Rattle.network_laws.specs.State.{presence_of}
use Rattle.openings.specs.Answers.{OpenedFiles, own_file}
use Rattle.step_scheduler.specs.inner.Nodes.{presences_of}

-- it was told of one input more
pub presences_more : (plan : Planned) (o : OpenedFiles) (inputs : List ℕ) (i : ℕ)
    (told now : List Presence) (p : Presence) → i < length inputs
    → told ≡ presences_of plan o (take i inputs)
    → p ≡ presence_of (is_missing (graph_of plan) (λ k. is_none (own_file o k))
    (writer (graph_of plan) (get_or inputs i 0)))
    → now ≡ told ++ p ∷ [] → now ≡ presences_of plan o (take (i + 1) inputs)
presences_more plan o inputs i told now p lt was is more =
    let f : ℕ → Presence = λ (q : ℕ). presence_of
    (is_missing (graph_of plan) (λ k. is_none (own_file o k)) (writer (graph_of plan) q)) in
    more ∙ (ap (λ (ts : List Presence). ts ++ p ∷ []) was
    ∙ (ap (λ (x : Presence). map f (take i inputs) ++ x ∷ []) is
    ∙ (sym (map-append f (take i inputs) (get_or inputs i 0 ∷ []))
    ∙ ap (λ (xs : List ℕ). map f xs) (sym (take_more inputs i 0 lt)))))
