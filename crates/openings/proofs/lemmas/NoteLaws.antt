-- The table by node, filled from the last opening to the first.
use Rattle.std.proofs.Common.{◌≡◌, ℕ, zero, suc, List, ◌∷◌, length, map, drop, Option, Some, None}
use Rattle.std.proofs.Common.{refl, sym, ap, ◌∙◌, if◌then◌else◌, replicate, arith}
use Rattle.std.specs.List.{slice_get}
use Rattle.std.specs.Option.{option_map}
use Rattle.std.proofs.Common.{get_or, ◌≤◌}
use Rattle.std.proofs.lemmas.Option.{slice_get-map, slice_get-get_or}
use Rattle.planner.specs.declared.plan.InOpening.{InOpening}
use Rattle.planner.specs.declared.plan.OutOpening.{OutOpening}
use Rattle.planner.specs.Planned.{Planned}
use Rattle.openings.specs.Answers.{OpenedFiles, answer_at, own_file, file_of, is_of, first_answer}
use Rattle.openings.specs.Answers.{input_nodes, output_nodes}

-- the first answer from a place on, by the opening at that place
first_at : (nodes answers : List (Option ℕ)) (place : ℕ) (own answer : Option ℕ) (k : ℕ)
    (other : Option ℕ) → slice_get nodes place ≡ Some own → slice_get answers place ≡ Some answer →
    first_answer (drop place nodes) (drop place answers) k other
    ≡ (if is_of own k then answer else first_answer (drop (suc place) nodes)
    (drop (suc place) answers) k other)
first_at (x ∷ nodes) (y ∷ answers) zero own answer k other n a =
    let same : x ≡ own = cc in let also : y ≡ answer = cc in
    rw (same, also) refl
first_at (x ∷ nodes) (y ∷ answers) (suc place) own answer k other n a =
    first_at nodes answers place own answer k other n a
first_at _ _ place own answer k other n a = absurd (cc)

-- the answer to the opening at a place was noted
noted_more : (nodes answers : List (Option ℕ)) (place left : ℕ) (own answer : Option ℕ)
    → suc left ≡ place → slice_get nodes left ≡ Some own → slice_get answers left ≡ Some answer →
    (k : ℕ) (start mid now : Option ℕ)
    → mid ≡ first_answer (drop place nodes) (drop place answers) k start
    → now ≡ (if is_of own k then answer else mid) →
    now ≡ first_answer (drop left nodes) (drop left answers) k start
noted_more nodes answers place left own answer next n a k start mid now was noted =
    noted ∙ ap (λ m. if is_of own k then answer else m) (was
    ∙ ap (λ p. first_answer (drop p nodes) (drop p answers) k start) (sym next))
    ∙ sym (first_at nodes answers left own answer k start n a)

-- the answer to an input was noted
pub input_noted : (openings : List InOpening) (answers : List (Option ℕ)) (place left : ℕ)
    (o : InOpening) (d : Option ℕ) → suc left ≡ place → place ≤ length answers
    → length answers ≡ length openings →
    (k : ℕ) (start mid now : Option ℕ)
    → mid ≡ first_answer (drop place (input_nodes openings)) (drop place answers) k start
    → now ≡ (if is_of (get_or openings left o).node k then get_or answers left d else mid) →
    now ≡ first_answer (drop left (input_nodes openings)) (drop left answers) k start
input_noted openings answers place left o d next within count =
    noted_more (input_nodes openings) answers place left (get_or openings left o).node
    (get_or answers left d) next
    (slice_get-map (λ (p : InOpening). p.node) openings left
    ∙ ap (option_map (λ (p : InOpening). p.node))
    (slice_get-get_or openings left o (omega (arith, next, within, count))))
    (slice_get-get_or answers left d (omega (arith, next, within)))

-- the answer to an output was noted
pub output_noted : (openings : List OutOpening) (answers : List ℕ) (place left : ℕ) (o : OutOpening)
    (d : ℕ) → suc left ≡ place → place ≤ length answers → length answers ≡ length openings →
    (k : ℕ) (start mid now : Option ℕ)
    → mid ≡ first_answer (drop place (output_nodes openings))
    (drop place (map Some answers)) k start
    → now ≡ (if is_of (get_or openings left o).node k then Some
    (get_or answers left d) else mid) →
    now ≡ first_answer (drop left (output_nodes openings)) (drop left (map Some answers)) k start
output_noted openings answers place left o d next within count =
    noted_more (output_nodes openings) (map Some answers) place left (get_or openings left o).node
    (Some (get_or answers left d)) next
    (slice_get-map (λ (p : OutOpening). p.node) openings left
    ∙ ap (option_map (λ (p : OutOpening). p.node))
    (slice_get-get_or openings left o (omega (arith, next, within, count))))
    (slice_get-map Some answers left
    ∙ ap (option_map Some) (slice_get-get_or answers left d (omega (arith, next, within))))

-- a table of no answers
nothing_at : (n k : ℕ) → answer_at (replicate n None) k ≡ None
nothing_at zero k = refl
nothing_at (suc n) zero = refl
nothing_at (suc n) (suc k) = nothing_at n k

-- in the table that was empty, each node has the answer to its own opening
pub all_noted : (plan : Planned) (o : OpenedFiles) (inputs : List (Option ℕ)) (outputs : List ℕ)
    (old own last : List (Option ℕ)) (n k : ℕ)
    → o ≡ record { inputs = inputs; outputs = outputs; own = last } → last ≡ own
    → old ≡ replicate n None →
    answer_at own k ≡ first_answer (input_nodes plan.inputs) inputs k
    (first_answer (output_nodes plan.outputs) (map Some outputs) k (answer_at old k))
    → own_file o k ≡ file_of plan o k
all_noted plan o inputs outputs old own last n k is same empty noted =
    let none : answer_at old k ≡ None = ap (λ l. answer_at l k) empty ∙ nothing_at n k in
    rw is (ap (λ l. answer_at l k) same ∙ noted
    ∙ ap (λ a. first_answer (input_nodes plan.inputs) inputs k
    (first_answer (output_nodes plan.outputs) (map Some outputs) k a)) none)
