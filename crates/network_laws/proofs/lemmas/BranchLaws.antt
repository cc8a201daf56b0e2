-- What the lists of a stage's ends say of one pipe, and what its inputs hold.
use Rattle.std.proofs.Common.{◌≡◌, ℕ, zero, suc, ◌+◌, ◌<◌, Bool, true, false, List, [], ◌∷◌, length}
use Rattle.std.proofs.Common.{map, get_or, Option, Some, None, refl, sym, ap, ap₂, ◌∙◌, subst, inl}
use Rattle.std.proofs.Common.{inr, ⊎_elim, arith}
use Rattle.std.specs.Prelude.{if◌then◌else◌}
use Rattle.std.specs.List.{AllByRecursion, AllZip}
use Rattle.machine.specs.Whole.{inputs_from}
use Rattle.machine.specs.Makes.{after}
use Rattle.machine.specs.declared.protocol.Presence.{Presence}
use Rattle.bounded_pipe.specs.Ends.{Writing, Reading}
use Rattle.graphs.specs.Graph.{IsAmong}
use Rattle.splice_tee.specs.declared.branches.Served.{Served}
use Rattle.stages.specs.Stages.{bytes_on, ended_on}
use Rattle.network_laws.specs.State.{presence_of}
use Rattle.network_laws.proofs.lemmas.TakeLaws.{ToCome}

-- what is so of each branch is so of the branch p
pub at_branch : (P : Writing → Served → Type 0) (writing : ℕ
    → Writing) (p : ℕ) (branches : List ℕ) (served : List Served) → IsAmong p branches
    → AllZip P (map writing branches) served → (s : Served) × P (writing p) s
at_branch P writing p [] served i each = absurd i
at_branch P writing p (q ∷ branches) [] i each = absurd each
at_branch P writing p (q ∷ branches) (s ∷ served) i each = ⊎_elim
    (λ e. (s, subst (λ r. P (writing r) s) (sym e) each.0))
    (λ j. at_branch P writing p branches served j each.1)
    i

-- what is so of each end is so of that of the pipe p
pub at_end : {E : Type 0} (P : E → Type 0) (end : ℕ → E) (p : ℕ) (pipes : List ℕ) → IsAmong p pipes
    → AllByRecursion P (map end pipes) → P (end p)
at_end P end p [] i each = absurd i
at_end P end p (q ∷ pipes) i each = ⊎_elim
    (λ e. subst (λ r. P (end r)) (sym e) each.0)
    (λ j. at_end P end p pipes j each.1)
    i

-- one input more
input_more : (missing : Bool) (list : List ℕ) (rest : List (Option (List ℕ))) (i : ℕ)
    (presence : List Presence) (zs : ℕ → List ℕ) → zs i ≡ list
    → inputs_from (i + 1) presence zs ≡ rest →
    inputs_from i (presence_of missing ∷ presence) zs ≡ (if missing then None else Some list) ∷ rest
input_more true list rest i presence zs e f = ap (λ (l : List (Option (List ℕ))). None ∷ l) f
input_more false list rest i presence zs e f =
    ap₂ (λ (x : List ℕ) (l : List (Option (List ℕ))). Some x ∷ l) e f

-- inputs by their numbers, and inputs by the pipes that they are
pub inputs_by_pipe : (missing : ℕ → Bool) (list : ℕ → List ℕ) (i : ℕ) (inputs : List ℕ) (zs : ℕ
    → List ℕ) → ((k d : ℕ) → k < length inputs → zs (i + k) ≡ list (get_or inputs k d)) →
    inputs_from i (map (λ p. presence_of (missing p)) inputs) zs
    ≡ map (λ p. if missing p then None else Some (list p)) inputs
inputs_by_pipe missing list i [] zs h = refl
inputs_by_pipe missing list i (q ∷ inputs) zs h =
    let e : i ≡ i + 0 = omega arith in
    let lt : 0 < length (q ∷ inputs) = omega arith in
    input_more (missing q) (list q) (map (λ p. if missing p then None else Some (list p)) inputs) i
    (map (λ p. presence_of (missing p)) inputs) zs (ap zs e ∙ h 0 0 lt)
    (inputs_by_pipe missing list (i + 1) inputs zs
    (λ k d lt. let e : (i + 1) + k ≡ i + suc k = omega arith in
    let lt' : suc k < length (q ∷ inputs) = omega arith in
    ap zs e ∙ h (suc k) d lt'))

-- what may still come on the inputs, so that they hold these lists: nothing if Close was taken
pub record MayCome (reading : ℕ → Reading) (list : ℕ → List ℕ) (inputs : List ℕ) : Type 0 where
  pub rest : ℕ → List ℕ
  pub none : (j : ℕ) → ended_on (map reading inputs) j ≡ true → rest j ≡ []
  pub whole : (j d : ℕ) → j < length inputs
      → after (bytes_on (map reading inputs)) rest j ≡ list (get_or inputs j d)

-- one input more
come_more : (reading : ℕ → Reading) (list : ℕ → List ℕ) (q : ℕ) (inputs : List ℕ)
    → ToCome (reading q) (list q) → MayCome reading list inputs → MayCome reading list (q ∷ inputs)
come_more reading list q inputs here more = record { rest = rest; none = none; whole = whole }
  where
    rest : ℕ → List ℕ
    rest zero = here.rest
    rest (suc j) = more.rest j

    none : (j : ℕ) → ended_on (map reading (q ∷ inputs)) j ≡ true → rest j ≡ []
    none zero e = here.none e
    none (suc j) e = more.none j e

    whole : (j d : ℕ) → j < length (q ∷ inputs)
        → after (bytes_on (map reading (q ∷ inputs))) rest j ≡ list (get_or (q ∷ inputs) j d)
    whole zero d lt = here.joined
    whole (suc j) d lt = more.whole j d (let l : j < length inputs = omega arith in l)

pub may_come : (reading : ℕ → Reading) (list : ℕ → List ℕ) (inputs : List ℕ)
    → ((q : ℕ) → IsAmong q inputs → ToCome (reading q) (list q)) → MayCome reading list inputs
may_come reading list [] h = record {
  rest = λ j. [];
  none = λ j e. refl;
  whole =
      λ j d lt. absurd (omega arith);
}
may_come reading list (q ∷ inputs) h = come_more reading list q inputs (h q (inl refl))
    (may_come reading list inputs (λ p i. h p (inr i)))
