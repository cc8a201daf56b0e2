-- A machine that makes something of each of its inputs goes on as the law says.
use Rattle.std.proofs.Common.{◌≡◌, ℕ, ◌+◌, List, [], ◌∷◌, ◌++◌, Option, Some, None, ap, ◌∙◌, sym}
use Rattle.std.proofs.Common.{subst, refl, arith, get_or, append_assoc}
use Rattle.std.specs.List.{flat_map}
use Rattle.std.proofs.lemmas.List.{append-nil}
use Rattle.machine.specs.InOrder.{wanted_of}
use Rattle.machine.specs.Law.{Feeds, Closes}
use Rattle.machine.specs.Pieces.{Queued, contents}
use Rattle.machine.specs.Whole.{present}
use Rattle.machine.specs.declared.protocol.Presence.{Presence}
use Rattle.machine.specs.declared.protocol.Presence.TheVariants.{Present, Missing}
use Rattle.machine.specs.declared.protocol.Want.TheVariants.{Take}
use Rattle.machine.proofs.InOrderLaws.{in_order_feeds, in_order_closes, input_of}
use Rattle.line_filters.specs.ByLine.{Makes, inputs_left, by_input}

-- of a piece this was made, and then come other inputs
makes_before : (of_input left left' : List ℕ → List ℕ) (piece made y : List ℕ)
    (ins : List (Option (List ℕ))) → Makes left left' piece [] made
    → inputs_left of_input left (Some (piece ++ y) ∷ ins)
    ≡ made ++ inputs_left of_input left' (Some y ∷ ins)
makes_before of_input left left' piece made y ins makes =
    let after = flat_map of_input (present ins) in
    ap (λ (z : List ℕ). z ++ after) (makes.splits y) ∙ append_assoc made (left' y) after

-- a piece of a present input, and what was made of it
pub input_feeds : (of_input left left' : List ℕ → List ℕ) (at : ℕ) (inputs : List Presence) (i : ℕ)
    (piece made : List ℕ) (out out' : Queued) → wanted_of inputs at ≡ Take i
    → get_or inputs at Present ≡ Present → contents out' ≡ contents out ++ made
    → Makes left left' piece [] made
    → Feeds i piece (by_input of_input left at inputs) (by_input of_input left' at inputs) out out'
input_feeds of_input left left' at inputs i piece made out out' wants here added makes =
    in_order_feeds inputs at i Present piece made out out' (inputs_left of_input left)
    (inputs_left of_input left') (λ ins. 0) (λ ins. 0) wants here added
    (λ y ins. makes_before of_input left left' piece made y ins makes) (λ y ins. omega arith)

-- a piece of a missing input
pub input_skips : (of_input left : List ℕ → List ℕ) (at : ℕ) (inputs : List Presence) (i : ℕ)
    (piece : List ℕ) (out : Queued) → wanted_of inputs at ≡ Take i
    → get_or inputs at Present ≡ Missing
    → Feeds i piece (by_input of_input left at inputs) (by_input of_input left at inputs) out out
input_skips of_input left at inputs i piece out wants gone =
    in_order_feeds inputs at i Missing piece [] out out (inputs_left of_input left)
    (inputs_left of_input left) (λ ins. 0) (λ ins. 0) wants gone
    (sym (append-nil (contents out))) (λ y ins. refl) (λ y ins. omega arith)

-- what is made of inputs before any of them is begun
pub inputs_left-new : (of_input left : List ℕ → List ℕ) (ins : List (Option (List ℕ)))
    → ((xs : List ℕ) → left xs ≡ of_input xs) → of_input [] ≡ []
    → inputs_left of_input left ins ≡ flat_map of_input (present ins)
inputs_left-new of_input left [] same none = refl
inputs_left-new of_input left (None ∷ ins) same none =
    ap (λ (z : List ℕ). z ++ flat_map of_input (present ins)) (same [] ∙ none)
inputs_left-new of_input left (Some x ∷ ins) same none =
    ap (λ (z : List ℕ). z ++ flat_map of_input (present ins)) (same x)

-- what is made if the input that is wanted is over
over_left : (of_input left : List ℕ → List ℕ) (x : Presence) (ins : List (Option (List ℕ)))
    → inputs_left of_input left (input_of x [] ∷ ins) ≡ left [] ++ flat_map of_input (present ins)
over_left of_input left Present ins = refl
over_left of_input left Missing ins = refl

-- the end of the input that is wanted
pub input_closes : (of_input left left' : List ℕ → List ℕ) (at : ℕ) (inputs : List Presence) (i : ℕ)
    (made : List ℕ) (out out' : Queued) → wanted_of inputs at ≡ Take i → made ≡ left []
    → ((xs : List ℕ) → left' xs ≡ of_input xs) → of_input [] ≡ []
    → contents out' ≡ contents out ++ made
    → Closes i (by_input of_input left at inputs) (by_input of_input left' (at + 1) inputs) out out'
input_closes of_input left left' at inputs i made out out' wants made_is same none added =
    let x = get_or inputs at Present in
    in_order_closes inputs at i x made out out' (inputs_left of_input left)
    (inputs_left of_input left') (λ ins. 0) (λ ins. 0) wants refl added
    (λ ins last. over_left of_input left x ins
    ∙ (ap (λ (z : List ℕ). z ++ flat_map of_input (present ins)) (sym made_is)
    ∙ ap (λ (z : List ℕ). made ++ z) (sym (inputs_left-new of_input left' ins same none))))
    (λ ins last. omega arith)

-- the same from no bytes on
pub makes_of : (left left' : List ℕ → List ℕ) (bytes piece made made' : List ℕ) → bytes ≡ piece
    → made ≡ [] → Makes left left' bytes made made' → Makes left left' piece [] made'
makes_of left left' bytes piece made made' e none m =
    subst (λ (x : List ℕ). Makes left left' x [] made') e
    (subst (λ (x : List ℕ). Makes left left' bytes x made') none m)
