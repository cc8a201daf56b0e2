-- The machine of cat goes on as the law says.
use Rattle.std.proofs.Common.{◌≡◌, ℕ, ◌+◌, List, [], ◌∷◌, ◌++◌, Option, sym, refl, arith, get_or}
use Rattle.std.proofs.Common.{append_assoc}
use Rattle.std.proofs.lemmas.List.{append-nil}
use Rattle.machine.specs.InOrder.{wanted_of}
use Rattle.machine.specs.Law.{Feeds, Closes}
use Rattle.machine.specs.Pieces.{Queued, contents}
use Rattle.machine.specs.Whole.{joined}
use Rattle.machine.specs.declared.protocol.Presence.{Presence}
use Rattle.machine.specs.declared.protocol.Presence.TheVariants.{Present, Missing}
use Rattle.machine.specs.declared.protocol.Want.TheVariants.{Take}
use Rattle.machine.proofs.InOrderLaws.{in_order_feeds, in_order_closes, input_of}
use Rattle.splice_tee.specs.declared.cat.Cat.{Cat}
use Rattle.splice_tee.specs.CatShows.{cat_shows}

-- what a piece of an input adds
abbrev pub piece_of : Presence → List ℕ → List ℕ
piece_of Present piece = piece
piece_of Missing piece = []

-- the inputs from one on, if a piece comes first on that one
joined_behind : (x : Presence) (piece y : List ℕ) (ins : List (Option (List ℕ)))
    → joined (input_of x (piece ++ y) ∷ ins) ≡ piece_of x piece ++ joined (input_of x y ∷ ins)
joined_behind Present piece y ins = append_assoc piece y (joined ins)
joined_behind Missing piece y ins = refl

-- a piece of the input that is wanted
pub cat_feeds : (m : Cat) (i : ℕ) (x : Presence) (piece : List ℕ) (out out' : Queued)
    → wanted_of m.inputs.presence m.inputs.at ≡ Take i
    → get_or m.inputs.presence m.inputs.at Present ≡ x
    → contents out' ≡ contents out ++ piece_of x piece
    → Feeds i piece (cat_shows m) (cat_shows m) out out'
cat_feeds m i x piece out out' wants here added =
    in_order_feeds m.inputs.presence m.inputs.at i x piece (piece_of x piece) out out' joined joined
    (λ ins. 0) (λ ins. 0) wants here added (joined_behind x piece) (λ y ins. omega arith)

-- the inputs from one on, if that one is over
joined_over : (x : Presence) (ins : List (Option (List ℕ)))
    → joined (input_of x [] ∷ ins) ≡ joined ins
joined_over Present ins = refl
joined_over Missing ins = refl

-- the end of the input that is wanted
pub cat_closes : (m : Cat) (i : ℕ) (out : Queued) → wanted_of m.inputs.presence m.inputs.at ≡ Take i
    → Closes i (cat_shows m)
    (cat_shows (record m { inputs = record m.inputs { at = m.inputs.at + 1 } })) out out
cat_closes m i out wants =
    let x = get_or m.inputs.presence m.inputs.at Present in
    in_order_closes m.inputs.presence m.inputs.at i x [] out out joined joined (λ ins. 0)
    (λ ins. 0) wants refl (sym (append-nil (contents out))) (λ ins last. joined_over x ins)
    (λ ins last. omega arith)
