-- What the machine of fold shows: it wants its inputs in order. Of the one that it wants it holds
-- the bytes whose cut is not yet known.
use Rattle.std.specs.Prelude.{ℕ, List, [], ◌∷◌, ◌++◌, Option, Some, None, drop}
use Rattle.std.specs.List.{flat_map}
use Rattle.std.proofs.Common.{ap, drop_of_length-le}
use Rattle.machine.specs.Law.{Shown, IsLawful}
use Rattle.machine.specs.Whole.{inputs_from, present}
use Rattle.machine.specs.declared.protocol.Presence.{Presence}
use Rattle.commands.specs.declared.fold_words.FoldForm.{FoldForm}
use Rattle.byte_filters.specs.declared.fold.Fold.{Fold}
use Rattle.commands.specs.Fold.{folded}
use Rattle.machine.specs.InOrder.{in_order, in_order_lawful}

-- what is put out of the inputs that are left, if these bytes of the first one are held
abbrev pub folded_behind : FoldForm → List ℕ → List (Option (List ℕ)) → List ℕ
folded_behind spec held [] = []
folded_behind spec held (None ∷ ins) = flat_map (folded spec) (present ins)
folded_behind spec held (Some xs ∷ ins) = folded spec (held ++ xs)
    ++ flat_map (folded spec) (present ins)

-- what it would still put out of what is still to come
abbrev pub fold_rest : Fold → (ℕ → List ℕ) → List ℕ
fold_rest m ys =
    folded_behind m.spec m.held.items
    (inputs_from m.inputs.at (drop m.inputs.at m.inputs.presence) ys)

-- what the machine shows
abbrev pub fold_shows : Fold → Shown
fold_shows m = in_order m.inputs.presence m.inputs.at (fold_rest m) (λ ys. 0)

-- it obeys the law
pub fold_lawful : (m : Fold) → IsLawful (fold_shows m)
fold_lawful m =
    in_order_lawful m.inputs.presence m.inputs.at (fold_rest m) (λ ys. 0) (λ over ys.
    ap (λ (ps : List Presence). folded_behind m.spec m.held.items (inputs_from m.inputs.at ps ys))
    (drop_of_length-le m.inputs.presence over))
