-- What the machine of cat shows: it wants its inputs in order, and what comes on a missing one
-- counts for nothing.
use Rattle.std.specs.Prelude.{ℕ, List, drop}
use Rattle.std.proofs.Common.{ap, drop_of_length-le}
use Rattle.machine.specs.InOrder.{in_order, in_order_lawful}
use Rattle.machine.specs.Law.{Shown, IsLawful}
use Rattle.machine.specs.Whole.{inputs_from, joined}
use Rattle.machine.specs.declared.protocol.Presence.{Presence}
use Rattle.splice_tee.specs.declared.cat.Cat.{Cat}

-- what it would still put out: the inputs that are left, joined
abbrev pub cat_rest : Cat → (ℕ → List ℕ) → List ℕ
cat_rest m ys = joined (inputs_from m.inputs.at (drop m.inputs.at m.inputs.presence) ys)

-- what the machine shows
abbrev pub cat_shows : Cat → Shown
cat_shows m = in_order m.inputs.presence m.inputs.at (cat_rest m) (λ ys. 0)

-- it obeys the law
pub cat_lawful : (m : Cat) → IsLawful (cat_shows m)
cat_lawful m =
    in_order_lawful m.inputs.presence m.inputs.at (cat_rest m) (λ ys. 0) (λ over ys.
    ap (λ (ps : List Presence). joined (inputs_from m.inputs.at ps ys))
    (drop_of_length-le m.inputs.presence over))
