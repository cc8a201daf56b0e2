-- What is owed, as a look at the branches tells.
use Rattle.std.proofs.Common.{◌≡◌, ◌≢◌, ℕ, ◌≤◌, zero, suc, List, [], ◌∷◌, true, false, ◌&&◌, Option}
use Rattle.std.proofs.Common.{Some, None, refl, sym, ap, subst, arith}
use Rattle.std.specs.Prelude.{is_some, IfSome, IsNone, slice_get, unwrap_or}
use Rattle.std.specs.List.{list_any, AllZip}
use Rattle.machine.specs.declared.piece.Item.{Item}
use Rattle.bounded_pipe.specs.Ends.{Writing}
use Rattle.splice_tee.specs.BranchStates.{is_lacking, served_at, IsLacking}
use Rattle.splice_tee.specs.declared.branches.Served.{Served}
use Rattle.splice_tee.specs.declared.branches.Served.TheVariants.{Lacks}

-- no branch lacks the front item
pub no_lacks : (served : List Served) → ((j : ℕ) → served_at served j ≡ Lacks → ⊥)
    → list_any is_lacking served ≡ false
no_lacks [] h = refl
no_lacks (Lacks ∷ rest) h = absurd (h zero refl)
no_lacks (s ∷ rest) h = no_lacks rest (λ j. h (suc j))

-- some branch lacks it
pub some_lacks : (served : List Served) (k : ℕ) → served_at served k ≡ Lacks
    → list_any is_lacking served ≡ true
some_lacks (Lacks ∷ rest) k h = refl
some_lacks (s ∷ rest) (suc k) h = some_lacks rest k h
some_lacks _ _ h = absurd (cc h)

-- whether the front item is owed, by the first branch that lacks it
pub front_owed : (front : Option Item) (served : List Served) (first : Option ℕ)
    → is_some front ≡ true → IfSome first (λ k. (0 ≤ k) × IsLacking served k)
    → (IsNone first → (j : ℕ) → 0 ≤ j → served_at served j ≢ Lacks)
    → is_some first ≡ (is_some front && list_any is_lacking served)
front_owed None served first there some none = absurd (cc there)
front_owed (Some item) served (Some k) there some none = sym (some_lacks served k some.1.1)
front_owed (Some item) served None there some none =
    sym (no_lacks served (λ j e. none refl j (omega arith) e))

-- what holds of each branch, by its end
pub branch_kept : (P : Writing → Served → Type 0) (ws : List Writing) (ss : List Served) (k : ℕ)
    (w : Writing) → AllZip P ws ss → slice_get ws k ≡ Some w → P w (served_at ss k)
branch_kept P [] ss k w all at = absurd (cc at)
branch_kept P (v ∷ ws) [] k w all at = absurd all
branch_kept P (v ∷ ws) (s ∷ ss) zero w all at =
    subst (λ (x : Writing). P x s) (ap (λ (o : Option Writing). unwrap_or o v) at) all.0
branch_kept P (v ∷ ws) (s ∷ ss) (suc k) w all at = branch_kept P ws ss k w all.1 at
