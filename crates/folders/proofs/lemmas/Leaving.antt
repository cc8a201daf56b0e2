-- What has been done when a loop that removes new files has come so far.
use Rattle.std.proofs.Common.{◌≡◌, ◌≢◌, inl, inr, ⊎_elim, ◌⊎◌, ℕ, zero, suc, ◌+◌, List, [], ◌∷◌, take, Option, Some, None, refl, sym, ◌∙◌, ap, subst, arith}
use Rattle.std.specs.Prelude.{slice_get, IsNone}
use Rattle.std.proofs.Math.Numerals.{suc-eq-add-one}
use Rattle.folders.specs.inner.Calls.{Failures, after_fault}
use Rattle.folders.specs.inner.Causes.{AreRemovals, HasLeft, removal_of}
use Rattle.folders.specs.inner.Folder.{FolderShown, CountsMoments, Touches, IsElsewhere, Looks, Loses, LeavesAlone}
use Rattle.folders.specs.inner.Outputs.{IsNoNew, AllGone}
use Rattle.folders.specs.declared.fault.CallFault.{CallFault}
use Rattle.folders.specs.declared.fault.OutputFault.{OutputFault}
use Rattle.folders.specs.declared.output.Output.{Output}
use Rattle.folders.proofs.Alone.{alone_none, alone_more}
use Rattle.folders.proofs.Lists.{all_at, all_more, all_map}
use Rattle.folders.proofs.lemmas.Names.{name_cases}

-- the removals of this many new files have been tried
pub record LeftSoFar (os : List Output) (i : ℕ) (left : Option OutputFault) (s0 s : FolderShown) : Type 0 where
  pub gone : IsNone left → AllGone (take i os) s.seen
  pub others : LeavesAlone (IsNoNew os) s0 s
  pub removals : AreRemovals (take i os) s0.failures s.failures
  pub cause : HasLeft os left s0.failures s.failures

pub left_none : (os : List Output) (s : FolderShown) → CountsMoments s → LeftSoFar os 0 None s s
left_none os s counts = record {
  gone = λ none k d within. absurd (omega (arith, within));
  others = alone_none (IsNoNew os) s counts;
  removals = refl;
  cause = refl;
}

-- a call that has failed, or not
abbrev Step : Output → Failures → Failures → Type 0
Step o old new = (new ≡ old) ⊎ ((why : CallFault) × (new ≡ after_fault (removal_of o) why old))

removals_suc : (os : List Output) (i : ℕ) (o : Output) (a b c : Failures) → slice_get os i ≡ Some o
    → AreRemovals (take i os) a b → Step o b c → AreRemovals (take (suc i) os) a c
removals_suc [] i o a b c at so_far step = absurd (cc at)
removals_suc (p ∷ os) zero o a b c at so_far step =
    let is : p ≡ o = cc at in
    (c, subst (λ (q : Output). Step q a c) (sym is) (subst (λ (f : Failures). Step o f c) so_far step), refl)
removals_suc (p ∷ os) (suc i) o a b c at so_far step =
    (so_far.0, so_far.1, removals_suc os i o so_far.0 b c at so_far.2 step)

removals_more : (os : List Output) (i : ℕ) (o : Output) (a b c : Failures) → slice_get os i ≡ Some o
    → AreRemovals (take i os) a b → Step o b c → AreRemovals (take (i + 1) os) a c
removals_more os i o a b c at so_far step =
    subst (λ (k : ℕ). AreRemovals (take k os) a c) (suc-eq-add-one i) (removals_suc os i o a b c at so_far step)

module _ (os : List Output) (i : ℕ) (o : Output) (left : Option OutputFault) (s0 s s' : FolderShown) (at : slice_get os i ≡ Some o) (counts : CountsMoments s)
    (so_far : LeftSoFar os i left s0 s) (touches : Touches o.new s s') (looks : Looks (IsElsewhere o.new s.seen) s s') (loses : Loses s s') where
  others_more : LeavesAlone (IsNoNew os) s0 s'
  others_more = alone_more counts so_far.others touches looks loses (λ n none. all_at (λ p. n ≢ p.new) os i o at none)

  pub left_gone : s'.seen o.new ≡ None → s'.failures ≡ s.failures → LeftSoFar os (i + 1) left s0 s'
  left_gone gone same = record {
    gone = λ none. all_more (λ p. s'.seen p.new ≡ None) os i o at
        (all_map (take i os) (λ p was. ⊎_elim
        (λ is. ap s'.seen is ∙ gone)
        (λ other. touches.seen p.new other ∙ was)
        (name_cases p.new o.new)) (so_far.gone none))
        gone;
    others = others_more;
    removals = removals_more os i o s0.failures s.failures s'.failures at so_far.removals (inl same);
    cause = subst (λ (f : Failures). HasLeft os left s0.failures f) (sym same) so_far.cause;
  }

  pub left_one : (why : CallFault) → s'.failures ≡ after_fault (removal_of o) why s.failures
      → LeftSoFar os (i + 1) (Some (record { output = i; why = why })) s0 s'
  left_one why failed = record {
    gone = λ none. absurd (cc none);
    others = others_more;
    removals = removals_more os i o s0.failures s.failures s'.failures at so_far.removals (inr (why, failed));
    cause = (s.failures, so_far.removals, (o, at, failed));
  }
