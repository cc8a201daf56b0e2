-- What an answer, or the want of one, says of an output that was waited for.
use Rattle.std.proofs.Common.{◌≡◌, ℕ, ◌≤◌, ◌↔◌, inl, List, [], ◌++◌, length, take, drop}
use Rattle.std.proofs.Common.{false, None, Result, Ok, Err, IsOk, refl, ap}
use Rattle.std.proofs.Common.{◌∙◌, subst, take-append-drop, take_all, arith}
use Rattle.std.specs.Io.KnownBytes.{Appends}
use mathlib.Core.List.{IsPrefix}
use Rattle.waiting_outputs.specs.inner.Outputs.{OutputShown, SettlesOutput, Writes, WritesSome}
use Rattle.waiting_outputs.specs.inner.Writes.{TakesAnswer}
use Rattle.waiting_outputs.specs.declared.output.Answer.{Answer}

module _ (old new : OutputShown) (home : (new.out ≡ []) × (new.is_out ≡ false)) where
  module _ (some : 1 ≤ length old.out) where
    -- something is out
    not_idle : {A : Type 0} → old.out ≡ [] → A
    not_idle e = let h = subst (λ (l : List ℕ). 1 ≤ length l) e some in absurd (omega arith)

    whole : (a : Answer) → TakesAnswer a old new → a.error ≡ None
        → take a.count old.out ≡ old.out
    whole a t e = ap (λ (n : ℕ). take n old.out) (t.whole e)
        ∙ take_all (length old.out) old.out (omega arith)

    writes_all : (a : Answer) → TakesAnswer a old new → a.error ≡ None → Writes old.out old new
    writes_all a t e = record {
      taken = t.taken ∙ ap (λ (l : List ℕ). old.taken ++ l) (whole a t e);
      held = subst (λ (l : List ℕ). Appends old.holds new.holds l) (whole a t e) t.written;
    }

    front_of : (a : Answer) → IsPrefix (take a.count old.out) old.out
    front_of a = (drop a.count old.out, take-append-drop a.count old.out)

    writes_some : (a : Answer) → TakesAnswer a old new → WritesSome old new
    writes_some a t = inl (
      take a.count old.out,
      front_of a,
      record { taken = t.taken; held = t.written },
    )

    pub told_settles : {B E : Type 0} (r : Result B E) (a : Answer) → TakesAnswer a old new
        → IsOk r ↔ (a.error ≡ None) → SettlesOutput r old new
    told_settles (Ok b) a t same = record {
      all = writes_all a t (same.0 refl);
      some = tt;
      home = home;
      idle = not_idle;
    }
    told_settles (Err e) a t same = record {
      all = tt;
      some = writes_some a t;
      home = home;
      idle = not_idle;
    }
