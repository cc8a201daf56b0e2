-- Calls that touch no name, or one alone.
use Rattle.std.proofs.Common.{◌≡◌, ◌≢◌, ℕ, List, Option, Some, Result, Ok, Err, ◌∙◌, inl, refl, subst, sym, arith}
use Rattle.std.specs.Prelude.{slice_get, IfSome, OnOk, ⊤}
use Rattle.folders.specs.inner.Folder.{FolderShown, CountsMoments, IsElsewhere, IsStored, LeavesAlone, Looks, Loses, Touches}
use Rattle.folders.specs.inner.Outputs.{IsNoNew}
use Rattle.folders.specs.declared.output.Output.{Output}
use Rattle.folders.proofs.Alone.{keeps_none, alone_none, alone_more, alone_seen}
use Rattle.folders.proofs.Lists.{all_at}
use Rattle.folders.proofs.Moments.{goes_on, says_less}
use Rattle.held_outputs.specs.inner.Disk.{TouchesNothing}

-- a call more that touches nothing
pub alone_still : {P : List ℕ → Type 0} {s0 s s' : FolderShown} → CountsMoments s
    → LeavesAlone P s0 s → TouchesNothing s s' → LeavesAlone P s0 s'
alone_still counts alone still = record {
  looks = goes_on alone.looks still.looks (λ found at n p. at n ∙ alone_seen counts alone n p);
  power = λ n p. goes_on (alone.power n p) (still.loses n) (λ c now. alone.may n c p (still.keeps.may n c now));
  may = λ n c p now. alone.may n c p (still.keeps.may n c now);
}

pub nothing_alone : (P : List ℕ → Type 0) (s s' : FolderShown) → CountsMoments s
    → TouchesNothing s s' → LeavesAlone P s s'
nothing_alone P s s' counts still = alone_still counts (alone_none P s counts) still

-- one call, with this name
pub one_alone : (P : List ℕ → Type 0) (name : List ℕ) (s s' : FolderShown) → CountsMoments s
    → Touches name s s' → Looks (IsElsewhere name s.seen) s s' → Loses s s'
    → ((n : List ℕ) → P n → n ≢ name) → LeavesAlone P s s'
one_alone P name s s' counts touches looks loses other =
    alone_more counts (alone_none P s counts) touches looks loses other

-- a name that is no new name is not the new name of one of them
pub no_new_of : (os : List Output) (i : ℕ) (o : Output) → slice_get os i ≡ Some o
    → (n : List ℕ) → IsNoNew os n → n ≢ o.new
no_new_of os i o at n none = all_at (λ p. n ≢ p.new) os i o at none

-- nothing, and then one name
pub alone_touched : (name : List ℕ) (s s1 s2 : FolderShown) → CountsMoments s → CountsMoments s1
    → TouchesNothing s s1 → Touches name s1 s2 → Looks (IsElsewhere name s1.seen) s1 s2 → Loses s1 s2
    → LeavesAlone (λ n. n ≢ name) s s2
alone_touched name s s1 s2 counts counts1 still touches looks loses =
    alone_more counts1 (nothing_alone (λ n. n ≢ name) s s1 counts still) touches looks loses (λ n other. other)

-- one call, with this name alone
pub touched : (name : List ℕ) (s s' : FolderShown) → CountsMoments s
    → Touches name s s' → Looks (IsElsewhere name s.seen) s s' → Loses s s'
    → LeavesAlone (λ n. n ≢ name) s s'
touched name s s' counts touches looks loses =
    one_alone (λ n. n ≢ name) name s s' counts touches looks loses (λ n other. other)

-- what leaves alone all names but that of one new file leaves alone all but those of new files
pub alone_of : (os : List Output) (i : ℕ) (o : Output) {s s' : FolderShown} → slice_get os i ≡ Some o
    → LeavesAlone (λ n. n ≢ o.new) s s' → LeavesAlone (IsNoNew os) s s'
alone_of os i o at alone = record {
  looks = says_less alone.looks (λ found same n none. same n (no_new_of os i o at n none));
  power = λ n none. alone.power n (no_new_of os i o at n none);
  may = λ n c none now. alone.may n c (no_new_of os i o at n none) now;
}

-- what is said of the new file of a number is said of each output of that number
pub stored_of : {E : Type 0} (os : List Output) (i : ℕ) (o : Output) (s : FolderShown) → slice_get os i ≡ Some o
    → (result : Result ⊤ E) → OnOk result (IsStored o.new s)
    → OnOk result ((p : Output) → slice_get os i ≡ Some p → IsStored p.new s)
stored_of os i o s at (Ok _) stored = λ p also. subst (λ (q : Option Output). IfSome q (λ r. IsStored r.new s)) (sym at ∙ also) stored
stored_of os i o s at (Err _) stored = tt

-- to do nothing touches nothing
pub nothing_done : (s : FolderShown) → TouchesNothing s s
nothing_done s = record {
  keeps = keeps_none s;
  looks = record { later = omega arith; nothing_else = λ t a le now. inl now; keeps = λ t a le was. was };
  loses = λ n. record { later = omega arith; nothing_else = λ t a le now. inl now; keeps = λ t a le was. was };
  failures = refl;
}
