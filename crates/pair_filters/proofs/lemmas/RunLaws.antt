-- The maximal runs of lines: there is one list of them.
use Rattle.std.proofs.Common.{◌≡◌, ◌≢◌, Bool, true, false, cond, ℕ, List, [], ◌∷◌, ◌++◌, refl, ap}
use Rattle.std.proofs.Common.{◌∙◌, sym, subst}
use Rattle.std.specs.List.{All, flat_map}
use Rattle.std.specs.Str.{bytes_eq}
use Rattle.std.proofs.lemmas.List.Elements.{All-head, All-tail, All-cons, All-nil}
use Rattle.std.proofs.lemmas.Slice.Eq.{bytes_eq-Decides}
use Rattle.std.proofs.lemmas.Bool.{false≢true}
use Rattle.commands.specs.Runs.{Run, lines_of, IsAlike, AreApart, AreRunsOf, onto_runs, runs}

abbrev run : List ℕ → List (List ℕ) → Run
run first others = record { first = first; others = others }

-- equal keys, and keys that differ
pub same_true : (x y : List ℕ) → x ≡ y → bytes_eq x y ≡ true
same_true x y e = (bytes_eq-Decides x y).1 e

pub same_is : (x y : List ℕ) → bytes_eq x y ≡ true → x ≡ y
same_is x y e = (bytes_eq-Decides x y).0 e

pub apart_by : (x y : List ℕ) → bytes_eq x y ≡ false → x ≢ y
apart_by x y h e = false≢true (sym h ∙ same_true x y e)

same_false_by : (b : Bool) (x y : List ℕ) → bytes_eq x y ≡ b → x ≢ y → b ≡ false
same_false_by true x y e h = absurd (h (same_is x y e))
same_false_by false x y e h = refl

pub same_false : (x y : List ℕ) → x ≢ y → bytes_eq x y ≡ false
same_false x y h = same_false_by (bytes_eq x y) x y refl h

-- whether a line belongs to the first of the runs after it
onto_same : (key : List ℕ → List ℕ) (line : List ℕ) (r : Run) (rs : List Run)
    → key line ≡ key r.first → onto_runs key line (r ∷ rs) ≡ run line (lines_of r) ∷ rs
onto_same key line r rs e =
    ap (λ (b : Bool). cond b (run line (lines_of r) ∷ rs) (run line [] ∷ r ∷ rs))
    (same_true (key line) (key r.first) e)

onto_other : (key : List ℕ → List ℕ) (line : List ℕ) (r : Run) (rs : List Run)
    → key line ≢ key r.first → onto_runs key line (r ∷ rs) ≡ run line [] ∷ r ∷ rs
onto_other key line r rs h =
    ap (λ (b : Bool). cond b (run line (lines_of r) ∷ rs) (run line [] ∷ r ∷ rs))
    (same_false (key line) (key r.first) h)

-- a run of one line before runs that it is apart from
runs_alone : (key : List ℕ → List ℕ) (line : List ℕ) (rs : List Run)
    → AreApart key (run line [] ∷ rs) → onto_runs key line rs ≡ run line [] ∷ rs
runs_alone key line [] a = refl
runs_alone key line (r ∷ rs) a = onto_other key line r rs a.0

apart_as : (key : List ℕ → List ℕ) (r s : Run) (rs : List Run) → key r.first ≡ key s.first
    → AreApart key (r ∷ rs) → AreApart key (s ∷ rs)
apart_as key r s [] e a = tt
apart_as key r s (t ∷ rs) e a = (λ h. a.0 (e ∙ h), a.1)

-- the lines of a run, and runs after it
runs_of_run : (key : List ℕ → List ℕ) (first : List ℕ) (others : List (List ℕ)) (ls : List (List ℕ))
    (rs : List Run) → All (λ (line : List ℕ). key line ≡ key first) others
    → AreApart key (run first others ∷ rs) → runs key ls ≡ rs
    → runs key (first ∷ (others ++ ls)) ≡ run first others ∷ rs
runs_of_run key first [] ls rs alike apart e = ap (onto_runs key first) e
    ∙ runs_alone key first rs (apart_as key (run first []) (run first []) rs refl apart)
runs_of_run key first (m ∷ ms) ls rs alike apart e =
    let same : key m ≡ key first = All-head (λ (line : List ℕ). key line ≡ key first) m ms alike in
    let behind : All (λ (line : List ℕ). key line ≡ key first) ms =
    All-tail (λ (line : List ℕ). key line ≡ key first) m ms alike in
    ap (onto_runs key first)
    (runs_of_run key m ms ls rs (subst (λ (k : List ℕ). All (λ (line : List ℕ). key line ≡ k) ms)
    (sym same) behind)
    (apart_as key (run first (m ∷ ms)) (run m ms) rs (sym same) apart) e)
    ∙ onto_same key first (run m ms) rs (sym same)

apart_tail : (key : List ℕ → List ℕ) (r : Run) (rs : List Run) → AreApart key (r ∷ rs)
    → AreApart key rs
apart_tail key r [] a = tt
apart_tail key r (s ∷ rs) a = a.1

runs_joined : (key : List ℕ → List ℕ) (rs : List Run) → All (IsAlike key) rs → AreApart key rs
    → runs key (flat_map lines_of rs) ≡ rs
runs_joined key [] alike apart = refl
runs_joined key (r ∷ rs) alike apart =
    runs_of_run key r.first r.others (flat_map lines_of rs) rs
    (All-head (IsAlike key) r rs alike) apart
    (runs_joined key rs (All-tail (IsAlike key) r rs alike) (apart_tail key r rs apart))

-- there is one such list
pub runs_are_one : (key : List ℕ → List ℕ) (ls : List (List ℕ)) (rs : List Run)
    → AreRunsOf key ls rs → rs ≡ runs key ls
runs_are_one key ls rs a = sym (runs_joined key rs a.alike a.apart) ∙ ap (runs key) a.joined

one_line : (key : List ℕ → List ℕ) (line : List ℕ) → IsAlike key (run line [])
one_line key line = All-nil (λ (m : List ℕ). key m ≡ key line)

one_line_more : (key : List ℕ → List ℕ) (line : List ℕ) (r : Run) → key line ≡ key r.first
    → IsAlike key r → IsAlike key (run line (lines_of r))
one_line_more key line r e a =
    All-cons (λ (m : List ℕ). key m ≡ key line) r.first r.others (sym e)
    (subst (λ (k : List ℕ). All (λ (m : List ℕ). key m ≡ k) r.others) (sym e) a)

are_by : (key : List ℕ → List ℕ) (b : Bool) (line : List ℕ) (ls : List (List ℕ)) (r : Run)
    (rs : List Run) → bytes_eq (key line) (key r.first) ≡ b → AreRunsOf key ls (r ∷ rs)
    → AreRunsOf key (line ∷ ls) (cond b (run line (lines_of r) ∷ rs) (run line [] ∷ r ∷ rs))
are_by key true line ls r rs e a =
    let same : key line ≡ key r.first = same_is (key line) (key r.first) e in
    record {
      joined = ap (λ (ms : List (List ℕ)). line ∷ ms) a.joined;
      alike = All-cons (IsAlike key) (run line (lines_of r)) rs
          (one_line_more key line r same (All-head (IsAlike key) r rs a.alike))
          (All-tail (IsAlike key) r rs a.alike);
      apart = apart_as key r (run line (lines_of r)) rs (sym same) a.apart;
    }
are_by key false line ls r rs e a =
    record {
      joined = ap (λ (ms : List (List ℕ)). line ∷ ms) a.joined;
      alike = All-cons (IsAlike key) (run line []) (r ∷ rs) (one_line key line) a.alike;
      apart = (apart_by (key line) (key r.first) e, a.apart);
    }

are_onto : (key : List ℕ → List ℕ) (line : List ℕ) (ls : List (List ℕ)) (rs : List Run)
    → AreRunsOf key ls rs → AreRunsOf key (line ∷ ls) (onto_runs key line rs)
are_onto key line ls [] a =
    record {
      joined = ap (λ (ms : List (List ℕ)). line ∷ ms) a.joined;
      alike = All-cons (IsAlike key) (run line []) [] (one_line key line) (All-nil (IsAlike key));
      apart = tt;
    }
are_onto key line ls (r ∷ rs) a = are_by key (bytes_eq (key line) (key r.first)) line ls r rs refl a

-- `runs` gives it
pub runs_are_runs : (key : List ℕ → List ℕ) (ls : List (List ℕ)) → AreRunsOf key ls (runs key ls)
runs_are_runs key [] = record { joined = refl; alike = All-nil (IsAlike key); apart = tt }
runs_are_runs key (line ∷ ls) = are_onto key line ls (runs key ls) (runs_are_runs key ls)
