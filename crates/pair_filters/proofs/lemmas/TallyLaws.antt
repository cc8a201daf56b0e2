-- Runs by their first lines and their lengths, and those of lines after others of one run.
use Rattle.std.proofs.Common.{◌≡◌, ℕ, zero, suc, ◌+◌, ◌≤◌, Bool, true, false, cond, List, [], ◌∷◌}
use Rattle.std.proofs.Common.{◌++◌, length, map, refl, ap, ◌∙◌, sym, arith}
use Rattle.std.specs.Prelude.{replicate}
use Rattle.std.specs.List.{flat_map}
use Rattle.std.specs.Str.{bytes_eq}
use Rattle.commands.specs.declared.uniq_words.RunsShown.{RunsShown}
use Rattle.commands.specs.declared.uniq_words.RunsShown.TheVariants.{Every, Counted, Repeated}
use Rattle.commands.specs.declared.uniq_words.RunsShown.TheVariants.{Single}
use Rattle.commands.specs.Runs.{Run, lines_of, run_length, onto_runs, runs}
use Rattle.commands.specs.Uniq.{run_text, uniq_text, uniq_counts, greatest}
use Rattle.pair_filters.proofs.lemmas.RunLaws.{same_true}

-- a run by its first line and its length
pub record Tally : Type 0 where
  pub first : List ℕ
  pub count : ℕ

abbrev pub tally : List ℕ → ℕ → Tally
tally first count = record { first = first; count = count }

abbrev pub tallies : (List ℕ → List ℕ) → List (List ℕ) → List Tally
tallies key ls = map (λ (r : Run). tally r.first (run_length r)) (runs key ls)

-- a run before these: with the key of the first one it is its beginning
abbrev pub onto_tally : (List ℕ → List ℕ) → Tally → List Tally → List Tally
onto_tally key t [] = t ∷ []
onto_tally key t (u ∷ us) = cond (bytes_eq (key t.first) (key u.first))
    (tally t.first (t.count + u.count) ∷ us) (t ∷ u ∷ us)

-- what is written of them, and the numbers in it
abbrev pub texts : RunsShown → List Tally → List ℕ
texts shown ts = flat_map (λ (t : Tally). run_text shown t.first t.count) ts

abbrev pub numbers : RunsShown → List Tally → List ℕ
numbers Every ts = []
numbers Counted ts = map (λ (t : Tally). t.count) ts
numbers Repeated ts = []
numbers Single ts = []

texts_by : (shown : RunsShown) (rs : List Run)
    → flat_map (λ (r : Run). run_text shown r.first (run_length r)) rs
    ≡ texts shown (map (λ (r : Run). tally r.first (run_length r)) rs)
texts_by shown [] = refl
texts_by shown (r ∷ rs) = ap (λ (x : List ℕ). run_text shown r.first (run_length r) ++ x)
    (texts_by shown rs)

pub text_is : (key : List ℕ → List ℕ) (shown : RunsShown) (ls : List (List ℕ))
    → uniq_text key shown ls ≡ texts shown (tallies key ls)
text_is key shown ls = texts_by shown (runs key ls)

lengths_by : (rs : List Run) → map run_length rs ≡ map (λ (t : Tally). t.count)
    (map (λ (r : Run). tally r.first (run_length r)) rs)
lengths_by [] = refl
lengths_by (r ∷ rs) = ap (λ (ns : List ℕ). run_length r ∷ ns) (lengths_by rs)

pub counts_are : (key : List ℕ → List ℕ) (shown : RunsShown) (ls : List (List ℕ))
    → uniq_counts key shown ls ≡ numbers shown (tallies key ls)
counts_are key Every ls = refl
counts_are key Counted ls = lengths_by (runs key ls)
counts_are key Repeated ls = refl
counts_are key Single ls = refl

map_onto_by : (b : Bool) (l : List ℕ) (r : Run) (rs : List Run)
    → map (λ (s : Run). tally s.first (run_length s))
    (cond b ((record { first = l; others = lines_of r }) ∷ rs)
    ((record { first = l; others = [] }) ∷ r ∷ rs))
    ≡ cond b (tally l (1 + run_length r) ∷ map (λ (s : Run). tally s.first (run_length s)) rs)
    (tally l 1 ∷ tally r.first (run_length r) ∷ map (λ (s : Run). tally s.first (run_length s)) rs)
map_onto_by true l r rs =
    let e : suc (suc (length r.others)) ≡ 1 + suc (length r.others) = omega arith in
    ap (λ (k : ℕ). tally l k ∷ map (λ (s : Run). tally s.first (run_length s)) rs) e
map_onto_by false l r rs = refl

map_onto : (key : List ℕ → List ℕ) (l : List ℕ) (rs : List Run)
    → map (λ (r : Run). tally r.first (run_length r)) (onto_runs key l rs)
    ≡ onto_tally key (tally l 1) (map (λ (r : Run). tally r.first (run_length r)) rs)
map_onto key l [] = refl
map_onto key l (r ∷ rs) = map_onto_by (bytes_eq (key l) (key r.first)) l r rs

pub tallies-cons : (key : List ℕ → List ℕ) (l : List ℕ) (ls : List (List ℕ))
    → tallies key (l ∷ ls) ≡ onto_tally key (tally l 1) (tallies key ls)
tallies-cons key l ls = map_onto key l (runs key ls)

onto_same_by : (key : List ℕ → List ℕ) (b : Bool) (f l : List ℕ) (m n : ℕ) (u : Tally)
    (us : List Tally) → bytes_eq (key f) (key l) ≡ true
    → onto_tally key (tally f m) (cond b (tally l (n + u.count) ∷ us) (tally l n ∷ u ∷ us))
    ≡ cond b (tally f ((m + n) + u.count) ∷ us) (tally f (m + n) ∷ u ∷ us)
onto_same_by key true f l m n u us h =
    let e : m + (n + u.count) ≡ (m + n) + u.count = omega arith in
    ap (λ (c : Bool). cond c (tally f (m + (n + u.count)) ∷ us)
    (tally f m ∷ tally l (n + u.count) ∷ us)) h ∙ ap (λ (k : ℕ). tally f k ∷ us) e
onto_same_by key false f l m n u us h =
    ap (λ (c : Bool). cond c (tally f (m + n) ∷ u ∷ us) (tally f m ∷ tally l n ∷ u ∷ us)) h

-- before lines with its key a run goes on
pub onto_same : (key : List ℕ → List ℕ) (f l : List ℕ) (m n : ℕ) (us : List Tally) → key f ≡ key l
    → onto_tally key (tally f m) (onto_tally key (tally l n) us)
    ≡ onto_tally key (tally f (m + n)) us
onto_same key f l m n [] e =
    ap (λ (c : Bool). cond c (tally f (m + n) ∷ []) (tally f m ∷ tally l n ∷ []))
    (same_true (key f) (key l) e)
onto_same key f l m n (u ∷ us) e =
    onto_same_by key (bytes_eq (key l) (key u.first)) f l m n u us (same_true (key f) (key l) e)
    ∙ ap (λ (k : List ℕ). cond (bytes_eq k (key u.first)) (tally f ((m + n) + u.count) ∷ us)
    (tally f (m + n) ∷ u ∷ us)) (sym e)

onto_other_by : (key : List ℕ → List ℕ) (b : Bool) (f l : List ℕ) (m n : ℕ) (u : Tally)
    (us : List Tally) → bytes_eq (key f) (key l) ≡ false
    → onto_tally key (tally f m) (cond b (tally l (n + u.count) ∷ us) (tally l n ∷ u ∷ us))
    ≡ tally f m ∷ cond b (tally l (n + u.count) ∷ us) (tally l n ∷ u ∷ us)
onto_other_by key true f l m n u us h =
    ap (λ (c : Bool). cond c (tally f (m + (n + u.count)) ∷ us)
    (tally f m ∷ tally l (n + u.count) ∷ us)) h
onto_other_by key false f l m n u us h =
    ap (λ (c : Bool). cond c (tally f (m + n) ∷ u ∷ us) (tally f m ∷ tally l n ∷ u ∷ us)) h

-- before lines with another key it is over
pub onto_other : (key : List ℕ → List ℕ) (f l : List ℕ) (m n : ℕ) (us : List Tally)
    → bytes_eq (key f) (key l) ≡ false → onto_tally key (tally f m) (onto_tally key (tally l n) us)
    ≡ tally f m ∷ onto_tally key (tally l n) us
onto_other key f l m n [] h =
    ap (λ (c : Bool). cond c (tally f (m + n) ∷ []) (tally f m ∷ tally l n ∷ [])) h
onto_other key f l m n (u ∷ us) h =
    onto_other_by key (bytes_eq (key l) (key u.first)) f l m n u us h

tallies_begun_by : (key : List ℕ → List ℕ) (f : List ℕ) (n : ℕ) (ls : List (List ℕ))
    → tallies key (replicate (suc n) f ++ ls) ≡ onto_tally key (tally f (suc n)) (tallies key ls)
tallies_begun_by key f zero ls = tallies-cons key f ls
tallies_begun_by key f (suc n) ls =
    let e : 1 + suc n ≡ suc (suc n) = omega arith in
    tallies-cons key f (replicate (suc n) f ++ ls)
    ∙ (ap (onto_tally key (tally f 1)) (tallies_begun_by key f n ls)
    ∙ (onto_same key f f 1 (suc n) (tallies key ls) refl
    ∙ ap (λ (k : ℕ). onto_tally key (tally f k) (tallies key ls)) e))

-- as many lines as there are of a run, before others
pub tallies_begun : (key : List ℕ → List ℕ) (f : List ℕ) (n : ℕ) (ls : List (List ℕ)) → 1 ≤ n
    → tallies key (replicate n f ++ ls) ≡ onto_tally key (tally f n) (tallies key ls)
tallies_begun key f zero ls h = absurd (omega (arith, h))
tallies_begun key f (suc n) ls h = tallies_begun_by key f n ls

-- the greatest number
pub behind_less : (shown : RunsShown) (t : Tally) (ts : List Tally)
    → greatest (numbers shown ts) ≤ greatest (numbers shown (t ∷ ts))
behind_less Every t ts = omega arith
behind_less Counted t ts = omega arith
behind_less Repeated t ts = omega arith
behind_less Single t ts = omega arith

at_least_by : (b : Bool) (f : List ℕ) (n : ℕ) (u : Tally) (us : List Tally)
    → n ≤ greatest (numbers Counted (cond b (tally f (n + u.count) ∷ us) (tally f n ∷ u ∷ us)))
at_least_by true f n u us = omega arith
at_least_by false f n u us = omega arith

pub at_least : (key : List ℕ → List ℕ) (f : List ℕ) (n : ℕ) (us : List Tally)
    → n ≤ greatest (numbers Counted (onto_tally key (tally f n) us))
at_least key f n [] = omega arith
at_least key f n (u ∷ us) = at_least_by (bytes_eq (key f) (key u.first)) f n u us
