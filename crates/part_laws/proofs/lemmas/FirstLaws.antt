-- uniq that shows every run, and a head after it, gather together.
use Rattle.std.proofs.Common.{◌≡◌, ℕ, zero, suc, Bool, true, false, cond, not, ◌&&◌, List, [], ◌∷◌}
use Rattle.std.proofs.Common.{◌++◌, map, take, length, refl, ap, ◌∙◌, sym, arith}
use Rattle.std.specs.Prelude.{nat_le}
use Rattle.std.specs.List.{All, concat}
use Rattle.std.specs.Str.{bytes_eq}
use Rattle.std.proofs.lemmas.Bool.{and_parts, not-true}
use Rattle.std.proofs.lemmas.List.{take-take}
use Rattle.std.proofs.lemmas.List.Elements.{All-head, All-tail, All-take}
use Rattle.machine.specs.Lines.{lines, newline, HasNoNewline}
use Rattle.machine.proofs.LinesLaws.{lines-whole}
use Rattle.commands.specs.Head.{head_of}
use Rattle.commands.specs.Keys.{key}
use Rattle.commands.specs.Uniq.{contents_of}
use Rattle.commands.specs.declared.head_words.HeadSpec.{HeadSpec}
use Rattle.commands.specs.declared.uniq_words.RunsShown.{RunsShown}
use Rattle.commands.specs.declared.uniq_words.RunsShown.TheVariants.{Counted, Every, Repeated}
use Rattle.commands.specs.declared.uniq_words.RunsShown.TheVariants.{Single}
use Rattle.commands.specs.declared.uniq_words.UniqSpec.{UniqSpec}
use Rattle.commands.specs.declared.spec.FilterSpec.TheVariants as spec
use Rattle.part_laws.specs.Laws.{RunsAreGatheredBeforeHeads}
use Rattle.part_laws.specs.Manners.{GathersParts, made_of}
use Rattle.part_laws.specs.Utilities.{shows_every}
use Rattle.part_laws.proofs.lemmas.CutLines.{gathers_by}
use Rattle.part_laws.proofs.lemmas.HeadLaws.{head_is, take_nothing}
use Rattle.part_laws.proofs.lemmas.UniqLaws.{contents_again, contents_apart, contents_clean}
use Rattle.part_laws.proofs.lemmas.UniqLaws.{contents_ended, ended, ended_whole, firsts, firsts_again}
use Rattle.part_laws.proofs.lemmas.UniqLaws.{firsts_all, firsts_append, pushed, same_is, shown_once}
use Rattle.part_laws.proofs.lemmas.UniqLaws.{uniq_is}

-- ---- the first lines of runs, and the first of these

pushed_by : (b : Bool) (n : ℕ) (l m : List ℕ) (ms : List (List ℕ))
    → take (suc n) (cond b (l ∷ ms) (l ∷ m ∷ ms))
    ≡ take (suc n) (cond b (l ∷ take n ms) (l ∷ m ∷ take n ms))
pushed_by true n l m ms = ap (λ (ws : List (List ℕ)). l ∷ ws) (sym (take-take n n ms (omega arith)))
pushed_by false zero l m ms = refl
pushed_by false (suc n) l m ms =
    ap (λ (ws : List (List ℕ)). l ∷ m ∷ ws) (sym (take-take n (suc n) ms (omega arith)))

-- what is pushed before lines is seen in the first ones by as many of them
pushed_take : (by : List ℕ → List ℕ) (n : ℕ) (l : List ℕ) (ms : List (List ℕ))
    → take n (pushed by l ms) ≡ take n (pushed by l (take n ms))
pushed_take by zero l ms = refl
pushed_take by (suc n) l [] = refl
pushed_take by (suc n) l (m ∷ ms) = pushed_by (bytes_eq (by l) (by m)) n l m ms

-- of the first lines of runs the first ones are those before as many of the ends
firsts_take : (by : List ℕ → List ℕ) (n : ℕ) (ls ends : List (List ℕ))
    → take n (firsts by ls ends) ≡ take n (firsts by ls (take n ends))
firsts_take by n [] ends = sym (take-take n n ends (omega arith))
firsts_take by n (l ∷ ls) ends =
    pushed_take by n l (firsts by ls ends)
    ∙ (ap (λ (ms : List (List ℕ)). take n (pushed by l ms)) (firsts_take by n ls ends)
    ∙ sym (pushed_take by n l (firsts by ls (take n ends))))

-- ---- lines of which no two neighbours have equal keys

-- a line differs from the first one
abbrev Differs : (List ℕ → List ℕ) → List ℕ → List (List ℕ) → Type 0
Differs by l [] = Unit {0}
Differs by l (m ∷ ms) = bytes_eq (by l) (by m) ≡ false

abbrev AreApart : (List ℕ → List ℕ) → List (List ℕ) → Type 0
AreApart by [] = Unit {0}
AreApart by (l ∷ ls) = Differs by l ls × AreApart by ls

differs_alike : (by : List ℕ → List ℕ) (l m : List ℕ) (ms : List (List ℕ)) → by l ≡ by m
    → Differs by m ms → Differs by l ms
differs_alike by l m [] e d = tt
differs_alike by l m (w ∷ ws) e d = ap (λ (k : List ℕ). bytes_eq k (by w)) e ∙ d

apart_by : (b : Bool) (by : List ℕ → List ℕ) (l m : List ℕ) (ms : List (List ℕ))
    → bytes_eq (by l) (by m) ≡ b → AreApart by (m ∷ ms)
    → AreApart by (cond b (l ∷ ms) (l ∷ m ∷ ms))
apart_by true by l m ms e a = (differs_alike by l m ms (same_is (by l) (by m) e) a.0, a.1)
apart_by false by l m ms e a = (e, a)

apart_pushed : (by : List ℕ → List ℕ) (l : List ℕ) (ms : List (List ℕ)) → AreApart by ms
    → AreApart by (pushed by l ms)
apart_pushed by l [] a = (tt, tt)
apart_pushed by l (m ∷ ms) a = apart_by (bytes_eq (by l) (by m)) by l m ms refl a

-- the first lines of runs differ
firsts_apart : (by : List ℕ → List ℕ) (ls : List (List ℕ)) → AreApart by (firsts by ls [])
firsts_apart by [] = tt
firsts_apart by (l ∷ ls) = apart_pushed by l (firsts by ls []) (firsts_apart by ls)

differs_take : (by : List ℕ → List ℕ) (n : ℕ) (l : List ℕ) (ls : List (List ℕ)) → Differs by l ls
    → Differs by l (take n ls)
differs_take by zero l ls d = tt
differs_take by (suc n) l [] d = tt
differs_take by (suc n) l (m ∷ ls) d = d

apart_take : (by : List ℕ → List ℕ) (n : ℕ) (ls : List (List ℕ)) → AreApart by ls
    → AreApart by (take n ls)
apart_take by zero ls a = tt
apart_take by (suc n) [] a = tt
apart_take by (suc n) (l ∷ ls) a = (differs_take by n l ls a.0, apart_take by n ls a.1)

-- a line that differs is pushed before the others
pushed_apart : (by : List ℕ → List ℕ) (l : List ℕ) (ls : List (List ℕ)) → Differs by l ls
    → pushed by l ls ≡ l ∷ ls
pushed_apart by l [] d = refl
pushed_apart by l (m ∷ ls) d = ap (λ (b : Bool). cond b (l ∷ ls) (l ∷ m ∷ ls)) d

-- lines that differ are the first ones of their runs
firsts_same : (by : List ℕ → List ℕ) (ls : List (List ℕ)) → AreApart by ls
    → firsts by ls [] ≡ ls
firsts_same by [] a = refl
firsts_same by (l ∷ ls) a =
    ap (pushed by l) (firsts_same by ls a.1) ∙ pushed_apart by l ls a.0

-- a line is pushed before what begins with another
abbrev Begins : List ℕ → List (List ℕ) → Type 0
Begins m ms = (rest : List (List ℕ)) × (ms ≡ m ∷ rest)

begins_by : (b : Bool) (l m : List ℕ) (ms : List (List ℕ))
    → Begins l (cond b (l ∷ ms) (l ∷ m ∷ ms))
begins_by true l m ms = (ms, refl)
begins_by false l m ms = (m ∷ ms, refl)

pushed_begins : (by : List ℕ → List ℕ) (l : List ℕ) (ms : List (List ℕ))
    → Begins l (pushed by l ms)
pushed_begins by l [] = ([], refl)
pushed_begins by l (m ∷ ms) = begins_by (bytes_eq (by l) (by m)) l m ms

pushed_before : (by : List ℕ → List ℕ) (l m : List ℕ) (ms : List (List ℕ))
    → bytes_eq (by l) (by m) ≡ false → Begins m ms → pushed by l ms ≡ l ∷ ms
pushed_before by l m ms d (rest, e) =
    ap (pushed by l) e
    ∙ (ap (λ (b : Bool). cond b (l ∷ rest) (l ∷ m ∷ rest)) d
    ∙ ap (λ (ws : List (List ℕ)). l ∷ ws) (sym e))

take_one : (l : List ℕ) (ms : List (List ℕ)) → Begins l ms → take 1 ms ≡ l ∷ []
take_one l ms (rest, e) = ap (take 1) e

-- of lines that differ, the first ones make as many of the first ones
front_enough : (by : List ℕ → List ℕ) (n : ℕ) (ls ends : List (List ℕ)) → AreApart by ls
    → take n (firsts by ls ends) ≡ take n (firsts by (take n ls) ends)
front_enough by zero ls ends a = refl
front_enough by (suc n) [] ends a = refl
front_enough by (suc n) (l ∷ []) ends a =
    ap (λ (ls : List (List ℕ)). take (suc n) (firsts by (l ∷ ls) ends)) (sym (take_nothing n))
front_enough by (suc zero) (l ∷ m ∷ ls) ends a =
    take_one l (firsts by (l ∷ m ∷ ls) ends) (pushed_begins by l (firsts by (m ∷ ls) ends))
    ∙ sym (take_one l (pushed by l ends) (pushed_begins by l ends))
front_enough by (suc (suc n)) (l ∷ m ∷ ls) ends a =
    let all = firsts by (m ∷ ls) ends in
    let some = firsts by (m ∷ take n ls) ends in
    ap (take (suc (suc n))) (pushed_before by l m all a.0 (pushed_begins by m (firsts by ls ends)))
    ∙ (ap (λ (ws : List (List ℕ)). l ∷ ws) (front_enough by (suc n) (m ∷ ls) ends a.1)
    ∙ sym (ap (take (suc (suc n)))
    (pushed_before by l m some a.0 (pushed_begins by m (firsts by (take n ls) ends)))))

-- ---- the first lines of the first runs

-- the first n of the first lines of runs
abbrev first_runs : (List ℕ → List ℕ) → ℕ → List (List ℕ) → List (List ℕ)
first_runs by n ls = take n (firsts by ls [])

module _ (by : List ℕ → List ℕ) (n : ℕ) where
  runs_apart : (ls : List (List ℕ)) → AreApart by (first_runs by n ls)
  runs_apart ls = apart_take by n (firsts by ls []) (firsts_apart by ls)

  runs_again : (ls : List (List ℕ)) → first_runs by n (first_runs by n ls) ≡ first_runs by n ls
  runs_again ls =
      ap (take n) (firsts_same by (first_runs by n ls) (runs_apart ls))
      ∙ take-take n n (firsts by ls []) (omega arith)

  -- those of two lists are those of the ones of each
  runs_both : (ls ms : List (List ℕ))
      → first_runs by n (ls ++ ms) ≡ first_runs by n (first_runs by n ls ++ first_runs by n ms)
  runs_both ls ms =
      let front = first_runs by n ls in
      let end = first_runs by n ms in
      ap (take n) (firsts_append by ls ms [])
      ∙ (firsts_take by n ls (firsts by ms [])
      ∙ (ap (take n) (sym (firsts_again by ls end))
      ∙ (front_enough by n (firsts by ls []) end (firsts_apart by ls)
      ∙ (ap (λ (ends : List (List ℕ)). take n (firsts by front ends))
      (sym (firsts_same by end (runs_apart ms)))
      ∙ ap (take n) (sym (firsts_append by front end []))))))

-- the lines of contents that are ended
lines_of_ended : (ls : List (List ℕ)) → All HasNoNewline ls
    → lines (ended ls) ≡ map (λ (l : List ℕ). l ++ newline ∷ []) ls
lines_of_ended [] h = refl
lines_of_ended (l ∷ ls) h =
    lines-whole (l ++ newline ∷ []) (ended ls) (l, All-head HasNoNewline l ls h, refl)
    ∙ ap (λ (ms : List (List ℕ)). (l ++ newline ∷ []) ∷ ms)
    (lines_of_ended ls (All-tail HasNoNewline l ls h))

take_ended : (n : ℕ) (ls : List (List ℕ))
    → concat (take n (map (λ (l : List ℕ). l ++ newline ∷ []) ls)) ≡ ended (take n ls)
take_ended zero ls = refl
take_ended (suc n) [] = refl
take_ended (suc n) (l ∷ ls) =
    ap (λ (x : List ℕ). (l ++ newline ∷ []) ++ x) (take_ended n ls)

-- the first lines of contents that are ended
head_ended : (n : ℕ) (ls : List (List ℕ)) → All HasNoNewline ls
    → head_of n (ended ls) ≡ ended (take n ls)
head_ended n ls h = ap (λ (ms : List (List ℕ)). concat (take n ms)) (lines_of_ended ls h)
    ∙ take_ended n ls

module _ (by : List ℕ → List ℕ) (n : ℕ) where
  abbrev shown : List ℕ → List ℕ
  shown x = ended (first_runs by n (contents_of x))

  clean : (x : List ℕ) → All HasNoNewline (first_runs by n (contents_of x))
  clean x = All-take HasNoNewline n (firsts by (contents_of x) [])
      (firsts_all HasNoNewline by (contents_of x) (contents_clean x))

  pub shown_gathers : GathersParts shown
  shown_gathers = record {
    nothing = ap ended (take_nothing n);
    gathers = λ x y w.
        let front = first_runs by n (contents_of x) in
        let end = first_runs by n (contents_of y) in
        let cut : contents_of (ended front ++ ended end) ≡ front ++ end =
        contents_ended front (ended end) (clean x)
        ∙ ap (λ (ls : List (List ℕ)). front ++ ls) (contents_again end (clean y)) in
        ap (λ (ls : List (List ℕ)). ended (first_runs by n ls)) (contents_apart x y w)
        ∙ (ap ended (runs_both by n (contents_of x) (contents_of y))
        ∙ ap (λ (ls : List (List ℕ)). ended (first_runs by n ls)) (sym cut));
    again = λ x w.
        ap (λ (ls : List (List ℕ)). ended (first_runs by n ls))
        (contents_again (first_runs by n (contents_of x)) (clean x))
        ∙ ap ended (runs_again by n (contents_of x));
    keeps = λ x w. ended_whole (first_runs by n (contents_of x));
  }

  -- what head writes of that
  pub head_of_shown : (x : List ℕ) → head_of n (shown_once by x) ≡ shown x
  head_of_shown x = head_ended n (firsts by (contents_of x) [])
      (firsts_all HasNoNewline by (contents_of x) (contents_clean x))

both_gather : (s : UniqSpec) (t : HeadSpec) → s.shown ≡ Every → nat_le 2 (length t.inputs) ≡ false
    → GathersParts (λ (x : List ℕ). made_of (spec.Head t) (made_of (spec.Uniq s) x))
both_gather s t every one =
    let by = key s.skipped_fields s.skipped_bytes in
    gathers_by (λ (x : List ℕ). made_of (spec.Head t) (made_of (spec.Uniq s) x)) (shown by t.count)
    (λ x. head_is t one (made_of (spec.Uniq s) x)
    ∙ (ap (head_of t.count) (uniq_is s every x) ∙ head_of_shown by t.count x))
    (shown_gathers by t.count)

every_by : (s : RunsShown) → shows_every s ≡ true → s ≡ Every
every_by Every h = refl
every_by Counted h = absurd (cc h)
every_by Repeated h = absurd (cc h)
every_by Single h = absurd (cc h)

both_by : (s : UniqSpec) (t : HeadSpec)
    → (shows_every s.shown && not (nat_le 2 (length t.inputs))) ≡ true
    → GathersParts (λ (x : List ℕ). made_of (spec.Head t) (made_of (spec.Uniq s) x))
both_by s t h =
    let both = and_parts (shows_every s.shown) (not (nat_le 2 (length t.inputs))) h in
    both_gather s t (every_by s.shown both.0) (not-true (nat_le 2 (length t.inputs)) both.1)

-- two filters that are said to gather together do so
pub runs_gather : RunsAreGatheredBeforeHeads
runs_gather (spec.Cat s) g h = absurd (cc h)
runs_gather (spec.Cut s) g h = absurd (cc h)
runs_gather (spec.Fold s) g h = absurd (cc h)
runs_gather (spec.Head s) g h = absurd (cc h)
runs_gather (spec.Paste s) g h = absurd (cc h)
runs_gather (spec.Tail s) g h = absurd (cc h)
runs_gather (spec.Tee s) g h = absurd (cc h)
runs_gather (spec.Tr s) g h = absurd (cc h)
runs_gather (spec.Uniq s) (spec.Cat t) h = absurd (cc h)
runs_gather (spec.Uniq s) (spec.Cut t) h = absurd (cc h)
runs_gather (spec.Uniq s) (spec.Fold t) h = absurd (cc h)
runs_gather (spec.Uniq s) (spec.Head t) h = both_by s t h
runs_gather (spec.Uniq s) (spec.Paste t) h = absurd (cc h)
runs_gather (spec.Uniq s) (spec.Tail t) h = absurd (cc h)
runs_gather (spec.Uniq s) (spec.Tee t) h = absurd (cc h)
runs_gather (spec.Uniq s) (spec.Tr t) h = absurd (cc h)
runs_gather (spec.Uniq s) (spec.Uniq t) h = absurd (cc h)
runs_gather (spec.Uniq s) (spec.Wc t) h = absurd (cc h)
runs_gather (spec.Wc s) g h = absurd (cc h)
