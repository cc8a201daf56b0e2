-- uniq gathers if it shows every run once.
use Rattle.std.proofs.Common.{◌≡◌, ℕ, Bool, true, false, cond, eqb, List, [], ◌∷◌, ◌++◌, map, refl}
use Rattle.std.proofs.Common.{ap, ◌∙◌, sym, subst, append_assoc, inl, inr}
use Rattle.std.specs.List.{All, flat_map, onto_first}
use Rattle.std.specs.Str.{bytes_eq}
use Rattle.std.proofs.lemmas.Bool.{eqb-true}
use Rattle.std.proofs.lemmas.List.{append-nil, map-append}
use Rattle.std.proofs.lemmas.List.Elements.{All-head, All-tail, All-cons, All-nil, All-map}
use Rattle.std.proofs.lemmas.Slice.Eq.{bytes_eq-Decides}
use Rattle.machine.specs.Lines.{newline, lines, content, HasNoNewline}
use Rattle.commands.specs.Keys.{key}
use Rattle.commands.specs.Runs.{Run, lines_of, onto_runs, run_length, runs}
use Rattle.commands.specs.Uniq.{contents_of, run_text, uniq_text}
use Rattle.commands.specs.declared.uniq_words.RunsShown.{RunsShown}
use Rattle.commands.specs.declared.uniq_words.RunsShown.TheVariants.{Every, Counted, Repeated}
use Rattle.commands.specs.declared.uniq_words.RunsShown.TheVariants.{Single}
use Rattle.commands.specs.declared.uniq_words.UniqSpec.{UniqSpec}
use Rattle.commands.specs.declared.spec.FilterSpec.TheVariants as spec
use Rattle.part_laws.specs.Manners.{GathersParts, GoesIn, made_of}
use Rattle.part_laws.specs.Parts.{IsWholeLines}
use Rattle.part_laws.specs.Utilities.{manner_of, uniq_manner}
use Rattle.part_laws.proofs.lemmas.CutLines.{IsOther, gathers_by, lines_apart}
use Rattle.part_laws.proofs.lemmas.CutLines.{whole_joined}
use Rattle.machine.proofs.LinesLaws.{lines-whole}

-- a line before the first lines of runs: it takes the place of the first one if the keys are equal
abbrev pub pushed : (List ℕ → List ℕ) → List ℕ → List (List ℕ) → List (List ℕ)
pushed by l [] = l ∷ []
pushed by l (m ∷ ms) = cond (bytes_eq (by l) (by m)) (l ∷ ms) (l ∷ m ∷ ms)

-- the first lines of runs of lines, before these first lines
abbrev pub firsts : (List ℕ → List ℕ) → List (List ℕ) → List (List ℕ) → List (List ℕ)
firsts by [] ends = ends
firsts by (l ∷ ls) ends = pushed by l (firsts by ls ends)

-- equal keys
same_true : (x y : List ℕ) → x ≡ y → bytes_eq x y ≡ true
same_true x y e = (bytes_eq-Decides x y).1 e

pub same_is : (x y : List ℕ) → bytes_eq x y ≡ true → x ≡ y
same_is x y e = (bytes_eq-Decides x y).0 e

-- a line takes the place of the first one if their keys are equal
pushed_same : (by : List ℕ → List ℕ) (l m : List ℕ) (ms : List (List ℕ)) → by l ≡ by m
    → pushed by l (m ∷ ms) ≡ l ∷ ms
pushed_same by l m ms e = ap (λ (b : Bool). cond b (l ∷ ms) (l ∷ m ∷ ms))
    (same_true (by l) (by m) e)

alike_by : (b : Bool) (by : List ℕ → List ℕ) (l m w : List ℕ) (ws : List (List ℕ)) → by l ≡ by m
    → bytes_eq (by m) (by w) ≡ b
    → pushed by l (w ∷ ws) ≡ pushed by l (cond b (m ∷ ws) (m ∷ w ∷ ws))
alike_by true by l m w ws e h =
    ap (λ (b : Bool). cond b (l ∷ ws) (l ∷ w ∷ ws)) (ap (λ (k : List ℕ). bytes_eq k (by w)) e ∙ h)
    ∙ sym (pushed_same by l m ws e)
alike_by false by l m w ws e h =
    ap (λ (b : Bool). cond b (l ∷ ws) (l ∷ w ∷ ws)) (ap (λ (k : List ℕ). bytes_eq k (by w)) e ∙ h)
    ∙ sym (pushed_same by l m (w ∷ ws) e)

-- of two lines with equal keys the first one is kept
pushed_alike : (by : List ℕ → List ℕ) (l m : List ℕ) (ws : List (List ℕ)) → by l ≡ by m
    → pushed by l ws ≡ pushed by l (pushed by m ws)
pushed_alike by l m [] e = sym (pushed_same by l m [] e)
pushed_alike by l m (w ∷ ws) e = alike_by (bytes_eq (by m) (by w)) by l m w ws e refl

firsts_by : (b : Bool) (by : List ℕ → List ℕ) (l m : List ℕ) (ms ends : List (List ℕ))
    → bytes_eq (by l) (by m) ≡ b
    → firsts by (cond b (l ∷ ms) (l ∷ m ∷ ms)) ends ≡ pushed by l (pushed by m (firsts by ms ends))
firsts_by true by l m ms ends h = pushed_alike by l m (firsts by ms ends) (same_is (by l) (by m) h)
firsts_by false by l m ms ends h = refl

-- a line that is before first lines is before the lines
firsts_pushed : (by : List ℕ → List ℕ) (l : List ℕ) (ms ends : List (List ℕ))
    → firsts by (pushed by l ms) ends ≡ pushed by l (firsts by ms ends)
firsts_pushed by l [] ends = refl
firsts_pushed by l (m ∷ ms) ends = firsts_by (bytes_eq (by l) (by m)) by l m ms ends refl

-- the first lines of two lists
pub firsts_append : (by : List ℕ → List ℕ) (ls ms ends : List (List ℕ))
    → firsts by (ls ++ ms) ends ≡ firsts by ls (firsts by ms ends)
firsts_append by [] ms ends = refl
firsts_append by (l ∷ ls) ms ends = ap (pushed by l) (firsts_append by ls ms ends)

-- first lines have the same first lines
pub firsts_again : (by : List ℕ → List ℕ) (ls ends : List (List ℕ))
    → firsts by (firsts by ls []) ends ≡ firsts by ls ends
firsts_again by [] ends = refl
firsts_again by (l ∷ ls) ends = firsts_pushed by l (firsts by ls []) ends
    ∙ ap (pushed by l) (firsts_again by ls ends)

-- the first lines of two lists are those of the first lines of each
firsts_both : (by : List ℕ → List ℕ) (ls ms : List (List ℕ))
    → firsts by (ls ++ ms) [] ≡ firsts by (firsts by ls [] ++ firsts by ms []) []
firsts_both by ls ms =
    firsts_append by ls ms []
    ∙ (sym (firsts_again by ls (firsts by ms []))
    ∙ (ap (firsts by (firsts by ls [])) (sym (firsts_again by ms []))
    ∙ sym (firsts_append by (firsts by ls []) (firsts by ms []) [])))

abbrev first_of : Run → List ℕ
first_of r = r.first

onto_by : (b : Bool) (l : List ℕ) (r : Run) (rs : List Run)
    → map first_of (cond b (record { first = l; others = lines_of r } ∷ rs)
    (record { first = l; others = [] } ∷ r ∷ rs))
    ≡ cond b (l ∷ map first_of rs) (l ∷ r.first ∷ map first_of rs)
onto_by true l r rs = refl
onto_by false l r rs = refl

onto_firsts : (by : List ℕ → List ℕ) (l : List ℕ) (rs : List Run)
    → map first_of (onto_runs by l rs) ≡ pushed by l (map first_of rs)
onto_firsts by l [] = refl
onto_firsts by l (r ∷ rs) = onto_by (bytes_eq (by l) (by r.first)) l r rs

-- the first lines of runs
runs_firsts : (by : List ℕ → List ℕ) (ls : List (List ℕ))
    → map first_of (runs by ls) ≡ firsts by ls []
runs_firsts by [] = refl
runs_firsts by (l ∷ ls) = onto_firsts by l (runs by ls) ∙ ap (pushed by l) (runs_firsts by ls)

-- contents, each with a newline after it
abbrev pub ended : List (List ℕ) → List ℕ
ended [] = []
ended (l ∷ ls) = (l ++ newline ∷ []) ++ ended ls

text_of : (rs : List Run) → flat_map (λ (r : Run). run_text Every r.first (run_length r)) rs
    ≡ ended (map first_of rs)
text_of [] = refl
text_of (r ∷ rs) = ap (λ (x : List ℕ). (r.first ++ newline ∷ []) ++ x) (text_of rs)

-- what is written of lines is the first ones of their runs
text_is : (by : List ℕ → List ℕ) (ls : List (List ℕ))
    → uniq_text by Every ls ≡ ended (firsts by ls [])
text_is by ls = text_of (runs by ls) ∙ ap ended (runs_firsts by ls)

-- ended contents are whole lines
pub ended_whole : (ls : List (List ℕ)) → IsWholeLines (ended ls)
ended_whole [] = inl refl
ended_whole (l ∷ ls) = whole_joined (l ++ newline ∷ []) (ended ls) (inr (l, refl)) (ended_whole ls)

-- the content of a line
content_whole : (xs : List ℕ) → content (xs ++ newline ∷ []) ≡ xs
content_whole [] = refl
content_whole (x ∷ []) = refl
content_whole (x ∷ y ∷ ys) = ap (λ (zs : List ℕ). x ∷ zs) (content_whole (y ∷ ys))

-- contents that are ended have these contents
pub contents_ended : (ls : List (List ℕ)) (ys : List ℕ) → All HasNoNewline ls
    → contents_of (ended ls ++ ys) ≡ ls ++ contents_of ys
contents_ended [] ys h = refl
contents_ended (l ∷ ls) ys h =
    ap contents_of (append_assoc (l ++ newline ∷ []) (ended ls) ys)
    ∙ (ap (map content) (lines-whole (l ++ newline ∷ []) (ended ls ++ ys)
    (l, All-head HasNoNewline l ls h, refl))
    ∙ (ap (λ (m : List ℕ). m ∷ contents_of (ended ls ++ ys)) (content_whole l)
    ∙ ap (λ (ms : List (List ℕ)). l ∷ ms) (contents_ended ls ys (All-tail HasNoNewline l ls h))))

pub contents_again : (ls : List (List ℕ)) → All HasNoNewline ls → contents_of (ended ls) ≡ ls
contents_again ls h = ap contents_of (sym (append-nil (ended ls)))
    ∙ (contents_ended ls [] h ∙ append-nil ls)

content_more : (x : ℕ) (l : List ℕ) → IsOther x → content (x ∷ l) ≡ x ∷ content l
content_more x [] h = ap (λ (b : Bool). cond b [] (x ∷ [])) h
content_more x (y ∷ ys) h = refl

-- a line whose content has no newline
abbrev HasCleanContent : List ℕ → Type 0
HasCleanContent l = HasNoNewline (content l)

clean_longer : (x : ℕ) (l : List ℕ) → IsOther x → HasCleanContent l → HasCleanContent (x ∷ l)
clean_longer x l h c = subst HasNoNewline (sym (content_more x l h))
    (All-cons IsOther x (content l) h c)

clean_onto : (x : ℕ) (ls : List (List ℕ)) → IsOther x → All HasCleanContent ls
    → All HasCleanContent (onto_first x ls)
clean_onto x [] h c = All-cons HasCleanContent (x ∷ []) [] (clean_longer x [] h (All-nil IsOther)) c
clean_onto x (l ∷ ls) h c =
    All-cons HasCleanContent (x ∷ l) ls (clean_longer x l h (All-head HasCleanContent l ls c))
    (All-tail HasCleanContent l ls c)

clean_newline : (x : ℕ) → x ≡ newline → HasCleanContent (x ∷ [])
clean_newline x e = subst (λ (y : ℕ). HasCleanContent (y ∷ [])) (sym e) (All-nil IsOther)

clean_by : (b : Bool) (x : ℕ) (ls : List (List ℕ)) → eqb x newline ≡ b → All HasCleanContent ls
    → All HasCleanContent (cond b ((x ∷ []) ∷ ls) (onto_first x ls))
clean_by true x ls e c = All-cons HasCleanContent (x ∷ []) ls
    (clean_newline x (eqb-true x newline e)) c
clean_by false x ls e c = clean_onto x ls e c

clean_lines : (x : List ℕ) → All HasCleanContent (lines x)
clean_lines [] = All-nil HasCleanContent
clean_lines (x ∷ xs) = clean_by (eqb x newline) x (lines xs) refl (clean_lines xs)

-- the contents of lines have no newline
pub contents_clean : (x : List ℕ) → All HasNoNewline (contents_of x)
contents_clean x = All-map HasNoNewline content (lines x) (clean_lines x)

-- the contents of whole lines and of what follows them
pub contents_apart : (x y : List ℕ) → IsWholeLines x
    → contents_of (x ++ y) ≡ contents_of x ++ contents_of y
contents_apart x y w = ap (map content) (lines_apart x y w) ∙ map-append content (lines x) (lines y)

push_by : (b : Bool) (P : List ℕ → Type 0) (l m : List ℕ) (ms : List (List ℕ)) → P l
    → All P (m ∷ ms) → All P (cond b (l ∷ ms) (l ∷ m ∷ ms))
push_by true P l m ms p h = All-cons P l ms p (All-tail P m ms h)
push_by false P l m ms p h = All-cons P l (m ∷ ms) p h

push_all : (P : List ℕ → Type 0) (by : List ℕ → List ℕ) (l : List ℕ) (ms : List (List ℕ)) → P l
    → All P ms → All P (pushed by l ms)
push_all P by l [] p h = All-cons P l [] p h
push_all P by l (m ∷ ms) p h = push_by (bytes_eq (by l) (by m)) P l m ms p h

-- what holds of lines holds of the first ones of their runs
pub firsts_all : (P : List ℕ → Type 0) (by : List ℕ → List ℕ) (ls : List (List ℕ)) → All P ls
    → All P (firsts by ls [])
firsts_all P by [] h = h
firsts_all P by (l ∷ ls) h = push_all P by l (firsts by ls []) (All-head P l ls h)
    (firsts_all P by ls (All-tail P l ls h))

-- the first ones of the runs of a stream's lines, each ended
abbrev pub shown_once : (List ℕ → List ℕ) → List ℕ → List ℕ
shown_once by x = ended (firsts by (contents_of x) [])

once_clean : (by : List ℕ → List ℕ) (x : List ℕ) → All HasNoNewline (firsts by (contents_of x) [])
once_clean by x = firsts_all HasNoNewline by (contents_of x) (contents_clean x)

-- the first ones of runs are gathered
once_gathers : (by : List ℕ → List ℕ) → GathersParts (shown_once by)
once_gathers by =
    record {
      nothing = refl;
      gathers = λ x y w.
          let front = firsts by (contents_of x) [] in
          let end = firsts by (contents_of y) [] in
          let cut : contents_of (ended front ++ ended end) ≡ front ++ end =
          contents_ended front (ended end) (once_clean by x)
          ∙ ap (λ (ls : List (List ℕ)). front ++ ls) (contents_again end (once_clean by y)) in
          ap (λ (ls : List (List ℕ)). ended (firsts by ls [])) (contents_apart x y w)
          ∙ (ap ended (firsts_both by (contents_of x) (contents_of y))
          ∙ ap (λ (ls : List (List ℕ)). ended (firsts by ls [])) (sym cut));
      again = λ x w.
          ap (λ (ls : List (List ℕ)). ended (firsts by ls []))
          (contents_again (firsts by (contents_of x) []) (once_clean by x))
          ∙ ap ended (firsts_again by (contents_of x) []);
      keeps = λ x w. ended_whole (firsts by (contents_of x) []);
    }

-- what uniq that shows every run writes
pub uniq_is : (s : UniqSpec) → s.shown ≡ Every → (x : List ℕ)
    → made_of (spec.Uniq s) x ≡ shown_once (key s.skipped_fields s.skipped_bytes) x
uniq_is s h x =
    let by = key s.skipped_fields s.skipped_bytes in
    append-nil (uniq_text by s.shown (contents_of x))
    ∙ (ap (λ (shown : RunsShown). uniq_text by shown (contents_of x)) h
    ∙ text_is by (contents_of x))

-- uniq that shows every run gathers
pub uniq_gathers : (s : UniqSpec) → s.shown ≡ Every → GathersParts (made_of (spec.Uniq s))
uniq_gathers s h =
    let by = key s.skipped_fields s.skipped_bytes in
    gathers_by (made_of (spec.Uniq s)) (shown_once by) (uniq_is s h) (once_gathers by)

uniq_by : (s : UniqSpec) (shown : RunsShown) → s.shown ≡ shown
    → GoesIn (uniq_manner shown) (spec.Uniq s)
uniq_by s Every e = uniq_gathers s e
uniq_by s Counted e = tt
uniq_by s Repeated e = tt
uniq_by s Single e = tt

-- uniq goes in its manner
pub uniq_goes : (s : UniqSpec) → GoesIn (manner_of (spec.Uniq s)) (spec.Uniq s)
uniq_goes s = uniq_by s s.shown refl
