-- One line more, and what uniq makes of it.
use Rattle.std.proofs.Common.{◌≡◌, ℕ, zero, suc, ◌+◌, ◌<◌, ◌≤◌, ◌^◌, Bool, true, false, cond, eqb}
use Rattle.std.proofs.Common.{leb, ltb, List, [], ◌∷◌, ◌++◌, refl, ap, ◌∙◌, sym, arith}
use Rattle.std.proofs.Common.{append_assoc}
use Rattle.std.specs.Prelude.{◌&&◌, replicate}
use Rattle.std.specs.Str.{bytes_eq}
use Rattle.std.proofs.lemmas.Bool.{and_parts, ltb-true, le-leb, ne_eqb, lt-ltb}
use Rattle.std.proofs.lemmas.List.{append-nil}
use Rattle.machine.specs.Lines.{newline}
use Rattle.pair_filters.specs.declared.runs.Rules.{Rules}
use Rattle.commands.specs.declared.uniq_words.RunsShown.{RunsShown}
use Rattle.commands.specs.declared.uniq_words.RunsShown.TheVariants.{Every, Counted, Repeated}
use Rattle.commands.specs.declared.uniq_words.RunsShown.TheVariants.{Single}
use Rattle.pair_filters.specs.LineKeys.{key_by}
use Rattle.pair_filters.specs.UniqSteps.{TakesLine, IsOneTooMany, greatest_by, one_more, text_by}
use Rattle.commands.specs.Uniq.{run_text, greatest}
use Rattle.pair_filters.proofs.lemmas.RunLaws.{same_is, same_true}
use Rattle.pair_filters.proofs.lemmas.TallyLaws.{Tally, tally, tallies, texts, numbers, onto_tally}
use Rattle.pair_filters.proofs.lemmas.TallyLaws.{onto_same, onto_other, tallies-cons, tallies_begun}
use Rattle.pair_filters.proofs.lemmas.TallyLaws.{text_is, counts_are, behind_less, at_least}

pub greatest_is : (rules : Rules) (ls : List (List ℕ))
    → greatest_by rules ls ≡ greatest (numbers rules.shown (tallies (key_by rules) ls))
greatest_is rules ls = ap greatest (counts_are (key_by rules) rules.shown ls)

-- what is written of this many lines as good as one, if there are some
pub some_lines : (rules : Rules) (f : List ℕ) (n : ℕ) → 1 ≤ n
    → text_by rules (replicate n f) ≡ run_text rules.shown f n
some_lines rules f n h =
    let key = key_by rules in
    ap (text_by rules) (sym (append-nil (replicate n f)))
    ∙ (text_is key rules.shown (replicate n f ++ [])
    ∙ (ap (texts rules.shown) (tallies_begun key f n [] h) ∙ append-nil (run_text rules.shown f n)))

-- a line that does not go on with the run before it
other_tallies : (rules : Rules) (f l : List ℕ) (n : ℕ) (ls : List (List ℕ))
    → bytes_eq (key_by rules f) (key_by rules l) ≡ false → 1 ≤ n
    → tallies (key_by rules) (replicate n f ++ l ∷ ls) ≡ tally f n ∷ tallies (key_by rules) (l ∷ ls)
other_tallies rules f l n ls h some =
    let key = key_by rules in
    let us = tallies key ls in
    tallies_begun key f n (l ∷ ls) some
    ∙ (ap (onto_tally key (tally f n)) (tallies-cons key l ls)
    ∙ (onto_other key f l n 1 us h
    ∙ ap (λ (ts : List Tally). tally f n ∷ ts) (sym (tallies-cons key l ls))))

keys_differ : (n : ℕ) (b : Bool) → (ltb 0 (suc n) && b) ≡ false → b ≡ false
keys_differ n b h = ap (λ (c : Bool). c && b) (sym (lt-ltb 0 (suc n) (omega arith))) ∙ h

other_text : (rules : Rules) (f l : List ℕ) (n : ℕ) (ls : List (List ℕ))
    → (ltb 0 n && bytes_eq (key_by rules f) (key_by rules l)) ≡ false
    → text_by rules (replicate n f ++ l ∷ ls) ≡ text_by rules (replicate n f) ++ text_by rules
    (l ∷ ls)
other_text rules f l zero ls h = refl
other_text rules f l (suc n) ls h =
    let key = key_by rules in
    text_is key rules.shown (replicate (suc n) f ++ l ∷ ls)
    ∙ (ap (texts rules.shown) (other_tallies rules f l (suc n) ls
    (keys_differ n (bytes_eq (key f) (key l)) h) (omega arith))
    ∙ (ap (λ (x : List ℕ). x ++ texts rules.shown (tallies key (l ∷ ls)))
    (sym (some_lines rules f (suc n) (omega arith)))
    ∙ ap (λ (x : List ℕ). text_by rules (replicate (suc n) f) ++ x)
    (sym (text_is key rules.shown (l ∷ ls)))))

other_greatest : (rules : Rules) (f l : List ℕ) (n : ℕ) (ls : List (List ℕ))
    → (ltb 0 n && bytes_eq (key_by rules f) (key_by rules l)) ≡ false
    → greatest_by rules (l ∷ ls) ≤ greatest_by rules (replicate n f ++ l ∷ ls)
other_greatest rules f l zero ls h = omega arith
other_greatest rules f l (suc n) ls h =
    let ts = tallies (key_by rules) (l ∷ ls) in
    let e : greatest_by rules (replicate (suc n) f ++ l ∷ ls)
    ≡ greatest (numbers rules.shown (tally f (suc n) ∷ ts)) =
    greatest_is rules (replicate (suc n) f ++ l ∷ ls)
    ∙ ap (λ (us : List Tally). greatest (numbers rules.shown us))
    (other_tallies rules f l (suc n) ls
    (keys_differ n (bytes_eq (key_by rules f) (key_by rules l)) h) (omega arith)) in
    let less : greatest (numbers rules.shown ts) ≤ greatest
    (numbers rules.shown (tally f (suc n) ∷ ts)) =
    behind_less rules.shown (tally f (suc n)) ts in
    let g : greatest_by rules (l ∷ ls) ≡ greatest (numbers rules.shown ts) =
    greatest_is rules (l ∷ ls) in
    omega arith

pub takes_other : (rules : Rules) (f l : List ℕ) (n : ℕ) (goes_on : Bool) (made made' : List ℕ)
    → goes_on ≡ (ltb 0 n && bytes_eq (key_by rules f) (key_by rules l)) → goes_on ≡ false
    → made' ≡ made ++ text_by rules (replicate n f)
    → TakesLine rules (replicate n f) (replicate 1 l) l made made'
takes_other rules f l n goes_on made made' is h e =
    let apart : (ltb 0 n && bytes_eq (key_by rules f) (key_by rules l)) ≡ false = sym is ∙ h in
    record {
      splits = λ ls.
          ap (λ (x : List ℕ). made ++ x) (other_text rules f l n ls apart)
          ∙ (sym (append_assoc made (text_by rules (replicate n f)) (text_by rules (l ∷ ls)))
          ∙ ap (λ (x : List ℕ). x ++ text_by rules (l ∷ ls)) (sym e));
      counts = λ ls. other_greatest rules f l n ls apart;
    }

-- a line that goes on with it
more_tallies : (rules : Rules) (f l : List ℕ) (n : ℕ) (ls : List (List ℕ))
    → (ltb 0 n && bytes_eq (key_by rules f) (key_by rules l)) ≡ true
    → tallies (key_by rules) (replicate n f ++ l ∷ ls)
    ≡ onto_tally (key_by rules) (tally f (n + 1)) (tallies (key_by rules) ls)
more_tallies rules f l n ls h =
    let key = key_by rules in
    let parts = and_parts (ltb 0 n) (bytes_eq (key f) (key l)) h in
    let some : 0 < n = ltb-true 0 n (parts.0) in
    tallies_begun key f n (l ∷ ls) (omega arith)
    ∙ (ap (onto_tally key (tally f n)) (tallies-cons key l ls)
    ∙ onto_same key f l n 1 (tallies key ls) (same_is (key f) (key l) (parts.1)))

-- if two numbers are written alike, whatever is added to them
alike_by : (shown : RunsShown) (b : Bool) (f : List ℕ) (m n : ℕ) (u : Tally) (us : List Tally)
    → run_text shown f m ≡ run_text shown f n
    → run_text shown f (m + u.count) ≡ run_text shown f (n + u.count)
    → texts shown (cond b (tally f (m + u.count) ∷ us) (tally f m ∷ u ∷ us))
    ≡ texts shown (cond b (tally f (n + u.count) ∷ us) (tally f n ∷ u ∷ us))
alike_by shown true f m n u us h e = ap (λ (x : List ℕ). x ++ texts shown us) e
alike_by shown false f m n u us h e = ap (λ (x : List ℕ). x ++ texts shown (u ∷ us)) h

alike : (shown : RunsShown) (key : List ℕ → List ℕ) (f : List ℕ) (m n : ℕ) (us : List Tally)
    → run_text shown f m ≡ run_text shown f n
    → ((c : ℕ) → run_text shown f (m + c) ≡ run_text shown f (n + c))
    → texts shown (onto_tally key (tally f m) us) ≡ texts shown (onto_tally key (tally f n) us)
alike shown key f m n [] h e = ap (λ (x : List ℕ). x ++ []) h
alike shown key f m n (u ∷ us) h e = alike_by shown (bytes_eq (key f) (key u.first)) f m n u us h
    (e u.count)

many : (a b : ℕ) → 2 ≤ a → 2 ≤ b → leb 2 a ≡ leb 2 b
many a b h k = le-leb 2 a h ∙ sym (le-leb 2 b k)

not_one : (a b : ℕ) → 2 ≤ a → 2 ≤ b → eqb a 1 ≡ eqb b 1
not_one a b h k = ne_eqb a 1 (λ (e : a ≡ 1). omega (arith, h, e))
    ∙ sym (ne_eqb b 1 (λ (e : b ≡ 1). omega (arith, k, e)))

alike_more : (shown : RunsShown) (f : List ℕ) (n c : ℕ) → 1 ≤ n
    → run_text shown f ((n + 1) + c) ≡ run_text shown f (one_more shown n + c)
alike_more Every f n c h = refl
alike_more Counted f n c h = refl
alike_more Repeated f n c h = ap (λ (b : Bool). cond b (f ++ newline ∷ []) [])
    (many ((n + 1) + c) (2 + c) (omega arith) (omega arith))
alike_more Single f n c h = ap (λ (b : Bool). cond b (f ++ newline ∷ []) [])
    (not_one ((n + 1) + c) (2 + c) (omega arith) (omega arith))

alike_alone : (shown : RunsShown) (f : List ℕ) (n : ℕ) → 1 ≤ n
    → run_text shown f (n + 1) ≡ run_text shown f (one_more shown n)
alike_alone shown f n h =
    let a : (n + 1) + 0 ≡ n + 1 = omega arith in
    let b : one_more shown n + 0 ≡ one_more shown n = omega arith in
    ap (run_text shown f) (sym a) ∙ (alike_more shown f n 0 h ∙ ap (run_text shown f) b)

numbers_more : (shown : RunsShown) (key : List ℕ → List ℕ) (f : List ℕ) (n : ℕ) (us : List Tally)
    → greatest (numbers shown (onto_tally key (tally f (one_more shown n)) us)) ≤ greatest
    (numbers shown (onto_tally key (tally f (n + 1)) us))
numbers_more Every key f n us = omega arith
numbers_more Counted key f n us = omega arith
numbers_more Repeated key f n us = omega arith
numbers_more Single key f n us = omega arith

some_more : (shown : RunsShown) (n : ℕ) → 1 ≤ one_more shown n
some_more Every n = omega arith
some_more Counted n = omega arith
some_more Repeated n = omega arith
some_more Single n = omega arith

begun_some : (n : ℕ) (b : Bool) → (ltb 0 n && b) ≡ true → 1 ≤ n
begun_some n b h = let low : 0 < n = ltb-true 0 n ((and_parts (ltb 0 n) b h).0) in omega arith

more_text : (rules : Rules) (f l : List ℕ) (n : ℕ) (ls : List (List ℕ))
    → (ltb 0 n && bytes_eq (key_by rules f) (key_by rules l)) ≡ true
    → text_by rules (replicate n f ++ l ∷ ls) ≡ text_by rules
    (replicate (one_more rules.shown n) f ++ ls)
more_text rules f l n ls h =
    let key = key_by rules in
    let shown = rules.shown in
    let some : 1 ≤ n = begun_some n (bytes_eq (key f) (key l)) h in
    text_is key shown (replicate n f ++ l ∷ ls)
    ∙ (ap (texts shown) (more_tallies rules f l n ls h)
    ∙ (alike shown key f (n + 1) (one_more shown n) (tallies key ls) (alike_alone shown f n some)
    (λ c. alike_more shown f n c some)
    ∙ (ap (texts shown) (sym (tallies_begun key f (one_more shown n) ls (some_more shown n)))
    ∙ sym (text_is key shown (replicate (one_more shown n) f ++ ls)))))

more_greatest : (rules : Rules) (f l : List ℕ) (n : ℕ) (ls : List (List ℕ))
    → (ltb 0 n && bytes_eq (key_by rules f) (key_by rules l)) ≡ true
    → greatest_by rules (replicate (one_more rules.shown n) f ++ ls) ≤ greatest_by rules
    (replicate n f ++ l ∷ ls)
more_greatest rules f l n ls h =
    let key = key_by rules in
    let shown = rules.shown in
    let us = tallies key ls in
    let before : greatest_by rules (replicate n f ++ l ∷ ls)
    ≡ greatest (numbers shown (onto_tally key (tally f (n + 1)) us)) =
    greatest_is rules (replicate n f ++ l ∷ ls)
    ∙ ap (λ (ts : List Tally). greatest (numbers shown ts)) (more_tallies rules f l n ls h) in
    let after : greatest_by rules (replicate (one_more shown n) f ++ ls)
    ≡ greatest (numbers shown (onto_tally key (tally f (one_more shown n)) us)) =
    greatest_is rules (replicate (one_more shown n) f ++ ls)
    ∙ ap (λ (ts : List Tally). greatest (numbers shown ts))
    (tallies_begun key f (one_more shown n) ls (some_more shown n)) in
    let less : greatest (numbers shown (onto_tally key (tally f (one_more shown n)) us)) ≤ greatest
    (numbers shown (onto_tally key (tally f (n + 1)) us)) = numbers_more shown key f n us in
    omega arith

pub takes_more : (rules : Rules) (f l : List ℕ) (n more : ℕ) (goes_on : Bool) (made : List ℕ)
    → goes_on ≡ (ltb 0 n && bytes_eq (key_by rules f) (key_by rules l)) → goes_on ≡ true
    → more ≡ one_more rules.shown n → TakesLine rules (replicate n f) (replicate more f) l made made
takes_more rules f l n more goes_on made is h e =
    let same : (ltb 0 n && bytes_eq (key_by rules f) (key_by rules l)) ≡ true = sym is ∙ h in
    record {
      splits = λ ls.
          ap (λ (x : List ℕ). made ++ x) (more_text rules f l n ls same)
          ∙ ap (λ (k : ℕ). made ++ text_by rules (replicate k f ++ ls)) (sym e);
      counts = λ ls.
          let less : greatest_by rules (replicate (one_more rules.shown n) f ++ ls) ≤ greatest_by
          rules (replicate n f ++ l ∷ ls) = more_greatest rules f l n ls same in
          let as_it_is : greatest_by rules (replicate more f ++ ls)
          ≡ greatest_by rules (replicate (one_more rules.shown n) f ++ ls) =
          ap (λ (k : ℕ). greatest_by rules (replicate k f ++ ls)) e in
          omega arith;
    }

-- a number that is too great stays so
pub one_too_many : (rules : Rules) (f l : List ℕ) (n : ℕ) (goes_on : Bool)
    → goes_on ≡ (ltb 0 n && bytes_eq (key_by rules f) (key_by rules l)) → goes_on ≡ true
    → rules.shown ≡ Counted → 2 ^ 63 ≤ n + 1 → IsOneTooMany rules (replicate n f) l
one_too_many rules f l n goes_on is h counted large ls =
    let key = key_by rules in
    let us = tallies key ls in
    let before : greatest_by rules (replicate n f ++ l ∷ ls)
    ≡ greatest (numbers rules.shown (onto_tally key (tally f (n + 1)) us)) =
    greatest_is rules (replicate n f ++ l ∷ ls)
    ∙ ap (λ (ts : List Tally). greatest (numbers rules.shown ts))
    (more_tallies rules f l n ls (sym is ∙ h)) in
    let as_counted : greatest (numbers rules.shown (onto_tally key (tally f (n + 1)) us))
    ≡ greatest (numbers Counted (onto_tally key (tally f (n + 1)) us)) =
    ap (λ (s : RunsShown). greatest (numbers s (onto_tally key (tally f (n + 1)) us))) counted in
    let least : n + 1 ≤ greatest (numbers Counted (onto_tally key (tally f (n + 1)) us)) =
    at_least key f (n + 1) us in
    omega arith

-- whether a line goes on with a run, by keys
pub goes_on_by : (rules : Rules) (f l x y : List ℕ) (n : ℕ) (goes_on : Bool)
    → goes_on ≡ (ltb 0 n && bytes_eq x y) → x ≡ key_by rules f → y ≡ key_by rules l
    → goes_on ≡ (ltb 0 n && bytes_eq (key_by rules f) (key_by rules l))
goes_on_by rules f l x y n goes_on e k m = e
    ∙ (ap (λ (z : List ℕ). ltb 0 n && bytes_eq z y) k
    ∙ ap (λ (z : List ℕ). ltb 0 n && bytes_eq (key_by rules f) z) m)

-- if a line goes on with a run, that has a line
pub some_before : (n : ℕ) (x y : List ℕ) (goes_on : Bool) → goes_on ≡ (ltb 0 n && bytes_eq x y)
    → goes_on ≡ true → 1 ≤ n
some_before n x y goes_on is h = begun_some n (bytes_eq x y) (sym is ∙ h)

-- a line with the key of the first one goes on with the run
pub goes_on_alike : (rules : Rules) (f l : List ℕ) (n : ℕ) → 1 ≤ n → key_by rules l ≡ key_by rules f
    → true ≡ (ltb 0 n && bytes_eq (key_by rules f) (key_by rules l))
goes_on_alike rules f l n some e =
    sym (ap (λ (b : Bool). b && bytes_eq (key_by rules f) (key_by rules l))
    (lt-ltb 0 n (omega arith)) ∙ same_true (key_by rules f) (key_by rules l) (sym e))

-- if a line goes on with a run, it has the key of the first one
pub key_alike : (n : ℕ) (x y : List ℕ) (goes_on : Bool) → goes_on ≡ (ltb 0 n && bytes_eq x y)
    → goes_on ≡ true → y ≡ x
key_alike n x y goes_on is h =
    sym (same_is x y ((and_parts (ltb 0 n) (bytes_eq x y) (sym is ∙ h)).1))

pub one_more_some : (shown : RunsShown) (n more : ℕ) → more ≡ one_more shown n → 1 ≤ more
one_more_some shown n more e = omega (arith, e, some_more shown n)
