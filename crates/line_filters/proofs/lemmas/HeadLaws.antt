-- The machine of head goes on as the law says.
use Rattle.std.proofs.Common.{◌≡◌, ℕ, zero, suc, ◌+◌, ◌<◌, ◌≤◌, Bool, true, false, cond, List, []}
use Rattle.std.proofs.Common.{◌∷◌, ◌++◌, Option, Some, None, ap, ◌∙◌, sym, subst, refl, arith}
use Rattle.std.proofs.Common.{length, take, drop, get_or, append_assoc, length-append, eqb}
use Rattle.std.specs.Prelude.{◌||◌, ◌&&◌, ◌==◌, nat_le, not}
use Rattle.std.specs.List.{flat_map, filter_map, join_with_byte, zip}
use Rattle.std.proofs.lemmas.List.{drop_more, append-nil, get_or_read}
use Rattle.std.proofs.lemmas.Bool.{eq-eqb, ne_eqb, eqb-true, leb-false, and_parts, not-true}
use Rattle.std.proofs.lemmas.Bool.Decides.{nat_tests}
use Rattle.machine.specs.InOrder.{wanted_of}
use Rattle.machine.specs.Law.{IsNew, GoesOn, before, Feeds, Closes, with_closed}
use Rattle.machine.specs.Lines.{newline}
use Rattle.machine.specs.Pieces.{Queued, contents}
use Rattle.machine.specs.Whole.{inputs_from, inputs_of, present}
use Rattle.machine.specs.declared.protocol.Presence.{Presence}
use Rattle.machine.specs.declared.protocol.Presence.TheVariants.{Present, Missing}
use Rattle.machine.specs.declared.protocol.Want.TheVariants.{Take}
use Rattle.machine.proofs.InOrderLaws.{at_input, wanted_is}
use Rattle.machine.proofs.Inputs.{before_at, inputs_from-before}
use Rattle.line_filters.specs.declared.progress.Progress.{Progress}
use Rattle.machine.specs.FrontLines.{FrontLines}
use Rattle.commands.specs.Head.{head_of, header, under_header, head_whole}
use Rattle.line_filters.specs.HeadShows.{heading, named_from}
use Rattle.line_filters.specs.HeadLines.{Named, Begins, still_written, written_of, title}
use Rattle.machine.proofs.FrontLaws.{head_nil}

-- the inputs from one on
inputs_at : (at : ℕ) (inputs : List Presence) (x : Presence) → at < length inputs
    → get_or inputs at Present ≡ x → drop at inputs ≡ x ∷ drop (at + 1) inputs
inputs_at at inputs x low e = drop_more inputs at Present low
    ∙ ap (λ (y : Presence). y ∷ drop (at + 1) inputs) e

-- the inputs from one on that is present, if a piece comes first on it
named_before : (at : ℕ) (names : List (List ℕ)) (inputs : List Presence) (piece : List ℕ) (ys : ℕ
    → List ℕ) → at < length inputs → length names ≡ length inputs
    → get_or inputs at Present ≡ Present → named_from at names inputs (before at piece ys)
    ≡ (get_or names at [], Some (piece ++ ys at)) ∷ named_from (at + 1) names inputs ys
named_before at names inputs piece ys low same here =
    let xs = drop (at + 1) inputs in
    ap (λ (ns : List (List ℕ)). zip ns (inputs_from at (drop at inputs) (before at piece ys)))
    (drop_more names at [] (omega (arith, same)))
    ∙ (ap (λ (ps : List Presence). zip (get_or names at [] ∷ drop (at + 1) names)
    (inputs_from at ps (before at piece ys))) (inputs_at at inputs Present low here)
    ∙ (ap (λ (x : List ℕ). (get_or names at [], Some x) ∷ zip (drop (at + 1) names)
    (inputs_from (at + 1) xs (before at piece ys))) (before_at at piece ys)
    ∙ ap (λ (zs : List (Option (List ℕ))). (get_or names at [], Some (piece ++ ys at)) ∷ zip
    (drop (at + 1) names) zs) (inputs_from-before xs (at + 1) at piece ys (omega arith))))

named_here : (at : ℕ) (names : List (List ℕ)) (inputs : List Presence) (ys : ℕ → List ℕ)
    → at < length inputs → length names ≡ length inputs → get_or inputs at Present ≡ Present
    → named_from at names inputs ys ≡ (get_or names at [], Some (ys at)) ∷ named_from
    (at + 1) names inputs ys
named_here at names inputs ys low same here =
    ap (λ (ns : List (List ℕ)). zip ns (inputs_from at (drop at inputs) ys))
    (drop_more names at [] (omega (arith, same)))
    ∙ ap (λ (ps : List Presence). zip (get_or names at [] ∷ drop (at + 1) names)
    (inputs_from at ps ys)) (inputs_at at inputs Present low here)

-- the same of one that is missing
named_gone : (at : ℕ) (names : List (List ℕ)) (inputs : List Presence) (ys : ℕ → List ℕ)
    → at < length inputs → length names ≡ length inputs → get_or inputs at Present ≡ Missing
    → named_from at names inputs ys ≡ (get_or names at [], None) ∷ named_from
    (at + 1) names inputs ys
named_gone at names inputs ys low same gone =
    ap (λ (ns : List (List ℕ)). zip ns (inputs_from at (drop at inputs) ys))
    (drop_more names at [] (omega (arith, same)))
    ∙ ap (λ (ps : List Presence). zip (get_or names at [] ∷ drop (at + 1) names)
    (inputs_from at ps ys)) (inputs_at at inputs Missing low gone)

named_gone_before : (at : ℕ) (names : List (List ℕ)) (inputs : List Presence) (piece : List ℕ)
    (ys : ℕ → List ℕ) → at < length inputs → length names ≡ length inputs
    → get_or inputs at Present ≡ Missing → named_from at names inputs (before at piece ys)
    ≡ named_from at names inputs ys
named_gone_before at names inputs piece ys low same gone =
    named_gone at names inputs (before at piece ys) low same gone
    ∙ (ap (λ (zs : List (Option (List ℕ))). (get_or names at [], None) ∷ zip
    (drop (at + 1) names) zs) (inputs_from-before (drop (at + 1) inputs) (at + 1) at piece ys
    (omega arith))
    ∙ sym (named_gone at names inputs ys low same gone))

-- what is written of inputs before any of them has begun
pub fresh : (p : Progress) (ins : Named) → p.begun ≡ false
    → still_written p ins ≡ written_of p.count p.titled p.any ins
fresh p [] e = refl
fresh p ((name, None) ∷ ins) e = refl
fresh p ((name, Some x) ∷ ins) e =
    ap (λ (b : Bool). cond b (head_of p.left x ++ written_of p.count p.titled p.any ins)
    (title p.titled p.any name ++ (head_of p.count x ++ written_of p.count p.titled true ins)))
    e

-- and of one that has begun
going : (p : Progress) (name x : List ℕ) (ins : Named) → p.begun ≡ true
    → still_written p ((name, Some x) ∷ ins) ≡ head_of p.left x
    ++ written_of p.count p.titled p.any ins
going p name x ins e =
    ap (λ (b : Bool). cond b (head_of p.left x ++ written_of p.count p.titled p.any ins)
    (title p.titled p.any name ++ (head_of p.count x ++ written_of p.count p.titled true ins)))
    e

-- a piece of an input
piece_written : (p p1 : Progress) (name piece y : List ℕ) (ins : Named) (end left : ℕ)
    (out out1 : Queued) (b : Begins p p1 name out out1) → FrontLines piece p1.left end left
    → still_written p ((name, Some (piece ++ y)) ∷ ins)
    ≡ (b.made ++ take end piece) ++ (head_of left y ++ written_of p1.count p1.titled p1.any ins)
piece_written p p1 name piece y ins end left out out1 b f =
    let later = written_of p1.count p1.titled p1.any ins in
    b.splits (piece ++ y) ins
    ∙ (ap (λ (x : List ℕ). b.made ++ x)
    (going p1 name (piece ++ y) ins b.begun
    ∙ (ap (λ (x : List ℕ). x ++ later) (f.splits y)
    ∙ append_assoc (take end piece) (head_of left y) later))
    ∙ sym (append_assoc b.made (take end piece) (head_of left y ++ later)))

added_twice : (out out1 out2 : Queued) (a b : List ℕ) → contents out1 ≡ contents out ++ a
    → contents out2 ≡ contents out1 ++ b → contents out2 ≡ contents out ++ (a ++ b)
added_twice out out1 out2 a b e f = f
    ∙ (ap (λ (x : List ℕ). x ++ b) e ∙ append_assoc (contents out) a b)

-- a piece of a present input that has lines left
pub head_goes_on : (p p1 : Progress) (names : List (List ℕ)) (inputs : List Presence)
    (closed : List Bool) (i : ℕ) (piece : List ℕ) (end left : ℕ) (out out1 out2 : Queued)
    → wanted_of inputs (length closed) ≡ Take i → length names ≡ length inputs
    → get_or inputs (length closed) Present ≡ Present
    → Begins p p1 (get_or names (length closed) []) out out1 → FrontLines piece p1.left end left
    → contents out2 ≡ contents out1 ++ take end piece
    → Feeds i piece (heading p names inputs closed)
    (heading (record p1 { left = left }) names inputs closed) out out2
head_goes_on p p1 names inputs closed i piece end left out out1 out2 wants same here b f added =
    let at = length closed in
    let w = at_input inputs at i wants in
    record {
      made = b.made ++ take end piece;
      added = added_twice out out1 out2 b.made (take end piece) b.added added;
      closed = λ j. refl;
      splits = λ ys h.
          let later = named_from (at + 1) names inputs ys in
          let name = get_or names at [] in
          ap (λ (j : ℕ). still_written p (named_from at names inputs (before j piece ys))) w.same
          ∙ (ap (still_written p) (named_before at names inputs piece ys w.within same here)
          ∙ (piece_written p p1 name piece (ys at) later end left out out1 b f
          ∙ ap (λ (x : List ℕ). (b.made ++ take end piece) ++ x)
          (sym (going (record p1 { left = left }) name (ys at) later b.begun)
          ∙ ap (still_written (record p1 { left = left }))
          (sym (named_here at names inputs ys w.within same here)))));
      counts = λ ys h. omega arith;
    }

length_push : (closed : List Bool) (b : Bool) → length (closed ++ b ∷ []) ≡ length closed + 1
length_push closed b = length-append closed (b ∷ [])

-- the inputs after the one that is left
left_behind : (p : Progress) (names : List (List ℕ)) (inputs : List Presence) (closed : List Bool)
    (b : Bool) (ys : ℕ → List ℕ) → p.begun ≡ false
    → still_written p (named_from (length (closed ++ b ∷ [])) names inputs ys)
    ≡ written_of p.count p.titled p.any (named_from (length closed + 1) names inputs ys)
left_behind p names inputs closed b ys e =
    ap (λ (k : ℕ). still_written p (named_from k names inputs ys)) (length_push closed b)
    ∙ fresh p (named_from (length closed + 1) names inputs ys) e

push_false : (closed : List Bool) (j : ℕ)
    → get_or (closed ++ false ∷ []) j false ≡ get_or closed j false
push_false [] zero = refl
push_false [] (suc j) = refl
push_false (b ∷ closed) zero = refl
push_false (b ∷ closed) (suc j) = push_false closed j

suc_same : (j k : ℕ) → eqb j k ≡ eqb (suc j) (suc k)
suc_same j k = grind (arith, nat_tests)

push_true : (closed : List Bool) (j : ℕ) → get_or (closed ++ true ∷ []) j false
    ≡ ((j == length closed) || get_or closed j false)
push_true [] zero = refl
push_true [] (suc j) = ap (λ (b : Bool). b || false) (sym (ne_eqb (suc j) 0 (λ h. omega arith)))
push_true (b ∷ closed) zero = ap (λ (x : Bool). x || b)
    (sym (ne_eqb 0 (suc (length closed)) (λ h. omega arith)))
push_true (b ∷ closed) (suc j) = push_true closed j
    ∙ ap (λ (x : Bool). x || get_or closed j false) (suc_same j (length closed))

-- a piece of a present input that has no line left then
pub head_leaves : (p p1 : Progress) (names : List (List ℕ)) (inputs : List Presence)
    (closed : List Bool) (i : ℕ) (piece : List ℕ) (end left : ℕ) (out out1 out2 : Queued)
    → wanted_of inputs (length closed) ≡ Take i → length names ≡ length inputs
    → get_or inputs (length closed) Present ≡ Present
    → Begins p p1 (get_or names (length closed) []) out out1 → FrontLines piece p1.left end left
    → contents out2 ≡ contents out1 ++ take end piece → left ≡ 0
    → Feeds i piece (heading p names inputs closed)
    (heading (record p1 { begun = false; left = left }) names inputs (closed ++ false ∷ [])) out
    out2
head_leaves p p1 names inputs closed i piece end left out out1 out2 wants same here b f added none =
    let at = length closed in
    let w = at_input inputs at i wants in
    record {
      made = b.made ++ take end piece;
      added = added_twice out out1 out2 b.made (take end piece) b.added added;
      closed = λ j. push_false closed j;
      splits = λ ys h.
          let later = named_from (at + 1) names inputs ys in
          let name = get_or names at [] in
          ap (λ (j : ℕ). still_written p (named_from at names inputs (before j piece ys))) w.same
          ∙ (ap (still_written p) (named_before at names inputs piece ys w.within same here)
          ∙ (piece_written p p1 name piece (ys at) later end left out out1 b f
          ∙ ap (λ (x : List ℕ). (b.made ++ take end piece) ++ x)
          (ap (λ (k : ℕ). head_of k (ys at) ++ written_of p1.count p1.titled p1.any later) none
          ∙ sym
          (left_behind (record p1 { begun = false; left = left }) names inputs closed false ys
          refl))));
      counts = λ ys h. omega arith;
    }

-- a piece of a missing input
pub head_skips : (p : Progress) (names : List (List ℕ)) (inputs : List Presence)
    (closed : List Bool) (i : ℕ) (piece : List ℕ) (out : Queued)
    → wanted_of inputs (length closed) ≡ Take i → length names ≡ length inputs
    → get_or inputs (length closed) Present ≡ Missing
    → Feeds i piece (heading p names inputs closed) (heading p names inputs closed) out out
head_skips p names inputs closed i piece out wants same gone =
    let at = length closed in
    let w = at_input inputs at i wants in
    record {
      made = [];
      added = sym (append-nil (contents out));
      closed = λ j. refl;
      splits = λ ys h.
          ap (λ (j : ℕ). still_written p (named_from at names inputs (before j piece ys))) w.same
          ∙ ap (still_written p)
          (named_gone_before at names inputs piece ys w.within same gone);
      counts = λ ys h. omega arith;
    }

shut_is : (closed : List Bool) (i j : ℕ) → i ≡ length closed
    → get_or (closed ++ true ∷ []) j false ≡ with_closed i (λ k. get_or closed k false) j
shut_is closed i j e = push_true closed j
    ∙ ap (λ (k : ℕ). (j == k) || get_or closed j false) (sym e)

-- if the input that is wanted is shut, nothing comes on it
none_on : (closed : List Bool) (i : ℕ) (ys : ℕ → List ℕ) → i ≡ length closed
    → ((j : ℕ) → with_closed i (λ k. get_or closed k false) j ≡ true → ys j ≡ [])
    → ys (length closed) ≡ []
none_on closed i ys e h =
    h (length closed) (ap (λ (b : Bool). b || get_or closed (length closed) false)
    (eq-eqb (length closed) i (sym e)))

-- the end of a present input
pub head_ends : (p p1 : Progress) (names : List (List ℕ)) (inputs : List Presence)
    (closed : List Bool) (i : ℕ) (out out1 : Queued) → wanted_of inputs (length closed) ≡ Take i
    → length names ≡ length inputs → get_or inputs (length closed) Present ≡ Present
    → Begins p p1 (get_or names (length closed) []) out out1
    → Closes i (heading p names inputs closed)
    (heading (record p1 { begun = false }) names inputs (closed ++ true ∷ [])) out out1
head_ends p p1 names inputs closed i out out1 wants same here b =
    let at = length closed in
    let w = at_input inputs at i wants in
    record {
      made = b.made;
      added = b.added;
      closed = λ j. shut_is closed i j w.same;
      splits = λ ys h.
          let later = named_from (at + 1) names inputs ys in
          let name = get_or names at [] in
          ap (still_written p) (named_here at names inputs ys w.within same here)
          ∙ (ap (λ (y : List ℕ). still_written p ((name, Some y) ∷ later))
          (none_on closed i ys w.same h)
          ∙ (b.splits [] later
          ∙ ap (λ (x : List ℕ). b.made ++ x)
          (going p1 name [] later b.begun
          ∙ (ap (λ (x : List ℕ). x ++ written_of p1.count p1.titled p1.any later) (head_nil p1.left)
          ∙ sym (left_behind (record p1 { begun = false }) names inputs closed true ys refl)))));
      counts = λ ys h. omega arith;
    }

-- the end of a missing input
pub head_passes : (p : Progress) (names : List (List ℕ)) (inputs : List Presence)
    (closed : List Bool) (i : ℕ) (out : Queued) → wanted_of inputs (length closed) ≡ Take i
    → length names ≡ length inputs → get_or inputs (length closed) Present ≡ Missing
    → Closes i (heading p names inputs closed)
    (heading (record p { begun = false }) names inputs (closed ++ true ∷ [])) out out
head_passes p names inputs closed i out wants same gone =
    let at = length closed in
    let w = at_input inputs at i wants in
    record {
      made = [];
      added = sym (append-nil (contents out));
      closed = λ j. shut_is closed i j w.same;
      splits = λ ys h.
          ap (still_written p) (named_gone at names inputs ys w.within same gone)
          ∙ sym (left_behind (record p { begun = false }) names inputs closed true ys refl);
      counts = λ ys h. omega arith;
    }

join-cons : (d : ℕ) (p : List ℕ) (ps : List (List ℕ))
    → join_with_byte d (p ∷ ps) ≡ p ++ flat_map (λ (q : List ℕ). d ∷ q) ps
join-cons d p [] = sym (append-nil p)
join-cons d p (q ∷ qs) = ap (λ (x : List ℕ). p ++ d ∷ x) (join-cons d q qs)

-- later inputs have a newline before their headers
titled_later : (n : ℕ) (ins : Named) → written_of n true true ins
    ≡ flat_map (λ (t : List ℕ). newline ∷ t) (filter_map (under_header n) ins)
titled_later n [] = refl
titled_later n ((name, None) ∷ ins) = titled_later n ins
titled_later n ((name, Some x) ∷ ins) =
    ap (λ (y : List ℕ). newline ∷ (header name ++ (head_of n x ++ y))) (titled_later n ins)
    ∙ ap (λ (y : List ℕ). newline ∷ y)
    (sym (append_assoc (header name) (head_of n x)
    (flat_map (λ (t : List ℕ). newline ∷ t) (filter_map (under_header n) ins))))

titled_all : (n : ℕ) (ins : Named) → written_of n true false ins
    ≡ join_with_byte newline (filter_map (under_header n) ins)
titled_all n [] = refl
titled_all n ((name, None) ∷ ins) = titled_all n ins
titled_all n ((name, Some x) ∷ ins) =
    ap (λ (y : List ℕ). header name ++ (head_of n x ++ y)) (titled_later n ins)
    ∙ (sym (append_assoc (header name) (head_of n x)
    (flat_map (λ (t : List ℕ). newline ∷ t) (filter_map (under_header n) ins)))
    ∙ sym (join-cons newline (header name ++ head_of n x) (filter_map (under_header n) ins)))

untitled_all : (n : ℕ) (any : Bool) (names : List (List ℕ)) (ins : List (Option (List ℕ)))
    → length names ≡ length ins → written_of n false any (zip names ins)
    ≡ flat_map (head_of n) (present ins)
untitled_all n any [] [] e = refl
untitled_all n any [] (x ∷ ins) e = absurd (omega (arith, e))
untitled_all n any (name ∷ names) [] e = absurd (omega (arith, e))
untitled_all n any (name ∷ names) (None ∷ ins) e = untitled_all n any names ins (omega (arith, e))
untitled_all n any (name ∷ names) (Some x ∷ ins) e =
    ap (λ (y : List ℕ). head_of n x ++ y) (untitled_all n true names ins (omega (arith, e)))

length-inputs : (i : ℕ) (inputs : List Presence) (ys : ℕ → List ℕ)
    → length (inputs_from i inputs ys) ≡ length inputs
length-inputs i [] ys = refl
length-inputs i (Present ∷ inputs) ys = ap suc (length-inputs (i + 1) inputs ys)
length-inputs i (Missing ∷ inputs) ys = ap suc (length-inputs (i + 1) inputs ys)

-- what a new machine writes, by whether inputs have headers
new_written : (n : ℕ) (titled : Bool) (names : List (List ℕ)) (inputs : List Presence) (ys : ℕ
    → List ℕ) → length names ≡ length inputs → nat_le 2 (length names) ≡ titled
    → written_of n titled false (zip names (inputs_of inputs ys))
    ≡ (head_whole n names (inputs_of inputs ys)).out
new_written n true names inputs ys same e =
    titled_all n (zip names (inputs_of inputs ys))
    ∙ ap (λ (b : Bool). cond b
    (join_with_byte newline (filter_map (under_header n) (zip names (inputs_of inputs ys))))
    (flat_map (head_of n) (present (inputs_of inputs ys)))) (sym e)
new_written n false names inputs ys same e =
    untitled_all n false names (inputs_of inputs ys) (same ∙ sym (length-inputs 0 inputs ys))
    ∙ ap (λ (b : Bool). cond b
    (join_with_byte newline (filter_map (under_header n) (zip names (inputs_of inputs ys))))
    (flat_map (head_of n) (present (inputs_of inputs ys)))) (sym e)

-- the machine shows the same by what its lists hold
pub head_left_as : (p p1 p2 : Progress) (names : List (List ℕ)) (inputs : List Presence)
    (closed closed' : List Bool) (b : Bool) (i : ℕ) (came : (ℕ → List ℕ) → ℕ → List ℕ) (shut : ℕ
    → Bool) (out out' : Queued) → p2 ≡ p1 → closed' ≡ closed ++ b ∷ []
    → GoesOn (heading p names inputs closed)
    (heading p1 names inputs (closed ++ b ∷ [])) shut came out out'
    → GoesOn (heading p names inputs closed) (heading p2 names inputs closed') shut came out out'
head_left_as p p1 p2 names inputs closed closed' b i came shut out out' e f g =
    subst (λ (q : Progress). GoesOn (heading p names inputs closed)
    (heading q names inputs closed') shut came out out') (sym e)
    (subst (λ (cs : List Bool). GoesOn (heading p names inputs closed)
    (heading p1 names inputs cs) shut came out out') (sym f) g)

-- an input without headers is left at once if no line of it is written
none_written : (ins : List (Option (List ℕ))) → flat_map (head_of 0) (present ins) ≡ []
none_written [] = refl
none_written (None ∷ ins) = none_written ins
none_written (Some x ∷ ins) = none_written ins

past_one : (names : List (List ℕ)) (inputs : List Presence) (ys : ℕ → List ℕ) → length names ≤ 1
    → named_from 1 names inputs ys ≡ []
past_one [] inputs ys h = refl
past_one (name ∷ []) inputs ys h = refl
past_one (name ∷ other ∷ names) inputs ys h = absurd (omega (arith, h))

none_before : (j : ℕ) → get_or (false ∷ []) j false ≡ false
none_before zero = refl
none_before (suc j) = refl

new_by : (at_once : Bool) (n : ℕ) (titled : Bool) (names : List (List ℕ)) (inputs : List Presence)
    → length names ≡ length inputs → nat_le 2 (length names) ≡ titled
    → (not titled && (n == 0)) ≡ at_once
    → IsNew (heading (record { count = n; titled = titled; any = false; begun = false; left = n })
    names inputs (cond at_once (false ∷ []) [])) (head_whole n names) inputs
new_by true n titled names inputs same e once =
    let parts = and_parts (not titled) (n == 0) once in
    let plain : nat_le 2 (length names) ≡ false = e ∙ not-true titled (parts.0) in
    let none : n ≡ 0 = eqb-true n 0 (parts.1) in
    let few : length names < 2 = leb-false 2 (length names) plain in
    record {
      inputs = refl;
      unclosed = λ j. none_before j;
      rest = λ ys.
          ap (still_written
          (record { count = n; titled = titled; any = false; begun = false; left = n }))
          (past_one names inputs ys (omega arith))
          ∙ (sym (none_written (inputs_of inputs ys))
          ∙ (ap (λ (k : ℕ). flat_map (head_of k) (present (inputs_of inputs ys))) (sym none)
          ∙ ap (λ (b : Bool). cond b
          (join_with_byte newline
          (filter_map (under_header n) (zip names (inputs_of inputs ys))))
          (flat_map (head_of n) (present (inputs_of inputs ys)))) (sym plain)));
      most = λ ys. omega arith;
    }
new_by false n titled names inputs same e once =
    record {
      inputs = refl;
      unclosed = λ j. refl;
      rest = λ ys.
          fresh (record { count = n; titled = titled; any = false; begun = false; left = n })
          (zip names (inputs_of inputs ys)) refl ∙ new_written n titled names inputs ys same e;
      most = λ ys. omega arith;
    }

-- a new machine of head
pub head_new : (n : ℕ) (titled : Bool) (names held : List (List ℕ)) (inputs given : List Presence)
    (closed : List Bool) → held ≡ names → inputs ≡ given → length names ≡ length given
    → nat_le 2 (length names) ≡ titled → closed ≡ cond (not titled && (n == 0)) (false ∷ []) []
    → IsNew (heading (record { count = n; titled = titled; any = false; begun = false; left = n })
    held inputs closed) (head_whole n names) given
head_new n titled names held inputs given closed e f same t c =
    let p : Progress = record {
      count = n;
      titled = titled;
      any = false;
      begun = false;
      left =
          n;
    } in
    subst (λ (x : List (List ℕ)). IsNew (heading p x inputs closed) (head_whole n names) given)
    (sym e)
    (subst (λ (x : List Presence). IsNew (heading p names x closed) (head_whole n names) given)
    (sym f)
    (subst (λ (x : List Bool). IsNew (heading p names given x) (head_whole n names) given) (sym c)
    (new_by (not titled && (n == 0)) n titled names given same t refl)))

-- what indexing reads of the input that is wanted, and of its name
pub presence_is : (at at' i : ℕ) (inputs : List Presence) (v w : Presence)
    → wanted_of inputs at ≡ Take i → at' ≡ at → v ≡ get_or inputs at' v → v ≡ w
    → get_or inputs at Present ≡ w
presence_is at at' i inputs v w wants e read is =
    wanted_is inputs at i v w wants (read ∙ ap (λ (k : ℕ). get_or inputs k v) e) is

pub begins_named : (p p1 : Progress) (at at' i : ℕ) (names : List (List ℕ)) (inputs : List Presence)
    (v w : List ℕ) (out out1 : Queued) → wanted_of inputs at ≡ Take i → length names ≡ length inputs
    → at' ≡ at → v ≡ get_or names at' v → w ≡ v → Begins p p1 w out out1
    → Begins p p1 (get_or names at []) out out1
begins_named p p1 at at' i names inputs v w out out1 wants same e read is b =
    let low : at < length names = omega (arith, (at_input inputs at i wants).within, same) in
    subst (λ (x : List ℕ). Begins p p1 x out out1) (is
    ∙ get_or_read names at v low (read ∙ ap (λ (k : ℕ). get_or names k v) e) []) b
