-- The cell of an input: what came of it is written.
use Rattle.std.proofs.Common.{◌≡◌, ◌≢◌, ℕ, ◌+◌, ◌<◌, ◌≤◌, Bool, true, false, cond, eqb, List, []}
use Rattle.std.proofs.Common.{◌∷◌, ◌++◌, Option, length, set, drop, refl, ap, ◌∙◌, sym, arith}
use Rattle.std.proofs.Common.{append_assoc}
use Rattle.std.specs.Prelude.{◌||◌}
use Rattle.std.proofs.lemmas.Bool.{eq-eqb, eqb-true}
use Rattle.std.proofs.lemmas.List.{append-nil, get_or_past, get_or-set_same, get_or-set_other}
use Rattle.std.proofs.lemmas.List.{length-set}
use Rattle.std.proofs.lemmas.List.Sums.{sum_by-set}
use Rattle.machine.specs.Lines.{content, lines}
use Rattle.machine.proofs.MakesLaws.{fun_ext}
use Rattle.pair_filters.specs.Intakes.{Left, intake, over, lines_with, first, IsOver, SameInputs}
use Rattle.pair_filters.specs.Intakes.{PutsLine}
use Rattle.commands.specs.Paste.{Lines}
use Rattle.pair_filters.specs.TableRows.{delimiters_below, still_written, still_behind}
use Rattle.pair_filters.specs.inner.TableSteps.{Begins, PutsCell}
use Rattle.pair_filters.specs.declared.table.Place.{Place}
use Rattle.pair_filters.proofs.lemmas.IntakeLaws.{lines_some, nothing}
use Rattle.pair_filters.proofs.lemmas.StepLaws.{SameBut, cell_on, cell_over, row_begins, row_passes}

same_eqb : (i : ℕ) → eqb i i ≡ true
same_eqb i = eq-eqb i i refl

-- what an intake shows of its number, if one is replaced
seen_by : {X : Type 0} (f : Left → X) (b : Bool) (intakes : List Left) (i j : ℕ) (s : Left)
    → i < length intakes → eqb j i ≡ b → f s ≡ f (intake intakes i)
    → f (intake (set intakes i s) j) ≡ f (intake intakes j)
seen_by f true intakes i j s low e h =
    let is : j ≡ i = eqb-true j i e in
    ap (λ (k : ℕ). f (intake (set intakes i s) k)) is
    ∙ (ap f (get_or-set_same intakes i s over low)
    ∙ (h ∙ ap (λ (k : ℕ). f (intake intakes k)) (sym is)))
seen_by f false intakes i j s low e h =
    let apart : j ≢ i = λ k. let t : eqb j i ≡ true = ap (λ (x : ℕ). eqb x i) k ∙ same_eqb i in
    cc in
    ap f (get_or-set_other intakes i j s over apart)

pub seen_same : {X : Type 0} (f : Left → X) (intakes : List Left) (i j : ℕ) (s : Left)
    → i < length intakes → f s ≡ f (intake intakes i)
    → f (intake (set intakes i s) j) ≡ f (intake intakes j)
seen_same f intakes i j s low h = seen_by f (eqb j i) intakes i j s low refl h

pub inputs_same : (intakes : List Left) (i : ℕ) (s : Left) → i < length intakes
    → s.closed ≡ (intake intakes i).closed → SameInputs intakes (set intakes i s)
inputs_same intakes i s low h =
    record {
      count = length-set intakes i s;
      closed =
          λ j. seen_same (λ (t : Left). t.closed) intakes i j s low h;
    }

-- its lines are those of the inputs, but for the one
lines_but : (intakes : List Left) (i : ℕ) (s : Left) (ys : ℕ → List ℕ)
    → SameBut i (lines_with intakes ys) (lines_with (set intakes i s) ys)
lines_but intakes i s ys =
    record {
      others = λ j apart. ap (λ (t : Left). lines (t.left ++ ys j))
          (get_or-set_other intakes i j s over apart);
    }

pub lines_here : (intakes : List Left) (i : ℕ) (s : Left) (ys : ℕ → List ℕ) → i < length intakes
    → lines_with (set intakes i s) ys i ≡ lines (s.left ++ ys i)
lines_here intakes i s ys low = ap (λ (t : Left). lines (t.left ++ ys i))
    (get_or-set_same intakes i s over low)

pub lines_same : (intakes : List Left) (i : ℕ) (s : Left) (ys : ℕ → List ℕ) → i < length intakes
    → s.left ≡ (intake intakes i).left → lines_with (set intakes i s) ys ≡ lines_with intakes ys
lines_same intakes i s ys low h =
    fun_ext (λ j. ap (λ (x : List ℕ). lines (x ++ ys j))
    (seen_same (λ (t : Left). t.left) intakes i j s low h))

-- a cell in a row that was begun
begun_splits : (ended : Bool) (delimiters : List (Option ℕ)) (columns : List ℕ) (k i : ℕ)
    (left : List ℕ) (intakes : List Left) (s : Left) (ys : ℕ → List ℕ) (made made' : List ℕ)
    → i < length intakes → (p : PutsLine (intake intakes i) s ended made made')
    → IsOver (intake intakes i) (ys i)
    → made ++ still_written delimiters columns k true (i ∷ left) (lines_with intakes ys)
    ≡ made' ++ cond ended (still_behind delimiters columns k true left
    (lines_with (set intakes i s) ys))
    (still_written delimiters columns k true (i ∷ left) (lines_with (set intakes i s) ys))
begun_splits true delimiters columns k i left intakes s ys made made' low p over' =
    let after = still_behind delimiters columns k true left (lines_with (set intakes i s) ys) in
    ap (λ (x : List ℕ). made ++ x)
    (cell_over delimiters columns k i left p.part (lines_with intakes ys)
    (lines_with (set intakes i s) ys) (lines_but intakes i s ys) (p.cell refl (ys i) over')
    (p.later refl (ys i) over' ∙ sym (lines_here intakes i s ys low)))
    ∙ (sym (append_assoc made p.part after) ∙ ap (λ (x : List ℕ). x ++ after) (sym p.added))
begun_splits false delimiters columns k i left intakes s ys made made' low p over' =
    let after = still_written delimiters columns k true (i ∷ left)
    (lines_with (set intakes i s) ys) in
    let here = lines_here intakes i s ys low in
    ap (λ (x : List ℕ). made ++ x)
    (cell_on delimiters columns k i left p.part (lines_with intakes ys)
    (lines_with (set intakes i s) ys) (lines_but intakes i s ys) (p.cell_on refl (ys i)
    ∙ ap (λ (ls : List (List ℕ)). p.part ++ content (first ls)) (sym here))
    (p.later_on refl (ys i) ∙ ap (drop 1) (sym here)))
    ∙ (sym (append_assoc made p.part after) ∙ ap (λ (x : List ℕ). x ++ after) (sym p.added))

-- nothing of a cell, in a row before anything of it is written
none_splits : (ended : Bool) (delimiters : List (Option ℕ)) (columns : List ℕ) (k i : ℕ)
    (left : List ℕ) (intakes : List Left) (s : Left) (ys : ℕ → List ℕ) (made made' : List ℕ)
    → i < length intakes → (intake intakes i).left ≡ []
    → (p : PutsLine (intake intakes i) s ended made made') → IsOver (intake intakes i) (ys i)
    → still_written delimiters columns k false (i ∷ left) (lines_with intakes ys)
    ≡ cond ended (still_behind delimiters columns k false left (lines_with (set intakes i s) ys))
    (still_written delimiters columns k false (i ∷ left) (lines_with (set intakes i s) ys))
none_splits true delimiters columns k i left intakes s ys made made' low none p over' =
    let short : length s.left ≤ 0 = let long = ap length none in
    let fewer = p.fewer in
    omega (arith, long, fewer) in
    let same : s.left ≡ (intake intakes i).left = nothing s.left short ∙ sym none in
    let over'' : ys i ≡ [] = over' (p.over refl none) in
    let nil : lines_with intakes ys i ≡ [] = ap (λ (x : List ℕ). lines (x ++ ys i)) none
    ∙ ap lines over'' in
    row_passes delimiters columns k i left (lines_with intakes ys) nil
    ∙ ap (still_written delimiters columns (k + 1) false left)
    (sym (lines_same intakes i s ys low same))
none_splits false delimiters columns k i left intakes s ys made made' low none p over' =
    let short : length s.left ≤ 0 = let long = ap length none in
    let fewer = p.fewer in
    omega (arith, long, fewer) in
    let same : s.left ≡ (intake intakes i).left = nothing s.left short ∙ sym none in
    ap (still_written delimiters columns k false (i ∷ left))
    (sym (lines_same intakes i s ys low same))

cell_splits : (begun some ended : Bool) (delimiters : List (Option ℕ)) (columns : List ℕ) (k i : ℕ)
    (left : List ℕ) (intakes : List Left) (s : Left) (ys : ℕ → List ℕ) (made made1 made2 : List ℕ)
    → i < length intakes → made1 ≡ made ++ cond begun []
    (cond some (delimiters_below delimiters k) [])
    → (some ≡ true → (intake intakes i).left ≡ [] → ⊥)
    → (some ≡ false → (intake intakes i).left ≡ [])
    → (p : PutsLine (intake intakes i) s ended made1 made2) → IsOver (intake intakes i) (ys i)
    → made ++ still_written delimiters columns k begun (i ∷ left) (lines_with intakes ys)
    ≡ made2 ++ cond ended (still_behind delimiters columns k (begun || some) left
    (lines_with (set intakes i s) ys))
    (still_written delimiters columns k (begun || some) (i ∷ left)
    (lines_with (set intakes i s) ys))
cell_splits true some ended delimiters columns k i left intakes s ys made made1 made2 low e has none
    p over' =
    ap (λ (x : List ℕ). x ++ still_written delimiters columns k true (i ∷ left)
    (lines_with intakes ys)) (sym (e ∙ append-nil made))
    ∙ begun_splits ended delimiters columns k i left intakes s ys made1 made2 low p over'
cell_splits false true ended delimiters columns k i left intakes s ys made made1 made2 low e has
    none p over' =
    let below = delimiters_below delimiters k in
    let still' = still_written delimiters columns k true (i ∷ left) (lines_with intakes ys) in
    ap (λ (x : List ℕ). made ++ x)
    (row_begins delimiters columns k i left (lines_with intakes ys)
    (lines_some (intake intakes i).left (ys i) (has refl)))
    ∙ (sym (append_assoc made below still')
    ∙ (ap (λ (x : List ℕ). x ++ still') (sym e)
    ∙ begun_splits ended delimiters columns k i left intakes s ys made1 made2 low p over'))
cell_splits false false ended delimiters columns k i left intakes s ys made made1 made2 low e has
    none p over' =
    let all : made2 ≡ made = p.added
    ∙ (ap (λ (x : List ℕ). made1 ++ x) (p.none (none refl))
    ∙ (append-nil made1 ∙ (e ∙ append-nil made))) in
    ap (λ (x : List ℕ). made ++ x)
    (none_splits ended delimiters columns k i left intakes s ys made1 made2 low
    (none refl) p over')
    ∙ ap (λ (x : List ℕ). x ++ cond ended
    (still_behind delimiters columns k false left (lines_with (set intakes i s) ys))
    (still_written delimiters columns k false (i ∷ left) (lines_with (set intakes i s) ys)))
    (sym all)

begins_by : (some b : Bool) (left new : List ℕ) → b ≡ (false || some) → b ≡ true
    → (some ≡ true → left ≡ [] → ⊥) → ((left ≡ [] → ⊥) → length new < length left)
    → length new < length left
begins_by true b left new e h has less = less (has refl)
begins_by false b left new e h has less = absurd (cc)

-- what came of a cell was written
pub cell_put : (delimiters : List (Option ℕ)) (i : ℕ) (intakes : List Left) (s : Left)
    (place place' : Place) (some ended : Bool) (made made1 made2 : List ℕ) → i < length intakes
    → (b : Begins delimiters some place place' made made1)
    → (some ≡ true → (intake intakes i).left ≡ [] → ⊥)
    → (some ≡ false → (intake intakes i).left ≡ [])
    → (p : PutsLine (intake intakes i) s ended made1 made2)
    → PutsCell delimiters i intakes (set intakes i s) place place' ended made made2
cell_put delimiters i intakes s place place' some ended made made1 made2 low b has none p =
    let total = sum_by-set (λ (t : Left). length t.left) intakes i s over low in
    record {
      same = inputs_same intakes i s low p.closed;
      column = b.column;
      begun = λ h. b.begun ∙ ap (λ (x : Bool). x || some) h;
      fewer = let fewer = p.fewer in omega (arith, total, fewer);
      begins = λ h k.
          let less = begins_by some place'.begun (intake intakes i).left s.left (b.begun
          ∙ ap (λ (x : Bool). x || some) h) k has p.some in
          omega (arith, total, less);
      waits = λ h. seen_same (λ (t : Left). t.closed) intakes i i s low p.closed ∙ p.waits h;
      splits = λ columns left ys over'.
          let after = λ (c : ℕ) (g : Bool). cond ended
          (still_behind delimiters columns c g left (lines_with (set intakes i s) ys))
          (still_written delimiters columns c g (i ∷ left) (lines_with (set intakes i s) ys)) in
          cell_splits place.begun some ended delimiters columns place.column i left intakes s ys
          made made1 made2 low b.added has none p (over' i)
          ∙ (ap (λ (c : ℕ). made2 ++ after c (place.begun || some)) (sym b.column)
          ∙ ap (λ (g : Bool). made2 ++ after place'.column g) (sym b.begun));
      emptied = λ h. ap (λ (t : Left). t.left) (get_or-set_same intakes i s over low) ∙ p.emptied h;
    }

gone_by : (begun : Bool) (delimiters : List (Option ℕ)) (columns : List ℕ) (k i : ℕ) (left : List ℕ)
    (ls : Lines) → ls i ≡ [] → still_written delimiters columns k begun (i ∷ left) ls
    ≡ still_behind delimiters columns k begun left ls
gone_by true delimiters columns k i left ls nil =
    cell_over delimiters columns k i left [] ls ls (record { others = λ j _. refl })
    (ap (λ (x : List (List ℕ)). content (first x)) nil) (ap (drop 1) nil ∙ sym nil)
gone_by false delimiters columns k i left ls nil = row_passes delimiters columns k i left ls nil

-- the cell of an input that is not there
pub cell_gone : (delimiters : List (Option ℕ)) (i : ℕ) (intakes : List Left) (place : Place)
    (made : List ℕ) → length intakes ≤ i
    → PutsCell delimiters i intakes intakes place place true made made
cell_gone delimiters i intakes place made high =
    let gone : intake intakes i ≡ over = get_or_past intakes i over high in
    record {
      same = record { count = refl; closed = λ j. refl };
      column = refl;
      begun = λ h. h;
      fewer = omega arith;
      begins = λ h k. absurd (cc);
      waits = λ h. absurd (cc);
      splits = λ columns left ys over'.
          let nil : lines_with intakes ys i ≡ [] =
          ap (λ (t : Left). lines (t.left ++ ys i)) gone
          ∙ ap lines (over' i (ap (λ (t : Left). t.closed) gone)) in
          ap (λ (x : List ℕ). made ++ x)
          (gone_by place.begun delimiters columns place.column i left
          (lines_with intakes ys) nil);
      emptied = λ h. absurd (cc);
    }
