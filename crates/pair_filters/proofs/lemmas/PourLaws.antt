-- Rows that are written cell by cell, while what was made is handed on.
use Rattle.std.proofs.Common.{◌≡◌, ℕ, ◌+◌, ◌<◌, Bool, true, false, cond, List, [], ◌∷◌, ◌++◌, Option}
use Rattle.std.proofs.Common.{length, get_or, drop, refl, ap, ◌∙◌, sym, subst, append_assoc}
use Rattle.std.proofs.lemmas.List.{append-nil}
use Rattle.machine.specs.Pieces.{Queued, contents}
use Rattle.pair_filters.specs.Intakes.{Left, lines_with}
use Rattle.pair_filters.specs.TableRows.{still_written, still_behind}
use Rattle.pair_filters.specs.inner.TableSteps.{still_at, PutsCell, LeavesCell, HandsOn, PoursCells}
use Rattle.pair_filters.specs.inner.TableSteps.{WritesCells}
use Rattle.pair_filters.specs.declared.table.Place.{Place}
use Rattle.pair_filters.proofs.lemmas.RowLaws.{written_none, written_more, written_part}

-- equal ends of what was made stay equal after a front
after_front : (front a b x y : List ℕ) → a ++ x ≡ b ++ y → (front ++ a) ++ x ≡ (front ++ b) ++ y
after_front front a b x y e =
    append_assoc front a x
    ∙ (ap (λ (z : List ℕ). front ++ z) e ∙ sym (append_assoc front b y))

-- a cell that was put after a front
put_after : (front : List ℕ) (delimiters : List (Option ℕ)) (i : ℕ) (s s' : List Left)
    (p p' : Place) (ended : Bool) (m m' : List ℕ) → PutsCell delimiters i s s' p p' ended m m'
    → PutsCell delimiters i s s' p p' ended (front ++ m) (front ++ m')
put_after front delimiters i s s' p p' ended m m' q =
    record {
      same = q.same;
      column = q.column;
      begun = q.begun;
      fewer = q.fewer;
      begins = q.begins;
      waits = q.waits;
      splits = λ columns left ys over.
          after_front front m m'
          (still_written delimiters columns p.column p.begun (i ∷ left) (lines_with s ys))
          (cond ended
          (still_behind delimiters columns p'.column p'.begun left (lines_with s' ys))
          (still_written delimiters columns p'.column p'.begun (i ∷ left) (lines_with s' ys)))
          (q.splits columns left ys over);
      emptied = q.emptied;
    }

-- a cell that was left after a front
left_after : (front : List ℕ) (delimiters : List (Option ℕ)) (columns : List ℕ) (p p' : Place)
    (m m' : List ℕ) → LeavesCell delimiters columns p p' m m'
    → LeavesCell delimiters columns p p' (front ++ m) (front ++ m')
left_after front delimiters columns p p' m m' l =
    record {
      fewer = l.fewer;
      within = l.within;
      splits = λ ls.
          after_front front m m'
          (still_behind delimiters columns p.column p.begun (drop (p.column + 1) columns) ls)
          (still_at delimiters columns p' ls)
          (l.splits ls);
    }

-- nothing is handed on
pub hands_none : (made : List ℕ) (out : Queued) → HandsOn made made out out
hands_none made out =
    record { handed = []; added = sym (append-nil (contents out)); kept = refl }

-- all is handed on
pub hands_all : (made made' : List ℕ) (out out' : Queued)
    → contents out' ≡ contents out ++ made → made' ≡ [] → HandsOn made made' out out'
hands_all made made' out out' e none =
    record {
      handed = made;
      added = e;
      kept = sym (append-nil made) ∙ ap (λ (x : List ℕ). made ++ x) (sym none);
    }

pub poured_none : (delimiters : List (Option ℕ)) (columns : List ℕ) (s : List Left) (p : Place)
    (m : List ℕ) (o : Queued) → PoursCells delimiters columns s s p p m m o o
poured_none delimiters columns s p m o =
    record {
      handed = [];
      added = sym (append-nil (contents o));
      written = written_none delimiters columns s p m;
    }

-- a cell that has ended, and what was handed on after it
pub poured_more : (delimiters : List (Option ℕ)) (columns : List ℕ) (s s1 s2 : List Left)
    (p p1 p2 p3 : Place) (m m1 m2 m3 m4 : List ℕ) (o o1 o2 : Queued) (i : ℕ) (ended : Bool)
    → ended ≡ true → p1.column < length columns → i ≡ get_or columns p1.column 0
    → PoursCells delimiters columns s s1 p p1 m m1 o o1
    → PutsCell delimiters i s1 s2 p1 p2 ended m1 m2 → LeavesCell delimiters columns p2 p3 m2 m3
    → HandsOn m3 m4 o1 o2 → PoursCells delimiters columns s s2 p p3 m m4 o o2
poured_more delimiters columns s s1 s2 p p1 p2 p3 m m1 m2 m3 m4 o o1 o2 i ended over low e w q l
    h =
    let front = w.handed in
    record {
      handed = front ++ h.handed;
      added =
          h.added
          ∙ (ap (λ (x : List ℕ). x ++ h.handed) w.added
          ∙ append_assoc (contents o) front h.handed);
      written =
          subst (λ (x : List ℕ). WritesCells delimiters columns s s2 p p3 m x)
          (ap (λ (x : List ℕ). front ++ x) h.kept ∙ sym (append_assoc front h.handed m4))
          (written_more delimiters columns s s1 s2 p p1 p2 p3 m (front ++ m1) (front ++ m2)
          (front ++ m3) i ended over low e w.written
          (put_after front delimiters i s1 s2 p1 p2 ended m1 m2 q)
          (left_after front delimiters columns p2 p3 m2 m3 l));
    }

-- a cell that has not ended
pub poured_part : (delimiters : List (Option ℕ)) (columns : List ℕ) (s s1 s2 : List Left)
    (p p1 p2 : Place) (m m1 m2 : List ℕ) (o o1 : Queued) (i : ℕ) (ended : Bool) → ended ≡ false
    → p1.column < length columns → i ≡ get_or columns p1.column 0
    → PoursCells delimiters columns s s1 p p1 m m1 o o1
    → PutsCell delimiters i s1 s2 p1 p2 ended m1 m2
    → PoursCells delimiters columns s s2 p p2 m m2 o o1
poured_part delimiters columns s s1 s2 p p1 p2 m m1 m2 o o1 i ended more low e w q =
    let front = w.handed in
    record {
      handed = front;
      added = w.added;
      written =
          written_part delimiters columns s s1 s2 p p1 p2 m (front ++ m1) (front ++ m2) i ended
          more low e w.written (put_after front delimiters i s1 s2 p1 p2 ended m1 m2 q);
    }

-- what a call wrote and what was handed on after it, if it began with nothing made
pub poured_all : (handed made : List ℕ) (o o1 o2 : Queued)
    → contents o1 ≡ contents o ++ handed → contents o2 ≡ contents o1 ++ made
    → contents o2 ≡ contents o ++ (handed ++ made)
poured_all handed made o o1 o2 e e' =
    e' ∙ (ap (λ (x : List ℕ). x ++ made) e ∙ append_assoc (contents o) handed made)
