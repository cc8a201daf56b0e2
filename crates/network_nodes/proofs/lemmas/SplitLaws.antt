-- Two nodes of one list, each in its half.
use Rattle.std.proofs.Common.{◌≡◌, ℕ, ◌+◌, ◌-◌, ◌<◌, List, ◌++◌, length, get_or, take, drop, set}
use Rattle.std.proofs.Common.{ap, ◌∙◌, sym, subst, subst₂, ap₂, arith, take-append-drop}
use Rattle.std.proofs.Common.{length-take-le, Result, Ok, Err, OnOk, get_or-take, get_or-drop}
use Rattle.std.proofs.lemmas.List.{get_or_default, set-get_or, set-append_left, set-append_right}
use Rattle.std.proofs.lemmas.List.{length-set}
use Rattle.bounded_pipe.specs.Ends.{Writing, Reading, AreEnds, Beside}
use Rattle.bounded_pipe.specs.Events.{StillWriting, StillReading}
use Rattle.network_nodes.specs.declared.actor.Actor.{Actor}
use Rattle.network_nodes.specs.declared.actor.Actor.TheVariants as an
use Rattle.network_nodes.specs.declared.actor.Link.{Link}
use Rattle.network_nodes.specs.inner.Actors.{outs_of, ins_of, out_end, in_end, actor_at, ChangesOut}
use Rattle.network_nodes.specs.inner.Actors.{ChangesIn, ChangesAt, HasEnds, GrowsAt}

module _ {A : Type 0} where
  pub at_before : (xs : List A) (r w : ℕ) (d e : A) → w < r → r < length xs
      → get_or (take r xs) w d ≡ get_or xs w e
  at_before xs r w d e lt within = get_or-take r xs w d lt ∙ get_or_default xs w d e (omega arith)

  pub at_after : (xs : List A) (r : ℕ) (d e : A) → r < length xs
      → get_or (drop r xs) 0 d ≡ get_or xs r e
  at_after xs r d e within =
      let n : r + 0 ≡ r = omega arith in
      get_or-drop r xs 0 d ∙ (ap (λ (k : ℕ). get_or xs k d) n ∙ get_or_default xs r d e within)

  pub set_both : (xs : List A) (r w : ℕ) (a b : A) → w < r → r < length xs
      → set (take r xs) w a ++ set (drop r xs) 0 b ≡ set (set xs w a) r b
  set_both xs r w a b lt within =
      let long : length (take r xs) ≡ r = length-take-le r xs (omega arith) in
      let n : r - r ≡ 0 = omega arith in
      let long' : length (set (take r xs) w a) ≡ r = length-set (take r xs) w a ∙ long in
      sym (ap (λ (ys : List A). set (set ys w a) r b) (sym (take-append-drop r xs))
      ∙ (ap (λ (ys : List A). set ys r b)
      (set-append_left (take r xs) (drop r xs) w a (omega (arith, long)))
      ∙ (set-append_right (set (take r xs) w a) (drop r xs) r r b long' (omega arith)
      ∙ ap (λ (k : ℕ). set (take r xs) w a ++ set (drop r xs) k b) n)))

module _ {M : Type 0} (nodes before after : List (Actor M)) (l : Link) (d e : Actor M)
    (front : before ≡ take l.reader nodes) (back : after ≡ drop l.reader nodes)
    (has : HasEnds l nodes) where
  writer_is : get_or before l.writer d ≡ actor_at nodes l.writer
  writer_is = ap (λ (xs : List (Actor M)). get_or xs l.writer d) front
      ∙ at_before nodes l.reader l.writer d an.Lent has.order has.within

  reader_is : get_or after 0 e ≡ actor_at nodes l.reader
  reader_is = ap (λ (xs : List (Actor M)). get_or xs 0 e) back
      ∙ at_after nodes l.reader e an.Lent has.within

  -- the two nodes of a pipe, each in its half, have the two ends of the pipe
  pub split_branch : l.branch < length (outs_of (get_or before l.writer d))
  split_branch = subst (λ (a : Actor M). l.branch < length (outs_of a)) (sym writer_is) has.branch

  pub split_input : l.input < length (ins_of (get_or after 0 e))
  split_input = subst (λ (a : Actor M). l.input < length (ins_of a)) (sym reader_is) has.input

  pub split_ends : AreEnds (out_end (get_or before l.writer d) l.branch)
      (in_end (get_or after 0 e) l.input)
  split_ends = subst₂ (λ (a b : Actor M). AreEnds (out_end a l.branch) (in_end b l.input))
      (sym writer_is) (sym reader_is) has.ends

  -- after a change of them the list is as after one of the pipe
  pub split_changes : (W : Writing → Writing → Type 0) (R : Reading → Reading
      → Type 0) (w r : Actor M) → ChangesOut W l.branch (get_or before l.writer d) w
      → ChangesIn R l.input (get_or after 0 e) r → Beside (out_end w l.branch) (in_end r l.input)
      → ChangesAt W R l nodes (set before l.writer w ++ set after 0 r)
  split_changes W R w r out in_ beside = record {
    writer = w;
    reader = r;
    out = subst (λ (a : Actor M). ChangesOut W l.branch a w) writer_is out;
    in_ = subst (λ (a : Actor M). ChangesIn R l.input a r) reader_is in_;
    only = ap₂ (λ (xs ys : List (Actor M)). set xs l.writer w ++ set ys 0 r) front back
        ∙ set_both nodes l.reader l.writer w r has.order has.within;
    beside = beside;
  }

  pub split_grows : {T E : Type 0} (capacity : ℕ) (result : Result T E) (w r : Actor M)
      → OnOk result (ChangesOut StillWriting l.branch (get_or before l.writer d) w)
      → OnOk result (ChangesIn StillReading l.input (get_or after 0 e) r)
      → OnOk result (Beside (out_end w l.branch) (in_end r l.input))
      → OnOk result ((out_end w l.branch).capacity ≡ capacity)
      → OnOk result (GrowsAt capacity l nodes (set before l.writer w ++ set after 0 r))
  unfolding split_changes
  split_grows capacity (Err x) w r out in_ beside room = tt
  split_grows capacity (Ok x) w r out in_ beside room =
      (split_changes StillWriting StillReading w r out in_ beside, room)

  -- two nodes that stayed what they were
  pub split_stays : (w r : Actor M) → w ≡ get_or before l.writer d → r ≡ get_or after 0 e
      → set before l.writer w ++ set after 0 r ≡ nodes
  split_stays w r same_w same_r =
      ap₂ (λ (xs ys : List (Actor M)). set xs l.writer w ++ set ys 0 r) front back
      ∙ (set_both nodes l.reader l.writer w r has.order has.within
      ∙ (ap (λ (a : Actor M). set (set nodes l.writer a) l.reader r) (same_w ∙ writer_is)
      ∙ (ap (λ (xs : List (Actor M)). set xs l.reader r) (set-get_or nodes l.writer an.Lent)
      ∙ (ap (λ (a : Actor M). set nodes l.reader a) (same_r ∙ reader_is)
      ∙ set-get_or nodes l.reader an.Lent))))
