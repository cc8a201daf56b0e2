-- The loop that makes the nodes of a network, each with its ends.
use Rattle.std.proofs.Common.{◌≡◌, ℕ, suc, ◌+◌, ◌<◌, ◌≤◌, inl, inr, ⊎_elim, List, [], ◌∷◌, ◌++◌}
use Rattle.std.proofs.Common.{length, Option, Some, refl, ap, ◌∙◌, sym, subst, arith}
use Rattle.std.specs.Prelude.{unwrap_or, slice_get, slice_index}
use Rattle.std.specs.List.{AllByRecursion}
use Rattle.std.proofs.lemmas.Bool.{cases_eq, cases_lt}
use Rattle.std.proofs.lemmas.List.{length_push}
use Rattle.std.proofs.lemmas.Option.{unwrap_or-slice_get, slice_get_within, get_or_from_slice_get}
use Rattle.machine.specs.Law.{Shown}
use Rattle.bounded_pipe.specs.Ends.{Writing, Reading}
use Rattle.stages.specs.Inlets.{IsNewReading}
use Rattle.stages.specs.Outlets.{IsNewWriting}
use Rattle.graphs.specs.Graph.{IsAmong, AreAll}
use Rattle.network_nodes.specs.declared.actor.Actor.{Actor}
use Rattle.network_nodes.specs.declared.actor.Actor.TheVariants as an
use Rattle.network_nodes.specs.declared.making.NodeSpec.{NodeSpec}
use Rattle.network_nodes.specs.inner.Actors.{outs_of, ins_of, actor_at}
use Rattle.network_nodes.specs.inner.MadeNodes.{writer_in, reader_in, wires_at, IsOpened}
use Rattle.network_nodes.specs.inner.MadeNodes.{AreWaiting, AreEach, TakesEnds, LeavesOthers}
use Rattle.network_nodes.specs.inner.MadeNodes.{ArePlaces, IsSideReady, IsSideTaken, own_outs}
use Rattle.network_nodes.specs.inner.MadeNodes.{own_ins, outs_by, ins_by, outs_at, ins_at, IsReady}
use Rattle.network_nodes.specs.inner.MadeNodes.{IsMade, AreOwned, AreMade}
use Rattle.network_nodes.proofs.ShareLaws.{get_push_before, get_push_last, index_among}

pub all_by_among : (P : ℕ → Type 0) (xs : List ℕ) → ((p : ℕ) → IsAmong p xs → P p)
    → AllByRecursion P xs
all_by_among P [] h = tt
all_by_among P (x ∷ xs) h = (h x (inl refl), all_by_among P xs (λ p m. h p (inr m)))

index_by_get : (xs ys : List ℕ) (p : ℕ) → slice_get xs p ≡ slice_get ys p
    → slice_index xs p ≡ slice_index ys p
index_by_get xs ys p e = sym (unwrap_or-slice_get xs p 0)
    ∙ (ap (λ (o : Option ℕ). unwrap_or o 0) e ∙ unwrap_or-slice_get ys p 0)

some_same : {A : Type 0} (x y : A) → Some x ≡ Some y → x ≡ y
some_same x y e = ap (λ o. unwrap_or o x) e

module _ (owner : ℕ → ℕ) (count k : ℕ) (own : List ℕ)
    (all : AreAll (λ p. (p < count) × (owner p ≡ k)) own) where
  owned : (p : ℕ) → IsAmong p own → (p < count) × (owner p ≡ k)
  owned p m = (all.each p).1 m

  module _ {T : Type 0} (start now : List T) (left : (p : ℕ) → p < count → k ≤ owner p
      → slice_get now p ≡ slice_get start p) where
    pub left_own : (p : ℕ) → IsAmong p own → slice_get now p ≡ slice_get start p
    left_own p m = let h = owned p m in left p h.0 (let e = h.1 in omega (arith, e))

    pub left_more : (after : List T) → LeavesOthers own now after → (p : ℕ) → p < count
        → k + 1 ≤ owner p → slice_get after p ≡ slice_get start p
    left_more after leaves p lt le = leaves.others p (λ m. let h = owned p m in let e = h.1 in
        omega (arith, le, e)) ∙ left p lt (omega (arith, le))

  pub takes_start : {T : Type 0} (start now : List (Option T)) (left : (p : ℕ) → p < count
      → k ≤ owner p → slice_get now p ≡ slice_get start p) (ends : List T) → TakesEnds now own ends
      → TakesEnds start own ends
  takes_start start now left ends t = record {
    count = t.count;
    each = λ i lt. sym (left_own start now left (slice_index own i) (index_among own i lt))
        ∙ t.each i lt;
  }

  pub places_kept : (lists : ℕ → List ℕ) → lists k ≡ own → (now after : List ℕ)
      → ((p : ℕ) → p < count → owner p < k
      → slice_get (lists (owner p)) (slice_index now p) ≡ Some p) → ArePlaces own after
      → LeavesOthers own now after → (p : ℕ) → p < count → owner p < k + 1
      → slice_get (lists (owner p)) (slice_index after p) ≡ Some p
  places_kept lists is now after placed here leaves p lt le = ⊎_elim
      (λ e. ap (λ (xs : List ℕ). slice_get xs (slice_index after p)) (ap lists e ∙ is)
      ∙ here p ((all.each p).0 (lt, e)))
      (λ n. ap (λ (i : ℕ). slice_get (lists (owner p)) i)
      (index_by_get after now p (leaves.others p (λ m. n ((owned p m).1))))
      ∙ placed p lt
      (⊎_elim (λ l. l) (λ g. absurd (n (let s : owner p ≡ k = omega (arith, g, le) in s)))
      (cases_lt (owner p) k)))
      (cases_eq (owner p) k)

module _ {M : Type 0} (shows : M → Shown) (block : ℕ) (nodes : List (NodeSpec M))
    (pipes : List (ℕ × ℕ)) (wires : List (List ℕ)) (writers : List (Option Writing))
    (readers : List (Option Reading)) where
  -- the nodes below k are made, and all other ends still wait
  pub record UpTo (k : ℕ) (ws : List (Option Writing)) (rs : List (Option Reading))
      (branches inputs : List ℕ) (actors : List (Actor M)) : Type 0 where
    pub count : length actors ≡ k
    pub made : (j : ℕ) (node : NodeSpec M) → j < k → slice_get nodes j ≡ Some node
        → IsMade shows block node (own_outs node (wires_at wires j))
        (own_ins node (wires_at wires j)) writers readers (actor_at actors j)
    pub outs_left : (p : ℕ) → p < length pipes → k ≤ writer_in pipes p
        → slice_get ws p ≡ slice_get writers p
    pub ins_left : (p : ℕ) → p < length pipes → k ≤ reader_in pipes p
        → slice_get rs p ≡ slice_get readers p
    pub branches_count : length branches ≡ length pipes
    pub inputs_count : length inputs ≡ length pipes
    pub out_places : (p : ℕ) → p < length pipes → writer_in pipes p < k
        → slice_get (outs_at nodes wires (writer_in pipes p)) (slice_index branches p) ≡ Some p
    pub in_places : (p : ℕ) → p < length pipes → reader_in pipes p < k
        → slice_get (ins_at nodes wires (reader_in pipes p)) (slice_index inputs p) ≡ Some p

  -- what `make_node` asks
  pub record Asks (node : NodeSpec M) (wire : List ℕ) (ws : List (Option Writing))
      (rs : List (Option Reading)) (branches inputs : List ℕ) : Type 0 where
    pub ready : IsReady shows node (own_outs node wire) (own_ins node wire)
    pub outs : IsSideReady IsNewWriting (own_outs node wire) ws branches
    pub ins : IsSideReady IsNewReading (own_ins node wire) rs inputs

  module _ (own : AreOwned shows nodes pipes wires)
      (opened : AreWaiting (length pipes) writers readers) where
    pub up_to_none : (branches inputs : List ℕ) (actors : List (Actor M))
        → length branches ≡ length pipes → length inputs ≡ length pipes → actors ≡ []
        → UpTo 0 writers readers branches inputs actors
    up_to_none branches inputs actors b i e = record {
      count = ap length e;
      made = λ j node lt at. absurd (let f : ⊥ = omega (arith, lt) in f);
      outs_left = λ p lt le. refl;
      ins_left = λ p lt le. refl;
      branches_count = b;
      inputs_count = i;
      out_places = λ p lt le. absurd (let f : ⊥ = omega (arith, le) in f);
      in_places = λ p lt le. absurd (let f : ⊥ = omega (arith, le) in f);
    }

    module _ (k : ℕ) (ws : List (Option Writing)) (rs : List (Option Reading))
        (branches inputs : List ℕ) (actors : List (Actor M))
        (up : UpTo k ws rs branches inputs actors) (node : NodeSpec M)
        (at : slice_get nodes k ≡ Some node) where
      abbrev outs : List ℕ
      outs = own_outs node (wires_at wires k)

      abbrev ins : List ℕ
      ins = own_ins node (wires_at wires k)

      outs_all : AreAll (λ p. (p < length pipes) × (writer_in pipes p ≡ k)) outs
      outs_all = own.outs k node at

      ins_all : AreAll (λ p. (p < length pipes) × (reader_in pipes p ≡ k)) ins
      ins_all = own.ins k node at

      out_here : (p : ℕ) → IsAmong p outs → slice_get ws p ≡ slice_get writers p
      out_here = left_own (writer_in pipes) (length pipes) k outs outs_all writers ws up.outs_left

      in_here : (p : ℕ) → IsAmong p ins → slice_get rs p ≡ slice_get readers p
      in_here = left_own (reader_in pipes) (length pipes) k ins ins_all readers rs up.ins_left

      opened_at : (p : ℕ) → p < length pipes
          → IsOpened opened.capacity opened.limit writers readers p
      opened_at p lt = let o = opened.opened in o.each p lt

      asks_here : Asks node (wires_at wires k) ws rs branches inputs
      asks_here = record {
        ready = own.ready k node at;
        outs = record {
          there = λ p m. let o = opened_at p ((outs_all.each p).1 m).0 in
              (o.writing, out_here p m ∙ o.out);
          unused = λ p e m h.
              let o = opened_at p ((outs_all.each p).1 m).0 in
              let same : e ≡ o.writing = some_same e o.writing
              (some_same (Some e) (Some o.writing) (sym h ∙ (out_here p m ∙ o.out))) in
              subst IsNewWriting (sym same) (o.put, o.noted);
          once = outs_all.once;
          within = all_by_among (λ p. p < length branches) outs
              (λ p m. let l = ((outs_all.each p).1 m).0 in let e = up.branches_count in
              omega (arith, l, e));
        };
        ins = record {
          there = λ p m. let o = opened_at p ((ins_all.each p).1 m).0 in
              (o.reading, in_here p m ∙ o.in_);
          unused = λ p e m h.
              let o = opened_at p ((ins_all.each p).1 m).0 in
              let same : e ≡ o.reading = some_same e o.reading
              (some_same (Some e) (Some o.reading) (sym h ∙ (in_here p m ∙ o.in_))) in
              subst IsNewReading (sym same) (o.taken, o.hung_up);
          once = ins_all.once;
          within = all_by_among (λ p. p < length inputs) ins
              (λ p m. let l = ((ins_all.each p).1 m).0 in let e = up.inputs_count in
              omega (arith, l, e));
        };
      }

      pub asks_at : (wire : List ℕ) → wire ≡ wires_at wires k → Asks node wire ws rs branches inputs
      asks_at wire e = subst (λ (w : List ℕ). Asks node w ws rs branches inputs) (sym e) asks_here

      module _ (a : Actor M) (ws' : List (Option Writing)) (rs' : List (Option Reading))
          (branches' inputs' : List ℕ) (actors' : List (Actor M)) where
        -- what `make_node` leaves
        pub record Leaves (wire : List ℕ) : Type 0 where
          pub made : IsMade shows block node (own_outs node wire) (own_ins node wire) ws rs a
          pub outs : IsSideTaken (own_outs node wire) ws ws' branches branches'
          pub ins : IsSideTaken (own_ins node wire) rs rs' inputs inputs'

        module _ (leaves : Leaves (wires_at wires k)) (more : actors' ≡ actors ++ a ∷ []) where
          actor_last : actor_at actors' k ≡ a
          actor_last = get_or_from_slice_get actors' k a an.Lent
              (ap (λ (xs : List (Actor M)). slice_get xs k) more
              ∙ get_push_last actors a k up.count)

          actor_before : (j : ℕ) → j < k → actor_at actors' j ≡ actor_at actors j
          actor_before j lt = sym (unwrap_or-slice_get actors' j an.Lent)
              ∙ (ap (λ (o : Option (Actor M)). unwrap_or o an.Lent)
              (ap (λ (xs : List (Actor M)). slice_get xs j) more
              ∙ get_push_before actors a j (let e = up.count in omega (arith, lt, e)))
              ∙ unwrap_or-slice_get actors j an.Lent)

          made_here : IsMade shows block node outs ins writers readers a
          made_here = let m = leaves.made in record {
            outs_are = m.outs_are;
            ins_are = m.ins_are;
            writing = takes_start (writer_in pipes)
                (length pipes) k outs outs_all writers ws up.outs_left (outs_of a) m.writing;
            reading = takes_start (reader_in pipes)
                (length pipes) k ins ins_all readers rs up.ins_left (ins_of a) m.reading;
            new = m.new;
          }

          made_more : (j : ℕ) (n : NodeSpec M) → j < k + 1 → slice_get nodes j ≡ Some n
              → IsMade shows block n (own_outs n (wires_at wires j))
              (own_ins n (wires_at wires j)) writers readers (actor_at actors' j)
          made_more j n lt e = ⊎_elim
              (λ l. subst (λ (b : Actor M). IsMade shows block n (own_outs n (wires_at wires j))
              (own_ins n (wires_at wires j)) writers readers b) (sym (actor_before j l))
              (up.made j n l e))
              (λ g.
              let s : k ≡ j = omega (arith, g, lt) in
              let same : node ≡ n = some_same node n (sym at
              ∙ (ap (λ (i : ℕ). slice_get nodes i) s ∙ e)) in
              subst (λ (i : ℕ). IsMade shows block n (own_outs n (wires_at wires i))
              (own_ins n (wires_at wires i)) writers readers (actor_at actors' i)) s
              (subst (λ (b : Actor M). IsMade shows block n (own_outs n (wires_at wires k))
              (own_ins n (wires_at wires k)) writers readers b) (sym actor_last)
              (subst (λ (m : NodeSpec M). IsMade shows block m (own_outs m (wires_at wires k))
              (own_ins m (wires_at wires k)) writers readers a) same made_here)))
              (cases_lt j k)

          up_more : UpTo (k + 1) ws' rs' branches' inputs' actors'
          up_more = let o = leaves.outs in let i = leaves.ins in record {
            count = ap length more ∙ (length_push actors a ∙ ap (λ (n : ℕ). n + 1) up.count);
            made = made_more;
            outs_left = left_more (writer_in pipes)
                (length pipes) k outs outs_all writers ws up.outs_left ws' o.taken;
            ins_left = left_more (reader_in pipes)
                (length pipes) k ins ins_all readers rs up.ins_left rs' i.taken;
            branches_count = (let l = o.others in l.count) ∙ up.branches_count;
            inputs_count = (let l = i.others in l.count) ∙ up.inputs_count;
            out_places = places_kept (writer_in pipes) (length pipes) k outs outs_all
                (outs_at nodes wires)
                (ap (λ (n : Option (NodeSpec M)). outs_by n (wires_at wires k)) at) branches
                branches' up.out_places o.placed o.others;
            in_places = places_kept (reader_in pipes) (length pipes) k ins ins_all
                (ins_at nodes wires)
                (ap (λ (n : Option (NodeSpec M)). ins_by n (wires_at wires k)) at) inputs inputs'
                up.in_places i.placed i.others;
          }

        pub up_next : (wire : List ℕ) → wire ≡ wires_at wires k → Leaves wire
            → actors' ≡ actors ++ a ∷ [] → UpTo (k + 1) ws' rs' branches' inputs' actors'
        up_next wire e leaves more = up_more (subst Leaves e leaves) more

    pub all_made : (k : ℕ) (ws : List (Option Writing)) (rs : List (Option Reading))
        (branches inputs : List ℕ) (actors : List (Actor M)) → UpTo k ws rs branches inputs actors
        → k ≡ length nodes
        → AreMade shows block nodes pipes wires writers readers branches inputs actors
    all_made k ws rs branches inputs actors up e = record {
      count = up.count ∙ e;
      made = λ j node at. up.made j node (let l = slice_get_within nodes j node at in
          omega (arith, l, e)) at;
      out_places = λ p lt. up.out_places p lt (let w = (own.within p lt).0 in omega (arith, w, e));
      in_places = λ p lt. up.in_places p lt (let w = (own.within p lt).1 in omega (arith, w, e));
    }

-- ends that were taken are new
pub taken_new : {T : Type 0} (P : T → Type 0) (slots : List (Option T)) (pipes : List ℕ)
    (ends : List T) → AreEach P slots pipes → TakesEnds slots pipes ends → AllByRecursion P ends
taken_new {T} P slots pipes ends each t = go ends (λ i e at.
    let lt : i < length pipes = (let l = slice_get_within ends i e at in let c = t.count in
    omega (arith, l, c)) in
    each (slice_index pipes i) e (index_among pipes i lt) (t.each i lt ∙ ap Some at)) where
      go : (xs : List T) → ((i : ℕ) (e : T) → slice_get xs i ≡ Some e → P e) → AllByRecursion P xs
      go [] h = tt
      go (x ∷ xs) h = (h 0 x refl, go xs (λ i e at. h (suc i) e at))

-- ---- the nodes that were taken, and those that are left

pub split_here : {A : Type 0} (done rest rest' nodes : List A) (x : A) → done ++ rest ≡ nodes
    → rest ≡ x ∷ rest' → slice_get nodes (length done) ≡ Some x
split_here {A} done rest rest' nodes x e h =
    ap (λ (xs : List A). slice_get xs (length done)) (sym e)
    ∙ (ap (λ (ys : List A). slice_get (done ++ ys) (length done)) h ∙ go done) where
      go : (xs : List A) → slice_get (xs ++ x ∷ rest') (length xs) ≡ Some x
      go [] = refl
      go (y ∷ xs) = go xs

pub split_next : {A : Type 0} (done rest rest' nodes : List A) (x : A) → done ++ rest ≡ nodes
    → rest ≡ x ∷ rest' → (done ++ x ∷ []) ++ rest' ≡ nodes
split_next {A} done rest rest' nodes x e h = go done
    ∙ (sym (ap (λ (ys : List A). done ++ ys) h) ∙ e) where
      go : (xs : List A) → (xs ++ x ∷ []) ++ rest' ≡ xs ++ x ∷ rest'
      go [] = refl
      go (y ∷ xs) = ap (λ ys. y ∷ ys) (go xs)

pub split_end : {A : Type 0} (done rest nodes : List A) → done ++ rest ≡ nodes → length rest ≡ 0
    → length done ≡ length nodes
split_end {A} done [] nodes e h = ap length (sym (go done) ∙ e) where
  go : (xs : List A) → xs ++ [] ≡ xs
  go [] = refl
  go (x ∷ xs) = ap (λ ys. x ∷ ys) (go xs)
split_end done (x ∷ rest) nodes e h = absurd (let f : ⊥ = omega (arith, h) in f)
