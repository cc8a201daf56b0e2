-- The loops that make the pipes of a network and share out their ends.
use Rattle.std.proofs.Common.{◌≡◌, ◌≢◌, ℕ, zero, suc, ◌+◌, ◌<◌, ◌⊎◌, inl, inr, ⊎_elim, List, []}
use Rattle.std.proofs.Common.{◌∷◌, ◌++◌, length, get_or, set, take, map, Option, Some, None, false}
use Rattle.std.proofs.Common.{refl, ap, ◌∙◌, sym, subst, arith, get_or-set_other, get_or-set_same}
use Rattle.std.proofs.Common.{length-set}
use Rattle.std.specs.Prelude.{unwrap_or, slice_get, slice_index, Contains}
use Rattle.std.specs.Global.{Vec}
use Rattle.std.specs.List.{AllByRecursion}
use Rattle.std.proofs.lemmas.Bool.{cases_eq, cases_lt}
use Rattle.std.proofs.lemmas.List.{get_or_default, length_push, take_more}
use Rattle.std.proofs.lemmas.List.Elements.{filter_map-append}
use Rattle.std.proofs.lemmas.Option.{slice_get-get_or, slice_get_within}
use Rattle.bounded_pipe.specs.Ends.{Writing, Reading, Beside}
use Rattle.graphs.specs.Graph.{IsAmong, AreDistinct, present}
use Rattle.network_nodes.specs.inner.MadeNodes.{wires_at, AreOpened, AreThere, LeavesOthers}
use Rattle.network_nodes.specs.inner.MadeNodes.{ArePlaces}

-- ---- one element of a list

module _ {A : Type 0} where
  pub get_push_before : (xs : List A) (x : A) (i : ℕ) → i < length xs
      → slice_get (xs ++ x ∷ []) i ≡ slice_get xs i
  get_push_before [] x i lt = absurd (omega arith)
  get_push_before (y ∷ xs) x zero lt = refl
  get_push_before (y ∷ xs) x (suc i) lt =
      get_push_before xs x i (let l : i < length xs = omega arith in l)

  pub get_push_last : (xs : List A) (x : A) (i : ℕ) → length xs ≡ i
      → slice_get (xs ++ x ∷ []) i ≡ Some x
  get_push_last [] x zero e = refl
  get_push_last (y ∷ xs) x (suc i) e = get_push_last xs x i
      (let l : length xs ≡ i = omega (arith, e) in l)
  get_push_last _ x _ e = absurd (omega (arith, e))

  pub get_set_other : (xs : List A) (i j : ℕ) (x : A) → j ≢ i
      → slice_get (set xs i x) j ≡ slice_get xs j
  get_set_other (y ∷ xs) zero zero x n = absurd (n refl)
  get_set_other (y ∷ xs) (suc i) (suc j) x n = get_set_other xs i j x (λ e. n (ap suc e))
  get_set_other _ _ _ x n = refl

-- ---- members by their places

pub index_among : (pipes : List ℕ) (j : ℕ) → j < length pipes → IsAmong (get_or pipes j 0) pipes
index_among [] j lt = absurd (omega arith)
index_among (q ∷ pipes) zero lt = inl refl
index_among (q ∷ pipes) (suc j) lt =
    inr (index_among pipes j (let l : j < length pipes = omega arith in l))

pub among_index : (p : ℕ) (pipes : List ℕ) → IsAmong p pipes
    → (j : ℕ) × (j < length pipes) × (get_or pipes j 0 ≡ p)
among_index p [] m = absurd m
among_index p (q ∷ pipes) m = ⊎_elim
    (λ e. (0, (let l : 0 < suc (length pipes) = omega arith in l), sym e))
    (λ n. let h = among_index p pipes n in (
      suc h.0,
      (let o = h.1 in let l : suc h.0 < suc (length pipes) = omega (arith, o) in l),
      h.2,
    ))
    m

pub distinct_index : (pipes : List ℕ) → AreDistinct pipes → (j i : ℕ) → j < i → i < length pipes
    → get_or pipes j 0 ≡ get_or pipes i 0 → ⊥
distinct_index (q ∷ pipes) d zero (suc i) lt within e =
    d.0 (subst (λ (p : ℕ). IsAmong p pipes) (sym e)
    (index_among pipes i (let l : i < length pipes = omega arith in l)))
distinct_index (q ∷ pipes) d (suc j) (suc i) lt within e =
    distinct_index pipes d.1 j i (let l : j < i = omega arith in
    l) (let l : i < length pipes = omega arith in l) e
distinct_index _ d j _ lt within e = absurd (omega arith)

pub all_at : (P : ℕ → Type 0) (xs : List ℕ) → AllByRecursion P xs → (i : ℕ) → i < length xs
    → P (get_or xs i 0)
all_at P [] a i lt = absurd (omega arith)
all_at P (x ∷ xs) a zero lt = a.0
all_at P (x ∷ xs) a (suc i) lt = all_at P xs a.1 i (let l : i < length xs = omega arith in l)

-- ---- the places of pipes

module _ (pipes start now : List ℕ) (i : ℕ) (lt : i < length pipes)
    (within : AllByRecursion (λ p. p < length start) pipes)
    (count : length now ≡ length start) where
  abbrev here : ℕ
  here = get_or pipes i 0

  here_within : here < length now
  here_within = let h = all_at (λ p. p < length start) pipes within i lt in omega (arith, h, count)

  module _ (places : (j : ℕ) → j < i → slice_get pipes (slice_index now (slice_index pipes j))
      ≡ Some (slice_index pipes j)) (others : (p : ℕ) → (IsAmong p pipes → ⊥)
      → slice_get now p ≡ slice_get start p) where
    noted : (j : ℕ) → j < i + 1
        → slice_get pipes (slice_index (set now here i) (slice_index pipes j))
        ≡ Some (slice_index pipes j)
    noted j lj = ⊎_elim
        (λ e. subst (λ (p : ℕ). slice_get pipes (get_or (set now here i) p 0) ≡ Some p) (sym e)
        (ap (λ (k : ℕ). slice_get pipes k) (get_or-set_same now here i 0 here_within)
        ∙ slice_get-get_or pipes i 0 lt))
        (λ n. let less : j < i =
        ⊎_elim (λ l. l)
        (λ g. absurd (n (ap (λ (k : ℕ). get_or pipes k 0) (let s : j ≡ i = omega arith in s))))
        (cases_lt j i) in
        ap (λ (k : ℕ). slice_get pipes k) (get_or-set_other now here (get_or pipes j 0) i 0 n)
        ∙ places j less)
        (cases_eq (get_or pipes j 0) here)

    pub places_more : record {
      count : length (set now here i) ≡ length start;
      places : (j : ℕ)
          → j < i + 1 → slice_get pipes (slice_index (set now here i) (slice_index pipes j))
          ≡ Some (slice_index pipes j);
      others : (p : ℕ) → (IsAmong p pipes → ⊥)
          → slice_get (set now here i) p ≡ slice_get start p;
    }
    places_more = record {
      count = length-set now here i ∙ count;
      places = noted;
      others = λ p n. get_set_other now here p i
          (λ e. n (subst (λ (q : ℕ). IsAmong q pipes) (sym e) (index_among pipes i lt)))
          ∙ others p n;
    }

pub places_all : (pipes now : List ℕ) (i : ℕ) → length pipes ≡ i
    → ((j : ℕ) → j < i → slice_get pipes (slice_index now (slice_index pipes j))
    ≡ Some (slice_index pipes j)) → ArePlaces pipes now
places_all pipes now i e places = λ p m.
    let h = among_index p pipes m in
    subst (λ (q : ℕ). slice_get pipes (slice_index now q) ≡ Some q) h.2
    (places h.0 (let o = h.1 in omega (arith, o, e)))

-- ---- new pipes

pub opened_more : (count capacity limit : ℕ) (writers writers' : List (Option Writing))
    (readers readers' : List (Option Reading)) (w : Writing) (r : Reading)
    → AreOpened count capacity limit writers readers → writers' ≡ writers ++ Some w ∷ []
    → readers' ≡ readers ++ Some r ∷ [] → Beside w r → (w.put ≡ []) × (w.noted ≡ false)
    → w.capacity ≡ capacity → w.limit ≡ limit → (r.taken ≡ []) × (r.hung_up ≡ false)
    → AreOpened (count + 1) capacity limit writers' readers'
opened_more count capacity limit writers writers' readers readers' w r h ew er beside writing
    capacity_is limit_is reading = record {
      outs = ap length ew ∙ (length_push writers (Some w) ∙ ap (λ (k : ℕ). k + 1) h.outs);
      ins = ap length er ∙ (length_push readers (Some r) ∙ ap (λ (k : ℕ). k + 1) h.ins);
      each = λ p lt. ⊎_elim
          (λ l. let o = h.each p l in
          let lw : p < length writers = (let e = h.outs in omega (arith, e)) in
          let lr : p < length readers = (let e = h.ins in omega (arith, e)) in
          record {
            writing = o.writing;
            reading = o.reading;
            out = ap (λ (xs : List (Option Writing)). slice_get xs p) ew
                ∙ (get_push_before writers (Some w) p lw ∙ o.out);
            in_ = ap (λ (xs : List (Option Reading)). slice_get xs p) er
                ∙ (get_push_before readers (Some r) p lr ∙ o.in_);
            beside = o.beside;
            put = o.put;
            noted = o.noted;
            capacity_is = o.capacity_is;
            limit_is = o.limit_is;
            taken = o.taken;
            hung_up = o.hung_up;
          })
          (λ g.
          let lw : length writers ≡ p = (let e = h.outs in omega (arith, e)) in
          let lr : length readers ≡ p = (let e = h.ins in omega (arith, e)) in
          record {
            writing = w;
            reading = r;
            out = ap (λ (xs : List (Option Writing)). slice_get xs p) ew
                ∙ get_push_last writers (Some w) p lw;
            in_ = ap (λ (xs : List (Option Reading)). slice_get xs p) er
                ∙ get_push_last readers (Some r) p lr;
            beside = beside;
            put = writing.0;
            noted = writing.1;
            capacity_is = capacity_is;
            limit_is = limit_is;
            taken = reading.0;
            hung_up = reading.1;
          })
          (cases_lt p count);
    }

-- ---- ends that are taken

some_not_none : {T : Type 0} (e : T) → Some e ≡ None → ⊥
some_not_none e h = absurd (cc h)

module _ {T : Type 0} (start now : List (Option T)) (pipes : List ℕ) (i : ℕ) (lt : i < length pipes)
    (there : AreThere start pipes) (once : AreDistinct pipes) (count : length now ≡ length start)
    (others : (p : ℕ) → ((j : ℕ) → j < i → slice_index pipes j ≡ p → ⊥)
    → slice_get now p ≡ slice_get start p) where
  abbrev next : ℕ
  next = get_or pipes i 0

  next_same : slice_get now next ≡ slice_get start next
  next_same = others next (λ j l e. distinct_index pipes once j i l lt e)

  pub next_within : next < length now
  next_within =
      let h = there next (index_among pipes i lt) in
      slice_get_within now next (Some h.0) (next_same ∙ h.1)

  -- what is there is an end
  pub next_is : (x : Option T) → x ≡ get_or now next None
      → (e : T) × (x ≡ Some e) × (slice_get start next ≡ Some (Some e))
  next_is x is = let h = there next (index_among pipes i lt) in (
    h.0,
    is ∙ ap (λ (o : Option (Option T)). unwrap_or o x)
        (sym (slice_get-get_or now next None next_within) ∙ (next_same ∙ h.1)),
    h.1,
  )

  others_more : (y : Option T) (p : ℕ) → ((j : ℕ) → j < i + 1 → slice_index pipes j ≡ p → ⊥)
      → slice_get (set now next y) p ≡ slice_get start p
  others_more y p n = get_set_other now next p y (λ e. n i (omega arith) (sym e))
      ∙ others p (λ j l e. n j (omega arith) e)

  pub leaves_on_error : (y : Option T) (after : List (Option T)) → after ≡ set now next y
      → LeavesOthers pipes start after
  leaves_on_error y after e = subst (λ (xs : List (Option T)). LeavesOthers pipes start xs) (sym e)
      (record {
        count = length-set now next y ∙ count;
        others =
            λ p n. others_more y p
            (λ j l h. n (subst (λ (q : ℕ). IsAmong q pipes) h (index_among pipes j (omega arith))));
      })

  taken_set : (x y : Option T) (e : T) (ends ends' : List T) → x ≡ get_or now next None → x ≡ Some e
      → length ends ≡ i
      → ((j : ℕ) → j < i → slice_get start (slice_index pipes j) ≡ Some (slice_get ends j))
      → ends' ≡ ends ++ e ∷ []
      → record {
        count : length (set now next y) ≡ length start;
        long : length ends'
            ≡ i + 1;
        each : (j : ℕ) → j < i + 1
            → slice_get start (slice_index pipes j) ≡ Some (slice_get ends' j);
        others : (p : ℕ)
            → ((j : ℕ) → j < i + 1 → slice_index pipes j ≡ p → ⊥)
            → slice_get (set now next y) p ≡ slice_get start p;
      }
  taken_set x y e ends ends' is some long each more = record {
    count = length-set now next y ∙ count;
    long = ap length more ∙ (length_push ends e ∙ ap (λ (k : ℕ). k + 1) long);
    each = λ j lj. ⊎_elim
        (λ l. each j l
        ∙ ap Some (sym (ap (λ (xs : List T). slice_get xs j) more
        ∙ get_push_before ends e j (omega (arith, l, long)))))
        (λ g.
        let s : j ≡ i = omega arith in
        let h = next_is x is in
        ap (λ (k : ℕ). slice_get start (slice_index pipes k)) s
        ∙ (h.2
        ∙ ap Some (sym h.1
        ∙ (some ∙ sym (ap (λ (xs : List T). slice_get xs j) more
        ∙ get_push_last ends e j (long ∙ sym s))))))
        (cases_lt j i);
    others = others_more y;
  }

  pub taken_more : (x y : Option T) (e : T) (ends ends' : List T) (after : List (Option T))
      → after ≡ set now next y → x ≡ get_or now next None → x ≡ Some e → length ends ≡ i
      → ((j : ℕ) → j < i → slice_get start (slice_index pipes j) ≡ Some (slice_get ends j))
      → ends' ≡ ends ++ e ∷ []
      → record {
        count : length after ≡ length start;
        long : length ends' ≡ i + 1;
        each : (j : ℕ)
            → j < i + 1 → slice_get start (slice_index pipes j)
            ≡ Some (slice_get ends' j);
        others : (p : ℕ)
            → ((j : ℕ) → j < i + 1 → slice_index pipes j ≡ p → ⊥)
            → slice_get after p ≡ slice_get start p;
      }
  taken_more x y e ends ends' after rest is some long each more =
      let h = taken_set x y e ends ends' is some long each more in
      record {
        count = ap length rest ∙ h.count;
        long = h.long;
        each = h.each;
        others = λ p n. ap (λ (xs : List (Option T)). slice_get xs p) rest ∙ h.others p n;
      }

  pub never_none : (x : Option T) → x ≡ get_or now next None → x ≡ None → ⊥
  never_none x is none = let h = next_is x is in some_not_none h.0 (sym h.1 ∙ none)

pub leaves_all : {T : Type 0} (start now : List T) (pipes : List ℕ) (i : ℕ) → i ≡ length pipes
    → length now ≡ length start → ((p : ℕ) → ((j : ℕ) → j < i → slice_index pipes j ≡ p → ⊥)
    → slice_get now p ≡ slice_get start p) → LeavesOthers pipes start now
leaves_all start now pipes i e count others =
    record {
      count = count;
      others =
          λ p n. others p
          (λ j l h. n (subst (λ (q : ℕ). IsAmong q pipes) h (index_among pipes j (omega (arith, e)))));
    }

-- ---- the branches that somebody reads

pub present_more : (branches : List (Option ℕ)) (i : ℕ) (b : Option ℕ) → i < length branches
    → present (take (i + 1) branches) ≡ present (take i branches) ++ present
    (get_or branches i b ∷ [])
present_more branches i b lt = ap present (take_more branches i b lt)
    ∙ filter_map-append (λ x. x) (take i branches) (get_or branches i b ∷ [])

append_nothing : {A : Type 0} (xs : List A) → xs ++ [] ≡ xs
append_nothing [] = refl
append_nothing (x ∷ xs) = ap (λ ys. x ∷ ys) (append_nothing xs)

pub present_some : (branches : List (Option ℕ)) (i p : ℕ) (pipes pipes' : List ℕ)
    → i < length branches → get_or branches i None ≡ Some p → pipes ≡ present (take i branches)
    → pipes' ≡ pipes ++ p ∷ [] → pipes' ≡ present (take (i + 1) branches)
present_some branches i p pipes pipes' lt is e e' = e'
    ∙ (ap (λ (xs : List ℕ). xs ++ p ∷ []) e
    ∙ sym (present_more branches i None lt
    ∙ ap (λ (b : Option ℕ). present (take i branches) ++ present (b ∷ [])) is))

pub present_none : (branches : List (Option ℕ)) (i : ℕ) (pipes pipes' : List ℕ)
    → i < length branches → get_or branches i None ≡ None → pipes ≡ present (take i branches)
    → pipes' ≡ pipes → pipes' ≡ present (take (i + 1) branches)
present_none branches i pipes pipes' lt is e e' = e'
    ∙ (e ∙ sym (present_more branches i None lt
    ∙ (ap (λ (b : Option ℕ). present (take i branches) ++ present (b ∷ [])) is
    ∙ append_nothing (present (take i branches)))))

-- ---- the pipes of each node

get_push_cases : {A : Type 0} (xs : List A) (y : A) (i : ℕ) (x : A)
    → slice_get (xs ++ y ∷ []) i ≡ Some x → (slice_get xs i ≡ Some x) ⊎ (x ≡ y)
get_push_cases [] y zero x e = inr (sym (cc e))
get_push_cases [] y (suc i) x e = absurd (grind (arith, e))
get_push_cases (z ∷ xs) y zero x e = inl e
get_push_cases (z ∷ xs) y (suc i) x e = get_push_cases xs y i x e

contains_push : (xs : List ℕ) (y x : ℕ) → Contains xs x → Contains (xs ++ y ∷ []) x
contains_push xs y x h =
    let l : h.0 < length xs = h.1 in
    let g : slice_get (xs ++ y ∷ []) h.0 ≡ Some x = get_push_before xs y h.0 l
    ∙ (slice_get-get_or xs h.0 x l ∙ ap Some h.2) in (
      h.0,
      slice_get_within (xs ++ y ∷ []) h.0 x g,
      ap (λ (o : Option ℕ). unwrap_or o x)
          (sym (slice_get-get_or (xs ++ y ∷ []) h.0 x (slice_get_within (xs ++ y ∷ []) h.0 x g)) ∙ g),
    )

contains_last : (xs : List ℕ) (y : ℕ) → Contains (xs ++ y ∷ []) y
contains_last xs y =
    let g : slice_get (xs ++ y ∷ []) (length xs) ≡ Some y = get_push_last xs y (length xs) refl in
    let l : length xs < length (xs ++ y ∷ []) = slice_get_within (xs ++ y ∷ []) (length xs) y g in (
      length xs,
      l,
      ap (λ (o : Option ℕ). unwrap_or o y)
          (sym (slice_get-get_or (xs ++ y ∷ []) (length xs) y l) ∙ g),
    )

module _ (wires : List (List ℕ)) (a pipe : ℕ) (lt : a < length wires) where
  abbrev added : List (List ℕ)
  added = set wires a (wires_at wires a ++ pipe ∷ [])

  added_here : wires_at added a ≡ wires_at wires a ++ pipe ∷ []
  added_here = get_or-set_same wires a (wires_at wires a ++ pipe ∷ []) [] lt

  added_other : (k : ℕ) → k ≢ a → wires_at added k ≡ wires_at wires k
  added_other k n = get_or-set_other wires a k (wires_at wires a ++ pipe ∷ []) [] n

  has_new : Contains (wires_at added a) pipe
  has_new = subst (λ (xs : List ℕ). Contains xs pipe) (sym added_here)
      (contains_last (wires_at wires a) pipe)

  has_still : (k q : ℕ) → Contains (wires_at wires k) q → Contains (wires_at added k) q
  has_still k q h = ⊎_elim
      (λ e. subst (λ (m : ℕ). Contains (wires_at added m) q) (sym e)
      (subst (λ (xs : List ℕ). Contains xs q) (sym added_here)
      (contains_push (wires_at wires a) pipe q
      (subst (λ (m : ℕ). Contains (wires_at wires m) q) e h))))
      (λ n. subst (λ (xs : List ℕ). Contains xs q) (sym (added_other k n)) h)
      (cases_eq k a)

  has_only : (k i q : ℕ) → slice_get (wires_at added k) i ≡ Some q
      → (slice_get (wires_at wires k) i ≡ Some q) ⊎ ((q ≡ pipe) × (a ≡ k))
  has_only k i q e = ⊎_elim
      (λ s. ⊎_elim
      (λ h. inl (ap (λ (m : ℕ). slice_get (wires_at wires m) i) s ∙ h))
      (λ h. inr (h, sym s))
      (get_push_cases (wires_at wires a) pipe i q
      (sym (ap (λ (xs : List ℕ). slice_get xs i) added_here)
      ∙ (sym (ap (λ (m : ℕ). slice_get (wires_at added m) i) s) ∙ e))))
      (λ n. inl (sym (ap (λ (xs : List ℕ). slice_get xs i) (added_other k n)) ∙ e))
      (cases_eq k a)

-- both nodes of the pipe i have it now
module _ (pipes : List (ℕ × ℕ)) (i : ℕ) (wires next last : List (List ℕ)) (d : ℕ × ℕ)
    (lt : i < length pipes) where
  abbrev first_node : ℕ
  first_node = (get_or pipes i d).0

  abbrev second_node : ℕ
  second_node = (get_or pipes i d).1

  module _ (within : (first_node < length wires) × (second_node < length wires))
      (one : next ≡ set wires first_node (wires_at wires first_node ++ i ∷ []))
      (two : last ≡ set next second_node (wires_at next second_node ++ i ∷ [])) (all : (p : ℕ)
      → p < i → Contains (wires_at wires (get_or pipes p (0, 0)).0) p
      × Contains (wires_at wires (get_or pipes p (0, 0)).1) p) (only : (k j p : ℕ)
      → slice_get (wires_at wires k) j ≡ Some p → (p < i)
      × (((get_or pipes p (0, 0)).0 ≡ k) ⊎ ((get_or pipes p (0, 0)).1 ≡ k))) where
    abbrev one' : List (List ℕ)
    one' = set wires first_node (wires_at wires first_node ++ i ∷ [])

    abbrev two' : List (List ℕ)
    two' = set one' second_node (wires_at one' second_node ++ i ∷ [])

    last_is : last ≡ two'
    last_is = two
        ∙ ap (λ (xs : List (List ℕ)). set xs second_node (wires_at xs second_node ++ i ∷ [])) one

    within' : second_node < length one'
    within' =
        let e = length-set wires first_node (wires_at wires first_node ++ i ∷ []) in
        let w = within.1 in
        omega (arith, e, w)

    here_is : get_or pipes i d ≡ get_or pipes i (0, 0)
    here_is = get_or_default pipes i d (0, 0) lt

    all_more : (p : ℕ) → p < i + 1 → Contains (wires_at two' (get_or pipes p (0, 0)).0) p
        × Contains (wires_at two' (get_or pipes p (0, 0)).1) p
    all_more p lp = ⊎_elim
        (λ l. let h = all p l in (
          has_still one' second_node i within' (get_or pipes p (0, 0)).0 p
              (has_still wires first_node i within.0 (get_or pipes p (0, 0)).0 p h.0),
          has_still one' second_node i within' (get_or pipes p (0, 0)).1 p
              (has_still wires first_node i within.0 (get_or pipes p (0, 0)).1 p h.1),
        ))
        (λ g.
        let s : i ≡ p = omega arith in
        subst (λ (q : ℕ). Contains (wires_at two' (get_or pipes q (0, 0)).0) q
        × Contains (wires_at two' (get_or pipes q (0, 0)).1) q) s
        (subst (λ (e : ℕ × ℕ). Contains (wires_at two' e.0) i
        × Contains (wires_at two' e.1) i) here_is (
          has_still one' second_node i within' first_node i (has_new wires first_node i within.0),
          has_new one' second_node i within',
        )))
        (cases_lt p i)

    only_more : (k j p : ℕ) → slice_get (wires_at two' k) j ≡ Some p
        → (p < i + 1) × (((get_or pipes p (0, 0)).0 ≡ k) ⊎ ((get_or pipes p (0, 0)).1 ≡ k))
    only_more k j p e = ⊎_elim
        (λ h. ⊎_elim
        (λ old. let o = only k j p old in (let l = o.0 in omega (arith, l), o.1))
        (λ new. (
          let s = new.0 in
              omega (arith, s),
          inl (ap (λ (q : ℕ). (get_or pipes q (0, 0)).0) new.0
              ∙ (sym (ap (λ (t : ℕ × ℕ). t.0) here_is) ∙ new.1)),
        ))
        (has_only wires first_node i within.0 k j p h))
        (λ new. (
          let s = new.0 in
              omega (arith, s),
          inr (ap (λ (q : ℕ). (get_or pipes q (0, 0)).1) new.0
              ∙ (sym (ap (λ (t : ℕ × ℕ). t.1) here_is) ∙ new.1)),
        ))
        (has_only one' second_node i within' k j p e)

    pub wires_more : record {
      lists : length last ≡ length wires;
      all : (p : ℕ) → p < i + 1
          → Contains (wires_at last (get_or pipes p (0, 0)).0) p
          × Contains (wires_at last (get_or pipes p (0, 0)).1) p;
      only : (k j p : ℕ)
          → slice_get (wires_at last k) j ≡ Some p → (p < i + 1)
          × (((get_or pipes p (0, 0)).0 ≡ k) ⊎ ((get_or pipes p (0, 0)).1 ≡ k));
    }
    wires_more = record {
      lists = ap length last_is ∙ (length-set one' second_node (wires_at one' second_node ++ i ∷ [])
          ∙ length-set wires first_node (wires_at wires first_node ++ i ∷ []));
      all = subst (λ (ws : List (List ℕ)). (p : ℕ) → p < i + 1
          → Contains (wires_at ws (get_or pipes p (0, 0)).0) p
          × Contains (wires_at ws (get_or pipes p (0, 0)).1) p) (sym last_is) all_more;
      only = subst (λ (ws : List (List ℕ)). (k j p : ℕ) → slice_get (wires_at ws k) j ≡ Some p
          → (p < i + 1) × (((get_or pipes p (0, 0)).0 ≡ k) ⊎ ((get_or pipes p (0, 0)).1 ≡ k)))
          (sym last_is) only_more;
    }

pub two_at : (P : ℕ × ℕ → Type 0) (xs : List (ℕ × ℕ)) (d : ℕ × ℕ) → AllByRecursion P xs → (i : ℕ)
    → i < length xs → P (get_or xs i d)
two_at P [] d a i lt = absurd (omega arith)
two_at P (x ∷ xs) d a zero lt = a.0
two_at P (x ∷ xs) d a (suc i) lt = two_at P xs d a.1 i (let l : i < length xs = omega arith in l)

-- one more empty list
pub one_more_empty : (wires more : List (Vec ℕ)) (v : Vec ℕ) → more ≡ wires ++ v ∷ [] → v.items ≡ []
    → ((k : ℕ) → wires_at (map (λ u. u.items) wires) k ≡ []) → (k : ℕ)
    → wires_at (map (λ u. u.items) more) k ≡ []
one_more_empty wires more v more_is none empty k =
    subst (λ (us : List (Vec ℕ)). wires_at (map (λ u. u.items) us) k ≡ []) (sym more_is)
    (go wires empty k)
  where
    go : (us : List (Vec ℕ)) → ((j : ℕ) → wires_at (map (λ u. u.items) us) j ≡ []) → (j : ℕ)
        → wires_at (map (λ u. u.items) (us ++ v ∷ [])) j ≡ []
    go [] all zero = none
    go [] all (suc j) = refl
    go (u ∷ us) all zero = all zero
    go (u ∷ us) all (suc j) = go us (λ i. all (suc i)) j
