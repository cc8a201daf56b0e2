-- What is opened for the ends of a script serves those that lead outside, and each of them once.
use Rattle.std.proofs.Common.{◌≡◌, ℕ, ◌+◌, ◌<◌, ◌≤◌, ◌==◌, ◌&&◌, ◌⊎◌, Bool, true, false, cond, List}
use Rattle.std.proofs.Common.{[], ◌∷◌, length, get_or, Option, Some, None, refl, sym, ap, ◌∙◌}
use Rattle.std.proofs.Common.{subst, ⊎_elim, arith}
use Rattle.std.specs.List.{Contains, count_by, enumerate_from, flat_map}
use Rattle.std.proofs.lemmas.Bool.{and_from, eq-eqb, eqb-true}
use Rattle.std.proofs.lemmas.Option.{none-some, same_Some}
use Rattle.std.proofs.lemmas.List.Elements.{Contains-append_cases, Contains-append_left}
use Rattle.std.proofs.lemmas.List.Elements.{Contains-append_right, Contains-get_or}
use Rattle.std.proofs.lemmas.List.Sums.{sum_by-append, sum_by-le-sum_by}
use Rattle.commands.proofs.CountedWords.{count_flat_map, count_none}
use Rattle.planner.specs.declared.openings.Opened.{Opened}
use Rattle.planner.specs.declared.place.Place.{Place}
use Rattle.planner.specs.declared.place.Place.TheVariants as place
use Rattle.planner.specs.declared.place.End.{End}
use Rattle.planner.specs.declared.plan.NodeName.{NodeName}
use Rattle.planner.specs.Places.{Stage}
use Rattle.planner.specs.Ends.{is_outside, end_at, ends_at, all_ends}
use Rattle.planner.specs.Laws.{AreInTurn}
use Rattle.planner.specs.Openings.{number_if, opens, opened_as, opened_at, Side, opened_operand}
use Rattle.planner.specs.Openings.{opened_ends}
use Rattle.planner.specs.Tables.{number_of}
use Rattle.planner.proofs.lemmas.Apart.{sum_members}
use Rattle.planner.proofs.lemmas.Channels.{implied}
use Rattle.planner.proofs.lemmas.EachOnce.{one_stage}
use Rattle.planner.proofs.lemmas.Members.{origin, in_flat_map, in_map, of_map}
use Rattle.planner.proofs.lemmas.NumberLaws.{none, named_at}
use Rattle.planner.proofs.lemmas.Parts.{only_one}

-- ---- numbers

-- whether what is opened is for the node k
abbrev pub serves : ℕ → Option ℕ → Bool
serves k None = false
serves k (Some n) = n == k

-- the number of a node that is there
numbered : (b : Bool) (names : List NodeName) (a : NodeName) (k : ℕ) → number_if b names a ≡ Some k
    → (b ≡ true) × (number_of names a ≡ k)
numbered true names a k e = (refl, same_Some (number_of names a) k e)
numbered false names a k e = absurd (none-some k e)

-- what serves a node is for what this node is
served : (b : Bool) (names : List NodeName) (a : NodeName) (k : ℕ) → k < length names
    → serves k (number_if b names a) ≡ true → (b ≡ true) × (get_or names k none ≡ a)
served true names a k l e = (refl, named_at names a k l (eqb-true (number_of names a) k e))
served false names a k l e = absurd (cc e)

-- ---- what is opened for one place

opens_outside : (b : Bool) (p : Place) → opens b p ≡ true → is_outside p ≡ true
opens_outside b place.Standard e = refl
opens_outside b (place.File name append) e = refl
opens_outside b _ e = e

opens_used : (p : Place) → opens true p ≡ is_outside p
opens_used place.Standard = refl
opens_used _ = refl

module _ (names : List NodeName) (s : Stage) (operand : Bool) (a : NodeName) (p : Place) where
  of_place : (b : Bool) (o : Opened) (k : ℕ) → Contains (opened_at names s operand b a p) o
      → o.node ≡ Some k → (b ≡ true) × (number_of names a ≡ k) × (is_outside p ≡ true)
      × (o.place ≡ p)
  of_place b o k c n = go (opens b p) refl c
    where
      go : (t : Bool) → opens b p ≡ t
          → Contains (cond t (opened_as s operand p (number_if b names a) ∷ []) []) o
          → (b ≡ true) × (number_of names a ≡ k) × (is_outside p ≡ true) × (o.place ≡ p)
      go false u (i, l, e) = absurd (omega arith)
      go true u c =
          let e = only_one (opened_as s operand p (number_if b names a)) o c in
          let (w, m) = numbered b names a k (ap (λ (r : Opened). r.node) e ∙ n) in
          (w, m, opens_outside b p u, ap (λ (r : Opened). r.place) (sym e))

  place_opened : is_outside p ≡ true
      → Contains (opened_at names s operand true a p)
      (opened_as s operand p (Some (number_of names a)))
  place_opened w =
      let o = opened_as s operand p (Some (number_of names a)) in
      subst (λ b. Contains (cond b (o ∷ []) []) o) (sym (opens_used p ∙ w)) (0, omega arith, refl)

-- ---- what is opened for a stage

-- the ends of a stage that lead outside are its standard one, if that is used, and its operands
pub record AreEnds (d : Side) (s : Stage) (places : List Place) : Type 0 where
  pub standard_in : d.used s ≡ true → Contains (enumerate_from 0 places) (d.number s, d.standard s)
  pub operand_in : (q : ℕ × List ℕ) → Contains (d.operands s) q
      → is_outside (d.operand s q.1) ≡ true
      → Contains (enumerate_from 0 places) (q.0, d.operand s q.1)
  pub are : (p : ℕ × Place) → Contains (enumerate_from 0 places) p → is_outside p.1 ≡ true
      → ((d.used s ≡ true) × ((d.number s, d.standard s) ≡ p))
      ⊎ ((q : ℕ × List ℕ) × Contains (d.operands s) q × ((q.0, d.operand s q.1) ≡ p))
  pub once : (i : ℕ) → cond (d.used s && (d.number s == i)) 1 0 + count_by
      (λ (q : ℕ × List ℕ). is_outside (d.operand s q.1) && (q.0 == i)) (d.operands s) ≤ 1

-- the end that an opening serves
pub record ServesEnd (end : ℕ → ℕ → NodeName) (ends : List End) (names : List NodeName) (k : ℕ)
    (p : Place) : Type 0 where
  pub x : End
  pub x_in : Contains ends x
  pub number : number_of names (end x.stage x.number) ≡ k
  pub outside : is_outside x.place ≡ true
  pub is : p ≡ x.place

-- the opening that serves an end
pub record IsServed (opened : List Opened) (k : ℕ) (p : Place) : Type 0 where
  pub o : Opened
  pub o_in : Contains opened o
  pub for_node : o.node ≡ Some k
  pub is : o.place ≡ p

-- a count over two, under a condition
both_under : {X : Type 0} (q a : Bool) (f : X → Bool) (xs : List X) → cond a 1 0 + count_by f xs ≤ 1
    → cond (q && a) 1 0 + count_by (λ x. q && f x) xs ≤ cond q 1 0
both_under true a f xs h = h
both_under false a f xs h = let z = count_none (λ x. false) xs (λ x. refl) in omega (arith, z)

module _ (d : Side) (places : Stage → List Place) (names : List NodeName) (ss : List Stage)
    (are : (s : Stage) → Contains ss s → AreEnds d s (places s)) where
  abbrev opened : Stage → List Opened
  opened s = opened_ends d names s

  -- what is opened for a node serves an end
  pub end_served : (k : ℕ) (o : Opened) → Contains (flat_map opened ss) o → o.node ≡ Some k
      → ServesEnd d.end (all_ends places ss) names k o.place
  end_served k o c n =
      let (s, sc, oc) = origin opened ss o c in
      let at : (p : ℕ × Place) → Contains (enumerate_from 0 (places s)) p
      → number_of names (d.end s.index p.0) ≡ k → is_outside p.1 ≡ true → o.place ≡ p.1
      → ServesEnd d.end (all_ends places ss) names k o.place =
      λ p pc m w e. record {
        x = end_at s.index p;
        x_in = in_flat_map (ends_at places) ss s (end_at s.index p) sc
            (in_map (end_at s.index) (enumerate_from 0 (places s)) p pc);
        number = m;
        outside = w;
        is = e;
      } in
      ⊎_elim
      (λ l. let (u, m, w, e) = of_place names s false (d.end s.index (d.number s)) (d.standard s)
      (d.used s) o k l n in at (d.number s, d.standard s) ((are s sc).standard_in u) m w e)
      (λ r.
      let (q, qc, rc) = origin (opened_operand d names s) (d.operands s) o r in
      let (u, m, w, e) = of_place names s true (d.end s.index q.0)
      (d.operand s q.1) true o k rc n in
      at (q.0, d.operand s q.1) ((are s sc).operand_in q qc w) m w e)
      (Contains-append_cases (opened_at names s false (d.used s) (d.end s.index (d.number s))
      (d.standard s)) (flat_map (opened_operand d names s) (d.operands s)) o oc)

  -- an end that leads outside has an opening
  pub end_opened : (x : End) → Contains (all_ends places ss) x → is_outside x.place ≡ true
      → IsServed (flat_map opened ss) (number_of names (d.end x.stage x.number)) x.place
  end_opened x c out =
      let (s, sc, xc) = origin (ends_at places) ss x c in
      let (p, pc, pe) = of_map (end_at s.index) (enumerate_from 0 (places s)) x xc in
      let first = opened_at names s false (d.used s) (d.end s.index (d.number s)) (d.standard s) in
      let others = flat_map (opened_operand d names s) (d.operands s) in
      let P : ℕ × Place → Type 0 = λ q. IsServed (flat_map opened ss)
      (number_of names (d.end s.index q.0)) q.1 in
      let w : is_outside p.1 ≡ true = ap (λ (y : End). is_outside y.place) pe ∙ out in
      let at : P p = ⊎_elim
      (λ (l : (d.used s ≡ true) × ((d.number s, d.standard s) ≡ p)).
      let a = d.end s.index (d.number s) in
      let o = opened_as s false (d.standard s) (Some (number_of names a)) in
      let v : is_outside (d.standard s) ≡ true = ap (λ (q : ℕ × Place). is_outside q.1) l.1 ∙ w in
      let here : Contains first o =
      subst (λ b. Contains (opened_at names s false b a (d.standard s)) o) (sym l.0)
      (place_opened names s false a (d.standard s) v) in
      subst P l.1
      (record {
        o = o;
        o_in = in_flat_map opened ss s o sc
            (Contains-append_left first others o here);
        for_node = refl;
        is = refl;
      }))
      (λ r.
      let (q, qc, qe) = r in
      let a = d.end s.index q.0 in
      let o = opened_as s true (d.operand s q.1) (Some (number_of names a)) in
      let v : is_outside (d.operand s q.1) ≡ true = ap (λ (z : ℕ × Place). is_outside z.1) qe ∙ w in
      let here = in_flat_map (opened_operand d names s) (d.operands s) q o qc
      (place_opened names s true a (d.operand s q.1) v) in
      subst P qe
      (record {
        o = o;
        o_in = in_flat_map opened ss s o sc
            (Contains-append_right first others o here);
        for_node = refl;
        is = refl;
      }))
      ((are s sc).are p pc w) in
      subst (λ (y : End). IsServed (flat_map opened ss)
      (number_of names (d.end y.stage y.number)) y.place) pe at

  -- at most one of the openings serves a node
  module _ (parts : (s i t j : ℕ) → d.end s i ≡ d.end t j → (s ≡ t) × (i ≡ j)) (k t i : ℕ)
      (within : k < length names) (at : get_or names k none ≡ d.end t i) where
    place_few : (s : Stage) (operand b : Bool) (j : ℕ) (p : Place) (w : Bool)
        → (b ≡ true → is_outside p ≡ true → j ≡ i → w ≡ true)
        → count_by (λ (o : Opened). serves k o.node)
        (opened_at names s operand b (d.end s.index j) p) ≤ cond ((s.index == t) && w) 1 0
    place_few s operand b j p w h = go (opens b p) refl
      where
        go : (c : Bool) → opens b p ≡ c
            → count_by (λ (o : Opened). serves k o.node)
            (cond c (opened_as s operand p (number_if b names (d.end s.index j)) ∷ []) []) ≤ cond
            ((s.index == t) && w) 1 0
        go false u = omega arith
        go true u =
            let a = implied (serves k (number_if b names (d.end s.index j))) ((s.index == t) && w)
            (λ e.
            let (v, f) = served b names (d.end s.index j) k within e in
            let (x, y) = parts s.index j t i (sym f ∙ at) in
            and_from (s.index == t) w (eq-eqb s.index t x) (h v (opens_outside b p u) y)) in
            omega (arith, a)

    stage_few : (s : Stage) → Contains ss s
        → count_by (λ (o : Opened). serves k o.node) (opened s) ≤ cond (s.index == t) 1 0
    stage_few s sc =
        let f = λ (o : Opened). serves k o.node in
        let g = λ (q : ℕ × List ℕ). is_outside (d.operand s q.1) && (q.0 == i) in
        let first = d.used s && (d.number s == i) in
        let a = sum_by-append (λ o. cond (f o) 1 0)
        (opened_at names s false (d.used s) (d.end s.index (d.number s)) (d.standard s))
        (flat_map (opened_operand d names s) (d.operands s)) in
        let b = place_few s false (d.used s) (d.number s) (d.standard s) first
        (λ u w e. and_from (d.used s) (d.number s == i) u (eq-eqb (d.number s) i e)) in
        let c = count_flat_map f (opened_operand d names s) (d.operands s) in
        let each = sum_by-le-sum_by (λ q. count_by f (opened_operand d names s q))
        (λ q. cond ((s.index == t) && g q) 1 0) (d.operands s)
        (λ q. place_few s true true q.0 (d.operand s q.1) (g q)
        (λ u w e. and_from (is_outside (d.operand s q.1)) (q.0 == i) w (eq-eqb q.0 i e))) in
        let e = both_under (s.index == t) first g (d.operands s) ((are s sc).once i) in
        omega (arith, a, b, c, each, e)

    pub served_once : AreInTurn 0 ss
        → count_by (λ (o : Opened). serves k o.node) (flat_map opened ss) ≤ 1
    served_once turn =
        let f = λ (o : Opened). serves k o.node in
        let a = count_flat_map f opened ss in
        let b = sum_members (λ s. count_by f (opened s)) (λ (s : Stage). cond (s.index == t) 1 0) ss
        (λ j d l. stage_few (get_or ss j d) (Contains-get_or ss j d l)) in
        let c = one_stage ss 0 t turn in
        omega (arith, a, b, c)
