-- The growth of a pipe of a network leaves all nodes in their cases, and all other pipes as they
-- were.
use Rattle.std.proofs.Common.{◌≡◌, ◌≢◌, ℕ, ◌<◌, ◌≤◌, List, Option, Some, None, get_or, length, refl}
use Rattle.std.proofs.Common.{ap, ◌∙◌, sym, subst, subst₂, arith, ⊎_elim}
use Rattle.std.specs.Prelude.{unwrap_or, slice_get, OnOk, IsErr}
use Rattle.std.specs.declared.result.Result.{Result}
use Rattle.std.specs.declared.result.Result.TheVariants.{Ok, Err}
use Rattle.std.specs.Global.{Vec}
use Rattle.std.proofs.lemmas.Bool.{cases_eq}
use Rattle.std.proofs.lemmas.Option.{slice_get-get_or}
use Rattle.machine.specs.Law.{Shown}
use Rattle.bounded_pipe.specs.Ends.{Writing, Beside}
use Rattle.bounded_pipe.specs.Events.{StillWriting, StillReading}
use Rattle.collector.specs.Files.{FilesShown}
use Rattle.graphs.specs.Graph.{node_at}
use Rattle.network_laws.specs.State.{Setup}
use Rattle.network_nodes.specs.declared.actor.Actor.{Actor}
use Rattle.network_nodes.specs.declared.actor.Link.{Link}
use Rattle.network_nodes.specs.inner.Actors.{out_end, out_at, in_at, actor_at, HasEnds, ChangesAt}
use Rattle.network_nodes.specs.inner.Actors.{GrowsAt}
use Rattle.networks.specs.Networks.{Networked, networked, writing_by, reading_by, rooms, HasOpened}
use Rattle.networks.specs.Networks.{AreBeside, IsJoined, IsRight, in_file, out_file, Face}
use Rattle.networks.specs.inner.Steps.{StandsStill}
use Rattle.networks.specs.Growth.{PipeGrows, grown}
use Rattle.networks.proofs.SightLaws.{has_ends}
use Rattle.networks.proofs.StayLaws.{still_are_still, changed_beside, all_count, node_stays, others}
use Rattle.networks.proofs.StayLaws.{at_writer, stays_wired}

-- a growth is to more items, and to no more than the most
pub grown_more : (most capacity : ℕ) → capacity < most → capacity ≤ grown most capacity
grown_more most capacity less = omega (arith, less)

pub grown_within : (most capacity : ℕ) → grown most capacity ≤ most
grown_within most capacity = omega arith

grown_some : (most capacity : ℕ) → 0 < capacity → capacity < most → 0 < grown most capacity
grown_some most capacity some less = omega (arith, some, less)

module _ {M : Type 0} (n : Networked M) (joined : IsJoined n) (p : ℕ) (l : Link)
    (is : slice_get n.pipes p ≡ Some l) where
  pub ends_at : HasEnds l n.nodes
  ends_at = has_ends n.pipes n.nodes joined.wired (λ q m e. let b = joined.beside q m e in
      let s = b.sees in s.ends) p l is

  abbrev had : ℕ
  had = (out_at n.nodes l).capacity

  -- the capacity of the pipe is that of its link's writing end
  pub room_is : rooms n p ≡ had
  room_is = ap (λ (o : Option Link). (writing_by n.nodes o).capacity) is

  module _ (later : List (Actor M)) (capacity : ℕ) (less : had < n.most)
      (twice : capacity ≡ grown n.most had) (g : GrowsAt capacity l n.nodes later) where
    abbrev after : Networked M
    after = record {
      nodes = later;
      pipes = n.pipes;
      wires = n.wires;
      status = n.status;
      most =
          n.most;
    }

    abbrev change : ChangesAt StillWriting StillReading l n.nodes later
    change = g.0

    count : length later ≡ length n.nodes
    count = all_count StillWriting StillReading still_are_still n.nodes later l ends_at change
        n.pipes joined.wired p is

    nodes : (k : ℕ) → StandsStill (actor_at n.nodes k) (actor_at later k)
    nodes = node_stays StillWriting StillReading still_are_still n.nodes later l ends_at change

    other : (q : ℕ) (m : Link) → slice_get n.pipes q ≡ Some m → q ≢ p
        → (out_at later m ≡ out_at n.nodes m) × (in_at later m ≡ in_at n.nodes m)
    other = others StillWriting StillReading still_are_still n.nodes later l ends_at change n.pipes
        joined.wired p is

    -- the pipe with the number p is this one
    is_here : (m : Link) (q : ℕ) → slice_get n.pipes q ≡ Some m → q ≡ p → m ≡ l
    is_here m q e same = ap (λ (o : Option Link). unwrap_or o l) (sym e
        ∙ (ap (λ (j : ℕ). slice_get n.pipes j) same ∙ is))

    room : (out_at later l).capacity ≡ capacity
    room = ap (λ (a : Actor M). (out_end a l.branch).capacity)
        (at_writer StillWriting StillReading still_are_still n.nodes later l ends_at change) ∙ g.1

    beside : AreBeside later n.pipes
    beside q m e = ⊎_elim
        (λ same. subst (λ (k : Link). Beside (out_at later k) (in_at later k))
        (sym (is_here m q e same))
        (changed_beside StillWriting StillReading still_are_still n.nodes later l ends_at
        change))
        (λ ne. let o = other q m e ne in subst₂ Beside (sym o.0) (sym o.1) (joined.beside q m e))
        (cases_eq q p)

    -- what is so of the capacity of this pipe, and of those of the others before, is so of all
    each_room : (P : ℕ → Type 0) → P capacity
        → ((q : ℕ) (m : Link) → slice_get n.pipes q ≡ Some m → P (out_at n.nodes m).capacity)
        → (q : ℕ) (m : Link) → slice_get n.pipes q ≡ Some m → P (out_at later m).capacity
    each_room P here there q m e = ⊎_elim
        (λ same. subst (λ (k : Link). P (out_at later k).capacity) (sym (is_here m q e same))
        (subst P (sym room) here))
        (λ ne. let o = other q m e ne in
        subst (λ (w : Writing). P w.capacity) (sym o.0) (there q m e))
        (cases_eq q p)

    some : 0 < capacity
    some =
        let r = joined.rooms in
        subst (λ (m : ℕ). 0 < m) (sym twice) (grown_some n.most had (r.some p l is) less)

    within : capacity ≤ n.most
    within = subst (λ (m : ℕ). m ≤ n.most) (sym twice) (grown_within n.most had)

    pub joined_after : IsJoined after
    joined_after = record {
      wired = stays_wired StillWriting StillReading n.pipes n.nodes later count nodes joined.wired;
      beside = beside;
      wires = joined.wires;
      lists = joined.lists ∙ sym count;
      here = λ k lk. let t = nodes k in t.here (joined.here k (subst (λ (m : ℕ). k < m) count lk));
      apart = let apart = joined.apart in record {
        ins = λ i k file ne a b. apart.ins i k file ne (sym (in_file_is i) ∙ a) (sym (in_file_is k)
            ∙ b);
        outs = λ i k file ne a b. apart.outs i k file ne (sym (out_file_is i)
            ∙ a) (sym (out_file_is k) ∙ b);
      };
      rooms = let r = joined.rooms in record {
        some = each_room (λ m. 0 < m) some r.some;
        within = each_room (λ m. m ≤ n.most) within r.within;
        most = r.most;
      };
    }
      where
        in_file_is : (j : ℕ) → in_file (actor_at later j) ≡ in_file (actor_at n.nodes j)
        in_file_is j = let t = nodes j in let e = t.same in ap (λ (f : Face). f.in_file) e

        out_file_is : (j : ℕ) → out_file (actor_at later j) ≡ out_file (actor_at n.nodes j)
        out_file_is j = let t = nodes j in let e = t.same in ap (λ (f : Face). f.out_file) e

    pub opened_after : (files : FilesShown) → HasOpened n files → HasOpened after files
    opened_after files h k = let t = nodes k in t.file files (h k)

    pub right_after : (shows : M → Shown) (s : Setup) (files : FilesShown) → IsRight shows s n files
        → IsRight shows s after files
    right_after shows s files r = record {
      plan = r.plan;
      graph = let o = r.graph in record { count = count ∙ o.count; pipes = o.pipes };
      status = r.status;
      most = r.most;
      joined = joined_after;
      limits = λ q m e. (let t = nodes m.writer in let w = t.writing m.branch in w.limit)
          ∙ r.limits q m e;
      roomy = r.roomy;
      fits = λ k lk. let t = nodes k in
          t.fits shows s files k (node_at s.graph k) (r.fits k (subst (λ (m : ℕ). k < m) count lk));
    }

    others_same : (q : ℕ) → q ≢ p
        → (writing_by later (slice_get n.pipes q) ≡ writing_by n.nodes (slice_get n.pipes q))
        × (reading_by later (slice_get n.pipes q) ≡ reading_by n.nodes (slice_get n.pipes q))
    others_same q ne = by_case (slice_get n.pipes q) refl
      where
        by_case : (o : Option Link) → slice_get n.pipes q ≡ o
            → (writing_by later o ≡ writing_by n.nodes o)
            × (reading_by later o ≡ reading_by n.nodes o)
        by_case None e = (refl, refl)
        by_case (Some m) e = other q m e ne

    room_after : rooms after p ≡ capacity
    room_after = ap (λ (o : Option Link). (writing_by later o).capacity) is ∙ room

    rises : (q : ℕ) → rooms n q ≤ rooms after q
    rises q = ⊎_elim
        (λ same.
        let now : rooms after q ≡ capacity = ap (λ (j : ℕ). rooms after j) same ∙ room_after in
        let before : rooms n q ≡ had = ap (λ (j : ℕ). rooms n j) same ∙ room_is in
        let more : had ≤ capacity = subst (λ (m : ℕ). had ≤ m) (sym twice)
        (grown_more n.most had less) in
        omega (arith, now, before, more))
        (λ ne. let e : rooms after q ≡ rooms n q =
        ap (λ (w : Writing). w.capacity) ((others_same q ne).0) in omega (arith, e))
        (cases_eq q p)

    pub grows_after : PipeGrows p n after
    grows_after = record {
      network = record {
        pipes = refl;
        wires = refl;
        status = refl;
        most = refl;
        count =
            count;
        nodes = λ k. (let t = nodes k in t.same);
        rooms = rises;
      };
      some = let r = joined.rooms in subst (λ (m : ℕ). 0 < m) (sym room_is) (r.some p l is);
      less = subst (λ (m : ℕ). m < n.most) (sym room_is) less;
      twice = room_after ∙ (twice ∙ ap (λ (m : ℕ). grown n.most m) (sym room_is));
      others = others_same;
      nodes = nodes;
    }

-- the same, of the network that the code holds in these parts
module _ {M : Type 0} (items nodes : List (Actor M)) (pipes : List Link) (lists : List (Vec ℕ))
    (status most pipe : ℕ) (n : Networked M) (view : networked items pipes lists status most ≡ n)
    (joined : IsJoined (networked items pipes lists status most)) (lt : pipe < length n.pipes)
    (link : Link) (at : link ≡ get_or pipes pipe link) (nodes_are : nodes ≡ items) where
  abbrev held : Networked M
  held = networked items pipes lists status most

  link_is : slice_get pipes pipe ≡ Some link
  link_is = slice_get-get_or pipes pipe link
      (subst (λ (x : Networked M). pipe < length x.pipes) (sym view) lt)
      ∙ ap (λ (l : Link). Some l) (sym at)

  pub has_of : HasEnds link nodes
  has_of = subst (λ (xs : List (Actor M)). HasEnds link xs) (sym nodes_are)
      (ends_at held joined pipe link link_is)

  pub room_of : (out_at nodes link).capacity ≡ rooms n pipe
  room_of = ap (λ (xs : List (Actor M)). (out_at xs link).capacity) nodes_are
      ∙ (sym (room_is held joined pipe link link_is) ∙ ap (λ (x : Networked M). rooms x pipe) view)

  module _ (capacity : ℕ) (less : rooms n pipe < n.most)
      (twice : capacity ≡ grown n.most (rooms n pipe)) where
    abbrev held_room : ℕ
    held_room = (out_at items link).capacity

    held_less : held_room < most
    held_less = subst (λ (m : ℕ). m < most) (room_is held joined pipe link link_is)
        (subst (λ (x : Networked M). rooms x pipe < x.most) (sym view) less)

    held_twice : capacity ≡ grown most held_room
    held_twice = subst (λ (x : Networked M). capacity ≡ grown x.most (rooms x pipe))
        (sym view) twice ∙ ap (λ (m : ℕ). grown most m) (room_is held joined pipe link link_is)

    pub bounds_of : ((out_at nodes link).capacity ≤ capacity) × (capacity ≤ 4096)
    bounds_of =
        let r = joined.rooms in
        let more : held_room ≤ capacity =
        subst (λ (m : ℕ). held_room ≤ m) (sym held_twice)
        (grown_more most held_room held_less) in
        let fits : capacity ≤ most = subst (λ (m : ℕ). m ≤ most) (sym held_twice)
        (grown_within most held_room) in (
          subst (λ (xs : List (Actor M)). (out_at xs link).capacity ≤ capacity) (sym nodes_are) more,
          (let top = r.most in omega (arith, fits, top)),
        )

    module _ (later new_items : List (Actor M)) (is : new_items ≡ later) where
      abbrev next : Networked M
      next = networked new_items pipes lists status most

      grows_held : GrowsAt capacity link nodes later → GrowsAt capacity link items new_items
      grows_held s =
          subst (λ (xs : List (Actor M)). GrowsAt capacity link items xs) (sym is)
          (subst (λ (xs : List (Actor M)). GrowsAt capacity link xs later) nodes_are s)

      pub joined_of : {T E : Type 0} (r : Result T E) → OnOk r (GrowsAt capacity link nodes later)
          → (IsErr r → later ≡ nodes) → IsJoined next
      joined_of (Ok x) s same =
          joined_after held joined pipe link link_is new_items capacity held_less held_twice
          (grows_held s)
      joined_of (Err x) s same =
          subst (λ (xs : List (Actor M)). IsJoined (networked xs pipes lists status most))
          (sym (is ∙ (same refl ∙ nodes_are))) joined

      pub grows_of : {T E : Type 0} (r : Result T E) → OnOk r (GrowsAt capacity link nodes later)
          → OnOk r (PipeGrows pipe n next)
      grows_of (Ok x) s = subst (λ (m : Networked M). PipeGrows pipe m next) view
          (grows_after held joined pipe link link_is new_items capacity held_less held_twice
          (grows_held s))
      grows_of (Err x) s = tt

      pub right_of : {T E : Type 0} (r : Result T E) → OnOk r (GrowsAt capacity link nodes later)
          → (shows : M → Shown) → OnOk r ((s : Setup) (files : FilesShown) → IsRight shows s n files
          → IsRight shows s next files)
      right_of (Ok x) s shows = λ su files right.
          right_after held joined pipe link link_is new_items capacity held_less held_twice
          (grows_held s) shows su files
          (subst (λ (m : Networked M). IsRight shows su m files) (sym view) right)
      right_of (Err x) s shows = tt

      pub opened_of : {T E : Type 0} (r : Result T E) → OnOk r (GrowsAt capacity link nodes later)
          → OnOk r ((files : FilesShown) → HasOpened n files → HasOpened next files)
      opened_of (Ok x) s =
          λ files h. opened_after held joined pipe link link_is new_items capacity held_less
          held_twice (grows_held s) files
          (subst (λ (m : Networked M). HasOpened m files) (sym view) h)
      opened_of (Err x) s = tt
