-- From the parts of a network, as its code holds them, to the network.
use Rattle.std.proofs.Common.{◌∙◌, ◌≡◌, ℕ, zero, suc, ◌<◌, List, [], ◌∷◌, get_or, length, map, refl}
use Rattle.std.proofs.Common.{ap, sym, subst, subst₂, arith}
use Rattle.machine.specs.Law.{Shown}
use Rattle.collector.specs.Files.{FilesShown}
use Rattle.run_types.specs.declared.step.Step.{Step}
use Rattle.std.specs.Global.{Vec}
use Rattle.network_nodes.specs.declared.actor.Actor.{Actor}
use Rattle.network_nodes.specs.declared.actor.Link.{Link}
use Rattle.stages.specs.inner.Steps.{HasState}
use Rattle.graphs.specs.Graph.{Graph}
use Rattle.network_laws.specs.State.{Setup, node_state_of}
use Rattle.network_laws.specs.Steps.{IsStep, StepIs}
use Rattle.network_nodes.specs.inner.Actors.{actor_at}
use Rattle.network_nodes.specs.inner.MadeNodes.{wires_at}
use Rattle.networks.specs.Networks.{Networked, networked, part_of, network_state, AreWithin}
use Rattle.networks.specs.Networks.{IsJoined, HasOpened, IsRight, IsOf, SameNetwork, TouchesOwn}
use Rattle.networks.specs.inner.Steps.{StepsAt}
use Rattle.networks.proofs.lemmas.AnswerLaws.{step_is}
use Rattle.networks.proofs.StateLaws.{is_step}
use Rattle.networks.proofs.lemmas.MoveLaws.{still_joined, still_opened, still_right, still_same}
use Rattle.networks.proofs.lemmas.MoveLaws.{touches_own, state_as}

-- the list of a node's pipes, of lists that are kept one by one
pub wires_of : (ws : List (Vec ℕ)) (k : ℕ) (w : Vec ℕ) → k < length ws → w ≡ get_or ws k w
    → w.items ≡ wires_at (map (λ v. v.items) ws) k
wires_of [] k w lt e = absurd (omega (arith, lt))
wires_of (v ∷ ws) zero w lt e = ap (λ (u : Vec ℕ). u.items) e
wires_of (v ∷ ws) (suc k) w lt e = wires_of ws k w (omega (arith, lt)) e

pub long_wires : (ws : List (Vec ℕ)) → length (map (λ (v : Vec ℕ). v.items) ws) ≡ length ws
long_wires [] = refl
long_wires (v ∷ ws) = let r = long_wires ws in omega (arith, r)

module _ {M : Type 0} where
  -- the network of these parts
  abbrev pub with_nodes : Networked M → List (Actor M) → Networked M
  with_nodes m nodes = record {
    nodes = nodes;
    pipes = m.pipes;
    wires = m.wires;
    status =
        m.status;
    most = m.most;
  }

  -- what a step of the node k leaves of a network
  pub record Leaves (shows : M → Shown) (k : ℕ) (n later : Networked M) (old new : FilesShown)
      (st : Step) : Type 0 where
    pub joined : IsJoined later
    pub opened : HasOpened n old → HasOpened later new
    pub right : (s : Setup) → IsRight shows s n old → IsRight shows s later new
    pub step : (g : Graph) → IsOf g n
        → IsStep g k (network_state shows n old)
        (network_state shows later new) old.failures new.failures
    pub says : (s : Setup) → IsRight shows s n old
        → StepIs s (network_state shows n old) (network_state shows later new) k st
    pub state : HasState (node_state_of (part_of shows new (actor_at later.nodes k))) st
    pub own : TouchesOwn (actor_at n.nodes k) old new
    pub same : SameNetwork n later

  leaves : (shows : M → Shown) (k : ℕ) (n : Networked M) (later : List (Actor M))
      (old new : FilesShown) (st : Step) → IsJoined n → k < length n.nodes
      → StepsAt shows k n.pipes (wires_at n.wires k) n.nodes later old new st
      → Leaves shows k n (with_nodes n later) old new st
  leaves shows k n later old new st joined lt s = record {
    joined = still_joined shows k n later old new st lt s joined;
    opened = still_opened shows k n later old new st lt s;
    right = λ su r. still_right shows k n later old new st lt s su r;
    step = λ g of. is_step shows g k n later old new st of lt s joined.apart;
    says = λ su r. step_is shows su k n later old new st lt s r;
    state = state_as shows k n later old new st lt s;
    own = touches_own shows k n later old new st lt s;
    same = still_same shows k n later old new st lt s;
  }

-- the same, of the network that the code holds in these parts
module _ {M : Type 0} (items : List (Actor M)) (pipes : List Link) (lists : List (Vec ℕ))
    (status most k : ℕ) (n : Networked M) (view : networked items pipes lists status most ≡ n)
    (joined : IsJoined (networked items pipes lists status most)) (lt : k < length n.nodes)
    (wire : Vec ℕ) (at : wire ≡ get_or lists k wire) (links : List Link) (links_are : links ≡ pipes)
    (wires : List ℕ) (wires_are : wires ≡ wire.items) where
  abbrev held : Networked M
  held = networked items pipes lists status most

  abbrev own_wires : List ℕ
  own_wires = wires_at held.wires k

  within_held : k < length items
  within_held = subst (λ (x : Networked M). k < length x.nodes) (sym view) lt

  own : wires ≡ own_wires
  own = wires_are ∙ wires_of lists k wire (let l : length held.wires ≡ length items =
      joined.lists in omega (arith, l, long_wires lists, within_held)) at

  pub within_of : AreWithin links wires
  within_of = let has = joined.wires in subst₂ AreWithin (sym links_are) (sym own) (has.within k)

  pub leaves_of : (shows : M → Shown) (nodes later new_items : List (Actor M))
      (old new : FilesShown) (st : Step) → nodes ≡ items → new_items ≡ later
      → StepsAt shows k links wires nodes later old new st
      → Leaves shows k n (networked new_items pipes lists status most) old new st
  leaves_of shows nodes later new_items old new st e i s =
      let s' : StepsAt shows k pipes own_wires items later old new st =
      subst (λ (xs : List (Actor M)). StepsAt shows k pipes own_wires xs later old new st) e
      (subst₂ (λ (ps : List Link) (ws : List ℕ). StepsAt shows k ps ws nodes later old new st)
      links_are own s) in
      subst (λ (x : Networked M). Leaves shows k x
      (networked new_items pipes lists status most) old new st) view
      (subst (λ (xs : List (Actor M)). Leaves shows k held
      (networked xs pipes lists status most) old new st) (sym i)
      (leaves shows k held later old new st joined within_held s'))
