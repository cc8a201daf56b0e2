-- The waits of a stuck state are for pipes of its nodes' own, and lead from each node that waits to
-- one that waits.
use Rattle.std.proofs.Common.{◌≡◌, ℕ, zero, suc, ◌<◌, List, [], ◌∷◌, false, map, get_or, subst, inl}
use Rattle.std.proofs.Common.{inr, arith}
use Rattle.std.specs.List.{All, AllByRecursion, Contains}
use Rattle.std.proofs.lemmas.List.Elements.{All-from_get_or, Contains-get_or}
use Rattle.graphs.specs.Graph.{Graph, IsNode, IsPipe, IsAmong, AreDistinct}
use Rattle.network_laws.specs.Waits.{IsRunning, WaitsFor}
use Rattle.network_laws.specs.Outcome.{IsNamed, AreRising, LeadOn, other_end}
use Rattle.network_laws.specs.Circles.{own_end, LeadTo, StuckWaitsAreOwn, StuckWaitsMeetCircle}
use Rattle.network_laws.specs.declared.outcome.Waiting.{Waiting}
use Rattle.network_laws.proofs.StuckLaws.{own_pipe, waits_lead_on}

-- what holds of each holds of one that is among them
each_holds : (P : Waiting → Type 0) (xs : List Waiting) (w : Waiting) → AllByRecursion P xs
    → Contains xs w → P w
each_holds P [] w all (i, l, e) = absurd (omega arith)
each_holds P (x ∷ xs) w all (zero, l, e) = subst P e all.0
each_holds P (x ∷ xs) w all (suc i, l, e) = each_holds P xs w all.1 (i, omega arith, e)

-- following them from one that waits leads to one that waits
stays_named : (g : Graph) (waits : List Waiting) → LeadOn g waits → (n k j : ℕ) → IsNamed k waits
    → LeadTo g waits n k j → IsNamed j waits
stays_named g waits on zero k j named e = subst (λ i. IsNamed i waits) e named
stays_named g waits on (suc n) k j named (i, to, (w, here, node, other)) =
    subst (λ i. IsNamed i waits) other
    (each_holds (λ w. IsNamed (other_end g w) waits) waits w on here)

pub stuck_waits_meet_circle : StuckWaitsMeetCircle
stuck_waits_meet_circle s st waits plan stuck are (inl none) =
    subst (IsNamed stuck.some.0) none (are.all stuck.some.0 stuck.some.1)
stuck_waits_meet_circle s st waits plan stuck are (inr (k, n, j, first, to, out)) =
    out (stays_named s.graph waits (waits_lead_on s st waits plan stuck are) n k j first.named to)

-- what rises has nothing twice
above : (k : ℕ) (w : Waiting) (waits : List Waiting) → AreRising (w ∷ waits)
    → IsAmong k (map (λ v. v.node) waits) → w.node < k
above k w [] rising among = absurd among
above k w (v ∷ waits) rising (inl e) = omega (arith, rising.0, e)
above k w (v ∷ waits) rising (inr m) =
    let l = above k v waits rising.1 m in
    omega (arith, rising.0, l)

behind : (w : Waiting) (waits : List Waiting) → AreRising (w ∷ waits) → AreRising waits
behind w [] rising = tt
behind w (v ∷ waits) rising = rising.1

pub rising_distinct : (waits : List Waiting) → AreRising waits
    → AreDistinct (map (λ v. v.node) waits)
rising_distinct [] rising = tt
rising_distinct (w ∷ waits) rising = (
  λ m. let l = above w.node w waits rising m in
      omega (arith, l),
  rising_distinct waits (behind w waits rising),
)

no_wait : Waiting
no_wait = record { node = 0; pipe = 0; full = false }

pub stuck_waits_are_own : StuckWaitsAreOwn
stuck_waits_are_own s st waits plan stuck are = record {
  nodes = each (λ w. IsNode s.graph w.node) (λ w l. (runs w l).0.0);
  pipes = each (λ w. IsPipe s.graph w.pipe)
      (λ w l. (own_pipe s st plan stuck w (runs w l).0 (runs w l).1).0);
  own = each (λ w. own_end s.graph w ≡ w.node)
      (λ w l. (own_pipe s st plan stuck w (runs w l).0 (runs w l).1).1);
  once = rising_distinct waits are.rising;
}
  where
    runs : (w : Waiting) → Contains waits w → IsRunning s st w.node
        × WaitsFor s st w.node w.full w.pipe
    runs w here = each_holds (λ w. IsRunning s st w.node
        × WaitsFor s st w.node w.full w.pipe) waits w are.each here

    each : (P : Waiting → Type 0) → ((w : Waiting) → Contains waits w → P w) → All P waits
    each P holds = All-from_get_or P waits no_wait
        (λ i l. holds (get_or waits i no_wait) (Contains-get_or waits i no_wait l))
