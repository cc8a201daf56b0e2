-- How many rounds a run on workers makes between its phases.
use Rattle.std.proofs.Common.{◌≡◌, ℕ, zero, suc, ◌+◌, ◌≤◌, Bool, false, List, [], ◌++◌, Option}
use Rattle.std.proofs.Common.{Some, None, refl, sym, ap, ◌∙◌, subst, append_assoc, arith}
use Rattle.machine.specs.Law.{Shown}
use Rattle.collector.specs.Files.{FilesShown, ReadLog, ReadsGoOn, reads_of}
use Rattle.collector.specs.Nodes.{read_by}
use Rattle.graphs.specs.Graph.{GraphNode, Source, node_at}
use Rattle.network_laws.specs.Outcome.{AgreesAt, Agree}
use Rattle.network_laws.specs.Sequential.{Contents}
use Rattle.network_laws.specs.State.{Setup}
use Rattle.network_laws.specs.Steps.{progress}
use Rattle.network_nodes.specs.inner.Actors.{actor_at}
use Rattle.networks.specs.Networks.{Networked, Face, GrownNetwork, SameNetwork, IsRight, in_file}
use Rattle.networks.specs.Networks.{rooms, network_state}
use Rattle.networks.specs.Bounds.{most_rounds}
use Rattle.networks.specs.Turns.{SpendsRounds, network_run}
use Rattle.networks.specs.Growth.{AreGrown}
use Rattle.networks.proofs.BoundLaws.{rounds_few}

-- ---- rounds after rounds

grown_still : (most n : ℕ) (a b c : ℕ → ℕ) → AreGrown most n a b → ((p : ℕ) → c p ≡ b p)
    → AreGrown most n a c
grown_still most zero a b c h same = λ p. same p ∙ h p
grown_still most (suc n) a b c h same =
    let g = h.2 in (
      h.0,
      h.1,
      record {
        pipe = g.pipe;
        some = g.some;
        less = g.less;
        twice = same g.pipe
            ∙ g.twice;
        others = λ q ne. same q ∙ g.others q ne;
      },
    )

grown_then : (most n m : ℕ) (a b c : ℕ → ℕ) → AreGrown most n a b → AreGrown most m b c
    → AreGrown most (n + m) a c
grown_then most n zero a b c h t = subst (λ (k : ℕ). AreGrown most k a c)
    (let e : n ≡ n + 0 = omega arith in e) (grown_still most n a b c h t)
grown_then most n (suc m) a b c h t =
    let both : AreGrown most (suc (n + m)) a c = (t.0, grown_then most n m a b t.0 h t.1, t.2) in
    subst (λ (k : ℕ). AreGrown most k a c) (let e : suc (n + m) ≡ n + suc m = omega arith in e) both

module _ {M : Type 0} (shows : M → Shown) (s : Setup) where
  pub spends_none : (n : Networked M) (files : FilesShown) → SpendsRounds shows s 0 n files n files
  spends_none n files = (0, (λ p. refl), omega arith)

  -- a phase, and rounds after it; if fewer are counted, that is so too
  pub spends_phase : (m n all : ℕ) (old mid next new : Networked M) (f g h i : FilesShown)
      → all ≤ m + n → mid.most ≡ old.most → SameNetwork mid next
      → SpendsRounds shows s m old f mid g
      → progress s.graph (network_state shows mid g) ≤ progress s.graph (network_state shows next h)
      → SpendsRounds shows s n next h new i → SpendsRounds shows s all old f new i
  spends_phase m n all old mid next new f g h i few most same spent on more =
      let first : m + progress s.graph (network_state shows old f) ≤ progress s.graph
      (network_state shows mid g) + spent.0 = spent.2 in
      let second : n + progress s.graph (network_state shows next h) ≤ progress s.graph
      (network_state shows new i) + more.0 = more.2 in (
        spent.0 + more.0,
        grown_then old.most spent.0 more.0 (rooms old) (rooms next) (rooms new)
            (grown_still old.most spent.0 (rooms old) (rooms mid) (rooms next) spent.1 same.rooms)
            (subst (λ (k : ℕ). AreGrown k more.0 (rooms next) (rooms new)) (same.most
            ∙ most) more.1),
        omega (arith, few, first, second, on),
      )

-- ---- contents that agree with a run agree with what came before it

agrees_before : (node : Option GraphNode) (missing : Bool) (content : Option (List ℕ))
    (x y : ReadLog) → ReadsGoOn x y → AgreesAt node missing content y.bytes y.at_end
    → AgreesAt node missing content x.bytes x.at_end
agrees_before (Some (Source false)) missing (Some bytes) x y on a = (
  a.0,
  (
    on.bytes.0 ++ a.1.0,
    sym (append_assoc x.bytes on.bytes.0 a.1.0)
        ∙ (ap (λ (l : List ℕ). l ++ a.1.0) on.bytes.1 ∙ a.1.1),
  ),
  (λ ended. let same = on.ended ended in ap (λ (l : ReadLog). l.bytes) (sym same)
      ∙ a.2 (ap (λ (l : ReadLog). l.at_end) same ∙ ended)),
)
agrees_before _ missing _ x y on a = a

reads_before : (f g : FilesShown) → ((file : ℕ) → ReadsGoOn (reads_of f file) (reads_of g file))
    → (file : Option ℕ) → ReadsGoOn (read_by f file) (read_by g file)
reads_before f g on None = record { bytes = ([], refl); ended = λ e. refl }
reads_before f g on (Some file) = on file

module _ {M : Type 0} (shows : M → Shown) (s : Setup) where
  -- the rounds that were counted in a run that goes on to its end are within its bound
  pub counted_few : (count : ℕ) (old now : Networked M) (f g h : FilesShown) → IsRight shows s old f
      → IsRight shows s now g → GrownNetwork old now → SpendsRounds shows s count old f now g
      → ((file : ℕ) → ReadsGoOn (reads_of g file) (reads_of h file)) → (contents : Contents)
      → Agree s (network_run shows old f old h) contents → count ≤ most_rounds s contents
  counted_few count old now f g h was is same spent on contents agree =
      let before : Agree s (network_run shows old f now g) contents = λ k.
      let file : in_file (actor_at now.nodes k) ≡ in_file (actor_at old.nodes k) =
      ap (λ (f : Face). f.in_file) (same.nodes k) in
      subst (λ (o : Option ℕ). AgreesAt (node_at s.graph k) (s.missing k) (contents k)
      (read_by g o).bytes (read_by g o).at_end) (sym file)
      (agrees_before (node_at s.graph k) (s.missing k) (contents k)
      (read_by g (in_file (actor_at old.nodes k))) (read_by h (in_file (actor_at old.nodes k)))
      (reads_before g h on (in_file (actor_at old.nodes k))) (agree k)) in
      let few : count + progress s.graph (network_state shows old f) ≤ most_rounds s contents =
      rounds_few shows s count old now f g was is spent contents before in
      omega (arith, few)
