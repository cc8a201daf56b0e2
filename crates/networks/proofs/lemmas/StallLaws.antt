-- Growths out of stalls, one after another.
use Rattle.std.proofs.Common.{◌≡◌, ℕ, zero, suc, ◌+◌, ◌⊎◌, List, length, ap, ◌∙◌, subst, ⊎_elim}
use Rattle.std.proofs.Common.{refl, arith}
use Rattle.std.proofs.lemmas.Bool.{cases_lt}
use Rattle.machine.specs.Law.{Shown}
use Rattle.collector.specs.Files.{FilesShown}
use Rattle.bounded_pipe.specs.Ends.{Writing}
use Rattle.run_types.specs.declared.step.Step.{Step}
use Rattle.network_laws.specs.State.{Setup}
use Rattle.networks.specs.Networks.{Networked, SameNetwork, IsRight, network_state, rooms}
use Rattle.networks.specs.Turns.{GrowsIfStuck}
use Rattle.networks.specs.Growth.{StallGrowth, GrowOutOfStalls, grown}
use Rattle.networks.proofs.BoundLaws.{none_past}
use Rattle.networks.proofs.StateLaws.{pipe_count}

module _ (s : Setup) where
  -- the last growth, or none, up to equal capacities
  stalls_still : (n : ℕ) (a b c : ℕ → ℕ) → GrowOutOfStalls s n a b → ((p : ℕ) → c p ≡ b p)
      → GrowOutOfStalls s n a c
  stalls_still zero a b c h same = λ p. same p ∙ h p
  stalls_still (suc n) a b c h same =
      let g = h.2 in (
        h.0,
        h.1,
        record {
          state = g.state;
          stuck = g.stuck;
          capacities = g.capacities;
          pipe = g.pipe;
          is_pipe = g.is_pipe;
          next = g.next;
          twice = same g.pipe ∙ g.twice;
          others = λ q ne. same q ∙ g.others q ne;
        },
      )

  stalls_then : (n m : ℕ) (a b c : ℕ → ℕ) → GrowOutOfStalls s n a b → GrowOutOfStalls s m b c
      → GrowOutOfStalls s (n + m) a c
  stalls_then n zero a b c h t =
      subst (λ (k : ℕ). GrowOutOfStalls s k a c) (let e : n ≡ n + 0 = omega arith in
      e) (stalls_still n a b c h t)
  stalls_then n (suc m) a b c h t =
      let both : GrowOutOfStalls s (suc (n + m)) a c = (t.0, stalls_then n m a b t.0 h t.1, t.2) in
      subst (λ (k : ℕ). GrowOutOfStalls s k a c) (let e : suc (n + m) ≡ n + suc m = omega arith in
      e) both

  -- growths out of stalls, and then more of them
  pub growths_then : (a b c : ℕ → ℕ) → (count : ℕ) × GrowOutOfStalls s count a b
      → (count : ℕ) × GrowOutOfStalls s count b c → (count : ℕ) × GrowOutOfStalls s count a c
  growths_then a b c h t = (h.0 + t.0, stalls_then h.0 t.0 a b c h.1 t.1)

module _ {M : Type 0} (shows : M → Shown) (s : Setup) (old mid new : Networked M)
    (files : FilesShown) (answers : List Step) (right : IsRight shows s mid files)
    (same : SameNetwork old mid) where
  -- the growth after a round is one out of a stall
  stall_growth : GrowsIfStuck shows s answers mid new files → StallGrowth s (rooms mid) (rooms new)
  stall_growth g =
      let grows = g.grows in
      record {
        state = network_state shows mid files;
        stuck = g.stuck;
        capacities = λ q is. refl;
        pipe = g.pipe;
        is_pipe = ⊎_elim
            (λ lt. omega (arith, lt, pipe_count s.graph mid right.graph))
            (λ past. let none : rooms mid g.pipe ≡ 0 = none_past mid g.pipe past in
            absurd (omega (arith, none, grows.some)))
            (cases_lt g.pipe (length mid.pipes));
        next = g.next;
        twice = grows.twice ∙ ap (λ (most : ℕ). grown most (rooms mid g.pipe)) right.most;
        others = λ q ne. ap (λ (w : Writing). w.capacity) ((grows.others q ne).0);
      }

  pub growths_of : (new ≡ mid) ⊎ GrowsIfStuck shows s answers mid new files
      → (count : ℕ) × GrowOutOfStalls s count (rooms old) (rooms new)
  growths_of = ⊎_elim
      (λ (e : new ≡ mid). (0, λ p. ap (λ (n : Networked M). rooms n p) e ∙ same.rooms p))
      (λ (g : GrowsIfStuck shows s answers mid new files).
      (1, (rooms mid, same.rooms, stall_growth g)))
