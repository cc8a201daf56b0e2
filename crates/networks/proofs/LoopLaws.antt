-- Looks at one pipe after another.
use Rattle.std.proofs.Common.{◌≡◌, ℕ, ◌+◌, ◌<◌, List, Option, Some, get_or, length, ap, ◌∙◌, sym}
use Rattle.std.proofs.Common.{subst, arith, ⊎_elim}
use Rattle.std.specs.Prelude.{unwrap_or, slice_get, slice_index}
use Rattle.std.proofs.lemmas.Bool.{cases_lt}
use Rattle.std.proofs.lemmas.Option.{slice_get-get_or}
use Rattle.bounded_pipe.specs.Ends.{Beside}
use Rattle.network_nodes.specs.declared.actor.Actor.{Actor}
use Rattle.network_nodes.specs.declared.actor.Link.{Link}
use Rattle.network_nodes.specs.inner.Actors.{out_at, in_at, HasEnds, LooksAt}
use Rattle.networks.specs.Networks.{AreWired, AreEndsOf, AreWithin}
use Rattle.networks.specs.inner.Steps.{Sees}
use Rattle.networks.proofs.SightLaws.{all_see_trans, looked_sees, looked_beside, has_ends}
use Rattle.networks.proofs.SightLaws.{still_wired, still_ends}

module _ {M : Type 0} (pipes : List Link) (wires : List ℕ) (start now : List (Actor M))
    (wired : AreWired start pipes) (ends : AreEndsOf start pipes) (within : AreWithin pipes wires)
    (sees : Sees pipes start now) (i : ℕ) (lt : i < length wires) (d : Link) where
  abbrev here : Link
  here = get_or pipes (get_or wires i 0) d

  here_is : slice_get pipes (get_or wires i 0) ≡ Some here
  here_is = slice_get-get_or pipes (get_or wires i 0) d (within i lt)

  now_wired : AreWired now pipes
  now_wired = still_wired pipes start now sees wired

  pub ends_at : HasEnds here now
  ends_at = has_ends pipes now now_wired (still_ends pipes start now sees ends)
      (get_or wires i 0) here here_is

  module _ (each : (j : ℕ) → j < i → (m : Link) → slice_get pipes (slice_index wires j) ≡ Some m
      → Beside (out_at now m) (in_at now m)) (next : List (Actor M))
      (looks : LooksAt here now next) where
    step_sees : Sees pipes now next
    step_sees = looked_sees now next here ends_at looks pipes now_wired (get_or wires i 0) here_is

    each_more : (j : ℕ) → j < i + 1 → (m : Link) → slice_get pipes (slice_index wires j) ≡ Some m
        → Beside (out_at next m) (in_at next m)
    each_more j lj m e = ⊎_elim
        (λ l. step_sees.beside (slice_index wires j) m e (each j l m e))
        (λ g.
        let same : j ≡ i = omega arith in
        let here' : m ≡ here = ap (λ (o : Option Link). unwrap_or o here) (sym e
        ∙ (ap (λ (k : ℕ). slice_get pipes (slice_index wires k)) same ∙ here_is)) in
        subst (λ (k : Link). Beside (out_at next k) (in_at next k)) (sym here')
        (looked_beside now next here ends_at looks))
        (cases_lt j i)

    pub looked_more : record {
      sees : Sees pipes start next;
      each : (j : ℕ) → j < i + 1 → (m : Link)
          → slice_get pipes (slice_index wires j) ≡ Some m → Beside (out_at next m) (in_at next m);
    }
    looked_more = record {
      sees = all_see_trans pipes start now next sees step_sees;
      each =
          each_more;
    }

-- ---- looks at all pipes, by their numbers

module _ {M : Type 0} (pipes : List Link) (start now : List (Actor M))
    (wired : AreWired start pipes) (ends : AreEndsOf start pipes) (sees : Sees pipes start now)
    (i : ℕ) (lt : i < length pipes) (d : Link) where
  abbrev link : Link
  link = get_or pipes i d

  link_is : slice_get pipes i ≡ Some link
  link_is = slice_get-get_or pipes i d lt

  all_wired : AreWired now pipes
  all_wired = still_wired pipes start now sees wired

  pub ends_all : HasEnds link now
  ends_all = has_ends pipes now all_wired (still_ends pipes start now sees ends) i link link_is

  module _ (each : (q : ℕ) → q < i → (m : Link) → slice_get pipes q ≡ Some m
      → Beside (out_at now m) (in_at now m)) (next : List (Actor M))
      (looks : LooksAt link now next) where
    next_sees : Sees pipes now next
    next_sees = looked_sees now next link ends_all looks pipes all_wired i link_is

    next_each : (q : ℕ) → q < i + 1 → (m : Link) → slice_get pipes q ≡ Some m
        → Beside (out_at next m) (in_at next m)
    next_each q lq m e = ⊎_elim
        (λ l. next_sees.beside q m e (each q l m e))
        (λ g.
        let same : q ≡ i = omega arith in
        let here' : m ≡ link = ap (λ (o : Option Link). unwrap_or o link) (sym e
        ∙ (ap (λ (k : ℕ). slice_get pipes k) same ∙ link_is)) in
        subst (λ (k : Link). Beside (out_at next k) (in_at next k)) (sym here')
        (looked_beside now next link ends_all looks))
        (cases_lt q i)

    pub looked_all : record {
      sees : Sees pipes start next;
      each : (q : ℕ) → q < i + 1 → (m : Link)
          → slice_get pipes q ≡ Some m → Beside (out_at next m) (in_at next m);
    }
    looked_all = record {
      sees = all_see_trans pipes start now next sees next_sees;
      each =
          next_each;
    }
