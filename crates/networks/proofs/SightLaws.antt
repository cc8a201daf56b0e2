-- A look at a pipe of a network leaves it as it is, but for what the two ends have seen.
use Rattle.std.proofs.Common.{◌≡◌, ℕ, List, Some, ◌∙◌, sym, arith}
use Rattle.std.specs.Prelude.{slice_get}
use Rattle.std.proofs.lemmas.Option.{slice_get_within}
use Rattle.bounded_pipe.specs.Ends.{Beside}
use Rattle.bounded_pipe.specs.Events.{SameWriting, SameReading}
use Rattle.network_nodes.specs.declared.actor.Actor.{Actor}
use Rattle.network_nodes.specs.declared.actor.Link.{Link}
use Rattle.network_nodes.specs.inner.Actors.{out_pipes, in_pipes, out_end, in_end, out_at, in_at}
use Rattle.network_nodes.specs.inner.Actors.{actor_at, HasEnds, LooksAt}
use Rattle.networks.specs.Networks.{AreWired, AreEndsOf}
use Rattle.networks.specs.inner.Steps.{SeesMore, Sees}
use Rattle.networks.proofs.Same.{same_actor_trans}
use Rattle.network_laws.proofs.StepLaws.{same_writing_trans, same_reading_trans}
use Rattle.networks.proofs.StayLaws.{same_are_still, changed_beside, all_count, node_stays}
use Rattle.networks.proofs.StayLaws.{still_beside, stays_wired}

module _ {M : Type 0} where
  -- ---- a look at a pipe

  pub looked_beside : (old new : List (Actor M)) (l : Link) (has : HasEnds l old)
      (s : LooksAt l old new) → Beside (out_at new l) (in_at new l)
  looked_beside old new l has s =
      changed_beside SameWriting SameReading same_are_still old new l has s

  pub looked_sees : (old new : List (Actor M)) (l : Link) (has : HasEnds l old)
      (s : LooksAt l old new) (pipes : List Link) → AreWired old pipes → (p : ℕ)
      → slice_get pipes p ≡ Some l → Sees pipes old new
  looked_sees old new l has s pipes wired p is =
      record {
        count = all_count SameWriting SameReading same_are_still old new l has s pipes wired p is;
        nodes = node_stays SameWriting SameReading same_are_still old new l has s;
        beside = still_beside SameWriting SameReading same_are_still old new l has s pipes wired p
            is;
      }

  pub sees_trans : (a b c : Actor M) → SeesMore a b → SeesMore b c → SeesMore a c
  sees_trans a b c s t = record {
    same = same_actor_trans a b c s.same t.same;
    out_count = t.out_count ∙ s.out_count;
    in_count = t.in_count ∙ s.in_count;
    writing = λ k. same_writing_trans (out_end a k) (out_end b k) (out_end c k) (s.writing k)
        (t.writing k);
    reading = λ k. same_reading_trans (in_end a k) (in_end b k) (in_end c k) (s.reading k)
        (t.reading k);
    here = λ h. t.here (s.here h);
    file = λ files h. t.file files (s.file files h);
    part_is = λ shows files. t.part_is shows files ∙ s.part_is shows files;
    fits = λ shows s' files k node h. t.fits shows s' files k node (s.fits shows s' files k node h);
  }

  -- ---- what a look keeps

  pub all_see_trans : (pipes : List Link) (a b c : List (Actor M)) → Sees pipes a b → Sees pipes b c
      → Sees pipes a c
  all_see_trans pipes a b c s t = record {
    count = t.count ∙ s.count;
    nodes = λ k. sees_trans (actor_at a k) (actor_at b k) (actor_at c k) (s.nodes k) (t.nodes k);
    beside = λ p l e h. t.beside p l e (s.beside p l e h);
  }

  pub still_wired : (pipes : List Link) (a b : List (Actor M)) → Sees pipes a b → AreWired a pipes
      → AreWired b pipes
  still_wired pipes a b s wired =
      stays_wired SameWriting SameReading pipes a b s.count s.nodes wired

  pub still_ends : (pipes : List Link) (a b : List (Actor M)) → Sees pipes a b → AreEndsOf a pipes
      → AreEndsOf b pipes
  still_ends pipes a b s ends p l e =
      let w = s.nodes l.writer in
      let r = s.nodes l.reader in
      let sw = w.writing l.branch in
      let sr = r.reading l.input in
      sw.pipe ∙ (ends p l e ∙ sym sr.pipe)

  pub has_ends : (pipes : List Link) (a : List (Actor M)) → AreWired a pipes → AreEndsOf a pipes
      → (p : ℕ) (l : Link) → slice_get pipes p ≡ Some l → HasEnds l a
  has_ends pipes a wired ends p l e =
      let w = wired.placed p l e in
      let n = wired.numbered l.writer in
      let m = wired.numbered l.reader in
      record {
        order = w.order;
        within = w.within;
        branch =
            omega (
              arith,
              n.out_count,
              slice_get_within
                  (out_pipes (actor_at a l.writer)) l.branch p w.out,
            );
        input =
            omega (
              arith,
              m.in_count,
              slice_get_within
                  (in_pipes (actor_at a l.reader)) l.input p w.in_,
            );
        ends = ends p l e;
      }
