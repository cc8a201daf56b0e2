use Rattle.std.proofs.Common.{◌≡◌, ℕ, length, [], inl, refl, ap, sym, subst, ◌∙◌, ⊎_elim, arith}
use Rattle.std.specs.Prelude.{IfSome}
use Rattle.network_laws.specs.Steps.{done_below}
use Rattle.collector.specs.Files.{FilesShown}
use Rattle.network_laws.specs.State.{Setup}
use Rattle.networks.specs.Networks.{GrownNetwork, IsRight, Networked, network_state}
use Rattle.networks.specs.inner.KeptNetworks.{EndsRounds, MakesRound, SpendsAll}
use Rattle.networks.proofs.EndLaws.{some_map, state_sound, stalled, stalled_ends, no_forest}
use Rattle.networks.proofs.EndLaws.{grew_if_stuck, kept_or}
use Rattle.networks.proofs.FaultLaws.{faults_kept}
use Rattle.networks.proofs.Kept.{kept_grown}
use Rattle.networks.proofs.Same.{grown_refl, same_grown, grown_trans}
use Rattle.networks.proofs.lemmas.RoundLaws.{IsStallEach, stall_each, progress_all, grew_or_kept}
use Rattle.networks.proofs.lemmas.SpentLaws.{growth_unfailed, spends_growth}
use Rattle.networks.proofs.lemmas.StallLaws.{growths_of}
use Rattle.networks.proofs.network.Network.round.Goals as goal

pub decide-requires-clause-faults : goal.decide-requires-clause-faults
decide-requires-clause-faults g c =
    let keeps = c.step_each.ensures.keeps in
    faults_kept (λ had has. has ≡ had) c.args.self.now c.step_each.new.self c.args.faults.now
    keeps.same c.requires.faults

pub returns-in-Further-clause-round : goal.returns-in-Further-clause-round
returns-in-Further-clause-round g c =
    let keeps = c.step_each.ensures.keeps in
    let same = keeps.same in
    record {
      keeps = kept_grown g.M.Machine.shows c.args.self.now c.step_each.new.self
          (g.F.Files.shows c.args.files.now) (g.F.Files.shows c.step_each.new.files) keeps;
      turn = λ s right. record {
        answers = c.step_each.new.answers;
        count = c.step_each.ensures.count ∙ same.count;
        stepped = c.step_each.new.self;
        steps = c.step_each.ensures.round s right;
        grown = inl refl;
      };
      reaches = c.step_each.ensures.reaches;
    }

pub returns-in-Further-clause-further : goal.returns-in-Further-clause-further
returns-in-Further-clause-further g c = λ none.
    let unfailed = c.in-Further.ensures.unfailed tt in
    record {
      unfailed = unfailed;
      sound = c.step_each.ensures.sound unfailed;
      further = λ s right.
          let before = g.F.Files.shows c.args.files.now in
          let after = g.F.Files.shows c.step_each.new.files in
          let old = network_state g.M.Machine.shows c.args.self.now before in
          let keeps = c.step_each.ensures.keeps in
          let same = keeps.same in
          let less = c.in-Further.ensures.further s after old before.failures (keeps.right s right)
          (c.step_each.ensures.round s right)
          (c.done-done.ensures before ∙ ap (λ (m : ℕ). done_below m old) (sym same.count)) in
          (0, same.rooms, omega (arith, less));
    }

pub returns-in-Over-clause-round : goal.returns-in-Over-clause-round
returns-in-Over-clause-round g c =
    let keeps = c.step_each.ensures.keeps in
    let same = keeps.same in
    record {
      keeps = kept_grown g.M.Machine.shows c.args.self.now c.step_each.new.self
          (g.F.Files.shows c.args.files.now) (g.F.Files.shows c.step_each.new.files) keeps;
      turn = λ s right. record {
        answers = c.step_each.new.answers;
        count = c.step_each.ensures.count ∙ same.count;
        stepped = c.step_each.new.self;
        steps = c.step_each.ensures.round s right;
        grown = inl refl;
      };
      reaches = c.step_each.ensures.reaches;
    }

pub returns-in-Over-clause-outcome : goal.returns-in-Over-clause-outcome
returns-in-Over-clause-outcome g c =
    let shows = g.M.Machine.shows in
    let first = g.F.Files.shows c.args.files.now in
    let files = g.F.Files.shows c.step_each.new.files in
    let old = network_state shows c.args.self.now first in
    let keeps = c.step_each.ensures.keeps in
    let same = keeps.same in
    record {
      outcome_is = λ s right began faults reach.
          c.in-Over.ensures.outcome s files old first.failures began faults (keeps.right s right)
          (c.step_each.ensures.round s right)
          (c.done-done.ensures first ∙ ap (λ (m : ℕ). done_below m old) (sym same.count))
          (state_sound shows first c.args.self.now
          (length c.step_each.new.self.nodes) same.count c.requires.unfailed) reach;
      ends = λ s right. c.in-Over.ensures.ends s files;
      sound = λ h. c.step_each.ensures.sound (c.in-Over.ensures.sound h);
    }

pub grow_or_stall-requires : goal.grow_or_stall-requires
grow_or_stall-requires g c =
    let first = g.F.Files.shows c.args.files.now in
    let state = network_state g.M.Machine.shows c.args.self.now first in
    let keeps = c.step_each.ensures.keeps in
    let same = keeps.same in
    let quiet = c.in-Quiet.ensures.quiet (g.F.Files.shows c.step_each.new.files) state
    (c.done-done.ensures first ∙ ap (λ (m : ℕ). done_below m state) (sym same.count)) in
    record { quiet = quiet.2 }

pub returns-in-Quiet-clause-round : goal.returns-in-Quiet-clause-round
returns-in-Quiet-clause-round g c =
    let shows = g.M.Machine.shows in
    let old = c.args.self.now in
    let mid = c.step_each.new.self in
    let new = c.grow_or_stall.new.self in
    let first = g.F.Files.shows c.args.files.now in
    let files = g.F.Files.shows c.step_each.new.files in
    let state = network_state shows old first in
    let keeps = c.step_each.ensures.keeps in
    let same = keeps.same in
    let grew = grew_or_kept shows mid new c.grow_or_stall.result c.grow_or_stall.ensures.kept
    c.grow_or_stall.ensures.grew in
    let grown : GrownNetwork mid new =
    ⊎_elim (λ e. subst (λ (n : Networked g.row.M.Denot). GrownNetwork mid n) (sym e)
    (grown_refl mid)) (λ h. let p = h.grows in p.network) grew in
    let quiet = c.in-Quiet.ensures.quiet files state (c.done-done.ensures first
    ∙ ap (λ (m : ℕ). done_below m state) (sym same.count)) in
    let turned = λ (s : Setup) (right : IsRight shows s old first).
    grew_if_stuck shows s mid files 0 [] (keeps.right s right) state first.failures
    c.step_each.new.answers (c.step_each.ensures.round s right) c.step_each.ensures.count
    (c.in-Quiet.ensures.unfailed tt) quiet.0 quiet.1 quiet.2 new grew in
    subst (λ (now : FilesShown). MakesRound shows old first new now)
    (sym c.grow_or_stall.ensures.files)
    record {
      keeps = record {
        same = grown_trans old mid new (same_grown old mid same) grown;
        growths = λ s right. growths_of shows s old mid new files c.step_each.new.answers
            (keeps.right s right) same (turned s right);
        forest = λ s right forest.
            absurd (no_forest shows s mid files 0 []
            (keeps.right s right) state first.failures c.step_each.new.answers
            (c.step_each.ensures.round s right) c.step_each.ensures.count
            (c.in-Quiet.ensures.unfailed tt) quiet.0 quiet.1 quiet.2 forest);
        right = λ s right. c.grow_or_stall.ensures.right s files (keeps.right s right);
        touches = keeps.touches;
      };
      turn = λ s right. record {
        answers = c.step_each.new.answers;
        count = c.step_each.ensures.count ∙ same.count;
        stepped = mid;
        steps = c.step_each.ensures.round s right;
        grown = turned s right;
      };
      reaches = c.step_each.ensures.reaches;
    }

pub returns-in-Quiet-clause-outcome : goal.returns-in-Quiet-clause-outcome
returns-in-Quiet-clause-outcome g c =
    let shows = g.M.Machine.shows in
    let old = c.args.self.now in
    let mid = c.step_each.new.self in
    let first = g.F.Files.shows c.args.files.now in
    let files = g.F.Files.shows c.step_each.new.files in
    let state = network_state shows old first in
    let keeps = c.step_each.ensures.keeps in
    let same = keeps.same in
    let unfailed = c.in-Quiet.ensures.unfailed tt in
    let quiet = c.in-Quiet.ensures.quiet files state (c.done-done.ensures first
    ∙ ap (λ (m : ℕ). done_below m state) (sym same.count)) in
    subst (λ (now : FilesShown). IfSome c.grow_or_stall.result
    (EndsRounds shows old first c.grow_or_stall.new.self now))
    (sym c.grow_or_stall.ensures.files)
    (kept_or (λ n o. EndsRounds shows old first n files o) mid c.grow_or_stall.new.self
    c.grow_or_stall.result c.grow_or_stall.ensures.kept
    (some_map (IsStallEach shows mid files c.step_each.new.answers)
    (EndsRounds shows old first mid files)
    (λ o h. record {
      outcome_is = λ s right began faults reach.
          let r = keeps.right s right in
          stalled shows s mid files began faults r state first.failures c.step_each.new.answers
          (c.step_each.ensures.round s right) c.step_each.ensures.count unfailed quiet.0 quiet.1
          quiet.2 o (h s r);
      ends = λ s right.
          let r = keeps.right s right in
          stalled_ends shows s mid files files.failures
          [] r state first.failures c.step_each.new.answers
          (c.step_each.ensures.round s right) c.step_each.ensures.count unfailed quiet.0 quiet.1
          quiet.2 o (h s r);
      sound = λ sound. c.step_each.ensures.sound unfailed;
    })
    c.grow_or_stall.result
    (stall_each shows mid files c.step_each.new.answers c.grow_or_stall.result
    (λ s right. c.grow_or_stall.ensures.stalled s files right))))

pub returns-in-Quiet-clause-further : goal.returns-in-Quiet-clause-further
returns-in-Quiet-clause-further g c = λ none.
    let shows = g.M.Machine.shows in
    let mid = c.step_each.new.self in
    let new = c.grow_or_stall.new.self in
    let before = g.F.Files.shows c.args.files.now in
    let after = g.F.Files.shows c.step_each.new.files in
    let grew = c.grow_or_stall.ensures.grew none in
    let keeps = c.step_each.ensures.keeps in
    let unfailed = c.in-Quiet.ensures.unfailed tt in
    subst (λ (files : FilesShown). SpendsAll shows 1 c.args.self.now before new files)
    (sym c.grow_or_stall.ensures.files)
    record {
      unfailed = growth_unfailed grew.pipe mid new grew.grows shows after unfailed;
      sound = c.step_each.ensures.sound unfailed;
      further = λ s right.
          spends_growth shows s c.args.self.now mid new before after keeps.same
          (progress_all s 0 (network_state shows c.args.self.now before)
          (network_state shows mid after) before.failures after.failures c.step_each.new.answers
          (c.step_each.ensures.round s right))
          grew.pipe grew.grows;
    }
