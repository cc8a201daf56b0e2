use Rattle.std.proofs.Common.{◌≡◌, ℕ, suc, ◌+◌, ◌≤◌, ◌∙◌, refl, sym, subst, arith}
use Rattle.networks.specs.declared.faults.FileFaults.{FileFaults}
use Rattle.networks.specs.Turns.{AreFaultsOf, AreRounds}
use Rattle.networks.specs.inner.KeptNetworks.{SpendsAll}
use Rattle.networks.proofs.FaultLaws.{faults_kept}
use Rattle.networks.proofs.Kept.{grown_keeps_refl, grown_keeps_trans}
use Rattle.networks.proofs.lemmas.SpentLaws.{spends_none, spends_then}
use Rattle.networks.proofs.network.Network.run_rounds.Goals as goal

pub loop-spent-init : goal.loop-spent-init
loop-spent-init g c =
    let shows = g.M.Machine.shows in
    let files = g.F.Files.shows c.args.files.now in
    record {
      opened = c.requires.opened;
      answers = c.requires.answers;
      faults = c.requires.faults;
      kept = refl;
      keeps = grown_keeps_refl shows c.args.self.now files;
      turns = λ s right. (refl, refl);
      spends = record {
        unfailed = c.requires.unfailed;
        sound = refl;
        further =
            λ s right. spends_none shows s c.args.self.now files;
      };
      reaches = λ before h. h;
      within = omega arith;
    }

pub loop-spent-preserved : goal.loop-spent-preserved
loop-spent-preserved g c =
    let shows = g.M.Machine.shows in
    let F = g.F.Files in
    let old = c.args.self.now in
    let mid = c.loop-spent.self in
    let new = c.round.new.self in
    let first = F.shows c.args.files.now in
    let files = F.shows c.loop-spent.files in
    let after = F.shows c.round.new.files in
    let turned = c.loop-spent.invariant in
    let keeps = turned.keeps in
    let spends = turned.spends in
    let round = c.round.ensures.round in
    let one = c.round.ensures.further c.in_default.is in
    let kept = c.round.ensures.kept c.in_default.is in
    record {
      opened = c.round.ensures.opened;
      answers = c.round.ensures.answers;
      faults =
          let keeps = round.keeps in
          subst (λ (f : FileFaults). AreFaultsOf new.nodes f) (sym kept)
          (faults_kept (λ had has. had ≤ has) mid new c.loop-spent.faults keeps.same
          turned.faults);
      kept = kept ∙ turned.kept;
      keeps = grown_keeps_trans shows old mid new first files after keeps round.keeps;
      turns = λ s right.
          subst (λ (n : ℕ). AreRounds shows s n old first new after)
          (let e : suc c.loop-spent.spent ≡ c.loop-spent.spent + 1 = omega arith in e)
          (mid, files, turned.turns s right, round.turn s (keeps.right s right));
      spends = record {
        unfailed = one.unfailed;
        sound = one.sound ∙ spends.sound;
        further = λ s right.
            let same = keeps.same in
            spends_then shows s c.loop-spent.spent 1 old mid new first files after same.most
            (spends.further s right) (one.further s (keeps.right s right));
      };
      reaches = λ before h. round.reaches before (turned.reaches before h);
      within = omega (arith, c.loop-spent-test.true);
    }

pub returns-in-Some-clause-keeps : goal.returns-in-Some-clause-keeps
returns-in-Some-clause-keeps g c =
    let F = g.F.Files in
    let turned = c.loop-spent.invariant in
    let round = c.round.ensures.round in
    grown_keeps_trans g.M.Machine.shows c.args.self.now c.loop-spent.self c.round.new.self
    (F.shows c.args.files.now) (F.shows c.loop-spent.files)
    (F.shows c.round.new.files) turned.keeps round.keeps

pub returns-in-Some-clause-outcome : goal.returns-in-Some-clause-outcome
returns-in-Some-clause-outcome g c =
    let turned = c.loop-spent.invariant in
    let keeps = turned.keeps in
    let spends = turned.spends in
    let over = c.in-Some.ensures.outcome in
    record {
      outcome_is = λ s right began faults reach. over.outcome_is s
          (keeps.right s right) began faults (turned.reaches began reach);
      ends = λ s right. over.ends s (keeps.right s right);
      sound = λ h. over.sound h ∙ spends.sound;
    }

pub returns-in-Some-clause-turns : goal.returns-in-Some-clause-turns
returns-in-Some-clause-turns g c = λ s right.
    let turned = c.loop-spent.invariant in
    let keeps = turned.keeps in
    let round = c.round.ensures.round in (
      suc c.loop-spent.spent,
      omega (arith, c.loop-spent-test.true),
      (
        c.loop-spent.self,
        g.F.Files.shows c.loop-spent.files,
        turned.turns s right,
        round.turn s (keeps.right s right),
      ),
    )

pub returns-clause-turns : goal.returns-clause-turns
returns-clause-turns g c =
    λ s right. (
      c.loop-spent.spent,
      c.loop-spent.invariant.within,
      c.loop-spent.invariant.turns s right,
    )

pub returns-clause-spent : goal.returns-clause-spent
returns-clause-spent g c =
    subst (λ (n : ℕ). SpendsAll g.M.Machine.shows n c.args.self.now
    (g.F.Files.shows c.args.files.now) c.loop-spent.self (g.F.Files.shows c.loop-spent.files))
    (let e : c.loop-spent.spent ≡ c.args.rounds =
    omega (arith, c.loop-spent.invariant.within, c.loop-spent-test.false) in
    e) c.loop-spent.invariant.spends
