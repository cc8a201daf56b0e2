use Rattle.std.proofs.Common.{◌≢◌, ℕ, ◌+◌, ◌≤◌, ◌<◌, rules, Bool, sym, subst, refl, ◌∙◌}
use Rattle.std.proofs.lemmas.Bool.{false≢true}
use Rattle.splice_tee.specs.BranchStates.{served_at, NoOtherLacks}
use Rattle.splice_tee.specs.declared.branches.Served.TheVariants.{Lacks}
use Rattle.stages.specs.Outlets.{Putting}
use Rattle.stages.specs.inner.Moves.{Serves}
use Rattle.stages.proofs.lemmas.ServeLaws.{ServesUpTo, up_to_none, up_to_skipped, up_to_moved}
use Rattle.stages.proofs.lemmas.ServeLaws.{up_to_refused, all_skipped, last_refused, serves_more}
use Rattle.stages.proofs.lemmas.ServeLaws.{serves_same}
use Rattle.stages.proofs.outlet.Outlet.serve.Goals.{then-branch, else-branch, then-offer_last}
use Rattle.stages.proofs.outlet.Outlet.serve.Goals.{else-offer_last}
use Rattle.stages.proofs.outlet.Outlet.serve.Goals as goal

pub loop-k-init : goal.loop-k-init
loop-k-init c = record { up_to = up_to_none _; count = refl }

pub loop-k-preserved : goal.loop-k-preserved
loop-k-preserved c =
    let old = c.args.self.now in
    let mid = c.loop-k.self in
    let new = c.offer_to.new.self in
    let k = c.in-Some.k in
    let none : (j : ℕ) → c.loop-k.from ≤ j → j < k → served_at mid.served j ≢ Lacks =
    subst (λ (x : Putting). (j : ℕ) → c.loop-k.from ≤ j → j < k
    → served_at x.served j ≢ Lacks) c.self.view_is c.in-Some.ensures.first in
    let u : ServesUpTo k c.loop-k.moved old mid =
    up_to_skipped c.loop-k.from k c.loop-k.moved old mid c.in-Some.ensures.some.0 none
    c.loop-k.invariant.up_to in
    record {
      up_to =
          elim c.if-branch.branch [
            | then-branch w ↦ subst (λ (m : Bool). ServesUpTo (k + 1) m old new) (sym w.moved-is)
                (up_to_moved k c.loop-k.moved old mid new c.in_ok-offer_to.ensures.others
                c.in_ok-offer_to.ensures.front u
                (subst (λ (b : Bool). Serves b mid new) w.if-branch.true
                c.in_ok-offer_to.ensures.serves))
            | else-branch w ↦ subst (λ (m : Bool). ServesUpTo (k + 1) m old new) (sym w.moved-is)
                (up_to_refused k c.loop-k.moved old mid new c.in_ok-offer_to.ensures.others
                c.in_ok-offer_to.ensures.front
                (c.in_ok-offer_to.ensures.refused w.if-branch.false) u
                (subst (λ (b : Bool). Serves b mid new) w.if-branch.false
                c.in_ok-offer_to.ensures.serves))
          ];
      count = c.in_ok-offer_to.ensures.count ∙ c.loop-k.invariant.count;
    }

pub returns-clause-refused : goal.returns-clause-refused
returns-clause-refused c =
    λ still. all_skipped c.loop-k.from c.args.self.now c.loop-k.self
    (subst (λ (x : Putting). (j : ℕ) → c.loop-k.from ≤ j
    → served_at x.served j ≢ Lacks) c.self.view_is (c.in_default.ensures.none (search rules)))
    (subst (λ (m : Bool). ServesUpTo c.loop-k.from m c.args.self.now c.loop-k.self) still
    c.loop-k.invariant.up_to)

pub returns-then-no_other_lacks-clause-serves : goal.returns-then-no_other_lacks-clause-serves
returns-then-no_other_lacks-clause-serves c =
    let old = c.args.self.now in
    let mid = c.loop-k.self in
    let new = c.offer_last.new.self in
    elim c.if-offer_last.branch [
      | then-offer_last w ↦ subst (λ (b : Bool). Serves b old new)
          (sym (w.result-is ∙ w.if-offer_last.true))
          (serves_more c.loop-k.moved old mid new c.loop-k.invariant.up_to.serves
          (subst (λ (b : Bool). Serves b mid new) w.if-offer_last.true c.offer_last.ensures.serves))
      | else-offer_last w ↦ subst (λ (b : Bool). Serves b old new) (sym w.result-is)
          (serves_same c.loop-k.moved old mid new c.loop-k.invariant.up_to.serves
          (subst (λ (b : Bool). Serves b mid new) w.if-offer_last.false
          c.offer_last.ensures.serves))
    ]

pub returns-then-no_other_lacks-clause-refused : goal.returns-then-no_other_lacks-clause-refused
returns-then-no_other_lacks-clause-refused c =
    λ still.
    let old = c.args.self.now in
    let mid = c.loop-k.self in
    let k = c.in-Some.k in
    let none : (j : ℕ) → c.loop-k.from ≤ j → j < k → served_at mid.served j ≢ Lacks =
    subst (λ (x : Putting). (j : ℕ) → c.loop-k.from ≤ j → j < k
    → served_at x.served j ≢ Lacks) c.self.view_is c.in-Some.ensures.first in
    let alone : NoOtherLacks mid.served k =
    subst (λ (x : Putting). NoOtherLacks x.served k) c.self.view_is
    (c.no_other_lacks.ensures.none c.if-no_other_lacks.true) in
    let u : ServesUpTo k c.loop-k.moved old mid =
    up_to_skipped c.loop-k.from k c.loop-k.moved old mid c.in-Some.ensures.some.0 none
    c.loop-k.invariant.up_to in
    elim c.if-offer_last.branch [
      | then-offer_last w ↦ absurd (false≢true (sym still ∙ (w.result-is ∙ w.if-offer_last.true)))
      | else-offer_last w ↦ last_refused k old mid alone
          (c.offer_last.ensures.refused w.if-offer_last.false)
          (subst (λ (m : Bool). ServesUpTo k m old mid) (sym w.result-is ∙ still) u)
    ]
